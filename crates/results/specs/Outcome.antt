-- What a call answers (document 01, "Asking": the result's length, or the refusal's number).
use Rattle.std.specs.Prelude.{ℕ, Result}
use Rattle.model.specs.declared.refusal.Refusal.{Refusal}
use Rattle.codec.specs.Bytes.{Answer}
use Rattle.codec.specs.Refusing.{answer_is}

abbrev pub Outcome : Type 0
Outcome = Result ℕ Refusal

abbrev pub outcome_is : Outcome → Answer ℕ
outcome_is r = answer_is (λ l. l) r
