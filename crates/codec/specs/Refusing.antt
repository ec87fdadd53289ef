-- A result of the code as an answer of the definitions: a refusal by its number, or what the value means.
use Rattle.std.specs.Prelude.{ℕ, Result, Ok, Err}
use Rattle.model.specs.declared.refusal.Refusal.{Refusal}
use Rattle.model.specs.Refused.{number_of}
use Rattle.codec.specs.Bytes.{Answer, refused, gives}

-- `number` is what number an error has
abbrev pub answer_by : {A B E : Type 0} → (E → ℕ) → (A → B) → Result A E → Answer B
answer_by number f (Ok x) = gives (f x)
answer_by number f (Err e) = refused (number e)

abbrev pub answer_is : {A B : Type 0} → (A → B) → Result A Refusal → Answer B
answer_is f r = answer_by number_of f r
