-- What a refusal of the code says of the answer that it stands for.
use Rattle.std.proofs.Common.{◌≡◌, sym, ap}
use Rattle.model.specs.declared.refusal.Refusal.{Refusal}
use Rattle.model.specs.Refused.{number_of}
use Rattle.model.proofs.Refused.{number-some}
use Rattle.codec.specs.Bytes.{Answer, refused, gives, number}

-- an answer with the number of a refusal is that refusal
pub refused-by : {A : Type 0} (r : Refusal) (a : Answer A) → number_of r ≡ number a → a ≡ refused (number_of r)
refused-by r (refused m) h = ap refused (sym h)
refused-by r (gives x) h = absurd (number-some r h)
