-- The length of a result fits the host's number: a result is a set within all ranges again.
use mathlib.Core.Path.{◌≡◌, refl, ap, sym, subst}
use mathlib.Core.List.{List}
use Prim.Native.Nat.{ℕ}
use Rattle.std.specs.Prelude.{Result}
use Rattle.model.specs.Sets.{Set}
use Rattle.model.specs.declared.refusal.Refusal.{Refusal}
use Rattle.codec.specs.Bytes.{Answer, refused, gives, number}
use Rattle.codec.proofs.RoundTrips.{accepted-length}
use Rattle.algebra.specs.Result as R
use Rattle.algebra.specs.Result.{length_of}
use Rattle.algebra.proofs.Again.{Within}
use Rattle.results.specs.Outcome.{outcome_is}
use Rattle.answers.specs.Numbers.{Short}

short : (n : ℕ) (a : Answer (List ℕ)) → ((l : List ℕ) → a ≡ gives l → (s : Set) × Within n l s) → Short (length_of a)
short n (refused k) h = tt
short n (gives l) h = let w = h l refl in accepted-length n l w.1.bytes (ap number w.1.decoded)

pub short-of : (a : Answer (List ℕ)) (o : Result ℕ Refusal) {room : ℕ} {t : List ℕ} → R.Result room a (outcome_is o) t
    → (n : ℕ) → ((l : List ℕ) → a ≡ gives l → (s : Set) × Within n l s) → Short (outcome_is o)
short-of a o r n h = subst Short (sym r.answer) (short n a h)
