-- Of the two functions: what is decoded is encoded to the bytes that were read, and what is encoded is decoded to what it was.
use mathlib.Core.Path.{◌≡◌, sym, ap, ◌∙◌}
use mathlib.Core.List.{List, [], ◌∷◌}
use Prim.Native.Nat.{ℕ, ◌+◌, ◌-◌, ◌<◌}
use native.Mathlib.Omega.{arith}
use lib.Dec.{T}
use lib.ListN.{length, take, drop}
use Rattle.model.specs.Sets.{BasicSet}
use Rattle.model.specs.Values.{basic_set_of}
use Rattle.model.specs.declared.BasicSet.{BasicSet as Value}
use Rattle.codec.specs.Bytes.{encode, axes_fit}
use Rattle.codec.specs.Places.{basic_at, end_of, Decoded, Boundary}
use Rattle.codec.proofs.Decoded.{Bytes}
use Rattle.codec.specs.Valid.{Valid}
use Rattle.codec.proofs.RoundTrips.{basic-bytes, encoded-decoded}
use Rattle.records.specs.Writing.{put, Emitted}
use Rattle.records.proofs.Emitting.{put-fresh}

-- what `encode_basic` writes of what `decode_basic` gave are the bytes that were read
pub decoded-encoded : (n : ℕ) (s : List ℕ) (at : ℕ) → Bytes s → Boundary n s at → at < length s → (v : Value) (o o' : List ℕ) (to end : ℕ) → Decoded s (at + 1) v
    → Emitted (encode (basic_set_of v ∷ [])) o to end o' → o' ≡ put to (take (end_of s (at + 1) - at) (drop at s)) o
decoded-encoded n s at p b h v o o' to end d w =
    w.bytes
    ∙ ap (λ (l : List ℕ). put to l o) (ap (λ (x : BasicSet). encode (x ∷ [])) d.basic ∙ sym (basic-bytes n s at p b h))

-- what `decode_basic` gives of what `encode_basic` wrote into a table of its own is the basic set
pub emitted-decoded : (n : ℕ) (v w : Value) (o o' : List ℕ) (end : ℕ) → T (axes_fit n) → Valid n (basic_set_of v) → Emitted (encode (basic_set_of v ∷ [])) o 0 end o' → length o ≡ end → Decoded o' 1 w → basic_set_of w ≡ basic_set_of v
emitted-decoded n v w o o' end a h e l d =
    let q : o' ≡ encode (basic_set_of v ∷ []) = e.bytes ∙ put-fresh (encode (basic_set_of v ∷ [])) o (let x = e.ends in omega arith) in
    d.basic ∙ ap (λ (x : List ℕ). basic_at x 1) q ∙ encoded-decoded n (basic_set_of v) a h
