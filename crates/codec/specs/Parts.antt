-- A basic set as the very part of the lent table that holds it (document 01, "Asking").
use Rattle.std.specs.Prelude.{cond, ◌≡◌, List, ℕ, zero, suc, ltb, length, take, drop}
use Rattle.model.specs.Sets.{Set}
use Rattle.codec.specs.Bytes.{Answer, refused, gives, encode, decode}
use Rattle.codec.specs.Places.{set_from, Boundary}

-- where a part starts, and how many bytes it has
pub record Part : Type 0 where
  pub place : ℕ
  pub size : ℕ

-- the empty part at the table's start
abbrev pub nowhere : Part
nowhere = record { place = 0; size = 0 }

-- the part of basic set number i, the first being 0: the bytes of the earlier ones come before it
abbrev pub part_at : Set → ℕ → Part
part_at s i = record { place = length (encode (take i s)); size = length (encode (take 1 (drop i s))) }

-- the part of basic set number k, from 1: nowhere where there is none or the bytes are refused
abbrev pub part_in : Answer Set → ℕ → Part
part_in (refused m) k = nowhere
part_in (gives s) zero = nowhere
part_in (gives s) (suc i) = cond (ltb i (length s)) (part_at s i) nowhere

unfoldable pub part_of : ℕ → List ℕ → ℕ → Part
part_of n s k = part_in (decode n s) k

-- what stands there
abbrev pub held : Part → List ℕ → List ℕ
held p s = take p.size (drop p.place s)

-- r is the place of basic set number i of checked bytes, the first being 0, or the end where there are fewer
pub record Started (s : List ℕ) (i r : ℕ) : Type 0 where
  pub n : ℕ
  pub there : Boundary n s r
  pub set : set_from s r ≡ drop i (set_from s 0)
  pub place : r ≡ length (encode (take i (set_from s 0)))
