-- What the parts of a call are asked and say.
use Rattle.std.specs.Prelude.{◌≡◌, true, Result, Ok, Err, List, ℕ, ◌≤◌, ℤ, length, take}
use Rattle.model.specs.declared.refusal.Refusal.{Refusal}
use Rattle.model.specs.Refused.{number_of}
use Rattle.codec.specs.Bytes.{refused, gives, decode}
use Rattle.codec.specs.Places.{set_from}
use Rattle.enumeration.specs.Search.{limit_fits}
use Rattle.search.specs.Sides.{Boxed}
use Rattle.boxes.specs.Box.{outside, outside_bytes}
use Rattle.boxes.specs.Range.{range_bytes}

-- k is what every call on the set and the box is refused with
pub record Unfit (n : ℕ) (s : List ℕ) (ls hs : List ℤ) (k : ℕ) : Type 0 where
  pub outsides : (room : ℕ) → outside_bytes n room s ls hs ≡ refused k
  pub ranges : (room i j : ℕ) → range_bytes n room s ls hs i j ≡ refused k

-- that, or both are checked
abbrev pub Fitting : ℕ → List ℕ → List ℤ → List ℤ → Result (Unit {0}) Refusal → Type 0
Fitting n s ls hs (Ok x) = Boxed n s ls hs
Fitting n s ls hs (Err r) = Unfit n s ls hs (number_of r)

-- and with the limits of the two searches
pub record Asking (n : ℕ) (s : List ℕ) (ls hs : List ℤ) (i j : ℕ) : Type 0 where
  pub boxed : Boxed n s ls hs
  pub limit_inside : limit_fits i ≡ true
  pub limit_outside : limit_fits j ≡ true

abbrev pub Limited : ℕ → List ℕ → List ℤ → List ℤ → ℕ → ℕ → Result (Unit {0}) Refusal → Type 0
Limited n s ls hs i j (Ok x) = Asking n s ls hs i j
Limited n s ls hs i j (Err r) = (room : ℕ) → range_bytes n room s ls hs i j ≡ refused (number_of r)

-- the first l bytes of the table are the points outside
pub record Taken (n : ℕ) (s : List ℕ) (ls hs : List ℤ) (table : List ℕ) (l : ℕ) : Type 0 where
  pub inside : l ≤ length table
  pub decoded : decode n (take l table) ≡ gives (outside n ls hs (set_from s 0))
