-- Of two sets, the first basic set that holds a point (document 01, "Asking").
use Rattle.std.specs.Prelude.{cond, List, [], ◌∷◌, ℕ, zero, suc, ℤ, take, Option, Some, None}
use Rattle.model.specs.Sets.{Set, in_basic}
use Rattle.codec.specs.Bytes.{Answer, refused, gives, decode}
use Rattle.query.specs.Member.{point_fits}

-- the number, counted from k, of the first basic set that holds x; 0: none does
abbrev pub first_holding : ℕ → List ℤ → Set → ℕ
first_holding k x [] = 0
first_holding k x (b ∷ s) = cond (in_basic x b) k (first_holding (suc k) x s)

-- a number from 1; 0 is no number
abbrev pub numbered : ℕ → Option ℕ
numbered zero = None
numbered (suc k) = Some (suc k)

pub data Table : Type 0 where
  first second : Table

-- basic set `number`, from 1, of one of two tables; number 0 is no basic set: the empty part of that table
pub record Holder : Type 0 where
  pub table : Table
  pub number : ℕ

abbrev pub nobody : Holder
nobody = record { table = first; number = 0 }

-- the first table before the second, the empty part of the first where neither has one
abbrev pub in_second : ℕ → Holder
in_second zero = nobody
in_second (suc k) = record { table = second; number = suc k }

abbrev pub in_either : ℕ → ℕ → Holder
in_either zero j = in_second j
in_either (suc k) j = record { table = first; number = suc k }

abbrev pub holder_of : ℕ → List ℤ → Set → Set → Holder
holder_of n x s t = cond (point_fits n x) (in_either (first_holding 1 (take n x) s) (first_holding 1 (take n x) t)) nobody

-- a bad input (the bytes of either table, the point): nobody
abbrev pub on_both : (Set → Set → Holder) → Answer Set → Answer Set → Holder
on_both f (refused m) t = nobody
on_both f (gives s) (refused m) = nobody
on_both f (gives s) (gives t) = f s t

unfoldable pub holder_bytes : ℕ → List ℕ → List ℕ → List ℤ → Holder
holder_bytes n a b x = on_both (holder_of n x) (decode n a) (decode n b)
