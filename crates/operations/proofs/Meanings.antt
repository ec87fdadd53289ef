-- What a call that is not refused leaves in its table (demand 3): the first bytes of the table, as many as the call answers, are a set within
-- all ranges, and a point, however large, is in it exactly when document 01 says so of the given sets. `Result` is the calls' contract.
use mathlib.Core.Path.{◌≡◌, sym, ap, ◌∙◌}
use mathlib.Core.Bool.{not, ◌&&◌, ◌||◌}
use mathlib.Core.List.{List}
use Prim.Native.Nat.{ℕ, ◌-◌}
use lib.ListN.{length, take, replicate}
use lib.Seq.{take_at}
use Rattle.model.specs.Sets.{Set}
use Rattle.codec.specs.Bytes.{Answer, refused, gives, decode}
use Rattle.codec.proofs.Decoded.{Bytes, no_way}
use Rattle.algebra.specs.Cut.{keeps, union, intersection, difference}
use Rattle.algebra.specs.Levels.{Disjoint}
use Rattle.algebra.specs.Operations.{union_bytes, intersection_bytes, difference_bytes, complement_bytes}
use Rattle.algebra.specs.Result.{Result}
use Rattle.algebra.proofs.Contracts.{Operation, union-bytes, intersection-bytes, difference-bytes, Complement, complement-bytes}
use Rattle.algebra.proofs.Levels.{Pieces, difference-pieces, complement-pieces}

-- the bytes that a call gives are the first of its table
pub given-bytes : {room l : ℕ} {table : List ℕ} (a : Answer (List ℕ)) → Result room a (gives l) table → a ≡ gives (take l table)
given-bytes (refused k) r = let e = r.answer in let z : ◌≡◌ {A = ℕ} 0 1 = cc in no_way z
given-bytes {room} {l} {table} (gives bs) r =
    let e : l ≡ length bs = same r.answer in ap gives (sym (ap (take l) r.bytes ∙ take_at bs (replicate (room - length bs) 0) l (sym e)))
  where
    same : {i j : ℕ} → ◌≡◌ {A = Answer ℕ} (gives i) (gives j) → i ≡ j
    same e = cc

module _ (n room l : ℕ) (a table : List ℕ) (pa : Bytes a) where
  module _ (b : List ℕ) (pb : Bytes b) where
    pub union-means : Result room (union_bytes n room a b) (gives l) table → Operation union ◌||◌ n a b (take l table)
    union-means r = union-bytes n room a b (take l table) pa pb (given-bytes (union_bytes n room a b) r)

    pub intersection-means : Result room (intersection_bytes n room a b) (gives l) table → Operation (intersection keeps) ◌&&◌ n a b (take l table)
    intersection-means r = intersection-bytes n room a b (take l table) pa pb (given-bytes (intersection_bytes n room a b) r)

    pub difference-means : Result room (difference_bytes n room a b) (gives l) table → Operation (difference keeps) (λ p q. p && not q) n a b (take l table)
    difference-means r = difference-bytes n room a b (take l table) pa pb (given-bytes (difference_bytes n room a b) r)

    -- the pieces of one basic set of the first set share no point
    pub difference-disjoint : Result room (difference_bytes n room a b) (gives l) table → Pieces n a b (take l table)
    difference-disjoint r = difference-pieces n room a b (take l table) pa pb (given-bytes (difference_bytes n room a b) r)

  pub complement-means : Result room (complement_bytes n room a) (gives l) table → Complement n a (take l table)
  complement-means r = complement-bytes n room a (take l table) pa (given-bytes (complement_bytes n room a) r)

  -- no two basic sets of a complement share a point
  pub complement-disjoint : Result room (complement_bytes n room a) (gives l) table
      → (s : Set) × (decode n (take l table) ≡ gives s) × Disjoint s
  complement-disjoint r = complement-pieces n room a (take l table) pa (given-bytes (complement_bytes n room a) r)
