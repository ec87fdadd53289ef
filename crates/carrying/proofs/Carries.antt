-- A table carried over, row by row. Assumes nothing.
use mathlib.Core.Path.{◌≡◌, refl, sym, subst}
use mathlib.Core.List.{List, []}
use Prim.Native.Nat.{ℕ, ◌+◌, ◌<◌}
use native.Mathlib.Nat.{not-suc-le-zero}
use native.Mathlib.Omega.{arith}
use mathlib.Core.Bool.{Bool, true, false}
use mathlib.Core.Logic.{⊎_elim}
use borrow.Author.Tests.{eqb-true, eqb-false}
use lib.Dec.{eqb}
use lib.ListN.{length, get_or, set}
use lib.Seq.{get_or-set_same, get_or-set_other}
use Rattle.integers.specs.Part.{lt-or-le}
use Rattle.wide_tableau.specs.Cells.{Sheet}

-- the first k rows of a table are sheets
pub record Done (k : ℕ) (t : List (List ℕ)) : Type 0 where
  pub at : (i : ℕ) → i < k → Sheet (get_or t i [])

pub done_none : (t : List (List ℕ)) → Done 0 t
done_none t = record { at = λ i h. absurd (not-suc-le-zero h) }

pub done_next : (k : ℕ) (t : List (List ℕ)) (r : List ℕ) → k < length t → Done k t → Sheet r → Done (k + 1) (set t k r)
done_next k t r h d s = record { at = λ i l. at i l (eqb i k) refl }
  where
    at : (i : ℕ) → i < k + 1 → (b : Bool) → eqb i k ≡ b → Sheet (get_or (set t k r) i [])
    at i l true e = let q = eqb-true i k e in subst (λ (i : ℕ). Sheet (get_or (set t k r) i [])) (sym q) (subst Sheet (sym (get_or-set_same t k r [] h)) s)
    at i l false e =
        let q = eqb-false i k e in let w : i < k = lower i l q in
        subst Sheet (sym (get_or-set_other t k i r [] q)) (d.at i w)
      where
        lower : (i : ℕ) → i < k + 1 → (i ≡ k → ⊥) → i < k
        lower i l q = ⊎_elim (λ x. x) (λ x. absurd (q (omega arith))) (lt-or-le i k)
