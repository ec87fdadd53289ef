-- A row's numbers taken over into words of one. Assumes nothing.
use mathlib.Core.Path.{◌≡◌, refl, sym, ap, ◌∙◌, subst}
use mathlib.Core.Bool.{Bool, true, false}
use mathlib.Core.List.{List}
use mathlib.Core.Logic.{⊎_elim}
use Prim.Native.Nat.{ℕ, zero, suc, ◌+◌, ◌≤◌, ◌<◌, zero-le}
use native.Mathlib.Omega.{arith}
use borrow.Author.Tests.{eqb-true, eqb-false}
use lib.Dec.{eqb}
use lib.IntN.{ℤ, pos}
use lib.ListN.{length, get_or, set, replicate, length-set}
use lib.Seq.{ext_get_or, get_or-set_same, get_or-set_other}
use Rattle.integers.specs.Part.{lt-or-le}
use Rattle.integers.specs.Z.{Within}
use Rattle.integers.specs.Size.{bound}
use Rattle.tableau.specs.Rows.{Line}
use Rattle.wide_tableau.specs.Cells.{Narrows}

-- the first i of them
pub record Narrowing (l s : List ℤ) (i : ℕ) : Type 0 where
  pub long : length s ≡ 18
  pub same : (k : ℕ) → k < i → get_or s k (pos 0) ≡ get_or l k (pos 0)
  pub none : (k : ℕ) → i ≤ k → get_or s k (pos 0) ≡ pos 0
  pub small : (k : ℕ) → k < i → Within (bound 64) (get_or l k (pos 0))

zeros-at : (m k : ℕ) → get_or (replicate m (pos 0)) k (pos 0) ≡ pos 0
zeros-at zero zero = refl
zeros-at zero (suc k) = refl
zeros-at (suc m) zero = refl
zeros-at (suc m) (suc k) = zeros-at m k

pub narrowing-start : (l : List ℤ) → Narrowing l (replicate 18 (pos 0)) 0
narrowing-start l = record { long = refl; same = λ k h. absurd (omega arith); none = λ k h. zeros-at 18 k; small = λ k h. absurd (omega arith) }

module _ (l s : List ℤ) (i : ℕ) (g : Narrowing l s i) where
  pub narrowing-next : i < 18 → Within (bound 64) (get_or l i (pos 0)) → (z : ℤ) → z ≡ get_or l i (pos 0) → Narrowing l (set s i z) (i + 1)
  narrowing-next h w z e =
      let q = g.long in
      record {
        long = length-set s i z ∙ q;
        same = λ k o. same k o (eqb k i) refl;
        none = λ k o. get_or-set_other s i k z (pos 0) (λ x. omega arith) ∙ g.none k (omega arith);
        small = λ k o. small k o (eqb k i) refl;
      }
    where
      same : (k : ℕ) → k < i + 1 → (b : Bool) → eqb k i ≡ b → get_or (set s i z) k (pos 0) ≡ get_or l k (pos 0)
      same k o true y =
          let x = eqb-true k i y in let q = g.long in
          ap (λ (j : ℕ). get_or (set s i z) j (pos 0)) x ∙ get_or-set_same s i z (pos 0) (omega arith) ∙ e ∙ ap (λ (j : ℕ). get_or l j (pos 0)) (sym x)
      same k o false y = let x = eqb-false k i y in get_or-set_other s i k z (pos 0) x ∙ g.same k (below k o x)
        where
          below : (k : ℕ) → k < i + 1 → (k ≡ i → ⊥) → k < i
          below k o x = ⊎_elim (λ u. u) (λ u. absurd (x (omega arith))) (lt-or-le k i)

      small : (k : ℕ) → k < i + 1 → (b : Bool) → eqb k i ≡ b → Within (bound 64) (get_or l k (pos 0))
      small k o true y = subst (λ (j : ℕ). Within (bound 64) (get_or l j (pos 0))) (sym (eqb-true k i y)) w
      small k o false y = let x = eqb-false k i y in g.small k (below k o x)
        where
          below : (k : ℕ) → k < i + 1 → (k ≡ i → ⊥) → k < i
          below k o x = ⊎_elim (λ u. u) (λ u. absurd (x (omega arith))) (lt-or-le k i)

  pub narrowing-end : (n : ℕ) → Line n l → n ≤ i → Narrows l s
  narrowing-end n r h =
      record {
        is = ext_get_or (pos 0) s l (g.long ∙ sym r.long) (λ k o. ⊎_elim (g.same k) (λ u. g.none k u ∙ sym (r.blank k (omega arith))) (lt-or-le k i));
        small = λ k. ⊎_elim (g.small k) (λ u. subst (Within (bound 64)) (sym (r.blank k (omega arith))) (record { size = zero-le })) (lt-or-le k i);
      }
