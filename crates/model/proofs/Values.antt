-- Values of expressions and constraints at a point.
use mathlib.Core.Path.{◌≡◌, refl, ap, ap₂, ◌∙◌}
use mathlib.Core.Bool.{Bool, false}
use mathlib.Core.List.{List, [], ◌∷◌, ◌++◌, map}
use Prim.Native.Nat.{zero, suc}
use lib.Dec.{T, ltb, eqb→eq, eqb-suc-zero}
use lib.IntN.{ℤ, pos, negsuc, neg_ℤ, ◌+ℤ◌, ◌*ℤ◌}
use lib.Signed.{non_neg, ◌≤ℤ◌}
use lib.ListN.{length}
use Rattle.integers.specs.Ring.{ring, quote}
use Rattle.integers.specs.Order.{pos-nonneg}
use Rattle.model.specs.Lists.{all}
use Rattle.model.specs.Sets.{dot, Division, Constraint, is_zero, absent}
use Rattle.model.proofs.Count.{and_left, and_right}

pub dot-neg : (cs xs : List ℤ) → dot (map neg_ℤ cs) xs ≡ neg_ℤ (dot cs xs)
dot-neg [] xs = refl
dot-neg (c ∷ cs) [] = refl
dot-neg (c ∷ cs) (x ∷ xs) =
    ap (λ (z : ℤ). neg_ℤ c *ℤ x +ℤ z) (dot-neg cs xs)
    ∙ ring (c ∷ x ∷ dot cs xs ∷ []) (search quote depth 30) tt

pub dot-nil : (cs : List ℤ) → dot cs [] ≡ pos 0
dot-nil [] = refl
dot-nil (c ∷ cs) = refl

abbrev pub divides : Division → Bool
divides e = ltb 0 e.divisor

pub is_zero→ : (z : ℤ) → T (is_zero z) → z ≡ pos 0
is_zero→ (pos n) t = ap pos (eqb→eq n 0 t)
is_zero→ (negsuc n) t = absurd t

pub is_zero-no : (z : ℤ) → (z ≡ pos 0 → ⊥) → is_zero z ≡ false
is_zero-no (pos zero) f = absurd (f refl)
is_zero-no (pos (suc n)) f = eqb-suc-zero n
is_zero-no (negsuc n) f = refl

-- the coefficients of the divisions that are there
abbrev pub fits : List Division → Constraint → Bool
fits ds r = absent (length ds) r.divisions

pub nn : {z : ℤ} → T (non_neg z) → pos 0 ≤ℤ z
nn {z = pos n} t = pos-nonneg n
nn {z = negsuc n} t = absurd t

-- an absent division counts nothing
pub dot-absent : (cs us vs : List ℤ) → T (absent (length us) cs) → dot cs (us ++ vs) ≡ dot cs us
dot-absent [] us vs t = refl
dot-absent (c ∷ cs) [] vs t = dot-zero (c ∷ cs) vs t
  where
    dot-zero : (cs vs : List ℤ) → T (all is_zero cs) → dot cs vs ≡ pos 0
    dot-zero [] vs t = refl
    dot-zero (c ∷ cs) [] t = refl
    dot-zero (c ∷ cs) (w ∷ vs) t =
        ap₂ (λ (a b : ℤ). a *ℤ w +ℤ b) (is_zero→ c (and_left (is_zero c) (all is_zero cs) t)) (dot-zero cs vs (and_right (is_zero c) (all is_zero cs) t))
        ∙ ring (w ∷ []) (search quote depth 30) tt
dot-absent (c ∷ cs) (u ∷ us) vs t = ap (λ (z : ℤ). c *ℤ u +ℤ z) (dot-absent cs us vs t)
