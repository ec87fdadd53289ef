-- Rows as equations: an exchange keeps the solutions.
use mathlib.Core.Path.{◌≡◌, refl, sym, ap, ap₂, ◌∙◌, subst}
use mathlib.Core.List.{List, [], ◌∷◌, map}
use Prim.Native.Nat.{ℕ, zero, suc, ◌<◌}
use native.Mathlib.Nat.{le_of_suc-le-suc, not-suc-le-zero}
use lib.IntN.{ℤ, pos, neg_ℤ, ◌+ℤ◌, ◌-ℤ◌, ◌*ℤ◌}
use lib.ListN.{length-map, length, get_or, set}
use Rattle.integers.specs.Ring.{ring, quote}
use Rattle.model.specs.Sets.{dot}
use Rattle.feasibility.specs.Tableau.{combine}
use Rattle.model.proofs.Values.{dot-neg}
use Rattle.model.proofs.Count.{suc_inj, no-suc}

-- ---- dot under a store and a combination

pub dot-set : (cs vs : List ℤ) (k : ℕ) (c v : ℤ) → k < length cs → k < length vs
    → dot (set cs k c) (set vs k v) ≡ dot cs vs +ℤ (c *ℤ v -ℤ get_or cs k (pos 0) *ℤ get_or vs k (pos 0))
dot-set [] vs k c v h i = absurd (not-suc-le-zero h)
dot-set (a ∷ cs) [] k c v h i = absurd (not-suc-le-zero i)
dot-set (a ∷ cs) (b ∷ vs) zero c v h i = ring (a ∷ b ∷ c ∷ v ∷ dot cs vs ∷ []) (search quote depth 30) tt
dot-set (a ∷ cs) (b ∷ vs) (suc k) c v h i =
    ap (λ (z : ℤ). a *ℤ b +ℤ z) (dot-set cs vs k c v (le_of_suc-le-suc h) (le_of_suc-le-suc i))
    ∙ ring (a ∷ b ∷ c ∷ v ∷ dot cs vs ∷ get_or cs k (pos 0) ∷ get_or vs k (pos 0) ∷ []) (search quote depth 30) tt

pub dot-combine : (p q : ℤ) (us vs xs : List ℤ) → length us ≡ length vs → dot (combine p q us vs) xs ≡ p *ℤ dot us xs -ℤ q *ℤ dot vs xs
dot-combine p q [] [] xs e = ring (p ∷ q ∷ []) (search quote depth 30) tt
dot-combine p q [] (v ∷ vs) xs e = no-suc (sym e)
dot-combine p q (u ∷ us) [] xs e = no-suc e
dot-combine p q (u ∷ us) (v ∷ vs) [] e = ring (p ∷ q ∷ []) (search quote depth 30) tt
dot-combine p q (u ∷ us) (v ∷ vs) (x ∷ xs) e =
    ap (λ (z : ℤ). (p *ℤ u -ℤ q *ℤ v) *ℤ x +ℤ z) (dot-combine p q us vs xs (suc_inj e))
    ∙ ring (p ∷ q ∷ u ∷ v ∷ x ∷ dot us xs ∷ dot vs xs ∷ []) (search quote depth 30) tt

pub get_or-combine : (p q : ℤ) (us vs : List ℤ) (k : ℕ) → length us ≡ length vs → get_or (combine p q us vs) k (pos 0) ≡ p *ℤ get_or us k (pos 0) -ℤ q *ℤ get_or vs k (pos 0)
get_or-combine p q [] [] k e = ring (p ∷ q ∷ []) (search quote depth 30) tt
get_or-combine p q [] (v ∷ vs) k e = no-suc (sym e)
get_or-combine p q (u ∷ us) [] k e = no-suc e
get_or-combine p q (u ∷ us) (v ∷ vs) zero e = refl
get_or-combine p q (u ∷ us) (v ∷ vs) (suc k) e = get_or-combine p q us vs k (suc_inj e)

pub length-combine : (p q : ℤ) (us vs : List ℤ) → length us ≡ length vs → length (combine p q us vs) ≡ length us
length-combine p q [] [] e = refl
length-combine p q [] (v ∷ vs) e = no-suc (sym e)
length-combine p q (u ∷ us) [] e = no-suc e
length-combine p q (u ∷ us) (v ∷ vs) e = ap suc (length-combine p q us vs (suc_inj e))

pub get_or-neg : (us : List ℤ) (k : ℕ) → get_or (map neg_ℤ us) k (pos 0) ≡ neg_ℤ (get_or us k (pos 0))
get_or-neg [] k = refl
get_or-neg (u ∷ us) zero = refl
get_or-neg (u ∷ us) (suc k) = get_or-neg us k

-- ---- a row's equation, as what is left over

-- den · value − nums · columns, where ws is the denominator and then the columns' numerators
abbrev pub rest : ℤ → List ℤ → ℤ → List ℤ → ℤ
rest den nums w ws = den *ℤ w -ℤ dot nums ws

module _ (j : ℕ) (ws : List ℤ) (jin : suc j < length ws) (den : ℤ) (nums : List ℤ) (w : ℤ) (len : length nums ≡ length ws) where
  abbrev pub p : ℤ
  p = get_or nums (suc j) (pos 0)

  abbrev pub v : ℤ
  v = get_or ws (suc j) (pos 0)

  -- the row solved for column j
  pub solved-rest : rest p (set (map neg_ℤ nums) (suc j) den) v (set ws (suc j) w) ≡ neg_ℤ (rest den nums w ws)
  solved-rest =
      ap (λ (z : ℤ). p *ℤ v -ℤ z)
      (dot-set (map neg_ℤ nums) ws (suc j) den w (subst (λ (n : ℕ). suc j < n) (sym (length-map nums neg_ℤ ∙ len)) jin) jin
      ∙ ap₂ (λ (a b : ℤ). a +ℤ (den *ℤ w -ℤ b *ℤ v)) (dot-neg nums ws) (get_or-neg nums (suc j)))
      ∙ ring (p ∷ v ∷ den ∷ w ∷ dot nums ws ∷ []) (search quote depth 30) tt

  -- another row, with column j replaced
  pub replaced-rest : (den' : ℤ) (nums' : List ℤ) (w' : ℤ) → length nums' ≡ length nums
      → rest (p *ℤ den') (set (combine p (get_or nums' (suc j) (pos 0)) nums' nums) (suc j) (get_or nums' (suc j) (pos 0) *ℤ den)) w' (set ws (suc j) w)
      ≡ p *ℤ rest den' nums' w' ws -ℤ get_or nums' (suc j) (pos 0) *ℤ rest den nums w ws
  replaced-rest den' nums' w' len' =
      let a : ℤ = get_or nums' (suc j) (pos 0) in
      let c : List ℤ = combine p a nums' nums in
      ap (λ (z : ℤ). p *ℤ den' *ℤ w' -ℤ z)
      (dot-set c ws (suc j) (a *ℤ den) w (subst (λ (n : ℕ). suc j < n) (sym (length-combine p a nums' nums len' ∙ len' ∙ len)) jin) jin
      ∙ ap₂ (λ (d b : ℤ). d +ℤ (a *ℤ den *ℤ w -ℤ b *ℤ v)) (dot-combine p a nums' nums ws len') (get_or-combine p a nums' nums (suc j) len'))
      ∙ ring (p ∷ v ∷ den ∷ w ∷ dot nums ws ∷ get_or nums' (suc j) (pos 0) ∷ den' ∷ w' ∷ dot nums' ws ∷ []) (search quote depth 40) tt
