-- The difference level by level (document 01, "Cutting rules": "each basic set of the first, in order, is cut by the second's first basic
-- set; then each piece is cut by the remaining basic sets of the second set in turn"): the pieces after one cutter all stand side by
-- side before the next one cuts them. `difference` of specs/Cut goes depth first; proofs/Levels has that list and refusal are the same.
use Rattle.std.specs.Prelude.{◌≡◌, Bool, true, ◌&&◌, List, [], ◌∷◌, ℕ, ◌≤◌, ◌<◌, T, ℤ, length, get_or, take}
use Rattle.model.specs.Limits.{most_axes}
use Rattle.model.specs.Lists.{all, concat_map}
use Rattle.model.specs.Sets.{BasicSet, Set, in_basic}
use Rattle.algebra.specs.Cut.{cut, cut_fits, size_fits}

-- "Two places in the list are two pieces, alike or not": no point, however large, is at two places
abbrev pub Disjoint : List BasicSet → Type 0
Disjoint ps =
    (x : List ℤ) → length x ≤ most_axes → (d : BasicSet) (i j : ℕ) → i < length ps → j < length ps
    → T (in_basic x (get_or ps i d)) → T (in_basic x (get_or ps j d)) → i ≡ j

module _ (keep : BasicSet → Bool) where
  -- what one cutter leaves of each of the pieces, in order
  abbrev pub cut_each : BasicSet → List BasicSet → List BasicSet
  cut_each c ps = concat_map (λ (p : BasicSet). cut keep p c) ps

  -- the pieces after every cutter in turn
  unfoldable pub cut_levels : List BasicSet → List BasicSet → List BasicSet
  cut_levels [] ps = ps
  cut_levels (c ∷ cs) ps = cut_levels cs (cut_each c ps)

  -- each cut on the way within its limits (refusal 10)
  unfoldable pub cut_levels_fit : List BasicSet → List BasicSet → Bool
  cut_levels_fit [] ps = true
  cut_levels_fit (c ∷ cs) ps = all (λ (p : BasicSet). cut_fits keep p c) ps && cut_levels_fit cs (cut_each c ps)

  -- "Pieces cut from one basic set are those left of it after the same cutter, the first or a later one": what k cutters
  -- of t leave of a
  abbrev pub pieces_after : ℕ → Set → BasicSet → List BasicSet
  pieces_after k t a = cut_levels (take k t) (a ∷ [])

  unfoldable pub difference_by_levels : Set → Set → Set
  difference_by_levels s t = cut_levels t s

  unfoldable pub difference_by_levels_fits : Set → Set → Bool
  difference_by_levels_fits s t = cut_levels_fit t s && size_fits keep (difference_by_levels s t)
