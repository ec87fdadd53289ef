-- The members that the walk counts are the points of the box in dictionary order that are in the set, each once.
use mathlib.Core.Path.{◌≡◌, refl, sym, ap, ap₂, ◌∙◌, subst}
use mathlib.Core.Bool.{Bool, true, false, cond}
use mathlib.Core.List.{List, [], ◌∷◌, ◌++◌, map, append_assoc, append-nil}
use Prim.Native.Nat.{ℕ, zero, suc, ◌<◌}
use lib.Dec.{T}
use lib.IntN.{ℤ, pos, ◌+ℤ◌}
use lib.ListN.{length, get_or}
use Rattle.model.specs.Lists.{all, cons_if, filter, All}
use Rattle.model.specs.Sets.{Set, in_set, well_formed}
use Rattle.model.proofs.Count.{from-T, to-T}
use Rattle.enumeration.specs.Search.{Interval, passes, width, upright}
use Rattle.enumeration.proofs.Walks.{In, passes-whole, Ready}
use Rattle.enumeration.proofs.Searched.{prefix-fails}
use Rattle.enumeration.specs.Counting.{Members, no_members, each_upward, members, members_in}
use Rattle.enumeration.specs.Points.{points_up, points_in}
use Rattle.enumeration.proofs.Points.{points-in, points-sorted, Sorted, sorted_filter, sorted-once, shut-points}

-- the points behind a prefix
abbrev under : List ℤ → List (List ℤ) → List (List ℤ)
under p ps = map (λ (z : List ℤ). p ++ z) ps

cons_if-append : (b : Bool) (a : List ℤ) (l m : List (List ℤ)) → cons_if b a (l ++ m) ≡ cons_if b a l ++ m
cons_if-append true a l m = refl
cons_if-append false a l m = refl

-- those behind p that have x next are those behind p and x
split : (f : List ℤ → Bool) (p : List ℤ) (x : ℤ) (ps rest : List (List ℤ))
    → filter f (under p (map (λ (z : List ℤ). x ∷ z) ps ++ rest)) ≡ filter f (under (p ++ (x ∷ [])) ps) ++ filter f (under p rest)
split f p x [] rest = refl
split f p x (z ∷ ps) rest =
    ap₂ (λ (q : List ℤ) (l : List (List ℤ)). cons_if (f q) q l) (sym (append_assoc p (x ∷ []) z)) (split f p x ps rest)
    ∙ cons_if-append (f (p ++ (x ∷ []) ++ z)) (p ++ (x ∷ []) ++ z) (filter f (under (p ++ (x ∷ [])) ps)) (filter f (under p rest))

under_none : (ps : List (List ℤ)) → under [] ps ≡ ps
under_none [] = refl
under_none (z ∷ ps) = ap (λ (l : List (List ℤ)). z ∷ l) (under_none ps)

module _ (s : Set) (formed : T (all well_formed s)) where
  -- none behind a prefix that fails
  none_below : (q : List ℤ) (bs : List Interval) → passes s q bs ≡ false → (ps : List (List ℤ)) → All (λ (zs : List ℤ). In zs bs) ps → filter (λ (x : List ℤ). in_set x s) (under q ps) ≡ []
  none_below q bs e [] h = refl
  none_below q bs e (z ∷ ps) h =
      ap₂ (λ (b : Bool) (l : List (List ℤ)). cons_if b (q ++ z) l) (not_in (in_set (q ++ z) s) refl) (none_below q bs e ps h.1)
    where
      not_in : (b : Bool) → in_set (q ++ z) s ≡ b → b ≡ false
      not_in true i = absurd (prefix-fails s formed q bs e z h.0 (to-T (in_set (q ++ z) s) i))
      not_in false i = refl

  module _ (p : List ℤ) (bs : List Interval)
      (ih : (x : ℤ) → T (passes s (p ++ (x ∷ [])) bs) → (members s (p ++ (x ∷ [])) bs).points ≡ filter (λ (y : List ℤ). in_set y s) (under (p ++ (x ∷ [])) (points_in bs))) where
    abbrev ok : ℤ → Bool
    ok x = passes s (p ++ (x ∷ [])) bs

    abbrev deeper : ℤ → Members
    deeper x = members s (p ++ (x ∷ [])) bs

    values : (k : ℕ) (x : ℤ) → (each_upward ok deeper k x).points ≡ filter (λ (y : List ℤ). in_set y s) (under p (points_up (points_in bs) k x))
    values zero x = refl
    values (suc k) x = by (ok x) refl (values k (x +ℤ pos 1))
      where
        by : (c : Bool) → ok x ≡ c → (each_upward ok deeper k (x +ℤ pos 1)).points ≡ filter (λ (y : List ℤ). in_set y s) (under p (points_up (points_in bs) k (x +ℤ pos 1)))
            → (each_upward ok deeper (suc k) x).points ≡ filter (λ (y : List ℤ). in_set y s) (under p (points_up (points_in bs) (suc k) x))
        by true e r =
            rw (e, each_upward)
            (ap₂ (λ (l m : List (List ℤ)). l ++ m) (ih x (to-T (ok x) e)) r ∙ sym (split (λ (y : List ℤ). in_set y s) p x (points_in bs) (points_up (points_in bs) k (x +ℤ pos 1))))
        by false e r =
            rw (e, each_upward)
            (r
            ∙ ap (λ (l : List (List ℤ)). l ++ filter (λ (y : List ℤ). in_set y s) (under p (points_up (points_in bs) k (x +ℤ pos 1)))) (sym (none_below (p ++ (x ∷ [])) bs e (points_in bs) (points-in bs)))
            ∙ sym (split (λ (y : List ℤ). in_set y s) p x (points_in bs) (points_up (points_in bs) k (x +ℤ pos 1))))

  ready : (bs : List Interval) (p : List ℤ) → T (passes s p bs) → Ready s p bs
  ready [] p t = subst T (passes-whole s p) t
  ready (b ∷ bs) p t = tt

  members-below : (bs : List Interval) (p : List ℤ) → Ready s p bs → (members s p bs).points ≡ filter (λ (x : List ℤ). in_set x s) (under p (points_in bs))
  unfolding members
  members-below [] p r =
      sym (ap (λ (q : List ℤ). filter (λ (x : List ℤ). in_set x s) (q ∷ [])) (append-nil p) ∙ ap (λ (b : Bool). cons_if b p []) (from-T (in_set p s) r))
  members-below (b ∷ bs) p r = values p bs (λ x t. members-below bs (p ++ (x ∷ [])) (ready bs (p ++ (x ∷ [])) t)) (width b) b.low

  module _ (b : Interval) (bs : List Interval) where
    -- the points of the box in dictionary order that are in the set
    pub members-are : (members s [] (b ∷ bs)).points ≡ filter (λ (x : List ℤ). in_set x s) (points_in (b ∷ bs))
    members-are = members-below (b ∷ bs) [] tt ∙ ap (filter (λ (x : List ℤ). in_set x s)) (under_none (points_in (b ∷ bs)))

    -- upside down or not
    pub counted-are : (members_in s (b ∷ bs)).points ≡ filter (λ (x : List ℤ). in_set x s) (points_in (b ∷ bs))
    counted-are = by (upright (b ∷ bs)) refl
      where
        by : (c : Bool) → upright (b ∷ bs) ≡ c → (cond c (members s [] (b ∷ bs)) no_members).points ≡ filter (λ (x : List ℤ). in_set x s) (points_in (b ∷ bs))
        by true e = members-are
        by false e = sym (ap (filter (λ (x : List ℤ). in_set x s)) (shut-points (b ∷ bs) e))

    pub members-sorted : Sorted (members_in s (b ∷ bs)).points
    members-sorted = subst Sorted (sym counted-are) (sorted_filter (λ (x : List ℤ). in_set x s) (points_in (b ∷ bs)) (points-sorted (b ∷ bs)))

    pub members-once : (i j : ℕ) → i < length (members_in s (b ∷ bs)).points → j < length (members_in s (b ∷ bs)).points
        → get_or (members_in s (b ∷ bs)).points i [] ≡ get_or (members_in s (b ∷ bs)).points j [] → i ≡ j
    members-once = sorted-once (members_in s (b ∷ bs)).points members-sorted
