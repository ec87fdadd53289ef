-- A basic set that can hold over a part of a box can hold over the box.
use mathlib.Core.Path.{◌≡◌, refl, ap, ◌∙◌, subst}
use mathlib.Core.Bool.{Bool, true, false, ◌||◌, cond, or-true}
use mathlib.Core.List.{List, [], ◌∷◌, map}
use Prim.Native.Nat.{ℕ, zero, suc}
use lib.Dec.{T, ltb→lt}
use lib.IntN.{ℤ, pos, negsuc, neg_ℤ, ◌*ℤ◌}
use lib.Signed.{non_neg, le_z, ◌≤ℤ◌, yes_non_neg, ≤ℤ_refl}
use lib.ListN.{take, get_or, set}
use native.Mathlib.Omega.{arith}
use Rattle.integers.specs.Lin.{le, lin, lia-le}
use Rattle.integers.specs.Order.{≤ℤ-trans, add-le, mul-le-left, mul-le-right, pos-nonneg}
use Rattle.model.specs.Lists.{all, any}
use Rattle.model.specs.Sets.{Division, Kind, equality, inequality, Constraint, BasicSet, Set, well_formed}
use Rattle.model.proofs.Count.{and_left, and_right, and-make, from-T, to-T}
use Rattle.model.proofs.Values.{divides, fits, nn}
use Rattle.enumeration.specs.Search.{Interval, only, plus, times, dot_sides, quotient_side, value_side, can_meet, can_hold, box_of}
use Rattle.search.specs.Sides.{side}
use Rattle.enumeration.proofs.Walks.{floor-mono}

-- a side that reaches no lower and no higher than another. Its low may be over its high: what can hold over such a side holds all along it
pub record Part (s t : Interval) : Type 0 where
  pub low_end : t.low ≤ℤ s.low
  pub high_end : s.high ≤ℤ t.high

abbrev pub Parts : List Interval → List Interval → Type 0
Parts [] [] = Unit {0}
Parts [] (t ∷ ts) = ⊥
Parts (s ∷ ss) [] = ⊥
Parts (s ∷ ss) (t ∷ ts) = Part s t × Parts ss ts

part-self : (s : Interval) → Part s s
part-self s = record { low_end = ≤ℤ_refl s.low; high_end = ≤ℤ_refl s.high }

part-plus : (s s' t t' : Interval) → Part s t → Part s' t' → Part (plus s s') (plus t t')
part-plus s s' t t' h k = record { low_end = add-le h.low_end k.low_end; high_end = add-le h.high_end k.high_end }

part-times : (a : ℤ) (s t : Interval) → Part s t → Part (times a s) (times a t)
part-times a s t h = by (non_neg a) refl
  where
    below : (a : ℤ) → non_neg a ≡ false → pos 0 ≤ℤ neg_ℤ a
    below (pos n) e = absurd (subst T e tt)
    below (negsuc n) e = pos-nonneg (suc n)

    fall : (x y : ℤ) → non_neg a ≡ false → x ≤ℤ y → (a *ℤ y) ≤ℤ (a *ℤ x)
    fall x y e l = lia-le (a ∷ x ∷ y ∷ []) (le (mul-le-right (below a e) l) ∷ []) (search lin depth 30) (omega arith)

    by : (b : Bool) → non_neg a ≡ b
        → Part (record { low = a *ℤ cond b s.low s.high; high = a *ℤ cond b s.high s.low }) (record { low = a *ℤ cond b t.low t.high; high = a *ℤ cond b t.high t.low })
    by true e = let p : pos 0 ≤ℤ a = nn (to-T (non_neg a) e) in record { low_end = mul-le-left p h.low_end; high_end = mul-le-left p h.high_end }
    by false e = record { low_end = fall s.high t.high e h.high_end; high_end = fall t.low s.low e h.low_end }

part-dot : (cs : List ℤ) (ss ts : List Interval) → Parts ss ts → Part (dot_sides cs ss) (dot_sides cs ts)
part-dot [] ss ts h = part-self (only (pos 0))
part-dot (c ∷ cs) [] [] h = part-self (only (pos 0))
part-dot (c ∷ cs) [] (t ∷ ts) h = absurd h
part-dot (c ∷ cs) (s ∷ ss) [] h = absurd h
part-dot (c ∷ cs) (s ∷ ss) (t ∷ ts) h = part-plus (times c s) (dot_sides cs ss) (times c t) (dot_sides cs ts) (part-times c s t h.0) (part-dot cs ss ts h.1)

part-quotient : (ss ts : List Interval) (e : Division) → T (divides e) → Parts ss ts → Part (quotient_side ss e) (quotient_side ts e)
part-quotient ss ts e t h =
    let n = part-plus (only e.constant) (dot_sides e.axes ss) (only e.constant) (dot_sides e.axes ts) (part-self (only e.constant)) (part-dot e.axes ss ts h) in
    let d = ltb→lt 0 e.divisor t in
    record { low_end = floor-mono _ _ e.divisor d n.low_end; high_end = floor-mono _ _ e.divisor d n.high_end }

part-quotients : (ss ts : List Interval) (ds : List Division) → T (all divides ds) → Parts ss ts → Parts (map (quotient_side ss) ds) (map (quotient_side ts) ds)
part-quotients ss ts [] t h = tt
part-quotients ss ts (e ∷ ds) t h = (part-quotient ss ts e (and_left (divides e) (all divides ds) t) h, part-quotients ss ts ds (and_right (divides e) (all divides ds) t) h)

part-meet : (k : Kind) (s t : Interval) → Part s t → T (can_meet k s) → T (can_meet k t)
part-meet equality s t h u =
    let l : s.low ≤ℤ pos 0 = record { le = and_left (le_z s.low (pos 0)) (non_neg s.high) u } in
    and-make (le_z t.low (pos 0)) (non_neg t.high) (≤ℤ-trans h.low_end l).le (yes_non_neg (≤ℤ-trans (nn (and_right (le_z s.low (pos 0)) (non_neg s.high) u)) h.high_end))
part-meet inequality s t h u = yes_non_neg (≤ℤ-trans (nn u) h.high_end)

pub part-hold : (ss ts : List Interval) (b : BasicSet) → T (well_formed b) → Parts ss ts → T (can_hold ss b) → T (can_hold ts b)
part-hold ss ts b ok h t = go b.constraints t
  where
    can : List Interval → Constraint → Bool
    can xs r = can_meet r.kind (value_side xs (map (quotient_side xs) b.divisions) r)

    one : (r : Constraint) → T (can ss r) → T (can ts r)
    one r u =
        part-meet r.kind _ _
        (part-plus (only r.constant) (plus (dot_sides r.axes ss) (dot_sides r.divisions (map (quotient_side ss) b.divisions))) (only r.constant) (plus (dot_sides r.axes ts) (dot_sides r.divisions (map (quotient_side ts) b.divisions))) (part-self (only r.constant))
        (part-plus (dot_sides r.axes ss) (dot_sides r.divisions (map (quotient_side ss) b.divisions)) (dot_sides r.axes ts) (dot_sides r.divisions (map (quotient_side ts) b.divisions)) (part-dot r.axes ss ts h)
        (part-dot r.divisions (map (quotient_side ss) b.divisions) (map (quotient_side ts) b.divisions) (part-quotients ss ts b.divisions (and_left (all divides b.divisions) (all (fits b.divisions) b.constraints) ok) h)))) u

    go : (rs : List Constraint) → T (all (can ss) rs) → T (all (can ts) rs)
    go [] t = tt
    go (r ∷ rs) t = and-make (can ts r) (all (can ts) rs) (one r (and_left (can ss r) (all (can ss) rs) t)) (go rs (and_right (can ss r) (all (can ss) rs) t))

-- so a basic set that cannot hold over a box cannot over its part
pub part-dead : (ss ts : List Interval) (s : Set) → T (all well_formed s) → Parts ss ts → (i : ℕ) → get_or (map (can_hold ts) s) i false ≡ false → get_or (map (can_hold ss) s) i false ≡ false
part-dead ss ts [] ok h i e = e
part-dead ss ts (b ∷ s) ok h zero e = by (can_hold ss b) refl
  where
    by : (x : Bool) → can_hold ss b ≡ x → x ≡ false
    by false q = refl
    by true q = absurd (subst T e (part-hold ss ts b (and_left (well_formed b) (all well_formed s) ok) h (to-T (can_hold ss b) q)))
part-dead ss ts (b ∷ s) ok h (suc i) e = part-dead ss ts s (and_right (well_formed b) (all well_formed s) ok) h i e

-- and where one can over a part, one can over the box
pub part-any : (ss ts : List Interval) (s : Set) → T (all well_formed s) → Parts ss ts → any (can_hold ss) s ≡ true → any (can_hold ts) s ≡ true
part-any ss ts [] ok h e = e
part-any ss ts (b ∷ s) ok h e = by (can_hold ss b) refl e (part-any ss ts s (and_right (well_formed b) (all well_formed s) ok) h)
  where
    by : (x : Bool) → can_hold ss b ≡ x → (x || any (can_hold ss) s) ≡ true → (any (can_hold ss) s ≡ true → any (can_hold ts) s ≡ true) → (can_hold ts b || any (can_hold ts) s) ≡ true
    by true q z more = ap (λ (y : Bool). y || any (can_hold ts) s) (from-T (can_hold ts b) (part-hold ss ts b (and_left (well_formed b) (all well_formed s) ok) h (to-T (can_hold ss b) q)))
    by false q z more = ap (λ (y : Bool). can_hold ts b || y) (more z) ∙ or-true (can_hold ts b)

-- ---- a box with the side of one axis changed
parts_self : (u v : List ℤ) → Parts (box_of u v) (box_of u v)
parts_self [] v = tt
parts_self (x ∷ u) [] = tt
parts_self (x ∷ u) (y ∷ v) = (part-self (side x y), parts_self u v)

pub parts-set : (k : ℕ) (u v : List ℤ) (x y : ℤ) → get_or u k (pos 0) ≤ℤ x → y ≤ℤ get_or v k (pos 0) → Parts (box_of (set u k x) (set v k y)) (box_of u v)
parts-set k [] v x y l h = tt
parts-set zero (a ∷ u) [] x y l h = tt
parts-set (suc k) (a ∷ u) [] x y l h = tt
parts-set zero (a ∷ u) (b ∷ v) x y l h = (record { low_end = l; high_end = h }, parts_self u v)
parts-set (suc k) (a ∷ u) (b ∷ v) x y l h = (part-self (side a b), parts-set k u v x y l h)

pub parts-take : (n : ℕ) (ss ts : List Interval) → Parts ss ts → Parts (take n ss) (take n ts)
parts-take zero ss ts h = tt
parts-take (suc n) [] [] h = tt
parts-take (suc n) [] (t ∷ ts) h = absurd h
parts-take (suc n) (s ∷ ss) [] h = absurd h
parts-take (suc n) (s ∷ ss) (t ∷ ts) h = (h.0, parts-take n ss ts h.1)
