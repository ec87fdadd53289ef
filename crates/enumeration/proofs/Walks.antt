-- The first-point search: none only where the box has no point, and a point found is the first of the box in dictionary order.
use mathlib.Core.Path.{◌≡◌, refl, sym, ap, ap₂, ◌∙◌, subst}
use mathlib.Core.Bool.{Bool, true, false, ◌&&◌, ◌||◌, cond}
use mathlib.Core.List.{List, [], ◌∷◌, ◌++◌, map, append_assoc, append-nil}
use mathlib.Core.Logic.{◌≢◌, ◌⊎◌, inl, inr}
use mathlib.Core.Option.{Option, none, some}
use Prim.Native.Nat.{ℕ, zero, suc, ◌≤◌, ◌<◌, suc-le-suc}
use native.Mathlib.Nat.{le_of_suc-le-suc, not-suc-le-zero, zero-lt-suc, le_refl}
use native.Mathlib.Omega.{arith}
use lib.Dec.{T, leb, leb→le, le→leb, lt→ltb, ltb→lt, leb-suc-zero, eqb-suc-zero}
use lib.IntN.{ℤ, pos, negsuc, neg_ℤ, nat_abs, ◌+ℤ◌, ◌-ℤ◌, ◌*ℤ◌, +ℤ_assoc, +ℤ_idr}
use lib.Signed.{non_neg, le_z, ◌≤ℤ◌, ◌<ℤ◌, yes_non_neg}
use Rattle.integers.specs.Ring.{ring, quote}
use Rattle.integers.specs.Lin.{le, lt, eq, lin, lia-le, lia-lt, lia-eq}
use Rattle.integers.specs.Order.{mul-le-right, sub-nonneg, ≤ℤ-trans, <ℤ-≤ℤ, lt-of-mul-lt, pos-nonneg}
use Rattle.integers.specs.Div.{floor_z-is}
use Rattle.integers.specs.Size.{nat_abs-nonneg}
use Rattle.model.specs.Lists.{all, any}
use Rattle.model.specs.Sets.{dot, floor_div, Division, Kind, equality, inequality, Constraint, BasicSet, Set, meets, value, holds, quotient, quotients, in_constraints, in_basic, in_set, well_formed}
use Rattle.enumeration.specs.Search.{Interval, only, plus, times, dot_sides, quotient_side, value_side, can_meet, can_hold, passes, Walk, or_else, upward, width, walk, Found, at, nothing, spent, Tallied, found_of, first_point}
use Rattle.model.proofs.Count.{and_left, and_right, and-make, from-T, to-T}
use Rattle.model.proofs.Values.{is_zero→, divides, fits, nn}

-- ---- values over sides

pub record Inside (z : ℤ) (s : Interval) : Type 0 where
  pub lo : s.low ≤ℤ z
  pub hi : z ≤ℤ s.high

-- a point of a box
abbrev pub In : List ℤ → List Interval → Type 0
In [] [] = Unit {0}
In [] (s ∷ ss) = ⊥
In (z ∷ zs) [] = ⊥
In (z ∷ zs) (s ∷ ss) = Inside z s × In zs ss

pub self : (z : ℤ) → Inside z (only z)
self z = record { lo = lib.Signed.≤ℤ_refl z; hi = lib.Signed.≤ℤ_refl z }

pub plus-in : (y z : ℤ) (s t : Interval) → Inside y s → Inside z t → Inside (y +ℤ z) (plus s t)
plus-in y z s t h k = record { lo = Rattle.integers.specs.Order.add-le h.lo k.lo; hi = Rattle.integers.specs.Order.add-le h.hi k.hi }

pub times-in : (a z : ℤ) (s : Interval) → Inside z s → Inside (a *ℤ z) (times a s)
times-in a z s h = by (non_neg a) refl
  where
    by : (b : Bool) → non_neg a ≡ b → Inside (a *ℤ z) (record { low = a *ℤ cond b s.low s.high; high = a *ℤ cond b s.high s.low })
    by true e =
        let p : pos 0 ≤ℤ a = nn (to-T (non_neg a) e) in
        record {
          lo = lia-le (a ∷ z ∷ s.low ∷ []) (le (mul-le-right p h.lo) ∷ []) (search lin depth 30) (omega arith);
          hi = lia-le (a ∷ z ∷ s.high ∷ []) (le (mul-le-right p h.hi) ∷ []) (search lin depth 30) (omega arith);
        }
    by false e =
        let p : pos 0 ≤ℤ neg_ℤ a = below a e in
        record {
          lo = lia-le (a ∷ z ∷ s.high ∷ []) (le (mul-le-right p h.hi) ∷ []) (search lin depth 30) (omega arith);
          hi = lia-le (a ∷ z ∷ s.low ∷ []) (le (mul-le-right p h.lo) ∷ []) (search lin depth 30) (omega arith);
        }
      where
        below : (a : ℤ) → non_neg a ≡ false → pos 0 ≤ℤ neg_ℤ a
        below (pos n) e = absurd (subst T e tt)
        below (negsuc n) e = pos-nonneg (suc n)

dot-in : (cs zs : List ℤ) (ss : List Interval) → In zs ss → Inside (dot cs zs) (dot_sides cs ss)
dot-in [] [] ss h = self (pos 0)
dot-in [] (z ∷ zs) ss h = self (pos 0)
dot-in (c ∷ cs) [] [] h = self (pos 0)
dot-in (c ∷ cs) [] (s ∷ ss) h = absurd h
dot-in (c ∷ cs) (z ∷ zs) [] h = absurd h
dot-in (c ∷ cs) (z ∷ zs) (s ∷ ss) h = plus-in (c *ℤ z) (dot cs zs) (times c s) (dot_sides cs ss) (times-in c z s h.0) (dot-in cs zs ss h.1)

pub floor-mono : (m n : ℤ) (d : ℕ) → 0 < d → m ≤ℤ n → floor_div m d ≤ℤ floor_div n d
floor-mono m n d h k =
    let p : pos 0 <ℤ pos d = record { lt = lt→ltb 0 d h } in
    let f = floor_z-is m {d = pos d} p in
    let g = floor_z-is n {d = pos d} p in
    let l : floor_div m d <ℤ (floor_div n d +ℤ pos 1) = lt-of-mul-lt (<ℤ-≤ℤ p) (lia-lt (m ∷ n ∷ pos d ∷ floor_div m d ∷ floor_div n d ∷ []) (le f.low ∷ lt g.high ∷ le k ∷ []) (search lin depth 30) (omega arith)) in
    lia-le (floor_div m d ∷ floor_div n d ∷ []) (lt l ∷ []) (search lin depth 30) (omega arith)

quotient-in : (zs : List ℤ) (ss : List Interval) (e : Division) → T (divides e) → In zs ss → Inside (quotient zs e) (quotient_side ss e)
quotient-in zs ss e t h =
    let n = plus-in e.constant (dot e.axes zs) (only e.constant) (dot_sides e.axes ss) (self e.constant) (dot-in e.axes zs ss h) in
    record { lo = floor-mono _ _ e.divisor (ltb→lt 0 e.divisor t) n.lo; hi = floor-mono _ _ e.divisor (ltb→lt 0 e.divisor t) n.hi }

quotients-in : (zs : List ℤ) (ss : List Interval) (ds : List Division) → T (all divides ds) → In zs ss → In (quotients ds zs) (map (quotient_side ss) ds)
quotients-in zs ss [] t h = tt
quotients-in zs ss (e ∷ ds) t h = (quotient-in zs ss e (and_left (divides e) (all divides ds) t) h, quotients-in zs ss ds (and_right (divides e) (all divides ds) t) h)

value_in : (zs qs : List ℤ) (xs ys : List Interval) (r : Constraint) → In zs xs → In qs ys → Inside (value (pos 1) zs qs r) (value_side xs ys r)
value_in zs qs xs ys r h k =
    subst (λ (z : ℤ). Inside z (value_side xs ys r)) (sym (ring (r.constant ∷ dot r.axes zs ∷ dot r.divisions qs ∷ []) {b = r.constant +ℤ (dot r.axes zs +ℤ dot r.divisions qs)} (search quote depth 30) tt))
    (plus-in r.constant (dot r.axes zs +ℤ dot r.divisions qs) (only r.constant) (plus (dot_sides r.axes xs) (dot_sides r.divisions ys)) (self r.constant)
    (plus-in (dot r.axes zs) (dot r.divisions qs) (dot_sides r.axes xs) (dot_sides r.divisions ys) (dot-in r.axes zs xs h) (dot-in r.divisions qs ys k)))

can-meet : (k : Kind) (z : ℤ) (s : Interval) → Inside z s → T (meets k z) → T (can_meet k s)
can-meet equality z s h t =
    let e : z ≡ pos 0 = is_zero→ z t in
    and-make (le_z s.low (pos 0)) (non_neg s.high) (subst (λ (y : ℤ). s.low ≤ℤ y) e h.lo).le (yes_non_neg (subst (λ (y : ℤ). y ≤ℤ s.high) e h.hi))
can-meet inequality z s h t = yes_non_neg (≤ℤ-trans (nn t) h.hi)

-- a basic set that holds a point of the box can hold over it
can-hold : (zs : List ℤ) (ss : List Interval) (b : BasicSet) → T (well_formed b) → In zs ss → T (in_basic zs b) → T (can_hold ss b)
can-hold zs ss b ok h t = go b.constraints t
  where
    qs : List Interval
    qs = map (quotient_side ss) b.divisions

    inq : In (quotients b.divisions zs) (map (quotient_side ss) b.divisions)
    inq = quotients-in zs ss b.divisions (and_left (all divides b.divisions) (all (fits b.divisions) b.constraints) ok) h

    can : Constraint → Bool
    can r = can_meet r.kind (value_side ss (map (quotient_side ss) b.divisions) r)

    go : (rs : List Constraint) → T (in_constraints zs b.divisions rs) → T (all (λ (r : Constraint). can_meet r.kind (value_side ss (map (quotient_side ss) b.divisions) r)) rs)
    go [] t = tt
    go (r ∷ rs) t =
        let h₁ : Bool = holds (pos 1) zs (quotients b.divisions zs) r in
        and-make (can r) (all can rs)
        (can-meet r.kind (value (pos 1) zs (quotients b.divisions zs) r) (value_side ss (map (quotient_side ss) b.divisions) r) (value_in zs (quotients b.divisions zs) ss (map (quotient_side ss) b.divisions) r h inq) (and_left h₁ (in_constraints zs b.divisions rs) t))
        (go rs (and_right h₁ (in_constraints zs b.divisions rs) t))

or_left : (a b : Bool) → T a → T (a || b)
or_left true b t = tt
or_left false b t = absurd t

or_right : (a b : Bool) → T b → T (a || b)
or_right true b t = tt
or_right false b t = t

pub can-pass : (zs : List ℤ) (ss : List Interval) (s : Set) → T (all well_formed s) → In zs ss → T (in_set zs s) → T (any (can_hold ss) s)
can-pass zs ss [] ok h t = t
can-pass zs ss (b ∷ s) ok h t = by (in_basic zs b) refl t (can-pass zs ss s (and_right (well_formed b) (all well_formed s) ok) h)
  where
    by : (c : Bool) → in_basic zs b ≡ c → T (c || in_set zs s) → (T (in_set zs s) → T (any (can_hold ss) s)) → T (can_hold ss b || any (can_hold ss) s)
    by true e t ih = or_left (can_hold ss b) (any (can_hold ss) s) (can-hold zs ss b (and_left (well_formed b) (all well_formed s) ok) h (to-T (in_basic zs b) e))
    by false e t ih = or_right (can_hold ss b) (any (can_hold ss) s) (ih t)

pub in-prefix : (p zs : List ℤ) (ss : List Interval) → In zs ss → In (p ++ zs) (map only p ++ ss)
in-prefix [] zs ss h = h
in-prefix (y ∷ p) zs ss h = (self y, in-prefix p zs ss h)

-- ---- a whole prefix passes only as a member

times-only : (a z : ℤ) → times a (only z) ≡ only (a *ℤ z)
times-only a z = by (non_neg a)
  where
    by : (b : Bool) → ◌≡◌ {A = Interval} (record { low = a *ℤ cond b z z; high = a *ℤ cond b z z }) (only (a *ℤ z))
    by true = refl
    by false = refl

dot-only : (cs zs : List ℤ) → dot_sides cs (map only zs) ≡ only (dot cs zs)
dot-only [] zs = refl
dot-only (c ∷ cs) [] = refl
dot-only (c ∷ cs) (z ∷ zs) = ap₂ plus (times-only c z) (dot-only cs zs)

quotients-only : (ds : List Division) (zs : List ℤ) → map (quotient_side (map only zs)) ds ≡ map only (quotients ds zs)
quotients-only [] zs = refl
quotients-only (e ∷ ds) zs =
    ap₂ (λ (s : Interval) (l : List Interval). record { low = floor_div (e.constant +ℤ s.low) e.divisor; high = floor_div (e.constant +ℤ s.high) e.divisor } ∷ l) (dot-only e.axes zs) (quotients-only ds zs)

meets-only : (k : Kind) (z : ℤ) → can_meet k (only z) ≡ meets k z
meets-only equality (pos zero) = refl
meets-only equality (pos (suc n)) = ap (λ (b : Bool). b && true) (leb-suc-zero n) ∙ sym (eqb-suc-zero n)
meets-only equality (negsuc n) = refl
meets-only inequality z = refl

hold-only : (zs : List ℤ) (b : BasicSet) → can_hold (map only zs) b ≡ in_basic zs b
hold-only zs b = go b.constraints
  where
    same : (r : Constraint) → can_meet r.kind (value_side (map only zs) (map (quotient_side (map only zs)) b.divisions) r) ≡ holds (pos 1) zs (quotients b.divisions zs) r
    same r =
        ap (λ (l : List Interval). can_meet r.kind (value_side (map only zs) l r)) (quotients-only b.divisions zs)
        ∙ ap₂ (λ (s t : Interval). can_meet r.kind (plus (only r.constant) (plus s t))) (dot-only r.axes zs) (dot-only r.divisions (quotients b.divisions zs))
        ∙ meets-only r.kind (r.constant +ℤ (dot r.axes zs +ℤ dot r.divisions (quotients b.divisions zs)))
        ∙ ap (meets r.kind) (ring (r.constant ∷ dot r.axes zs ∷ dot r.divisions (quotients b.divisions zs) ∷ []) (search quote depth 30) tt)

    go : (rs : List Constraint) → all (λ (r : Constraint). can_meet r.kind (value_side (map only zs) (map (quotient_side (map only zs)) b.divisions) r)) rs ≡ in_constraints zs b.divisions rs
    go [] = refl
    go (r ∷ rs) = ap₂ ◌&&◌ (same r) (go rs)

pub passes-whole : (s : Set) (p : List ℤ) → passes s p [] ≡ in_set p s
passes-whole s p = ap (λ (l : List Interval). any (can_hold l) s) (append-nil (map only p)) ∙ go s
  where
    go : (s : Set) → any (can_hold (map only p)) s ≡ in_set p s
    go [] = refl
    go (b ∷ s) = ap₂ ◌||◌ (hold-only p b) (go s)

-- ---- one axis upward

some-none : {A X : Type 0} {a : A} → some a ≡ none → X
some-none {A} {a} e = absurd (subst is e tt)
  where
    is : Option A → Type 0
    is (some a) = Unit {0}
    is none = ⊥

or-none : (w v : Walk) → (or_else w v).found ≡ none → (w.found ≡ none) × (v.found ≡ none)
or-none w v e = by w.found refl
  where
    by : (o : Option (List ℤ)) → w.found ≡ o → (w.found ≡ none) × (v.found ≡ none)
    by none q = let d : v.found ≡ none = rw (q, or_else) at e in (q, d)
    by (some p) q = let d : w.found ≡ none = rw (q, or_else) at e in some-none (sym q ∙ d)

or_some : (w v : Walk) (p : List ℤ) → (or_else w v).found ≡ some p → (w.found ≢ none → w.found ≡ some p) × (w.found ≡ none → v.found ≡ some p)
or_some w v p e = by w.found refl
  where
    by : (o : Option (List ℤ)) → w.found ≡ o → (w.found ≢ none → w.found ≡ some p) × (w.found ≡ none → v.found ≡ some p)
    by none q = let d : v.found ≡ some p = rw (q, or_else) at e in ((λ n. absurd (n q)), λ z. d)
    by (some r) q = let d : w.found ≡ some p = rw (q, or_else) at e in ((λ n. d), λ z. some-none (sym q ∙ z))

-- the value i above x
abbrev pub up : ℤ → ℕ → ℤ
up x i = x +ℤ pos i

pub up_suc : (x : ℤ) (i : ℕ) → up (x +ℤ pos 1) i ≡ up x (suc i)
up_suc x i = +ℤ_assoc x (pos 1) (pos i) ∙ ap (λ (n : ℕ). x +ℤ pos n) (native.Mathlib.Numerals.one-add i)

module _ (ok : ℤ → Bool) (inside : ℤ → Walk) where
  -- a value that finds nothing: it does not pass, or nothing is below it
  abbrev Passed : ℤ → Type 0
  Passed v = T (ok v) → (inside v).found ≡ none

  -- the value i above x is the first at which something is found, and that is p
  record FirstAt (x : ℤ) (k : ℕ) (p : List ℤ) : Type 0 where
    i : ℕ
    below : i < k
    passing : T (ok (up x i))
    found : (inside (up x i)).found ≡ some p
    before : (m : ℕ) → m < i → Passed (up x m)

  upward-none : (k : ℕ) (x : ℤ) → (upward ok inside k x).found ≡ none → (i : ℕ) → i < k → Passed (up x i)
  upward-none zero x e i h = absurd (not-suc-le-zero h)
  upward-none (suc k) x e i h = by (ok x) refl (upward-none k (x +ℤ pos 1))
    where
      shifted : (i : ℕ) → i < suc k → Passed x → ((j : ℕ) → j < k → Passed (up (x +ℤ pos 1) j)) → Passed (up x i)
      shifted zero h f g = subst Passed (sym (+ℤ_idr x)) f
      shifted (suc i) h f g = subst Passed (up_suc x i) (g i (le_of_suc-le-suc h))

      by : (b : Bool) → ok x ≡ b → ((upward ok inside k (x +ℤ pos 1)).found ≡ none → (j : ℕ) → j < k → Passed (up (x +ℤ pos 1) j)) → Passed (up x i)
      by true q ih =
          let d : (or_else (inside x) (upward ok inside k (x +ℤ pos 1))).found ≡ none = rw (q, upward) at e in
          let n = or-none (inside x) (upward ok inside k (x +ℤ pos 1)) d in
          shifted i h (λ t. n.0) (ih n.1)
      by false q ih =
          let d : (upward ok inside k (x +ℤ pos 1)).found ≡ none = rw (q, upward) at e in
          shifted i h (λ t. absurd (subst T q t)) (ih d)

  upward-some : (k : ℕ) (x : ℤ) (p : List ℤ) → (upward ok inside k x).found ≡ some p → FirstAt x k p
  upward-some zero x p e = some-none (sym e)
  upward-some (suc k) x p e = by (ok x) refl (upward-some k (x +ℤ pos 1) p)
    where
      later : Passed x → FirstAt (x +ℤ pos 1) k p → FirstAt x (suc k) p
      later f r =
          record {
            i = suc r.i;
            below = suc-le-suc r.below;
            passing = subst (λ (v : ℤ). T (ok v)) (up_suc x r.i) r.passing;
            found = subst (λ (v : ℤ). (inside v).found ≡ some p) (up_suc x r.i) r.found;
            before = before;
          }
        where
          before : (m : ℕ) → m < suc r.i → Passed (up x m)
          before zero h = subst Passed (sym (+ℤ_idr x)) f
          before (suc m) h = subst Passed (up_suc x m) (r.before m (le_of_suc-le-suc h))

      here : T (ok x) → (inside x).found ≡ some p → FirstAt x (suc k) p
      here t f =
          record {
            i = 0;
            below = zero-lt-suc k;
            passing = subst (λ (v : ℤ). T (ok v)) (sym (+ℤ_idr x)) t;
            found = subst (λ (v : ℤ). (inside v).found ≡ some p) (sym (+ℤ_idr x)) f;
            before = λ m h. absurd (not-suc-le-zero h);
          }

      by : (b : Bool) → ok x ≡ b → ((upward ok inside k (x +ℤ pos 1)).found ≡ some p → FirstAt (x +ℤ pos 1) k p) → FirstAt x (suc k) p
      by false q ih =
          let d : (upward ok inside k (x +ℤ pos 1)).found ≡ some p = rw (q, upward) at e in
          later (λ t. absurd (subst T q t)) (ih d)
      by true q ih =
          let d : (or_else (inside x) (upward ok inside k (x +ℤ pos 1))).found ≡ some p = rw (q, upward) at e in
          let o = or_some (inside x) (upward ok inside k (x +ℤ pos 1)) p d in
          split (inside x).found refl o
        where
          split : (f : Option (List ℤ)) → (inside x).found ≡ f → (((inside x).found ≢ none → (inside x).found ≡ some p) × ((inside x).found ≡ none → (upward ok inside k (x +ℤ pos 1)).found ≡ some p)) → FirstAt x (suc k) p
          split none z o = later (λ t. z) (ih (o.1 z))
          split (some r) z o = here (to-T (ok x) q) (o.0 (λ y. some-none (sym z ∙ y)))

-- ---- the values of a side

pub side-index : (b : Interval) (v : ℤ) → Inside v b → (i : ℕ) × (i < width b) × (v ≡ up b.low i)
side-index b v h =
    let i : ℕ = nat_abs (v -ℤ b.low) in
    let p : pos i ≡ v -ℤ b.low = nat_abs-nonneg (sub-nonneg h.lo) in
    let q : pos (nat_abs (b.high -ℤ b.low)) ≡ b.high -ℤ b.low = nat_abs-nonneg (sub-nonneg (≤ℤ-trans h.lo h.hi)) in
    let l : pos i ≤ℤ pos (nat_abs (b.high -ℤ b.low)) = lia-le (pos i ∷ pos (nat_abs (b.high -ℤ b.low)) ∷ v ∷ b.low ∷ b.high ∷ []) (eq p ∷ eq q ∷ le h.hi ∷ []) (search lin depth 30) (omega arith) in (
      i,
      subst (λ (c : Bool). i < cond c (suc (nat_abs (b.high -ℤ b.low))) 0) (sym (from-T (le_z b.low b.high) (≤ℤ-trans h.lo h.hi).le)) (suc-le-suc (leb→le i (nat_abs (b.high -ℤ b.low)) l.le)),
      lia-eq (pos i ∷ v ∷ b.low ∷ []) (eq p ∷ []) (search lin depth 30) (omega arith),
    )

pub index-side : (b : Interval) (i : ℕ) → i < width b → Inside (up b.low i) b
index-side b i h = by (le_z b.low b.high) refl h
  where
    by : (c : Bool) → le_z b.low b.high ≡ c → i < cond c (suc (nat_abs (b.high -ℤ b.low))) 0 → Inside (up b.low i) b
    by false q h = absurd (not-suc-le-zero h)
    by true q h =
        let o : b.low ≤ℤ b.high = record { le = to-T (le_z b.low b.high) q } in
        let d : pos (nat_abs (b.high -ℤ b.low)) ≡ b.high -ℤ b.low = nat_abs-nonneg (sub-nonneg o) in
        let l : pos i ≤ℤ pos (nat_abs (b.high -ℤ b.low)) = record { le = le→leb i (nat_abs (b.high -ℤ b.low)) (le_of_suc-le-suc h) } in
        record {
          lo = lia-le (b.low ∷ pos i ∷ []) (le (pos-nonneg i) ∷ []) (search lin depth 30) (omega arith);
          hi = lia-le (b.low ∷ b.high ∷ pos i ∷ pos (nat_abs (b.high -ℤ b.low)) ∷ []) (eq d ∷ le l ∷ []) (search lin depth 30) (omega arith);
        }

-- ---- the walk

-- dictionary order
abbrev pub Before : List ℤ → List ℤ → Type 0
Before [] vs = ⊥
Before (u ∷ us) [] = ⊥
Before (u ∷ us) (v ∷ vs) = (u <ℤ v) ⊎ ((u ≡ v) × Before us vs)

-- below the prefix p, with the sides bs open: no point, or the first
abbrev pub Right : Set → List ℤ → List Interval → Option (List ℤ) → Type 0
Right s p bs none = (zs : List ℤ) → In zs bs → T (in_set (p ++ zs) s) → ⊥
Right s p bs (some q) = (zs : List ℤ) × (q ≡ p ++ zs) × In zs bs × T (in_set q s) × ((ys : List ℤ) → In ys bs → Before ys zs → T (in_set (p ++ ys) s) → ⊥)

-- a prefix of all axes is a member
abbrev pub Ready : Set → List ℤ → List Interval → Type 0
Ready s p [] = T (in_set p s)
Ready s p (b ∷ bs) = Unit {0}

pub ready : (s : Set) (p : List ℤ) (bs : List Interval) → T (passes s p bs) → Ready s p bs
ready s p [] t = subst T (passes-whole s p) t
ready s p (b ∷ bs) t = tt

module _ (s : Set) (formed : T (all well_formed s)) where
  -- a point below a value: the value passes, so something is below it
  not-passed : (p : List ℤ) (bs : List Interval) (v : ℤ) (vs : List ℤ) → In vs bs → T (in_set (p ++ (v ∷ vs)) s)
      → (T (passes s (p ++ (v ∷ [])) bs) → (walk s (p ++ (v ∷ [])) bs).found ≡ none)
      → (Right s (p ++ (v ∷ [])) bs (walk s (p ++ (v ∷ [])) bs).found) → ⊥
  not-passed p bs v vs h t f r =
      let t' : T (in_set (p ++ (v ∷ []) ++ vs) s) = subst (λ (l : List ℤ). T (in_set l s)) (sym (append_assoc p (v ∷ []) vs)) t in
      let z : (walk s (p ++ (v ∷ [])) bs).found ≡ none = f (can-pass (p ++ (v ∷ []) ++ vs) (map only (p ++ (v ∷ [])) ++ bs) s formed (in-prefix (p ++ (v ∷ [])) vs bs h) t') in
      subst (Right s (p ++ (v ∷ [])) bs) z r vs h t'

  none_before : (ys : List ℤ) → Before ys [] → ⊥
  none_before [] b = b
  none_before (y ∷ ys) b = b

  walk-right : (bs : List Interval) (p : List ℤ) → Ready s p bs → Right s p bs (walk s p bs).found
  unfolding first_point walk
  walk-right [] p r = ([], sym (append-nil p), tt, r, λ ys h b t. none_before ys b)
  walk-right (b ∷ bs) p r = by (walk s p (b ∷ bs)).found refl (λ v t. walk-right bs (p ++ (v ∷ [])) (ready s (p ++ (v ∷ [])) bs t))
    where
      ok : ℤ → Bool
      ok v = passes s (p ++ (v ∷ [])) bs

      inside : ℤ → Walk
      inside v = walk s (p ++ (v ∷ [])) bs

      -- no point below a value at which nothing is found
      dead : (v : ℤ) → ((t : T (passes s (p ++ (v ∷ [])) bs)) → Right s (p ++ (v ∷ [])) bs (walk s (p ++ (v ∷ [])) bs).found) → (T (passes s (p ++ (v ∷ [])) bs) → (walk s (p ++ (v ∷ [])) bs).found ≡ none)
          → (vs : List ℤ) → In vs bs → T (in_set (p ++ (v ∷ vs)) s) → ⊥
      dead v ih f vs h t =
          let t' : T (in_set (p ++ (v ∷ []) ++ vs) s) = subst (λ (l : List ℤ). T (in_set l s)) (sym (append_assoc p (v ∷ []) vs)) t in
          let c : T (passes s (p ++ (v ∷ [])) bs) = can-pass (p ++ (v ∷ []) ++ vs) (map only (p ++ (v ∷ [])) ++ bs) s formed (in-prefix (p ++ (v ∷ [])) vs bs h) t' in
          not-passed p bs v vs h t f (ih c)

      by : (o : Option (List ℤ)) → (walk s p (b ∷ bs)).found ≡ o → ((v : ℤ) → T (passes s (p ++ (v ∷ [])) bs) → Right s (p ++ (v ∷ [])) bs (walk s (p ++ (v ∷ [])) bs).found) → Right s p (b ∷ bs) o
      by none e ih = λ zs h t. nowhere zs h t
        where
          nowhere : (zs : List ℤ) → In zs (b ∷ bs) → T (in_set (p ++ zs) s) → ⊥
          nowhere [] h t = h
          nowhere (v ∷ vs) h t =
              let x = side-index b v h.0 in
              dead v (ih v) (subst (λ (u : ℤ). T (passes s (p ++ (u ∷ [])) bs) → (walk s (p ++ (u ∷ [])) bs).found ≡ none) (sym x.2) (upward-none ok inside (width b) b.low e x.0 x.1)) vs h.1 t
      by (some q) e ih =
          let f = upward-some ok inside (width b) b.low q e in
          let v : ℤ = up b.low f.i in
          let g : Right s (p ++ (v ∷ [])) bs (some q) = subst (Right s (p ++ (v ∷ [])) bs) f.found (ih v f.passing) in (
            v ∷ g.0,
            g.1 ∙ append_assoc p (v ∷ []) g.0,
            (index-side b f.i f.below, g.2),
            g.3,
            first f.i f.before g.0 g.4,
          )
        where
          first : (i : ℕ) → ((m : ℕ) → m < i → T (passes s (p ++ (up b.low m ∷ [])) bs) → (walk s (p ++ (up b.low m ∷ [])) bs).found ≡ none) → (zs : List ℤ)
              → ((ys : List ℤ) → In ys bs → Before ys zs → T (in_set (p ++ (up b.low i ∷ []) ++ ys) s) → ⊥)
              → (ys : List ℤ) → In ys (b ∷ bs) → Before ys (up b.low i ∷ zs) → T (in_set (p ++ ys) s) → ⊥
          first i f zs g [] h l t = l
          first i f zs g (y ∷ ys) h (inl l) t =
              let x = side-index b y h.0 in
              let m : x.0 < i = lt-nat b.low x.0 i (subst (λ (u : ℤ). u <ℤ up b.low i) x.2 l) in
              dead y (ih y) (subst (λ (u : ℤ). T (passes s (p ++ (u ∷ [])) bs) → (walk s (p ++ (u ∷ [])) bs).found ≡ none) (sym x.2) (f x.0 m)) ys h.1 t
            where
              lt-nat : (a : ℤ) (m i : ℕ) → up a m <ℤ up a i → m < i
              lt-nat a m i l = let k : pos m <ℤ pos i = lia-lt (a ∷ pos m ∷ pos i ∷ []) (lt l ∷ []) (search lin depth 30) (omega arith) in ltb→lt m i k.lt
          first i f zs g (y ∷ ys) h (inr l) t =
              g ys h.1 l.1 (subst (λ (k : List ℤ). T (in_set k s)) (ap (λ (u : ℤ). p ++ (u ∷ ys)) l.0 ∙ sym (append_assoc p (up b.low i ∷ []) ys)) t)

-- what each answer says of the box
abbrev pub Says : Set → List Interval → Found → Type 0
Says s box nothing = (zs : List ℤ) → In zs box → ¬ T (in_set zs s)
Says s box (at q) = In q box × T (in_set q s) × ((zs : List ℤ) → In zs box → Before zs q → ¬ T (in_set zs s))
Says s box spent = Unit {0}

says : (s : Set) (box : List Interval) (o : Option (List ℤ)) → Right s [] box o → Says s box (found_of o)
says s box none r = r
says s box (some q) r = (
  subst (λ (l : List ℤ). In l box) (sym r.1) r.2,
  r.3,
  λ zs h l. r.4 zs h (subst (λ (k : List ℤ). Before zs k) r.1 l),
)

-- the answer is right, and the tally is at most the limit: it is the limit where the answer is spent
pub search-right : (s : Set) → T (all well_formed s) → (b : Interval) (bs : List Interval) (limit : ℕ) → Says s (b ∷ bs) (first_point s (b ∷ bs) limit).found × ((first_point s (b ∷ bs) limit).tested ≤ limit)
unfolding first_point walk
search-right s ok b bs limit = by (leb (walk s [] (b ∷ bs)).tested limit) refl
  where
    w : Walk
    w = walk s [] (b ∷ bs)

    by : (c : Bool) → leb (walk s [] (b ∷ bs)).tested limit ≡ c
        → Says s (b ∷ bs) (cond {A = Tallied} c (record { found = found_of (walk s [] (b ∷ bs)).found; tested = (walk s [] (b ∷ bs)).tested }) (record { found = spent; tested = limit })).found
        × ((cond {A = Tallied} c (record { found = found_of (walk s [] (b ∷ bs)).found; tested = (walk s [] (b ∷ bs)).tested }) (record { found = spent; tested = limit })).tested ≤ limit)
    by true e = (says s (b ∷ bs) (walk s [] (b ∷ bs)).found (walk-right s ok (b ∷ bs) [] tt), leb→le (walk s [] (b ∷ bs)).tested limit (to-T (leb (walk s [] (b ∷ bs)).tested limit) e))
    by false e = (tt, le_refl limit)
