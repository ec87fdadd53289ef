-- Results are valid sets again: what an operation gives within its limits decodes to itself.
use mathlib.Core.Path.{◌≡◌, refl, sym, ap, ◌∙◌, subst}
use mathlib.Core.Bool.{Bool, true, false, not, ◌&&◌, ◌||◌, cond}
use mathlib.Core.List.{List, [], ◌∷◌, ◌++◌, map}
use mathlib.Core.Logic.{◌⊎◌, inl, inr}
use mathlib.Core.Option.{Option, none, some}
use Prim.Native.Nat.{ℕ, zero, suc, ◌+◌, ◌/◌, ◌≤◌, ◌<◌}
use native.Mathlib.Nat.{le_of_suc-le-suc, not-suc-le-zero, zero-lt-suc, le_refl, zero-add, div-le_self}
use native.Mathlib.Omega.{arith}
use lib.Dec.{T, leb, ltb, eqb, leb→le, le→leb, ltb→lt, eqb_refl}
use lib.IntN.{ℤ, pos, negsuc, neg_ℤ, ◌+ℤ◌, ◌-ℤ◌, -ℤ_one, pred_ℤ, +ℤ_idr}
use lib.Signed.{le_z}
use lib.ListN.{length-map, length, get_or, replicate, length-append}
use Rattle.model.specs.Lists.{all, any, concat_map, cons_if, filter, is_nil, All}
use Rattle.model.specs.Sets.{floor_div, Division, Kind, equality, inequality, Constraint, BasicSet, Set, absent}
use Rattle.algebra.specs.Tighten.{content, divisible, void, divided_down, tight, tightened, solvable}
use Rattle.algebra.specs.Cut.{below, opposites, opposites_at, same_division, seek, Joined, join_from, join, add_at, move, move_constraint, joined_divisions, moved_constraints, both, ends, kept, cut_by, cut_tight, cut, cut_all, difference, intersection, complement, join_fits, candidates_fit, cut_tight_fits, cut_fits, cut_all_fits, difference_fits, both_fits, intersection_fits}
use Rattle.codec.specs.Bytes.{gives, encode, coefficient, constant_fits, axes_fit, decode}
use Rattle.model.proofs.Count.{and_left, and_right, and-make}
use Rattle.algebra.proofs.Joined.{Good, joined}
use Rattle.algebra.proofs.Cutting.{absent-neg, absent_more, absent-move}
use Rattle.algebra.proofs.Tightened.{absent-divided, divisible-tight}
use Rattle.model.proofs.Lists.{all_app, all-imp, all-mapped}
use Rattle.codec.specs.Valid.{ValidDivision, ValidConstraint, Valid, Fits}
use Rattle.codec.proofs.Valid.{valid-decodes}

-- ---- every element

module _ {A : Type 0} where
  pub all-filtered : (P : A → Type 0) (keep : A → Bool) (l : List A) → All P l → All P (filter keep l)
  all-filtered P keep [] p = tt
  all-filtered P keep (a ∷ l) p = by (keep a) (all-filtered P keep l p.1)
    where
      by : (b : Bool) → All P (filter keep l) → All P (cons_if b a (filter keep l))
      by true q = (p.0, q)
      by false q = q

-- ---- opposites

neg-coefficient : (z : ℤ) → T (coefficient z) → T (coefficient (neg_ℤ z))
neg-coefficient (pos zero) t = tt
neg-coefficient (pos (suc m)) t = let h = leb→le (suc m) 32767 t in and-make (leb m 32766) true (le→leb m 32766 (omega arith)) tt
neg-coefficient (negsuc m) t = let h = leb→le m 32766 (and_left (leb m 32766) true t) in le→leb (suc m) 32767 (omega arith)

neg-coefficients : (cs : List ℤ) → T (all coefficient cs) → T (all coefficient (map neg_ℤ cs))
neg-coefficients [] t = tt
neg-coefficients (c ∷ cs) t = and-make (coefficient (neg_ℤ c)) (all coefficient (map neg_ℤ cs)) (neg-coefficient c (and_left (coefficient c) (all coefficient cs) t)) (neg-coefficients cs (and_right (coefficient c) (all coefficient cs) t))

above-fits : (z : ℤ) → Fits 2147483648 z → T (le_z (negsuc 2147483646) z) → Fits 2147483648 (z -ℤ pos 1)
above-fits z h t = subst (Fits 2147483648) (sym (-ℤ_one z)) (at z h t)
  where
    at : (z : ℤ) → Fits 2147483648 z → T (le_z (negsuc 2147483646) z) → Fits 2147483648 (pred_ℤ z)
    at (pos zero) h t = zero-lt-suc 2147483647
    at (pos (suc m)) h t = omega arith
    at (negsuc m) h t = let l = leb→le m 2147483646 t in omega arith

below-fits : (z : ℤ) → Fits 2147483648 z → Fits 2147483648 (neg_ℤ z -ℤ pos 1)
below-fits z h = subst (Fits 2147483648) (sym (-ℤ_one (neg_ℤ z))) (at z h)
  where
    at : (z : ℤ) → Fits 2147483648 z → Fits 2147483648 (pred_ℤ (neg_ℤ z))
    at (pos zero) h = zero-lt-suc 2147483647
    at (pos (suc m)) h = h
    at (negsuc m) h = h

pub below-valid : (n k : ℕ) (r : Constraint) → ValidConstraint n k r → ValidConstraint n k (below r)
below-valid n k r v =
    record {
      axis_places = length-map r.axes neg_ℤ ∙ v.axis_places;
      division_places = length-map r.divisions neg_ℤ ∙ v.division_places;
      number = let m = v.number in omega arith;
      width = below-fits r.constant v.width;
      constant = tt;
      axes = neg-coefficients r.axes v.axes;
      divisions = neg-coefficients r.divisions v.divisions;
      axis_absents = absent-neg n r.axes v.axis_absents;
      division_absents = absent-neg k r.divisions v.division_absents;
    }

pub opposites-valid : (n k : ℕ) (r : Constraint) → ValidConstraint n k r → All (ValidConstraint n k) (opposites r)
opposites-valid n k r v = at r.kind v.constant
  where
    at : (c : Kind) → T (constant_fits c r.constant) → All (ValidConstraint n k) (opposites_at c r)
    at equality t = (
      record {
        axis_places = v.axis_places;
        division_places = v.division_places;
        number = let m = v.number in omega arith;
        width = above-fits r.constant v.width t;
        constant = tt;
        axes = v.axes;
        divisions = v.divisions;
        axis_absents = v.axis_absents;
        division_absents = v.division_absents;
      },
      (below-valid n k r v, tt),
    )
    at inequality t = (below-valid n k r v, tt)

-- ---- tightened

down-coefficient : (g : ℕ) (z : ℤ) → T (coefficient z) → T (coefficient (floor_div z g))
down-coefficient g (pos m) t = let h = leb→le m 32767 t in let k = div-le_self m g in le→leb (m / g) 32767 (omega arith)
down-coefficient g (negsuc m) t = let h = leb→le m 32766 (and_left (leb m 32766) true t) in let k = div-le_self m g in and-make (leb (m / g) 32766) true (le→leb (m / g) 32766 (omega arith)) tt

down-coefficients : (g : ℕ) (cs : List ℤ) → T (all coefficient cs) → T (all coefficient (map (λ (z : ℤ). floor_div z g) cs))
down-coefficients g [] t = tt
down-coefficients g (c ∷ cs) t = and-make (coefficient (floor_div c g)) (all coefficient (map (λ (z : ℤ). floor_div z g) cs)) (down-coefficient g c (and_left (coefficient c) (all coefficient cs) t)) (down-coefficients g cs (and_right (coefficient c) (all coefficient cs) t))

down-width : (g : ℕ) (z : ℤ) → Fits 2147483648 z → Fits 2147483648 (floor_div z g)
down-width g (pos m) h = let k = div-le_self m g in omega arith
down-width g (negsuc m) h = let k = div-le_self m g in omega arith

down-constant : (g : ℕ) (k : Kind) (z : ℤ) → T (constant_fits k z) → T (constant_fits k (floor_div z g))
down-constant g equality (pos m) t = tt
down-constant g equality (negsuc m) t = let h = leb→le m 2147483646 t in let k = div-le_self m g in le→leb (m / g) 2147483646 (omega arith)
down-constant g inequality z t = tt

pub tight-valid : (n k : ℕ) (r : Constraint) → ValidConstraint n k r → ValidConstraint n k (tight r)
tight-valid n k r v = at (ltb 1 (content r))
  where
    g : ℕ
    g = content r

    at : (b : Bool) → ValidConstraint n k (cond b (divided_down g r) r)
    at true =
        record {
          axis_places = length-map r.axes (λ (z : ℤ). floor_div z g) ∙ v.axis_places;
          division_places = length-map r.divisions (λ (z : ℤ). floor_div z g) ∙ v.division_places;
          number = let m = v.number in omega arith;
          width = down-width g r.constant v.width;
          constant = down-constant g r.kind r.constant v.constant;
          axes = down-coefficients g r.axes v.axes;
          divisions = down-coefficients g r.divisions v.divisions;
          axis_absents = absent-divided g n r.axes v.axis_absents;
          division_absents = absent-divided g k r.divisions v.division_absents;
        }
    at false = v

pub tightened-valid : (n : ℕ) (b : BasicSet) → Valid n b → Valid n (tightened b)
tightened-valid n b v =
    record {
      few_divisions = v.few_divisions;
      few_constraints = subst (λ (m : ℕ). m ≤ 48) (sym (length-map b.constraints tight)) v.few_constraints;
      divisions = v.divisions;
      constraints = all-mapped (ValidConstraint n (length b.divisions)) tight (ValidConstraint n (length b.divisions)) (tight-valid n (length b.divisions)) b.constraints v.constraints;
    }

pub solvable-valid : (n : ℕ) (b : BasicSet) → Valid n b → All (Valid n) (solvable b)
solvable-valid n b v = at (any void b.constraints)
  where
    at : (w : Bool) → All (Valid n) (cond w [] (tightened b ∷ []))
    at true = tt
    at false = (tightened-valid n b v, tt)

-- ---- the places of joined divisions are apart

seek-free : (e : Division) (taken : List ℕ) (k : ℕ) (ds : List Division) (i : ℕ) → seek e taken k ds ≡ some i → T (not (any (eqb i) taken)) × (i < k + length ds)
seek-free e taken k [] i p = let z : ◌≡◌ {A = ℕ} 0 1 = cc in absurd (clash z)
  where
    clash : ◌≡◌ {A = ℕ} 0 1 → ⊥
    clash z = omega arith
seek-free e taken k (f ∷ ds) i p = choose (same_division e f) (any (eqb k) taken) refl p (seek-free e taken (suc k) ds i)
  where
    later : T (not (any (eqb i) taken)) × (i < suc k + length ds) → T (not (any (eqb i) taken)) × (i < k + suc (length ds))
    later h = (h.0, (let l = h.1 in omega arith))

    choose : (a b : Bool) → any (eqb k) taken ≡ b → cond (a && not b) (some k) (seek e taken (suc k) ds) ≡ some i
        → (seek e taken (suc k) ds ≡ some i → T (not (any (eqb i) taken)) × (i < suc k + length ds)) → T (not (any (eqb i) taken)) × (i < k + suc (length ds))
    choose true false q p r =
        let same : k ≡ i = cc in
        (subst (λ (m : ℕ). T (not (any (eqb m) taken))) same (subst (λ (b : Bool). T (not b)) (sym q) tt), subst (λ (m : ℕ). m < k + suc (length ds)) same (omega arith))
    choose true true q p r = later (r p)
    choose false b q p r = later (r p)

-- a place that is free for the divisions still to come
abbrev pub Free : List Division → List ℕ → List Division → ℕ → Type 0
Free ds taken joined p = (T (not (any (eqb p) taken)) × (p < length ds)) ⊎ (length joined ≤ p)

abbrev pub Apart : List ℕ → Type 0
Apart [] = Unit {0}
Apart (p ∷ ps) = All (λ (q : ℕ). q ≡ p → ⊥) ps × Apart ps

pub record Spread (ds : List Division) (taken : List ℕ) (joined : List Division) (j : Joined) : Type 0 where
  pub free : All (Free ds taken joined) j.places
  pub apart : Apart j.places

pub spread : (ds : List Division) (taken : List ℕ) (joined es : List Division) → length ds ≤ length joined → Spread ds taken joined (join_from ds taken joined es)
spread ds taken joined [] h = record { free = tt; apart = tt }
spread ds taken joined (e ∷ es) h = go (seek e taken 0 ds) refl (λ i. spread ds (i ∷ taken) joined es h) (spread ds taken (joined ++ (e ∷ [])) es (omega (arith, length-append joined (e ∷ []))))
  where
    go : (o : Option ℕ) → seek e taken 0 ds ≡ o → ((i : ℕ) → Spread ds (i ∷ taken) joined (join_from ds (i ∷ taken) joined es))
        → Spread ds taken (joined ++ (e ∷ [])) (join_from ds taken (joined ++ (e ∷ [])) es) → Spread ds taken joined (join_from ds taken joined (e ∷ es))
    go (some i) q f g =
        let s = seek-free e taken 0 ds i q in
        let l : i < length ds = subst (λ (m : ℕ). i < m) (zero-add (length ds)) s.1 in
        let r = f i in
        rw (q, join_from) record {
          free = (inl (s.0, l), all-imp (Free ds (i ∷ taken) joined) (Free ds taken joined) (λ p. weaker p i) (join_from ds (i ∷ taken) joined es).places r.free);
          apart = (all-imp (Free ds (i ∷ taken) joined) (λ (p : ℕ). p ≡ i → ⊥) (λ p. other p i l) (join_from ds (i ∷ taken) joined es).places r.free, r.apart);
        }
      where
        weaker : (p i : ℕ) → Free ds (i ∷ taken) joined p → Free ds taken joined p
        weaker p i (inl t) = inl (drop-or (eqb p i) (any (eqb p) taken) t.0, t.1)
          where
            drop-or : (a b : Bool) → T (not (a || b)) → T (not b)
            drop-or true b t = absurd t
            drop-or false b t = t
        weaker p i (inr t) = inr t

        other : (p i : ℕ) → i < length ds → Free ds (i ∷ taken) joined p → p ≡ i → ⊥
        other p i l (inl t) e = first (eqb p i) (any (eqb p) taken) t.0 (subst (λ (m : ℕ). T (eqb p m)) e (eqb_refl p))
          where
            first : (a b : Bool) → T (not (a || b)) → T a → ⊥
            first true b t u = t
            first false b t u = u
        other p i l (inr t) e = omega arith
    go none q f g =
        rw (q, join_from) record {
          free = (inr (le_refl (length joined)), all-imp (Free ds taken (joined ++ (e ∷ []))) (Free ds taken joined) weaker (join_from ds taken (joined ++ (e ∷ [])) es).places g.free);
          apart = (all-imp (Free ds taken (joined ++ (e ∷ []))) (λ (p : ℕ). p ≡ length joined → ⊥) other (join_from ds taken (joined ++ (e ∷ [])) es).places g.free, g.apart);
        }
      where
        weaker : (p : ℕ) → Free ds taken (joined ++ (e ∷ [])) p → Free ds taken joined p
        weaker p (inl t) = inl t
        weaker p (inr t) = inr (omega (arith, length-append joined (e ∷ [])))

        other : (p : ℕ) → Free ds taken (joined ++ (e ∷ [])) p → p ≡ length joined → ⊥
        other p (inl t) z = let a = t.1 in omega arith
        other p (inr t) z = omega (arith, length-append joined (e ∷ []))

-- ---- moved coefficients

get_or-zeros : (k i : ℕ) → get_or (replicate k (pos 0)) i (pos 0) ≡ pos 0
get_or-zeros zero i = refl
get_or-zeros (suc k) zero = refl
get_or-zeros (suc k) (suc i) = get_or-zeros k i

get_or-add_at : (p i : ℕ) (c : ℤ) (cs : List ℤ) → (p ≡ i → ⊥) → get_or (add_at p c cs) i (pos 0) ≡ get_or cs i (pos 0)
get_or-add_at zero zero c cs n = absurd (n refl)
get_or-add_at zero (suc i) c [] n = refl
get_or-add_at zero (suc i) c (z ∷ cs) n = refl
get_or-add_at (suc p) zero c [] n = refl
get_or-add_at (suc p) zero c (z ∷ cs) n = refl
get_or-add_at (suc p) (suc i) c [] n = get_or-add_at p i c [] (λ e. n (ap suc e))
get_or-add_at (suc p) (suc i) c (z ∷ cs) n = get_or-add_at p i c cs (λ e. n (ap suc e))

pub get_or-move : (i : ℕ) (is : List ℕ) (cs : List ℤ) → All (λ (q : ℕ). q ≡ i → ⊥) is → get_or (move is cs) i (pos 0) ≡ pos 0
get_or-move i [] cs a = get_or-zeros 8 i
get_or-move i (p ∷ is) [] a = get_or-zeros 8 i
get_or-move i (p ∷ is) (c ∷ cs) a = get_or-add_at p i c (move is cs) a.0 ∙ get_or-move i is cs a.1

coefficients-add_at : (i : ℕ) (c : ℤ) (cs : List ℤ) → T (coefficient c) → T (all coefficient cs) → get_or cs i (pos 0) ≡ pos 0 → i < length cs → T (all coefficient (add_at i c cs)) × (length (add_at i c cs) ≡ length cs)
coefficients-add_at i c [] tc t e h = absurd (not-suc-le-zero h)
coefficients-add_at zero c (z ∷ cs) tc t e h =
    (and-make (coefficient (c +ℤ z)) (all coefficient cs) (subst (λ (y : ℤ). T (coefficient y)) (sym (ap (λ (y : ℤ). c +ℤ y) e ∙ +ℤ_idr c)) tc) (and_right (coefficient z) (all coefficient cs) t), refl)
coefficients-add_at (suc i) c (z ∷ cs) tc t e h =
    let r = coefficients-add_at i c cs tc (and_right (coefficient z) (all coefficient cs) t) e (le_of_suc-le-suc h) in
    (and-make (coefficient z) (all coefficient (add_at i c cs)) (and_left (coefficient z) (all coefficient cs) t) r.0, ap suc r.1)

coefficients-move : (is : List ℕ) (cs : List ℤ) → T (all coefficient cs) → Apart is → All (λ (p : ℕ). p < 8) is → T (all coefficient (move is cs)) × (length (move is cs) ≡ 8)
coefficients-move [] cs t a l = (tt, refl)
coefficients-move (p ∷ is) [] t a l = (tt, refl)
coefficients-move (p ∷ is) (c ∷ cs) t a l =
    let r = coefficients-move is cs (and_right (coefficient c) (all coefficient cs) t) a.1 l.1 in
    let s = coefficients-add_at p c (move is cs) (and_left (coefficient c) (all coefficient cs) t) r.0 (get_or-move p is cs a.0) (subst (λ (m : ℕ). p < m) (sym r.1) l.0) in
    (s.0, s.1 ∙ r.1)

-- ---- joined basic sets

all-joined : (P : Division → Type 0) (ds : List Division) (taken : List ℕ) (joined es : List Division) → All P joined → All P es → All P (join_from ds taken joined es).all
all-joined P ds taken joined [] p q = p
all-joined P ds taken joined (e ∷ es) p q = go (seek e taken 0 ds) refl (λ i. all-joined P ds (i ∷ taken) joined es p q.1) (all-joined P ds taken (joined ++ (e ∷ [])) es (all_app P joined (e ∷ []) p (q.0, tt)) q.1)
  where
    go : (o : Option ℕ) → seek e taken 0 ds ≡ o → ((i : ℕ) → All P (join_from ds (i ∷ taken) joined es).all) → All P (join_from ds taken (joined ++ (e ∷ [])) es).all → All P (join_from ds taken joined (e ∷ es)).all
    go (some i) z f g = rw (z, join_from) (f i)
    go none z f g = rw (z, join_from) g

pub all-below : (m : ℕ) (is : List ℕ) → m ≤ 8 → T (all (λ (p : ℕ). ltb p m) is) → All (λ (p : ℕ). p < 8) is
all-below m [] h t = tt
all-below m (p ∷ is) h t =
    let a = ltb→lt p m (and_left (ltb p m) (all (λ (p : ℕ). ltb p m) is) t) in
    (below-8 p m a h, all-below m is h (and_right (ltb p m) (all (λ (p : ℕ). ltb p m) is) t))
  where
    below-8 : (p m : ℕ) → p < m → m ≤ 8 → p < 8
    below-8 p m a h = omega arith

module _ (n : ℕ) (a b : BasicSet) (va : Valid n a) (vb : Valid n b) (few : length (joined_divisions a b) ≤ 8) where
  j : Good [] a.divisions b.divisions (join a.divisions b.divisions)
  j = joined [] a.divisions b.divisions

  pub joined-valid : All (ValidDivision n) (joined_divisions a b)
  joined-valid = all-joined (ValidDivision n) a.divisions [] a.divisions b.divisions va.divisions vb.divisions

  pub first-valid : All (ValidConstraint n (length (joined_divisions a b))) a.constraints
  first-valid = all-imp (ValidConstraint n (length a.divisions)) (ValidConstraint n (length (joined_divisions a b))) wider a.constraints va.constraints
    where
      wider : (r : Constraint) → ValidConstraint n (length a.divisions) r → ValidConstraint n (length (joined_divisions a b)) r
      wider r v =
          record {
            axis_places = v.axis_places;
            division_places = v.division_places;
            number = v.number;
            width = v.width;
            constant = v.constant;
            axes = v.axes;
            divisions = v.divisions;
            axis_absents = v.axis_absents;
            division_absents = subst (λ (m : ℕ). T (absent m r.divisions)) (sym (ap length j.extends ∙ length-append a.divisions j.extra)) (absent_more (length a.divisions) (length j.extra) r.divisions v.division_absents);
          }

  pub second-valid : All (ValidConstraint n (length (joined_divisions a b))) (moved_constraints a b)
  second-valid = all-mapped (ValidConstraint n (length (joined_divisions a b))) (move_constraint is) (ValidConstraint n (length b.divisions)) moved b.constraints vb.constraints
    where
      is : List ℕ
      is = (join a.divisions b.divisions).places

      moved : (r : Constraint) → ValidConstraint n (length b.divisions) r → ValidConstraint n (length (joined_divisions a b)) (move_constraint is r)
      moved r v =
          let c = coefficients-move is r.divisions v.divisions (spread a.divisions [] a.divisions b.divisions (le_refl (length a.divisions))).apart (all-below (length (joined_divisions a b)) is few j.inside) in
          record {
            axis_places = v.axis_places;
            division_places = c.1;
            number = let m = v.number in omega arith;
            width = v.width;
            constant = v.constant;
            axes = v.axes;
            divisions = c.0;
            axis_absents = v.axis_absents;
            division_absents = absent-move (length (joined_divisions a b)) is r.divisions j.inside;
          }

  pub both-valid : length a.constraints + length b.constraints ≤ 48 → Valid n (both a b)
  both-valid h =
      record {
        few_divisions = few;
        few_constraints = subst (λ (m : ℕ). m ≤ 48) (sym (length-append a.constraints (moved_constraints a b) ∙ ap (λ (m : ℕ). length a.constraints + m) (lib.ListN.length-map b.constraints (move_constraint (join a.divisions b.divisions).places)))) h;
        divisions = joined-valid;
        constraints = all_app (ValidConstraint n (length (joined_divisions a b))) a.constraints (moved_constraints a b) first-valid second-valid;
      }

-- ---- the operations

-- no rule of the basic set has a common divisor left
abbrev pub Tight : BasicSet → Type 0
Tight b = any divisible b.constraints ≡ false

module _ (keep : BasicSet → Bool) (n : ℕ) where
  cut_by-valid : (ds : List Division) → length ds ≤ 8 → All (ValidDivision n) ds → (rs w : List Constraint) → All (ValidConstraint n (length ds)) w → All (ValidConstraint n (length ds)) rs
      → T (candidates_fit keep ds w rs) → All (Valid n) (cut_by keep ds w rs)
  cut_by-valid ds few dv [] w vw vr t = tt
  cut_by-valid ds few dv (r ∷ rs) w vw vr t =
      let k : List BasicSet = kept keep ds w (opposites r) in
      let w' : List Constraint = cond (is_nil k) w (w ++ (tight r ∷ [])) in
      let rest : Bool = cond (ends k r) true (candidates_fit keep ds w' rs) in
      let h : length w + 1 ≤ 48 = leb→le (length w + 1) 48 (and_left (leb (length w + 1) 48) rest t) in
      all_app (Valid n) k (cond (ends k r) [] (cut_by keep ds w' rs))
      (all-filtered (Valid n) keep (map (λ (o : Constraint). record { divisions = ds; constraints = w ++ (tight o ∷ []) }) (opposites r))
      (all-mapped (Valid n) (λ (o : Constraint). record { divisions = ds; constraints = w ++ (tight o ∷ []) }) (ValidConstraint n (length ds))
      (λ o v. record { few_divisions = few; few_constraints = subst (λ (m : ℕ). m ≤ 48) (sym (length-append w (tight o ∷ []))) h; divisions = dv; constraints = all_app (ValidConstraint n (length ds)) w (tight o ∷ []) vw (tight-valid n (length ds) o v, tt) })
      (opposites r) (opposites-valid n (length ds) r vr.0)))
      (ended (ends k r) (candidates_fit keep ds w' rs) (cut_by keep ds w' rs) (cut_by-valid ds few dv rs w' (working k) vr.1) (and_right (leb (length w + 1) 48) rest t))
    where
      working : (k : List BasicSet) → All (ValidConstraint n (length ds)) (cond (is_nil k) w (w ++ (tight r ∷ [])))
      working [] = vw
      working (b ∷ k) = all_app (ValidConstraint n (length ds)) w (tight r ∷ []) vw (tight-valid n (length ds) r vr.0, tt)

      ended : (b f : Bool) (l : List BasicSet) → (T f → All (Valid n) l) → T (cond b true f) → All (Valid n) (cond b [] l)
      ended true f l v t = tt
      ended false f l v t = v t

  -- the pieces of a tight basic set are tight
  cut_by-tight : (ds : List Division) (rs w : List Constraint) → any divisible w ≡ false → All Tight (cut_by keep ds w rs)
  cut_by-tight ds [] w e = tt
  cut_by-tight ds (r ∷ rs) w e =
      let k : List BasicSet = kept keep ds w (opposites r) in
      let w' : List Constraint = cond (is_nil k) w (w ++ (tight r ∷ [])) in
      all_app Tight k (cond (ends k r) [] (cut_by keep ds w' rs))
      (all-filtered Tight keep (map (λ (o : Constraint). record { divisions = ds; constraints = w ++ (tight o ∷ []) }) (opposites r)) (each (opposites r)))
      (ended (ends k r) (cut_by keep ds w' rs) (cut_by-tight ds rs w' (working k)))
    where
      snoc : (w : List Constraint) → any divisible w ≡ false → (o : Constraint) → any divisible (w ++ (tight o ∷ [])) ≡ false
      snoc [] e o = ap (λ (b : Bool). b || false) (divisible-tight o)
      snoc (x ∷ w) e o = at (divisible x) e (snoc w)
        where
          at : (b : Bool) → (b || any divisible w) ≡ false → (any divisible w ≡ false → (o : Constraint) → any divisible (w ++ (tight o ∷ [])) ≡ false) → (b || any divisible (w ++ (tight o ∷ []))) ≡ false
          at true e f = e
          at false e f = f e o

      each : (os : List Constraint) → All Tight (map (λ (o : Constraint). record { divisions = ds; constraints = w ++ (tight o ∷ []) }) os)
      each [] = tt
      each (o ∷ os) = (snoc w e o, each os)

      working : (k : List BasicSet) → any divisible (cond (is_nil k) w (w ++ (tight r ∷ []))) ≡ false
      working [] = e
      working (b ∷ k) = snoc w e r

      ended : (b : Bool) (l : List BasicSet) → All Tight l → All Tight (cond b [] l)
      ended true l v = tt
      ended false l v = v

  pub pieces-tight : (a c : BasicSet) → Tight a → All Tight (cut_tight keep a c)
  unfolding cut_tight
  pieces-tight a c e = cut_by-tight (joined_divisions a c) (moved_constraints a c) a.constraints e

  cut_tight-valid : (a c : BasicSet) → Valid n a → Valid n c → T (cut_tight_fits keep a c) → All (Valid n) (cut_tight keep a c)
  unfolding cut_tight
  cut_tight-valid a c va vc t =
      let f : T (join_fits keep a c) = and_left (join_fits keep a c) (candidates_fit keep (joined_divisions a c) a.constraints (moved_constraints a c)) t in
      let few : length (joined_divisions a c) ≤ 8 = leb→le (length (joined_divisions a c)) 8 f in
      cut_by-valid (joined_divisions a c) few (joined-valid n a c va vc few) (moved_constraints a c) a.constraints (first-valid n a c va vc few) (second-valid n a c va vc few)
      (and_right (join_fits keep a c) (candidates_fit keep (joined_divisions a c) a.constraints (moved_constraints a c)) t)

  all-concat : (P Q : BasicSet → Type 0) (f : BasicSet → Bool) (g : BasicSet → List BasicSet) → ((a : BasicSet) → P a → T (f a) → All Q (g a)) → (l : List BasicSet) → All P l → T (all f l) → All Q (concat_map g l)
  all-concat P Q f g h [] p t = tt
  all-concat P Q f g h (a ∷ l) p t = all_app Q (g a) (concat_map g l) (h a p.0 (and_left (f a) (all f l) t)) (all-concat P Q f g h l p.1 (and_right (f a) (all f l) t))

  pub cut-valid : (a c : BasicSet) → Valid n a → Valid n c → T (cut_fits keep a c) → All (Valid n) (cut keep a c)
  unfolding cut
  cut-valid a c va vc t = all-concat (Valid n) (Valid n) (λ (p : BasicSet). cut_tight_fits keep p c) (λ (p : BasicSet). cut_tight keep p c) (λ p vp f. cut_tight-valid p c vp vc f) (solvable a) (solvable-valid n a va) t

  pub cut_all-valid : (cs : List BasicSet) → All (Valid n) cs → (a : BasicSet) → Valid n a → T (cut_all_fits keep cs a) → All (Valid n) (cut_all keep cs a)
  unfolding difference intersection complement cut_all cut decode encode
  cut_all-valid [] vc a va t = (va, tt)
  cut_all-valid (c ∷ cs) vc a va t =
      all-concat (Valid n) (Valid n) (cut_all_fits keep cs) (cut_all keep cs) (cut_all-valid cs vc.1) (cut keep a c)
      (cut-valid a c va vc.0 (and_left (cut_fits keep a c) (all (cut_all_fits keep cs) (cut keep a c)) t))
      (and_right (cut_fits keep a c) (all (cut_all_fits keep cs) (cut keep a c)) t)

  pub difference-valid : (s t : Set) → All (Valid n) s → All (Valid n) t → T (difference_fits keep s t) → All (Valid n) (difference keep s t)
  unfolding difference intersection complement cut_all cut decode encode
  difference-valid s t vs vt f = all-concat (Valid n) (Valid n) (cut_all_fits keep t) (cut_all keep t) (cut_all-valid t vt) s vs (and_left (all (cut_all_fits keep t) s) (leb (length (difference keep s t)) 32) f)

  -- the result of a difference within the limits decodes to itself
  pub difference-decodes : (s t : Set) → T (axes_fit n) → All (Valid n) s → All (Valid n) t → T (difference_fits keep s t) → decode n (encode (difference keep s t)) ≡ gives (difference keep s t)
  difference-decodes s t h vs vt f =
      valid-decodes n (difference keep s t) h (leb→le (length (difference keep s t)) 32 (and_right (all (cut_all_fits keep t) s) (leb (length (difference keep s t)) 32) f)) (difference-valid s t vs vt f)

  pub intersection-valid : (s t : Set) → All (Valid n) s → All (Valid n) t → T (intersection_fits keep s t) → All (Valid n) (intersection keep s t)
  unfolding intersection
  intersection-valid s t vs vt f =
      let pair : BasicSet → List BasicSet = λ (a : BasicSet). concat_map (λ (b : BasicSet). solvable (both a b)) t in
      all-filtered (Valid n) keep (concat_map pair (concat_map solvable s))
      (all-concat (Valid n) (Valid n) (λ (a : BasicSet). all (both_fits keep a) t) pair (λ a va h. pairs a va t vt h) (concat_map solvable s) (first s vs)
      (and_left (all (λ (a : BasicSet). all (both_fits keep a) t) (concat_map solvable s)) (leb (length (intersection keep s t)) 32) f))
    where
      first : (s : Set) → All (Valid n) s → All (Valid n) (concat_map solvable s)
      first [] v = tt
      first (a ∷ s) v = all_app (Valid n) (solvable a) (concat_map solvable s) (solvable-valid n a v.0) (first s v.1)

      pairs : (a : BasicSet) → Valid n a → (t : Set) → All (Valid n) t → T (all (both_fits keep a) t) → All (Valid n) (concat_map (λ (b : BasicSet). solvable (both a b)) t)
      pairs a va t vt h = all-concat (Valid n) (Valid n) (both_fits keep a) (λ (b : BasicSet). solvable (both a b)) each t vt h
        where
          each : (b : BasicSet) → Valid n b → T (both_fits keep a b) → All (Valid n) (solvable (both a b))
          each b vb g =
              let few : length (joined_divisions a b) ≤ 8 = leb→le (length (joined_divisions a b)) 8 (and_left (join_fits keep a b) (leb (length a.constraints + length b.constraints) 48) g) in
              solvable-valid n (both a b) (both-valid n a b va vb few (leb→le (length a.constraints + length b.constraints) 48 (and_right (join_fits keep a b) (leb (length a.constraints + length b.constraints) 48) g)))
