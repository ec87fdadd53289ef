-- FPL's meaning of a basic set (specs/Existential) is membership by floor divisions, and what the rational points over 1 meet.
use mathlib.Core.Path.{◌≡◌, refl, sym, ap, ap₂, ◌∙◌, subst}
use mathlib.Core.Bool.{Bool, true, false, ◌&&◌, ◌||◌}
use mathlib.Core.List.{List, [], ◌∷◌}
use Prim.Native.Nat.{ℕ, zero, suc}
use native.Mathlib.Omega.{arith}
use lib.Dec.{T}
use lib.IntN.{ℤ, pos, neg_ℤ, ◌+ℤ◌, ◌-ℤ◌, ◌*ℤ◌, *ℤ-zero}
use lib.Signed.{◌≤ℤ◌, ◌<ℤ◌, yes_non_neg}
use lib.ListN.{length, get_or, drop, length-map}
use Rattle.integers.specs.Ring.{ring, quote}
use Rattle.integers.specs.Lin.{le, lt, lin, lia-le, lia-lt}
use Rattle.integers.specs.Div.{floor_z-is, floor-unique}
use Rattle.model.specs.Lists.{all}
use Rattle.model.specs.Sets.{dot, Division, Constraint, BasicSet, Set, holds, value, quotient, quotients, in_basic, in_set, unit, lower, upper, bounds, conditions, whole, meets_basic}
use Rattle.model.specs.Existential.{numerator, Remainder, Remainders, Exists, ExistsIn, here, there}
use Rattle.model.proofs.Count.{and_left, and_right, and-make, from-T, to-T, all_append, no-suc, suc_inj}
use Rattle.model.proofs.Values.{dot-neg, divides, nn}

-- ---- the whole number q with a remainder between 0 and d − 1 is the floor

divisor-positive : {x : List ℤ} {e : Division} {q : ℤ} → Remainder x e q → pos 0 <ℤ pos e.divisor
divisor-positive {x} {e} {q} r = lia-lt (numerator x e ∷ pos e.divisor ∷ q ∷ []) (le r.low ∷ le r.high ∷ []) (search lin depth 30) (omega arith)

remainder-floor : {x : List ℤ} {e : Division} {q : ℤ} → Remainder x e q → q ≡ quotient x e
remainder-floor {x} {e} {q} r =
    let h : pos 0 <ℤ pos e.divisor = divisor-positive r in
    floor-unique h
    (record {
      low = lia-le (numerator x e ∷ pos e.divisor ∷ q ∷ []) (le r.low ∷ []) (search lin depth 30) (omega arith);
      high = lia-lt (numerator x e ∷ pos e.divisor ∷ q ∷ []) (le r.high ∷ []) (search lin depth 30) (omega arith);
    })
    (floor_z-is (numerator x e) {d = pos e.divisor} h)

floor-remainder : (x : List ℤ) (e : Division) → T (divides e) → Remainder x e (quotient x e)
floor-remainder x e t =
    let f = floor_z-is (numerator x e) {d = pos e.divisor} (record { lt = t }) in
    record {
      low = lia-le (numerator x e ∷ pos e.divisor ∷ quotient x e ∷ []) (le f.low ∷ []) (search lin depth 30) (omega arith);
      high = lia-le (numerator x e ∷ pos e.divisor ∷ quotient x e ∷ []) (lt f.high ∷ []) (search lin depth 30) (omega arith);
    }

remainders-floor : (x : List ℤ) (es : List Division) (qs : List ℤ) → Remainders x es qs → qs ≡ quotients es x
remainders-floor x [] [] r = refl
remainders-floor x [] (q ∷ qs) r = absurd r
remainders-floor x (e ∷ es) [] r = absurd r
remainders-floor x (e ∷ es) (q ∷ qs) r = ap₂ (λ (z : ℤ) (l : List ℤ). z ∷ l) (remainder-floor r.0) (remainders-floor x es qs r.1)

floor-remainders : (x : List ℤ) (es : List Division) → T (all divides es) → Remainders x es (quotients es x)
floor-remainders x [] t = tt
floor-remainders x (e ∷ es) t = (floor-remainder x e (and_left (divides e) (all divides es) t), floor-remainders x es (and_right (divides e) (all divides es) t))

pub remainders-length : (x : List ℤ) (es : List Division) (qs : List ℤ) → Remainders x es qs → length qs ≡ length es
remainders-length x es qs r = ap length (remainders-floor x es qs r) ∙ length-map es (quotient x)

-- ---- membership

-- whole numbers q for which the constraints hold: then the point is a member, whatever the divisors
pub exists-member : (x : List ℤ) (b : BasicSet) → Exists x b → T (in_basic x b)
exists-member x b w = subst (λ (q : List ℤ). T (all (holds (pos 1) x q) b.constraints)) (remainders-floor x b.divisions w.q w.remainders) w.constraints

pub member-exists : (x : List ℤ) (b : BasicSet) → T (all divides b.divisions) → T (in_basic x b) → Exists x b
member-exists x b d t = record { q = quotients b.divisions x; remainders = floor-remainders x b.divisions d; constraints = t }

pub exists-in-set : (x : List ℤ) (s : Set) → ExistsIn x s → T (in_set x s)
exists-in-set x [] h = elim h [ ]
exists-in-set x (_ ∷ _) (here {b = b} {s = s} w) = subst (λ (p : Bool). T (p || in_set x s)) (sym (from-T (in_basic x b) (exists-member x b w))) tt
exists-in-set x (_ ∷ _) (there {b = b} {s = s} w) = or_right (in_basic x b) (in_set x s) (exists-in-set x s w)
  where
    or_right : (p q : Bool) → T q → T (p || q)
    or_right true q t = tt
    or_right false q t = t

pub in-set-exists : (x : List ℤ) (s : Set) → T (all (λ (b : BasicSet). all divides b.divisions) s) → T (in_set x s) → ExistsIn x s
in-set-exists x [] d t = absurd t
in-set-exists x (b ∷ s) d t =
    by (in_basic x b) refl t (in-set-exists x s (and_right (all divides b.divisions) (all (λ (b : BasicSet). all divides b.divisions) s) d))
  where
    by : (p : Bool) → in_basic x b ≡ p → T (p || in_set x s) → (T (in_set x s) → ExistsIn x s) → ExistsIn x (b ∷ s)
    by true e t ih = here (member-exists x b (and_left (all divides b.divisions) (all (λ (b : BasicSet). all divides b.divisions) s) d) (to-T (in_basic x b) e))
    by false e t ih = there (ih t)

-- ---- the divisions' bounds as constraints say the same: numerator − d·q ≥ 0, d·q − numerator + d − 1 ≥ 0

dot-unit : (i : ℕ) (z : ℤ) (q : List ℤ) → dot (unit i z) q ≡ z *ℤ get_or q i (pos 0)
dot-unit zero z [] = sym (*ℤ-zero z)
dot-unit zero z (y ∷ q) = ring (z ∷ y ∷ []) (search quote depth 30) tt
dot-unit (suc i) z [] = sym (*ℤ-zero z)
dot-unit (suc i) z (y ∷ q) = ap (λ (u : ℤ). pos 0 *ℤ y +ℤ u) (dot-unit i z q) ∙ ring (z ∷ y ∷ get_or q i (pos 0) ∷ []) (search quote depth 30) tt

module _ (x q : List ℤ) (i : ℕ) (e : Division) where
  lower-value : value (pos 1) x q (lower i e) ≡ numerator x e -ℤ pos e.divisor *ℤ get_or q i (pos 0)
  lower-value =
      ap (λ (z : ℤ). e.constant *ℤ pos 1 +ℤ (dot e.axes x +ℤ z)) (dot-unit i (neg_ℤ (pos e.divisor)) q)
      ∙ ring (e.constant ∷ dot e.axes x ∷ pos e.divisor ∷ get_or q i (pos 0) ∷ []) (search quote depth 30) tt

  upper-value : value (pos 1) x q (upper i e) ≡ pos e.divisor -ℤ pos 1 -ℤ (numerator x e -ℤ pos e.divisor *ℤ get_or q i (pos 0))
  upper-value =
      ap₂ (λ (a z : ℤ). (pos e.divisor -ℤ pos 1 -ℤ e.constant) *ℤ pos 1 +ℤ (a +ℤ z)) (dot-neg e.axes x) (dot-unit i (pos e.divisor) q)
      ∙ ring (e.constant ∷ dot e.axes x ∷ pos e.divisor ∷ get_or q i (pos 0) ∷ []) (search quote depth 30) tt

  bounds-remainder : T (holds (pos 1) x q (lower i e)) → T (holds (pos 1) x q (upper i e)) → Remainder x e (get_or q i (pos 0))
  bounds-remainder s t =
      let l : pos 0 ≤ℤ value (pos 1) x q (lower i e) = nn s in
      let u : pos 0 ≤ℤ value (pos 1) x q (upper i e) = nn t in
      let u' : pos 0 ≤ℤ (pos e.divisor -ℤ pos 1 -ℤ (numerator x e -ℤ pos e.divisor *ℤ get_or q i (pos 0))) = subst (λ (z : ℤ). pos 0 ≤ℤ z) upper-value u in
      record {
        low = subst (λ (z : ℤ). pos 0 ≤ℤ z) lower-value l;
        high = lia-le (numerator x e ∷ pos e.divisor ∷ get_or q i (pos 0) ∷ []) (le u' ∷ []) (search lin depth 30) (omega arith);
      }

  lower-holds : Remainder x e (get_or q i (pos 0)) → T (holds (pos 1) x q (lower i e))
  lower-holds r = yes_non_neg (subst (λ (z : ℤ). pos 0 ≤ℤ z) (sym lower-value) r.low)

  upper-holds : Remainder x e (get_or q i (pos 0)) → T (holds (pos 1) x q (upper i e))
  upper-holds r =
      yes_non_neg (subst (λ (z : ℤ). pos 0 ≤ℤ z) (sym upper-value) (lia-le (numerator x e ∷ pos e.divisor ∷ get_or q i (pos 0) ∷ []) (le r.high ∷ []) (search lin depth 30) (omega arith)))

drop_head : (i : ℕ) (q : List ℤ) (y : ℤ) (ys : List ℤ) → drop i q ≡ y ∷ ys → (get_or q i (pos 0) ≡ y) × (drop (suc i) q ≡ ys)
drop_head zero [] y ys e = no-suc (sym (ap length e))
drop_head zero (z ∷ q) y ys e = (cc, cc)
drop_head (suc i) [] y ys e = no-suc (sym (ap length e))
drop_head (suc i) (z ∷ q) y ys e = drop_head i q y ys e

module _ (x q : List ℤ) where
  bounds-remainders : (i : ℕ) (es : List Division) (qs : List ℤ) → drop i q ≡ qs → length qs ≡ length es → T (all (holds (pos 1) x q) (bounds i es)) → Remainders x es qs
  bounds-remainders i [] [] e l t = tt
  bounds-remainders i [] (y ∷ qs) e l t = no-suc l
  bounds-remainders i (f ∷ es) [] e l t = no-suc (sym l)
  bounds-remainders i (f ∷ es) (y ∷ qs) e l t =
      let d = drop_head i q y qs e in
      let more : Bool = all (holds (pos 1) x q) (bounds (suc i) es) in
      let u = and_right (holds (pos 1) x q (lower i f)) (holds (pos 1) x q (upper i f) && more) t in (
        subst (Remainder x f) d.0 (bounds-remainder x q i f (and_left (holds (pos 1) x q (lower i f)) (holds (pos 1) x q (upper i f) && more) t) (and_left (holds (pos 1) x q (upper i f)) more u)),
        bounds-remainders (suc i) es qs d.1 (suc_inj l) (and_right (holds (pos 1) x q (upper i f)) more u),
      )

  remainders-bounds : (i : ℕ) (es : List Division) (qs : List ℤ) → drop i q ≡ qs → Remainders x es qs → T (all (holds (pos 1) x q) (bounds i es))
  remainders-bounds i [] qs e r = tt
  remainders-bounds i (f ∷ es) [] e r = absurd r
  remainders-bounds i (f ∷ es) (y ∷ qs) e r =
      let d = drop_head i q y qs e in
      let here : Remainder x f (get_or q i (pos 0)) = subst (Remainder x f) (sym d.0) r.0 in
      let more : Bool = all (holds (pos 1) x q) (bounds (suc i) es) in
      and-make (holds (pos 1) x q (lower i f)) (holds (pos 1) x q (upper i f) && more) (lower-holds x q i f here)
      (and-make (holds (pos 1) x q (upper i f)) more (upper-holds x q i f here) (remainders-bounds (suc i) es qs d.1 r.1))

-- a rational point over 1 meets the basic set exactly when its q are such whole numbers
pub whole_meets : (b : BasicSet) (x : List ℤ) (w : Exists x b) → T (meets_basic (whole x w.q) b)
whole_meets b x w =
    let h : Constraint → Bool = holds (pos 1) x w.q in
    to-T (all h (conditions b))
    (all_append h (bounds 0 b.divisions) b.constraints
    ∙ from-T (all h (bounds 0 b.divisions) && all h b.constraints)
    (and-make (all h (bounds 0 b.divisions)) (all h b.constraints) (remainders-bounds x w.q 0 b.divisions w.q refl w.remainders) w.constraints))

pub meets-whole : (b : BasicSet) (x q : List ℤ) → length q ≡ length b.divisions → T (meets_basic (whole x q) b) → Exists x b
meets-whole b x q l t =
    let h : Constraint → Bool = holds (pos 1) x q in
    let u : T (all h (bounds 0 b.divisions) && all h b.constraints) = to-T (all h (bounds 0 b.divisions) && all h b.constraints) (sym (all_append h (bounds 0 b.divisions) b.constraints) ∙ from-T (all h (conditions b)) t) in
    record {
      q = q;
      remainders = bounds-remainders x q 0 b.divisions q refl l (and_left (all h (bounds 0 b.divisions)) (all h b.constraints) u);
      constraints = and_right (all h (bounds 0 b.divisions)) (all h b.constraints) u;
    }
