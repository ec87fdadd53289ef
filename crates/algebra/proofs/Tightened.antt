-- A tightened rule holds at the same integer points, and no integer point meets a void one; a tightened rule is tight; opposites and
-- tightening change places.
use mathlib.Core.Path.{◌≡◌, refl, sym, ap, ap₂, ◌∙◌, subst}
use mathlib.Core.Bool.{Bool, true, false, not, ◌&&◌, ◌||◌, cond}
use mathlib.Core.List.{List, [], ◌∷◌, ◌++◌, map}
use Prim.Native.Nat.{ℕ, zero, suc, ◌*◌, ◌/◌, ◌%◌, ◌<◌, ◌∣◌}
use native.Mathlib.Nat.{add-zero, dvd-mul_right, dvd_of_mod-eq-zero, mod-eq-zero_of_dvd, div-le_self}
use native.Mathlib.Omega.{arith}
use lib.Dec.{T, ltb, ltb→lt, lt→ltb, eqb, eqb→eq}
use lib.IntN.{ℤ, pos, negsuc, neg_ℤ, nat_abs, ◌+ℤ◌, ◌-ℤ◌, ◌*ℤ◌}
use lib.Signed.{◌≤ℤ◌, ◌<ℤ◌, non_neg}
use lib.ListN.{length}
use Rattle.integers.specs.Ring.{ring, quote}
use Rattle.integers.specs.Lin.{le, eq, lin, lia-le, lia-eq}
use Rattle.integers.specs.Order.{<ℤ-≤ℤ, mul-nonneg, mul-cancel}
use Rattle.integers.specs.Size.{nat_abs-neg, nat_abs_mul}
use Rattle.integers.specs.Div.{floor_z-is, le-floor, floor-opposite, floor-exact, floor-neg, floor-less}
use Rattle.integers.specs.Gcd.{Divides, divides-parts, divides-quotients, greatest-leaves-one}
use Rattle.model.specs.Lists.{all, any}
use Rattle.model.specs.Sets.{dot, floor_div, Division, Kind, equality, inequality, Constraint, BasicSet, is_zero, meets, value, holds, quotients, in_constraints, in_basic, in_set, absent, well_formed}
use Rattle.feasibility.specs.Tableau.{common_divisor}
use Rattle.feasibility.proofs.Reduce.{common-divides, common-most, dot-evenly}
use Rattle.model.proofs.Lists.{map-append}
use Rattle.model.proofs.Count.{ind, count, and_left, and_right, and-make, to-T, any-count}
use Rattle.model.proofs.Values.{divides, fits, is_zero→, nn}
use Rattle.algebra.specs.Tighten.{content, divisible, undivided, void, divided_down, tight, tightened, solvable}
use Rattle.algebra.specs.Cut.{above, below}

-- ---- the common divisor of the coefficients divides them

pub content-axes : (r : Constraint) → Divides (content r) r.axes
content-axes r = (divides-parts (content r) r.axes r.divisions (common-divides (r.axes ++ r.divisions))).0

pub content-divisions : (r : Constraint) → Divides (content r) r.divisions
content-divisions r = (divides-parts (content r) r.axes r.divisions (common-divides (r.axes ++ r.divisions))).1

-- what is known in each of the two cases
pub data Over (g : ℕ) : Bool → Type 0 where
  over : 1 < g → Over g true
  plain : Over g false

pub is-over : (g : ℕ) → Over g (ltb 1 g)
is-over g = at (ltb 1 g) refl
  where
    at : (b : Bool) → ltb 1 g ≡ b → Over g b
    at true e = over (ltb→lt 1 g (to-T (ltb 1 g) e))
    at false e = plain

-- ---- the signs and zeros of a value and of the divided one: g · s the sum of the divided products, c the constant

same_bool : (a b : Bool) → (T a → T b) → (T b → T a) → a ≡ b
same_bool true true f g = refl
same_bool true false f g = absurd (f tt)
same_bool false true f g = absurd (g tt)
same_bool false false f g = refl

from-nn : (z : ℤ) → pos 0 ≤ℤ z → T (non_neg z)
from-nn (pos n) h = tt
from-nn (negsuc n) h = absurd h.le

zero_is : (z : ℤ) → z ≡ pos 0 → T (is_zero z)
zero_is z e = subst (λ (y : ℤ). T (is_zero y)) (sym e) tt

module _ (g : ℕ) (h : 0 < g) (c a d : ℤ) where
  G : pos 0 <ℤ pos g
  G = record { lt = lt→ltb 0 g h }

  sign_same : non_neg (floor_div c g *ℤ pos 1 +ℤ (a +ℤ d)) ≡ non_neg (c *ℤ pos 1 +ℤ (pos g *ℤ a +ℤ pos g *ℤ d))
  sign_same =
      let f = floor_div c g in
      let k = floor_z-is c G in
      same_bool (non_neg (f *ℤ pos 1 +ℤ (a +ℤ d))) (non_neg (c *ℤ pos 1 +ℤ (pos g *ℤ a +ℤ pos g *ℤ d)))
      (λ t.
      let u : pos 0 ≤ℤ (f *ℤ pos 1 +ℤ (a +ℤ d)) = nn t in
      let p : pos 0 ≤ℤ (f +ℤ a +ℤ d) = lia-le (f ∷ a ∷ d ∷ []) (le u ∷ []) (search lin depth 30) (omega arith) in
      let q = mul-nonneg (<ℤ-≤ℤ G) p in
      from-nn (c *ℤ pos 1 +ℤ (pos g *ℤ a +ℤ pos g *ℤ d)) (lia-le (f ∷ a ∷ d ∷ c ∷ pos g ∷ []) (le q ∷ le k.low ∷ []) (search lin depth 30) (omega arith)))
      (λ t.
      let u : pos 0 ≤ℤ (c *ℤ pos 1 +ℤ (pos g *ℤ a +ℤ pos g *ℤ d)) = nn t in
      let p : ((neg_ℤ a -ℤ d) *ℤ pos g) ≤ℤ c = lia-le (a ∷ d ∷ c ∷ pos g ∷ []) (le u ∷ []) (search lin depth 30) (omega arith) in
      let q : (neg_ℤ a -ℤ d) ≤ℤ f = le-floor G p in
      from-nn (f *ℤ pos 1 +ℤ (a +ℤ d)) (lia-le (f ∷ a ∷ d ∷ []) (le q ∷ []) (search lin depth 30) (omega arith)))

  zero_same : g ∣ nat_abs c → is_zero (floor_div c g *ℤ pos 1 +ℤ (a +ℤ d)) ≡ is_zero (c *ℤ pos 1 +ℤ (pos g *ℤ a +ℤ pos g *ℤ d))
  zero_same k =
      let f = floor_div c g in
      let e : f *ℤ pos g ≡ c = floor-exact c g h k in
      same_bool (is_zero (f *ℤ pos 1 +ℤ (a +ℤ d))) (is_zero (c *ℤ pos 1 +ℤ (pos g *ℤ a +ℤ pos g *ℤ d)))
      (λ t.
      let u : f *ℤ pos 1 +ℤ (a +ℤ d) ≡ pos 0 = is_zero→ (f *ℤ pos 1 +ℤ (a +ℤ d)) t in
      let z : f +ℤ a +ℤ d ≡ pos 0 = lia-eq (f ∷ a ∷ d ∷ []) (eq u ∷ []) (search lin depth 30) (omega arith) in
      let q : (f +ℤ a +ℤ d) *ℤ pos g ≡ pos 0 = ap (λ (y : ℤ). y *ℤ pos g) z ∙ ring (pos g ∷ []) {a = pos 0 *ℤ pos g} {b = pos 0} (search quote depth 30) tt in
      zero_is (c *ℤ pos 1 +ℤ (pos g *ℤ a +ℤ pos g *ℤ d)) (lia-eq (f ∷ a ∷ d ∷ c ∷ pos g ∷ []) (eq q ∷ eq e ∷ []) (search lin depth 30) (omega arith)))
      (λ t.
      let u : c *ℤ pos 1 +ℤ (pos g *ℤ a +ℤ pos g *ℤ d) ≡ pos 0 = is_zero→ (c *ℤ pos 1 +ℤ (pos g *ℤ a +ℤ pos g *ℤ d)) t in
      let z : (f +ℤ a +ℤ d) *ℤ pos g ≡ pos 0 *ℤ pos g = lia-eq (f ∷ a ∷ d ∷ c ∷ pos g ∷ []) (eq u ∷ eq e ∷ []) (search lin depth 30) (omega arith) in
      let q : f +ℤ a +ℤ d ≡ pos 0 = mul-cancel G z in
      zero_is (f *ℤ pos 1 +ℤ (a +ℤ d)) (lia-eq (f ∷ a ∷ d ∷ []) (eq q ∷ []) (search lin depth 30) (omega arith)))

  -- a value of 0 is divided by g, and so is the constant
  zero-divides : c *ℤ pos 1 +ℤ (pos g *ℤ a +ℤ pos g *ℤ d) ≡ pos 0 → g ∣ nat_abs c
  zero-divides e =
      let k : c ≡ pos g *ℤ (neg_ℤ a -ℤ d) = lia-eq (c ∷ a ∷ d ∷ pos g ∷ []) (eq e ∷ []) (search lin depth 30) (omega arith) in
      subst (λ (n : ℕ). g ∣ n) (sym (ap nat_abs k ∙ nat_abs_mul (pos g) (neg_ℤ a -ℤ d))) (dvd-mul_right g (nat_abs (neg_ℤ a -ℤ d)))

-- ---- void or not

divided-by : (g : ℕ) (z : ℤ) → undivided equality g z ≡ false → g ∣ nat_abs z
divided-by g z e = dvd_of_mod-eq-zero g (at (eqb (nat_abs z % g) 0) refl e)
  where
    at : (b : Bool) → eqb (nat_abs z % g) 0 ≡ b → not b ≡ false → nat_abs z % g ≡ 0
    at true p q = eqb→eq (nat_abs z % g) 0 (to-T (eqb (nat_abs z % g) 0) p)
    at false p q = let y : ◌≡◌ {A = ℕ} 0 1 = cc in absurd (omega arith)

not-divided : (g : ℕ) (z : ℤ) → undivided equality g z ≡ true → g ∣ nat_abs z → ⊥
not-divided g z e d = at (eqb (nat_abs z % g) 0) refl e
  where
    at : (b : Bool) → eqb (nat_abs z % g) 0 ≡ b → not b ≡ true → ⊥
    at true p q = let y : ◌≡◌ {A = ℕ} 0 1 = cc in omega arith
    at false p q = let y : T (eqb (nat_abs z % g) 0) = subst (λ (n : ℕ). T (eqb n 0)) (sym (mod-eq-zero_of_dvd g d)) tt in subst T p y

-- an inequality is never void
pub inequality-solvable : (r : Constraint) → r.kind ≡ inequality → void r ≡ false
inequality-solvable r e = ap (λ (k : Kind). cond (ltb 1 (content r)) (undivided k (content r) r.constant) false) e ∙ at (ltb 1 (content r))
  where
    at : (b : Bool) → cond b false false ≡ false
    at true = refl
    at false = refl

-- ---- at integer points

module _ (x q : List ℤ) where
  -- the divided products, g times, are the products
  parts : (r : Constraint) → 0 < content r
      → r.constant *ℤ pos 1 +ℤ (pos (content r) *ℤ dot (divided_down (content r) r).axes x +ℤ pos (content r) *ℤ dot (divided_down (content r) r).divisions q) ≡ value (pos 1) x q r
  parts r h = ap₂ (λ (a d : ℤ). r.constant *ℤ pos 1 +ℤ (a +ℤ d)) (dot-evenly (content r) r.axes x h (content-axes r)) (dot-evenly (content r) r.divisions q h (content-divisions r))

  pub tight-holds : (r : Constraint) → void r ≡ false → holds (pos 1) x q (tight r) ≡ holds (pos 1) x q r
  tight-holds r e = at (ltb 1 (content r)) (is-over (content r)) e
    where
      g : ℕ
      g = content r

      by : (h : 0 < g) (k : Kind) → undivided k g r.constant ≡ false → meets k (value (pos 1) x q (divided_down g r)) ≡ meets k (value (pos 1) x q r)
      by h equality e = zero_same g h r.constant (dot (divided_down g r).axes x) (dot (divided_down g r).divisions q) (divided-by g r.constant e) ∙ ap is_zero (parts r h)
      by h inequality e = sign_same g h r.constant (dot (divided_down g r).axes x) (dot (divided_down g r).divisions q) ∙ ap non_neg (parts r h)

      at : (b : Bool) → Over g b → cond b (undivided r.kind g r.constant) false ≡ false → holds (pos 1) x q (cond b (divided_down g r) r) ≡ holds (pos 1) x q r
      at true (over h) e = let p : 0 < g = omega arith in by p r.kind e
      at false o e = refl

  pub void-none : (r : Constraint) → void r ≡ true → holds (pos 1) x q r ≡ false
  void-none r e = at (ltb 1 (content r)) (is-over (content r)) e
    where
      g : ℕ
      g = content r

      by : (h : 0 < g) (k : Kind) → undivided k g r.constant ≡ true → meets k (value (pos 1) x q r) ≡ false
      by h equality e = no (is_zero (value (pos 1) x q r)) refl
        where
          no : (b : Bool) → is_zero (value (pos 1) x q r) ≡ b → is_zero (value (pos 1) x q r) ≡ false
          no true z = absurd (not-divided g r.constant e (zero-divides g h r.constant (dot (divided_down g r).axes x) (dot (divided_down g r).divisions q) (parts r h ∙ is_zero→ (value (pos 1) x q r) (to-T (is_zero (value (pos 1) x q r)) z))))
          no false z = z
      by h inequality e = let y : ◌≡◌ {A = ℕ} 0 1 = cc in absurd (omega arith)

      at : (b : Bool) → Over g b → cond b (undivided r.kind g r.constant) false ≡ true → holds (pos 1) x q r ≡ false
      at true (over h) e = let p : 0 < g = omega arith in by p r.kind e
      at false o e = let y : ◌≡◌ {A = ℕ} 0 1 = cc in absurd (omega arith)

-- ---- basic sets

pub any_false : (a b : Bool) → (a || b) ≡ false → (a ≡ false) × (b ≡ false)
any_false true b e = let y : ◌≡◌ {A = ℕ} 0 1 = cc in absurd (omega arith)
any_false false b e = (refl, e)

module _ (x : List ℤ) (ds : List Division) where
  pub tight-all : (rs : List Constraint) → any void rs ≡ false → in_constraints x ds (map tight rs) ≡ in_constraints x ds rs
  tight-all [] e = refl
  tight-all (r ∷ rs) e = let p = any_false (void r) (any void rs) e in ap₂ ◌&&◌ (tight-holds x (quotients ds x) r p.0) (tight-all rs p.1)

  pub void-all : (rs : List Constraint) → any void rs ≡ true → in_constraints x ds rs ≡ false
  void-all [] e = let y : ◌≡◌ {A = ℕ} 0 1 = cc in absurd (omega arith)
  void-all (r ∷ rs) e = at (void r) refl (void-all rs)
    where
      right : (p : Bool) → (p && false) ≡ false
      right true = refl
      right false = refl

      at : (b : Bool) → void r ≡ b → (any void rs ≡ true → in_constraints x ds rs ≡ false) → (holds (pos 1) x (quotients ds x) r && in_constraints x ds rs) ≡ false
      at true p f = ap (λ (t : Bool). t && in_constraints x ds rs) (void-none x (quotients ds x) r p)
      at false p f = ap (λ (t : Bool). holds (pos 1) x (quotients ds x) r && t) (f (sym (ap (λ (t : Bool). t || any void rs) p) ∙ e)) ∙ right (holds (pos 1) x (quotients ds x) r)

pub solvable-count : (x : List ℤ) (b : BasicSet) → count (in_basic x) (solvable b) ≡ ind (in_basic x b)
solvable-count x b = at (any void b.constraints) refl
  where
    at : (v : Bool) → any void b.constraints ≡ v → count (in_basic x) (cond v [] (tightened b ∷ [])) ≡ ind (in_basic x b)
    at true e = sym (ap ind (void-all x b.divisions b.constraints e))
    at false e = add-zero (ind (in_basic x (tightened b))) ∙ ap ind (tight-all x b.divisions b.constraints e)

pub solvable-in : (x : List ℤ) (b : BasicSet) → in_set x (solvable b) ≡ in_basic x b
solvable-in x b = any-count (in_basic x) (solvable b) ∙ ap (ltb 0) (solvable-count x b) ∙ at (in_basic x b)
  where
    at : (p : Bool) → ltb 0 (ind p) ≡ p
    at true = refl
    at false = refl

-- ---- well-formed

zero-divided : (g : ℕ) (z : ℤ) → T (is_zero z) → T (is_zero (floor_div z g))
zero-divided g z t = zero_is (floor_div z g) (ap (λ (y : ℤ). floor_div y g) (is_zero→ z t) ∙ ap pos (let e : 0 / g ≡ 0 = none g in e))
  where
    none : (g : ℕ) → 0 / g ≡ 0
    none g = let h = div-le_self 0 g in omega arith

pub absent-divided : (g n : ℕ) (cs : List ℤ) → T (absent n cs) → T (absent n (map (λ (z : ℤ). floor_div z g) cs))
absent-divided g zero [] t = tt
absent-divided g zero (c ∷ cs) t = and-make (is_zero (floor_div c g)) (all is_zero (map (λ (z : ℤ). floor_div z g) cs)) (zero-divided g c (and_left (is_zero c) (all is_zero cs) t)) (absent-divided g zero cs (and_right (is_zero c) (all is_zero cs) t))
absent-divided g (suc n) [] t = tt
absent-divided g (suc n) (c ∷ cs) t = absent-divided g n cs t

pub tight-fit : (ds : List Division) (r : Constraint) → T (fits ds r) → T (fits ds (tight r))
tight-fit ds r t = at (ltb 1 (content r))
  where
    at : (b : Bool) → T (fits ds (cond b (divided_down (content r) r) r))
    at true = absent-divided (content r) (length ds) r.divisions t
    at false = t

tight-fits : (ds : List Division) (rs : List Constraint) → T (all (fits ds) rs) → T (all (fits ds) (map tight rs))
tight-fits ds [] t = tt
tight-fits ds (r ∷ rs) t = and-make (fits ds (tight r)) (all (fits ds) (map tight rs)) (tight-fit ds r (and_left (fits ds r) (all (fits ds) rs) t)) (tight-fits ds rs (and_right (fits ds r) (all (fits ds) rs) t))

pub solvable-formed : (b : BasicSet) → T (well_formed b) → T (all well_formed (solvable b))
solvable-formed b t = at (any void b.constraints)
  where
    at : (v : Bool) → T (all well_formed (cond v [] (tightened b ∷ [])))
    at true = tt
    at false =
        and-make (well_formed (tightened b)) true
        (and-make (all divides b.divisions) (all (fits b.divisions) (map tight b.constraints))
        (and_left (all divides b.divisions) (all (fits b.divisions) b.constraints) t)
        (tight-fits b.divisions b.constraints (and_right (all divides b.divisions) (all (fits b.divisions) b.constraints) t))) tt

-- ---- a tightened rule is tight

pub content-tight : (r : Constraint) → 1 < content r → content (divided_down (content r) r) ≡ 1
content-tight r h =
    let g = content r in
    let zs : List ℤ = r.axes ++ r.divisions in
    let f : ℤ → ℤ = λ (z : ℤ). floor_div z g in
    let k = content (divided_down g r) in
    let p : 0 < g = omega arith in
    let d : Divides k (map f zs) = subst (Divides k) (sym (map-append f r.axes r.divisions)) (common-divides (map f r.axes ++ map f r.divisions)) in
    greatest-leaves-one g k p (common-most (g * k) zs (divides-quotients g k zs p (common-divides zs) d))

pub tight-tight : (r : Constraint) → tight (tight r) ≡ tight r
tight-tight r = at (ltb 1 (content r)) refl (is-over (content r))
  where
    at : (b : Bool) → ltb 1 (content r) ≡ b → Over (content r) b → tight (cond b (divided_down (content r) r) r) ≡ cond b (divided_down (content r) r) r
    at true e (over h) = let s : Constraint = divided_down (content r) r in ap (λ (n : ℕ). cond (ltb 1 n) (divided_down (content s) s) s) (content-tight r h)
    at false e o = ap (λ (b : Bool). cond b (divided_down (content r) r) r) e

-- ---- opposites and tightening change places

abs-negs : (xs : List ℤ) → common_divisor (map neg_ℤ xs) ≡ common_divisor xs
abs-negs [] = refl
abs-negs (x ∷ xs) = ap₂ Rattle.feasibility.specs.Tableau.gcd (nat_abs-neg x) (abs-negs xs)

pub content-below : (r : Constraint) → content (below r) ≡ content r
content-below r = ap common_divisor (sym (map-append neg_ℤ r.axes r.divisions)) ∙ abs-negs (r.axes ++ r.divisions)

quotients-neg : (g : ℕ) → 0 < g → (xs : List ℤ) → Divides g xs → map (λ (z : ℤ). floor_div z g) (map neg_ℤ xs) ≡ map neg_ℤ (map (λ (z : ℤ). floor_div z g) xs)
quotients-neg g h [] d = refl
quotients-neg g h (x ∷ xs) d = ap₂ ◌∷◌ (floor-neg x g h d.0) (quotients-neg g h xs d.1)

-- ⌊(−c − 1) / g⌋ is −⌊c / g⌋ − 1: for every rule, void ones too
pub tight-below : (r : Constraint) → tight (below r) ≡ below (tight r)
tight-below r = ap (λ (n : ℕ). cond (ltb 1 n) (divided_down n (below r)) (below r)) (content-below r) ∙ at (ltb 1 (content r)) (is-over (content r))
  where
    g : ℕ
    g = content r

    at : (b : Bool) → Over g b → cond b (divided_down g (below r)) (below r) ≡ below (cond b (divided_down g r) r)
    at true (over h) =
        let p : 0 < g = omega arith in
        let c = floor-opposite r.constant g in
        let a = quotients-neg g p r.axes (content-axes r) in
        let d = quotients-neg g p r.divisions (content-divisions r) in
        λ i. record { kind = inequality; number = (divided_down g (below r)).number; constant = c i; axes = a i; divisions = d i }
    at false o = refl

-- of an equality that is not void: ⌊(c − 1) / g⌋ is ⌊c / g⌋ − 1 only where g divides c
pub tight-above : (r : Constraint) → r.kind ≡ equality → void r ≡ false → tight (above r) ≡ above (tight r)
tight-above r k e = at (ltb 1 (content r)) (is-over (content r)) (sym (ap (λ (q : Kind). cond (ltb 1 (content r)) (undivided q (content r) r.constant) false) k) ∙ e)
  where
    g : ℕ
    g = content r

    at : (b : Bool) → Over g b → cond b (undivided equality g r.constant) false ≡ false → cond b (divided_down g (above r)) (above r) ≡ above (cond b (divided_down g r) r)
    at true (over h) e =
        let p : 0 < g = omega arith in
        let c = floor-less r.constant g p (divided-by g r.constant e) in
        λ i. record { kind = inequality; number = (divided_down g (above r)).number; constant = c i; axes = (divided_down g r).axes; divisions = (divided_down g r).divisions }
    at false o e = refl

-- so a piece can be made from the tightened rule
pub below_again : (r : Constraint) → tight (below (tight r)) ≡ tight (below r)
below_again r = ap tight (sym (tight-below r)) ∙ tight-tight (below r)

pub above-again : (r : Constraint) → r.kind ≡ equality → void r ≡ false → tight (above (tight r)) ≡ tight (above r)
above-again r k e = ap tight (sym (tight-above r k e)) ∙ tight-tight (above r)

pub tight-kind : (r : Constraint) → (tight r).kind ≡ r.kind
tight-kind r = at (ltb 1 (content r))
  where
    at : (b : Bool) → (cond b (divided_down (content r) r) r).kind ≡ r.kind
    at true = refl
    at false = refl

-- a tightened rule is not void
pub void-tight : (r : Constraint) → void (tight r) ≡ false
void-tight r = at (ltb 1 (content r)) refl (is-over (content r))
  where
    at : (b : Bool) → ltb 1 (content r) ≡ b → Over (content r) b → void (cond b (divided_down (content r) r) r) ≡ false
    at true e (over h) = let s : Constraint = divided_down (content r) r in ap (λ (n : ℕ). cond (ltb 1 n) (undivided s.kind (content s) s.constant) false) (content-tight r h)
    at false e o = ap (λ (b : Bool). cond b (undivided r.kind (content r) r.constant) false) e

-- ---- a basic set without common divisors is tight

module _ (b : BasicSet) (e : any divisible b.constraints ≡ false) where
  none-void : (rs : List Constraint) → any divisible rs ≡ false → any void rs ≡ false
  none-void [] e = refl
  none-void (r ∷ rs) e = at (divisible r) e (none-void rs)
    where
      at : (v : Bool) → (v || any divisible rs) ≡ false → (any divisible rs ≡ false → any void rs ≡ false) → (cond v (undivided r.kind (content r) r.constant) false || any void rs) ≡ false
      at true e k = let y : ◌≡◌ {A = ℕ} 0 1 = cc in absurd (omega arith)
      at false e k = k e

  all-tight : (rs : List Constraint) → any divisible rs ≡ false → map tight rs ≡ rs
  all-tight [] e = refl
  all-tight (r ∷ rs) e = at (divisible r) e (all-tight rs)
    where
      at : (v : Bool) → (v || any divisible rs) ≡ false → (any divisible rs ≡ false → map tight rs ≡ rs) → ◌≡◌ {A = List Constraint} (cond v (divided_down (content r) r) r ∷ map tight rs) (r ∷ rs)
      at true e k = let y : ◌≡◌ {A = ℕ} 0 1 = cc in absurd (omega arith)
      at false e k = ap (λ (l : List Constraint). r ∷ l) (k e)

  pub tight-solvable : solvable b ≡ b ∷ []
  tight-solvable =
      ap (λ (v : Bool). cond v [] (tightened b ∷ [])) (none-void b.constraints e)
      ∙ ap (λ (rs : List Constraint). record { divisions = b.divisions; constraints = rs } ∷ []) (all-tight b.constraints e)

-- what is tightened has no common divisor left
pub divisible-tight : (r : Constraint) → divisible (tight r) ≡ false
divisible-tight r = at (ltb 1 (content r)) refl (is-over (content r))
  where
    at : (b : Bool) → ltb 1 (content r) ≡ b → Over (content r) b → divisible (cond b (divided_down (content r) r) r) ≡ false
    at true e (over h) = ap (ltb 1) (content-tight r h)
    at false e o = e

pub tight-divisible : (rs : List Constraint) → any divisible (map tight rs) ≡ false
tight-divisible [] = refl
tight-divisible (r ∷ rs) = ap₂ ◌||◌ (divisible-tight r) (tight-divisible rs)
