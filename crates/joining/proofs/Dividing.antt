-- Common divisors taken one number at a time, and lists divided one number at a time.
use mathlib.Core.Path.{◌≡◌, refl, sym, ap, ap₂, ◌∙◌, subst}
use mathlib.Core.Bool.{Bool, true, false, ◌||◌, cond}
use mathlib.Core.List.{List, [], ◌∷◌, ◌++◌, map}
use Prim.Native.Nat.{ℕ, zero, suc, ◌+◌, ◌≤◌, ◌<◌, ◌∣◌, zero-le}
use native.Mathlib.Nat.{le_of_dvd, le_of_suc-le-suc, not-suc-le-zero, zero-lt-suc, le_trans, eq-one_of_dvd-one, div-le_self}
use native.Mathlib.Numerals.{add-one}
use native.Mathlib.Omega.{arith}
use borrow.Author.Tests.{lt-ltb, le-ltb, ne_eqb}
use lib.Dec.{ltb, eqb→eq}
use lib.IntN.{ℤ, pos, negsuc, nat_abs}
use lib.Signed.{mag}
use lib.ListN.{length, take, drop, get_or, set, length-map, drop_of_length-le, get_or-map}
use lib.Seq.{drop-cons, take-length}
use mir.Syntax.{w16}
use mir.Val.{SFits}
use Rattle.model.proofs.Count.{to-T, suc_inj}
use Rattle.model.specs.Lists.{any}
use Rattle.model.proofs.Lists.{map-take, map-set, up_to, up_to-none, up_to-next, up_to-more, up_to-take, each, each_at}
use Rattle.model.specs.Sets.{floor_div, equality, Constraint}
use Rattle.codec.specs.Valid.{ValidConstraint}
use Rattle.algebra.specs.Cut.{above, below}
use Rattle.algebra.proofs.Tightened.{below_again, above-again, tight-kind, tight-tight, void-tight}
use Rattle.algebra.proofs.Closed.{tight-valid}
use Rattle.model.specs.Values.{division_of, constraint_of, basic_set_of}
use Rattle.model.specs.declared.BasicSet.{BasicSet as Stored}
use Rattle.feasibility.specs.Tableau.{gcd, common_divisor}
use Rattle.feasibility.proofs.Reduce.{euclid-is}
use Rattle.integers.specs.Gcd as G
use Rattle.algebra.specs.Tighten.{content, divisible, undivided, void, divided_down, tight}
use Rattle.integers.specs.Mach.{clash}
use Rattle.std.specs.Prelude.{Some, None}
use Rattle.model.specs.declared.Constraint.{Constraint as StoredConstraint}
use Rattle.joining.specs.Joining.{common_from, is_unit, reduced_of, Reduces, Settled, Tightens}
use Rattle.joining.proofs.Placing.{no_constraint}

-- ---- common divisors

-- integers' divisor is the test's
pub same-gcd : (a b : ℕ) → G.gcd a b ≡ gcd a b
same-gcd a b = G.gcd-unique (G.gcd-is a b) (euclid-is a b)

pub gcd-small : (a b : ℕ) {B : ℕ} → a ≤ B → b ≤ B → gcd a b ≤ B
gcd-small a zero h k = h
gcd-small a (suc b) h k = le_trans (le_of_dvd (zero-lt-suc b) (euclid-is a (suc b)).right) k

gcd-one : (a : ℕ) → gcd a 1 ≡ 1
gcd-one a = eq-one_of_dvd-one (euclid-is a 1).right

pub common-parts : (xs ys : List ℤ) → common_from (common_divisor ys) xs ≡ common_divisor (xs ++ ys)
common-parts [] ys = refl
common-parts (x ∷ xs) ys = ap (gcd (nat_abs x)) (common-parts xs ys)

pub common-zero : (xs : List ℤ) → common_from 0 xs ≡ common_divisor xs
common-zero [] = refl
common-zero (x ∷ xs) = ap (gcd (nat_abs x)) (common-zero xs)

pub common-step : (xs : List ℤ) (k g : ℕ) → k < length xs → common_from g (drop k xs) ≡ gcd (nat_abs (get_or xs k (pos 0))) (common_from g (drop (k + 1) xs))
common-step xs k g h = rw (add-one, drop-cons xs k (pos 0))

-- 1 stays 1
pub common-one : (xs : List ℤ) (k g : ℕ) → common_from g (drop k xs) ≡ 1 → common_from g xs ≡ 1
common-one xs zero g e = e
common-one [] (suc k) g e = e
common-one (x ∷ xs) (suc k) g e = ap (gcd (nat_abs x)) (common-one xs k g e) ∙ gcd-one (nat_abs x)

-- ---- 1 or −1 among the numbers

pub not-unit : (z : ℤ) → (z ≡ pos 1 → ⊥) → (z ≡ negsuc 0 → ⊥) → false ≡ is_unit z
not-unit (pos n) p q = sym (ne_eqb n 1 (λ e. p (ap pos e)))
not-unit (negsuc n) p q = sym (ne_eqb (suc n) 1 (λ e. q (ap negsuc (suc_inj e))))

one-common : (zs : List ℤ) → common_from 1 zs ≡ 1
one-common [] = refl
one-common (z ∷ zs) = ap (gcd (nat_abs z)) (one-common zs) ∙ gcd-one (nat_abs z)

unit-common : (g : ℕ) (zs : List ℤ) → any is_unit zs ≡ true → common_from g zs ≡ 1
unit-common g [] e = clash e refl
unit-common g (z ∷ zs) e = at (is_unit z) refl e (unit-common g zs)
  where
    at : (b : Bool) → is_unit z ≡ b → (b || any is_unit zs) ≡ true → (any is_unit zs ≡ true → common_from g zs ≡ 1) → gcd (nat_abs z) (common_from g zs) ≡ 1
    at true u e k = eq-one_of_dvd-one (subst (λ (m : ℕ). gcd (nat_abs z) (common_from g zs) ∣ m) (eqb→eq (nat_abs z) 1 (to-T (is_unit z) u)) (euclid-is (nat_abs z) (common_from g zs)).left)
    at false u e k = ap (gcd (nat_abs z)) (k e) ∙ gcd-one (nat_abs z)

module _ (xs ys : List ℤ) where
  pub unit-first : any is_unit xs ≡ true → 1 ≡ common_divisor (xs ++ ys)
  unit-first e = sym (unit-common (common_divisor ys) xs e) ∙ common-parts xs ys

  pub unit-last : any is_unit ys ≡ true → 1 ≡ common_divisor (xs ++ ys)
  unit-last e = sym (ap (λ (g : ℕ). common_from g xs) (sym (common-zero ys) ∙ unit-common 0 ys e) ∙ one-common xs) ∙ common-parts xs ys

-- one number more is looked at
module _ (f : ℤ → Bool) (xs : List ℤ) (i : ℕ) (h : i < length xs) (found : Bool) where
  any_step : any f (drop i xs) ≡ (f (get_or xs i (pos 0)) || any f (drop (i + 1) xs))
  any_step = rw (add-one, drop-cons xs i (pos 0))

  pub found-yes : f (get_or xs i (pos 0)) ≡ true → (found || any f (drop i xs)) ≡ true
  found-yes e = ap (λ (b : Bool). found || b) (any_step ∙ ap (λ (b : Bool). b || any f (drop (i + 1) xs)) e) ∙ at found
    where
      at : (b : Bool) → (b || true) ≡ true
      at true = refl
      at false = refl

  pub found-no : f (get_or xs i (pos 0)) ≡ false → (found || any f (drop (i + 1) xs)) ≡ (found || any f (drop i xs))
  found-no e = ap (λ (b : Bool). found || b) (sym (any_step ∙ ap (λ (b : Bool). b || any f (drop (i + 1) xs)) e))

pub found-end : (found : Bool) (f : ℤ → Bool) (xs : List ℤ) (i : ℕ) → length xs ≤ i → (found || any f (drop i xs)) ≡ found
found-end found f xs i h = ap (λ (l : List ℤ). found || any f l) (drop_of_length-le xs h) ∙ at found
  where
    at : (b : Bool) → (b || false) ≡ b
    at true = refl
    at false = refl

pub fits-small : (z : ℤ) → SFits w16 z → nat_abs z ≤ 32768
fits-small (pos n) h = let m = h.sfits in omega arith
fits-small (negsuc n) h = let m = h.sfits in omega arith

-- ---- rounded down, a number stays in its range

pub down-mag : (g : ℕ) (z : ℤ) → mag (floor_div z g) ≤ mag z
down-mag g (pos a) = div-le_self a g
down-mag g (negsuc a) = div-le_self a g

-- ---- one rule, by its divisor

module _ (r : Constraint) (g : ℕ) (e : g ≡ content r) where
  module _ (h : 1 < g) where
    over : ltb 1 (content r) ≡ true
    over = lt-ltb 1 (content r) (subst (λ (n : ℕ). 1 < n) e h)

    pub tight-over : divided_down g r ≡ tight r
    tight-over = ap (λ (n : ℕ). divided_down n r) e ∙ ap (λ (b : Bool). cond b (divided_down (content r) r) r) (sym over)

    pub void-over : undivided r.kind g r.constant ≡ void r
    void-over = ap (λ (n : ℕ). undivided r.kind n r.constant) e ∙ ap (λ (b : Bool). cond b (undivided r.kind (content r) r.constant) false) (sym over)

  module _ (h : 1 < g → ⊥) where
    plain : ltb 1 (content r) ≡ false
    plain = le-ltb 1 (content r) (subst (λ (n : ℕ). n ≤ 1) e (omega arith))

    pub tight-plain : r ≡ tight r
    tight-plain = ap (λ (b : Bool). cond b (divided_down (content r) r) r) (sym plain)

    pub void-plain : false ≡ void r
    void-plain = ap (λ (b : Bool). cond b (undivided r.kind (content r) r.constant) false) (sym plain)

    pub reduced-plain : r ≡ reduced_of r
    reduced-plain = tight-plain ∙ ap (λ (b : Bool). cond b r (tight r)) void-plain

pub reduced-some : (r t : Constraint) → void r ≡ false → t ≡ tight r → t ≡ reduced_of r
reduced-some r t v e = e ∙ ap (λ (b : Bool). cond b r (tight r)) (sym v)

pub reduced_none : (r : Constraint) → void r ≡ true → r ≡ reduced_of r
reduced_none r v = ap (λ (b : Bool). cond b r (tight r)) (sym v)

pub unit-reduced : (r : Constraint) → any is_unit r.axes ≡ true → r ≡ reduced_of r
unit-reduced r e = reduced-plain r 1 (unit-first r.axes r.divisions e) (λ h. omega arith)

-- ---- a basic set, rule by rule

any_next : {A : Type 0} (f : A → Bool) (l : List A) (k : ℕ) (d : A) → k < length l → any f (take k l) ≡ false → f (get_or l k d) ≡ false → any f (take (k + 1) l) ≡ false
any_next f l k d h e v = ap (λ (n : ℕ). any f (take n l)) (add-one k) ∙ go l k h e v
  where
    go : (l : List _) (k : ℕ) → k < length l → any f (take k l) ≡ false → f (get_or l k d) ≡ false → any f (take (suc k) l) ≡ false
    go [] k h e v = absurd (not-suc-le-zero h)
    go (x ∷ l) zero h e v = ap (λ (b : Bool). b || false) v
    go (x ∷ l) (suc k) h e v = both (f x) (any f (take k l)) (any f (take (suc k) l)) e (go l k (le_of_suc-le-suc h))
      where
        both : (a b c : Bool) → (a || b) ≡ false → (b ≡ false → f (get_or l k d) ≡ false → c ≡ false) → (a || c) ≡ false
        both true b c e g = e
        both false b c e g = g e v

any-hit : {A : Type 0} (f : A → Bool) (l : List A) (n k : ℕ) (d : A) → k < n → k < length l → f (get_or l k d) ≡ true → any f (take n l) ≡ true
any-hit f l zero k d g h v = absurd (not-suc-le-zero g)
any-hit f [] (suc n) k d g h v = absurd (not-suc-le-zero h)
any-hit f (x ∷ l) (suc n) zero d g h v = ap (λ (b : Bool). b || any f (take n l)) v
any-hit f (x ∷ l) (suc n) (suc k) d g h v = later (f x) (any f (take n l)) (any-hit f l n k d (le_of_suc-le-suc g) (le_of_suc-le-suc h) v)
  where
    later : (a b : Bool) → b ≡ true → (a || b) ≡ true
    later true b e = refl
    later false b e = e

-- a rule with a common divisor over 1
pub divisible-hit : (l : List StoredConstraint) (k : ℕ) → k < length l → (g : ℕ) → g ≡ content (constraint_of (get_or l k no_constraint)) → 1 < g → any divisible (map constraint_of l) ≡ true
divisible-hit l k h g e o =
    let d : divisible (get_or (map constraint_of l) k (constraint_of no_constraint)) ≡ true = ap divisible (get_or-map constraint_of l k no_constraint) ∙ ap (ltb 1) (sym e) ∙ lt-ltb 1 g o in
    let m : length (map constraint_of l) ≡ length l = length-map l constraint_of in
    ap (any divisible) (sym (take-length (map constraint_of l))) ∙ any-hit divisible (map constraint_of l) (length (map constraint_of l)) k (constraint_of no_constraint) (omega arith) (omega arith) d

-- the first k rules of b are tightened in w, and none of them is void
pub record Passed (b w : Stored) (k : ℕ) : Type 0 where
  pub within : k ≤ b.cons
  pub rules : map constraint_of w.constraints ≡ up_to (each tight) k (map constraint_of b.constraints)
  pub none : any void (take k (map constraint_of b.constraints)) ≡ false
  pub divisions : w.divisions ≡ b.divisions
  pub divs : w.divs ≡ b.divs
  pub cons : w.cons ≡ b.cons

pub passed_start : (b : Stored) → Passed b b 0
passed_start b = record { within = zero-le; rules = up_to-none (each tight) (map constraint_of b.constraints); none = refl; divisions = refl; divs = refl; cons = refl }

module _ {b w : Stored} {k : ℕ} (p : Passed b w k) (long : length b.constraints ≡ 48) (few : b.cons ≤ 48) where
  L : List Constraint
  L = map constraint_of b.constraints

  whole : length L ≡ 48
  unfolding L
  whole = length-map b.constraints constraint_of ∙ long

  given : (basic_set_of b).constraints ≡ take b.cons L
  unfolding L
  given = map-take constraint_of b.cons b.constraints

  module _ (h : k < b.cons) where
    same_read : get_or (map constraint_of w.constraints) k (constraint_of no_constraint) ≡ get_or L k (constraint_of no_constraint)
    unfolding L
    same_read = ap (λ (l : List Constraint). get_or l k (constraint_of no_constraint)) p.rules ∙ up_to-next (each tight) k L (constraint_of no_constraint)

    rule-is : constraint_of (get_or w.constraints k no_constraint) ≡ get_or L k (constraint_of no_constraint)
    rule-is = sym (get_or-map constraint_of w.constraints k no_constraint) ∙ same_read

    inside : k < length L
    inside = let z = whole in omega arith

    pub passed-void : Reduces (constraint_of (get_or w.constraints k no_constraint)) None → Tightens b None
    passed-void e =
        record {
          void = sym (ap (any void) given ∙ any-hit void L b.cons k (constraint_of no_constraint) h inside (ap void (sym rule-is) ∙ sym e.void));
          is = tt;
          divs = tt;
          cons = tt;
        }

    pub passed-next : (d : StoredConstraint) → Reduces (constraint_of (get_or w.constraints k no_constraint)) (Some d)
        → Passed b (record { divisions = w.divisions; constraints = set w.constraints k d; divs = w.divs; cons = w.cons }) (k + 1)
    unfolding L
    passed-next d e =
        let o : void (get_or L k (constraint_of no_constraint)) ≡ false = ap void (sym rule-is) ∙ sym e.void in
        let t : constraint_of d ≡ tight (get_or L k (constraint_of no_constraint)) = e.rule ∙ ap tight rule-is in
        record {
          within = omega arith;
          rules = map-set constraint_of w.constraints k d ∙ up_to-more (constraint_of no_constraint) (each tight) k L (map constraint_of w.constraints) (constraint_of d) inside p.rules (t ∙ ap tight (sym same_read) ∙ each_at tight k _);
          none = any_next void L k (constraint_of no_constraint) inside p.none o;
          divisions = p.divisions;
          divs = p.divs;
          cons = p.cons;
        }

  pub passed-end : b.cons ≤ k → Tightens b (Some w)
  unfolding L
  passed-end h =
      let n : k ≡ b.cons = let z = p.within in omega arith in
      let c : (basic_set_of w).constraints ≡ map tight (basic_set_of b).constraints =
      map-take constraint_of w.cons w.constraints ∙ ap₂ (λ (m : ℕ) (l : List Constraint). take m l) p.cons (p.rules ∙ ap (λ (m : ℕ). up_to (each tight) m L) n)
      ∙ up_to-take tight b.cons L ∙ ap (map tight) (sym given) in
      record {
        void = sym (ap (any void) given ∙ ap (λ (m : ℕ). any void (take m L)) (sym n) ∙ p.none);
        is = λ i. record { divisions = map division_of (take (p.divs i) (p.divisions i)); constraints = c i };
        divs = p.divs;
        cons = p.cons;
      }

-- ---- a rule as it joins: the same opposites, tightened, the same kind, void where it was, and valid

by-void : (r : Constraint) (P : Constraint → Type 0) → (void r ≡ true → P r) → (void r ≡ false → P (tight r)) → P (reduced_of r)
by-void r P f g = at (void r) refl
  where
    at : (b : Bool) → void r ≡ b → P (cond b r (tight r))
    at true e = f e
    at false e = g e

pub reduced-kind : (r : Constraint) → (reduced_of r).kind ≡ r.kind
reduced-kind r = by-void r (λ (s : Constraint). s.kind ≡ r.kind) (λ e. refl) (λ e. tight-kind r)

pub reduced-below : (r : Constraint) → tight (below (reduced_of r)) ≡ tight (below r)
reduced-below r = by-void r (λ (s : Constraint). tight (below s) ≡ tight (below r)) (λ e. refl) (λ e. below_again r)

pub reduced-above : (r : Constraint) → r.kind ≡ equality → tight (above (reduced_of r)) ≡ tight (above r)
reduced-above r k = by-void r (λ (s : Constraint). tight (above s) ≡ tight (above r)) (λ e. refl) (λ e. above-again r k e)

pub void-reduced : (r : Constraint) → void (reduced_of r) ≡ void r
void-reduced r = by-void r (λ (s : Constraint). void s ≡ void r) (λ e. refl) (λ e. void-tight r ∙ sym e)

pub reduced-tight : (r : Constraint) → void r ≡ false → reduced_of r ≡ tight r
reduced-tight r e = ap (λ (b : Bool). cond b r (tight r)) e

pub reduced-valid : (n k : ℕ) (r : Constraint) → ValidConstraint n k r → ValidConstraint n k (reduced_of r)
reduced-valid n k r v = by-void r (ValidConstraint n k) (λ e. v) (λ e. tight-valid n k r v)

pub reduced-settled : (r s : Constraint) → s ≡ reduced_of r → (v : Bool) → v ≡ void s → Settled s v
reduced-settled r s e v p = record { void = p; tight = λ n. ap tight (is n) ∙ tight-tight r ∙ sym (is n) }
  where
    is : v ≡ false → s ≡ tight r
    is n = e ∙ reduced-tight r (sym (ap void e ∙ void-reduced r) ∙ sym p ∙ n)
