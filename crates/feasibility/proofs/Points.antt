-- The answer `point`: a point with fractions that meets the basic set.
use mathlib.Core.Path.{◌≡◌, refl, sym, ap, ap₂, ◌∙◌, subst}
use mathlib.Core.Bool.{Bool, true, false, not, ◌&&◌, cond}
use mathlib.Core.List.{List, [], ◌∷◌, ◌++◌, map}
use mathlib.Core.Option.{Option, none, some}
use Prim.Native.Nat.{ℕ, zero, suc, ◌+◌, ◌-◌, ◌<◌, suc-le-suc}
use native.Mathlib.Nat.{le_of_eq, le_of_suc-le-suc, not-suc-le-zero, zero-lt-suc, add-zero, zero-add, add-suc, suc-add}
use native.Mathlib.Omega.{arith}
use lib.Dec.{T, lt→ltb, ltb, ltb→lt, eqb, eqb→eq, eqb_refl}
use lib.IntN.{ℤ, pos, negsuc, neg_ℤ, nat_abs, ◌+ℤ◌, ◌-ℤ◌, ◌*ℤ◌}
use lib.Signed.{non_neg, ◌<ℤ◌, yes_non_neg}
use lib.ListN.{length, get_or, set, replicate, length-set, length-map}
use lib.Seq.{get_or-set_same, get_or-set_other}
use Rattle.integers.specs.Ring.{ring, quote}
use Rattle.integers.specs.Lin.{eq, lin, lia-eq}
use Rattle.integers.specs.Order.{mul-nonneg, mul-pos-pos, <ℤ-≤ℤ}
use Rattle.integers.specs.Size.{nat_abs-nonneg}
use Rattle.model.specs.Lists.{all}
use Rattle.model.specs.Sets.{dot, Division, Kind, equality, inequality, Constraint, BasicSet, is_zero, meets, value, holds, absent, over_axes, lower, upper, bounds, conditions, RationalPoint, meets_basic}
use Rattle.feasibility.specs.Tableau.{point, dropped, long, wide, Row, Tableau, entry, constant_of, sort_of, violates, lowest, violated_rows, solved, replaced, reduced, exchange, narrow, no_row, Look, none_violated, none_helps, pivot, look, Ending, ended, reach, run, ends_at, pad, from, first_rows, start, test, bound, sorts, begin}
use Rattle.model.proofs.Count.{and_left, and_right, and-make, from-T, all_append, no-suc, suc_inj}
use Rattle.model.proofs.Values.{dot-neg, is_zero→, nn}
use Rattle.feasibility.proofs.Sizes.{test-128}
use Rattle.feasibility.proofs.Exchange.{Holds, Solves, Shaped, shape_at, Pivot, exchange-shaped, exchange-back}
use Rattle.feasibility.proofs.Verdicts.{Meets, Found, calm, turns, looked, when-none, to-not}
use Rattle.feasibility.proofs.Start.{length_from, free, row-value, start-shaped}

-- ---- where each variable stands

pub data Place : Type 0 where
  in_col in_row : ℕ → Place

-- each place has its own variable: a left inverse
pub record Placed (t : Tableau) : Type 0 where
  pub loc : ℕ → Place
  pub cols_at : (j : ℕ) → j < length t.cols → loc (get_or t.cols j 0) ≡ in_col j
  pub rows_at : (i : ℕ) → i < length t.rows → loc (get_or t.rows i no_row).var ≡ in_row i

pub col-row : {X : Type 0} {i j : ℕ} → in_col i ≡ in_row j → X
col-row e = let z : ◌≡◌ {A = ℕ} 0 1 = cc in absurd (clash z)
  where
    clash : ◌≡◌ {A = ℕ} 0 1 → ⊥
    clash z = omega arith

-- v, unless it is a; then p
abbrev moves : ℕ → Place → (ℕ → Place) → ℕ → Place
moves a p f v = cond (eqb v a) p (f v)

moved_here : (a : ℕ) (p : Place) (f : ℕ → Place) → moves a p f a ≡ p
moved_here a p f = ap (λ (b : Bool). cond b p (f a)) (from-T (eqb a a) (eqb_refl a))

moved-not : (a v : ℕ) (p : Place) (f : ℕ → Place) → (v ≡ a → ⊥) → moves a p f v ≡ f v
moved-not a v p f n = at (eqb v a) refl
  where
    at : (b : Bool) → eqb v a ≡ b → cond b p (f v) ≡ f v
    at true e = absurd (n (eqb→eq v a (subst T (sym e) tt)))
    at false e = refl

replaced-var : (r : Row) (j : ℕ) (s : Row) → (replaced r j s).var ≡ s.var
replaced-var r j s = at (is_zero (entry s j))
  where
    at : (b : Bool) → (cond b s (reduced (record { var = s.var; den = entry r j *ℤ s.den; nums = set (Rattle.feasibility.specs.Tableau.combine (entry r j) (entry s j) s.nums r.nums) (suc j) (entry s j *ℤ r.den) }))).var ≡ s.var
    at true = refl
    at false = refl

pub replaced-at : (r : Row) (j : ℕ) (rs : List Row) (i : ℕ) → i < length rs → (get_or (map (replaced r j) rs) i no_row).var ≡ (get_or rs i no_row).var
replaced-at r j [] i h = refl
replaced-at r j (s ∷ rs) zero h = replaced-var r j s
replaced-at r j (s ∷ rs) (suc i) h = replaced-at r j rs i (le_of_suc-le-suc h)

module _ (i j : ℕ) (t : Tableau) (p : Pivot i j t) (pl : Placed t) where
  abbrev a : ℕ
  a = (get_or t.rows i no_row).var

  abbrev c : ℕ
  c = get_or t.cols j 0

  abbrev loc' : ℕ → Place
  loc' = moves a (in_col j) (moves c (in_row i) pl.loc)

  c-not-a : c ≡ a → ⊥
  c-not-a e = col-row (sym (pl.cols_at j p.col) ∙ ap pl.loc e ∙ pl.rows_at i p.row)

  length-map' : length (map (replaced (get_or t.rows i no_row) j) t.rows) ≡ length t.rows
  length-map' = length-map t.rows (replaced (get_or t.rows i no_row) j)

  new-cols : (k : ℕ) → k < length t.cols → (b : Bool) → eqb k j ≡ b → loc' (get_or (set t.cols j a) k 0) ≡ in_col k
  new-cols k h true e =
      let q : k ≡ j = eqb→eq k j (subst T (sym e) tt) in
      ap (λ (m : ℕ). loc' (get_or (set t.cols j a) m 0)) q ∙ ap loc' (get_or-set_same t.cols j a 0 p.col) ∙ moved_here a (in_col j) (moves c (in_row i) pl.loc) ∙ ap in_col (sym q)
  new-cols k h false e =
      let n : k ≡ j → ⊥ = λ q. subst T (sym (from-T (eqb k j) (subst (λ (m : ℕ). T (eqb k m)) q (eqb_refl k))) ∙ e) tt in
      let v : ℕ = get_or t.cols k 0 in
      let lv : pl.loc v ≡ in_col k = pl.cols_at k h in
      ap loc' (get_or-set_other t.cols j k a 0 n)
      ∙ moved-not a v (in_col j) (moves c (in_row i) pl.loc) (λ q. col-row (sym lv ∙ ap pl.loc q ∙ pl.rows_at i p.row))
      ∙ moved-not c v (in_row i) pl.loc (λ q. n (inj (sym lv ∙ ap pl.loc q ∙ pl.cols_at j p.col)))
      ∙ lv
    where
      inj : {m n : ℕ} → in_col m ≡ in_col n → m ≡ n
      inj e = cc

  new-rows : (k : ℕ) → k < length t.rows → (b : Bool) → eqb k i ≡ b → loc' (get_or (exchange i j t).rows k no_row).var ≡ in_row k
  unfolding reach look exchange
  new-rows k h true e =
      let q : k ≡ i = eqb→eq k i (subst T (sym e) tt) in
      ap (λ (m : ℕ). loc' (get_or (exchange i j t).rows m no_row).var) q
      ∙ ap (λ (r : Row). loc' r.var) (get_or-set_same (map (replaced (get_or t.rows i no_row) j) t.rows) i (solved (get_or t.rows i no_row) j c) no_row (subst (λ (m : ℕ). i < m) (sym length-map') p.row))
      ∙ moved-not a c (in_col j) (moves c (in_row i) pl.loc) c-not-a
      ∙ moved_here c (in_row i) pl.loc
      ∙ ap in_row (sym q)
  new-rows k h false e =
      let n : k ≡ i → ⊥ = λ q. subst T (sym (from-T (eqb k i) (subst (λ (m : ℕ). T (eqb k m)) q (eqb_refl k))) ∙ e) tt in
      let v : ℕ = (get_or t.rows k no_row).var in
      let lv : pl.loc v ≡ in_row k = pl.rows_at k h in
      ap (λ (r : Row). loc' r.var) (get_or-set_other (map (replaced (get_or t.rows i no_row) j) t.rows) i k (solved (get_or t.rows i no_row) j c) no_row n)
      ∙ ap loc' (replaced-at (get_or t.rows i no_row) j t.rows k h)
      ∙ moved-not a v (in_col j) (moves c (in_row i) pl.loc) (λ q. n (inj (sym lv ∙ ap pl.loc q ∙ pl.rows_at i p.row)))
      ∙ moved-not c v (in_row i) pl.loc (λ q. col-row (sym (pl.cols_at j p.col) ∙ ap pl.loc (sym q) ∙ lv))
      ∙ lv
    where
      inj : {m n : ℕ} → in_row m ≡ in_row n → m ≡ n
      inj e = cc

  pub exchange-placed : Placed (exchange i j t)
  unfolding reach look exchange
  exchange-placed =
      record {
        loc = loc';
        cols_at = λ k h. new-cols k (subst (λ (m : ℕ). k < m) (length-set t.cols j a) h) (eqb k j) refl;
        rows_at = λ k h. new-rows k (subst (λ (m : ℕ). k < m) (length-set (map (replaced (get_or t.rows i no_row) j) t.rows) i (solved (get_or t.rows i no_row) j c) ∙ length-map') h) (eqb k i) refl;
      }

-- ---- the solution at which the columns are 0

-- the product of the rows' denominators, and that of all but one
abbrev pub product : List Row → ℤ
product [] = pos 1
product (r ∷ rs) = r.den *ℤ product rs

abbrev pub others : List Row → ℕ → ℤ
others [] i = pos 1
others (r ∷ rs) zero = product rs
others (r ∷ rs) (suc i) = r.den *ℤ others rs i

pub product-others : (rs : List Row) (i : ℕ) → i < length rs → (get_or rs i no_row).den *ℤ others rs i ≡ product rs
product-others [] i h = absurd (not-suc-le-zero h)
product-others (r ∷ rs) zero h = refl
product-others (r ∷ rs) (suc i) h =
    ring (r.den ∷ (get_or rs i no_row).den ∷ others rs i ∷ []) {b = r.den *ℤ ((get_or rs i no_row).den *ℤ others rs i)} (search quote depth 30) tt
    ∙ ap (λ (z : ℤ). r.den *ℤ z) (product-others rs i (le_of_suc-le-suc h))

pub product-pos : (n : ℕ) (rs : List Row) → Shaped n rs → pos 0 <ℤ product rs
product-pos n [] sh = record { lt = tt }
product-pos n (r ∷ rs) sh = mul-pos-pos sh.0.positive (product-pos n rs sh.1)

pub others-pos : (n : ℕ) (rs : List Row) → Shaped n rs → (i : ℕ) → pos 0 <ℤ others rs i
others-pos n [] sh i = record { lt = tt }
others-pos n (r ∷ rs) sh zero = product-pos n rs sh.1
others-pos n (r ∷ rs) sh (suc i) = mul-pos-pos sh.0.positive (others-pos n rs sh.1 i)

-- a multiple of a value that meets its condition does too
pub scaled-meets : (s : Option Kind) (z k : ℤ) → pos 0 <ℤ k → T (not (violates s z)) → T (not (violates s (z *ℤ k)))
scaled-meets none z k h t = tt
scaled-meets (some equality) z k h t = again (is_zero (z *ℤ k)) (subst (λ (y : ℤ). T (is_zero (y *ℤ k))) (sym (is_zero→ z (to-not (is_zero z) t))) (zero_is k))
  where
    again : (b : Bool) → T b → T (not (not b))
    again true t = tt
    again false t = t

    zero_is : (k : ℤ) → T (is_zero (pos 0 *ℤ k))
    zero_is k = subst (λ (y : ℤ). T (is_zero y)) (sym (lib.IntN.zero-*ℤ k)) tt
scaled-meets (some inequality) z k h t = again (non_neg (z *ℤ k)) (yes_non_neg (mul-nonneg {a = z} {b = k} (nn (to-not (non_neg z) t)) (<ℤ-≤ℤ h)))
  where
    again : (b : Bool) → T b → T (not (not b))
    again true t = tt
    again false t = t

pub zero-meets : (s : Option Kind) → T (not (violates s (pos 0)))
zero-meets none = tt
zero-meets (some equality) = tt
zero-meets (some inequality) = tt

pub calm-at : (sort : ℕ → Option Kind) (rs : List Row) (n : ℕ) → lowest n (violated_rows sort rs) ≡ none → (i : ℕ) → T (not (violates (sort (get_or rs i no_row).var) (constant_of (get_or rs i no_row))))
calm-at sort [] n e i = zero-meets (sort 0)
calm-at sort (r ∷ rs) n e zero = calmed (violates (sort r.var) (constant_of r)) (when-none (violates (sort r.var) (constant_of r)) r.var n (violated_rows sort rs) e).0
  where
    calmed : (b : Bool) → b ≡ false → T (not b)
    calmed b q = subst (λ (c : Bool). T (not c)) (sym q) tt
calm-at sort (r ∷ rs) n e (suc i) = calm-at sort rs (suc n) (when-none (violates (sort r.var) (constant_of r)) r.var n (violated_rows sort rs) e).1 i

-- x is 0 at every column
abbrev pub Vanishes : (ℕ → ℤ) → List ℕ → Type 0
Vanishes x cols = (j : ℕ) → j < length cols → x (get_or cols j 0) ≡ pos 0

-- then a row's sum is its constant's part
pub dot-vanishes : (x : ℕ → ℤ) (cols : List ℕ) (es : List ℤ) → Vanishes x cols → dot es (map x cols) ≡ pos 0
dot-vanishes x cols [] z = refl
dot-vanishes x [] (a ∷ es) z = refl
dot-vanishes x (c ∷ cols) (a ∷ es) z =
    ap₂ (λ (u v : ℤ). a *ℤ u +ℤ v) (z 0 (zero-lt-suc (length cols))) (dot-vanishes x cols es (λ j h. z (suc j) (suc-le-suc h)))
    ∙ ring (a ∷ []) (search quote depth 30) tt

pub solves-each : (x : ℕ → ℤ) (D : ℤ) (cols : List ℕ) (rs : List Row) → ((i : ℕ) → i < length rs → Holds x D cols (get_or rs i no_row)) → Solves x D cols rs
solves-each x D cols [] f = tt
solves-each x D cols (r ∷ rs) f = (f 0 (zero-lt-suc (length rs)), solves-each x D cols rs (λ i h. f (suc i) (suc-le-suc h)))

-- the solution of a tableau at which its columns are 0
module _ (t : Tableau) (sh : Shaped (length t.cols) t.rows) (pl : Placed t) where
  -- the value at a place: 0 in a column; in a row its constant over its denominator
  abbrev value_at : ℕ → Place → ℤ
  value_at v (in_col j) = pos 0
  value_at v (in_row i) = cond (eqb (get_or t.rows i no_row).var v) (constant_of (get_or t.rows i no_row) *ℤ others t.rows i) (pos 0)

  abbrev pub w : ℕ → ℤ
  w v = value_at v (pl.loc v)

  value-meets : (sort : ℕ → Option Kind) (v : ℕ) → ((i : ℕ) → (get_or t.rows i no_row).var ≡ v → T (not (violates (sort v) (constant_of (get_or t.rows i no_row))))) → (p : Place) → T (not (violates (sort v) (value_at v p)))
  value-meets sort v ok (in_col j) = zero-meets (sort v)
  value-meets sort v ok (in_row i) = at (eqb (get_or t.rows i no_row).var v) refl
    where
      at : (b : Bool) → eqb (get_or t.rows i no_row).var v ≡ b → T (not (violates (sort v) (cond b (constant_of (get_or t.rows i no_row) *ℤ others t.rows i) (pos 0))))
      at true q =
          scaled-meets (sort v) (constant_of (get_or t.rows i no_row)) (others t.rows i) (others-pos (length t.cols) t.rows sh i)
          (ok i (eqb→eq (get_or t.rows i no_row).var v (subst T (sym q) tt)))
      at false q = zero-meets (sort v)

  -- v meets its condition there, if no row of v is violated
  pub w-meets : (sort : ℕ → Option Kind) (v : ℕ) → ((i : ℕ) → (get_or t.rows i no_row).var ≡ v → T (not (violates (sort v) (constant_of (get_or t.rows i no_row))))) → T (not (violates (sort v) (w v)))
  w-meets sort v ok = value-meets sort v ok (pl.loc v)

  pub w-col : (j : ℕ) → j < length t.cols → w (get_or t.cols j 0) ≡ pos 0
  w-col j h = ap (value_at (get_or t.cols j 0)) (pl.cols_at j h)

  pub w-row : (i : ℕ) → i < length t.rows → w (get_or t.rows i no_row).var ≡ constant_of (get_or t.rows i no_row) *ℤ others t.rows i
  w-row i h =
      ap (value_at (get_or t.rows i no_row).var) (pl.rows_at i h)
      ∙ ap (λ (b : Bool). cond b (constant_of (get_or t.rows i no_row) *ℤ others t.rows i) (pos 0)) (from-T (eqb (get_or t.rows i no_row).var (get_or t.rows i no_row).var) (eqb_refl (get_or t.rows i no_row).var))

  row-holds : (i : ℕ) → i < length t.rows → Holds w (product t.rows) t.cols (get_or t.rows i no_row)
  row-holds i h = at (get_or t.rows i no_row).nums refl
    where
      r : Row
      r = get_or t.rows i no_row

      at : (ns : List ℤ) → (get_or t.rows i no_row).nums ≡ ns → Holds w (product t.rows) t.cols (get_or t.rows i no_row)
      at [] q = no-suc (sym (shape_at (length t.cols) t.rows i h sh).long ∙ ap length q)
      at (z ∷ es) q =
          ap₂ (λ (x : ℤ) (l : List ℤ). (get_or t.rows i no_row).den *ℤ x -ℤ dot l (product t.rows ∷ map w t.cols)) (w-row i h) q
          ∙ ap₂ (λ (c y : ℤ). (get_or t.rows i no_row).den *ℤ (c *ℤ others t.rows i) -ℤ (z *ℤ product t.rows +ℤ y)) (ap (λ (l : List ℤ). get_or l 0 (pos 0)) q)
          (dot-vanishes w t.cols es w-col)
          ∙ ap (λ (d : ℤ). (get_or t.rows i no_row).den *ℤ (z *ℤ others t.rows i) -ℤ (z *ℤ d +ℤ pos 0)) (sym (product-others t.rows i h))
          ∙ ring ((get_or t.rows i no_row).den ∷ z ∷ others t.rows i ∷ []) (search quote depth 30) tt

  pub basic-solves : Solves w (product t.rows) t.cols t.rows
  basic-solves = solves-each w (product t.rows) t.cols t.rows row-holds

-- a solution in which every condition holds
pub record Solution (sort : ℕ → Option Kind) (t : Tableau) : Type 0 where
  pub w : ℕ → ℤ
  pub D : ℤ
  pub positive : pos 0 <ℤ D
  pub meets : Meets sort w
  pub solves : Solves w D t.cols t.rows

calm-solution : (sort : ℕ → Option Kind) (t : Tableau) → Shaped (length t.cols) t.rows → Placed t → lowest 0 (violated_rows sort t.rows) ≡ none → Solution sort t
calm-solution sort t sh pl e =
    record {
      w = w t sh pl;
      D = product t.rows;
      positive = product-pos (length t.cols) t.rows sh;
      meets = λ v. w-meets t sh pl sort v (λ i q. subst (λ (u : ℕ). T (not (violates (sort u) (constant_of (get_or t.rows i no_row))))) q (calm-at sort t.rows 0 e i));
      solves = basic-solves t sh pl;
    }

-- point: there is one
pub run-point : (fits : ℕ → Tableau → Bool) (sort : ℕ → Option Kind) (n : ℕ) (t : Tableau) → Shaped (length t.cols) t.rows → Placed t → run fits sort n t ≡ point → Solution sort t
unfolding reach look exchange
run-point fits sort zero t sh pl e = at (look sort t) refl (looked sort t)
  where
    at : (l : Look) → look sort t ≡ l → Found sort t l → Solution sort t
    at none_violated q (calm z) = calm-solution sort t sh pl z
    at none_helps q f = let d : dropped ≡ point = rw (q, run, reach) at e in let z : ◌≡◌ {A = ℕ} 0 1 = cc in absurd (clash z)
      where
        clash : ◌≡◌ {A = ℕ} 0 1 → ⊥
        clash z = omega arith
    at (pivot i j) q f = let d : long ≡ point = rw (q, run, reach) at e in let z : ◌≡◌ {A = ℕ} 0 1 = cc in absurd (clash z)
      where
        clash : ◌≡◌ {A = ℕ} 0 1 → ⊥
        clash z = omega arith
run-point fits sort (suc n) t sh pl e = at (look sort t) refl (looked sort t) (λ t'. run-point fits sort n t')
  where
    clash : {X : Type 0} → ◌≡◌ {A = ℕ} 0 1 → X
    clash z = absurd (no_way z)
      where
        no_way : ◌≡◌ {A = ℕ} 0 1 → ⊥
        no_way z = omega arith

    at : (l : Look) → look sort t ≡ l → Found sort t l → ((t' : Tableau) → Shaped (length t'.cols) t'.rows → Placed t' → run fits sort n t' ≡ point → Solution sort t') → Solution sort t
    at none_violated q (calm z) ih = calm-solution sort t sh pl z
    at none_helps q f ih = let d : dropped ≡ point = rw (q, run, reach) at e in clash (cc)
    at (pivot _ _) q (turns i j p) ih = on (fits j t) (rw (q, run, reach) at e)
      where
        back : Solution sort (exchange i j t) → Solution sort t
        back s = record { w = s.w; D = s.D; positive = s.positive; meets = s.meets; solves = exchange-back i j t p.pivots sh s.w s.D s.solves }

        on : (b : Bool) → (elim b as (λ (b : Bool). Ending) [ false ↦ ended wide (suc n) t | true ↦ reach fits sort n (exchange i j t) ]).verdict ≡ point → Solution sort t
        on false d = clash (cc)
        on true d = back (ih (exchange i j t) (exchange-shaped i j t p.pivots sh) (exchange-placed i j t p.pivots pl) d)

-- ---- the first tableau

pub from_at : (v n j : ℕ) → j < n → get_or (from v n) j 0 ≡ v + j
from_at v zero j h = absurd (not-suc-le-zero h)
from_at v (suc n) zero h = sym (add-zero v)
from_at v (suc n) (suc j) h = from_at (suc v) n j (le_of_suc-le-suc h) ∙ suc-add v j ∙ sym (add-suc v j)

pub rows-from : (k v : ℕ) (rs : List Constraint) (i : ℕ) → i < length (first_rows k v rs) → (get_or (first_rows k v rs) i no_row).var ≡ v + i
rows-from k v [] i h = absurd (not-suc-le-zero h)
rows-from k v (r ∷ rs) zero h = sym (add-zero v)
rows-from k v (r ∷ rs) (suc i) h = rows-from k (suc v) rs i (le_of_suc-le-suc h) ∙ suc-add v i ∙ sym (add-suc v i)

pub start-placed : (k : ℕ) (rs : List Constraint) → Placed (start k rs)
start-placed k rs =
    record {
      loc = λ v. cond (ltb v (8 + k)) (in_col v) (in_row (v - (8 + k)));
      cols_at = λ j h.
          let b : j < 8 + k = subst (λ (n : ℕ). j < n) (length_from 0 (8 + k)) h in
          let q : get_or (from 0 (8 + k)) j 0 ≡ j = from_at 0 (8 + k) j b ∙ zero-add j in
          ap (λ (v : ℕ). cond (ltb v (8 + k)) (in_col v) (in_row (v - (8 + k)))) q ∙ ap (λ (c : Bool). cond c (in_col j) (in_row (j - (8 + k)))) (from-T (ltb j (8 + k)) (lt→ltb j (8 + k) b));
      rows_at = λ i h.
          let q : (get_or (first_rows k (8 + k) rs) i no_row).var ≡ 8 + k + i = rows-from k (8 + k) rs i h in
          ap (λ (v : ℕ). cond (ltb v (8 + k)) (in_col v) (in_row (v - (8 + k)))) q
          ∙ ap (λ (c : Bool). cond c (in_col (8 + k + i)) (in_row (8 + k + i - (8 + k)))) (not_below i (ltb (8 + k + i) (8 + k)) refl)
          ∙ ap in_row (minus i);
    }
  where
    not_below : (i : ℕ) (b : Bool) → ltb (8 + k + i) (8 + k) ≡ b → b ≡ false
    not_below i true e = absurd (clash (ltb→lt (8 + k + i) (8 + k) (subst T (sym e) tt)))
      where
        clash : 8 + k + i < 8 + k → ⊥
        clash h = omega arith
    not_below i false e = refl

    minus : (i : ℕ) → 8 + k + i - (8 + k) ≡ i
    minus i = omega arith

-- a point with fractions of n axes that meets the basic set: "one whole numerator for each axis and division", 0 for an
-- absent axis
pub record Witness (n : ℕ) (b : BasicSet) : Type 0 where
  pub p : RationalPoint
  pub x_long : length p.x ≡ 8
  pub absents : T (absent n p.x)
  pub q_long : length p.q ≡ length b.divisions
  pub meets : T (meets_basic p b)

-- ---- the numerators of absent axes, whose coefficients are 0, count nothing

-- 0 past the first n
abbrev cleared : ℕ → List ℤ → List ℤ
cleared zero [] = []
cleared zero (x ∷ xs) = pos 0 ∷ cleared zero xs
cleared (suc n) [] = []
cleared (suc n) (x ∷ xs) = x ∷ cleared n xs

length-cleared : (n : ℕ) (xs : List ℤ) → length (cleared n xs) ≡ length xs
length-cleared zero [] = refl
length-cleared zero (x ∷ xs) = ap suc (length-cleared zero xs)
length-cleared (suc n) [] = refl
length-cleared (suc n) (x ∷ xs) = ap suc (length-cleared n xs)

cleared-absent : (n : ℕ) (xs : List ℤ) → T (absent n (cleared n xs))
cleared-absent zero [] = tt
cleared-absent zero (x ∷ xs) = cleared-absent zero xs
cleared-absent (suc n) [] = tt
cleared-absent (suc n) (x ∷ xs) = cleared-absent n xs

dot-cleared : (n : ℕ) (cs xs : List ℤ) → T (absent n cs) → dot cs (cleared n xs) ≡ dot cs xs
dot-cleared n [] xs t = refl
dot-cleared zero (c ∷ cs) [] t = refl
dot-cleared zero (c ∷ cs) (x ∷ xs) t =
    ap₂ (λ (a z : ℤ). a *ℤ pos 0 +ℤ z) (is_zero→ c (and_left (is_zero c) (all is_zero cs) t)) (dot-cleared zero cs xs (and_right (is_zero c) (all is_zero cs) t))
    ∙ ring (x ∷ dot cs xs ∷ []) {b = pos 0 *ℤ x +ℤ dot cs xs} (search quote depth 30) tt
    ∙ ap (λ (a : ℤ). a *ℤ x +ℤ dot cs xs) (sym (is_zero→ c (and_left (is_zero c) (all is_zero cs) t)))
dot-cleared (suc n) (c ∷ cs) [] t = refl
dot-cleared (suc n) (c ∷ cs) (x ∷ xs) t = ap (λ (z : ℤ). c *ℤ x +ℤ z) (dot-cleared n cs xs t)

module _ (n : ℕ) (D : ℤ) (x q : List ℤ) where
  abbrev Same : Constraint → Type 0
  Same r = holds D (cleared n x) q r ≡ holds D x q r

  holds-cleared : (r : Constraint) → dot r.axes (cleared n x) ≡ dot r.axes x → Same r
  holds-cleared r e = ap (λ (z : ℤ). meets r.kind (r.constant *ℤ D +ℤ (z +ℤ dot r.divisions q))) e

  rules-cleared : (rs : List Constraint) → T (all (λ (r : Constraint). absent n r.axes) rs) → all (holds D (cleared n x) q) rs ≡ all (holds D x q) rs
  rules-cleared [] t = refl
  rules-cleared (r ∷ rs) t =
      ap₂ ◌&&◌ (holds-cleared r (dot-cleared n r.axes x (and_left (absent n r.axes) (all (λ (r : Constraint). absent n r.axes) rs) t)))
      (rules-cleared rs (and_right (absent n r.axes) (all (λ (r : Constraint). absent n r.axes) rs) t))

  bounds-cleared : (i : ℕ) (es : List Division) → T (all (λ (e : Division). absent n e.axes) es) → all (holds D (cleared n x) q) (bounds i es) ≡ all (holds D x q) (bounds i es)
  bounds-cleared i [] t = refl
  bounds-cleared i (e ∷ es) t =
      let d : dot e.axes (cleared n x) ≡ dot e.axes x = dot-cleared n e.axes x (and_left (absent n e.axes) (all (λ (e : Division). absent n e.axes) es) t) in
      ap₂ ◌&&◌ (holds-cleared (lower i e) d)
      (ap₂ ◌&&◌ (holds-cleared (upper i e) (dot-neg e.axes (cleared n x) ∙ ap neg_ℤ d ∙ sym (dot-neg e.axes x)))
      (bounds-cleared (suc i) es (and_right (absent n e.axes) (all (λ (e : Division). absent n e.axes) es) t)))

conditions-cleared : (n : ℕ) (b : BasicSet) (D : ℤ) (x q : List ℤ) → T (over_axes n b) → all (holds D (cleared n x) q) (conditions b) ≡ all (holds D x q) (conditions b)
conditions-cleared n b D x q t =
    let ds = all (λ (e : Division). absent n e.axes) b.divisions in
    let rs = all (λ (r : Constraint). absent n r.axes) b.constraints in
    all_append (holds D (cleared n x) q) (bounds 0 b.divisions) b.constraints
    ∙ ap₂ ◌&&◌ (bounds-cleared n D x q 0 b.divisions (and_left ds rs t)) (rules-cleared n D x q b.constraints (and_right ds rs t))
    ∙ sym (all_append (holds D x q) (bounds 0 b.divisions) b.constraints)

-- ---- from a solution of the first tableau

from-split : (w : ℕ → ℤ) (v m n : ℕ) → map w (from v (m + n)) ≡ map w (from v m) ++ map w (from (v + m) n)
from-split w v zero n = ap₂ (λ (a b : ℕ). map w (from a b)) (sym (add-zero v)) (zero-add n)
from-split w v (suc m) n =
    ap (λ (a : ℕ). map w (from v a)) (suc-add m n)
    ∙ ap (λ (l : List ℤ). w v ∷ l) (from-split w (suc v) m n ∙ ap (λ (a : ℕ). map w (from (suc v) m) ++ map w (from a n)) (suc-add v m ∙ sym (add-suc v m)))

pad-full : (k : ℕ) (zs : List ℤ) → length zs ≡ k → pad k zs ≡ zs
pad-full zero [] e = refl
pad-full zero (z ∷ zs) e = no-suc e
pad-full (suc k) [] e = no-suc (sym e)
pad-full (suc k) (z ∷ zs) e = ap (λ (l : List ℤ). z ∷ l) (pad-full k zs (suc_inj e))

pub kind_at : (m : ℕ) (rs : List Constraint) (r : Constraint) (i : ℕ) → get_or (replicate m none ++ map (λ (r : Constraint). some r.kind) rs) (m + i) none ≡ get_or (map (λ (r : Constraint). some r.kind) rs) i none
kind_at zero rs r i = ap (λ (v : ℕ). get_or (map (λ (r : Constraint). some r.kind) rs) v none) (zero-add i)
kind_at (suc m) rs r i = ap (λ (v : ℕ). get_or (replicate (suc m) none ++ map (λ (r : Constraint). some r.kind) rs) v none) (suc-add m i) ∙ kind_at m rs r i

module _ (b : BasicSet) (s : Solution (sort_of (8 + length b.divisions) (conditions b)) (start (length b.divisions) (conditions b))) where
  abbrev k : ℕ
  k = length b.divisions

  abbrev x : List ℤ
  x = map s.w (from 0 8)

  abbrev q : List ℤ
  q = map s.w (from 8 k)

  x_len : length x ≡ 8
  x_len = length-map (from 0 8) s.w ∙ length_from 0 8

  q-len : length q ≡ k
  q-len = length-map (from 8 k) s.w ∙ length_from 8 k

  cols-are : map s.w (from 0 (8 + k)) ≡ free s.D x q k (le_of_eq x_len) (le_of_eq q-len)
  unfolding free
  cols-are = from-split s.w 0 8 k ∙ sym (ap₂ ◌++◌ (pad-full 8 x x_len) (pad-full k q q-len))

  -- a row of the first tableau: its variable has the constraint's value
  row_is : (v : ℕ) (r : Constraint) → Holds s.w s.D (from 0 (8 + k)) (record { var = v; den = pos 1; nums = r.constant ∷ pad 8 r.axes ++ pad k r.divisions }) → s.w v ≡ value s.D x q r
  row_is v r h =
      lia-eq (s.w v ∷ dot (r.constant ∷ pad 8 r.axes ++ pad k r.divisions) (s.D ∷ map s.w (from 0 (8 + k))) ∷ []) (eq {b = pos 0} h ∷ []) (search lin depth 30) (omega arith)
      ∙ ap (λ (l : List ℤ). dot (r.constant ∷ pad 8 r.axes ++ pad k r.divisions) (s.D ∷ l)) cols-are
      ∙ row-value s.D x q k (le_of_eq x_len) (le_of_eq q-len) r

  values : (v : ℕ) (rs : List Constraint) → Solves s.w s.D (from 0 (8 + k)) (first_rows k v rs)
      → ((i : ℕ) → T (not (violates (get_or (map (λ (r : Constraint). some r.kind) rs) i none) (s.w (v + i)))))
      → T (all (holds s.D x q) rs)
  values v [] h m = tt
  values v (r ∷ rs) h m =
      and-make (holds s.D x q r) (all (holds s.D x q) rs)
      (to-not (holds s.D x q r) (subst (λ (z : ℤ). T (not (not (meets r.kind z)))) (ap s.w (add-zero v) ∙ row_is v r h.0) (m 0)))
      (values (suc v) rs h.1 (λ i. subst (λ (u : ℕ). T (not (violates (get_or (map (λ (r : Constraint). some r.kind) rs) i none) (s.w u)))) (add-suc v i ∙ sym (suc-add v i)) (m (suc i))))

  denominator-is : pos (nat_abs s.D) ≡ s.D
  denominator-is = nat_abs-nonneg (<ℤ-≤ℤ s.positive)

  pub witness : (n : ℕ) → T (over_axes n b) → Witness n b
  witness n over =
      record {
        p = record { denominator = nat_abs s.D; positive = above s.D s.positive; x = cleared n x; q = q };
        x_long = length-cleared n x ∙ x_len;
        absents = cleared-absent n x;
        q_long = q-len;
        meets =
            subst T (sym (conditions-cleared n b (pos (nat_abs s.D)) x q over))
            (subst (λ (D : ℤ). T (all (holds D x q) (conditions b))) (sym denominator-is)
            (values (8 + k) (conditions b) s.solves
            (λ i. subst (λ (o : Option Kind). T (not (violates o (s.w (8 + k + i))))) (kind_at (8 + k) (conditions b) (record { kind = equality; number = 0; constant = pos 0; axes = []; divisions = [] }) i) (s.meets (8 + k + i)))));
      }
    where
      above : (z : ℤ) → pos 0 <ℤ z → 0 < nat_abs z
      above (pos n) h = ltb→lt 0 n h.lt
      above (negsuc n) h = zero-lt-suc n

  -- at that point
  pub witness-over : (n : ℕ) (over : T (over_axes n b)) → pos (witness n over).p.denominator ≡ s.D
  unfolding witness
  witness-over n over = denominator-is

  -- an expression over n axes has the value of a row that is made of it
  pub witness-value : (n : ℕ) (over : T (over_axes n b)) (v : ℕ) (e : Constraint) → T (absent n e.axes)
      → Holds s.w s.D (from 0 (8 + k)) (record { var = v; den = pos 1; nums = e.constant ∷ pad 8 e.axes ++ pad k e.divisions })
      → value (pos (witness n over).p.denominator) (witness n over).p.x (witness n over).p.q e ≡ s.w v
  unfolding witness
  witness-value n over v e t h =
      ap₂ (λ (D z : ℤ). e.constant *ℤ D +ℤ (z +ℤ dot e.divisions q)) denominator-is (dot-cleared n e.axes x t) ∙ sym (row_is v e h)

-- point: some point with fractions meets the basic set, of n axes, whatever the bound and the number of pivots
pub run-witness : (fits : ℕ → Tableau → Bool) (pivots n : ℕ) (b : BasicSet) → T (over_axes n b)
    → run fits (sorts b) pivots (begin b) ≡ point → Witness n b
run-witness fits pivots n b over e =
    witness b (run-point fits (sorts b) pivots (begin b) (start-shaped (length b.divisions) (8 + length b.divisions) (conditions b)) (start-placed (length b.divisions) (conditions b)) e)
    n over

pub point-sound : (n : ℕ) (b : BasicSet) → T (over_axes n b) → test b ≡ point → Witness n b
unfolding ends_at
point-sound n b over e = run-witness (narrow (bound 128)) 200 n b over (sym (test-128 b) ∙ e)
