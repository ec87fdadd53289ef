-- What the answers of the test mean: dropped, and no solution; point, and a solution.
use mathlib.Core.Path.{◌≡◌, refl, sym, ap, ◌∙◌, subst}
use mathlib.Core.Bool.{Bool, true, false, not, cond}
use mathlib.Core.List.{List, [], ◌∷◌, map, tail}
use mathlib.Core.Option.{Option, none, some}
use Prim.Native.Nat.{ℕ, zero, suc, ◌+◌, ◌*◌, ◌≤◌, ◌<◌, suc-le-suc}
use native.Mathlib.Nat.{le_refl, le_of_suc-le-suc, not-suc-le-zero, zero-lt-suc, add-zero, zero-add, add-suc, suc-add}
use native.Mathlib.Omega.{arith}
use lib.Dec.{T, lt→ltb, ltb, ltb→lt, nltb→le}
use lib.IntN.{ℤ, pos, negsuc, ◌+ℤ◌, ◌-ℤ◌, ◌*ℤ◌, *ℤ-zero}
use lib.Signed.{non_neg, ◌≤ℤ◌, ◌<ℤ◌}
use lib.ListN.{length, get_or}
use Rattle.integers.specs.Lin.{le, lt, eq, lin, lia-le, lia-no}
use Rattle.integers.specs.Order.{mul-nonneg, mul-pos-pos, mul-nonpos, <ℤ-≤ℤ}
use Rattle.model.specs.Sets.{dot, Kind, equality, inequality, is_zero}
use Rattle.feasibility.specs.Tableau.{point, dropped, long, wide, Row, Tableau, entry, constant_of, violates, helps, lower, lowest, when, violated_rows, helpful_cols, exchange, no_row, Look, none_violated, none_helps, pivot, column, row, look, Ending, ended, reach, run}
use Rattle.model.proofs.Values.{is_zero→, nn}
use Rattle.feasibility.proofs.Rows.{rest}
use Rattle.model.proofs.Count.{no-suc}
use Rattle.feasibility.proofs.Exchange.{Holds, Solves, Shape, Shaped, shape_at, solves-at, Pivot, exchange-shaped, exchange-on}

pub true-false : {X : Type 0} → true ≡ false → X
true-false e = absurd (subst T e tt)

pub some-none : {A X : Type 0} {a : A} → some a ≡ none → X
some-none {A} {a} e = absurd (subst is e tt)
  where
    is : Option A → Type 0
    is (some a) = Unit {0}
    is none = ⊥

-- ---- the lowest number

pub lower-some : (m : ℕ × ℕ) (o : Option (ℕ × ℕ)) {X : Type 0} → lower m o ≡ none → X
lower-some m none e = some-none e
lower-some m (some k) e = at (ltb k.0 m.0) e
  where
    at : {X : Type 0} (b : Bool) → cond b (some k) (some m) ≡ none → X
    at true e = some-none e
    at false e = some-none e

pub when-none : (b : Bool) (v i : ℕ) (ms : List (Option ℕ)) → lowest i (when b v ∷ ms) ≡ none → (b ≡ false) × (lowest (suc i) ms ≡ none)
when-none true v i ms e = lower-some (v, i) (lowest (suc i) ms) e
when-none false v i ms e = (refl, e)

-- a number that was found stands at its place
pub record Lowest (ms : List (Option ℕ)) (i : ℕ) (a : ℕ × ℕ) : Type 0 where
  pub m : ℕ
  pub place : a.1 ≡ i + m
  pub found : get_or ms m none ≡ some a.0

pub lowest-some : (i : ℕ) (ms : List (Option ℕ)) (a : ℕ × ℕ) → lowest i ms ≡ some a → Lowest ms i a
lowest-some i [] a e = some-none (sym e)
lowest-some i (none ∷ ms) a e = later (lowest-some (suc i) ms a e)
  where
    later : Lowest ms (suc i) a → Lowest (none ∷ ms) i a
    later l = record { m = suc l.m; place = l.place ∙ suc-add i l.m ∙ sym (add-suc i l.m); found = l.found }
lowest-some i (some v ∷ ms) a e = at (lowest (suc i) ms) refl e (lowest-some (suc i) ms a)
  where
    later : Lowest ms (suc i) a → Lowest (some v ∷ ms) i a
    later l = record { m = suc l.m; place = l.place ∙ suc-add i l.m ∙ sym (add-suc i l.m); found = l.found }

    first : some (v, i) ≡ some a → Lowest (some v ∷ ms) i a
    first e = let p : (v, i) ≡ a = cc in record { m = 0; place = sym (ap (λ (x : ℕ × ℕ). x.1) p) ∙ sym (add-zero i); found = ap (λ (x : ℕ × ℕ). some x.0) p }

    pick : (b : Bool) (k : ℕ × ℕ) → cond b (some k) (some (v, i)) ≡ some a → (some k ≡ some a → Lowest ms (suc i) a) → Lowest (some v ∷ ms) i a
    pick true k e f = later (f e)
    pick false k e f = first e

    at : (o : Option (ℕ × ℕ)) → lowest (suc i) ms ≡ o → lower (v, i) o ≡ some a → (lowest (suc i) ms ≡ some a → Lowest ms (suc i) a) → Lowest (some v ∷ ms) i a
    at none q e f = first e
    at (some k) q e f = pick (ltb k.0 v) k e (λ z. f (q ∙ z))

pub lowest-none : (i : ℕ) (ms : List (Option ℕ)) → lowest i ms ≡ none → (m v : ℕ) → get_or ms m none ≡ some v → ⊥
lowest-none i [] e m v f = some-none (sym f)
lowest-none i (none ∷ ms) e zero v f = some-none (sym f)
lowest-none i (none ∷ ms) e (suc m) v f = lowest-none (suc i) ms e m v f
lowest-none i (some u ∷ ms) e m v f = lower-some (u, i) (lowest (suc i) ms) e

-- and no number is lower
pub lowest-least : (i : ℕ) (ms : List (Option ℕ)) (a : ℕ × ℕ) → lowest i ms ≡ some a → (m v : ℕ) → get_or ms m none ≡ some v → a.0 ≤ v
lowest-least i [] a e m v f = some-none (sym f)
lowest-least i (none ∷ ms) a e zero v f = some-none (sym f)
lowest-least i (none ∷ ms) a e (suc m) v f = lowest-least (suc i) ms a e m v f
lowest-least i (some u ∷ ms) a e m v f = at (lowest (suc i) ms) refl e (λ k. lowest-least (suc i) ms k)
  where
    first : (a : ℕ × ℕ) → some (u, i) ≡ some a → u ≡ a.0
    first a e = let p : (u, i) ≡ a = cc in ap (λ (x : ℕ × ℕ). x.0) p

    same : (k a : ℕ × ℕ) → some k ≡ some a → k.0 ≡ a.0
    same k a e = let p : k ≡ a = cc in ap (λ (x : ℕ × ℕ). x.0) p

    num : (x y : ℕ) → some x ≡ some y → x ≡ y
    num x y e = cc

    by : (m : ℕ) → get_or (some u ∷ ms) m none ≡ some v → (b : ℕ) → b ≤ u → ((m : ℕ) → get_or ms m none ≡ some v → b ≤ v) → b ≤ v
    by zero f b h g = subst (λ (x : ℕ). b ≤ x) (num u v f) h
    by (suc m) f b h g = g m f

    pick : (k : ℕ × ℕ) (c : Bool) → ltb k.0 u ≡ c → cond c (some k) (some (u, i)) ≡ some a → ((m : ℕ) → get_or ms m none ≡ some v → k.0 ≤ v) → a.0 ≤ v
    pick k true q e g =
        let h : k.0 < u = ltb→lt k.0 u (subst T (sym q) tt) in
        let s : k.0 ≡ a.0 = same k a e in
        subst (λ (x : ℕ). x ≤ v) s (by m f k.0 (omega arith) g)
    pick k false q e g =
        let h : u ≤ k.0 = nltb→le k.0 u (subst (λ (c : Bool). T (not c)) (sym q) tt) in
        subst (λ (x : ℕ). x ≤ v) (first a e) (by m f u (le_refl u) (λ m f. native.Mathlib.Nat.le_trans h (g m f)))

    at : (o : Option (ℕ × ℕ)) → lowest (suc i) ms ≡ o → lower (u, i) o ≡ some a → ((k : ℕ × ℕ) → lowest (suc i) ms ≡ some k → (m v : ℕ) → get_or ms m none ≡ some v → k.0 ≤ v) → a.0 ≤ v
    at none q e g = subst (λ (x : ℕ). x ≤ v) (first a e) (by m f u (le_refl u) (λ m f. absurd (lowest-none (suc i) ms q m v f)))
    at (some k) q e g = pick k (ltb k.0 u) refl e (λ m f. g k q m v f)

when-some : (b : Bool) (v a : ℕ) → when b v ≡ some a → T b
when-some true v a e = tt
when-some false v a e = some-none (sym e)

when-is : (b : Bool) (v a : ℕ) → when b v ≡ some a → v ≡ a
when-is true v a e = cc
when-is false v a e = some-none (sym e)

when-yes : (b : Bool) (v : ℕ) → T b → when b v ≡ some v
when-yes true v t = refl
when-yes false v t = absurd t

pub helps-nonzero : (s : Option Kind) (z a : ℤ) → T (helps s z a) → a ≡ pos 0 → ⊥
helps-nonzero none z a t e = subst (λ (x : ℤ). T (not (is_zero x))) e t
helps-nonzero (some equality) z a t e = subst (λ (x : ℤ). T (helps (some equality) z x)) e t
helps-nonzero (some inequality) z a t e = subst (λ (x : ℤ). T (not (non_neg x))) (ap (λ (x : ℤ). z *ℤ x) e ∙ *ℤ-zero z) t

pub zero-calm : (s : Option Kind) → T (violates s (pos 0)) → ⊥
zero-calm none t = t
zero-calm (some equality) t = t
zero-calm (some inequality) t = t

module _ (sort : ℕ → Option Kind) where
  -- the row at place k is violated
  abbrev pub Violated : List Row → ℕ → Type 0
  Violated rs k = T (violates (sort (get_or rs k no_row).var) (constant_of (get_or rs k no_row)))

  -- a violated row that was found
  pub found-row : (rs : List Row) (m v : ℕ) → get_or (violated_rows sort rs) m none ≡ some v → (m < length rs) × Violated rs m × ((get_or rs m no_row).var ≡ v)
  found-row [] m v e = some-none (sym e)
  found-row (r ∷ rs) zero v e = (zero-lt-suc (length rs), when-some (violates (sort r.var) (constant_of r)) _ v e, when-is (violates (sort r.var) (constant_of r)) r.var v e)
  found-row (r ∷ rs) (suc m) v e = let h = found-row rs m v e in (suc-le-suc h.0, h.1, h.2)

  pub listed-row : (rs : List Row) (m : ℕ) → Violated rs m → get_or (violated_rows sort rs) m none ≡ some (get_or rs m no_row).var
  listed-row [] m t = absurd (zero-calm (sort 0) t)
  listed-row (r ∷ rs) zero t = when-yes (violates (sort r.var) (constant_of r)) r.var t
  listed-row (r ∷ rs) (suc m) t = listed-row rs m t

  -- a helpful column that was found
  pub found-col : (z : ℤ) (cols : List ℕ) (es : List ℤ) (m v : ℕ) → get_or (helpful_cols sort z cols es) m none ≡ some v → (m < length cols) × T (helps (sort (get_or cols m 0)) z (get_or es m (pos 0))) × (get_or cols m 0 ≡ v)
  found-col z [] es m v e = some-none (sym e)
  found-col z (c ∷ cols) [] m v e = some-none (sym e)
  found-col z (c ∷ cols) (a ∷ es) zero v e = (zero-lt-suc (length cols), when-some (helps (sort c) z a) _ v e, when-is (helps (sort c) z a) c v e)
  found-col z (c ∷ cols) (a ∷ es) (suc m) v e = let h = found-col z cols es m v e in (suc-le-suc h.0, h.1, h.2)

  pub listed-col : (z : ℤ) (cols : List ℕ) (es : List ℤ) (m : ℕ) → m < length cols → T (helps (sort (get_or cols m 0)) z (get_or es m (pos 0))) → get_or (helpful_cols sort z cols es) m none ≡ some (get_or cols m 0)
  listed-col z [] es m h t = absurd (not-suc-le-zero h)
  listed-col z (c ∷ cols) [] m h t = absurd (helps-nonzero (sort (get_or (c ∷ cols) m 0)) z (pos 0) t refl)
  listed-col z (c ∷ cols) (a ∷ es) zero h t = when-yes (helps (sort c) z a) c t
  listed-col z (c ∷ cols) (a ∷ es) (suc m) h t = listed-col z cols es m (le_of_suc-le-suc h) t

-- ---- what `look` finds

-- the variable of row i, and that of column j
abbrev pub row_var : Tableau → ℕ → ℕ
row_var t i = (get_or t.rows i no_row).var

abbrev pub col_var : Tableau → ℕ → ℕ
col_var t j = get_or t.cols j 0

-- row i is the lowest-numbered violated one, and column j the lowest-numbered that helps it
pub record Turn (sort : ℕ → Option Kind) (i j : ℕ) (t : Tableau) : Type 0 where
  pub pivots : Pivot i j t
  pub violated : Violated sort t.rows i
  pub helpful : T (helps (sort (col_var t j)) (constant_of (get_or t.rows i no_row)) (entry (get_or t.rows i no_row) j))
  pub rows_first : (k : ℕ) → Violated sort t.rows k → row_var t i ≤ row_var t k
  pub cols_first : (k : ℕ) → k < length t.cols → T (helps (sort (col_var t k)) (constant_of (get_or t.rows i no_row)) (entry (get_or t.rows i no_row) k)) → col_var t j ≤ col_var t k

-- so an equality, once it has left the rows, does not come back
pub equality-stays : (sort : ℕ → Option Kind) (i j : ℕ) (t : Tableau) → Turn sort i j t → ¬ (sort (col_var t j) ≡ some equality)
equality-stays sort i j t turn e = subst (λ (s : Option Kind). T (helps s (constant_of (get_or t.rows i no_row)) (entry (get_or t.rows i no_row) j))) e turn.helpful

pub data Found (sort : ℕ → Option Kind) (t : Tableau) : Look → Type 0 where
  calm : lowest 0 (violated_rows sort t.rows) ≡ none → Found sort t none_violated
  stuck : (i : ℕ) → i < length t.rows → Violated sort t.rows i
      → lowest 0 (helpful_cols sort (constant_of (get_or t.rows i no_row)) t.cols (tail (get_or t.rows i no_row).nums)) ≡ none → Found sort t none_helps
  turns : (i j : ℕ) → Turn sort i j t → Found sort t (pivot i j)

pub tail-entry : (zs : List ℤ) (j : ℕ) → get_or (tail zs) j (pos 0) ≡ get_or zs (suc j) (pos 0)
tail-entry [] j = refl
tail-entry (z ∷ zs) j = refl

module _ (sort : ℕ → Option Kind) (t : Tableau) where
  found-column : (i : ℕ) → i < length t.rows → Violated sort t.rows i → ((k : ℕ) → Violated sort t.rows k → row_var t i ≤ row_var t k)
      → (o : Option (ℕ × ℕ)) → lowest 0 (helpful_cols sort (constant_of (get_or t.rows i no_row)) t.cols (tail (get_or t.rows i no_row).nums)) ≡ o → Found sort t (column i o)
  found-column i h v f none e = stuck i h v e
  found-column i h v f (some a) e =
      let r : Row = get_or t.rows i no_row in
      let es : List ℤ = tail r.nums in
      let l = lowest-some 0 (helpful_cols sort (constant_of r) t.cols es) a e in
      let c = found-col sort (constant_of r) t.cols es l.m a.0 l.found in
      let p : a.1 ≡ l.m = l.place ∙ zero-add l.m in
      let help : T (helps (sort (col_var t l.m)) (constant_of r) (entry r l.m)) = subst (λ (z : ℤ). T (helps (sort (col_var t l.m)) (constant_of r) z)) (tail-entry r.nums l.m) c.1 in
      turns i a.1
      (subst (λ (j : ℕ). Turn sort i j t) (sym p)
      (record {
        pivots = record { row = h; col = c.0; entry = helps-nonzero (sort (col_var t l.m)) (constant_of r) (entry r l.m) help };
        violated = v;
        helpful = help;
        rows_first = f;
        cols_first = λ k b u.
            subst (λ (n : ℕ). n ≤ col_var t k) (sym c.2)
            (lowest-least 0 (helpful_cols sort (constant_of r) t.cols es) a e k (col_var t k)
            (listed-col sort (constant_of r) t.cols es k b (subst (λ (z : ℤ). T (helps (sort (col_var t k)) (constant_of r) z)) (sym (tail-entry r.nums k)) u)));
      }))

  found-by-row : (o : Option (ℕ × ℕ)) → lowest 0 (violated_rows sort t.rows) ≡ o → Found sort t (row sort t o)
  found-by-row none e = calm e
  found-by-row (some a) e =
      let l = lowest-some 0 (violated_rows sort t.rows) a e in
      let c = found-row sort t.rows l.m a.0 l.found in
      let p : a.1 ≡ l.m = l.place ∙ zero-add l.m in
      found-column a.1 (subst (λ (k : ℕ). k < length t.rows) (sym p) c.0)
      (subst (λ (k : ℕ). Violated sort t.rows k) (sym p) c.1)
      (λ k u. subst (λ (n : ℕ). n ≤ row_var t k) (sym (ap (row_var t) p ∙ c.2)) (lowest-least 0 (violated_rows sort t.rows) a e k (row_var t k) (listed-row sort t.rows k u)))
      (lowest 0 (helpful_cols sort (constant_of (get_or t.rows a.1 no_row)) t.cols (tail (get_or t.rows a.1 no_row).nums))) refl

  pub looked : Found sort t (look sort t)
  unfolding reach look exchange
  looked = found-by-row (lowest 0 (violated_rows sort t.rows)) refl

-- ---- no column helps: the row cannot reach its condition

pub from-not-true : (b : Bool) → not b ≡ false → T b
from-not-true true e = tt
from-not-true false e = true-false e

pub to-not : (b : Bool) → T (not (not b)) → T b
to-not true t = tt
to-not false t = t

-- a column that does not help moves the row away from 0, or not at all
pub away : (s : Option Kind) (z a x : ℤ) → helps s z a ≡ false → T (not (violates s x)) → pos 0 ≤ℤ (z *ℤ (a *ℤ x))
away none z a x h t =
    lia-le (z ∷ a ∷ x ∷ []) (eq (ap (λ (y : ℤ). z *ℤ (y *ℤ x)) (is_zero→ a (from-not-true (is_zero a) h))) ∷ []) (search lin depth 30) (omega arith)
away (some equality) z a x h t =
    lia-le (z ∷ a ∷ x ∷ []) (eq (ap (λ (y : ℤ). z *ℤ (a *ℤ y)) (is_zero→ x (to-not (is_zero x) t))) ∷ []) (search lin depth 30) (omega arith)
away (some inequality) z a x h t =
    let p : pos 0 ≤ℤ (z *ℤ a) = nn (from-not-true (non_neg (z *ℤ a)) h) in
    let q : pos 0 ≤ℤ x = nn (to-not (non_neg x) t) in
    lia-le (z ∷ a ∷ x ∷ []) (le (mul-nonneg p q) ∷ []) (search lin depth 30) (omega arith)

square-pos : (z : ℤ) → (z ≡ pos 0 → ⊥) → pos 0 <ℤ (z *ℤ z)
square-pos (pos zero) n = absurd (n refl)
square-pos (pos (suc k)) n = record { lt = lt→ltb 0 (suc k * suc k) (native.Mathlib.Nat.mul-pos (zero-lt-suc k) (zero-lt-suc k)) }
square-pos (negsuc k) n = record { lt = lt→ltb 0 (suc k * suc k) (native.Mathlib.Nat.mul-pos (zero-lt-suc k) (zero-lt-suc k)) }

-- den · x = z · D + d, with z on the wrong side, and d no help
pub stuck-row : (s : Option Kind) (den x z D d : ℤ) → pos 0 <ℤ den → pos 0 <ℤ D → T (violates s z) → T (not (violates s x)) → pos 0 ≤ℤ (z *ℤ d) → den *ℤ x -ℤ (z *ℤ D +ℤ d) ≡ pos 0 → ⊥
stuck-row none den x z D d hd hD v o k e = v
stuck-row (some equality) den x z D d hd hD v o k e =
    let p : pos 0 <ℤ (z *ℤ z *ℤ D) = mul-pos-pos (square-pos z (λ q. subst (λ (y : ℤ). T (not (is_zero y))) q v)) hD in
    lia-no (den ∷ x ∷ z ∷ D ∷ d ∷ []) (lt p ∷ le k ∷ eq (ap (λ (y : ℤ). z *ℤ y) e) ∷ eq (ap (λ (y : ℤ). z *ℤ (den *ℤ y)) (is_zero→ x (to-not (is_zero x) o))) ∷ []) (search lin depth 30) (omega arith)
stuck-row (some inequality) den x z D d hd hD v o k e =
    let p : pos 0 <ℤ (z *ℤ z *ℤ D) = mul-pos-pos (square-pos z (λ q. subst (λ (y : ℤ). T (not (non_neg y))) q v)) hD in
    let m : (z *ℤ (den *ℤ x)) ≤ℤ pos 0 = mul-nonpos (below z v) (mul-nonneg (<ℤ-≤ℤ hd) (nn (to-not (non_neg x) o))) in
    lia-no (den ∷ x ∷ z ∷ D ∷ d ∷ []) (lt p ∷ le k ∷ eq (ap (λ (y : ℤ). z *ℤ y) e) ∷ le m ∷ []) (search lin depth 30) (omega arith)
  where
    below : (z : ℤ) → T (not (non_neg z)) → z ≤ℤ pos 0
    below (pos n) t = absurd t
    below (negsuc n) t = record { le = tt }

-- every variable's condition holds
abbrev pub Meets : (ℕ → Option Kind) → (ℕ → ℤ) → Type 0
Meets sort w = (v : ℕ) → T (not (violates (sort v) (w v)))

module _ (sort : ℕ → Option Kind) (w : ℕ → ℤ) (ok : Meets sort w) where
  pub all-away : (z : ℤ) (cols : List ℕ) (es : List ℤ) (i : ℕ) → lowest i (helpful_cols sort z cols es) ≡ none → pos 0 ≤ℤ (z *ℤ dot es (map w cols))
  all-away z [] [] i e = lia-le (z ∷ []) [] (search lin depth 30) (omega arith)
  all-away z [] (a ∷ es) i e = lia-le (z ∷ []) [] (search lin depth 30) (omega arith)
  all-away z (c ∷ cols) [] i e = lia-le (z ∷ []) [] (search lin depth 30) (omega arith)
  all-away z (c ∷ cols) (a ∷ es) i e =
      let h = when-none (helps (sort c) z a) c i (helpful_cols sort z cols es) e in
      lia-le (z ∷ a ∷ w c ∷ dot es (map w cols) ∷ []) (le (away (sort c) z a (w c) h.0 (ok c)) ∷ le (all-away z cols es (suc i) h.1) ∷ []) (search lin depth 30) (omega arith)

  module _ (D : ℤ) (hD : pos 0 <ℤ D) where
    stuck_at : (r : Row) (cols : List ℕ) (n : ℕ) → Shape n r → Holds w D cols r → T (violates (sort r.var) (constant_of r)) → lowest 0 (helpful_cols sort (constant_of r) cols (tail r.nums)) ≡ none → ⊥
    stuck_at r cols n sh h v e = at r.nums refl
      where
        at : (ns : List ℤ) → r.nums ≡ ns → ⊥
        at [] q = no-suc (sym sh.long ∙ ap length q)
        at (z ∷ es) q =
            stuck-row (sort r.var) r.den (w r.var) z D (dot es (map w cols)) sh.positive hD
            (subst (λ (l : List ℤ). T (violates (sort r.var) (get_or l 0 (pos 0)))) q v) (ok r.var)
            (all-away z cols es 0 (subst (λ (l : List ℤ). lowest 0 (helpful_cols sort (get_or l 0 (pos 0)) cols (tail l)) ≡ none) q e))
            (subst (λ (l : List ℤ). rest r.den l (w r.var) (D ∷ map w cols) ≡ pos 0) q h)

    -- dropped: there is no solution
    pub run-dropped : (fits : ℕ → Tableau → Bool) (n : ℕ) (t : Tableau) → Shaped (length t.cols) t.rows → Solves w D t.cols t.rows → run fits sort n t ≡ dropped → ⊥
    unfolding reach look exchange
    run-dropped fits zero t sh k e = at (look sort t) refl (looked sort t)
      where
        at : (l : Look) → look sort t ≡ l → Found sort t l → ⊥
        at none_violated q f = let d : point ≡ dropped = rw (q, run, reach) at e in let z : ◌≡◌ {A = ℕ} 0 1 = cc in omega arith
        at none_helps q (stuck i h v u) = stuck_at (get_or t.rows i no_row) t.cols (length t.cols) (shape_at (length t.cols) t.rows i h sh) (solves-at w D t.cols t.rows i h k) v u
        at (pivot i j) q f = let d : long ≡ dropped = rw (q, run, reach) at e in let z : ◌≡◌ {A = ℕ} 0 1 = cc in omega arith
    run-dropped fits (suc n) t sh k e = at (look sort t) refl (looked sort t) (λ t'. run-dropped fits n t')
      where
        at : (l : Look) → look sort t ≡ l → Found sort t l → ((t' : Tableau) → Shaped (length t'.cols) t'.rows → Solves w D t'.cols t'.rows → run fits sort n t' ≡ dropped → ⊥) → ⊥
        at none_violated q f ih = let d : point ≡ dropped = rw (q, run, reach) at e in let z : ◌≡◌ {A = ℕ} 0 1 = cc in omega arith
        at none_helps q (stuck i h v u) ih = stuck_at (get_or t.rows i no_row) t.cols (length t.cols) (shape_at (length t.cols) t.rows i h sh) (solves-at w D t.cols t.rows i h k) v u
        at (pivot _ _) q (turns i j p) ih = on (fits j t) (rw (q, run, reach) at e)
          where
            on : (b : Bool) → (elim b as (λ (b : Bool). Ending) [ false ↦ ended wide (suc n) t | true ↦ reach fits sort n (exchange i j t) ]).verdict ≡ dropped → ⊥
            on false d = let z : ◌≡◌ {A = ℕ} 0 1 = cc in omega arith
            on true d = ih (exchange i j t) (exchange-shaped i j t p.pivots sh) (exchange-on i j t p.pivots sh w D k) d
