-- The tableaus of the second half: no row is violated, and a pivot keeps it so.
use mathlib.Core.Path.{◌≡◌, refl, sym, ap, ◌∙◌, subst}
use mathlib.Core.Bool.{Bool, true, false, not}
use mathlib.Core.Logic.{◌⊎◌, inl, inr, ⊎_elim}
use mathlib.Core.List.{[], ◌∷◌}
use mathlib.Core.Option.{Option, none, some}
use Prim.Native.Nat.{ℕ, ◌<◌}
use native.Mathlib.Omega.{arith}
use lib.Dec.{T, eqb, eqb→eq, eqb_refl}
use lib.IntN.{ℤ, pos, neg_ℤ, ◌+ℤ◌, ◌-ℤ◌, ◌*ℤ◌, *ℤ-zero}
use lib.Signed.{◌≤ℤ◌, ◌<ℤ◌}
use lib.ListN.{length}
use Rattle.integers.specs.Ring.{ring, quote}
use Rattle.integers.specs.Lin.{le, lt, eq, lin, lia-le, lia-eq, lia-no}
use Rattle.integers.specs.Order.{mul-nonneg, mul-pos-pos, mul-neg-pos, <ℤ-≤ℤ, ≤ℤ-antisymm, lt-or-ge}
use Rattle.integers.specs.Size.{nat_abs-nonpos}
use Rattle.model.specs.Sets.{Kind, equality, inequality}
use Rattle.feasibility.specs.Tableau.{Tableau, entry, constant_of, violates, helps, exchange, Look, none_violated, none_helps, pivot, look}
use Rattle.model.proofs.Count.{from-T}
use Rattle.feasibility.proofs.Reduce.{cancel-zero}
use Rattle.feasibility.proofs.Exchange.{Solves, shape_at, Pivot, exchange-back}
use Rattle.feasibility.proofs.Verdicts.{row_var, col_var, true-false, Found, calm, looked}
use Rattle.feasibility.proofs.Points.{w, w-col, w-row, basic-solves, product, product-pos, others, others-pos, calm-at}
use Rattle.feasibility.proofs.Sound.{row_of, length-cols, length-rows, col-other, col-new, row_new, row_other, Sound, exchange-sound}
use Rattle.optimum.specs.Value.{way}
use Rattle.optimum.proofs.Direction.{VanishesBut, row-none, row_one}
use Rattle.optimum.proofs.Moves.{pos-not-zero, meets-eq, meets-ge, eq-meets, ge-meets, way-unit, way_up, Stops, size, size-pos, stops-off, decide-zero, change, Improvement}

-- ---- numbers

pub nonneg-cancel : {a x : ℤ} → pos 0 <ℤ a → pos 0 ≤ℤ (a *ℤ x) → pos 0 ≤ℤ x
nonneg-cancel {a} {x} h k = ⊎_elim (λ l. absurd (lia-no (a ∷ x ∷ []) (lt (mul-neg-pos l h) ∷ le k ∷ []) (search lin depth 30) (omega arith))) (λ g. g) (lt-or-ge x (pos 0))

pub nonpos-cancel : {a x : ℤ} → pos 0 <ℤ a → (a *ℤ x) ≤ℤ pos 0 → x ≤ℤ pos 0
nonpos-cancel {a} {x} h k = ⊎_elim (λ l. absurd (lia-no (a ∷ x ∷ []) (lt (mul-pos-pos h l) ∷ le k ∷ []) (search lin depth 30) (omega arith))) (λ g. g) (lt-or-ge (pos 0) x)

unscale : (s : Option Kind) (c o : ℤ) → pos 0 <ℤ o → T (not (violates s (c *ℤ o))) → T (not (violates s c))
unscale none c o h t = tt
unscale (some equality) c o h t = meets-eq c (cancel-zero o c (pos-not-zero h) (ring (c ∷ o ∷ []) {b = c *ℤ o} (search quote depth 30) tt ∙ eq-meets (c *ℤ o) t))
unscale (some inequality) c o h t = meets-ge c (nonneg-cancel h (subst (λ (x : ℤ). pos 0 ≤ℤ x) (ring (c ∷ o ∷ []) {b = o *ℤ c} (search quote depth 30) tt) (ge-meets (c *ℤ o) t)))

-- the row that leaves comes to 0 after a move of q
leaver : (s : Option Kind) (x c D q : ℤ) → Stops s x → T (not (violates s c)) → pos 0 ≡ c *ℤ D +ℤ x *ℤ q → (size x *ℤ q ≡ c *ℤ D) × (pos 0 ≤ℤ c)
leaver none x c D q k m e = absurd k
leaver (some equality) x c D q k m e =
    let c0 : c ≡ pos 0 = eq-meets c m in
    let q0 : q ≡ pos 0 = cancel-zero x q k (sym (e ∙ ap (λ (v : ℤ). v *ℤ D +ℤ x *ℤ q) c0 ∙ ring (x ∷ q ∷ D ∷ []) {b = x *ℤ q} (search quote depth 30) tt)) in
    (ap (λ (v : ℤ). size x *ℤ v) q0 ∙ ring (size x ∷ D ∷ []) {b = pos 0 *ℤ D} (search quote depth 30) tt ∙ ap (λ (v : ℤ). v *ℤ D) (sym c0), subst (λ (v : ℤ). pos 0 ≤ℤ v) (sym c0) (record { le = tt }))
leaver (some inequality) x c D q k m e =
    (ap (λ (v : ℤ). v *ℤ q) (nat_abs-nonpos (<ℤ-≤ℤ k)) ∙ lia-eq (x ∷ c ∷ D ∷ q ∷ []) (eq e ∷ []) (search lin depth 30) (omega arith), ge-meets c m)

-- another row stays on its side
stays : (s : Option Kind) (x c den v D q X C : ℤ) → pos 0 <ℤ den → pos 0 <ℤ D → pos 0 ≤ℤ q → pos 0 ≤ℤ C → pos 0 <ℤ size X → size X *ℤ q ≡ C *ℤ D → T (not (violates s c))
    → (Stops s x → (C *ℤ size x) ≤ℤ (c *ℤ size X)) → den *ℤ v ≡ c *ℤ D +ℤ x *ℤ q → T (not (violates s v))
stays none x c den v D q X C hd hD hq hC hX f m k e = tt
stays (some equality) x c den v D q X C hd hD hq hC hX f m k e = meets-eq v (cancel-zero den v (pos-not-zero hd) (e ∙ ap (λ (y : ℤ). y *ℤ D +ℤ x *ℤ q) c0 ∙ ⊎_elim flat moved (decide-zero x)))
  where
    c0 : c ≡ pos 0
    c0 = eq-meets c m

    flat : x ≡ pos 0 → pos 0 *ℤ D +ℤ x *ℤ q ≡ pos 0
    flat z = ap (λ (y : ℤ). pos 0 *ℤ D +ℤ y *ℤ q) z ∙ ring (D ∷ q ∷ []) (search quote depth 30) tt

    moved : (x ≡ pos 0 → ⊥) → pos 0 *ℤ D +ℤ x *ℤ q ≡ pos 0
    moved n =
        let h : (C *ℤ size x) ≤ℤ (pos 0 *ℤ size X) = subst (λ (y : ℤ). (C *ℤ size x) ≤ℤ (y *ℤ size X)) c0 (k n) in
        let C0 : C ≡ pos 0 = ≤ℤ-antisymm (nonpos-cancel (size-pos x n) (lia-le (size x ∷ C ∷ size X ∷ []) (le h ∷ []) (search lin depth 30) (omega arith))) hC in
        let q0 : q ≡ pos 0 = cancel-zero (size X) q (pos-not-zero hX) (f ∙ ap (λ (y : ℤ). y *ℤ D) C0 ∙ ring (D ∷ []) (search quote depth 30) tt) in
        ap (λ (y : ℤ). pos 0 *ℤ D +ℤ x *ℤ y) q0 ∙ ring (D ∷ x ∷ []) (search quote depth 30) tt
stays (some inequality) x c den v D q X C hd hD hq hC hX f m k e = meets-ge v (⊎_elim falls rises (lt-or-ge x (pos 0)))
  where
    hc : pos 0 ≤ℤ c
    hc = ge-meets c m

    rises : pos 0 ≤ℤ x → pos 0 ≤ℤ v
    rises g = nonneg-cancel hd (lia-le (den ∷ v ∷ c ∷ D ∷ x ∷ q ∷ []) (eq e ∷ le (mul-nonneg hc (<ℤ-≤ℤ hD)) ∷ le (mul-nonneg g hq) ∷ []) (search lin depth 30) (omega arith))

    falls : x <ℤ pos 0 → pos 0 ≤ℤ v
    falls l =
        let h : (C *ℤ neg_ℤ x) ≤ℤ (c *ℤ size X) = subst (λ (y : ℤ). (C *ℤ y) ≤ℤ (c *ℤ size X)) (nat_abs-nonpos (<ℤ-≤ℤ l)) (k l) in
        let g : pos 0 ≤ℤ ((c *ℤ size X -ℤ C *ℤ neg_ℤ x) *ℤ D) = mul-nonneg {a = c *ℤ size X -ℤ C *ℤ neg_ℤ x} (lia-le (c ∷ size X ∷ C ∷ x ∷ []) (le h ∷ []) (search lin depth 30) (omega arith)) (<ℤ-≤ℤ hD) in
        nonneg-cancel (mul-pos-pos hX hd)
        (lia-le (size X ∷ den ∷ v ∷ c ∷ D ∷ x ∷ q ∷ C ∷ []) (le g ∷ eq (ap (λ (y : ℤ). size X *ℤ y) e) ∷ eq (ap (λ (y : ℤ). x *ℤ y) f) ∷ []) (search lin depth 30) (omega arith))

same_or_not : (m n : ℕ) → (m ≡ n) ⊎ (m ≡ n → ⊥)
same_or_not m n = at (eqb m n) refl
  where
    at : (b : Bool) → eqb m n ≡ b → (m ≡ n) ⊎ (m ≡ n → ⊥)
    at true q = inl (eqb→eq m n (subst T (sym q) tt))
    at false q = inr (λ e. true-false (sym (from-T (eqb m n) (subst (λ (k : ℕ). T (eqb m k)) e (eqb_refl m))) ∙ q))

-- ---- the basic solution: the columns are 0

abbrev pub basic : (t : Tableau) → Sound t → ℕ → ℤ
basic t g = w t g.shaped g.placed

-- over this denominator
abbrev pub over : Tableau → ℤ
over t = product t.rows

pub over-pos : (t : Tableau) → Sound t → pos 0 <ℤ over t
over-pos t g = product-pos (length t.cols) t.rows g.shaped

-- ---- what every tableau of the second half has

module _ (sort : ℕ → Option Kind) (k e : ℕ) where
  -- no row is violated, and row k is that of variable e, the expression's
  pub record Feasible (t : Tableau) : Type 0 where
    pub sound : Sound t
    pub allowed : (m : ℕ) → m < length t.rows → T (not (violates (sort (row_var t m)) (constant_of (row_of t m))))
    pub inside : k < length t.rows
    pub expression : row_var t k ≡ e

  -- the first half's end, where no row is violated
  pub feasible-start : (t : Tableau) → Sound t → look sort t ≡ none_violated → k < length t.rows → row_var t k ≡ e → Feasible t
  feasible-start t g q h v = record { sound = g; allowed = λ m b. at (look sort t) (looked sort t) q m; inside = h; expression = v }
    where
      Other : Look → Type 0
      Other none_violated = ⊥
      Other none_helps = Unit {0}
      Other (pivot i j) = Unit {0}

      at : (l : Look) → Found sort t l → l ≡ none_violated → (m : ℕ) → T (not (violates (sort (row_var t m)) (constant_of (row_of t m))))
      at none_violated (calm c) q m = calm-at sort t.rows 0 c m
      at none_helps f q m = absurd (subst Other q tt)
      at (pivot i j) f q m = absurd (subst Other q tt)

  -- the expression's value there
  pub basic-value : (t : Tableau) (g : Feasible t) → (row_of t k).den *ℤ basic t g.sound e ≡ constant_of (row_of t k) *ℤ over t
  basic-value t g =
      ap (λ (v : ℕ). (row_of t k).den *ℤ basic t g.sound v) (sym g.expression)
      ∙ row-none t g.sound (basic t g.sound) (over t) (basic-solves t g.sound.shaped g.sound.placed) k g.inside (w-col t g.sound.shaped g.sound.placed)

  pub den_pos : (t : Tableau) (g : Feasible t) → pos 0 <ℤ (row_of t k).den
  den_pos t g = (shape_at (length t.cols) t.rows k g.inside g.sound.shaped).positive

  module _ (free : sort e ≡ none) (z : ℤ) (t : Tableau) (g : Feasible t) (i j : ℕ) (turn : Improvement sort z k i j t) where
    abbrev p : Pivot i j t
    p = turn.pivots

    abbrev t' : Tableau
    t' = exchange i j t

    abbrev g' : Sound t'
    g' = exchange-sound i j t p g.sound

    abbrev y : ℤ
    y = way z (entry (row_of t k) j)

    -- where column j's variable comes to
    abbrev x : ℤ
    x = basic t' g' (col_var t j)

    pub solves : Solves (basic t' g') (over t') t.cols t.rows
    solves = exchange-back i j t p g.sound.shaped (basic t' g') (over t') (basic-solves t' g'.shaped g'.placed)

    pub vanishes : VanishesBut j (basic t' g') t.cols
    vanishes m h n = ap (basic t' g') (sym (col-other i j t m n)) ∙ w-col t' g'.shaped g'.placed m (subst (λ (l : ℕ). m < l) (sym (length-cols i j t)) h)

    gone : basic t' g' (row_var t i) ≡ pos 0
    gone = ap (basic t' g') (sym (col-new i j t p.col)) ∙ w-col t' g'.shaped g'.placed j (subst (λ (l : ℕ). j < l) (sym (length-cols i j t)) p.col)

    shift : (a : ℤ) → a *ℤ x ≡ a *ℤ y *ℤ (y *ℤ x)
    shift a = lia-eq (a ∷ x ∷ y ∷ []) (eq (ap (λ (v : ℤ). a *ℤ x *ℤ v) (way-unit z (entry (row_of t k) j))) ∷ []) (search lin depth 30) (omega arith)

    row-says : (m : ℕ) → m < length t.rows → (row_of t m).den *ℤ basic t' g' (row_var t m) ≡ constant_of (row_of t m) *ℤ over t' +ℤ change z k j t m *ℤ (y *ℤ x)
    row-says m h = row_one t g.sound (basic t' g') (over t') solves m h j p.col vanishes ∙ ap (λ (v : ℤ). constant_of (row_of t m) *ℤ over t' +ℤ v) (shift (entry (row_of t m) j))

    pub left : (size (change z k j t i) *ℤ (y *ℤ x) ≡ constant_of (row_of t i) *ℤ over t') × (pos 0 ≤ℤ constant_of (row_of t i))
    left =
        leaver (sort (row_var t i)) (change z k j t i) (constant_of (row_of t i)) (over t') (y *ℤ x) turn.stops (g.allowed i p.row)
        (sym (sym (row-says i p.row) ∙ ap (λ (v : ℤ). (row_of t i).den *ℤ v) gone ∙ *ℤ-zero (row_of t i).den))

    big : pos 0 <ℤ size (change z k j t i)
    big = size-pos (change z k j t i) (stops-off (sort (row_var t i)) (change z k j t i) turn.stops)

    -- the move is not backwards
    pub forwards : pos 0 ≤ℤ (y *ℤ x)
    forwards = nonneg-cancel big (subst (λ (v : ℤ). pos 0 ≤ℤ v) (sym left.0) (mul-nonneg left.1 (<ℤ-≤ℤ (over-pos t' g'))))

    row-allowed : (m : ℕ) → m < length t.rows → T (not (violates (sort (row_var t m)) (basic t' g' (row_var t m))))
    row-allowed m h =
        stays (sort (row_var t m)) (change z k j t m) (constant_of (row_of t m)) (row_of t m).den (basic t' g' (row_var t m)) (over t') (y *ℤ x) (change z k j t i) (constant_of (row_of t i))
        (shape_at (length t.cols) t.rows m h g.sound.shaped).positive (over-pos t' g') forwards left.1 big left.0 (g.allowed m h) (turn.soon m h) (row-says m h)

    col-allowed : T (not (violates (sort (col_var t j)) x))
    col-allowed = at (sort (col_var t j)) turn.helpful
      where
        at : (s : Option Kind) → T (helps s z (entry (row_of t k) j)) → T (not (violates s x))
        at none h = tt
        at (some equality) h = absurd h
        at (some inequality) h = meets-ge x (subst (λ (v : ℤ). pos 0 ≤ℤ v) (ap (λ (v : ℤ). v *ℤ x) (way_up z (entry (row_of t k) j) h) ∙ ring (x ∷ []) {b = x} (search quote depth 30) tt) forwards)

    -- the expression's row stays
    apart : k ≡ i → ⊥
    apart q = subst (λ (s : Option Kind). Stops s (change z k j t i)) (ap sort (ap (row_var t) (sym q) ∙ g.expression) ∙ free) turn.stops

    var-allowed : (m : ℕ) → m < length t.rows → T (not (violates (sort (row_var t' m)) (basic t' g' (row_var t' m))))
    var-allowed m h =
        ⊎_elim
        (λ q. subst (λ (v : ℕ). T (not (violates (sort v) (basic t' g' v)))) (sym (ap (row_var t') q ∙ row_new i j t p.row)) col-allowed)
        (λ n. subst (λ (v : ℕ). T (not (violates (sort v) (basic t' g' v)))) (sym (row_other i j t m h n)) (row-allowed m h))
        (same_or_not m i)

    pub feasible-on : Feasible t'
    feasible-on =
        record {
          sound = g';
          allowed = λ m h.
              unscale (sort (row_var t' m)) (constant_of (row_of t' m)) (others t'.rows m) (others-pos (length t'.cols) t'.rows g'.shaped m)
              (subst (λ (v : ℤ). T (not (violates (sort (row_var t' m)) v))) (w-row t' g'.shaped g'.placed m h)
              (var-allowed m (subst (λ (n : ℕ). m < n) (length-rows i j t) h)));
          inside = subst (λ (n : ℕ). k < n) (sym (length-rows i j t)) g.inside;
          expression = row_other i j t k g.inside apart ∙ g.expression;
        }
