-- The second half's pivots: the value never gets worse; where it stays the point does; so the same column variables never come back.
use mathlib.Core.Path.{◌≡◌, sym, ap, ◌∙◌, subst}
use mathlib.Core.Logic.{⊎_elim}
use mathlib.Core.List.{[], ◌∷◌}
use mathlib.Core.Option.{Option, none, some}
use Prim.Native.Nat.{ℕ, zero, suc, ◌<◌}
use native.Mathlib.Omega.{arith}
use lib.IntN.{ℤ, pos, ◌+ℤ◌, ◌-ℤ◌, ◌*ℤ◌, *ℤ-zero}
use lib.Signed.{◌≤ℤ◌, ◌<ℤ◌}
use lib.ListN.{length}
use Rattle.integers.specs.Ring.{ring, quote}
use Rattle.integers.specs.Lin.{le, lt, eq, lin, lia-le, lia-eq, lia-no}
use Rattle.integers.specs.Order.{mul-nonneg, mul-neg-pos, mul-nonpos, <ℤ-≤ℤ, ≤ℤ-antisymm, lt-or-ge}
use Rattle.model.specs.Sets.{Kind}
use Rattle.feasibility.specs.Tableau.{Tableau, entry, constant_of, exchange}
use Rattle.optimum.specs.Value.{Aim, best, endless, turn, way, aim}
use Rattle.feasibility.proofs.Reduce.{cancel-zero}
use Rattle.feasibility.proofs.Exchange.{Solves, shape_at, Pivot, exchange-on, exchange-back}
use Rattle.feasibility.proofs.Verdicts.{row_var, col_var, some-none}
use Rattle.feasibility.proofs.Points.{w-col, basic-solves, Vanishes}
use Rattle.feasibility.proofs.Sound.{row_of, length-cols, col-other, col-new, Sound, exchange-sound}
use Rattle.optimum.proofs.Direction.{VanishesBut, row-none, row_one, direction, direction-solves}
use Rattle.optimum.proofs.Moves.{pos-not-zero, way-unit, way_down, size, change, Improvement}
use Rattle.optimum.proofs.Feasible.{nonpos-cancel, basic, over, over-pos, Feasible, basic-value, den_pos, solves, vanishes, left, forwards, feasible-on}
use Rattle.optimum.proofs.Halves.{aimed-turn}
use Rattle.termination.specs.Unlimited.{turn_of, value_step, SameColumns}
use Rattle.termination.proofs.Columns.{same_or_not, col-yes, col-at, Numbered, numbered-on}
use Rattle.termination.proofs.Trail.{Walk, Trail, no_return}
use Rattle.termination.proofs.Visits.{Search}

-- ---- numbers

-- row k says den·v = c·D + a·x before the pivot and den'·v = c'·D after it; y is 1 or −1, and the value falls along y
module _ (den den' c c' v D a x z y : ℤ) (e : den *ℤ v ≡ c *ℤ D +ℤ a *ℤ x) (f : den' *ℤ v ≡ c' *ℤ D) (yy : y *ℤ y ≡ pos 1) (hD : pos 0 <ℤ D) (hd : pos 0 <ℤ den') (down : (z *ℤ a *ℤ y) <ℤ pos 0) where
  gain : D *ℤ (z *ℤ (c' *ℤ den -ℤ c *ℤ den')) ≡ z *ℤ a *ℤ y *ℤ (y *ℤ x) *ℤ den'
  gain =
      lia-eq (den ∷ den' ∷ c ∷ c' ∷ v ∷ D ∷ a ∷ x ∷ z ∷ y ∷ [])
      (eq (ap (λ (w : ℤ). z *ℤ den' *ℤ w) e) ∷ eq (ap (λ (w : ℤ). z *ℤ den *ℤ w) f) ∷ eq (ap (λ (w : ℤ). z *ℤ a *ℤ x *ℤ den' *ℤ w) yy) ∷ []) (search lin depth 40) (omega arith)

  not-worse : pos 0 ≤ℤ (y *ℤ x) → (z *ℤ (c' *ℤ den -ℤ c *ℤ den')) ≤ℤ pos 0
  not-worse h = nonpos-cancel hD (subst (λ (w : ℤ). w ≤ℤ pos 0) (sym gain) (mul-nonpos (mul-nonpos (<ℤ-≤ℤ down) h) (<ℤ-≤ℤ hd)))

  no-gain : pos 0 ≤ℤ (y *ℤ x) → (z *ℤ (c *ℤ den' -ℤ c' *ℤ den)) ≤ℤ pos 0 → y *ℤ x ≡ pos 0
  no-gain h k =
      let b : pos 0 ≤ℤ (D *ℤ (z *ℤ (c' *ℤ den -ℤ c *ℤ den'))) = mul-nonneg (<ℤ-≤ℤ hD) (lia-le (z ∷ c ∷ c' ∷ den ∷ den' ∷ []) (le k ∷ []) (search lin depth 30) (omega arith)) in
      ≤ℤ-antisymm (⊎_elim (λ l. absurd (clash b (mul-neg-pos (mul-neg-pos down l) hd))) (λ g. g) (lt-or-ge (pos 0) (y *ℤ x))) h
    where
      clash : pos 0 ≤ℤ (D *ℤ (z *ℤ (c' *ℤ den -ℤ c *ℤ den'))) → (z *ℤ a *ℤ y *ℤ (y *ℤ x) *ℤ den') <ℤ pos 0 → ⊥
      clash b l = lia-no (den ∷ den' ∷ c ∷ c' ∷ D ∷ a ∷ x ∷ z ∷ y ∷ []) (lt l ∷ eq gain ∷ le b ∷ []) (search lin depth 40) (omega arith)

-- no worse, twice
worse-trans : (z a b c A B C : ℤ) → pos 0 <ℤ A → pos 0 <ℤ B → pos 0 <ℤ C → (z *ℤ (b *ℤ A -ℤ a *ℤ B)) ≤ℤ pos 0 → (z *ℤ (c *ℤ B -ℤ b *ℤ C)) ≤ℤ pos 0 → (z *ℤ (c *ℤ A -ℤ a *ℤ C)) ≤ℤ pos 0
worse-trans z a b c A B C hA hB hC h k =
    nonpos-cancel hB (lia-le (z ∷ a ∷ b ∷ c ∷ A ∷ B ∷ C ∷ []) (le (mul-nonpos h (<ℤ-≤ℤ hC)) ∷ le (mul-nonpos k (<ℤ-≤ℤ hA)) ∷ []) (search lin depth 40) (omega arith))

-- c over p and b over q are the same value n over D
equal : (z c b p q n D : ℤ) → pos 0 <ℤ D → p *ℤ n ≡ c *ℤ D → q *ℤ n ≡ b *ℤ D → (z *ℤ (c *ℤ q -ℤ b *ℤ p)) ≤ℤ pos 0
equal z c b p q n D hD e f =
    nonpos-cancel hD (lia-le (z ∷ c ∷ b ∷ p ∷ q ∷ n ∷ D ∷ []) (eq (ap (λ (v : ℤ). z *ℤ q *ℤ v) e) ∷ eq (ap (λ (v : ℤ). z *ℤ p *ℤ v) f) ∷ []) (search lin depth 40) (omega arith))

module _ (sort : ℕ → Option Kind) (z : ℤ) (nz : z ≡ pos 0 → ⊥) (k e : ℕ) (free : sort e ≡ none) where
  abbrev F : Tableau → Type 0
  F t = Feasible sort k e t

  abbrev constant : Tableau → ℤ
  constant t = constant_of (row_of t k)

  abbrev den : Tableau → ℤ
  den t = (row_of t k).den

  -- the value at u is no worse than at t
  abbrev NoWorse : Tableau → Tableau → Type 0
  NoWorse t u = (z *ℤ (constant u *ℤ den t -ℤ constant t *ℤ den u)) ≤ℤ pos 0

  no-worse-trans : (t u v : Tableau) → F t → F u → F v → NoWorse t u → NoWorse u v → NoWorse t v
  no-worse-trans t u v g h l = worse-trans z (constant t) (constant u) (constant v) (den t) (den u) (den v) (den_pos sort k e t g) (den_pos sort k e u h) (den_pos sort k e v l)

  -- ---- one pivot

  module _ (t : Tableau) (g : F t) (i j : ℕ) (turned : Improvement sort z k i j t) where
    abbrev t' : Tableau
    t' = exchange i j t

    abbrev s' : Sound t'
    s' = exchange-sound i j t turned.pivots g.sound

    abbrev g' : F t'
    g' = feasible-on sort k e free z t g i j turned

    abbrev y : ℤ
    y = way z (entry (row_of t k) j)

    abbrev x : ℤ
    x = basic t' s' (col_var t j)

    before : den t *ℤ basic t' s' e ≡ constant t *ℤ over t' +ℤ entry (row_of t k) j *ℤ x
    before =
        ap (λ (v : ℕ). den t *ℤ basic t' s' v) (sym g.expression)
        ∙ row_one t g.sound (basic t' s') (over t') (solves sort k e free z t g i j turned) k g.inside j turned.pivots.col (vanishes sort k e free z t g i j turned)

    afterwards : den t' *ℤ basic t' s' e ≡ constant t' *ℤ over t'
    afterwards =
        ap (λ (v : ℕ). den t' *ℤ basic t' s' v) (sym g'.expression)
        ∙ row-none t' s' (basic t' s') (over t') (basic-solves t' s'.shaped s'.placed) k g'.inside (w-col t' s'.shaped s'.placed)

    down : (z *ℤ entry (row_of t k) j *ℤ y) <ℤ pos 0
    down = way_down (sort (col_var t j)) z (entry (row_of t k) j) nz turned.helpful

    step-no-worse : NoWorse t t'
    step-no-worse =
        not-worse (den t) (den t') (constant t) (constant t') (basic t' s' e) (over t') (entry (row_of t k) j) x z y before afterwards (way-unit z (entry (row_of t k) j)) (over-pos t' s') (den_pos sort k e t' g') down
        (forwards sort k e free z t g i j turned)

    -- if the value does not change, the row that leaves was at 0
    step-flat : NoWorse t' t → constant_of (row_of t i) ≡ pos 0
    step-flat h =
        let q : y *ℤ x ≡ pos 0 =
        no-gain (den t) (den t') (constant t) (constant t') (basic t' s' e) (over t') (entry (row_of t k) j) x z y before afterwards (way-unit z (entry (row_of t k) j)) (over-pos t' s') (den_pos sort k e t' g') down
        (forwards sort k e free z t g i j turned) h in
        cancel-zero (over t') (constant_of (row_of t i)) (pos-not-zero (over-pos t' s'))
        (ring (over t' ∷ constant_of (row_of t i) ∷ []) {b = constant_of (row_of t i) *ℤ over t'} (search quote depth 30) tt
        ∙ sym (left sort k e free z t g i j turned).0 ∙ ap (λ (v : ℤ). size (change z k j t i) *ℤ v) q ∙ *ℤ-zero (size (change z k j t i)))

  -- ---- pivots that leave the point where it is

  record Flat (i j : ℕ) (t : Tableau) : Type 0 where
    turned : Improvement sort z k i j t
    at_zero : constant_of (row_of t i) ≡ pos 0

  module _ (i j : ℕ) (t : Tableau) (g : F t) (f : Flat i j t) (x : ℕ → ℤ) (D : ℤ) (s : Solves x D t.cols t.rows) where
    abbrev p : Pivot i j t
    p = f.turned.pivots

    vanish-on : Vanishes x t.cols → Vanishes x (exchange i j t).cols
    vanish-on v m h =
        ⊎_elim
        (λ q. ap (λ (n : ℕ). x (col_var (exchange i j t) n)) q ∙ ap x (col-new i j t p.col)
        ∙ cancel-zero (row_of t i).den (x (row_var t i)) (pos-not-zero (shape_at (length t.cols) t.rows i p.row g.sound.shaped).positive)
        (row-none t g.sound x D s i p.row v ∙ ap (λ (c : ℤ). c *ℤ D) f.at_zero ∙ ring (D ∷ []) (search quote depth 30) tt))
        (λ n. ap x (col-other i j t m n) ∙ v m (subst (λ (l : ℕ). m < l) (length-cols i j t) h))
        (same_or_not m j)

    vanish-back : Vanishes x (exchange i j t).cols → Vanishes x t.cols
    vanish-back v m h =
        ⊎_elim
        (λ q. ap (λ (n : ℕ). x (col_var t n)) q
        ∙ cancel-zero (entry (row_of t i) j) (x (col_var t j)) p.entry
        (lone (entry (row_of t i) j) (x (col_var t j)) (constant_of (row_of t i)) (row_of t i).den (x (row_var t i))
        (row_one t g.sound x D s i p.row j p.col others-zero) f.at_zero
        (ap x (sym (col-new i j t p.col)) ∙ v j (subst (λ (l : ℕ). j < l) (sym (length-cols i j t)) p.col))))
        (λ n. others-zero m h n)
        (same_or_not m j)
      where
        others-zero : VanishesBut j x t.cols
        others-zero m h n = ap x (sym (col-other i j t m n)) ∙ v m (subst (λ (l : ℕ). m < l) (sym (length-cols i j t)) h)

        lone : (a b c q r : ℤ) → q *ℤ r ≡ c *ℤ D +ℤ a *ℤ b → c ≡ pos 0 → r ≡ pos 0 → a *ℤ b ≡ pos 0
        lone a b c q r e c0 r0 = lia-eq (a ∷ b ∷ c ∷ q ∷ r ∷ D ∷ []) (eq e ∷ eq (ap (λ (v : ℤ). v *ℤ D) c0) ∷ eq (ap (λ (v : ℤ). q *ℤ v) r0) ∷ []) (search lin depth 30) (omega arith)

  abbrev walk : Walk
  walk =
      record {
        Good = F;
        Turns = Flat;
        Same = λ t u. (x : ℕ → ℤ) (D : ℤ) → Solves x D t.cols t.rows → Solves x D u.cols u.rows × (Vanishes x t.cols → Vanishes x u.cols);
        pivot = λ i j t f. f.turned.pivots;
        sound = λ t g. g.sound;
        onward = λ i j t f g. g' t g i j f.turned;
        self = λ t x D s. (s, λ v. v);
        on = λ i j t u f g same x D s.
            let h = same x D s in
            (exchange-on i j t f.turned.pivots g.sound.shaped x D h.0, λ v. vanish-on i j t g f x D h.0 (h.1 v));
        back = λ i j t u f g same x D s.
            let b : Solves x D t.cols t.rows = exchange-back i j t f.turned.pivots g.sound.shaped x D s in
            let h = same x D b in
            (h.0, λ v. h.1 (vanish-back i j t g f x D b v));
        never = λ i j t g f i' j' u h f' enters l l' same b.
            Rattle.termination.proofs.Turning.never sort z nz k t g.sound g.inside i j f.turned u h.sound h.inside i' j' f'.turned (h.expression ∙ sym g.expression) enters l'
            (same (direction t g.sound j f.turned.pivots.col (way z (entry (row_of t k) j))) (pos 0) (direction-solves t g.sound j f.turned.pivots.col (way z (entry (row_of t k) j)))).0
            ((same (basic t g.sound) (over t) (basic-solves t g.sound.shaped g.sound.placed)).1 (w-col t g.sound.shaped g.sound.placed))
            b;
      }

  -- ---- the value along the pivots

  abbrev Tr : ℕ → ℕ → Tableau → Tableau → Type 0
  Tr r n t u = Trail (Improvement sort z k) r n t u

  record Along (t u : Tableau) : Type 0 where
    feasible : F u
    no_worse : NoWorse t u
    solutions : (x : ℕ → ℤ) (D : ℤ) → Solves x D t.cols t.rows → Solves x D u.cols u.rows

  along : (r n : ℕ) (t u : Tableau) → F t → Tr r n t u → Along t u
  along r zero t u g s = subst (Along t) s (record { feasible = g; no_worse = lia-le (z ∷ constant t ∷ den t ∷ []) [] (search lin depth 30) (omega arith); solutions = λ x D h. h })
  along r (suc n) t u g s =
      let i : ℕ = s.0 in
      let j : ℕ = s.1 in
      let a : Along (exchange i j t) u = along r n (exchange i j t) u (g' t g i j s.2) s.5 in
      record {
        feasible = a.feasible;
        no_worse = no-worse-trans t (exchange i j t) u g (g' t g i j s.2) a.feasible (step-no-worse t g i j s.2) a.no_worse;
        solutions = λ x D h. a.solutions x D (exchange-on i j t s.2.pivots g.sound.shaped x D h);
      }

  -- the end is no better than the start: then every pivot leaves the point where it is
  all-flat : (r n : ℕ) (t u : Tableau) → F t → Tr r n t u → NoWorse u t → Trail Flat r n t u
  all-flat r zero t u g s b = s
  all-flat r (suc n) t u g s b =
      let i : ℕ = s.0 in
      let j : ℕ = s.1 in
      let t₁ : Tableau = exchange i j t in
      let g₁ : F t₁ = g' t g i j s.2 in
      let a : Along t₁ u = along r n t₁ u g₁ s.5 in
      let still : constant_of (row_of t i) ≡ pos 0 = step-flat t g i j s.2 (no-worse-trans t₁ u t g₁ a.feasible g a.no_worse b) in
      let next : NoWorse u t₁ = no-worse-trans u t t₁ a.feasible g g₁ b (step-no-worse t g i j s.2) in
      (i, j, record { turned = s.2; at_zero = still }, s.3, s.4, all-flat r n t₁ u g₁ s.5 next)

  -- the same column variables: the same value
  same-value : (t u : Tableau) → F t → Along t u → SameColumns t u → NoWorse u t
  same-value t u g a same =
      equal z (constant t) (constant u) (den t) (den u) (basic t g.sound e) (over t) (over-pos t g.sound) (basic-value sort k e t g)
      (ap (λ (v : ℕ). den u *ℤ basic t g.sound v) (sym a.feasible.expression)
      ∙ row-none u a.feasible.sound (basic t g.sound) (over t) (a.solutions (basic t g.sound) (over t) (basic-solves t g.sound.shaped g.sound.placed)) k a.feasible.inside zero-there)
    where
      zero-there : Vanishes (basic t g.sound) u.cols
      zero-there m b =
          let p = col-at t (col_var u m) (same (col_var u m) ∙ col-yes u m b) in
          ap (basic t g.sound) (sym p.is) ∙ w-col t g.sound.shaped g.sound.placed p.place p.inside

  -- the same column variables never come back
  pub returns-not : (r n : ℕ) (t u : Tableau) → F t → Tr r n t u → SameColumns t u → n ≡ 0
  returns-not r n t u g s same = no_return walk r n t u g (all-flat r n t u g s (same-value t u g (along r n t u g s) same)) same

  -- ---- as a search

  pub aim-turn : (i j : ℕ) (t : Tableau) → F t → value_step sort z k t ≡ some (i, j) → Improvement sort z k i j t
  aim-turn i j t g q = aimed-turn sort z k e t g i j (at (aim sort z k t) q)
    where
      at : (l : Aim) → turn_of l ≡ some (i, j) → l ≡ turn i j
      at best q = some-none (sym q)
      at endless q = some-none (sym q)
      at (turn a b) q = let p : ◌≡◌ {A = ℕ × ℕ} (a, b) (i, j) = cc in ap (λ (p : ℕ × ℕ). turn p.0 p.1) p

  abbrev pub climbing : (N : ℕ) → Search (value_step sort z k) N
  climbing N =
      record {
        Good = λ t. F t × Numbered N t;
        Turns = Improvement sort z k;
        turned = λ i j t g q. aim-turn i j t g.0 q;
        pivot = λ i j t turned. turned.pivots;
        onward = λ i j t turned g. (g' t g.0 i j turned, numbered-on N i j t turned.pivots g.1);
        numbered = λ t g. g.1;
        no_return = λ n t u g s h. returns-not N n t u g.0 s h;
      }
