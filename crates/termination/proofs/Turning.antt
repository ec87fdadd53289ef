-- Why a variable of the second half does not both leave and come in while the point stays the same: r leaves one tableau, at which s enters, and
-- enters another with the same solutions and the same point. The direction of s solves the other's expression row over 0: its value gets better by
-- the one tableau, and not by the other.
use mathlib.Core.Path.{◌≡◌, sym, ap, ◌∙◌, subst}
use mathlib.Core.Bool.{true, not}
use mathlib.Core.List.{[], ◌∷◌, map, tail}
use mathlib.Core.Option.{Option, none, some}
use Prim.Native.Nat.{ℕ, ◌≤◌, ◌<◌}
use native.Mathlib.Omega.{arith}
use lib.Dec.{T}
use lib.IntN.{ℤ, pos, ◌+ℤ◌, ◌*ℤ◌}
use lib.Signed.{◌≤ℤ◌, ◌<ℤ◌}
use lib.ListN.{length}
use Rattle.integers.specs.Ring.{ring, quote}
use Rattle.integers.specs.Lin.{le, lt, eq, lin, lia-le, lia-no}
use Rattle.integers.specs.Order.{mul-nonneg, mul-neg-pos, mul-nonpos-nonpos, <ℤ-≤ℤ}
use Rattle.model.specs.Sets.{dot, Kind, equality, inequality}
use Rattle.feasibility.specs.Tableau.{Tableau, entry, constant_of, violates, helps}
use Rattle.optimum.specs.Value.{way}
use Rattle.feasibility.proofs.Reduce.{cancel-zero}
use Rattle.feasibility.proofs.Exchange.{Solves, shape_at}
use Rattle.feasibility.proofs.Verdicts.{row_var, col_var}
use Rattle.feasibility.proofs.Points.{w-row, product, others, others-pos, Vanishes}
use Rattle.feasibility.proofs.Sound.{row_of, Sound}
use Rattle.optimum.proofs.Direction.{row-eq, direction, direction-others, direction-row, direction-meets}
use Rattle.optimum.proofs.Moves.{pos-not-zero, below, way_down, col-way, row-way, Stops, size, change, Improvement}
use Rattle.optimum.proofs.Feasible.{basic, over-pos}
use Rattle.termination.specs.Unlimited.{in_cols}
use Rattle.termination.proofs.Columns.{col-at}
use Rattle.termination.proofs.Cycle.{sum_away}

-- a column that improves, and falls as a row that stops the move
both_ways : (s : Option Kind) (z b x o : ℤ) → T (helps s z b) → Stops s x → pos 0 <ℤ o → pos 0 ≤ℤ (z *ℤ (b *ℤ (x *ℤ o)))
both_ways none z b x o h k p = absurd k
both_ways (some equality) z b x o h k p = absurd h
both_ways (some inequality) z b x o h k p =
    lia-le (z ∷ b ∷ x ∷ o ∷ []) (le (mul-nonneg (mul-nonpos-nonpos (<ℤ-≤ℤ (below (z *ℤ b) h)) (<ℤ-≤ℤ k)) (<ℤ-≤ℤ p)) ∷ []) (search lin depth 30) (omega arith)

-- r leaves t and enters u; the expression's row is k in both
module _
    (sort : ℕ → Option Kind) (z : ℤ) (nz : z ≡ pos 0 → ⊥) (k : ℕ)
    (t : Tableau) (g : Sound t) (kin : k < length t.rows) (i j : ℕ) (turn : Improvement sort z k i j t)
    (u : Tableau) (g' : Sound u) (kin' : k < length u.rows) (i' j' : ℕ) (turn' : Improvement sort z k i' j' u)
  where
    abbrev r : ℕ
    r = row_var t i

    abbrev y : ℤ
    y = way z (entry (row_of t k) j)

    abbrev dir : ℕ → ℤ
    dir = direction t g j turn.pivots.col y

    module _
        (value : row_var u k ≡ row_var t k) (enters : col_var u j' ≡ r) (low : col_var t j < r)
        (solved : Solves dir (pos 0) u.cols u.rows) (still : Vanishes (basic t g) u.cols) (beyond : (v : ℕ) → r < v → in_cols u v ≡ in_cols t v)
      where
        -- a row of t that is a column of u has the constant 0
        at_rest : (m : ℕ) → m < length t.rows → (c : ℕ) → c < length u.cols → row_var t m ≡ col_var u c → constant_of (row_of t m) ≡ pos 0
        at_rest m h c l e =
            cancel-zero (others t.rows m) (constant_of (row_of t m)) (pos-not-zero (others-pos (length t.cols) t.rows g.shaped m))
            (ring (others t.rows m ∷ constant_of (row_of t m) ∷ []) {b = constant_of (row_of t m) *ℤ others t.rows m} (search quote depth 30) tt ∙ sym (w-row t g.shaped g.placed m h) ∙ ap (basic t g) e ∙ still c l)

        -- a row below r that stops the move does so at 0, as r does, and would leave
        lower-meets : (c : ℕ) → c < length u.cols → col_var u c < r → T (not (violates (sort (col_var u c)) (dir (col_var u c))))
        lower-meets c l h =
            direction-meets t g j turn.pivots.col y sort (col_var u c)
            (λ e. subst (λ (v : ℕ). T (not (violates (sort v) (y *ℤ product t.rows)))) (sym e) (col-way (sort (col_var t j)) z (entry (row_of t k) j) (product t.rows) turn.helpful (over-pos t g)))
            (λ m b e. subst (λ (v : ℕ). T (not (violates (sort v) (entry (row_of t m) j *ℤ y *ℤ others t.rows m)))) e
            (row-way (sort (row_var t m)) (change z k j t m) (others t.rows m) (others-pos (length t.cols) t.rows g.shaped m)
            (λ s. clash m e (turn.tied m b s (zeros (constant_of (row_of t i)) (constant_of (row_of t m)) (size (change z k j t m)) (size (change z k j t i)) (at_rest i turn.pivots.row j' turn'.pivots.col (sym enters)) (at_rest m b c l e))))))
          where
            clash : (m : ℕ) → row_var t m ≡ col_var u c → row_var t i ≤ row_var t m → ⊥
            clash m e g = omega arith

            zeros : (a b p q : ℤ) → a ≡ pos 0 → b ≡ pos 0 → a *ℤ p ≡ b *ℤ q
            zeros a b p q e f = ap (λ (x : ℤ). x *ℤ p) e ∙ ring (p ∷ q ∷ []) {b = pos 0 *ℤ q} (search quote depth 30) tt ∙ ap (λ (x : ℤ). x *ℤ q) (sym f)

        at-r : pos 0 ≤ℤ (z *ℤ (entry (row_of u k) j' *ℤ dir (col_var u j')))
        at-r =
            subst (λ (x : ℤ). pos 0 ≤ℤ (z *ℤ (entry (row_of u k) j' *ℤ x))) (sym (ap dir enters ∙ direction-row t g j turn.pivots.col y i turn.pivots.row))
            (both_ways (sort r) z (entry (row_of u k) j') (change z k j t i) (others t.rows i)
            (subst (λ (v : ℕ). T (helps (sort v) z (entry (row_of u k) j'))) enters turn'.helpful) turn.stops (others-pos (length t.cols) t.rows g.shaped i))

        above-r : (v : ℕ) → col_var u j' < v → in_cols u v ≡ true → dir v ≡ pos 0
        above-r v h e =
            let p = col-at t v (sym (beyond v (subst (λ (n : ℕ). n < v) enters h)) ∙ e) in
            ap dir (sym p.is) ∙ direction-others t g j turn.pivots.col y p.place p.inside (λ q. clash (sym (ap (col_var t) q) ∙ p.is))
          where
            clash : col_var t j ≡ v → ⊥
            clash q = omega arith

        pub never : ⊥
        never =
            let s : ℤ = dot (tail (row_of u k).nums) (map dir u.cols) in
            let den : ℤ = (row_of u k).den in
            let v : ℤ = dir (row_var t k) in
            let q : ℤ = entry (row_of t k) j *ℤ y *ℤ others t.rows k in
            let up : pos 0 ≤ℤ (z *ℤ s) = sum_away sort u g'.placed k z j' turn'.pivots.col turn'.cols_first dir (λ m h l. lower-meets m h (subst (λ (n : ℕ). col_var u m < n) enters l)) at-r above-r in
            let e : den *ℤ v ≡ constant_of (row_of u k) *ℤ pos 0 +ℤ s = ap (λ (n : ℕ). den *ℤ dir n) (sym value) ∙ row-eq u g' dir (pos 0) solved k kin' in
            let down : (z *ℤ entry (row_of t k) j *ℤ y *ℤ others t.rows k) <ℤ pos 0 = mul-neg-pos (way_down (sort (col_var t j)) z (entry (row_of t k) j) nz turn.helpful) (others-pos (length t.cols) t.rows g.shaped k) in
            clash den v (constant_of (row_of u k)) s q (shape_at (length u.cols) u.rows k kin' g'.shaped).positive up e (direction-row t g j turn.pivots.col y k kin)
            (subst (λ (x : ℤ). x <ℤ pos 0) (ring (z ∷ entry (row_of t k) j ∷ y ∷ others t.rows k ∷ []) {b = z *ℤ q} (search quote depth 30) tt) down)
          where
            clash : (den v c s q : ℤ) → pos 0 <ℤ den → pos 0 ≤ℤ (z *ℤ s) → den *ℤ v ≡ c *ℤ pos 0 +ℤ s → v ≡ q → (z *ℤ q) <ℤ pos 0 → ⊥
            clash den v c s q hd up e f down =
                lia-no (z ∷ den ∷ v ∷ c ∷ s ∷ []) (le up ∷ eq (ap (λ (x : ℤ). z *ℤ x) e) ∷ lt (mul-neg-pos (subst (λ (x : ℤ). (z *ℤ x) <ℤ pos 0) (sym f) down) hd) ∷ []) (search lin depth 30) (omega arith)
