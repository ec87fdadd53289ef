-- A solution and a direction: their sums are solutions, and where no row stops the move the values pass every number.
use mathlib.Core.Path.{◌≡◌, sym, ap, ap₂, ◌∙◌, subst}
use mathlib.Core.Bool.{not}
use mathlib.Core.List.{List, [], ◌∷◌, map}
use mathlib.Core.Option.{Option, none, some}
use Prim.Native.Nat.{ℕ, ◌<◌}
use native.Mathlib.Omega.{arith}
use lib.Dec.{T}
use lib.IntN.{ℤ, pos, negsuc, nat_abs, ◌+ℤ◌, ◌-ℤ◌, ◌*ℤ◌}
use lib.Signed.{◌≤ℤ◌, ◌<ℤ◌}
use lib.ListN.{length}
use Rattle.integers.specs.Ring.{ring, quote}
use Rattle.integers.specs.Lin.{le, lt, eq, lin, lia-le, lia-lt, lia-eq}
use Rattle.integers.specs.Order.{pos-nonneg, mul-nonneg, mul-neg-pos}
use Rattle.model.specs.Sets.{dot, Kind, equality, inequality}
use Rattle.feasibility.specs.Tableau.{Row, Tableau, entry, violates, helps}
use Rattle.feasibility.proofs.Rows.{rest}
use Rattle.feasibility.proofs.Exchange.{Holds, Solves}
use Rattle.feasibility.proofs.Verdicts.{row_var, col_var, Meets}
use Rattle.feasibility.proofs.Points.{product, product-pos, others, others-pos}
use Rattle.feasibility.proofs.Sound.{row_of, Sound}
use Rattle.optimum.specs.Value.{way}
use Rattle.optimum.proofs.Direction.{direction, direction-row, direction-solves, direction-meets}
use Rattle.optimum.proofs.Moves.{meets-eq, meets-ge, eq-meets, ge-meets, way_down, col-way, row-way, Stops, change}

-- f, and m times g
abbrev along : (ℕ → ℤ) → ℤ → (ℕ → ℤ) → ℕ → ℤ
along f m g v = f v +ℤ m *ℤ g v

module _ (f g : ℕ → ℤ) (m D : ℤ) (cols : List ℕ) where
  dot-along : (es : List ℤ) (cols : List ℕ) → dot es (map (along f m g) cols) ≡ dot es (map f cols) +ℤ m *ℤ dot es (map g cols)
  dot-along [] cols = ring (m ∷ []) (search quote depth 30) tt
  dot-along (a ∷ es) [] = ring (m ∷ []) (search quote depth 30) tt
  dot-along (a ∷ es) (c ∷ cols) =
      ap (λ (v : ℤ). a *ℤ (f c +ℤ m *ℤ g c) +ℤ v) (dot-along es cols)
      ∙ ring (a ∷ f c ∷ m ∷ g c ∷ dot es (map f cols) ∷ dot es (map g cols) ∷ []) (search quote depth 30) tt

  holds-along : (r : Row) → Holds f D cols r → Holds g (pos 0) cols r → Holds (along f m g) D cols r
  holds-along r h k = at r.nums h k
    where
      at : (ns : List ℤ) → rest r.den ns (f r.var) (D ∷ map f cols) ≡ pos 0 → rest r.den ns (g r.var) (pos 0 ∷ map g cols) ≡ pos 0 → rest r.den ns (along f m g r.var) (D ∷ map (along f m g) cols) ≡ pos 0
      at [] h k = lia-eq (r.den ∷ f r.var ∷ g r.var ∷ m ∷ []) (eq h ∷ eq (ap (λ (v : ℤ). m *ℤ v) k) ∷ []) {b = pos 0} (search lin depth 30) (omega arith)
      at (c ∷ es) h k =
          ap (λ (v : ℤ). r.den *ℤ along f m g r.var -ℤ (c *ℤ D +ℤ v)) (dot-along es cols)
          ∙ lia-eq (r.den ∷ f r.var ∷ g r.var ∷ m ∷ c ∷ D ∷ dot es (map f cols) ∷ dot es (map g cols) ∷ []) (eq h ∷ eq (ap (λ (v : ℤ). m *ℤ v) k) ∷ []) {b = pos 0} (search lin depth 30) (omega arith)

  solves-along : (rs : List Row) → Solves f D cols rs → Solves g (pos 0) cols rs → Solves (along f m g) D cols rs
  solves-along [] h k = tt
  solves-along (r ∷ rs) h k = (holds-along r h.0 k.0, solves-along rs h.1 k.1)

meets-along : (s : Option Kind) (a b m : ℤ) → pos 0 ≤ℤ m → T (not (violates s a)) → T (not (violates s b)) → T (not (violates s (a +ℤ m *ℤ b)))
meets-along none a b m h p q = tt
meets-along (some equality) a b m h p q = meets-eq (a +ℤ m *ℤ b) (ap₂ (λ (x y : ℤ). x +ℤ m *ℤ y) (eq-meets a p) (eq-meets b q) ∙ ring (m ∷ []) (search quote depth 30) tt)
meets-along (some inequality) a b m h p q = meets-ge (a +ℤ m *ℤ b) (lia-le (a ∷ b ∷ m ∷ []) (le (ge-meets a p) ∷ le (mul-nonneg h (ge-meets b q)) ∷ []) (search lin depth 30) (omega arith))

pub at_most : (a : ℤ) → a ≤ℤ pos (nat_abs a)
at_most (pos n) = lia-le (pos n ∷ []) [] (search lin depth 30) (omega arith)
at_most (negsuc n) = record { le = tt }

-- far enough along a direction whose value falls
far : (z w v K D : ℤ) → (z *ℤ v) <ℤ pos 0 → (z *ℤ ((w +ℤ (pos (nat_abs (z *ℤ (w -ℤ K *ℤ D))) +ℤ pos 1) *ℤ v) -ℤ K *ℤ D)) <ℤ pos 0
far z w v K D h =
    let n : ℤ = pos (nat_abs (z *ℤ (w -ℤ K *ℤ D))) in
    let a : (z *ℤ (w -ℤ K *ℤ D)) ≤ℤ n = at_most (z *ℤ (w -ℤ K *ℤ D)) in
    let b : pos 0 ≤ℤ n = pos-nonneg (nat_abs (z *ℤ (w -ℤ K *ℤ D))) in
    let c : pos 0 ≤ℤ (n *ℤ (negsuc 0 -ℤ z *ℤ v)) = mul-nonneg {b = negsuc 0 -ℤ z *ℤ v} b (lia-le (z ∷ v ∷ []) (lt h ∷ []) (search lin depth 30) (omega arith)) in
    by n a c
  where
    by : (n : ℤ) → (z *ℤ (w -ℤ K *ℤ D)) ≤ℤ n → pos 0 ≤ℤ (n *ℤ (negsuc 0 -ℤ z *ℤ v)) → (z *ℤ ((w +ℤ (n +ℤ pos 1) *ℤ v) -ℤ K *ℤ D)) <ℤ pos 0
    by n a c = lia-lt (z ∷ w ∷ v ∷ K ∷ D ∷ n ∷ []) (le a ∷ le c ∷ lt h ∷ []) (search lin depth 40) (omega arith)

-- column j improves the value of row k, and no row stops it
module _
    (sort : ℕ → Option Kind) (z : ℤ) (nz : z ≡ pos 0 → ⊥) (k : ℕ) (t : Tableau) (g : Sound t) (inside : k < length t.rows)
    (j : ℕ) (jin : j < length t.cols) (helpful : T (helps (sort (col_var t j)) z (entry (row_of t k) j)))
    (unstopped : (m : ℕ) → m < length t.rows → Stops (sort (row_var t m)) (change z k j t m) → ⊥)
  where
    abbrev y : ℤ
    y = way z (entry (row_of t k) j)

    abbrev dir : ℕ → ℤ
    dir = direction t g j jin y

    dir-meets : Meets sort dir
    dir-meets v =
        direction-meets t g j jin y sort v
        (λ e. subst (λ (u : ℕ). T (not (violates (sort u) (y *ℤ product t.rows)))) (sym e) (col-way (sort (col_var t j)) z (entry (row_of t k) j) (product t.rows) helpful (product-pos (length t.cols) t.rows g.shaped)))
        (λ i h e. subst (λ (u : ℕ). T (not (violates (sort u) (entry (row_of t i) j *ℤ y *ℤ others t.rows i)))) e (row-way (sort (row_var t i)) (entry (row_of t i) j *ℤ y) (others t.rows i) (others-pos (length t.cols) t.rows g.shaped i) (unstopped i h)))

    dir-down : (z *ℤ dir (row_var t k)) <ℤ pos 0
    dir-down =
        subst (λ (v : ℤ). v <ℤ pos 0)
        (ring (z ∷ entry (row_of t k) j ∷ y ∷ others t.rows k ∷ []) {b = z *ℤ (entry (row_of t k) j *ℤ y *ℤ others t.rows k)} (search quote depth 30) tt ∙ ap (λ (v : ℤ). z *ℤ v) (sym (direction-row t g j jin y k inside)))
        (mul-neg-pos (way_down (sort (col_var t j)) z (entry (row_of t k) j) nz helpful) (others-pos (length t.cols) t.rows g.shaped k))

    module _ (w : ℕ → ℤ) (D : ℤ) (solves : Solves w D t.cols t.rows) (meets : Meets sort w) (K : ℤ) where
      abbrev steps : ℤ
      steps = pos (nat_abs (z *ℤ (w (row_var t k) -ℤ K *ℤ D))) +ℤ pos 1

      abbrev pub beyond : ℕ → ℤ
      beyond = along w steps dir

      pub beyond-solves : Solves beyond D t.cols t.rows
      beyond-solves = solves-along w dir steps D t.cols t.rows solves (direction-solves t g j jin y)

      pub beyond-meets : Meets sort beyond
      beyond-meets v = meets-along (sort v) (w v) (dir v) steps (lia-le (pos (nat_abs (z *ℤ (w (row_var t k) -ℤ K *ℤ D))) ∷ []) (le (pos-nonneg (nat_abs (z *ℤ (w (row_var t k) -ℤ K *ℤ D)))) ∷ []) (search lin depth 30) (omega arith)) (meets v) (dir-meets v)

      pub beyond-far : (z *ℤ (beyond (row_var t k) -ℤ K *ℤ D)) <ℤ pos 0
      beyond-far = far z (w (row_var t k)) (dir (row_var t k)) K D dir-down
