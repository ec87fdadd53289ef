-- The coefficients that stand in their columns and those that wait, together, are the rule's.
use mathlib.Core.Path.{◌≡◌, refl, sym, ap, ap₂, ◌∙◌, subst}
use mathlib.Core.Bool.{Bool, true, false, not, ◌||◌, cond}
use mathlib.Core.List.{List, [], ◌∷◌, ◌++◌, map, append-nil}
use Prim.Native.Nat.{ℕ, zero, suc, ◌+◌, ◌≤◌, ◌<◌, suc-le-suc, zero-le}
use native.Mathlib.Nat.{le_refl, zero-add, zero-lt-suc}
use native.Mathlib.Omega.{arith}
use lib.Dec.{T, eqb, eqb→eq, eqb_refl, ltb, ltb→lt, nltb→le}
use lib.IntN.{ℤ, pos, ◌+ℤ◌, ◌-ℤ◌, ◌*ℤ◌}
use lib.ListN.{length, get_or, length-append, get_or-eq_default}
use Rattle.integers.specs.Ring.{ring, quote}
use Rattle.model.specs.Lists.{any}
use Rattle.model.specs.Sets.{dot, Constraint}
use Rattle.feasibility.specs.Tableau.{Tableau, pad, from}
use Rattle.model.proofs.Count.{from-T}
use Rattle.feasibility.proofs.Rows.{rest}
use Rattle.feasibility.proofs.Start.{length-pad, read-front}
use Rattle.feasibility.proofs.Points.{Place, in_col, Placed}
use Rattle.feasibility.proofs.Verdicts.{true-false}
use Rattle.termination.proofs.Columns.{col-no}
use Rattle.planning.specs.Draft.{Draft, coefficient_of, drafted}

-- ---- no variable is in two columns

abbrev pub Distinct : List ℕ → Type 0
Distinct [] = Unit {0}
Distinct (a ∷ l) = (any (eqb a) l ≡ false) × Distinct l

distinct-by : (loc : ℕ → Place) (b : ℕ) (cols : List ℕ) → ((j : ℕ) → j < length cols → loc (get_or cols j 0) ≡ in_col (b + j)) → Distinct cols
distinct-by loc b [] f = tt
distinct-by loc b (a ∷ cols) f = (
  col-no (record { cols = cols; rows = [] }) a (λ p. clash p.place (inj (sym (f 0 (zero-lt-suc (length cols))) ∙ ap loc (sym p.is) ∙ f (suc p.place) (suc-le-suc p.inside)))),
  distinct-by loc (suc b) cols (λ j h. f (suc j) (suc-le-suc h) ∙ ap in_col (moved j)),
)
  where
    inj : {m n : ℕ} → in_col m ≡ in_col n → m ≡ n
    inj e = cc

    clash : (k : ℕ) → b + 0 ≡ b + suc k → ⊥
    clash k e = omega arith

    moved : (j : ℕ) → b + suc j ≡ suc b + j
    moved j = omega arith

pub cols-distinct : (t : Tableau) → Placed t → Distinct t.cols
cols-distinct t pl = distinct-by pl.loc 0 t.cols (λ j h. pl.cols_at j h ∙ ap in_col (sym (zero-add j)))

-- ---- sums over variables

to-false : (b : Bool) → (T b → ⊥) → b ≡ false
to-false true n = absurd (n tt)
to-false false n = refl

module _ (w : ℕ → ℤ) where
  abbrev total : (ℕ → ℤ) → List ℕ → ℤ
  total g l = dot (map g l) (map w l)

  total-same : (g h : ℕ → ℤ) (v n : ℕ) → ((a : ℕ) → v ≤ a → a < v + n → g a ≡ h a) → total g (from v n) ≡ total h (from v n)
  total-same g h v zero f = refl
  total-same g h v (suc n) f = ap₂ (λ (x y : ℤ). x *ℤ w v +ℤ y) (f v (le_refl v) (omega arith)) (total-same g h (suc v) n (λ a p q. f a (omega arith) (omega arith)))

  -- g, but 0 at a
  abbrev besides : ℕ → (ℕ → ℤ) → ℕ → ℤ
  besides a g u = cond (eqb u a) (pos 0) (g u)

  besides-not : (a : ℕ) (g : ℕ → ℤ) (u : ℕ) → (u ≡ a → ⊥) → g u ≡ besides a g u
  besides-not a g u n = ap (λ (b : Bool). cond b (pos 0) (g u)) (sym (to-false (eqb u a) (λ t. n (eqb→eq u a t))))

  take_out : (g : ℕ → ℤ) (a v n : ℕ) → v ≤ a → a < v + n → total g (from v n) ≡ g a *ℤ w a +ℤ total (besides a g) (from v n)
  take_out g a v zero h k = absurd (clash h k)
    where
      clash : v ≤ a → a < v + 0 → ⊥
      clash h k = omega arith
  take_out g a v (suc n) h k = at (eqb v a) refl (take_out g a (suc v) n)
    where
      at : (b : Bool) → eqb v a ≡ b → (suc v ≤ a → a < suc v + n → total g (from (suc v) n) ≡ g a *ℤ w a +ℤ total (besides a g) (from (suc v) n))
          → g v *ℤ w v +ℤ total g (from (suc v) n) ≡ g a *ℤ w a +ℤ (cond b (pos 0) (g v) *ℤ w v +ℤ total (besides a g) (from (suc v) n))
      at true q ih =
          let e : v ≡ a = eqb→eq v a (subst T (sym q) tt) in
          ap₂ (λ (x : ℕ) (y : ℤ). g x *ℤ w x +ℤ y) e (total-same g (besides a g) (suc v) n (λ u p r. besides-not a g u (λ z. above e z p)))
          ∙ ring (g a ∷ w a ∷ w v ∷ total (besides a g) (from (suc v) n) ∷ []) (search quote depth 30) tt
        where
          above : {u : ℕ} → v ≡ a → u ≡ a → suc v ≤ u → ⊥
          above e z p = omega arith
      at false q ih =
          let n' : v ≡ a → ⊥ = λ z. true-false (sym (from-T (eqb v a) (subst (λ (x : ℕ). T (eqb v x)) z (eqb_refl v))) ∙ q) in
          let s : suc v ≤ a = more n' h in
          ap (λ (y : ℤ). g v *ℤ w v +ℤ y) (ih s (omega arith)) ∙ ring (g v ∷ w v ∷ g a ∷ w a ∷ total (besides a g) (from (suc v) n) ∷ []) (search quote depth 30) tt
        where
          more : (v ≡ a → ⊥) → v ≤ a → suc v ≤ a
          more n h = omega arith

  -- g, but 0 at the columns
  abbrev masked : List ℕ → (ℕ → ℤ) → ℕ → ℤ
  masked cols g u = cond (any (eqb u) cols) (pos 0) (g u)

  columns-sum : (g : ℕ → ℤ) (n : ℕ) → ((a : ℕ) → n ≤ a → g a ≡ pos 0) → (cols : List ℕ) → Distinct cols → total g cols +ℤ total (masked cols g) (from 0 n) ≡ total g (from 0 n)
  columns-sum g n z [] ds = ring (total g (from 0 n) ∷ []) (search quote depth 30) tt
  columns-sum g n z (a ∷ cols) ds = at (ltb a n) refl (columns-sum g n z cols ds.1)
    where
      h : ℕ → ℤ
      h u = masked cols g u

      split : (u : ℕ) (b : Bool) → cond (b || any (eqb u) cols) (pos 0) (g u) ≡ cond b (pos 0) (h u)
      split u true = refl
      split u false = refl

      both : total (masked (a ∷ cols) g) (from 0 n) ≡ total (besides a h) (from 0 n)
      both = total-same (masked (a ∷ cols) g) (besides a h) 0 n (λ u p q. split u (eqb u a))

      own : h a ≡ g a
      own = ap (λ (b : Bool). cond b (pos 0) (g a)) ds.0

      at : (b : Bool) → ltb a n ≡ b → total g cols +ℤ total (masked cols g) (from 0 n) ≡ total g (from 0 n) → (g a *ℤ w a +ℤ total g cols) +ℤ total (masked (a ∷ cols) g) (from 0 n) ≡ total g (from 0 n)
      at true q ih =
          let lt : a < n = ltb→lt a n (subst T (sym q) tt) in
          ap₂ (λ (x y : ℤ). (x *ℤ w a +ℤ total g cols) +ℤ y) (sym own) both
          ∙ ring (h a ∷ w a ∷ total g cols ∷ total (besides a h) (from 0 n) ∷ []) {b = total g cols +ℤ (h a *ℤ w a +ℤ total (besides a h) (from 0 n))} (search quote depth 30) tt
          ∙ ap (λ (x : ℤ). total g cols +ℤ x) (sym (take_out h a 0 n zero-le (subst (λ (x : ℕ). a < x) (sym (zero-add n)) lt)))
          ∙ ih
      at false q ih =
          let ge : n ≤ a = nltb→le a n (subst (λ (c : Bool). T (not c)) (sym q) tt) in
          ap₂ (λ (x y : ℤ). (x *ℤ w a +ℤ total g cols) +ℤ y) (z a ge) (both ∙ sym (total-same h (besides a h) 0 n (λ u p r. besides-not a h u (λ e. below ge e r))))
          ∙ ring (w a ∷ total g cols ∷ total h (from 0 n) ∷ []) {b = total g cols +ℤ total h (from 0 n)} (search quote depth 30) tt
          ∙ ih
        where
          below : {u : ℕ} → n ≤ a → u ≡ a → u < 0 + n → ⊥
          below p e r = omega arith

-- ---- a draft's equation, as what is left over

-- where X has the denominator and the columns' numerators, F those of the axes and divisions, y that of the new variable
abbrev pub leftover : List ℤ → List ℤ → ℤ → Draft → ℤ
leftover X F y d = d.den *ℤ y -ℤ (dot d.nums X +ℤ dot d.waiting F)

-- before any replacement it is that of the rule's row in the first tableau
pub drafted-rest : (w : ℕ → ℤ) (D y : ℤ) (k : ℕ) (t : Tableau) (r : Constraint) → Distinct t.cols
    → leftover (D ∷ map w t.cols) (map w (from 0 (8 + k))) y (drafted k t r) ≡ rest (pos 1) (r.constant ∷ pad 8 r.axes ++ pad k r.divisions) y (D ∷ map w (from 0 (8 + k)))
drafted-rest w D y k t r ds =
    let c : ℕ → ℤ = coefficient_of k r in
    let F : List ℤ = map w (from 0 (8 + k)) in
    let cs : ℤ = dot (map c t.cols) (map w t.cols) in
    let ws : ℤ = dot (drafted k t r).waiting F in
    ring (y ∷ r.constant ∷ D ∷ cs ∷ ws ∷ []) {b = pos 1 *ℤ y -ℤ (r.constant *ℤ D +ℤ (cs +ℤ ws))} (search quote depth 30) tt
    ∙ ap (λ (z : ℤ). pos 1 *ℤ y -ℤ (r.constant *ℤ D +ℤ z))
    (columns-sum w c (8 + k) (λ a h. get_or-eq_default numbers (pos 0) (subst (λ (n : ℕ). n ≤ a) (sym long) h)) t.cols ds ∙ ap (λ (l : List ℤ). dot l F) read)
  where
    numbers : List ℤ
    numbers = pad 8 r.axes ++ pad k r.divisions

    long : length numbers ≡ 8 + k
    long = length-append (pad 8 r.axes) (pad k r.divisions) ∙ ap₂ ◌+◌ (length-pad 8 r.axes) (length-pad k r.divisions)

    read : map (coefficient_of k r) (from 0 (8 + k)) ≡ numbers
    read = ap (λ (n : ℕ). map (coefficient_of k r) (from 0 n)) (sym long) ∙ ap (λ (l : List ℤ). map (λ (v : ℕ). get_or l v (pos 0)) (from 0 (length numbers))) (sym (append-nil numbers)) ∙ read-front numbers []
