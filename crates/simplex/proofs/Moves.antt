-- The steps on the table: what a choice tells, and that a pivot keeps a table fine. Assumes nothing.
use mathlib.Core.Path.{◌≡◌, refl, sym, ap, ap₂, ◌∙◌, subst}
use mathlib.Core.List.{List, [], ◌∷◌}
use mathlib.Core.Bool.{Bool, true, false, cond}
use Prim.Native.Nat.{ℕ, zero, suc, ◌-◌, ◌≤◌, ◌<◌, suc-le-suc}
use native.Mathlib.Nat.{not-suc-le-zero, le_of_suc-le-suc}
use native.Mathlib.Omega.{arith}
use borrow.Author.Tests.{le-leb, lt-leb, leb-false, eq-eqb, ne_eqb}
use lib.Dec.{leb, eqb, T}
use lib.ListN.{length, get_or, set, length-set}
use lib.IntN.{ℤ}
use Rattle.integers.specs.Size.{bound}
use Rattle.tableau.specs.Rows.{violated, helping, narrow_rows_at, Whole}
use Rattle.tableau.proofs.Searches.{violated-found, column-spot, narrow_at, narrow-small, inside, exchange-whole, exchange-length}
use Rattle.simplex.specs.declared.Verdict.{Verdict}
use Rattle.simplex.specs.declared.Verdict.TheVariants.{Point, Dropped, Long, Wide}
use Rattle.simplex.specs.declared.Move.TheVariants.{Stop, Pivot}
use Rattle.simplex.specs.Table.{move_at, move_for_at, move_by_at, move_of, follow, run_table_at, run_table, pivot_rows, pivot_place, Fine, CrossingAt}

-- ---- the five ways of a step, by what the searches found
module _ (b : ℕ) (t : List (List ℤ)) (place kinds : List ℕ) (left v : ℕ) (e : v ≡ violated t place kinds) where
  pub choose-point_at : length place ≤ v → Stop Point ≡ move_at b t place kinds left
  unfolding move_at
  choose-point_at h =
      sym (ap (λ x. cond x (Stop Point) (move_by_at b t place left v (helping (get_or t (get_or place v 0) []) place kinds))) (le-leb (length place) v h))
      ∙ ap (move_for_at b t place kinds left) e

  choose-on : v < length place → move_by_at b t place left v (helping (get_or t (get_or place v 0) []) place kinds) ≡ move_at b t place kinds left
  unfolding move_at
  choose-on h =
      sym (ap (λ x. cond x (Stop Point) (move_by_at b t place left v (helping (get_or t (get_or place v 0) []) place kinds))) (lt-leb (length place) v h))
      ∙ ap (move_for_at b t place kinds left) e

  module _ (h : v < length place) (w : ℕ) (f : w ≡ helping (get_or t (get_or place v 0) []) place kinds) where
    pub choose-dropped_at : length place ≤ w → Stop Dropped ≡ move_at b t place kinds left
    choose-dropped_at k =
        sym (ap (λ x. cond x (Stop Dropped) (cond (eqb left 0) (Stop Long) (cond (narrow_rows_at b (get_or place w 0 - 64) t) (Pivot v w) (Stop Wide)))) (le-leb (length place) w k))
        ∙ ap (move_by_at b t place left v) f ∙ choose-on h

    pub choose-long_at : w < length place → left ≡ 0 → Stop Long ≡ move_at b t place kinds left
    choose-long_at k z =
        sym (ap₂ (λ x c. cond x (Stop Dropped) (cond c (Stop Long) (cond (narrow_rows_at b (get_or place w 0 - 64) t) (Pivot v w) (Stop Wide)))) (lt-leb (length place) w k) (eq-eqb left 0 z))
        ∙ ap (move_by_at b t place left v) f ∙ choose-on h

    pub choose-last_at : (y : Bool) → w < length place → (left ≡ 0 → ⊥) → narrow_rows_at b (get_or place w 0 - 64) t ≡ y → cond y (Pivot v w) (Stop Wide) ≡ move_at b t place kinds left
    choose-last_at y k z n =
        ap (λ x. cond x (Pivot v w) (Stop Wide)) (sym n)
        ∙ sym (ap₂ (λ x c. cond x (Stop Dropped) (cond c (Stop Long) (cond (narrow_rows_at b (get_or place w 0 - 64) t) (Pivot v w) (Stop Wide)))) (lt-leb (length place) w k) (ne_eqb left 0 z))
        ∙ ap (move_by_at b t place left v) f ∙ choose-on h

-- at 64 bits
module _ (t : List (List ℤ)) (place kinds : List ℕ) (left v : ℕ) (e : v ≡ violated t place kinds) where
  pub choose-point : length place ≤ v → Stop Point ≡ move_of t place kinds left
  choose-point h = choose-point_at (bound 64) t place kinds left v e h

  module _ (h : v < length place) (w : ℕ) (f : w ≡ helping (get_or t (get_or place v 0) []) place kinds) where
    pub choose-dropped : length place ≤ w → Stop Dropped ≡ move_of t place kinds left
    choose-dropped k = choose-dropped_at (bound 64) t place kinds left v e h w f k

    pub choose-long : w < length place → left ≡ 0 → Stop Long ≡ move_of t place kinds left
    choose-long k z = choose-long_at (bound 64) t place kinds left v e h w f k z

    pub choose-last : (b : Bool) → w < length place → (left ≡ 0 → ⊥) → narrow_rows_at (bound 64) (get_or place w 0 - 64) t ≡ b → cond b (Pivot v w) (Stop Wide) ≡ move_of t place kinds left
    choose-last b k z n = choose-last_at (bound 64) t place kinds left v e h w f b k z n

-- ---- the tableau of a test, where its variables are
pub row-spot : (m : ℕ) (t : List (List ℤ)) (place kinds : List ℕ) (v : ℕ) → Fine m t place kinds → v ≡ violated t place kinds → v < length place → get_or place v 0 < length t
row-spot m t place kinds v f e h =
    f.spot v h (subst (λ n. get_or place n 0 < 64) (sym e) (violated-found t place kinds (subst (λ n. n < length place) e h)))

-- ---- what the choice of a pivot tells
stop≢pivot : (x : Verdict) (v w : ℕ) → Stop x ≡ Pivot v w → ⊥
stop≢pivot x v w e = let z : ◌≡◌ {A = ℕ} 0 1 = cc in omega arith

pub pivot-inv : (a b c d : Bool) (v w v' w' : ℕ) → cond a (Stop Point) (cond b (Stop Dropped) (cond c (Stop Long) (cond d (Pivot v w) (Stop Wide)))) ≡ Pivot v' w' → (a ≡ false) × (b ≡ false) × (c ≡ false) × (d ≡ true) × (v ≡ v') × (w ≡ w')
pivot-inv true b c d v w v' w' e = absurd (stop≢pivot Point v' w' e)
pivot-inv false true c d v w v' w' e = absurd (stop≢pivot Dropped v' w' e)
pivot-inv false false true d v w v' w' e = absurd (stop≢pivot Long v' w' e)
pivot-inv false false false false v w v' w' e = absurd (stop≢pivot Wide v' w' e)
pivot-inv false false false true v w v' w' e = (refl, refl, refl, refl, cc, cc)

pub crossing_at : (b m : ℕ) (t : List (List ℤ)) (place kinds : List ℕ) (left v w : ℕ) → Fine m t place kinds → move_at b t place kinds left ≡ Pivot v w → CrossingAt b m t place v w
unfolding move_at
crossing_at b m t place kinds left v w f e =
    let v' = violated t place kinds in
    let w' = helping (get_or t (get_or place v' 0) []) place kinds in
    let i = pivot-inv (leb (length place) v') (leb (length place) w') (eqb left 0) (narrow_rows_at b (get_or place w' 0 - 64) t) v' w' v w e in
    let hv = subst (λ n. n < length place) i.4 (leb-false (length place) v' i.0) in
    let hw = subst (λ n. n < length place) i.5 (leb-false (length place) w' i.1) in
    let ev : v ≡ v' = sym i.4 in
    let ew : w ≡ helping (get_or t (get_or place v 0) []) place kinds = sym i.5 ∙ ap (λ n. helping (get_or t (get_or place n 0) []) place kinds) i.4 in
    let c = column-spot (get_or t (get_or place v 0) []) place kinds w ew hw in
    let n : narrow_rows_at b (get_or place w 0 - 64) t ≡ true = ap (λ n. narrow_rows_at b (get_or place n 0 - 64) t) (sym i.5) ∙ i.3 in
    let row = row-spot m t place kinds v f ev hv in
    record {
      named = hv;
      other = hw;
      column = c.0;
      ready = record {
        row = row;
        col = inside m (get_or t (get_or place v 0) []) (get_or place w 0 - 64) (f.line (get_or place v 0) row) c.1;
        count = f.count;
        cross = c.1;
        rows = λ k l. record { line = f.line k l; dens = λ z. f.dens k l; small = narrow-small (get_or place w 0 - 64) (get_or t k []) (narrow_at b (get_or place w 0 - 64) t n k l) };
      };
    }

-- ---- the run
pub run-stop_at : (b : ℕ) (kinds : List ℕ) (n : ℕ) (t : List (List ℤ)) (place : List ℕ) (x : Verdict) → move_at b t place kinds n ≡ Stop x → run_table_at b kinds n t place ≡ record { verdict = x; left = n; rows = t; place = place }
unfolding run_table_at
run-stop_at b kinds zero t place x e = ap (λ m. follow m 0 (λ rows place. record { verdict = Long; left = 0; rows = rows; place = place }) t place) e
run-stop_at b kinds (suc n) t place x e = ap (λ m. follow m (suc n) (run_table_at b kinds n) t place) e

pub pivot-left_at : (b : ℕ) (kinds : List ℕ) (n : ℕ) (t : List (List ℤ)) (place : List ℕ) (v w : ℕ) → move_at b t place kinds n ≡ Pivot v w → 0 < n
unfolding move_at
pivot-left_at b kinds zero t place v w e =
    let v' = violated t place kinds in
    let w' = helping (get_or t (get_or place v' 0) []) place kinds in
    let i = pivot-inv (leb (length place) v') (leb (length place) w') true (narrow_rows_at b (get_or place w' 0 - 64) t) v' w' v w e in
    absurd (subst T i.2 tt)
pivot-left_at b kinds (suc n) t place v w e = omega arith

pub run-more_at : (b : ℕ) (kinds : List ℕ) (n : ℕ) (t : List (List ℤ)) (place : List ℕ) (v w : ℕ) → move_at b t place kinds (suc n) ≡ Pivot v w → run_table_at b kinds n (pivot_rows t place v w) (pivot_place place v w) ≡ run_table_at b kinds (suc n) t place
unfolding run_table_at
run-more_at b kinds n t place v w e = sym (ap (λ m. follow m (suc n) (run_table_at b kinds n) t place) e)

pub run-pivot_at : (b : ℕ) (kinds : List ℕ) (n : ℕ) (t : List (List ℤ)) (place : List ℕ) (v w : ℕ) → move_at b t place kinds n ≡ Pivot v w → run_table_at b kinds (n - 1) (pivot_rows t place v w) (pivot_place place v w) ≡ run_table_at b kinds n t place
run-pivot_at b kinds zero t place v w e = absurd (let h = pivot-left_at b kinds 0 t place v w e in omega arith)
run-pivot_at b kinds (suc n) t place v w e =
    ap (λ k. run_table_at b kinds k (pivot_rows t place v w) (pivot_place place v w)) {x = suc n - 1} {y = n} (omega arith) ∙ run-more_at b kinds n t place v w e

-- ---- a pivot keeps the tableau fine
set-near : (P : ℕ → Type 0) (l : List ℕ) (i x : ℕ) → P x → ((v : ℕ) → v < length l → P (get_or l v 0)) → (v : ℕ) → v < length (set l i x) → P (get_or (set l i x) v 0)
set-near P [] i x px h v k = absurd (not-suc-le-zero k)
set-near P (y ∷ l) zero x px h zero k = px
set-near P (y ∷ l) zero x px h (suc v) k = h (suc v) k
set-near P (y ∷ l) (suc i) x px h zero k = h 0 (omega arith)
set-near P (y ∷ l) (suc i) x px h (suc v) k = set-near P l i x px (λ v k. h (suc v) (suc-le-suc k)) v (le_of_suc-le-suc k)

pub pivot-length : (place : List ℕ) (v w : ℕ) → length (pivot_place place v w) ≡ length place
unfolding pivot_place
pivot-length place v w = simp length-set

pub rows-length : (t : List (List ℤ)) (place : List ℕ) (v w : ℕ) → length (pivot_rows t place v w) ≡ length t
unfolding pivot_rows
rows-length t place v w = exchange-length t (get_or place v 0) (get_or place w 0 - 64)

place-all : (P : ℕ → Type 0) (place : List ℕ) (v w : ℕ) → v < length place → w < length place → ((v : ℕ) → v < length place → P (get_or place v 0)) → (u : ℕ) → u < length (pivot_place place v w) → P (get_or (pivot_place place v w) u 0)
unfolding pivot_place
place-all P place v w hv hw h = set-near P (set place v (get_or place w 0)) w (get_or place v 0) (h v hv) (set-near P place v (get_or place w 0) (h w hw) h)

whole-rows : {W : ℕ} → 2 ≤ W → (n : ℕ) (t : List (List ℤ)) (place : List ℕ) (v w : ℕ) → CrossingAt (bound W) n t place v w → ((k : ℕ) → k < length t → Whole n (get_or t k [])) → (k : ℕ) → k < length (pivot_rows t place v w) → Whole n (get_or (pivot_rows t place v w) k [])
unfolding pivot_rows
whole-rows big n t place v w c h = exchange-whole big n t (get_or place v 0) (get_or place w 0 - 64) c.ready h

pub pivot-fine_at : {W : ℕ} → 2 ≤ W → (m : ℕ) (t : List (List ℤ)) (place kinds : List ℕ) (v w : ℕ) → Fine m t place kinds → CrossingAt (bound W) m t place v w → Fine m (pivot_rows t place v w) (pivot_place place v w) kinds
pivot-fine_at big m t place kinds v w f c =
    let lr = rows-length t place v w in
    let lp = pivot-length place v w in
    let whole = whole-rows big m t place v w c (λ k l. record { line = f.line k l; over = f.dens k l }) in
    let b = f.count in
    let n = f.names in
    record {
      count = omega arith;
      names = omega arith;
      same = f.same ∙ sym lp;
      line = λ k l. (whole k l).line;
      dens = λ k l. (whole k l).over;
      near = place-all (λ n. n < 80) place v w c.named c.other f.near;
      spot = place-all (λ n. n < 64 → n < length (pivot_rows t place v w)) place v w c.named c.other (λ u l k. subst (λ m. get_or place u 0 < m) (sym lr) (f.spot u l k));
    }

-- at 64 bits
pub crossing : (m : ℕ) (t : List (List ℤ)) (place kinds : List ℕ) (left v w : ℕ) → Fine m t place kinds → move_of t place kinds left ≡ Pivot v w → CrossingAt (bound 64) m t place v w
crossing m t place kinds left v w f e = crossing_at (bound 64) m t place kinds left v w f e

pub run-stop : (kinds : List ℕ) (n : ℕ) (t : List (List ℤ)) (place : List ℕ) (x : Verdict) → move_of t place kinds n ≡ Stop x → run_table kinds n t place ≡ record { verdict = x; left = n; rows = t; place = place }
run-stop kinds n t place x e = run-stop_at (bound 64) kinds n t place x e

pub pivot-left : (kinds : List ℕ) (n : ℕ) (t : List (List ℤ)) (place : List ℕ) (v w : ℕ) → move_of t place kinds n ≡ Pivot v w → 0 < n
pivot-left kinds n t place v w e = pivot-left_at (bound 64) kinds n t place v w e

pub run-pivot : (kinds : List ℕ) (n : ℕ) (t : List (List ℤ)) (place : List ℕ) (v w : ℕ) → move_of t place kinds n ≡ Pivot v w → run_table kinds (n - 1) (pivot_rows t place v w) (pivot_place place v w) ≡ run_table kinds n t place
run-pivot kinds n t place v w e = run-pivot_at (bound 64) kinds n t place v w e

pub pivot-fine : (m : ℕ) (t : List (List ℤ)) (place kinds : List ℕ) (v w : ℕ) → Fine m t place kinds → CrossingAt (bound 64) m t place v w → Fine m (pivot_rows t place v w) (pivot_place place v w) kinds
pivot-fine m t place kinds v w f c = pivot-fine_at {W = 64} (omega arith) m t place kinds v w f c
