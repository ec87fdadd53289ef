-- A run keeps the table fine; the run at two word sizes shows the carried test. Assumes nothing.
use mathlib.Core.Path.{◌≡◌, refl, sym, ap, ap₂, ◌∙◌, subst}
use mathlib.Core.List.{List}
use mathlib.Core.Option.{Option}
use Prim.Native.Nat.{ℕ, zero, suc, ◌+◌, ◌-◌, ◌*◌, ◌≤◌, ◌<◌}
use native.Mathlib.Omega.{arith}
use lib.Dec.{T}
use mathlib.Core.Bool.{true, false, cond}
use lib.ListN.{length, take}
use lib.IntN.{ℤ}
use Rattle.integers.specs.Size.{bound}
use Rattle.model.specs.Sets.{Kind}
use Rattle.feasibility.specs.Tableau as F
use Rattle.feasibility.specs.Tableau.{Tableau, reach, carried, built, carried_built, point, dropped, long, wide}
use Rattle.model.specs.Values.{basic_set_of}
use Rattle.model.specs.declared.BasicSet.{BasicSet}
use Rattle.simplex.proofs.Filled.{FirstTable, first-shows, first-sorted, first_fine}
use Rattle.simplex.specs.declared.Counted.{Counted}
use Rattle.simplex.specs.declared.Verdict.{Verdict}
use Rattle.simplex.specs.declared.Verdict.TheVariants.{Point, Dropped, Long, Wide}
use Rattle.simplex.specs.declared.Move.{Move}
use Rattle.simplex.specs.declared.Move.TheVariants.{Stop, Pivot}
use Rattle.simplex.specs.Answers.{verdict_of}
use Rattle.simplex.specs.Table.{move_at, pivot_rows, pivot_place, Ending, run_table_at, built_table_at, Fine}
use Rattle.simplex.proofs.Moves.{crossing_at, run-stop_at, run-more_at, pivot-left_at, pivot-fine_at, pivot-length}
use Rattle.simplex.proofs.Shows.{Shows}
use Rattle.simplex.proofs.Bridge.{Ends, Sorted, reach-shows}
use Rattle.simplex.proofs.Built.{built-le, built-shows}
use Rattle.carrying.specs.Carried.{is_wide, onward, both_table, onward_built, both_built, Went, RanBoth}
use Rattle.carrying.specs.Answers.{Tests}

module _ {W : ℕ} (big : 2 ≤ W) (n : ℕ) (kinds : List ℕ) where
  -- fine, with as many names, and no more pivots left than at first
  pub run-keeps : (left : ℕ) (t : List (List ℤ)) (place : List ℕ) → Fine n t place kinds
      → Fine n (run_table_at (bound W) kinds left t place).rows (run_table_at (bound W) kinds left t place).place kinds × (length (run_table_at (bound W) kinds left t place).place ≡ length place) × ((run_table_at (bound W) kinds left t place).left ≤ left)
  run-keeps zero t place f = at (move_at (bound W) t place kinds 0) refl
    where
      at : (m : Move) → move_at (bound W) t place kinds 0 ≡ m
          → Fine n (run_table_at (bound W) kinds 0 t place).rows (run_table_at (bound W) kinds 0 t place).place kinds × (length (run_table_at (bound W) kinds 0 t place).place ≡ length place) × ((run_table_at (bound W) kinds 0 t place).left ≤ 0)
      at (Stop x) e = rw (run-stop_at (bound W) kinds 0 t place x e) (f, refl, omega arith)
      at (Pivot v w) e = absurd (let h = pivot-left_at (bound W) kinds 0 t place v w e in omega arith)
  run-keeps (suc left) t place f = at (move_at (bound W) t place kinds (suc left)) refl (λ t p g. run-keeps left t p g)
    where
      at : (m : Move) → move_at (bound W) t place kinds (suc left) ≡ m
          → ((t : List (List ℤ)) (place : List ℕ) → Fine n t place kinds
          → Fine n (run_table_at (bound W) kinds left t place).rows (run_table_at (bound W) kinds left t place).place kinds × (length (run_table_at (bound W) kinds left t place).place ≡ length place) × ((run_table_at (bound W) kinds left t place).left ≤ left))
          → Fine n (run_table_at (bound W) kinds (suc left) t place).rows (run_table_at (bound W) kinds (suc left) t place).place kinds × (length (run_table_at (bound W) kinds (suc left) t place).place ≡ length place)
          × ((run_table_at (bound W) kinds (suc left) t place).left ≤ suc left)
      at (Stop x) e ih = rw (run-stop_at (bound W) kinds (suc left) t place x e) (f, refl, omega arith)
      at (Pivot v w) e ih =
          let c = crossing_at (bound W) n t place kinds (suc left) v w f e in
          let h = ih (pivot_rows t place v w) (pivot_place place v w) (pivot-fine_at big n t place kinds v w f c) in
          let q = h.2 in
          subst (λ (o : Ending). Fine n o.rows o.place kinds × (length o.place ≡ length place) × (o.left ≤ suc left)) (run-more_at (bound W) kinds left t place v w e) (h.0, h.1 ∙ pivot-length place v w, omega arith)

-- ---- the run at two word sizes
module _ (k : ℕ) (sort : ℕ → Option Kind) (kinds : List ℕ) where
  onward-shows : (e : F.Ending) (o : Ending) → Ends k e o → Sorted k sort kinds o.place → Ends k (carried (F.narrow (bound 128)) sort e) (onward kinds o)
  onward-shows e o s ks = at o.verdict refl
    where
      by : (v : F.Verdict) → e.verdict ≡ v → carried (F.narrow (bound 128)) sort e ≡ elim v as (λ (v : F.Verdict). F.Ending) [ point ↦ e | dropped ↦ e | long ↦ e | wide ↦ reach (F.narrow (bound 128)) sort e.left e.tableau ]
      by v q = ap (λ (v : F.Verdict). elim v as (λ (v : F.Verdict). F.Ending) [ point ↦ e | dropped ↦ e | long ↦ e | wide ↦ reach (F.narrow (bound 128)) sort e.left e.tableau ]) q

      is : (v : Verdict) → o.verdict ≡ v → e.verdict ≡ verdict_of v
      is v q = sym s.verdict_is ∙ ap verdict_of q

      to : (v : Verdict) → o.verdict ≡ v → onward kinds o ≡ elim v as (λ (v : Verdict). Ending) [ Point ↦ o | Dropped ↦ o | Long ↦ o | Wide ↦ run_table_at (bound 128) kinds o.left o.rows o.place ]
      to v q = ap (λ (v : Verdict). elim v as (λ (v : Verdict). Ending) [ Point ↦ o | Dropped ↦ o | Long ↦ o | Wide ↦ run_table_at (bound 128) kinds o.left o.rows o.place ]) q

      both : (x : F.Ending) (y : Ending) → carried (F.narrow (bound 128)) sort e ≡ x → onward kinds o ≡ y → Ends k x y → Ends k (carried (F.narrow (bound 128)) sort e) (onward kinds o)
      both x y p q h = subst (λ (x : F.Ending). Ends k x (onward kinds o)) (sym p) (subst (Ends k x) (sym q) h)

      at : (v : Verdict) → o.verdict ≡ v → Ends k (carried (F.narrow (bound 128)) sort e) (onward kinds o)
      at Point q = both e o (by F.point (is Point q)) (to Point q) s
      at Dropped q = both e o (by F.dropped (is Dropped q)) (to Dropped q) s
      at Long q = both e o (by F.long (is Long q)) (to Long q) s
      at Wide q =
          both (reach (F.narrow (bound 128)) sort e.left e.tableau) (run_table_at (bound 128) kinds o.left o.rows o.place) (by F.wide (is Wide q)) (to Wide q)
          (subst (λ (l : ℕ). Ends k (reach (F.narrow (bound 128)) sort l e.tableau) (run_table_at (bound 128) kinds o.left o.rows o.place)) s.left_is
          (reach-shows k sort kinds (bound 128) o.left e.tableau o.rows o.place s.shows ks))

  pub both-shows : (t : Tableau) (rows : List (List ℤ)) (place : List ℕ) → Shows k rows place t → Sorted k sort kinds place → length (run_table_at (bound 64) kinds 200 rows place).place ≡ length place
      → Ends k (carried (F.narrow (bound 128)) sort (reach (F.narrow (bound 64)) sort 200 t)) (both_table kinds rows place)
  unfolding both_table
  both-shows t rows place s ks e =
      onward-shows (reach (F.narrow (bound 64)) sort 200 t) (run_table_at (bound 64) kinds 200 rows place) (reach-shows k sort kinds (bound 64) 200 t rows place s ks) (λ v h. ks v (subst (λ (n : ℕ). v < n) e h))

  onward-built : (e : F.Ending) (o : Ending) → Ends k e o → Sorted k sort kinds o.place
      → onward_built kinds o ≡ carried_built (F.narrow (bound 128)) sort e
  onward-built e o s ks = by o.verdict ∙ ap carry s.verdict_is
    where
      carry : F.Verdict → ℕ
      carry v = elim v [ point ↦ 0 | dropped ↦ 0 | long ↦ 0 | wide ↦ built (F.narrow (bound 128)) sort e.left e.tableau ]

      by : (v : Verdict) → cond (is_wide v) (built_table_at (bound 128) kinds o.left o.rows o.place) 0 ≡ carry (verdict_of v)
      by Point = refl
      by Dropped = refl
      by Long = refl
      by Wide =
          built-shows k sort kinds (bound 128) o.left e.tableau o.rows o.place s.shows ks
          ∙ ap (λ (l : ℕ). built (F.narrow (bound 128)) sort l e.tableau) s.left_is

  pub both-built : (t : Tableau) (rows : List (List ℤ)) (place : List ℕ) → Shows k rows place t → Sorted k sort kinds place
      → length (run_table_at (bound 64) kinds 200 rows place).place ≡ length place
      → let fits = F.narrow (bound 64) in
      both_built kinds rows place ≡ built fits sort 200 t + carried_built (F.narrow (bound 128)) sort (reach fits sort 200 t)
  both-built t rows place s ks e =
      ap₂ ◌+◌ (built-shows k sort kinds (bound 64) 200 t rows place s ks)
      (onward-built (reach (F.narrow (bound 64)) sort 200 t) (run_table_at (bound 64) kinds 200 rows place) (reach-shows k sort kinds (bound 64) 200 t rows place s ks) (λ v h. ks v (subst (λ (n : ℕ). v < n) e h)))

-- ---- which way it goes
pub onward-no : (kinds : List ℕ) (o : Ending) → is_wide o.verdict ≡ false → onward kinds o ≡ o
onward-no kinds o e = at o.verdict e
  where
    at : (v : Verdict) → is_wide v ≡ false → elim v as (λ (v : Verdict). Ending) [ Point ↦ o | Dropped ↦ o | Long ↦ o | Wide ↦ run_table_at (bound 128) kinds o.left o.rows o.place ] ≡ o
    at Point e = refl
    at Dropped e = refl
    at Long e = refl
    at Wide e = absurd (subst T e tt)

pub onward-yes : (kinds : List ℕ) (o : Ending) → is_wide o.verdict ≡ true → onward kinds o ≡ run_table_at (bound 128) kinds o.left o.rows o.place
onward-yes kinds o e = at o.verdict e
  where
    at : (v : Verdict) → is_wide v ≡ true → elim v as (λ (v : Verdict). Ending) [ Point ↦ o | Dropped ↦ o | Long ↦ o | Wide ↦ run_table_at (bound 128) kinds o.left o.rows o.place ] ≡ run_table_at (bound 128) kinds o.left o.rows o.place
    at Point e = absurd (subst T (sym e) tt)
    at Dropped e = absurd (subst T (sym e) tt)
    at Long e = absurd (subst T (sym e) tt)
    at Wide e = refl

-- a run at 128 bits builds 64 rows a pivot at most
pub went-le : {rows : List (List ℤ)} {place kinds : List ℕ} {from : ℕ} {x : Counted} → Went rows place kinds from x
    → length rows ≤ 64 → x.built ≤ 64 * from
went-le {rows} {place} {kinds} {from} {x} g h = omega (arith, built-le (bound 128) kinds from rows place h, g.built_is)

-- ---- the test of a basic set whose first table is filled
pub filled-both : (b : BasicSet) (rows : List (List ℤ)) (place kinds : List ℕ) (f : FirstTable b rows place kinds) (x : Counted)
    → RanBoth rows (take (8 + b.divs + (2 * b.divs + b.cons)) place) (take (8 + b.divs + (2 * b.divs + b.cons)) kinds) x
    → Tests (basic_set_of b) x.ended × (x.built ≡ F.rows_built (basic_set_of b))
unfolding F.test_ends F.ends_at F.rows_built
filled-both b rows place kinds f x r =
    let n = 8 + b.divs + (2 * b.divs + b.cons) in let B = basic_set_of b in
    let k = run-keeps {W = 64} (omega arith) (b.divs + 10) (take n kinds) 200 rows (take n place) (first_fine b rows place kinds f) in
    let s = both-shows b.divs (F.sorts B) (take n kinds) (F.begin B) rows (take n place) (first-shows b rows place kinds f) (first-sorted b rows place kinds f) k.1 in (
      record { verdict_is = ap verdict_of r.verdict_is ∙ s.verdict_is; pivots_are = r.pivots_are ∙ ap (λ (l : ℕ). 200 - l) s.left_is },
      r.built_is ∙ both-built b.divs (F.sorts B) (take n kinds) (F.begin B) rows (take n place) (first-shows b rows place kinds f) (first-sorted b rows place kinds f) k.1,
    )
