-- The second half: what a step says, and how it goes on. Assumes nothing.
use mathlib.Core.Path.{◌≡◌, refl, sym, ap, ap₂, ◌∙◌, subst, subst₂}
use mathlib.Core.List.{List, []}
use mathlib.Core.Bool.{Bool, true, false, ◌&&◌, cond}
use Prim.Native.Nat.{ℕ, zero, suc, ◌-◌, ◌≤◌, ◌<◌}
use native.Mathlib.Omega.{arith}
use borrow.Author.Tests.{le-leb, lt-leb, leb-false, eq-eqb, ne_eqb}
use lib.Dec.{leb, eqb, T}
use lib.ListN.{length, get_or, set}
use lib.IntN.{ℤ, pos}
use lib.Signed.{◌<ℤ◌}
use Rattle.integers.specs.Size.{bound}
use Rattle.model.proofs.Count.{and_left, and_right, from-T}
use Rattle.tableau.specs.Rows.{den, entry, narrow_row_at, narrow_rows_at, FitAt}
use Rattle.tableau.proofs.Searches.{column-spot, narrow_at, narrow-small, inside}
use Rattle.simplex.specs.Table.{pivot_rows, pivot_place, CrossingAt}
use Rattle.climbing.specs.declared.Outcome.{Outcome}
use Rattle.climbing.specs.declared.Outcome.TheVariants as O
use Rattle.climbing.specs.declared.Step.{Step}
use Rattle.climbing.specs.declared.Step.TheVariants.{Ends, Turns as TurnsBy}
use Rattle.climbing.specs.Steps.{pivot_goal, aim_of, improving, moves_up, stopping, leaving, stops_at, step_by, step_up, step_in, step_for, step_at, Climbed, climb_by, climb_with, Posed}
use Rattle.climbing.proofs.Posing.{goal-fits, pivot-posed}
use Rattle.climbing.proofs.Stopping.{stops-row, stopping-stops, leaving-stops}

-- ---- the five ways of a step

module _ (m : ℕ) (rows : List (List ℤ)) (goal : List ℤ) (place kinds : List ℕ) (greatest : Bool) (left w : ℕ) where
  pub step-best : w ≡ improving goal place kinds greatest → length place ≤ w → Ends O.Best ≡ step_at m rows goal place kinds greatest left
  unfolding step_at
  step-best e h =
      sym (ap (λ (x : Bool). cond x (Ends O.Best) (step_in m rows goal place kinds greatest left w)) (le-leb (length place) w h))
      ∙ ap (step_for m rows goal place kinds greatest left) e

  pub step-on : w ≡ improving goal place kinds greatest → w < length place → step_in m rows goal place kinds greatest left w ≡ step_at m rows goal place kinds greatest left
  unfolding step_at
  step-on e h =
      sym (ap (λ (x : Bool). cond x (Ends O.Best) (step_in m rows goal place kinds greatest left w)) (lt-leb (length place) w h))
      ∙ ap (step_for m rows goal place kinds greatest left) e

  -- u is the lowest-numbered row that stops the move
  module _ (up : Bool) (u : ℕ) (f : up ≡ moves_up greatest (entry goal (get_or place w 0 - 64))) (e : u ≡ stopping rows place kinds (get_or place w 0 - 64) up) where
    found : step_by m rows goal place kinds left w (get_or place w 0 - 64) up u ≡ step_in m rows goal place kinds greatest left w
    found = ap (step_by m rows goal place kinds left w (get_or place w 0 - 64) up) e ∙ ap (step_up m rows goal place kinds left w (get_or place w 0 - 64)) f

    abbrev fitting : Bool
    fitting = narrow_rows_at m (get_or place w 0 - 64) rows && narrow_row_at m (get_or place w 0 - 64) goal

    abbrev turning : Bool → Step
    turning x = cond x (TurnsBy (leaving rows place kinds (get_or place w 0 - 64) up u) w) (Ends O.Wide)

    abbrev way : Bool → Bool → Step
    way x y = cond x (Ends O.Endless) (cond y (Ends O.Long) (turning fitting))

    pub step-endless : length place ≤ u → Ends O.Endless ≡ step_in m rows goal place kinds greatest left w
    step-endless h = sym (ap (λ (x : Bool). way x (eqb left 0)) (le-leb (length place) u h)) ∙ found

    pub step-long : u < length place → left ≡ 0 → Ends O.Long ≡ step_in m rows goal place kinds greatest left w
    step-long h z = sym (ap₂ way (lt-leb (length place) u h) (eq-eqb left 0 z)) ∙ found

    pub step-last : (b : Bool) → u < length place → (left ≡ 0 → ⊥) → fitting ≡ b → turning b ≡ step_in m rows goal place kinds greatest left w
    step-last b h z n = ap turning (sym n) ∙ sym (ap₂ way (lt-leb (length place) u h) (ne_eqb left 0 z)) ∙ found

-- ---- what an exchange tells

ends≢turns : (x : Outcome) (v w : ℕ) → Ends x ≡ TurnsBy v w → ⊥
ends≢turns x v w e = let z : ◌≡◌ {A = ℕ} 0 1 = cc in omega arith

turns-inv : (a b c d : Bool) (v w v' w' : ℕ) → cond a (Ends O.Best) (cond b (Ends O.Endless) (cond c (Ends O.Long) (cond d (TurnsBy v w) (Ends O.Wide)))) ≡ TurnsBy v' w' → (a ≡ false) × (b ≡ false) × (c ≡ false) × (d ≡ true) × (v ≡ v') × (w ≡ w')
turns-inv true b c d v w v' w' e = absurd (ends≢turns O.Best v' w' e)
turns-inv false true c d v w v' w' e = absurd (ends≢turns O.Endless v' w' e)
turns-inv false false true d v w v' w' e = absurd (ends≢turns O.Long v' w' e)
turns-inv false false false false v w v' w' e = absurd (ends≢turns O.Wide v' w' e)
turns-inv false false false true v w v' w' e = (refl, refl, refl, refl, cc, cc)

pub improving-column : (goal : List ℤ) (place kinds : List ℕ) (greatest : Bool) (w : ℕ) → w ≡ improving goal place kinds greatest → w < length place → 64 ≤ get_or place w 0
unfolding improving
improving-column goal place kinds greatest w e h = (column-spot (set goal 1 (aim_of greatest)) place kinds w e h).0

module _ (m n : ℕ) (rows : List (List ℤ)) (goal : List ℤ) (place kinds : List ℕ) (p : Posed n rows goal place kinds) where
  crossing : (v w : ℕ) (up : Bool) → w < length place → 64 ≤ get_or place w 0 → narrow_rows_at m (get_or place w 0 - 64) rows ≡ true → v < length place → stops_at rows place kinds (get_or place w 0 - 64) up v ≡ true → CrossingAt m n rows place v w
  crossing v w up hw c h hv s =
      let f = p.fine in let j = get_or place w 0 - 64 in let r = stops-row rows place kinds j up v s in let row = f.spot v hv r.0 in
      record {
        named = hv;
        other = hw;
        column = c;
        ready = record {
          row = row;
          col = inside n (get_or rows (get_or place v 0) []) j (f.line (get_or place v 0) row) r.1;
          count = f.count;
          cross = r.1;
          rows = λ k l. record { line = f.line k l; dens = λ z. f.dens k l; small = narrow-small j (get_or rows k []) (narrow_at m j rows h k l) };
        };
      }

  -- the row and the column can change places, and the expression's row be rebuilt
  pub step-crosses : (greatest : Bool) (left v w : ℕ) → step_at m rows goal place kinds greatest left ≡ TurnsBy v w → CrossingAt m n rows place v w × FitAt m n goal (get_or place w 0 - 64)
  unfolding step_at
  step-crosses greatest left v w e =
      let w' = improving goal place kinds greatest in let j = get_or place w' 0 - 64 in let up = moves_up greatest (entry goal j) in
      let u = stopping rows place kinds j up in let v' = leaving rows place kinds j up u in
      let a = narrow_rows_at m j rows in let b = narrow_row_at m j goal in
      let i = turns-inv (leb (length place) w') (leb (length place) u) (eqb left 0) (a && b) v' w' v w e in
      let hw = leb-false (length place) w' i.0 in let hu = leb-false (length place) u i.1 in
      let t : T (a && b) = subst T (sym i.3) tt in
      let s = leaving-stops rows place kinds j up u (hu, stopping-stops rows place kinds j up u refl hu) in
      subst₂ (λ (v w : ℕ). CrossingAt m n rows place v w × FitAt m n goal (get_or place w 0 - 64)) i.4 i.5 (
        crossing v' w' up hw (improving-column goal place kinds greatest w' refl hw) (from-T a (and_left a b t)) s.0 s.1,
        goal-fits m n rows goal place kinds j p (from-T b (and_right a b t)),
      )

-- ---- how it goes on

module _ (m : ℕ) (kinds : List ℕ) (greatest : Bool) (rows : List (List ℤ)) (goal : List ℤ) (place : List ℕ) where
  pub climb-ends : (n : ℕ) (x : Outcome) → step_at m rows goal place kinds greatest n ≡ Ends x → climb_with m kinds greatest n rows goal place ≡ record { outcome = x; goal = goal }
  unfolding climb_with
  climb-ends zero x e = ap (λ (s : Step). climb_by s (λ rows goal place. record { outcome = O.Long; goal = goal }) rows goal place) e
  climb-ends (suc n) x e = ap (λ (s : Step). climb_by s (climb_with m kinds greatest n) rows goal place) e

  -- no pivot is made where none is left
  pub turns_left : (n v w : ℕ) → step_at m rows goal place kinds greatest n ≡ TurnsBy v w → 0 < n
  unfolding step_at
  turns_left zero v w e =
      let w' = improving goal place kinds greatest in let j = get_or place w' 0 - 64 in let up = moves_up greatest (entry goal j) in let u = stopping rows place kinds j up in
      let i = turns-inv (leb (length place) w') (leb (length place) u) true (narrow_rows_at m j rows && narrow_row_at m j goal) (leaving rows place kinds j up u) w' v w e in
      absurd (subst T i.2 tt)
  turns_left (suc n) v w e = omega arith

  pub climb-more : (n v w : ℕ) → step_at m rows goal place kinds greatest (suc n) ≡ TurnsBy v w → climb_with m kinds greatest n (pivot_rows rows place v w) (pivot_goal rows goal place v w) (pivot_place place v w) ≡ climb_with m kinds greatest (suc n) rows goal place
  unfolding climb_with
  climb-more n v w e = sym (ap (λ (s : Step). climb_by s (climb_with m kinds greatest n) rows goal place) e)

  pub climb-turns : (n v w : ℕ) → step_at m rows goal place kinds greatest n ≡ TurnsBy v w → climb_with m kinds greatest (n - 1) (pivot_rows rows place v w) (pivot_goal rows goal place v w) (pivot_place place v w) ≡ climb_with m kinds greatest n rows goal place
  climb-turns zero v w e = absurd (let h = turns_left 0 v w e in omega arith)
  climb-turns (suc n) v w e =
      ap (λ (k : ℕ). climb_with m kinds greatest k (pivot_rows rows place v w) (pivot_goal rows goal place v w) (pivot_place place v w)) {x = suc n - 1} {y = n} (omega arith)
      ∙ climb-more n v w e

-- the expression's row keeps a positive denominator
pub climb-over : (n : ℕ) (kinds : List ℕ) (greatest : Bool) (left : ℕ) (rows : List (List ℤ)) (goal : List ℤ) (place : List ℕ) → Posed n rows goal place kinds
    → pos 0 <ℤ den (climb_with (bound 128) kinds greatest left rows goal place).goal
climb-over n kinds greatest zero rows goal place p = at (step_at (bound 128) rows goal place kinds greatest 0) refl
  where
    at : (s : Step) → step_at (bound 128) rows goal place kinds greatest 0 ≡ s → pos 0 <ℤ den (climb_with (bound 128) kinds greatest 0 rows goal place).goal
    at (Ends x) e = rw (climb-ends (bound 128) kinds greatest rows goal place 0 x e) p.dens
    at (TurnsBy v w) e = absurd (let h = turns_left (bound 128) kinds greatest rows goal place 0 v w e in omega arith)
climb-over n kinds greatest (suc left) rows goal place p = at (step_at (bound 128) rows goal place kinds greatest (suc left)) refl (λ r g q h. climb-over n kinds greatest left r g q h)
  where
    at : (s : Step) → step_at (bound 128) rows goal place kinds greatest (suc left) ≡ s
        → ((r : List (List ℤ)) (g : List ℤ) (q : List ℕ) → Posed n r g q kinds → pos 0 <ℤ den (climb_with (bound 128) kinds greatest left r g q).goal)
        → pos 0 <ℤ den (climb_with (bound 128) kinds greatest (suc left) rows goal place).goal
    at (Ends x) e ih = rw (climb-ends (bound 128) kinds greatest rows goal place (suc left) x e) p.dens
    at (TurnsBy v w) e ih =
        let c = step-crosses (bound 128) n rows goal place kinds p greatest (suc left) v w e in
        subst (λ (o : Climbed). pos 0 <ℤ den o.goal) (climb-more (bound 128) kinds greatest rows goal place left v w e)
        (ih (pivot_rows rows place v w) (pivot_goal rows goal place v w) (pivot_place place v w) (pivot-posed n rows goal place kinds v w p c.0 c.1))
