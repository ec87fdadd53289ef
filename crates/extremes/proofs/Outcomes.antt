-- Both halves, one after the other. Assumes nothing.
use mathlib.Core.Path.{◌≡◌, sym, ap, ap₂, ◌∙◌, subst, subst₂}
use mathlib.Core.Bool.{Bool}
use mathlib.Core.List.{List}
use Prim.Native.Nat.{ℕ, ◌-◌}
use native.Mathlib.Omega.{arith}
use lib.IntN.{ℤ, pos}
use lib.Signed.{◌<ℤ◌}
use Rattle.integers.specs.Size.{bound}
use Rattle.tableau.specs.Rows.{den}
use Rattle.wide_tableau.specs.Cells.{cells, rows_of}
use Rattle.simplex.specs.declared.Ended.{Ended}
use Rattle.simplex.specs.declared.Verdict.{Verdict}
use Rattle.simplex.specs.declared.Verdict.TheVariants.{Point, Dropped, Long, Wide}
use Rattle.optimum.specs.Value.{Extreme, empty, too_wide, too_long}
use Rattle.climbing.specs.declared.Outcome.{Outcome}
use Rattle.climbing.specs.Steps.{Ending, reach_with, climb_with, outcome_of, outcome_in, halves, Posed, Reaches, Climbs}
use Rattle.climbing.proofs.Posing.{Keeps, reach-keeps}
use Rattle.climbing.proofs.Climbing.{climb-over}

module _ {n : ℕ} {rows : List (List ℤ)} {goal : List ℤ} {place kinds : List ℕ} (p : Posed n rows goal place kinds) {x : Ended} {t : List (List ℕ)} {g place' : List ℕ} (r : Reaches n rows goal place kinds x t g place') where
  abbrev o : Ending
  o = reach_with (bound 128) kinds 200 rows goal place

  keeps : Keeps n kinds place 200 o
  keeps = reach-keeps {W = 128} (omega arith) n kinds 200 rows goal place p

  -- what the first half leaves can be climbed from
  pub reached-posed : Posed n (rows_of t) (cells g) place' kinds
  reached-posed =
      subst (λ q. Posed n (rows_of t) (cells g) q kinds) (sym r.place_is)
      (subst₂ (λ l c. Posed n l c o.place kinds) (sym r.rows_are.is) (sym r.goal_is.is) keeps.posed)

  left_is : 200 - x.pivots ≡ o.left
  left_is = let h = keeps.fewer in let e = r.pivots_are in omega arith

  module _ (greatest : Bool) where
    abbrev after : Verdict → Extreme
    after v =
        elim v [
          | Point ↦ outcome_in (climb_with (bound 128) kinds greatest o.left o.rows o.goal o.place)
          | Dropped ↦ empty
          | Long ↦ too_long
          | Wide ↦ too_wide
        ]

    pub halves-after : (v : Verdict) → x.verdict ≡ v → after v ≡ halves (bound 128) kinds greatest rows goal place
    unfolding halves
    halves-after v e = ap after (sym e ∙ r.verdict_is)

    module _ {y : Outcome} {g' : List ℕ} (c : Climbs (rows_of t) (cells g) place' kinds greatest (200 - x.pivots) y g') where
      pub climbed-over : pos 0 <ℤ den (cells g')
      climbed-over = subst (λ l. pos 0 <ℤ den l) (sym c.goal_is.is) (climb-over n kinds greatest (200 - x.pivots) (rows_of t) (cells g) place' reached-posed)

      same : climb_with (bound 128) kinds greatest (200 - x.pivots) (rows_of t) (cells g) place' ≡ climb_with (bound 128) kinds greatest o.left o.rows o.goal o.place
      same i = climb_with (bound 128) kinds greatest (left_is i) (r.rows_are.is i) (r.goal_is.is i) (r.place_is i)

      pub halves-point : x.verdict ≡ Point → outcome_of y (cells g') ≡ halves (bound 128) kinds greatest rows goal place
      halves-point e = ap₂ outcome_of c.outcome-is c.goal_is.is ∙ ap outcome_in same ∙ halves-after Point e
