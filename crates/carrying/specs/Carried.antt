-- The run of the table at two word sizes.
use Rattle.std.specs.Prelude.{◌≡◌, List, ℕ, ◌+◌, ◌-◌, ℤ, Bool, true, false, cond}
use Rattle.integers.specs.Size.{bound}
use Rattle.wide_tableau.specs.Cells.{Turns}
use Rattle.simplex.specs.Table.{Ending, run_table_at, built_table_at}
use Rattle.model.specs.Limits.{most_pivots}
use Rattle.simplex.specs.declared.Verdict.{Verdict}
use Rattle.simplex.specs.declared.Counted.{Counted}
use Rattle.simplex.specs.declared.Verdict.TheVariants.{Point, Dropped, Long, Wide}

-- the run at 128 bits from (rows, place), with so many pivots left of the 200, ends in x
pub record Went (rows : List (List ℤ)) (place kinds : List ℕ) (from : ℕ) (x : Counted) : Type 0 where
  pub verdict_is : x.ended.verdict ≡ (run_table_at (bound 128) kinds from rows place).verdict
  pub pivots_are : x.ended.pivots ≡ most_pivots - (run_table_at (bound 128) kinds from rows place).left
  pub built_is : x.built ≡ built_table_at (bound 128) kinds from rows place

-- and leaves this table, with these places
pub record WentTo (rows : List (List ℤ)) (place kinds : List ℕ) (from : ℕ) (x : Counted) (t : List (List ℕ)) (place' : List ℕ) : Type 0 where
  pub went : Went rows place kinds from x
  pub rows_are : Turns t (run_table_at (bound 128) kinds from rows place).rows
  pub place_is : place' ≡ (run_table_at (bound 128) kinds from rows place).place

abbrev pub is_wide : Verdict → Bool
is_wide Point = false
is_wide Dropped = false
is_wide Long = false
is_wide Wide = true

-- what is wide goes on at 128 bits, with the pivots left
abbrev pub onward : List ℕ → Ending → Ending
onward kinds o = elim o.verdict [ Point ↦ o | Dropped ↦ o | Long ↦ o | Wide ↦ run_table_at (bound 128) kinds o.left o.rows o.place ]

unfoldable pub both_table : List ℕ → List (List ℤ) → List ℕ → Ending
both_table kinds rows place = onward kinds (run_table_at (bound 64) kinds most_pivots rows place)

-- the rows built, of both
abbrev pub onward_built : List ℕ → Ending → ℕ
onward_built kinds o = cond (is_wide o.verdict) (built_table_at (bound 128) kinds o.left o.rows o.place) 0

abbrev pub both_built : List ℕ → List (List ℤ) → List ℕ → ℕ
both_built kinds rows place = built_table_at (bound 64) kinds most_pivots rows place + onward_built kinds (run_table_at (bound 64) kinds most_pivots rows place)

pub record RanBoth (rows : List (List ℤ)) (place kinds : List ℕ) (x : Counted) : Type 0 where
  pub verdict_is : x.ended.verdict ≡ (both_table kinds rows place).verdict
  pub pivots_are : x.ended.pivots ≡ most_pivots - (both_table kinds rows place).left
  pub built_is : x.built ≡ both_built kinds rows place
