-- `extremes::begin::goal_row` meets its contract. Assumes nothing.
use mathlib.Core.Path.{ap, ◌∙◌, subst}
use borrow.Author.Rules.{rules}
use lib.ListN.{length}
use Rattle.wide_tableau.specs.Cells.{Becomes}
use Rattle.simplex.proofs.Filled.{row-whole}
use Rattle.model.specs.Values.{constraint_of}
use Rattle.extremes.proofs.begin.goal_row.Statement.{statement}
use Rattle.extremes.proofs.begin.goal_row.Tie as tie

constraint-row-requires : tie.Need-constraint_row-requires
constraint-row-requires c κs = search rules

carry-row-requires : tie.Need-carry_row-requires
carry-row-requires c κs =
    let r = c.before.before in
    let s = r.before.before in
    ap length r.constraint_row.ensures ∙ (row-whole s.args.k s.requires (constraint_of s.args.c)).line.long

returns : tie.Need-returns
returns c = subst (Becomes _) c.before.before.before.constraint_row.ensures c.carry_row.ensures

pub goal_row_spec : {M : Type 1} → statement M
goal_row_spec = tie.close (tie.spec constraint-row-requires carry-row-requires returns)
