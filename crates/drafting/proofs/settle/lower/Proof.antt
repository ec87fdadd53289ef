-- `drafting::settle::lower` meets its contract. Assumes nothing.
use mathlib.Core.Path.{sym, ◌∙◌}
use borrow.Author.Tests.{eqb-true}
use borrow.Author.Rules.{rules}
use Rattle.wide.specs.Wide.{size}
use Rattle.wide_tableau.specs.Cells.{cells}
use Rattle.drafting.specs.Sketch.{sketch_of}
use Rattle.drafting.proofs.Making.{divided-one, divided-is}
use Rattle.drafting.proofs.settle.lower.Statement.{statement}
use Rattle.drafting.proofs.settle.lower.Tie as tie

is-one-requires : tie.Need-is_one-requires
is-one-requires c κs = search rules

returns : tie.Need-returns-then-is_one
returns c =
    let o = c.before in let s = o.before in
    record { is = divided-one (size s.args.g) (sketch_of s.args.row.now s.args.waiting.now) (eqb-true _ _ (sym o.is_one.ensures ∙ c.if-is_one.true)); sheet = s.requires.0; waits = s.requires.1 }

divide-requires : tie.Need-divide-requires
divide-requires c κs = search rules

divide-requires-2 : tie.Need-divide-requires-2
divide-requires-2 c κs = search rules

returns-2 : tie.Need-returns
returns-2 c =
    let d = c.before.before in let s = d.before.before.before.before in
    record {
      is = divided-is (size s.args.g) (sketch_of s.args.row.now s.args.waiting.now) (cells d.divide.new.r) (cells c.divide-2.new.r) d.divide.ensures.is c.divide-2.ensures.is;
      sheet = d.divide.ensures.sheet;
      waits = c.divide-2.ensures.sheet;
    }

pub lower_spec : {M : Type 1} → statement M
lower_spec =
    tie.close (tie.spec is-one-requires returns divide-requires divide-requires-2 returns-2)
