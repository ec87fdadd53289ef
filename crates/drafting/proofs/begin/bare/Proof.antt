-- `drafting::begin::bare` meets its contract. Assumes nothing.
use borrow.Author.Rules.{rules}
use lib.Dec.{lit<}
use mir.Facts.{to_z-of_z}
use Rattle.wide.specs.Wide.{value_of}
use Rattle.simplex.proofs.Fills.{word_fits}
use Rattle.wide_tableau.proofs.Carries.{blank}
use Rattle.drafting.proofs.Making.{bare-is}
use Rattle.drafting.proofs.begin.bare.Statement.{statement}
use Rattle.drafting.proofs.begin.bare.Tie as tie

widen-requires : tie.Need-widen-one-requires
widen-requires c κs = search rules

set-cell-requires : tie.Need-set_cell-requires
set-cell-requires c κs = (blank, lit< tt, c.before.widen-one.ensures.1)

cast-widen : tie.Need-overflow_cast-z
cast-widen c = let s = c.before.before.before.before.before in simp (to_z-of_z s.ranges.z) (word_fits s.ranges.z)

widen-requires-2 : tie.Need-widen-x-requires
widen-requires-2 c κs = search rules

set-cell-requires-2 : tie.Need-set_cell-requires-2
set-cell-requires-2 c κs = search rules

returns : tie.Need-returns
returns c =
    let x = c.before.before in let w = x.before in let o = w.before.before in let s = o.before.before.before in
    record {
      is = bare-is s.args.z (value_of o.widen-one.result) (value_of x.widen-x.result) w.set_cell.new.r c.set_cell-2.new.r o.widen-one.ensures.0 (simp (to_z-of_z s.ranges.z, to_z-of_z (word_fits s.ranges.z)) at x.widen-x.ensures.0) w.set_cell.ensures.is c.set_cell-2.ensures.is;
      sheet = c.set_cell-2.ensures.sheet;
      waits = blank;
    }

pub bare_spec : {M : Type 1} → statement M
bare_spec =
    tie.close
    (tie.spec
    widen-requires
    set-cell-requires
    cast-widen
    widen-requires-2
    set-cell-requires-2
    returns)
