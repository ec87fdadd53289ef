-- `drafting::begin::put` meets its contract. Assumes nothing.
use borrow.Author.Rules.{rules}
use Rattle.wide.specs.Wide.{value_of}
use Rattle.drafting.proofs.Making.{put_low, put-high}
use Rattle.drafting.proofs.begin.put.Statement.{statement}
use Rattle.drafting.proofs.begin.put.Tie as tie

add-set-cell : tie.Need-overflow_add-v
add-set-cell c = search rules

set-cell-requires : tie.Need-set_cell-requires
set-cell-requires c κs = search rules

returns : tie.Need-returns-then-i-lt64
returns c =
    let t = c.before.before in let s = t.before in
    record {
      is = put_low s.args.v s.args.i (value_of s.args.x) s.args.row.now s.args.waiting.now c.set_cell.new.r t.if-i-lt64.true c.set_cell.ensures.is;
      sheet = s.requires.0;
      waits = c.set_cell.ensures.sheet;
    }

add-set-cell-2 : tie.Need-overflow_add-i
add-set-cell-2 c = search rules

set-cell-requires-2 : tie.Need-set_cell-requires-2
set-cell-requires-2 c κs = search rules

returns-2 : tie.Need-returns
returns-2 c =
    let t = c.before.before in let s = t.before in
    record {
      is = put-high s.args.v s.args.i (value_of s.args.x) s.args.row.now s.args.waiting.now c.set_cell-2.new.r t.if-i-lt64.false c.set_cell-2.ensures.is;
      sheet = c.set_cell-2.ensures.sheet;
      waits = s.requires.1;
    }

pub put_spec : {M : Type 1} → statement M
put_spec =
    tie.close
    (tie.spec add-set-cell set-cell-requires returns add-set-cell-2 set-cell-requires-2 returns-2)
