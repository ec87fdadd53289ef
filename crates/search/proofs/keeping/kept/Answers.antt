use Rattle.std.proofs.Common.{◌-◌, length, arith}
use Rattle.runs.specs.Upward.{widened}
use Rattle.enumeration.specs.Search.{box_of}
use Rattle.search.proofs.Lives.{rows-any, rows-set}
use Rattle.search.proofs.keeping.kept.Goals as goal

pub returns-then-m-gt1-clause-is : goal.returns-then-m-gt1-clause-is
returns-then-m-gt1-clause-is c =
    let a = c.args in let e = c.row_keeps-m.ensures in
    let wide = box_of (widened a.k (c.row_keeps-m.result - 1) a.low.now) a.high.now in
    record {
      some = e.some;
      few = e.few;
      is = λ l. rows-any a.s.now (length a.low.now) c.loop-b.rows c.loop-b.invariant wide c.loop-b.b (omega arith) (e.is l);
    }

pub returns-then-m-gt1-clause-rows : goal.returns-then-m-gt1-clause-rows
returns-then-m-gt1-clause-rows c =
    let e = c.row_keeps-m.ensures in
    rows-set c.args.s.now (length c.args.low.now) c.loop-b.rows c.loop-b.invariant c.loop-b.b _ (omega arith) e.row e.place

pub loop-b-preserved : goal.loop-b-preserved
loop-b-preserved c =
    let e = c.row_keeps-m.ensures in
    rows-set c.args.s.now (length c.args.low.now) c.loop-b.rows c.loop-b.invariant c.loop-b.b _ (omega arith) e.row e.place
