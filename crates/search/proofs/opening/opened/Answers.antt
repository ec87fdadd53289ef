use Rattle.std.proofs.Common.{◌<◌, ◌||◌, length, nat_eq, refl, arith}
use Rattle.runs.proofs.Upward.{reach-less}
use Rattle.enumeration.specs.Search.{box_of}
use Rattle.search.specs.Live.{wide_box}
use Rattle.search.proofs.Lives.{live-told, opens-start, opens-next, opens-holding, opens-failing}
use Rattle.search.proofs.opening.opened.Goals as goal

pub loop-b-init : goal.loop-b-init
loop-b-init c =
    let a = c.args in let p = c.requires.1 in
    opens-start a.s.now (length a.low.now) (box_of a.low.now a.high.now) (wide_box a.k a.low.now a.high.now) a.rows.now a.live a.most c.requires.0 p.lives.places p.some

pub row_run-m-requires : goal.row_run-m-requires
row_run-m-requires c =
    let a = c.args in let p = c.requires.1 in let l = c.loop-b in let g = l.invariant in let n = length a.low.now in let h : l.b < length l.rows = omega arith in
    let xs = box_of a.low.now a.high.now in let wide = wide_box a.k a.low.now a.high.now l.run in (
      g.right.at l.b h,
      p.ends,
      p.axis,
      reach-less a.k a.high.now l.run a.most g.few p.reach,
      g.some,
      λ e. (live-told a.s.now n xs l.rows a.live g.right p.lives l.b h e, live-told a.s.now n wide l.rows a.live g.right (p.ahead l.run g.few) l.b h e),
    )

pub loop-b-preserved : goal.loop-b-preserved
loop-b-preserved c =
    let a = c.args in let l = c.loop-b in let e = c.row_run-m.ensures in let m = c.row_run-m.result in
    opens-next a.s.now (length a.low.now) (box_of a.low.now a.high.now) (wide_box a.k a.low.now a.high.now) a.rows.now l.rows l.kept l.any a.most l.run l.b l.invariant
    (omega arith) _ e.row e.place m e.run.is e.run.few e.run.far (l.any || nat_eq m 0) refl c.max-run.result (omega arith) (λ z. omega arith) (λ z. omega arith)

pub returns-then-any-clause-is : goal.returns-then-any-clause-is
returns-then-any-clause-is c =
    let l = c.loop-b in opens-holding _ _ _ _ _ _ l.kept l.any _ l.run l.b l.invariant (omega arith) c.if-any.true

pub returns-else-any-clause-is : goal.returns-else-any-clause-is
returns-else-any-clause-is c =
    let a = c.args in let l = c.loop-b in
    opens-failing a.s.now (length a.low.now) (box_of a.low.now a.high.now) (wide_box a.k a.low.now a.high.now) a.rows.now l.rows l.kept l.any a.most l.run l.b l.invariant (omega arith) c.if-any.false
