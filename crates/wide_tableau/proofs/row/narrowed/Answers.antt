use Rattle.std.proofs.Common.{◌∙◌, subst, arith}
use Rattle.wide_tableau.specs.Cells.{cells}
use mir.Syntax.{w64}
use Rattle.integers.specs.Z.{Within}
use Rattle.integers.specs.Size.{bound}
use Rattle.integers.specs.Mach.{result_is}
use Rattle.wide_tableau.proofs.Shorter.{narrowing-start, narrowing-next, narrowing-end}
use Rattle.wide_tableau.proofs.row.narrowed.Goals as goal

pub loop-i-init : goal.loop-i-init
loop-i-init c = narrowing-start (cells c.args.r.now)

pub loop-i-preserved : goal.loop-i-preserved
loop-i-preserved c =
    let i = c.loop-i.i in
    narrowing-next (cells c.args.r.now) c.loop-i.s i c.loop-i.invariant (omega (arith, c.requires.1.fit))
    (subst (Within (bound 64)) c.cell_at-x.ensures.0 (c.is_narrow.ensures c.if-not-is_narrow.false)) _
    (result_is w64 c.narrow.result c.narrow.type_inv ∙ c.narrow.ensures ∙ c.cell_at-x.ensures.0)

pub returns : goal.returns
returns c = λ e. narrowing-end (cells c.args.r.now) c.loop-i.s c.loop-i.i c.loop-i.invariant c.args.n c.requires.1 (omega arith)
