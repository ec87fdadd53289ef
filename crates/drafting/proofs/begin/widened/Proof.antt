-- `drafting::begin::widened` meets its contract. Assumes nothing.
use borrow.Author.Rules.{rules}
use mir.Facts.{to_z-of_z}
use Rattle.simplex.proofs.Fills.{short-fits}
use Rattle.drafting.proofs.begin.widened.Statement.{statement}
use Rattle.drafting.proofs.begin.widened.Tie as tie

cast-widen : tie.Need-overflow_cast-x
cast-widen c = simp (to_z-of_z c.ranges.x) (short-fits c.ranges.x)

widen-requires : tie.Need-widen-requires
widen-requires c κs = search rules

returns : tie.Need-returns
returns c = let s = c.before in (simp (to_z-of_z s.ranges.x, to_z-of_z (short-fits s.ranges.x)) at c.widen.ensures.0, c.widen.ensures.1)

pub widened_spec : {M : Type 1} → statement M
widened_spec = tie.close (tie.spec cast-widen widen-requires returns)
