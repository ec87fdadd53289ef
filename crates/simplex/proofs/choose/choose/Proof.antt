use borrow.Author.Rules.{rules}
use Rattle.simplex.proofs.Moves.{choose-point}
use Rattle.simplex.proofs.choose.choose.Statement.{statement}
use Rattle.simplex.proofs.choose.choose.Tie as tie

violated-requires : tie.Need-violated-v-requires
violated-requires c κs = search rules

returns : tie.Need-returns-then-count-v
returns c =
    let s = c.before.before.before.before in
    choose-point s.args.t.now s.args.place.now s.args.kinds.now s.args.left c.before.violated-v.result c.before.violated-v.ensures c.if-count-v.true

choose-at-requires : tie.Need-choose_at-requires
choose-at-requires c κs = search rules

returns-2 : tie.Need-returns
returns-2 c = search rules

pub choose_spec : {M : Type 1} → statement M
choose_spec = tie.close (tie.spec violated-requires returns choose-at-requires returns-2)
