-- `carrying::choose::choose` meets its contract. Assumes nothing.
use mathlib.Core.Path.{subst}
use Prim.Native.Nat.{ℕ, ◌<◌}
use borrow.Author.Rules.{rules}
use lib.ListN.{get_or}
use Rattle.integers.specs.Size.{bound}
use Rattle.wide_tableau.specs.Cells.{rows_of}
use Rattle.wide_tableau.proofs.Sheets.{rows-length}
use Rattle.simplex.proofs.Moves as M
use Rattle.carrying.proofs.choose.choose.Statement.{statement}
use Rattle.carrying.proofs.choose.choose.Tie as tie

violated-requires : tie.Need-violated-v-requires
violated-requires c κs =
    let s = c.before.before in let t = s.args.t.now in
    (s.requires.0, s.requires.1.same, λ v h k. subst (λ (n : ℕ). get_or s.args.place.now v 0 < n) (rows-length t) (s.requires.1.spot v h k))

returns : tie.Need-returns-then-count-v
returns c =
    let v = c.before in let s = v.before.before.before in
    M.choose-point_at (bound 128) (rows_of s.args.t.now) s.args.place.now s.args.kinds.now s.args.left v.violated-v.result v.violated-v.ensures c.if-count-v.true

choose-at-requires : tie.Need-choose_at-requires
choose-at-requires c κs = search rules

returns-2 : tie.Need-returns
returns-2 c = search rules

pub choose_spec : {M : Type 1} → statement M
choose_spec = tie.close (tie.spec violated-requires returns choose-at-requires returns-2)
