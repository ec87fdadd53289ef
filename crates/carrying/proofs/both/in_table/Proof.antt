-- `carrying::both::in_table` meets its contract. Assumes nothing.
use mathlib.Core.Path.{sym, subst}
use mathlib.Core.List.{List}
use borrow.Author.Rules.{rules}
use lib.IntN.{ℤ}
use Rattle.simplex.specs.Table as S
use Rattle.carrying.specs.Carried.{Went}
use Rattle.carrying.proofs.both.in_table.Statement.{statement}
use Rattle.carrying.proofs.both.in_table.Tie as tie

carry-requires : tie.Need-carry-requires
carry-requires c κs = let s = c.before.before.before in (s.requires.2, λ k h. (s.requires.0.line k h).long)

go-on-requires : tie.Need-go_on-requires
go-on-requires c κs =
    let a = c.before.before.before in let s = a.before.before.before.before in
    (a.carry.ensures.sheets, subst (λ (r : List (List ℤ)). S.Fine s.args.n r s.args.place.now s.args.kinds.now) (sym a.carry.ensures.is) s.requires.0, s.requires.1)

same_length : tie.Need-shape_of-place
same_length c = search rules

same-length-2 : tie.Need-shape_of-out
same-length-2 c = search rules

returns : tie.Need-returns
returns c =
    let g = c.before.before.before in let a = g.before.before.before.before in let s = a.before.before.before.before in
    subst (λ (r : List (List ℤ)). Went r s.args.place.now s.args.kinds.now s.args.from g.go_on.result) a.carry.ensures.is g.go_on.ensures.went

pub in_table_spec : {M : Type 1} → statement M
in_table_spec =
    tie.close (tie.spec carry-requires go-on-requires same_length same-length-2 returns)
