-- `states::opening::tested` meets its contract. Assumes nothing.
use Rattle.model.specs.Values.{division_of}
use Rattle.states.proofs.Tables.{begun-fine, begun-run, ran}
use lib.ListN.{length, take, length-map}
use lib.Seq.{length-take-le}
use mathlib.Core.List.{map}
use mathlib.Core.Path.{◌≡◌, ◌∙◌}
use native.Mathlib.Omega.{arith}
use borrow.Author.Rules.{rules}
use Rattle.states.proofs.opening.tested.Statement.{statement}
use Rattle.states.proofs.opening.tested.Tie as tie

abbrev start : tie.After-lay → tie.Start
start c = c.before.before.before.before.before.before

divisions-are : (s : tie.Start) → length (map division_of (take s.args.k s.args.ds)) ≡ s.args.k
divisions-are s = let h = s.requires.divisions in let f = s.requires.few in length-map (take s.args.k s.args.ds) division_of ∙ length-take-le s.args.k s.args.ds (omega arith)

lay-requires : tie.Need-lay-requires
lay-requires c κs = search rules

add-go-on : tie.Need-overflow_add-k
add-go-on c = search rules

go-on-requires : tie.Need-go_on-e-requires
go-on-requires c κs = let l = c.before.before.before.before.before.before.before in let b = l.lay.ensures in let s = start l in (b.rows.sheets, begun-fine b s.requires.few (divisions-are s), omega arith)

word-of-requires : tie.Need-word_of-requires
word-of-requires c κs = search rules

same_length : tie.Need-shape_of-t
same_length c = search rules

same-length-2 : tie.Need-shape_of-place
same-length-2 c = search rules

same-length-3 : tie.Need-shape_of-kinds
same-length-3 c = search rules

returns : tie.Need-returns
returns c =
    let g = c.before.before.before.before.before in let l = g.before.before.before.before.before.before.before.before in
    (ran g.go_on-e.ensures (begun-run l.lay.ensures) c.word_of.ensures, l.lay.ensures.kinds_are)

pub tested_spec : {M : Type 1} → statement M
tested_spec =
    tie.close
    (tie.spec
    lay-requires
    add-go-on
    go-on-requires
    word-of-requires
    same_length
    same-length-2
    same-length-3
    returns)
