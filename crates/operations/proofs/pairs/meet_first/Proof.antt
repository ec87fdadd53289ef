use mathlib.Core.Path.{sym, ◌∙◌}
use borrow.Author.Rules.{rules}
use Rattle.codec.specs.Places.{set_from}
use Rattle.operations.proofs.Meeting.{first_plain}
use Rattle.operations.proofs.pairs.meet_first.Statement.{statement}
use Rattle.operations.proofs.pairs.meet_first.Tie as tie

any-divisible-requires : tie.Need-any_divisible-requires
any-divisible-requires c κs = search rules

meet-divided-requires : tie.Need-meet_divided-requires
meet-divided-requires c κs = search rules

same_length : tie.Need-shape_of-out-then-any_divisible
same_length c = search rules

same-length-2 : tie.Need-shape_of-rows-then-any_divisible
same-length-2 c = search rules

same-length-3 : tie.Need-shape_of-place-then-any_divisible
same-length-3 c = search rules

same-length-4 : tie.Need-shape_of-kinds-then-any_divisible
same-length-4 c = search rules

returns : tie.Need-returns-then-any_divisible
returns c = search rules

meet-all-requires : tie.Need-meet_all-requires
meet-all-requires c κs = search rules

same-length-5 : tie.Need-shape_of-out
same-length-5 c = search rules

same-length-6 : tie.Need-shape_of-rows
same-length-6 c = search rules

same-length-7 : tie.Need-shape_of-place
same-length-7 c = search rules

same-length-8 : tie.Need-shape_of-kinds
same-length-8 c = search rules

returns-2 : tie.Need-returns
returns-2 c =
    let k = c.before.before.before.before.before.before.before in
    let e = k.before.before.before.before.before in
    let a = e.before.before.before.before.before.before.args in
    first_plain (set_from a.b.now 0) a.p (sym e.before.any_divisible.ensures ∙ e.if-any_divisible.false) k.meet_all.ensures

pub meet_first_spec : {M : Type 1} → statement M
meet_first_spec =
    tie.close
    (tie.spec
    any-divisible-requires
    meet-divided-requires
    same_length
    same-length-2
    same-length-3
    same-length-4
    returns
    meet-all-requires
    same-length-5
    same-length-6
    same-length-7
    same-length-8
    returns-2)
