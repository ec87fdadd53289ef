use mathlib.Core.Path.{sym, ◌∙◌}
use borrow.Author.Rules.{rules}
use Rattle.subtraction.proofs.Onward.{level-sound, level-last}
use Rattle.subtraction.proofs.levels.cut_first.Statement.{statement}
use Rattle.subtraction.proofs.levels.cut_first.Tie as tie

-- the start from where a cutter is left
abbrev start : tie.Else-left-eq0 → tie.Start
start c = c.before.before.before.before.before

emit-requires : tie.Need-emit-requires
emit-requires c κs = let s = c.before.before.before.before.before.before in (level-sound s.requires.0, s.requires.1)

same_length : tie.Need-shape_of-out-then-left-eq0
same_length c = search rules

returns : tie.Need-returns-then-left-eq0
returns c =
    let k = c.before.before in
    let t = k.before.before in
    level-last t.before.before.before.before.before.requires.0 t.if-left-eq0.true k.emit.ensures

any-divisible-requires : tie.Need-any_divisible-requires
any-divisible-requires c κs = search rules

cut-divided-requires : tie.Need-cut_divided-requires
cut-divided-requires c κs =
    let e = c.before.before.before.before.before.before.before.before in
    let s = start e in
    (s.requires.0, s.requires.1, s.requires.2, s.requires.3, e.if-left-eq0.false)

same-length-2 : tie.Need-shape_of-out-then-any_divisible
same-length-2 c = search rules

same-length-3 : tie.Need-shape_of-rows-then-any_divisible
same-length-3 c = search rules

same-length-4 : tie.Need-shape_of-place-then-any_divisible
same-length-4 c = search rules

same-length-5 : tie.Need-shape_of-kinds-then-any_divisible
same-length-5 c = search rules

same-length-6 : tie.Need-shape_of-past-then-any_divisible
same-length-6 c = search rules

same-length-7 : tie.Need-shape_of-spare-then-any_divisible
same-length-7 c = search rules

returns-2 : tie.Need-returns-then-any_divisible
returns-2 c = search rules

cut-all-requires : tie.Need-cut_all-requires
cut-all-requires c κs =
    let d = c.before.before.before.before.before.before in
    let s = start d.before.before in
    (s.requires.0, s.requires.1, s.requires.2, s.requires.3, λ z. sym d.before.any_divisible.ensures ∙ d.if-any_divisible.false)

same-length-8 : tie.Need-shape_of-out
same-length-8 c = search rules

same-length-9 : tie.Need-shape_of-rows
same-length-9 c = search rules

same-length-10 : tie.Need-shape_of-place
same-length-10 c = search rules

same-length-11 : tie.Need-shape_of-kinds
same-length-11 c = search rules

same-length-12 : tie.Need-shape_of-past
same-length-12 c = search rules

same-length-13 : tie.Need-shape_of-spare
same-length-13 c = search rules

returns-3 : tie.Need-returns
returns-3 c = search rules

pub cut_first_spec : {M : Type 1} → statement M
cut_first_spec =
    tie.close
    (tie.spec
    emit-requires
    same_length
    returns
    any-divisible-requires
    cut-divided-requires
    same-length-2
    same-length-3
    same-length-4
    same-length-5
    same-length-6
    same-length-7
    returns-2
    cut-all-requires
    same-length-8
    same-length-9
    same-length-10
    same-length-11
    same-length-12
    same-length-13
    returns-3)
