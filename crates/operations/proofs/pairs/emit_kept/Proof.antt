use Rattle.operations.proofs.Meeting.{tested-kept, tested-dropped}
use borrow.Author.Rules.{rules}
use Rattle.operations.proofs.pairs.emit_kept.Statement.{statement}
use Rattle.operations.proofs.pairs.emit_kept.Tie as tie

-- the test's answer, and the start from there
abbrev told : tie.After-slice_known-5-1 → tie.After-keeps
told c = c.before.before.before.before.before

abbrev start : tie.After-keeps → tie.Start
start c = c.before.before.before.before.before.before.before

keeps-requires : tie.Need-keeps-requires
keeps-requires c κs = search rules

emit-requires : tie.Need-emit-requires
emit-requires c κs = search rules

same_length : tie.Need-shape_of-out-then-keeps
same_length c = search rules

same-length-2 : tie.Need-shape_of-rows-then-keeps
same-length-2 c = search rules

same-length-3 : tie.Need-shape_of-place-then-keeps
same-length-3 c = search rules

same-length-4 : tie.Need-shape_of-kinds-then-keeps
same-length-4 c = search rules

returns : tie.Need-returns-then-keeps
returns c =
    let u = c.before.before in
    let t = u.before.before in
    let k = told t.before in
    let s = start k in
    tested-kept s.args.m k.keeps.result k.keeps.ensures s.args.out.now s.args.s t.if-keeps.true u.emit.ensures

same-length-5 : tie.Need-shape_of-rows
same-length-5 c = search rules

same-length-6 : tie.Need-shape_of-place
same-length-6 c = search rules

same-length-7 : tie.Need-shape_of-kinds
same-length-7 c = search rules

returns-2 : tie.Need-returns
returns-2 c =
    let k = told c.before in
    let s = start k in
    tested-dropped s.args.m k.keeps.result k.keeps.ensures s.args.out.now s.args.s c.if-keeps.false s.requires.1

pub emit_kept_spec : {M : Type 1} → statement M
emit_kept_spec =
    tie.close
    (tie.spec
    keeps-requires
    emit-requires
    same_length
    same-length-2
    same-length-3
    same-length-4
    returns
    same-length-5
    same-length-6
    same-length-7
    returns-2)
