use Rattle.std.proofs.Common.{◌≡◌, ◌∙◌, length, rules, arith}
use borrow.Author.Tests.{not-true, not-false}
use Rattle.candidates.proofs.Catching.{tables-kept}
use Rattle.subtraction.proofs.Onward.{Pieced, onward-end, onward-next, onward-stop, level-last, level-opened, level-pair, level-over, pieced-whole, pieced-end, pieced-step, pieced-next, pieced-level, pieced-tight}
use Rattle.subtraction.proofs.levels.+cut_all.Goals as goal

pub returns-then-left-eq0 : goal.returns-then-left-eq0
returns-then-left-eq0 t c = level-last c.requires.0 c.if-left-eq0.true c.emit.ensures

pub decode_basic-v-requires : goal.decode_basic-v-requires
decode_basic-v-requires t c = level-opened c.requires.0 c.if-left-eq0.false

pub end_of-end-requires : goal.end_of-end-requires
end_of-end-requires t c = level-opened c.requires.0 c.if-left-eq0.false

pub cut-requires : goal.cut-requires
cut-requires t c = (level-pair c.requires.0 c.if-left-eq0.false c.decode_basic-v.ensures, c.requires.2, c.requires.3)

pub returns-in-None : goal.returns-in-None
returns-in-None t c = level-over c.requires.0 c.if-left-eq0.false c.decode_basic-v.ensures c.requires.4 c.in-None.ensures c.args.out.now c.args.out.now c.args.s _ _

pub piece-q-requires : goal.piece-q-requires
piece-q-requires t c =
    let l : length c.in-Some.c.steps ≡ 96 = search rules in
    let x : Pieced c.args.left c.args.p c.args.b.now c.args.pos c.decode_basic-v.result c.end_of-end.result c.in-Some.c =
    record { level = c.requires.0; some = c.if-left-eq0.false; decoded = c.decode_basic-v.ensures; ends = c.end_of-end.ensures; cuts = c.requires.4; tight = c.in-Some.ensures; long = l } in
    pieced-step x c.loop-i-test.true

pub cut_all-t-requires : goal.cut_all-t-requires
cut_all-t-requires t c =
    let l : length c.in-Some.c.steps ≡ 96 = search rules in
    let x : Pieced c.args.left c.args.p c.args.b.now c.args.pos c.decode_basic-v.result c.end_of-end.result c.in-Some.c =
    record { level = c.requires.0; some = c.if-left-eq0.false; decoded = c.decode_basic-v.ensures; ends = c.end_of-end.ensures; cuts = c.requires.4; tight = c.in-Some.ensures; long = l } in
    let a = c.loop-i.auto in
    let k = c.cut.auto in
    let some = c.if-left-eq0.false in
    let m = c.decreases in (
      omega arith,
      (
        pieced-level x c.loop-i-test.true c.piece-q.ensures,
        c.loop-i.invariant.ready,
        tables-kept c.requires.2 (a.rows ∙ k.rows) (a.place ∙ k.place) (a.kinds ∙ k.kinds),
        record { many = a.past ∙ k.past ∙ c.requires.3.many; high = a.spare ∙ k.spare ∙ c.requires.3.high },
        λ z. pieced-tight x c.loop-i-test.true c.piece-q.ensures,
      ),
    )

pub returns-then-not-t : goal.returns-then-not-t
returns-then-not-t t c =
    let l : length c.in-Some.c.steps ≡ 96 = search rules in
    let x : Pieced c.args.left c.args.p c.args.b.now c.args.pos c.decode_basic-v.result c.end_of-end.result c.in-Some.c =
    record { level = c.requires.0; some = c.if-left-eq0.false; decoded = c.decode_basic-v.ensures; ends = c.end_of-end.ensures; cuts = c.requires.4; tight = c.in-Some.ensures; long = l } in
    pieced-whole x (onward-stop (pieced-next x c.loop-i-test.true c.piece-q.ensures) c.loop-i.invariant c.cut_all-t.ensures (not-true _ c.if-not-t.true))

pub loop-i-preserved : goal.loop-i-preserved
loop-i-preserved t c =
    let l : length c.in-Some.c.steps ≡ 96 = search rules in
    let x : Pieced c.args.left c.args.p c.args.b.now c.args.pos c.decode_basic-v.result c.end_of-end.result c.in-Some.c =
    record { level = c.requires.0; some = c.if-left-eq0.false; decoded = c.decode_basic-v.ensures; ends = c.end_of-end.ensures; cuts = c.requires.4; tight = c.in-Some.ensures; long = l } in
    onward-next (pieced-next x c.loop-i-test.true c.piece-q.ensures) c.loop-i.invariant c.cut_all-t.ensures (not-false _ c.if-not-t.false)

pub returns : goal.returns
returns t c =
    let l : length c.in-Some.c.steps ≡ 96 = search rules in
    let x : Pieced c.args.left c.args.p c.args.b.now c.args.pos c.decode_basic-v.result c.end_of-end.result c.in-Some.c =
    record { level = c.requires.0; some = c.if-left-eq0.false; decoded = c.decode_basic-v.ensures; ends = c.end_of-end.ensures; cuts = c.requires.4; tight = c.in-Some.ensures; long = l } in
    pieced-whole x (onward-end (pieced-end x c.loop-i.i c.loop-i-test.false) c.loop-i.invariant)
