use Rattle.std.proofs.Common.{[], length, take, arith}
use Rattle.std.proofs.lemmas.List.{length_push}
use Rattle.std.proofs.lemmas.Slice.Zip.{zip_turn, zip_end}
use Rattle.sharing.proofs.Passes.{replay-off, replay-on, replay-end}
use Rattle.sharing.proofs.history.replay.Goals as goal

pub returns-then-not-pass : goal.returns-then-not-pass
returns-then-not-pass c =
    let t = zip_turn (take c.args.made c.args.past.now) (take c.args.made c.args.columns.now) c.loop-q.yielded c.into_iter-q-iterator.result c.loop-q.q-iterator c.next.new.self _ (cc) (cc) c.loop-q.yielded_by (c.in-Some.q, c.in-Some.j) c.in-Some.is c.next.ensures.steps in
    replay-off c.requires.kept c.loop-q.invariant t.0 (t.2 []) (t.3 0) c.if-not-pass.ensures

pub loop-q-preserved : goal.loop-q-preserved
loop-q-preserved c =
    let t = zip_turn (take c.args.made c.args.past.now) (take c.args.made c.args.columns.now) c.loop-q.yielded c.into_iter-q-iterator.result c.loop-q.q-iterator c.next.new.self _ (cc) (cc) c.loop-q.yielded_by (c.in-Some.q, c.in-Some.j) c.in-Some.is c.next.ensures.steps in
    rw (length_push c.loop-q.yielded (c.in-Some.q, c.in-Some.j)) (replay-on c.requires.kept c.loop-q.invariant t.0 (t.2 []) (t.3 0) c.if-not-pass.ensures)

pub returns : goal.returns
returns c =
    let e = zip_end (take c.args.made c.args.past.now) (take c.args.made c.args.columns.now) c.loop-q.yielded c.into_iter-q-iterator.result c.loop-q.q-iterator c.next.new.self _ (cc) (cc) c.loop-q.yielded_by c.in-None.is c.next.ensures.steps in
    let k = c.requires.kept.same in
    replay-end c.requires.kept c.loop-q.invariant (omega (arith, e, k))
