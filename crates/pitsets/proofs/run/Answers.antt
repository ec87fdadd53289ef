-- Each turn's contract carries the run so far over it, and over the read behind it.
use Rattle.std.proofs.Common.{refl, ◌∙◌, [], arith}
use Rattle.session.specs.Turns.{memory}
use Rattle.session.specs.Session.{begins}
use Rattle.pitsets.proofs.Laws.{text_in, used-in, short-in, runs_on, reads_on}
use Rattle.pitsets.proofs.run.Goals as goal

pub loop-turns-init : goal.loop-turns-init
loop-turns-init c = record {
  window = record { long = c.requires.read_long; order = omega arith; within = omega arith; bytes = λ i. let h = c.type_inv.read i in omega arith };
  sets_long = refl;
  lengths_long = refl;
  answer_long = refl;
  text_long = refl;
  running = record { on = λ p. ([], [], begins c.requires.fresh); off = λ p. absurd (omega arith) };
}

pub show-requires : goal.show-requires
show-requires c =
    let l = c.loop-turns in let i = l.invariant in let n = c.step-t.auto.out in (
      rw n (text_in l.read l.from l.have i.window l.state (memory l.sets l.lengths l.answer) l.ended c.step-t.ensures),
      c.loop-turns-test.true,
    )

pub overflow_add-from : goal.overflow_add-from
overflow_add-from c =
    let l = c.loop-turns in let i = l.invariant in let w = i.window.within in
    let u = used-in l.read l.from l.have i.window l.state (memory l.sets l.lengths l.answer) l.ended c.step-t.ensures in omega arith

pub refill-requires : goal.refill-requires
refill-requires c =
    let l = c.loop-turns in let i = l.invariant in let y = memory l.sets l.lengths l.answer in
    let u = used-in l.read l.from l.have i.window l.state y l.ended c.step-t.ensures in
    let h = short-in l.read l.from l.have i.window l.state y l.ended c.step-t.ensures (c.asks.ensures.0 c.if-asks.true) in
    let n = i.window.long in let w = i.window.within in (u, omega arith, omega arith)

pub loop-turns-preserved-then-asks : goal.loop-turns-preserved-then-asks
loop-turns-preserved-then-asks c =
    let l = c.loop-turns in let i = l.invariant in let r = c.in_ok-f.ensures.ok in let n = i.window.long in record {
      window = record { long = c.refill.auto.read ∙ n; order = omega arith; within = let h = r.within in omega arith; bytes = λ j. let h = c.type_inv.read j in omega arith };
      sets_long = c.step-t.auto.tables ∙ i.sets_long;
      lengths_long = c.step-t.auto.lengths ∙ i.lengths_long;
      answer_long = c.step-t.auto.res ∙ i.answer_long;
      text_long = c.step-t.auto.out ∙ i.text_long;
      running = reads_on i.window c.requires.line_long (i.running.on c.loop-turns-test.true).2 i.text_long c.step-t.ensures (c.asks.ensures.0 c.if-asks.true) r;
    }

pub loop-turns-preserved : goal.loop-turns-preserved
loop-turns-preserved c =
    let l = c.loop-turns in let i = l.invariant in let w = i.window in record {
      window = record { long = w.long; order = used-in l.read l.from l.have w l.state (memory l.sets l.lengths l.answer) l.ended c.step-t.ensures; within = w.within; bytes = w.bytes };
      sets_long = c.step-t.auto.tables ∙ i.sets_long;
      lengths_long = c.step-t.auto.lengths ∙ i.lengths_long;
      answer_long = c.step-t.auto.res ∙ i.answer_long;
      text_long = c.step-t.auto.out ∙ i.text_long;
      running = runs_on w c.requires.line_long (i.running.on c.loop-turns-test.true).2 i.text_long c.step-t.ensures c.in_ok-turns.turns c.in_ok-turns.ensures.1 (c.asks.ensures.1 c.if-asks.false);
    }
