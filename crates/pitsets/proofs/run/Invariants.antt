-- What is read and not used stands in the table, the tables keep their lengths, and the run so far is that of Reached.
use Rattle.std.proofs.Common.{◌≡◌, length}
use Rattle.session.specs.Turns.{memory}
use Rattle.pitsets.specs.Moving.{unused}
use Rattle.pitsets.proofs.Laws.{Window, Running}
use Rattle.pitsets.proofs.run.Given as goal

abbrev pub invariant-loop-turns : goal.invariant-loop-turns
invariant-loop-turns l = record {
  window : Window l.read l.from l.have;
  sets_long : length l.sets ≡ length l.fn.sets;
  lengths_long : length l.lengths ≡ length l.fn.lengths;
  answer_long : length l.answer ≡ length l.fn.answer;
  text_long : length l.text ≡ length l.fn.text;
  running : Running (length l.fn.text) l.turns l.state (memory l.sets l.lengths l.answer) l.ended (unused l.read l.from l.have);
}

abbrev pub decreases-loop-turns : goal.decreases-loop-turns
decreases-loop-turns l = l.turns
