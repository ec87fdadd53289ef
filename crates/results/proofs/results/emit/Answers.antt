use Rattle.std.proofs.Common.{arith}
use Rattle.model.specs.Values.{basic_set_of}
use Rattle.results.proofs.Chained.{emits-last, emits_one}
use Rattle.results.proofs.results.emit.Goals as goal

pub returns-then-s-eq-BASIC_SETS : goal.returns-then-s-eq-BASIC_SETS
returns-then-s-eq-BASIC_SETS c = emits-last (basic_set_of c.args.b) c.args.out.now c.args.s c.if-s-eq-BASIC_SETS.true

pub returns : goal.returns
returns c =
    emits_one c.requires.0.n (basic_set_of c.args.b) c.args.out.now c.args.s c.encode_basic.result c.encode_basic.new.out c.requires.0.valid c.requires.1 (omega (arith, c.requires.1.few, c.if-s-eq-BASIC_SETS.false)) c.encode_basic.ensures
