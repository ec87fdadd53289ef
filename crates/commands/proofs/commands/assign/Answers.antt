use Rattle.std.proofs.Common.{get_or, ap, sym, arith}
use Rattle.session.specs.Turns.{state_in, answer_of, memory}
use Rattle.session.proofs.Commands.{number-good, numbers-one}
use Rattle.listing.proofs.Writing.{writes-same}
use Rattle.commands.specs.Promises.{tells, done_line}
use Rattle.commands.proofs.Answers.{answered-refused, answered-gives, kept-refused, kept-given, one-operand}
use Rattle.commands.proofs.commands.assign.Goals as goal

pub byte-requires : goal.byte-requires
byte-requires c = let f = one-operand c.args.b c.requires.2 in let e = c.requires.1.enough in omega arith

pub keep-requires : goal.keep-requires
keep-requires c =
    let g = number-good _ 0 c.args.s.now c.requires.1.good (numbers-one c.args.b) in
    let e = c.byte.ensures.is in
    let k = c.answer.auto.res in
    (c.requires.0.tables_long, c.requires.0.lengths_long, omega arith, omega arith)

pub returns-in-Err : goal.returns-in-Err
returns-in-Err c =
    let a = answer_of (state_in c.args.axes c.args.tables.now c.args.lengths.now) c.args.b c.args.s.now in
    let x = c.in-Err.ensures in
    let e = answered-refused _ x in record {
      told = writes-same (omega arith) (ap (tells done_line) (sym e)) c.refused_line.ensures;
      kept = kept-refused (memory c.args.tables.now c.args.lengths.now c.args.res.now) (get_or c.args.s.now 0 0) a _ _ e x.bytes;
    }

pub returns-in-Ok : goal.returns-in-Ok
returns-in-Ok c =
    let a = answer_of (state_in c.args.axes c.args.tables.now c.args.lengths.now) c.args.b c.args.s.now in
    let x = c.in-Ok.ensures in
    let g = answered-gives _ x in record {
      told = writes-same (omega arith) (ap (tells done_line) (sym g.is)) c.word.ensures;
      kept =
          kept-given (memory c.args.tables.now c.args.lengths.now c.args.res.now) (get_or c.args.s.now 0 0) a _ _ _ _ _ c.byte.ensures.is g x.bytes
          c.keep.ensures.0 c.keep.ensures.1;
    }
