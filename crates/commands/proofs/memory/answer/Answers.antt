use Rattle.std.proofs.Common.{◌≢◌, arith, refl}
use Rattle.session.proofs.Commands.{number-good}
use Rattle.commands.proofs.Answers.{result-same, answer-load, answer-complement, answer-union, answer-intersection, answer-difference, two-numbers, three-numbers, is-difference}
use Rattle.commands.proofs.memory.answer.Goals as goal

pub returns-then-b-eq64 : goal.returns-then-b-eq64
returns-then-b-eq64 c =
    result-same refl (answer-load c.args.n c.args.tables.now c.args.lengths.now c.args.b c.args.s.now _ c.if-b-eq64.true c.tail.ensures)
    c.load.ensures

pub returns-then-b-eq68 : goal.returns-then-b-eq68
returns-then-b-eq68 c =
    let g = number-good _ 1 c.args.s.now c.requires.1.good (two-numbers _ c.requires.2 c.if-b-eq64.false) in
    result-same c.requires.3
    (answer-complement c.args.n c.args.tables.now c.args.lengths.now c.args.b c.args.s.now _ c.byte.result _ c.requires.3 c.byte.ensures.is g
    c.table-first.ensures c.if-b-eq68.true)
    c.complement.ensures

pub returns-in-65 : goal.returns-in-65
returns-in-65 c =
    let g = number-good _ 1 c.args.s.now c.requires.1.good (two-numbers _ c.requires.2 c.if-b-eq64.false) in
    let h = number-good _ 2 c.args.s.now c.requires.1.good (three-numbers _ c.requires.2 c.if-b-eq64.false c.if-b-eq68.false) in
    result-same c.requires.3
    (answer-union c.args.n c.args.tables.now c.args.lengths.now c.args.b c.args.s.now _ c.byte.result _ c.requires.3 c.byte.ensures.is g
    c.table-first.ensures c.byte-2.result _ c.byte-2.ensures.is h c.table-second.ensures c.in-65.is)
    c.union.ensures

pub returns-in-66 : goal.returns-in-66
returns-in-66 c =
    let g = number-good _ 1 c.args.s.now c.requires.1.good (two-numbers _ c.requires.2 c.if-b-eq64.false) in
    let h = number-good _ 2 c.args.s.now c.requires.1.good (three-numbers _ c.requires.2 c.if-b-eq64.false c.if-b-eq68.false) in
    result-same c.requires.3
    (answer-intersection c.args.n c.args.tables.now c.args.lengths.now c.args.b c.args.s.now _ c.byte.result _ c.requires.3 c.byte.ensures.is g
    c.table-first.ensures c.byte-2.result _ c.byte-2.ensures.is h c.table-second.ensures c.in-66.is)
    c.intersection.ensures

pub returns-in_default : goal.returns-in_default
returns-in_default c =
    let g = number-good _ 1 c.args.s.now c.requires.1.good (two-numbers _ c.requires.2 c.if-b-eq64.false) in
    let h = number-good _ 2 c.args.s.now c.requires.1.good (three-numbers _ c.requires.2 c.if-b-eq64.false c.if-b-eq68.false) in
    let u : c.args.b ≢ 0x41 = omega arith in
    let i : c.args.b ≢ 0x42 = omega arith in
    result-same c.requires.3
    (answer-difference c.args.n c.args.tables.now c.args.lengths.now c.args.b c.args.s.now _ c.byte.result _ c.requires.3 c.byte.ensures.is g
    c.table-first.ensures c.byte-2.result _ c.byte-2.ensures.is h c.table-second.ensures
    (is-difference _ c.requires.2 c.if-b-eq64.false c.if-b-eq68.false u i))
    c.difference.ensures
