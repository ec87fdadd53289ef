use Rattle.std.proofs.Common.{◌+◌, get_or, drop, sym, ap, ◌∙◌, arith}
use Rattle.codec.specs.Bytes.{is_opening}
use Rattle.listing.proofs.Writing.{writes-same}
use Rattle.session.proofs.Turning.{line-basic}
use Rattle.script.proofs.turns.line.Goals as goal

pub returns-then-is_opening : goal.returns-then-is_opening
returns-then-is_opening c =
    let a = c.args in let k = a.c in let s = a.s.now in
    let e = ap is_opening (sym c.code-b.ensures) ∙ sym c.if-is_opening.ensures in
    let l = line-basic a.axes k (get_or s k.place 0) (drop (k.place + 1) s) e in
    writes-same (omega arith) l c.counted_line.ensures
