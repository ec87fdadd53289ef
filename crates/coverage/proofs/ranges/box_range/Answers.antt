use Rattle.std.proofs.Common.{◌≡◌, length, arith, rules}
use Rattle.std.proofs.lemmas.Result.{err_from_is_err_and}
use Rattle.codec.proofs.Valid.{bytes_of}
use Rattle.coverage.proofs.Calling.{taken-bytes, taken-table}
use Rattle.coverage.proofs.Told.{told-refused, told_over, told-given}
use Rattle.coverage.proofs.ranges.box_range.Goals as goal

pub taken-requires : goal.taken-requires
taken-requires c = c.in-Ok.ensures.boxed

pub returns-in_err-l-in-Ok : goal.returns-in_err-l-in-Ok
returns-in_err-l-in-Ok c =
    let a = c.args in let p = err_from_is_err_and c.from_residual.result c.from_residual.ensures.1 in
    rw (p.1, p.2) (told_over a.n a.set.now a.lows a.highs a.inside a.outside (length a.out.now) c.in-Ok.ensures _ _ c.in_err-l-in-Ok.ensures)

pub searched-requires : goal.searched-requires
searched-requires c =
    let a = c.args in let q = c.in-Ok.ensures in
    let l : length a.lows ≡ 8 = search rules in let h : length a.highs ≡ 8 = search rules in
    (q, taken-table a.n a.set.now a.lows a.highs q.boxed (length a.out.now) _ _ c.in_ok-l-in-Ok.ensures (bytes_of a.set.now (λ i. omega (arith, c.type_inv.set i))) l h)

pub returns-in_ok-l-in-Ok : goal.returns-in_ok-l-in-Ok
returns-in_ok-l-in-Ok c =
    let a = c.args in let q = c.in-Ok.ensures in
    told-given a.n a.set.now a.lows a.highs a.inside a.outside (length a.out.now) q _ _ _
    (taken-bytes a.n a.set.now a.lows a.highs q.boxed (length a.out.now) _ _ c.in_ok-l-in-Ok.ensures) c.in_ok-l-in-Ok.ensures.bytes c.searched.ensures

pub returns-in-Err : goal.returns-in-Err
returns-in-Err c =
    let a = c.args in
    told-refused a.n a.set.now a.lows a.highs a.inside a.outside (length a.out.now) c.in-Err.refusal _ (c.in-Err.ensures (length a.out.now)) (c.fill.ensures.after (λ y e. e))
