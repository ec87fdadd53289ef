use Rattle.std.proofs.Common.{[], take, take_all, refl, sym, ap, arith}
use Rattle.model.specs.Lists.{concat_map}
use Rattle.records.proofs.Emitting.{emitted-of, emitted-none, emitted-more, emitted-next, division_bytes, constraint_bytes, encode-basic}
use Rattle.records.proofs.writing.encode_basic.Goals as goal

pub loop-e-init : goal.loop-e-init
loop-e-init c = record { near = omega arith; bytes = emitted-none _ _ }

pub loop-e-preserved : goal.loop-e-preserved
loop-e-preserved c =
    let v = c.loop-e.invariant in let s = c.emit_division-p.ensures.size in
    record {
      near = omega arith;
      bytes = emitted-next division_bytes (take c.args.b.divs c.args.b.divisions) _ c.loop-e.e-index [] _ c.loop-e-test.true refl v.bytes c.emit_division-p.ensures.bytes;
    }

pub loop-r-init : goal.loop-r-init
loop-r-init c = record { near = omega arith; bytes = emitted-none _ _ }

pub loop-r-preserved : goal.loop-r-preserved
loop-r-preserved c =
    let v = c.loop-r.invariant in let s = c.emit_constraint-p.ensures.size in
    record {
      near = omega arith;
      bytes = emitted-next constraint_bytes (take c.args.b.cons c.args.b.constraints) _ c.loop-r.r-index [] _ c.loop-r-test.true refl v.bytes c.emit_constraint-p.ensures.bytes;
    }

pub returns : goal.returns
returns c =
    let b = c.args.b in
    let x = emitted-of (ap (concat_map division_bytes) (take_all c.loop-e.e-index (take b.divs b.divisions) c.loop-e-test.false)) c.loop-e.invariant.bytes in
    let y = emitted-of (ap (concat_map constraint_bytes) (take_all c.loop-r.r-index (take b.cons b.constraints) c.loop-r-test.false)) c.loop-r.invariant.bytes in
    emitted-of (sym (encode-basic b)) (emitted-more (emitted-more c.emit_opening-p.ensures x) y)
