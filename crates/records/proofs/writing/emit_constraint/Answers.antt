use Rattle.std.proofs.Common.{◌≡◌, ℕ, length, take, ap, ◌∙◌, arith}
use Rattle.records.proofs.Emitting.{emitted-of, constraint_bytes, put_front}
use Rattle.records.proofs.writing.emit_constraint.Goals as goal

pub returns-clause-bytes : goal.returns-clause-bytes
returns-clause-bytes c =
    let r = c.args.r in let p = c.put_constraint-n.ensures in let x = p.bytes.ends in let y = p.size in
    let n : c.put_constraint-n.result ≡ length (constraint_bytes r) = omega arith in
    let l : take c.put_constraint-n.result c.put_constraint-n.new.out ≡ constraint_bytes r =
    ap (λ (k : ℕ). take k c.put_constraint-n.new.out) n ∙ ap (take (length (constraint_bytes r))) p.bytes.bytes ∙ put_front (constraint_bytes r) _ (omega arith) in
    emitted-of l c.copy_bytes.ensures
