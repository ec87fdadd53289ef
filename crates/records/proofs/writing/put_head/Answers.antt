use Rattle.std.proofs.Common.{◌≡◌, List, ℕ, Bool, cond, [], ◌∷◌, sym, ap, ap₂, ◌∙◌, rules, ne_eqb}
use Rattle.model.specs.Values.{kind_is}
use Rattle.codec.specs.Bytes.{bytes_of, opcode, numbered_opcode}
use Rattle.records.proofs.Emitting.{emitted-of, emitted-more}
use Rattle.records.proofs.writing.put_head.Goals as goal
use Rattle.records.proofs.writing.put_head.Goals.{then-equality-2, else-equality-2}

pub returns-clause-bytes : goal.returns-clause-bytes
returns-clause-bytes c =
    let k = kind_is c.args.equality in let m = c.args.number in
    let of = λ (b : Bool). numbered_opcode (kind_is b) in
    let b : c.to_le_bytes.result ≡ bytes_of 2 m = search rules in
    let o : c.if-equality-2.command ≡ numbered_opcode k = elim c.if-equality-2.branch [ then-equality-2 w ↦ w.command-is ∙ ap of (sym w.if-equality-2.true) | else-equality-2 w ↦ w.command-is ∙ ap of (sym w.if-equality-2.false) ] in
    emitted-of
    (ap₂ (λ (x : ℕ) (l : List ℕ). x ∷ l) o b ∙ sym (ap (λ (x : Bool). cond x (opcode k ∷ []) (numbered_opcode k ∷ bytes_of 2 m)) (ne_eqb m 0 c.if-number-eq0.false)))
    (emitted-more c.put-p.ensures c.put-2.ensures)
