-- Each table's part is copied as the definition says it.
use Rattle.std.proofs.Common.{◌≡◌, ℕ, ◌+◌, ◌-◌, ◌*◌, ap, ◌∙◌, arith}
use Rattle.memory.specs.Memory.{memory, used_in, copied}
use Rattle.memory.proofs.Copies.{memory-is}
use Rattle.memory.proofs.slots.copy_slot.Goals as goal

pub returns : goal.returns
returns c =
    let from = c.args.from in
    let to = c.args.to in
    let used : 64 * from + c.min-used.result - 64 * from ≡ used_in from (memory c.args.rows.now c.args.place.now c.args.kinds.now c.args.heads.now) = omega arith in
    let places : 80 * from + 80 - 80 * from ≡ 80 = omega arith in
    let head : 5 * from + 5 - 5 * from ≡ 5 = omega arith in
    memory-is
    (c.copy_within.ensures.after ∙ ap (λ (n : ℕ). copied n (64 * from) (64 * to) c.args.rows.now) used)
    (c.copy_within-2.ensures.after ∙ ap (λ (n : ℕ). copied n (80 * from) (80 * to) c.args.place.now) places)
    (c.copy_within-3.ensures.after ∙ ap (λ (n : ℕ). copied n (80 * from) (80 * to) c.args.kinds.now) places)
    (c.copy_within-4.ensures.after ∙ ap (λ (n : ℕ). copied n (5 * from) (5 * to) c.args.heads.now) head)
