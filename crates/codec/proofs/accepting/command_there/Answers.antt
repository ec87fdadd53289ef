use Rattle.std.proofs.Common.{◌≡◌, ◌+◌, ℕ, sym, ap, ◌∙◌, arith}
use mathlib.Core.Logic.{inr}
use borrow.Author.Tests.{eqb-false, not-true}
use Rattle.model.specs.Sets.{equality}
use Rattle.codec.specs.Bytes.{signed, constant_fits}
use Rattle.codec.proofs.Parsing.{equality-yes}
use Rattle.codec.proofs.accepting.command_there.Goals as goal

pub returns-then-s-at-3 : goal.returns-then-s-at-3
returns-then-s-at-3 c z =
    let u = c.u32_at.ensures in let i : c.args.at + c.args.head + 0 ≡ c.args.at + c.args.head = omega arith in
    let fits = equality-yes c.u32_at.result u.small (eqb-false _ _ (not-true _ z)) in
    record {
      inside = omega arith;
      command = inr (c.if-s-at-3.true, ap (λ (v : ℕ). constant_fits equality (signed 4 v)) (sym (rw i at u.is)) ∙ fits);
    }
