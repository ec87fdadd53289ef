use Rattle.std.proofs.Common.{◌≤◌, ℕ, List, length, arith, sym, subst}
use Rattle.integers.specs.Size.{within-mono}
use Rattle.codec.specs.Bytes.{constraint_body}
use Rattle.bounds.proofs.Bounds.{ends-mono}
use Rattle.bounds.proofs.Extremes.{back-within}
use Rattle.runs.proofs.guesses.guess.Goals as goal

pub end_at-f-requires : goal.end_at-f-requires
end_at-f-requires c =
    let long : constraint_body ≤ length c.body-t.result.now = subst (λ (t : List ℕ). constraint_body ≤ length t) (sym c.body-t.ensures) c.requires.3.body in
    let p = c.requires.2 in (
      omega arith,
      record { axis = p.axis; from_size = back-within (omega arith) p.from_size; to_size = back-within (omega arith) p.to_size },
      back-within (omega arith) (c.requires.0.least c.args.i c.requires.3.few),
    )

pub extreme-low-requires : goal.extreme-low-requires
extreme-low-requires c = (
  subst (λ (t : List ℕ). constraint_body ≤ length t) (sym c.body-t.ensures) c.requires.3.body,
  ends-mono (omega arith) c.requires.1,
  back-within (omega arith) (within-mono (omega arith) c.end_at-f.ensures.size),
)
