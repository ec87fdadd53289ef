-- The marks counted are those that the definition counts one by one.
use Rattle.std.proofs.Common.{◌≡◌, eqb, not, count_by, sym, ◌∙◌, arith, rules}
use Rattle.std.proofs.lemmas.Grind.{common_steps}
use Rattle.memory.proofs.Counts.{marks-count}
use Rattle.memory.proofs.ranks.marks.Goals as goal

pub returns : goal.returns
returns c =
    let counted : c.count.result ≡ count_by (λ x. not (eqb x 0)) c.args.ranks.now = search rules in
    (counted ∙ sym (marks-count c.args.ranks.now), grind (arith, common_steps))
