use Rattle.std.proofs.Common.{◌+◌, ◌≤◌, ℕ, List, length, arith, sym, subst, subst₂, ◌∙◌}
use Rattle.codec.specs.Bytes.{division_body}
use Rattle.runs.specs.declared.guesses.Helper.{Helper}
use Rattle.runs.proofs.Helped.{Seeking, seeking-at, seeking-few, seeking-next}
use Rattle.runs.proofs.guesses.helping_division.Goals as goal

pub body-u-requires : goal.body-u-requires
body-u-requires c = (seeking-at c.args.s.now c.loop-u.at c.loop-u.j c.loop-u.g c.loop-u.invariant (sym c.division_at.ensures ∙ c.loop-u-test.true)).whole

pub overflow_mul-j : goal.overflow_mul-j
overflow_mul-j c = let few = seeking-few c.args.s.now c.loop-u.at c.loop-u.j c.loop-u.g c.loop-u.invariant (sym c.division_at.ensures ∙ c.loop-u-test.true) in omega arith

pub overflow_add-j : goal.overflow_add-j
overflow_add-j c = let few = seeking-few c.args.s.now c.loop-u.at c.loop-u.j c.loop-u.g c.loop-u.invariant (sym c.division_at.ensures ∙ c.loop-u-test.true) in omega arith

pub s16_at-a-requires : goal.s16_at-a-requires
s16_at-a-requires c =
    let few = seeking-few c.args.s.now c.loop-u.at c.loop-u.j c.loop-u.g c.loop-u.invariant (sym c.division_at.ensures ∙ c.loop-u-test.true) in omega (arith, c.requires.2)

pub s16_at-b-requires : goal.s16_at-b-requires
s16_at-b-requires c =
    let d = seeking-at c.args.s.now c.loop-u.at c.loop-u.j c.loop-u.g c.loop-u.invariant (sym c.division_at.ensures ∙ c.loop-u-test.true) in
    let long : division_body ≤ length c.body-u.result.now = subst (λ (u : List ℕ). division_body ≤ length u) (sym c.body-u.ensures) d.body in omega (arith, c.requires.1)

pub overflow_add-j-in-loop-u : goal.overflow_add-j-in-loop-u
overflow_add-j-in-loop-u c = let few = seeking-few c.args.s.now c.loop-u.at c.loop-u.j c.loop-u.g c.loop-u.invariant (sym c.division_at.ensures ∙ c.loop-u-test.true) in omega arith

pub next-at-requires : goal.next-at-requires
next-at-requires c = (seeking-at c.args.s.now c.loop-u.at c.loop-u.j c.loop-u.g c.loop-u.invariant (sym c.division_at.ensures ∙ c.loop-u-test.true)).whole

pub loop-u-smaller : goal.loop-u-smaller
loop-u-smaller c =
    let d = seeking-at c.args.s.now c.loop-u.at c.loop-u.j c.loop-u.g c.loop-u.invariant (sym c.division_at.ensures ∙ c.loop-u-test.true) in
    let r = d.whole.room in let w = d.whole.known in omega (arith, c.next-at.ensures)

pub loop-u-preserved : goal.loop-u-preserved
loop-u-preserved c =
    let d = seeking-at c.args.s.now c.loop-u.at c.loop-u.j c.loop-u.g c.loop-u.invariant (sym c.division_at.ensures ∙ c.loop-u-test.true) in
    subst₂ (λ (p : ℕ) (g : Helper). Seeking c.args.s.now p (c.loop-u.j + 1) g) (sym c.next-at.ensures) (sym c.noted-g.ensures)
    (seeking-next c.args.s.now c.loop-u.at c.loop-u.j c.loop-u.g c.division_helps.result c.loop-u.invariant d)
