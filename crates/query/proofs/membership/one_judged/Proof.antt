use mathlib.Core.Path.{sym, ap₂, ◌∙◌, subst}
use mathlib.Core.Bool.{Bool, ◌&&◌}
use mathlib.Core.List.{List}
use native.Mathlib.Omega.{arith}
use borrow.Author.Rules.{rules}
use Prim.Native.Nat.{ℕ, ◌≤◌}
use lib.IntN.{pos}
use lib.ListN.{length}
use Rattle.model.specs.Sets as M
use Rattle.codec.specs.Bytes.{constraint_body, read_constraint, kind_of}
use Rattle.codec.proofs.Standing.{ConstraintAt}
use Rattle.query.specs.Holding.{Judging}
use Rattle.query.proofs.Holding.{judging-at, judging-next}
use Rattle.query.proofs.membership.one_judged.Statement.{statement}
use Rattle.query.proofs.membership.one_judged.Tie as tie

module _ (st : tie.Start) where
  abbrev ok : M.Constraint → Bool
  ok = M.holds (pos 1) st.args.x.now st.args.q.now

  here : ConstraintAt st.requires.0.n st.args.s.now st.args.at st.requires.0.k
  here = judging-at st.args.s.now st.args.at ok st.requires.0 st.requires.1

code-requires : tie.Need-code-b-requires
code-requires c κs = search rules

body-requires : tie.Need-body-t-requires
body-requires c κs = (here c.before.before).whole

still-requires : tie.Need-still-holds-requires
still-requires c κs =
    let st = c.before.before.before in
    (subst (λ (t : List ℕ). constraint_body ≤ length t) (sym c.body-t.ensures) (here st).body, st.requires.2, st.requires.3)

next-requires : tie.Need-next-next-requires
next-requires c κs = (here c.before.before.before.before).whole

returns : tie.Need-returns
returns c =
    let v = c.before in let b = v.before in let e = b.before in let st = e.before.before in let a = st.args in let w = (here st).whole.known in (
      omega (arith, c.next-next.ensures),
      subst (λ (p : ℕ). Judging a.s.now a.at (ok st) a.so p v.still-holds.result) (sym c.next-next.ensures)
          (judging-next a.s.now a.at (ok st) st.requires.0 st.requires.1 a.so v.still-holds.result
          (v.still-holds.ensures ∙ ap₂ (λ (b : ℕ) (u : List ℕ). a.so && ok st (read_constraint (kind_of b) u)) e.code-b.ensures b.body-t.ensures)),
    )

pub one_judged_spec : {M : Type 1} → statement M
one_judged_spec = tie.close (tie.spec code-requires body-requires still-requires next-requires returns)
