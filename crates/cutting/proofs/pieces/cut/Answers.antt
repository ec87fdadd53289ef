use Rattle.std.proofs.Common.{◌≡◌, ◌∙◌, sym, ap, subst, Bool, ◌&&◌, cond, [], ◌+◌, ◌-◌, ◌<◌, length, rules, arith}
use Rattle.std.proofs.Math.ListN.{length-set}
use Rattle.model.specs.Values.{constraint_of, basic_set_of}
use Rattle.algebra.specs.Tighten.{void}
use Rattle.candidates.specs.Candidates.{Keeping}
use Rattle.candidates.proofs.Catching.{opposed, behind-end, caught-all, caught-behind, caught-holds, caught-growing}
use Rattle.cutting.proofs.Steps.{passed_on}
use Rattle.cutting.proofs.Turns.{unjoined, opened-placed, opened-start}
use Rattle.cutting.proofs.Turns.{opened-full, opened-end, opened-turning, opened-next}
use Rattle.cutting.proofs.Following.{opened, turned, behind-followed}
use Rattle.cutting.proofs.pieces.cut.Goals as goal
use Rattle.cutting.proofs.pieces.cut.Goals.{in-Some, in-None}

-- over 8 divisions
pub returns-in_err-divisions : goal.returns-in_err-divisions
returns-in_err-divisions c = rw c.from_residual.ensures (unjoined c.in_err-divisions.ensures)

pub loop-k-init : goal.loop-k-init
loop-k-init c =
    let la : length c.args.a.constraints ≡ 48 = search rules in
    let lc : length c.args.c.constraints ≡ 48 = search rules in
    let p = c.requires.0 in
    let j = c.in_ok-divisions.ensures in
    let h = c.start-h in (
      opened-start (opened p j la lc) h.new.rows h.new.place h.new.kinds,
      caught-behind h.ensures j.few p.cons,
      λ z. caught-all h.ensures,
      la,
    )

-- a candidate over 48
pub returns-then-at-eq-CONSTRAINTS : goal.returns-then-at-eq-CONSTRAINTS
returns-then-at-eq-CONSTRAINTS c =
    let la : length c.args.a.constraints ≡ 48 = search rules in
    let lc : length c.args.c.constraints ≡ 48 = search rules in
    opened-full (opened c.requires.0 c.in_ok-divisions.ensures la lc) c.loop-k.invariant.0 c.loop-k-test.true c.if-at-eq-CONSTRAINTS.true

pub returns : goal.returns
returns c =
    let la : length c.args.a.constraints ≡ 48 = search rules in
    let lc : length c.args.c.constraints ≡ 48 = search rules in
    opened-end (opened c.requires.0 c.in_ok-divisions.ensures la lc) c.loop-k.invariant.0 c.loop-k-test.false

pub joining_rule-r-requires : goal.joining_rule-r-requires
joining_rule-r-requires c =
    let la : length c.args.a.constraints ≡ 48 = search rules in
    let lc : length c.args.c.constraints ≡ 48 = search rules in
    (c.requires.0.divs', opened-placed (opened {steps = []} c.requires.0 c.in_ok-divisions.ensures la lc))

pub kept-requires-clause-growing : goal.kept-requires-clause-growing
kept-requires-clause-growing c =
    let i = c.loop-k.invariant in
    let g = behind-end i.1 (i.2 c.loop-k-test.true) in
    caught-growing g i.1.divs (omega (arith, i.1.cons, c.if-at-eq-CONSTRAINTS.false))

pub kept-requires-clause-opposed : goal.kept-requires-clause-opposed
kept-requires-clause-opposed c =
    let la : length c.args.a.constraints ≡ 48 = search rules in
    let lc : length c.args.c.constraints ≡ 48 = search rules in
    let t = opened-turning (opened c.requires.0 c.in_ok-divisions.ensures la lc) c.loop-k.invariant.0 c.loop-k-test.true c.if-at-eq-CONSTRAINTS.false c.joining_rule-r.ensures in
    (opposed t.extending.n _ c.joining_rule-r.result t.settled t.extending.new, c.loop-k.auto.spare ∙ c.requires.2.high)

pub kept_alone-x-requires : goal.kept_alone-x-requires
kept_alone-x-requires c =
    let la : length c.args.a.constraints ≡ 48 = search rules in
    let lc : length c.args.c.constraints ≡ 48 = search rules in
    let t = opened-turning (opened c.requires.0 c.in_ok-divisions.ensures la lc) c.loop-k.invariant.0 c.loop-k-test.true c.if-at-eq-CONSTRAINTS.false c.joining_rule-r.ensures in
    let e = t.extending in
    (record { divs = e.divs; cons = e.cons }, opposed e.n _ c.joining_rule-r.result t.settled e.new, c.kept.auto.spare ∙ c.loop-k.auto.spare ∙ c.requires.2.high)

pub loop-k-smaller : goal.loop-k-smaller
loop-k-smaller c = let p = passed_on _ _ _ _ c.loop-k-test.true c.passed-k.ensures in omega (arith, p.0, p.1)

pub loop-k-preserved : goal.loop-k-preserved
loop-k-preserved c =
    let la : length c.args.a.constraints ≡ 48 = search rules in
    let lc : length c.args.c.constraints ≡ 48 = search rules in
    let i = c.loop-k.invariant in
    let w = c.loop-k.w in
    let r = c.joining_rule-r.result in
    let o = opened c.requires.0 c.in_ok-divisions.ensures la lc in
    let v = (opened-turning o i.0 c.loop-k-test.true c.if-at-eq-CONSTRAINTS.false c.joining_rule-r.ensures).extending in
    let g = behind-end i.1 (i.2 c.loop-k-test.true) in
    let j : Keeping (basic_set_of w) (constraint_of r) c.match-kept.x =
    elim c.match-kept.branch [
      | in-Some y ↦ subst (Keeping (basic_set_of w) (constraint_of r)) (sym y.x-is) (y.in-Some.ensures.is (basic_set_of w) (caught-holds g))
      | in-None y ↦ subst (Keeping (basic_set_of w) (constraint_of r)) (sym y.x-is) y.kept_alone-x.ensures
    ] in
    let q : c.from.result ≡ cond c.either-on.result 1 0 = search rules in
    let room = v.cons in
    let lw = i.3 in
    let t = turned (omega (arith, room, lw)) j c.mark-count.ensures c.either-on.result c.either-on.ensures c.from.result q in
    let f = behind-followed t g v.divs v.cons c.either-on.result c.either-on.ensures (c.args.c.cons - c.passed-k.result) c.follow-h.ensures in (
      opened-next o i.0 c.loop-k-test.true c.if-at-eq-CONSTRAINTS.false c.joining_rule-r.ensures t c.passed-k.result
          (c.passed-k.ensures ∙ ap (λ (b : Bool). cond (b && void (constraint_of r)) c.args.c.cons (c.loop-k.k + 1)) c.either-on.ensures)
          c.follow-h.new.rows c.follow-h.new.place c.follow-h.new.kinds c.follow-h.auto.rows c.follow-h.auto.place c.follow-h.auto.kinds,
      f.0,
      λ y. f.1 (omega arith),
      length-set w.constraints w.cons r ∙ lw,
    )
