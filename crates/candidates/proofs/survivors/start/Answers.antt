use Rattle.std.proofs.Common.{◌≡◌, ◌<◌, ◌+◌, ◌-◌, ◌*◌, ◌∙◌, ℕ, sym, ap, subst, length, get_or, take, arith}
use Rattle.std.proofs.Math.Seq.{length-take-le, get_or-take}
use Rattle.model.specs.declared.Constraint.{Constraint as StoredConstraint}
use Rattle.joining.proofs.Placing.{no_constraint}
use Rattle.sharing.specs.Working.{Grown}
use Rattle.candidates.proofs.Catching.{behind-start, behind-end, behind-growing, behind-grown, bounds-are}
use Rattle.candidates.proofs.survivors.start.Goals as goal

pub loop-c-init : goal.loop-c-init
loop-c-init c = let v = c.requires.valid in let n = c.begin-x.ensures.size ∙ bounds-are v in (behind-start v c.begin-x.ensures, omega (arith, n))

pub grow-x-requires : goal.grow-x-requires
grow-x-requires c =
    let v = c.requires.valid in
    let few = v.cons in
    let l = v.constraints in
    let i = c.loop-c.invariant in
    let n = length-take-le c.args.w.cons c.args.w.constraints (omega arith) in
    behind-growing v i.0 (omega (arith, n, i.1, c.loop-c-test.true))

pub loop-c-preserved : goal.loop-c-preserved
loop-c-preserved c =
    let v = c.requires.valid in
    let w = c.args.w in
    let few = v.cons in
    let l = v.constraints in
    let i = c.loop-c.invariant in
    let n = length-take-le w.cons w.constraints (omega arith) in
    let h : c.loop-c.c-index < w.cons = omega (arith, n, c.loop-c-test.true) in
    let e : c.loop-c.x.rows - 2 * w.divs ≡ c.loop-c.c-index = omega (arith, i.1) in
    let r : get_or (take w.cons w.constraints) c.loop-c.c-index no_constraint ≡ get_or w.constraints (c.loop-c.x.rows - 2 * w.divs) no_constraint =
    get_or-take w.cons w.constraints c.loop-c.c-index no_constraint h ∙ ap (λ (k : ℕ). get_or w.constraints k no_constraint) (sym e) in
    let g = behind-grown v i.0 (omega (arith, i.1)) (subst (λ (y : StoredConstraint). Grown w.divs y c.loop-c.x c.loop-c.rows c.loop-c.place c.loop-c.kinds c.loop-c.past c.loop-c.columns c.grow-x.result c.grow-x.new.rows c.grow-x.new.place c.grow-x.new.kinds c.grow-x.new.past c.grow-x.new.columns) r c.grow-x.ensures) in
    (g.0, omega (arith, g.1, i.1))
