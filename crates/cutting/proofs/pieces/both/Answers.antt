use Rattle.std.proofs.Common.{◌≡◌, length, rules, arith}
use Rattle.cutting.proofs.Turns.{both-unjoined, placed-is, gathered-start, gathered-more, both-over, both_end}
use Rattle.cutting.proofs.pieces.both.Goals as goal

-- over 8 divisions
pub returns-in_err-divisions : goal.returns-in_err-divisions
returns-in_err-divisions c = rw c.from_residual.ensures (both-unjoined c.in_err-divisions.ensures)

-- over 48 constraints
pub returns-then-a-c-gt-CONSTRAINTS : goal.returns-then-a-c-gt-CONSTRAINTS
returns-then-a-c-gt-CONSTRAINTS c =
    let la : length c.args.a.constraints ≡ 48 = search rules in
    let lc : length c.args.c.constraints ≡ 48 = search rules in
    both-over _ _ _ c.requires c.in_ok-divisions.ensures la lc c.if-a-c-gt-CONSTRAINTS.true

pub loop-k-init : goal.loop-k-init
loop-k-init c =
    let la : length c.args.a.constraints ≡ 48 = search rules in
    let lc : length c.args.c.constraints ≡ 48 = search rules in
    gathered-start _ _ _ c.requires c.in_ok-divisions.ensures la lc

pub moved-requires : goal.moved-requires
moved-requires c =
    let la : length c.args.a.constraints ≡ 48 = search rules in
    let lc : length c.args.c.constraints ≡ 48 = search rules in
    (c.requires.divs', placed-is _ _ _ c.requires c.in_ok-divisions.ensures la lc)

pub loop-k-preserved : goal.loop-k-preserved
loop-k-preserved c =
    let la : length c.args.a.constraints ≡ 48 = search rules in
    let lc : length c.args.c.constraints ≡ 48 = search rules in
    gathered-more c.args.a c.args.c c.in_ok-divisions.field-0 c.requires c.in_ok-divisions.ensures la lc c.loop-k.k c.loop-k.set.constraints c.loop-k.invariant c.loop-k-test.true c.if-a-c-gt-CONSTRAINTS.false c.moved.result c.moved.ensures

pub returns : goal.returns
returns c =
    let la : length c.args.a.constraints ≡ 48 = search rules in
    let lc : length c.args.c.constraints ≡ 48 = search rules in
    let k = c.loop-k in
    let all : k.k ≡ c.args.c.cons = omega (arith, k.auto.k-end, c.loop-k-test.false) in
    both_end _ _ _ c.requires c.in_ok-divisions.ensures la lc _ _ k.invariant all c.if-a-c-gt-CONSTRAINTS.false
