use Rattle.std.proofs.Common.{◌≡◌, subst, arith}
use Rattle.simplex.specs.Table.{Ruled}
use Rattle.simplex.proofs.Fills.{ruled-more}
use Rattle.simplex.proofs.Filled.{filled-first}
use Rattle.simplex.proofs.fill.fill.Goals as goal

pub loop-i-preserved : goal.loop-i-preserved
loop-i-preserved c =
    let v = c.requires.valid in
    let few = v.divs in
    let room = v.cons in
    ruled-more c.args.b c.loop-i.i _ c.fill_bounds.new.rows c.loop-i.rows c.name_variables.new.kinds c.loop-i.kinds _ _
    (omega (arith, v.constraints)) (omega arith) (omega arith) c.constraint_row.ensures c.kind_of.ensures c.loop-i.invariant

pub returns : goal.returns
returns c =
    let b = c.args.b in
    let all : c.loop-i.i ≡ b.cons = omega arith in
    filled-first b c.args.rows.now c.loop-i.rows c.args.place.now c.name_variables.new.place c.args.kinds.now c.loop-i.kinds
    (record {
      valid = c.requires.valid;
      rows₁ = c.fill_bounds.new.rows;
      kinds₁ = c.name_variables.new.kinds;
      named = c.name_variables.ensures;
      bounded = c.fill_bounds.ensures;
      ruled = subst (λ n. Ruled b n c.fill_bounds.new.rows c.loop-i.rows c.name_variables.new.kinds c.loop-i.kinds) all c.loop-i.invariant;
    })
