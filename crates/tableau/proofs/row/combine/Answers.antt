-- Place i is still what it was when its turn comes.
use Rattle.std.proofs.Common.{◌≡◌, refl, sym, ap, ◌∙◌, subst, drop, get_or, ◌+◌, pos, ◌-ℤ◌, ◌*ℤ◌, arith}
use mathlib.Core.Path.{ap₂}
use mir.Syntax.{w64}
use mir.Val.{to_z, of_z}
use mir.Facts.{to_z-of_z}
use Rattle.integers.specs.Z.{Within}
use Rattle.integers.specs.Size.{bound}
use Rattle.tableau.specs.Rows.{combine_rows, divisor, divisor_from}
use Rattle.tableau.proofs.Lines.{up_to-none, up_to-more, up_to-next, up_to-combine, mul_sub, divisor-more, divisor-all, back, wider}
use Rattle.tableau.proofs.row.combine.Goals as goal

pub loop-i-init : goal.loop-i-init
loop-i-init c = record { combined = up_to-none _ _; divided = refl }

pub determinant-z-requires-clause-within : goal.determinant-z-requires-clause-within
determinant-z-requires-clause-within c =
    let i = c.loop-i.i in
    let x = c.requires.small i in
    let e = ap (λ r. get_or r i (pos 0)) c.loop-i.invariant.combined ∙ up_to-next _ i c.args.r.now (pos 0) in
    rw (e, back (wider x)) x

pub loop-i-preserved : goal.loop-i-preserved
unfolding mul_sub
loop-i-preserved c =
    let i = c.loop-i.i in
    let r = c.args.r.now in
    let q = c.args.q.now in
    let m = to_z w64 (of_z w64 c.args.m) in
    let b = to_z w64 (of_z w64 c.args.b) in
    let f = c.requires.line in
    let e : get_or c.loop-i.r i (pos 0) ≡ get_or r i (pos 0) = ap (λ t. get_or t i (pos 0)) c.loop-i.invariant.combined ∙ up_to-next _ i r (pos 0) in
    let x = back (wider (subst (Within (bound 64)) (sym e) (c.requires.small i))) in
    let y = back (wider (c.requires.small_2 i)) in
    let z = to_z-of_z {w = w64} (record { sfits = c.determinant-z.type_inv }) ∙ c.determinant-z.ensures ∙ ap₂ (λ x y. x *ℤ m -ℤ b *ℤ y) x y in
    record {
      combined = up_to-more (pos 0) (mul_sub m b q) i r c.loop-i.r _ (omega (arith, f.fit, f.long)) c.loop-i.invariant.combined z;
      divided =
          ap (λ g. divisor_from g (drop (i + 1) (combine_rows m b r q))) c.divisor_with-g.ensures
          ∙ divisor-more c.args.n m b r q f c.requires.line_2 i c.loop-i.g _ c.loop-i-test.true (z ∙ ap (λ x. x *ℤ m -ℤ b *ℤ get_or q i (pos 0)) e)
          ∙ c.loop-i.invariant.divided;
    }

pub returns : goal.returns
returns c =
    let n = c.args.n in
    let i = c.loop-i.i in
    let r = c.args.r.now in
    let q = c.args.q.now in
    let m = to_z w64 (of_z w64 c.args.m) in
    let b = to_z w64 (of_z w64 c.args.b) in
    let f = c.requires.line in
    let e = c.loop-i.invariant.combined ∙ up_to-combine m b n i r q f c.requires.line_2 (omega arith) (omega (arith, f.fit)) in (
      e ∙ ap₂ (λ m b. combine_rows m b r q) (to_z-of_z c.ranges.m) (to_z-of_z c.ranges.b),
      divisor-all n m b r q f c.requires.line_2 i c.loop-i.g (omega arith) c.loop-i.invariant.divided ∙ ap divisor (sym e),
    )
