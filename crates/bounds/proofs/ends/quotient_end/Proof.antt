use mathlib.Core.Path.{ap, ap₂, sym, ◌∙◌, subst}
use lib.Dec.{lt→ltb}
use lib.IntN.{ℤ, nat_abs, ◌+ℤ◌}
use mir.Syntax.{w64}
use Rattle.integers.specs.Z.{Within}
use Rattle.integers.specs.Mach.{to_z-nat, result_is}
use Rattle.model.specs.Sets.{floor_div}
use Rattle.codec.specs.Bytes.{constant_in, axes_in}
use Rattle.bounds.proofs.Reading.{floor-within}
use Rattle.bounds.proofs.Moves.{gain-back}
use borrow.Author.Rules.{rules}
use Rattle.bounds.proofs.ends.quotient_end.Statement.{statement}
use Rattle.bounds.proofs.ends.quotient_end.Tie as tie

end-at-requires : tie.Need-end_at-e-requires
end-at-requires c κs = search rules

cast-floor-div : tie.Need-overflow_cast-d
cast-floor-div c = search rules

floor-div-requires : tie.Need-floor_div-requires
floor-div-requires c κs =
    let st = c.before.before in let d = st.args.d in
    rw (to_z-nat w64 d 4294967296 st.requires.2 tt) (record { lt = lt→ltb 0 d st.requires.1 })

returns : tie.Need-returns
returns c =
    let x = c.before in let st = x.before.before in let a = st.args in let t = a.t.now in
    let e = result_is w64 c.floor_div.result c.floor_div.type_inv ∙ c.floor_div.ensures
    ∙ ap₂ (λ (z w : ℤ). floor_div z (nat_abs w)) (result_is w64 x.end_at-e.result x.end_at-e.type_inv) (to_z-nat w64 a.d 4294967296 st.requires.2 tt) in
    (e ∙ ap (λ (z : ℤ). floor_div z a.d) (x.end_at-e.ensures.0 ∙ ap (λ (z : ℤ). constant_in t +ℤ z) (gain-back a.k (axes_in t) st.ranges.z st.ranges.from st.ranges.to)), subst (Within 549755813888) (sym e) (floor-within 549755813888 x.end_at-e.result a.d x.end_at-e.ensures.1))

pub quotient_end_spec : {M : Type 1} → statement M
quotient_end_spec = tie.close (tie.spec end-at-requires cast-floor-div floor-div-requires returns)
