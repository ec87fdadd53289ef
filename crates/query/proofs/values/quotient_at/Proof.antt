use native.Mathlib.Omega.{arith}
use mathlib.Core.Path.{◌≡◌, sym, ap₂, ◌∙◌, subst}
use Prim.Native.Nat.{◌*◌, ◌≤◌}
use lib.Dec.{lt→ltb}
use lib.IntN.{ℤ, nat_abs, ◌+ℤ◌}
use mir.Syntax.{w64}
use mir.Val.{to_z, of_z}
use Rattle.integers.specs.Z.{Within}
use Rattle.integers.specs.Mach.{to_z_of_z, to_z-nat, result_is}
use Rattle.model.specs.Sets.{dot, floor_div, quotient}
use Rattle.codec.specs.Bytes.{constant_in, axes_in, read_division}
use Rattle.bounds.proofs.Reading.{all-mono, floor-within}
use Rattle.query.proofs.Reading.{sum_fits, sum-within}
use borrow.Author.Rules.{rules}
use Rattle.query.proofs.values.quotient_at.Statement.{statement}
use Rattle.query.proofs.values.quotient_at.Tie as tie

s32-at-requires : tie.Need-s32_at-requires
s32-at-requires c κs = search rules

dot-at-requires : tie.Need-dot_at-requires
dot-at-requires c κs = let st = c.before.before in
    let h : 1048576 ≤ 549755813888 = omega arith in (st.requires.0, st.requires.1, all-mono h st.requires.2)

add-c : tie.Need-overflow_add-c
add-c c = let st = c.before.before.before in rw (result_is w64 c.before.s32_at.result c.before.s32_at.type_inv, result_is w64 c.dot_at.result c.dot_at.type_inv) (sum_fits c.before.s32_at.ensures.1 (c.dot_at.ensures.1 1048576 st.requires.2))

cast-floor-div : tie.Need-overflow_cast-d
cast-floor-div c = search rules

floor-div-requires : tie.Need-floor_div-requires
floor-div-requires c κs = let st = c.before.before.before in
    let d = st.args.d in rw (to_z-nat w64 d 4294967296 st.requires.4 tt) (record { lt = lt→ltb 0 d st.requires.3 })

returns : tie.Need-returns
returns c =
    let a = c.before in
    let s = a.before in
    let st = s.before.before in
    let t = st.args.t.now in
    let x = st.args.x.now in
    let d = st.args.d in
    let n : ℤ = constant_in t +ℤ dot (axes_in t) x in
    let v : to_z w64 (of_z w64 (to_z w64 (of_z w64 s.s32_at.result) +ℤ to_z w64 (of_z w64 a.dot_at.result))) ≡ n = to_z_of_z (add-c a) ∙ ap₂ ◌+ℤ◌ (result_is w64 s.s32_at.result s.s32_at.type_inv ∙ s.s32_at.ensures.0) (result_is w64 a.dot_at.result a.dot_at.type_inv ∙ a.dot_at.ensures.0) in
    let e : to_z w64 (of_z w64 c.floor_div.result) ≡ quotient x (read_division d t) = result_is w64 c.floor_div.result c.floor_div.type_inv ∙ c.floor_div.ensures ∙ ap₂ (λ (z w : ℤ). floor_div z (nat_abs w)) v (to_z-nat w64 d 4294967296 st.requires.4 tt) in
    let hn : Within 549755813888 n = sum-within (subst (Within 2147483648) s.s32_at.ensures.0 s.s32_at.ensures.1) (subst (Within (8 * (32768 * 1048576))) a.dot_at.ensures.0 (a.dot_at.ensures.1 1048576 st.requires.2)) in
    (e, subst (Within 549755813888) (sym e) (floor-within 549755813888 n d hn))

pub quotient_at_spec : {M : Type 1} → statement M
quotient_at_spec =
    tie.close
    (tie.spec
    s32-at-requires
    dot-at-requires
    add-c
    cast-floor-div
    floor-div-requires
    returns)
