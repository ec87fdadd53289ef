use mathlib.Core.Path.{◌≡◌, sym, ap, ap₂, ◌∙◌, subst}
use mathlib.Core.List.{List}
use native.Mathlib.Omega.{arith}
use borrow.Author.Rules.{rules}
use Prim.Native.Nat.{ℕ, ◌+◌, ◌≤◌, ◌<◌}
use lib.IntN.{ℤ, pos, ◌-ℤ◌}
use lib.ListN.{length, get_or}
use mir.Syntax.{w64}
use Rattle.integers.specs.Mach.{to_z_of_z, result_is}
use Rattle.integers.specs.Size.{within-fits}
use Rattle.model.specs.Sets.{Constraint}
use Rattle.codec.specs.Bytes.{constraint_body, read_constraint, kind_of}
use Rattle.codec.specs.Places.{body_at, constraint_at}
use Rattle.bounds.specs.Intervals.{can_meet, box_of}
use Rattle.bounds.specs.Ends.{meet_side, can_stand}
use Rattle.bounds.specs.Rows.{Loose}
use Rattle.bounds.proofs.Extremes.{back-within}
use Rattle.bounds.proofs.Sides.{row_loose}
use Rattle.bounds.proofs.Bounds.{settled-meets}
use Rattle.bounds.proofs.holding.can_stand.Statement.{statement}
use Rattle.bounds.proofs.holding.can_stand.Tie as tie

axis : (st : tie.Start) → st.args.k < 8
axis st = let a = st.requires.0.axis in let b = st.requires.1.few in omega arith

gap-requires : tie.Need-gap-from-requires
gap-requires c κs =
    let st = c.before in let p = st.requires in let a = axis st in
    (p.0.axis, p.1.lows, omega arith, p.0.row.places, p.0.row.lows st.args.k a)

gap-requires-2 : tie.Need-gap-to-requires
gap-requires-2 c κs =
    let st = c.before.before in let p = st.requires in let a = axis st in let q = p.1.same in let h = p.0.axis in
    (omega arith, p.1.highs, omega arith, p.0.row.places, p.0.row.highs st.args.k a)

code-requires : tie.Need-code-b-requires
code-requires c κs = search rules

body-requires : tie.Need-body-t-requires
body-requires c κs = c.before.before.before.before.requires.3.whole

mul-can-meet : tie.Need-offset_bounds-r-i
mul-can-meet c = search rules

element-copy-out-can-meet : tie.Need-bounds-r-i
element-copy-out-can-meet c = search rules

add-can-meet : tie.Need-overflow_add-i
add-can-meet c = search rules

mul-can-meet-2 : tie.Need-offset_bounds-r-i-2
mul-can-meet-2 c = search rules

element-copy-out-can-meet-2 : tie.Need-bounds-r-i-2
element-copy-out-can-meet-2 c = search rules

loose : (st : tie.Start) → Loose st.args.s.now st.args.r.now
loose st = row_loose st.args.s.now (length st.args.low.now) st.args.r.now st.requires.1.few st.requires.0.row

after : (x : tie.After-body-t) → constraint_body ≤ length x.body-t.result.now
after x = subst (λ (t : List ℕ). constraint_body ≤ length t) (sym x.body-t.ensures) x.before.before.before.before.before.requires.3.body

-- whether it can stand, by the row's ends
stands : (st : tie.Start) (z y f g : ℤ) (b : ℕ) (u : List ℕ) → let a = st.args in let r = a.r.now in let s = a.s.now in
    z ≡ get_or r a.i (pos 0) → y ≡ get_or r (64 + a.i) (pos 0) → f ≡ get_or a.low.now a.k (pos 0) -ℤ get_or r (56 + a.k) (pos 0) → g ≡ get_or a.high.now a.k (pos 0) -ℤ get_or r (120 + a.k) (pos 0)
    → b ≡ get_or s a.at 0 → u ≡ body_at s a.at
    → can_meet (kind_of b) (meet_side a.k f g z y a.ql.now a.qh.now (read_constraint (kind_of b) u)) ≡ can_stand (box_of a.low.now a.high.now) (box_of a.ql.now a.qh.now) (constraint_at s a.at)
stands st z y f g b u ez ey ef eg eb eu =
    let a = st.args in let r = a.r.now in let s = a.s.now in
    let q : Constraint = constraint_at s a.at in
    ap₂ (λ (b : ℕ) (u : List ℕ). can_meet (kind_of b) (meet_side a.k f g z y a.ql.now a.qh.now (read_constraint (kind_of b) u))) eb eu
    ∙ ap₂ (λ (z y : ℤ). can_meet q.kind (meet_side a.k f g z y a.ql.now a.qh.now q)) ez ey
    ∙ ap₂ (λ (f g : ℤ). can_meet q.kind (meet_side a.k f g (get_or r a.i (pos 0)) (get_or r (64 + a.i) (pos 0)) a.ql.now a.qh.now q)) ef eg
    ∙ ap (can_meet q.kind) (settled-meets s a.k a.low.now a.high.now r st.requires.0 st.requires.1 a.i st.requires.3.few a.ql.now a.qh.now q st.requires.3.form)

can-meet-requires : tie.Need-can_meet-requires
can-meet-requires c κs =
    let x = c.before.before in let g2 = x.before.before in let g1 = g2.before in let st = g1.before.before in let a = st.args in let l = loose st in let u = st.requires.3 in (
      after x,
      record { axis = axis st; from_size = back-within (omega arith) g1.gap-from.ensures.1; to_size = back-within (omega arith) g2.gap-to.ensures.1 },
      back-within (omega arith) (l.least a.i u.few),
      back-within (omega arith) (l.greatest a.i u.few),
      st.requires.2,
    )

returns : tie.Need-returns
returns c =
    let x = c.before.before.before in let g2 = x.before.before in let g1 = g2.before in let st = g1.before.before in let a = st.args in let l = loose st in let u = st.requires.3 in
    c.can_meet.ensures
    ∙ stands st _ _ _ _ _ _ (to_z_of_z {w = w64} (within-fits (omega arith) (l.least a.i u.few))) (to_z_of_z {w = w64} (within-fits (omega arith) (l.greatest a.i u.few)))
    (result_is w64 g1.gap-from.result g1.gap-from.type_inv ∙ g1.gap-from.ensures.0) (result_is w64 g2.gap-to.result g2.gap-to.type_inv ∙ g2.gap-to.ensures.0) x.before.code-b.ensures x.body-t.ensures

pub can_stand_spec : {M : Type 1} → statement M
can_stand_spec = tie.close (tie.spec gap-requires gap-requires-2 code-requires body-requires mul-can-meet element-copy-out-can-meet add-can-meet mul-can-meet-2 element-copy-out-can-meet-2 can-meet-requires returns)
