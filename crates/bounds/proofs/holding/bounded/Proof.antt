use mathlib.Core.Path.{◌≡◌, sym, ap, ap₂, ◌∙◌, subst}
use mathlib.Core.Bool.{true}
use mathlib.Core.List.{List}
use native.Mathlib.Omega.{arith}
use borrow.Author.Rules.{rules}
use Prim.Native.Nat.{ℕ, ◌+◌, ◌-◌, ◌≤◌, ◌<◌}
use lib.IntN.{ℤ, pos, ◌+ℤ◌, ◌-ℤ◌}
use lib.ListN.{length, get_or, set}
use mir.Syntax.{w64}
use mir.Val.{to_z, of_z}
use Rattle.integers.specs.Z.{Within}
use Rattle.integers.specs.Mach.{to_z_of_z, result_is}
use Rattle.integers.specs.Size.{within-fits}
use Rattle.model.specs.Sets.{floor_div}
use Rattle.codec.specs.Bytes.{is_division, constant_in, axes_in, division_body}
use Rattle.codec.specs.Places.{division_at}
use Rattle.codec.proofs.Standing.{DivisionAt}
use Rattle.bounds.specs.Intervals.{box_of}
use Rattle.bounds.specs.Ends.{side, gain}
use Rattle.bounds.specs.Rows.{start_of, Loose}
use Rattle.bounds.proofs.Extremes.{back-within}
use Rattle.bounds.proofs.Sides.{row_loose}
use Rattle.bounds.proofs.Bounds.{settled-quotient, Bounding, bounding-start, bounding-at, bounding-form, bounding-next, bounding-end}
use Rattle.bounds.proofs.holding.bounded.Statement.{statement}
use Rattle.bounds.proofs.holding.bounded.Tie as tie

abbrev invariant-loop : tie.invariant-loop-e
invariant-loop s k low high r ql₀ qh₀ from to at₀ d₀ ql qh at d = Bounding s (start_of r) (box_of low high) at d ql qh

abbrev decreases-loop : tie.decreases-loop-e
decreases-loop s k low high r ql₀ qh₀ from to at₀ d₀ ql qh at d = length s - at

axis : (st : tie.Start invariant-loop decreases-loop) → st.args.k < 8
axis st = let a = st.requires.0.axis in let b = st.requires.1.few in omega arith

gap-requires : tie.Need-gap-from-requires invariant-loop decreases-loop
gap-requires c κs =
    let st = c.before in let p = st.requires in let a = axis st in
    (p.0.axis, p.1.lows, omega arith, p.0.row.places, p.0.row.lows st.args.k a)

gap-requires-2 : tie.Need-gap-to-requires invariant-loop decreases-loop
gap-requires-2 c κs =
    let st = c.before.before in let p = st.requires in let a = axis st in let q = p.1.same in let h = p.0.axis in
    (omega arith, p.1.highs, omega arith, p.0.row.places, p.0.row.highs st.args.k a)

place-requires : tie.Need-place-at-requires invariant-loop decreases-loop
place-requires c κs = c.before.before.before.requires.0.row.place

loop-holds : tie.Need-loop-e-init invariant-loop decreases-loop
loop-holds c =
    let st = c.before.before.before.before in let a = st.args in let p = st.requires in let xs = box_of a.low.now a.high.now in
    subst (λ (x : ℕ). Bounding a.s.now (start_of a.r.now) xs x 0 a.ql.now a.qh.now) (sym c.place-at.ensures)
    (bounding-start a.s.now (start_of a.r.now) xs a.ql.now a.qh.now p.0.row.opened p.2 p.4 p.3 p.5)

-- a turn: its start, how far the ends move, the division at its place
module _ (t : tie.In-loop-e invariant-loop decreases-loop) where
  abbrev m : tie.At-loop-e invariant-loop decreases-loop
  m = t.before.before

  abbrev st : tie.Start invariant-loop decreases-loop
  st = m.before.before.before.before.before

  abbrev F : ℤ
  F = to_z w64 (of_z w64 m.before.before.before.gap-from.result)

  abbrev G : ℤ
  G = to_z w64 (of_z w64 m.before.before.gap-to.result)

  low-gap : F ≡ get_or st.args.low.now st.args.k (pos 0) -ℤ get_or st.args.r.now (56 + st.args.k) (pos 0)
  low-gap = let x = m.before.before.before in result_is w64 x.gap-from.result x.gap-from.type_inv ∙ x.gap-from.ensures.0

  high-gap : G ≡ get_or st.args.high.now st.args.k (pos 0) -ℤ get_or st.args.r.now (120 + st.args.k) (pos 0)
  high-gap = let x = m.before.before in result_is w64 x.gap-to.result x.gap-to.type_inv ∙ x.gap-to.ensures.0

  low_size : Within 2097152 F
  low_size = back-within (omega arith) m.before.before.before.gap-from.ensures.1

  high_size : Within 2097152 G
  high_size = back-within (omega arith) m.before.before.gap-to.ensures.1

  code : is_division (get_or st.args.s.now m.loop-e.at 0) ≡ true
  code = sym t.before.division_at.ensures ∙ t.loop-e-test.true

  here : DivisionAt m.loop-e.invariant.n st.args.s.now m.loop-e.at m.loop-e.invariant.k
  here = bounding-at st.args.s.now (start_of st.args.r.now) (box_of st.args.low.now st.args.high.now) m.loop-e.at m.loop-e.d m.loop-e.ql m.loop-e.qh m.loop-e.invariant code

  few : m.loop-e.d < 8
  few = let a = here.few in let b = m.loop-e.invariant.counts in omega arith

  loose : Loose st.args.s.now st.args.r.now
  loose = row_loose st.args.s.now (length st.args.low.now) st.args.r.now st.requires.1.few st.requires.0.row

  least : Within 274877906944 (get_or st.args.r.now m.loop-e.d (pos 0))
  least = let a = few in loose.least m.loop-e.d (omega arith)

  greatest : Within 274877906944 (get_or st.args.r.now (64 + m.loop-e.d) (pos 0))
  greatest = let a = few in loose.greatest m.loop-e.d (omega arith)

division-at-requires : tie.Need-division_at-requires invariant-loop decreases-loop
division-at-requires c κs = search rules

head-requires : tie.Need-head-e-requires invariant-loop decreases-loop
head-requires c κs = (here c).whole

body-requires : tie.Need-body-t-requires invariant-loop decreases-loop
body-requires c κs = (here c.before).whole

-- the divisor and the body, as the calls give them
divisor-in : (x : tie.After-body-t invariant-loop decreases-loop) → let d = x.before.head-e.result in (division_body ≤ length x.body-t.result.now) × (0 < d) × (d < 4294967296)
divisor-in x =
    let h = x.before in let v = here h.before in
    (subst (λ (u : List ℕ). division_body ≤ length u) (sym x.body-t.ensures) v.body, subst (λ (d : ℕ). 0 < d) (sym h.head-e.ensures.0) v.divisor, h.head-e.ensures.1)

mul-quotient-end : tie.Need-offset_bounds-r-d invariant-loop decreases-loop
mul-quotient-end c = let f = few c.before.before in omega arith

element-copy-out-quotient-end : tie.Need-bounds-r-d invariant-loop decreases-loop
element-copy-out-quotient-end c = let f = few c.before.before in omega arith

quotient-end-requires : tie.Need-quotient_end-l-requires invariant-loop decreases-loop
quotient-end-requires c κs =
    let x = c.before in let t = x.before.before in let d = divisor-in x in (
      d.0,
      d.1,
      d.2,
      record { axis = axis (st t); from_size = low_size t; to_size = high_size t },
      back-within (omega arith) (least t),
    )

add-quotient-end : tie.Need-overflow_add-d invariant-loop decreases-loop
add-quotient-end c = let f = few c.before.before.before.before in omega arith

mul-quotient-end-2 : tie.Need-offset_bounds-r-d-in-loop-e invariant-loop decreases-loop
mul-quotient-end-2 c = let f = few c.before.before.before.before in omega arith

element-copy-out-quotient-end-2 : tie.Need-bounds-r-d-in-loop-e invariant-loop decreases-loop
element-copy-out-quotient-end-2 c = let f = few c.before.before.before.before in omega arith

quotient-end-requires-2 : tie.Need-quotient_end-h-requires invariant-loop decreases-loop
quotient-end-requires-2 c κs =
    let x = c.before.before.before in let t = x.before.before in let d = divisor-in x in (
      d.0,
      d.1,
      d.2,
      record { axis = axis (st t); from_size = high_size t; to_size = low_size t },
      back-within (omega arith) (greatest t),
    )

mul-l : tie.Need-offset_bounds-ql-d invariant-loop decreases-loop
mul-l c = let f = few c.before.before.before.before.before.before in omega arith

slice-set-from-l : tie.Need-bounds-ql-d invariant-loop decreases-loop
slice-set-from-l c = let t = c.before.before.before.before.before.before in let f = few t in let l = (m t).loop-e.invariant.lows in omega arith

mul-h : tie.Need-offset_bounds-qh-d invariant-loop decreases-loop
mul-h c = let f = few c.before.before.before.before.before.before in omega arith

slice-set-from-h : tie.Need-bounds-qh-d invariant-loop decreases-loop
slice-set-from-h c = let t = c.before.before.before.before.before.before in let f = few t in let l = (m t).loop-e.invariant.highs in omega arith

add-d : tie.Need-overflow_add-d-in-loop-e invariant-loop decreases-loop
add-d c = let f = few c.before.before.before.before.before.before in omega arith

next-requires : tie.Need-next-at-requires invariant-loop decreases-loop
next-requires c κs = (here c.before.before.before.before.before.before).whole

loop-less : tie.Need-loop-e-smaller invariant-loop decreases-loop
loop-less c = let h = (here c.before.before.before.before.before.before.before).whole in let r = h.room in let w = h.known in omega (arith, c.next-at.ensures)

-- an end as a call gives it, in the plain numbers
plain : (z z' f f' g g' : ℤ) (k d d' : ℕ) (u v : List ℕ) → d ≡ d' → u ≡ v → z ≡ z' → f ≡ f' → g ≡ g'
    → floor_div (constant_in u +ℤ (z +ℤ gain k f g (axes_in u))) d ≡ floor_div (constant_in v +ℤ (z' +ℤ gain k f' g' (axes_in v))) d'
plain z z' f f' g g' k d d' u v o e a b c =
    ap₂ (λ (m : ℕ) (w : List ℕ). floor_div (constant_in w +ℤ (z +ℤ gain k f g (axes_in w))) m) o e
    ∙ ap (λ (y : ℤ). floor_div (constant_in v +ℤ (y +ℤ gain k f g (axes_in v))) d') a
    ∙ ap₂ (λ (x y : ℤ). floor_div (constant_in v +ℤ (z' +ℤ gain k x y (axes_in v))) d') b c

loop-again : tie.Need-loop-e-preserved invariant-loop decreases-loop
loop-again c =
    let q2 = c.before in let q1 = q2.before.before in let x = q1.before.before in let y = x.before in let t = y.before in let a = (st t).args in let l = (m t).loop-e in let low = a.low.now in let high = a.high.now in let r = a.r.now in
    let kl = result_is w64 q1.quotient_end-l.result q1.quotient_end-l.type_inv in let kh = result_is w64 q2.quotient_end-h.result q2.quotient_end-h.type_inv in
    let pl = kl ∙ q1.quotient_end-l.ensures.0 ∙ plain _ _ _ _ _ _ a.k _ _ _ _ y.head-e.ensures.0 x.body-t.ensures (to_z_of_z {w = w64} (within-fits (omega arith) (least t))) (low-gap t) (high-gap t) in
    let ph = kh ∙ q2.quotient_end-h.ensures.0 ∙ plain _ _ _ _ _ _ a.k _ _ _ _ y.head-e.ensures.0 x.body-t.ensures (to_z_of_z {w = w64} (within-fits (omega arith) (greatest t))) (high-gap t) (low-gap t) in
    let f : l.d < 56 = let y = few t in omega arith in
    let o = bounding-form a.s.now (start_of r) (box_of low high) l.at l.d l.ql l.qh l.invariant (code t) in
    subst (λ (p : ℕ). Bounding a.s.now (start_of r) (box_of low high) p (l.d + 1) (set l.ql l.d (to_z w64 (of_z w64 q1.quotient_end-l.result))) (set l.qh l.d (to_z w64 (of_z w64 q2.quotient_end-h.result)))) (sym c.next-at.ensures)
    (bounding-next a.s.now (start_of r) (box_of low high) l.at l.d l.ql l.qh l.invariant (code t) _ _
    (settled-quotient a.s.now a.k low high r (st t).requires.0 (st t).requires.1 l.d f (division_at a.s.now l.at) o ∙ sym (ap₂ side pl ph))
    (subst (Within 549755813888) (sym kl) q1.quotient_end-l.ensures.1) (subst (Within 549755813888) (sym kh) q2.quotient_end-h.ensures.1))

same_length : tie.Need-shape_of-ql invariant-loop decreases-loop
same_length c = let m = c.before.before in m.loop-e.invariant.lows ∙ sym m.before.before.before.before.before.requires.2

same-length-2 : tie.Need-shape_of-qh invariant-loop decreases-loop
same-length-2 c = let m = c.before.before in m.loop-e.invariant.highs ∙ sym m.before.before.before.before.before.requires.4

returns : tie.Need-returns invariant-loop decreases-loop
returns c =
    let m = c.before.before in let st = m.before.before.before.before.before in let a = st.args in
    bounding-end a.s.now (start_of a.r.now) (box_of a.low.now a.high.now) m.loop-e.at m.loop-e.d m.loop-e.ql m.loop-e.qh m.loop-e.invariant (sym c.before.division_at.ensures ∙ c.loop-e-test.false)

pub bounded_spec : {M : Type 1} → statement M
bounded_spec =
    tie.close
    (tie.spec invariant-loop decreases-loop gap-requires gap-requires-2 place-requires loop-holds division-at-requires head-requires body-requires mul-quotient-end element-copy-out-quotient-end quotient-end-requires add-quotient-end mul-quotient-end-2 element-copy-out-quotient-end-2 quotient-end-requires-2 mul-l slice-set-from-l mul-h slice-set-from-h add-d next-requires loop-less loop-again same_length same-length-2 returns)
