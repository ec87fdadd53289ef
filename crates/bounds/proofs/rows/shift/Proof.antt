use mathlib.Core.Path.{◌≡◌, sym, ap₂, ◌∙◌, subst}
use mathlib.Core.Bool.{true}
use mathlib.Core.List.{List}
use native.Mathlib.Omega.{arith}
use borrow.Author.Rules.{rules}
use Prim.Native.Nat.{ℕ, ◌+◌, ◌-◌, ◌≤◌, ◌<◌}
use lib.IntN.{ℤ, pos, ◌+ℤ◌}
use lib.ListN.{length, get_or, set}
use mir.Syntax.{w64}
use mir.Val.{to_z, of_z}
use Rattle.integers.specs.Z.{Within}
use Rattle.integers.specs.Mach.{to_z_of_z, result_is}
use Rattle.integers.specs.Size.{within-fits}
use Rattle.codec.specs.Bytes.{goes_on, axes_in, division_body}
use Rattle.bounds.specs.Ends.{gain}
use Rattle.bounds.proofs.Extremes.{back-within}
use Rattle.bounds.proofs.Forms.{FormAt}
use Rattle.bounds.proofs.Shifting.{Shifting, shifting-start, shifting-at, shifting-few, shifting-sizes, shifting-next, shifting-end}
use Rattle.bounds.proofs.rows.shift.Statement.{statement}
use Rattle.bounds.proofs.rows.shift.Tie as tie

abbrev invariant-loop : tie.invariant-loop-t
invariant-loop s j from to r₀ at₀ i₀ r at i = Shifting s j (to_z w64 from) (to_z w64 to) r₀ r at i

abbrev decreases-loop : tie.decreases-loop-t
decreases-loop s j from to r₀ at₀ i₀ r at i = length s - at

-- a turn: its start, what its place has, the row
module _ (t : tie.In-loop-t invariant-loop decreases-loop) where
  abbrev m : tie.At-loop-t invariant-loop decreases-loop
  m = t.before.before

  abbrev st : tie.Start invariant-loop decreases-loop
  st = m.before.before.before

  abbrev F : ℤ
  F = to_z w64 (of_z w64 st.args.from)

  abbrev G : ℤ
  G = to_z w64 (of_z w64 st.args.to)

  pass : goes_on (get_or st.args.s.now m.loop-t.at 0) ≡ true
  pass = sym t.before.goes_on.ensures ∙ t.loop-t-test.true

  abbrev here : FormAt m.loop-t.invariant.n st.args.s.now m.loop-t.at m.loop-t.invariant.k
  here = shifting-at st.args.s.now st.args.j F G st.args.r.now m.loop-t.r m.loop-t.at m.loop-t.i m.loop-t.invariant pass

  few : m.loop-t.i < 56
  few = shifting-few st.args.s.now st.args.j F G st.args.r.now m.loop-t.r m.loop-t.at m.loop-t.i m.loop-t.invariant pass

  sizes : Within 274877906944 (get_or m.loop-t.r m.loop-t.i (pos 0)) × Within 274877906944 (get_or m.loop-t.r (64 + m.loop-t.i) (pos 0))
  sizes = shifting-sizes st.args.s.now st.args.j F G st.args.r.now m.loop-t.r m.loop-t.at m.loop-t.i m.loop-t.invariant st.requires.0 pass

place-requires : tie.Need-place-at-requires invariant-loop decreases-loop
place-requires c κs = c.before.requires.0.place

loop-holds : tie.Need-loop-t-init invariant-loop decreases-loop
loop-holds c =
    let st = c.before.before in let a = st.args in
    subst (λ (p : ℕ). Shifting a.s.now a.j (to_z w64 (of_z w64 a.from)) (to_z w64 (of_z w64 a.to)) a.r.now a.r.now p 0) (sym c.place-at.ensures)
    (shifting-start a.s.now a.j (to_z w64 (of_z w64 a.from)) (to_z w64 (of_z w64 a.to)) a.r.now st.requires.0.opened)

goes-on-requires : tie.Need-goes_on-requires invariant-loop decreases-loop
goes-on-requires c κs = search rules

body-requires : tie.Need-body-t-requires invariant-loop decreases-loop
body-requires c κs = (here c).whole

mul-l : tie.Need-offset_bounds-r-i invariant-loop decreases-loop
mul-l c = let f = few c.before in omega arith

element-copy-out-l : tie.Need-bounds-r-i invariant-loop decreases-loop
element-copy-out-l c = let f = few c.before in omega arith

add-h : tie.Need-overflow_add-h invariant-loop decreases-loop
add-h c = let f = few c.before.before in omega arith

mul-h : tie.Need-offset_bounds-r-i-in-loop-t invariant-loop decreases-loop
mul-h c = let f = few c.before.before in omega arith

element-copy-out-h : tie.Need-bounds-r-i-in-loop-t invariant-loop decreases-loop
element-copy-out-h c = let f = few c.before.before in omega arith

room : (c : tie.After-body-t invariant-loop decreases-loop) → division_body ≤ length c.body-t.result.now
room c = subst (λ (t : List ℕ). division_body ≤ length t) (sym c.body-t.ensures) (here c.before).body

moved-requires : tie.Need-moved-requires invariant-loop decreases-loop
moved-requires c κs =
    let x = c.before.before in let t = x.before in
    (room x, rw (to_z_of_z (st t).ranges.from, to_z_of_z (st t).ranges.to) (st t).requires.1, back-within (omega arith) (sizes t).0)

mul-r : tie.Need-offset_bounds-r-i-in-loop-t-2 invariant-loop decreases-loop
mul-r c = let f = few c.before.before.before.before in omega arith

element-set-from-r : tie.Need-bounds-r-i-in-loop-t-2 invariant-loop decreases-loop
element-set-from-r c = let f = few c.before.before.before.before in omega arith

moved-requires-2 : tie.Need-moved-requires-in-loop-t invariant-loop decreases-loop
moved-requires-2 c κs =
    let x = c.before.before.before in let t = x.before in let p = (st t).requires.1 in
    (room x, rw (to_z_of_z (st t).ranges.from, to_z_of_z (st t).ranges.to) (record { axis = p.axis; from_size = p.to_size; to_size = p.from_size }), back-within (omega arith) (sizes t).1)

add-t17 : tie.Need-overflow_add-i invariant-loop decreases-loop
add-t17 c = let f = few c.before.before.before.before.before in omega arith

mul-t13 : tie.Need-offset_bounds-r-i-in-loop-t-3 invariant-loop decreases-loop
mul-t13 c = let f = few c.before.before.before.before.before in omega arith

element-set-from-r-2 : tie.Need-bounds-r-i-in-loop-t-3 invariant-loop decreases-loop
element-set-from-r-2 c = let f = few c.before.before.before.before.before in omega arith

next-requires : tie.Need-next-at-requires invariant-loop decreases-loop
next-requires c κs = (here c.before.before.before.before.before).whole

add-i : tie.Need-overflow_add-i-in-loop-t invariant-loop decreases-loop
add-i c = let f = few c.before.before.before.before.before.before in omega arith

loop-less : tie.Need-loop-t-smaller invariant-loop decreases-loop
loop-less c = let h = (here c.before.before.before.before.before.before).whole in let r = h.room in let w = h.known in omega (arith, c.next-at.ensures)

loop-again : tie.Need-loop-t-preserved invariant-loop decreases-loop
loop-again c =
    let c2 = c.before in let c1 = c2.before in let x = c1.before.before.before in let t = x.before in let a = (st t).args in
    let j = a.j in let f = F t in let g = G t in let l = (m t).loop-t in
    let k1 = result_is w64 c1.moved.result c1.moved.type_inv in let k2 = result_is w64 c2.moved-in-loop-t.result c2.moved-in-loop-t.type_inv in
    let e1 = k1 ∙ c1.moved.ensures.0 ∙ ap₂ (λ (z : ℤ) (u : List ℕ). z +ℤ gain j f g (axes_in u)) (to_z_of_z {w = w64} (within-fits (omega arith) (sizes t).0)) x.body-t.ensures in
    let e2 = k2 ∙ c2.moved-in-loop-t.ensures.0 ∙ ap₂ (λ (z : ℤ) (u : List ℕ). z +ℤ gain j g f (axes_in u)) (to_z_of_z {w = w64} (within-fits (omega arith) (sizes t).1)) x.body-t.ensures in
    let o : length l.r ≡ 129 = l.invariant.is.places ∙ (st t).requires.0.places in
    subst (λ (w : ℕ). Shifting a.s.now j f g a.r.now (set (set l.r l.i (to_z w64 (of_z w64 c1.moved.result))) (64 + l.i) (to_z w64 (of_z w64 c2.moved-in-loop-t.result))) w (l.i + 1)) (sym c.next-at.ensures)
    (shifting-next a.s.now j f g a.r.now l.r l.at l.i l.invariant (pass t) o (to_z w64 (of_z w64 c1.moved.result)) (to_z w64 (of_z w64 c2.moved-in-loop-t.result)) e1 e2)

returns : tie.Need-returns invariant-loop decreases-loop
returns c =
    let m = c.before.before in let st = m.before.before.before in let a = st.args in
    rw (to_z_of_z st.ranges.from, to_z_of_z st.ranges.to) at
    (shifting-end a.s.now a.j (to_z w64 (of_z w64 a.from)) (to_z w64 (of_z w64 a.to)) a.r.now m.loop-t.r m.loop-t.at m.loop-t.i m.loop-t.invariant (sym c.before.goes_on.ensures ∙ c.loop-t-test.false))

pub shift_spec : {M : Type 1} → statement M
shift_spec =
    tie.close
    (tie.spec invariant-loop decreases-loop place-requires loop-holds goes-on-requires body-requires mul-l element-copy-out-l add-h mul-h element-copy-out-h moved-requires mul-r element-set-from-r moved-requires-2 add-t17 mul-t13 element-set-from-r-2 next-requires add-i loop-less loop-again returns)
