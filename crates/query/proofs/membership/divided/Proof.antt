use mathlib.Core.Path.{◌≡◌, sym, ap₂, ◌∙◌, subst}
use mathlib.Core.Bool.{true}
use mathlib.Core.List.{List}
use native.Mathlib.Omega.{arith}
use borrow.Author.Rules.{rules}
use Prim.Native.Nat.{ℕ, ◌+◌, ◌-◌, ◌≤◌, ◌<◌}
use lib.ListN.{length, get_or, set}
use mir.Syntax.{w64}
use mir.Val.{to_z, of_z}
use Rattle.integers.specs.Z.{Within}
use Rattle.integers.specs.Mach.{result_is}
use Rattle.model.specs.Sets.{quotient}
use Rattle.codec.specs.Bytes.{is_division, division_body, read_division}
use Rattle.codec.proofs.Standing.{DivisionAt}
use Rattle.query.proofs.Holding.{Dividing, dividing-start, dividing-at, dividing-next, dividing-end}
use Rattle.query.proofs.membership.divided.Statement.{statement}
use Rattle.query.proofs.membership.divided.Tie as tie

abbrev invariant-loop : tie.invariant-loop-e
invariant-loop s start x q₀ at₀ d₀ q at d = Dividing s start x at d q

abbrev decreases-loop : tie.decreases-loop-e
decreases-loop s start x q₀ at₀ d₀ q at d = length s - at

loop-holds : tie.Need-loop-e-init invariant-loop decreases-loop
loop-holds c = let st = c.before in dividing-start st.args.s.now st.args.start st.args.x.now st.args.q.now st.requires.0 st.requires.2 st.requires.3

-- a turn: its start, the division at its place
module _ (t : tie.In-loop-e invariant-loop decreases-loop) where
  abbrev m : tie.At-loop-e invariant-loop decreases-loop
  m = t.before.before

  abbrev st : tie.Start invariant-loop decreases-loop
  st = m.before.before

  code : is_division (get_or st.args.s.now m.loop-e.at 0) ≡ true
  code = sym t.before.division_at.ensures ∙ t.loop-e-test.true

  here : DivisionAt m.loop-e.invariant.n st.args.s.now m.loop-e.at m.loop-e.invariant.k
  here = dividing-at st.args.s.now st.args.start st.args.x.now m.loop-e.at m.loop-e.d m.loop-e.q m.loop-e.invariant code

division-at-requires : tie.Need-division_at-requires invariant-loop decreases-loop
division-at-requires c κs = search rules

head-requires : tie.Need-head-e-requires invariant-loop decreases-loop
head-requires c κs = (here c).whole

body-requires : tie.Need-body-t-requires invariant-loop decreases-loop
body-requires c κs = (here c.before).whole

quotient-at-requires : tie.Need-quotient_at-v-requires invariant-loop decreases-loop
quotient-at-requires c κs =
    let e = c.before in let h = here e.before in let p = (st e.before).requires.1 in
    (subst (λ (t : List ℕ). division_body ≤ length t) (sym c.body-t.ensures) h.body, p.axes, p.point, subst (λ (d : ℕ). 0 < d) (sym e.head-e.ensures.0) h.divisor, e.head-e.ensures.1)

mul-v : tie.Need-offset_bounds-q-d invariant-loop decreases-loop
mul-v c = search rules

slice-set-from-v : tie.Need-bounds-q-d invariant-loop decreases-loop
slice-set-from-v c =
    let t = c.before.before.before in let i = (m t).loop-e.invariant in
    let f = (here t).few in let g = i.counts in let l = i.places in omega arith

add-d : tie.Need-overflow_add-d invariant-loop decreases-loop
add-d c = let f = (m c.before.before.before).loop-e.invariant.few in omega arith

next-requires : tie.Need-next-at-requires invariant-loop decreases-loop
next-requires c κs = (here c.before.before.before).whole

loop-less : tie.Need-loop-e-smaller invariant-loop decreases-loop
loop-less c = let h = (here c.before.before.before.before).whole in let r = h.room in let w = h.known in omega (arith, c.next-at.ensures)

loop-again : tie.Need-loop-e-preserved invariant-loop decreases-loop
loop-again c =
    let v = c.before in let b = v.before in let e = b.before in let t = e.before in let a = (st t).args in let l = (m t).loop-e in
    let k = result_is w64 v.quotient_at-v.result v.quotient_at-v.type_inv in
    subst (λ (p : ℕ). Dividing a.s.now a.start a.x.now p (l.d + 1) (set l.q l.d (to_z w64 (of_z w64 v.quotient_at-v.result)))) (sym c.next-at.ensures)
    (dividing-next a.s.now a.start a.x.now l.at l.d l.q l.invariant (code t) _
    (k ∙ v.quotient_at-v.ensures.0 ∙ ap₂ (λ (d : ℕ) (t : List ℕ). quotient a.x.now (read_division d t)) e.head-e.ensures.0 b.body-t.ensures) (subst (Within 549755813888) (sym k) v.quotient_at-v.ensures.1))

same_length : tie.Need-shape_of-q invariant-loop decreases-loop
same_length c = let m = c.before.before in let st = m.before.before in let l = m.loop-e.invariant.places in let p = st.requires.2 in l ∙ sym p

returns : tie.Need-returns invariant-loop decreases-loop
returns c =
    let m = c.before.before in let st = m.before.before in
    dividing-end st.args.s.now st.args.start st.args.x.now m.loop-e.at m.loop-e.d m.loop-e.q m.loop-e.invariant (sym c.before.division_at.ensures ∙ c.loop-e-test.false)

pub divided_spec : {M : Type 1} → statement M
divided_spec =
    tie.close
    (tie.spec
    invariant-loop
    decreases-loop
    loop-holds
    division-at-requires
    head-requires
    body-requires
    quotient-at-requires
    mul-v
    slice-set-from-v
    add-d
    next-requires
    loop-less
    loop-again
    same_length
    returns)
