use native.Mathlib.Omega.{arith}
use mathlib.Core.Path.{◌≡◌, refl, sym, ◌∙◌, subst}
use mathlib.Core.Bool.{Bool, true}
use mathlib.Core.List.{List}
use borrow.Author.Rules.{rules}
use Prim.Native.Nat.{ℕ, ◌+◌, ◌-◌, ◌≤◌, ◌<◌}
use lib.ListN.{length, get_or}
use Rattle.model.specs.Limits.{most_axes}
use Rattle.model.specs.Sets.{Constraint}
use Rattle.codec.specs.Bytes.{is_constraint}
use Rattle.codec.proofs.Standing.{ConstraintAt}
use Rattle.bounds.specs.Rows.{start_of}
use Rattle.bounds.proofs.Extremes.{back-within}
use Rattle.bounds.proofs.Sides.{row_loose}
use Rattle.bounds.proofs.Bounds.{Opening, opening-start, opening-at, opening-form, opening-few, opening-next}
use Rattle.runs.proofs.keeping.constraints_keep.Statement.{statement}
use Rattle.runs.proofs.keeping.constraints_keep.Tie as tie

-- nothing is asked of the constraints but their places
abbrev whichever : Constraint → Bool
whichever c = true

abbrev invariant-loop : tie.invariant-loop-k
invariant-loop s k low high r ql qh first most from to m₀ i₀ at₀ m i at = Opening s (start_of r) whichever at i × (0 < m) × (m ≤ most)

abbrev decreases-loop : tie.decreases-loop-k
decreases-loop s k low high r ql qh first most from to m₀ i₀ at₀ m i at = length s - at

axis : (st : tie.Start invariant-loop decreases-loop) → st.args.k < most_axes
axis st = let a = st.requires.0.axis in let b = st.requires.1.few in omega arith

gap-requires : tie.Need-gap-from-requires invariant-loop decreases-loop
gap-requires c κs =
    let st = c.before in let p = st.requires in let a = axis st in (p.0.axis, p.1.lows, omega arith, p.0.row.places, p.0.row.lows st.args.k a)

gap-requires-2 : tie.Need-gap-to-requires invariant-loop decreases-loop
gap-requires-2 c κs =
    let st = c.before.before in let p = st.requires in let a = axis st in let q = p.1.same in let h = p.0.axis in
    (omega arith, p.1.highs, omega arith, p.0.row.places, p.0.row.highs st.args.k a)

loop-holds : tie.Need-loop-k-init invariant-loop decreases-loop
loop-holds c =
    let st = c.before.before.before in let a = st.args in let p = st.requires in let h = p.5 in
    (opening-start a.s.now (start_of a.r.now) a.first (length a.ql.now) whichever p.0.row.opened p.3 p.4, h, omega arith)

-- a turn: its start, the constraint at its place
module _ (t : tie.In-loop-k invariant-loop decreases-loop) where
  abbrev m : tie.At-loop-k invariant-loop decreases-loop
  m = t.before.before

  abbrev gaps : tie.After-gap-to invariant-loop decreases-loop
  gaps = m.before

  abbrev st : tie.Start invariant-loop decreases-loop
  st = gaps.before.before.before

  abbrev s : List ℕ
  s = st.args.s.now

  abbrev start : ℕ
  start = start_of st.args.r.now

  test : is_constraint (get_or s m.loop-k.at 0) ≡ true
  test = sym t.before.constraint_at.ensures ∙ t.loop-k-test.true

  here : ConstraintAt m.loop-k.invariant.0.tail.n s m.loop-k.at m.loop-k.invariant.0.tail.k
  here = opening-at s start whichever m.loop-k.at m.loop-k.i m.loop-k.invariant.0 test

  few : m.loop-k.i < 56
  few = opening-few s start whichever m.loop-k.at m.loop-k.i m.loop-k.invariant.0 test

constraint-at-requires : tie.Need-constraint_at-requires invariant-loop decreases-loop
constraint-at-requires c κs = search rules

returns : tie.Need-returns-then-m-eq1 invariant-loop decreases-loop
returns c = let v = (m c.before).loop-k.invariant in let a = v.1 in let b = v.2 in (omega arith, omega arith)

constraint-keeps-requires : tie.Need-constraint_keeps-m-requires invariant-loop decreases-loop
constraint-keeps-requires c κs =
    let t = c.before in let a = (st t).args in let p = (st t).requires in let g2 = gaps t in let g1 = g2.before in let l = (m t).loop-k in (
      row_loose a.s.now (length a.low.now) a.r.now p.1.few p.0.row,
      p.2,
      record { axis = axis (st t); from_size = back-within (omega arith) g1.gap-from.ensures.1; to_size = back-within (omega arith) g2.gap-to.ensures.1 },
      record { whole = (here t).whole; body = (here t).body; few = few t; form = opening-form (s t) (start t) whichever l.at l.i l.invariant.0 (test t) },
      l.invariant.1,
    )

next-requires : tie.Need-next-at-requires invariant-loop decreases-loop
next-requires c κs = (here c.before.before).whole

-- behind the turn
abbrev turn : tie.After-next-at invariant-loop decreases-loop → tie.In-loop-k invariant-loop decreases-loop
turn c = c.before.before.before

add-i : tie.Need-overflow_add-i invariant-loop decreases-loop
add-i c = let f = few (turn c) in omega arith

loop-less : tie.Need-loop-k-smaller invariant-loop decreases-loop
loop-less c = let h = (here (turn c)).whole in let r = h.room in let w = h.known in omega (arith, c.next-at.ensures)

loop-again : tie.Need-loop-k-preserved invariant-loop decreases-loop
loop-again c =
    let t = turn c in let l = (m t).loop-k in let v = l.invariant in let b = v.2 in let k = c.before.constraint_keeps-m.ensures in let d = k.1 in (
      subst (λ (p : ℕ). Opening (s t) (start t) whichever p (l.i + 1)) (sym c.next-at.ensures) (opening-next (s t) (start t) whichever l.at l.i v.0 (test t) refl),
      k.0,
      omega arith,
    )

returns-2 : tie.Need-returns invariant-loop decreases-loop
returns-2 c = let v = c.before.before.loop-k.invariant in (v.1, v.2)

pub constraints_keep_spec : {M : Type 1} → statement M
constraints_keep_spec =
    tie.close
    (tie.spec invariant-loop decreases-loop gap-requires gap-requires-2 loop-holds constraint-at-requires returns constraint-keeps-requires next-requires add-i loop-less loop-again returns-2)
