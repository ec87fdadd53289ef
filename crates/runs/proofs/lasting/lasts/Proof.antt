use native.Mathlib.Omega.{arith}
use borrow.Author.Rules.{rules}
use mathlib.Core.Path.{◌≡◌, sym, ap, ◌∙◌, subst}
use mathlib.Core.List.{List, map}
use borrow.Author.Tests.{not-true}
use Prim.Native.Nat.{◌+◌, ◌-◌}
use lib.IntN.{ℤ}
use lib.ListN.{length, length-take}
use Rattle.codec.specs.Places.{basic_at, constraint_at}
use Rattle.bounds.specs.Intervals.{box_of, quotient_side}
use Rattle.bounds.specs.Ends.{Ends, can_stand}
use Rattle.bounds.specs.Rows.{start_of, Settled}
use Rattle.runs.specs.Upward.{Reach}
use Rattle.runs.proofs.Upward.{reach-most, settled-wide, ends-wide}
use Rattle.runs.proofs.lasting.lasts.Statement.{statement}
use Rattle.runs.proofs.lasting.lasts.Tie as tie

sub-raised : tie.Need-overflow_sub-m
sub-raised c = search rules

raised-requires : tie.Need-raised-w-requires
raised-requires c κs =
    let st = c.before in let p = st.requires in let a = p.1.few in let b = p.1.same in let d = p.0.axis in let m = reach-most st.args.k st.args.high.now st.args.m p.1.highs p.3 in
    (omega arith, omega arith, p.1.highs, omega arith)

array-share-prefix-w : tie.Need-slice_bounds-w-end
array-share-prefix-w c = search rules

slice-aggregate-can-over : tie.Need-slice_bounds-can_over-end
slice-aggregate-can-over c =
    let x = c.before in let st = x.before.before in let a = st.requires.1.few in let b = st.requires.1.same in omega (arith, length-take (length st.args.high.now) x.raised-w.result, x.raised-w.ensures.1)

reach : (st : tie.Start) → Reach st.args.k st.args.high.now (st.args.m - 1 + 1)
reach st = let h = st.requires.4 in let e : st.args.m ≡ st.args.m - 1 + 1 = omega arith in subst (Reach st.args.k st.args.high.now) e st.requires.3

can-over-requires : tie.Need-can_over-requires
can-over-requires c κs =
    let x = c.before in let st = x.before.before in let a = st.args in let p = st.requires in let e = sym x.raised-w.ensures.0 in
    (subst (λ (u : List ℤ). Settled a.s.now a.k a.low.now u a.r.now) e (settled-wide a.s.now a.k a.low.now a.high.now a.r.now p.0 p.1 (a.m - 1) (reach st)), subst (λ (u : List ℤ). Ends a.low.now u 1048576) e (ends-wide a.s.now a.k a.low.now a.high.now a.r.now p.0 p.1 (a.m - 1) (reach st)), p.2)

returns : tie.Need-returns
returns c =
    let x = c.before.before in let st = x.before.before in let a = st.args in
    λ q. record { fails = sym (c.can_over.ensures ∙ ap (λ (u : List ℤ). can_stand (box_of a.low.now u) (map (quotient_side (box_of a.low.now u)) (basic_at a.s.now (start_of a.r.now)).divisions) (constraint_at a.s.now a.at)) x.raised-w.ensures.0) ∙ not-true _ q }

pub lasts_spec : {M : Type 1} → statement M
lasts_spec =
    tie.close
    (tie.spec
    sub-raised
    raised-requires
    array-share-prefix-w
    slice-aggregate-can-over
    can-over-requires
    returns)
