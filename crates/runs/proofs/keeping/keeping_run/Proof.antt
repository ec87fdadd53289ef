use mathlib.Core.Path.{◌≡◌, sym, ap₂, ◌∙◌, subst}
use mathlib.Core.List.{List}
use native.Mathlib.Omega.{arith}
use Prim.Native.Nat.{ℕ, ◌+◌, ◌-◌}
use lib.IntN.{ℤ}
use lib.ListN.{length, take, length-take}
use Rattle.model.specs.Limits.{most_coordinate}
use Rattle.codec.specs.Places.{basic_at}
use Rattle.bounds.specs.Intervals.{can_hold, box_of}
use Rattle.bounds.specs.Ends.{Ends}
use Rattle.bounds.specs.Rows.{Settled}
use Rattle.runs.specs.Upward.{widened, Reach}
use Rattle.runs.proofs.Upward.{reach-less, reach-most, settled_up, ends-up}
use borrow.Author.Rules.{rules}
use Rattle.runs.proofs.keeping.keeping_run.Statement.{statement}
use Rattle.runs.proofs.keeping.keeping_run.Tie as tie

settle-requires : tie.Need-settle-requires
settle-requires c κs = search rules

keeps-requires : tie.Need-keeps-m-requires
keeps-requires c κs = let y = c in let st = y.before.before.before in (y.settle.ensures.0, st.requires.1, st.requires.4)

returns : tie.Need-returns-then-m-eq1
returns c =
    let k = c.before in let y = k.before in let st = y.before.before.before in let h = st.requires.4 in
    record { some = omega arith; few = omega arith; is = λ l. absurd (omega arith); row = y.settle.ensures.0.row; place = y.settle.ensures.1 }

-- past the guess
module _ (e : tie.Else-m-eq1) where
  abbrev guessed : tie.After-keeps-m
  guessed = e.before

  abbrev settled : tie.After-settle
  settled = guessed.before

  abbrev st : tie.Start
  st = settled.before.before.before

  abbrev m : ℕ
  m = guessed.keeps-m.result

  reach : Reach st.args.k st.args.low.now (m - 1 + 1)
  reach =
      let h = guessed.keeps-m.ensures.0 in let q : m ≡ m - 1 + 1 = omega arith in
      subst (Reach st.args.k st.args.low.now) q (reach-less st.args.k st.args.low.now m st.args.most guessed.keeps-m.ensures.1 st.requires.3)

sub-raised : tie.Need-overflow_sub-m
sub-raised c = let h = (guessed c).keeps-m.ensures.0 in omega arith

raised-requires : tie.Need-raised-w-requires
raised-requires c κs =
    let p = (st c).requires in let a = (st c).args in let f = p.1.few in let k = p.2 in
    let h = reach-most a.k a.low.now a.most p.1.lows p.3 in let g = (guessed c).keeps-m.ensures.1 in (f, k, p.1.lows, omega arith)

array-share-prefix-w : tie.Need-slice_bounds-w-end
array-share-prefix-w c = let f = (st c.before).requires.1.few in let l = c.raised-w.ensures.1 in omega arith

slice-aggregate-can-hold : tie.Need-slice_bounds-can_hold-end
slice-aggregate-can-hold c = let x = c.before in let f = (st x.before).requires.1.few in omega (arith, length-take (length (st x.before).args.low.now) x.raised-w.result, x.raised-w.ensures.1)

lows-are : (x : tie.After-raised-w) → let a = (st x.before).args in take (length a.low.now) x.raised-w.result ≡ widened a.k (m x.before - 1) a.low.now
lows-are x = x.raised-w.ensures.0

can-hold-requires : tie.Need-can_hold-requires
can-hold-requires c κs =
    let x = c.before in let e = x.before in let a = (st e).args in let p = (st e).requires in let d = (settled e).settle.ensures.0 in (
      subst (λ (u : List ℤ). Settled a.s.now a.k u a.high.now (settled e).settle.new.r) (sym (lows-are x)) (settled_up a.s.now a.k a.low.now a.high.now _ (m e - 1) d),
      subst (λ (u : List ℤ). Ends u a.high.now most_coordinate) (sym (lows-are x)) (ends-up a.k a.low.now a.high.now (m e - 1) p.1 p.2 (reach e)),
    )

returns-2 : tie.Need-returns-then-can_hold
returns-2 c =
    let f = c.before in let x = f.before.before in let e = x.before in let a = (st e).args in let y = (settled e).settle.ensures in record {
      some = (guessed e).keeps-m.ensures.0;
      few = (guessed e).keeps-m.ensures.1;
      is = λ _. sym
          (sym c.if-can_hold.true ∙ f.can_hold.ensures
          ∙ ap₂ (λ (u : List ℤ) (i : ℕ). can_hold (box_of u a.high.now) (basic_at a.s.now i)) (lows-are x) y.1);
      row = y.0.row;
      place = y.1;
    }

returns-3 : tie.Need-returns
returns-3 c =
    let f = c.before in let e = f.before.before.before in let h = (st e).requires.4 in let y = (settled e).settle.ensures in
    record { some = omega arith; few = omega arith; is = λ l. absurd (omega arith); row = y.0.row; place = y.1 }

pub keeping_run_spec : {M : Type 1} → statement M
keeping_run_spec = tie.close (tie.spec settle-requires keeps-requires returns sub-raised raised-requires array-share-prefix-w slice-aggregate-can-hold can-hold-requires returns-2 returns-3)
