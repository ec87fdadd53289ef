-- `carrying::both::run_both` meets its contract. Assumes nothing.
use mathlib.Core.Path.{◌≡◌, sym, ap, ap₂, ◌∙◌, subst}
use mathlib.Core.List.{List}
use mathlib.Core.Bool.{Bool, true, false, cond}
use Prim.Native.Nat.{ℕ, ◌+◌, ◌-◌, ◌≤◌}
use native.Mathlib.Omega.{arith}
use borrow.Author.Rules.{rules}
use lib.IntN.{ℤ}
use lib.ListN.{length}
use Rattle.integers.specs.Size.{bound}
use Rattle.simplex.specs.Table as S
use Rattle.simplex.proofs.Built.{built-le}
use Rattle.carrying.specs.Carried.{is_wide, both_table}
use Rattle.carrying.proofs.Runs.{run-keeps, onward-yes, onward-no, went-le}
use Rattle.carrying.proofs.both.run_both.Statement.{statement}
use Rattle.carrying.proofs.both.run_both.Tie as tie

-- where the function began, where it has run at 64 bits, and where at 128
abbrev begun : tie.After-run-e → tie.Start
begun c = c.before.before.before.before.before

abbrev ran : tie.After-first-1 → tie.After-run-e
ran c = c.before.before.before.before

abbrev went : tie.After-struct_known-1 → tie.After-widened-w
went c = c.before.before.before.before

abbrev taken : tie.After-widened-w → tie.Then-is_wide
taken c = c.before.before

-- how the run at 64 bits ends
abbrev reached : tie.After-run-e → S.Ending
reached c = let s = begun c in S.run_table s.args.kinds.now 200 s.args.t.now s.args.place.now

kept : (c : tie.After-run-e) → let s = begun c in
    S.Fine s.args.n (reached c).rows (reached c).place s.args.kinds.now
    × (length (reached c).place ≡ length s.args.place.now) × ((reached c).left ≤ 200)
kept c = let s = begun c in run-keeps {W = 64} (omega arith) s.args.n s.args.kinds.now 200 s.args.t.now s.args.place.now s.requires

wide : (c : tie.Then-is_wide) → is_wide (reached (ran c.before.before)).verdict ≡ true
wide c = ap is_wide (sym (ran c.before.before).run-e.ensures.verdict_is) ∙ sym c.before.is_wide.ensures ∙ c.if-is_wide.true

judged : (c : tie.Else-is_wide) → is_wide (reached (ran c.before.before)).verdict ≡ false
judged c = ap is_wide (sym (ran c.before.before).run-e.ensures.verdict_is) ∙ sym c.before.is_wide.ensures ∙ c.if-is_wide.false

-- where the run at 128 bits begins: with its table and the pivots left
fine : (c : tie.After-run-e) → S.Fine (begun c).args.n c.run-e.new.t c.run-e.new.place (begun c).args.kinds.now
fine c =
    let s = begun c in let e = c.run-e.ensures in
    subst (λ (t : List (List ℤ)). S.Fine s.args.n t c.run-e.new.place s.args.kinds.now) (sym e.rows_are)
    (subst (λ (p : List ℕ). S.Fine s.args.n (reached c).rows p s.args.kinds.now) (sym e.place_is) (kept c).0)

from : {A : Type 0} (f : ℕ → List (List ℤ) → List ℕ → A) (c : tie.After-run-e)
    → f (200 - c.run-e.result.ended.pivots) c.run-e.new.t c.run-e.new.place
    ≡ f (reached c).left (reached c).rows (reached c).place
from f c =
    let e = c.run-e.ensures in let b = (kept c).2 in let p = e.pivots_are in
    let q : 200 - c.run-e.result.ended.pivots ≡ (reached c).left = omega arith in
    ap (λ (l : ℕ). f l c.run-e.new.t c.run-e.new.place) q ∙ ap₂ (f (reached c).left) e.rows_are e.place_is

run-requires : tie.Need-run-e-requires
run-requires c κs = search rules

is-wide-requires : tie.Need-is_wide-requires
is-wide-requires c κs = search rules

sub-widened : tie.Need-overflow_sub-p
sub-widened c = search rules

widened-requires : tie.Need-widened-w-requires
widened-requires c κs = (fine (ran c.before.before.before), omega arith)

add-built : tie.Need-overflow_add-built
add-built c =
    let w = went c in let r = ran (taken w).before.before in let s = begun r in let kinds = s.args.kinds.now in
    let h = built-le (bound 64) kinds 200 s.args.t.now s.args.place.now s.requires.count in
    record { fits = omega (arith, h, went-le w.widened-w.ensures (fine r).count, r.run-e.ensures.built_is) }

same_length : tie.Need-shape_of-t-then-is_wide
same_length c = search rules

same-length-2 : tie.Need-shape_of-place-then-is_wide
same-length-2 c = search rules

returns : tie.Need-returns-then-is_wide
unfolding both_table
returns c =
    let w = went c in let r = ran (taken w).before.before in let kinds = (begun r).args.kinds.now in let o = reached r in
    let q = from (S.run_table_at (bound 128) kinds) r ∙ sym (onward-yes kinds o (wide (taken w))) in
    record {
      verdict_is = w.widened-w.ensures.verdict_is ∙ ap (λ o. o.verdict) q;
      pivots_are = w.widened-w.ensures.pivots_are ∙ ap (λ o. 200 - o.left) q;
      built_is =
          ap₂ ◌+◌ r.run-e.ensures.built_is
          (w.widened-w.ensures.built_is ∙ from (S.built_table_at (bound 128) kinds) r
          ∙ ap (λ (b : Bool). cond b (S.built_table_at (bound 128) kinds o.left o.rows o.place) 0) (sym (wide (taken w))));
    }

same-length-3 : tie.Need-shape_of-t
same-length-3 c = search rules

same-length-4 : tie.Need-shape_of-place
same-length-4 c = search rules

returns-2 : tie.Need-returns
unfolding both_table
returns-2 c =
    let r = ran c.before.before in let e = r.run-e.ensures in let o = reached r in let kinds = (begun r).args.kinds.now in
    let q = sym (onward-no kinds o (judged c)) in
    let b = ap (λ (b : Bool). cond b (S.built_table_at (bound 128) kinds o.left o.rows o.place) 0) (judged c) in
    record {
      verdict_is = e.verdict_is ∙ ap (λ o. o.verdict) q;
      pivots_are = e.pivots_are ∙ ap (λ o. 200 - o.left) q;
      built_is = omega (arith, e.built_is, b);
    }

pub run_both_spec : {M : Type 1} → statement M
run_both_spec =
    tie.close
    (tie.spec
    run-requires
    is-wide-requires
    sub-widened
    widened-requires
    add-built
    same_length
    same-length-2
    returns
    same-length-3
    same-length-4
    returns-2)
