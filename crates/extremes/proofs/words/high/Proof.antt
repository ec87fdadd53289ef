use mathlib.Core.Path.{◌≡◌, sym, ◌∙◌}
use mathlib.Core.Bool.{true}
use Prim.Native.Nat.{ℕ, ◌+◌, ◌-◌, ◌<◌}
use native.Mathlib.Omega.{arith}
use native.Mathlib.Nat.{pos_of_ne-zero}
use lib.IntN.{pos}
use lib.Signed.{lt_z}
use mir.Syntax.{w64}
use mir.Val.{Fits}
use borrow.Author.Tests.{not-true, not-false}
use borrow.Author.Rules.{rules}
use Rattle.wide.specs.Wide.{value_of}
use Rattle.extremes.proofs.Complement.{high-kept, some-high, high-even, high_taken}
use Rattle.extremes.proofs.words.high.Statement.{statement}
use Rattle.extremes.proofs.words.high.Tie as tie

high_word : (c : tie.Start) → c.args.x.magnitude.hi < 18446744073709551616
high_word c = omega (arith, c.well_formed)

low_word : (c : tie.Start) → c.args.x.magnitude.lo < 18446744073709551616
low_word c = omega (arith, c.well_formed)

abbrev start : tie.Else-not-is_negative → tie.Start
start c = c.before.before.before

negative : (c : tie.Else-not-is_negative) → lt_z (value_of (start c).args.x) (pos 0) ≡ true
negative c = sym c.before.is_negative.ensures ∙ not-false _ c.if-not-is_negative.false-raw

is-negative-requires : tie.Need-is_negative-requires
is-negative-requires c κs = search rules

returns : tie.Need-returns-then-not-is_negative
returns c =
    let s = c.before.before.before in
    high-kept s.args.x (low_word s) (sym c.before.is_negative.ensures ∙ not-true _ c.if-not-is_negative.true-raw)

sub-result : tie.Need-overflow_sub-result
sub-result c = search rules

-- one more than what a word leaves
more : (h : ℕ) → 0 < h → Fits w64 (18446744073709551615 - h + 1)
more h k = omega arith

add-result : tie.Need-overflow_add-result
add-result c =
    let s = start c.before in
    more s.args.x.magnitude.hi (some-high s.args.x (high_word s) (negative c.before) c.if-l-eq0.true)

returns-2 : tie.Need-returns-then-l-eq0
returns-2 c = let s = start c.before in high-even s.args.x (high_word s) (negative c.before) c.if-l-eq0.true

sub-result-2 : tie.Need-overflow_sub-result-2
sub-result-2 c = search rules

returns-3 : tie.Need-returns
returns-3 c =
    let s = start c.before in
    high_taken s.args.x (high_word s) (negative c.before) (low_word s) (pos_of_ne-zero c.if-l-eq0.false)

pub high_spec : {M : Type 1} → statement M
high_spec =
    tie.close
    (tie.spec is-negative-requires returns sub-result add-result returns-2 sub-result-2 returns-3)
