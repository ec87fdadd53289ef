use mathlib.Core.Path.{◌≡◌, sym, ◌∙◌}
use mathlib.Core.Bool.{true}
use Prim.Native.Nat.{◌<◌}
use native.Mathlib.Omega.{arith}
use native.Mathlib.Nat.{pos_of_ne-zero}
use lib.IntN.{pos}
use lib.Signed.{lt_z}
use borrow.Author.Tests.{not-true, not-false}
use borrow.Author.Rules.{rules}
use Rattle.wide.specs.Wide.{value_of}
use Rattle.extremes.proofs.Complement.{low-kept, low-zero, low-taken}
use Rattle.extremes.proofs.words.low.Statement.{statement}
use Rattle.extremes.proofs.words.low.Tie as tie

high_word : (c : tie.Start) → c.args.x.magnitude.hi < 18446744073709551616
high_word c = omega (arith, c.well_formed)

low_word : (c : tie.Start) → c.args.x.magnitude.lo < 18446744073709551616
low_word c = omega (arith, c.well_formed)

abbrev start : tie.Else-not-is_negative → tie.Start
start c = c.before.before.before

negative : (c : tie.Else-not-is_negative) → lt_z (value_of (start c).args.x) (pos 0) ≡ true
negative c = sym c.before.is_negative.ensures ∙ not-false _ c.if-not-is_negative.false-raw

is-negative-requires : tie.Need-is_negative-requires
is-negative-requires c κs = search rules

returns : tie.Need-returns-then-not-is_negative
returns c =
    let s = c.before.before.before in
    low-kept s.args.x (low_word s) (sym c.before.is_negative.ensures ∙ not-true _ c.if-not-is_negative.true-raw)

returns-2 : tie.Need-returns-then-l-eq0
returns-2 c = let s = start c.before in low-zero s.args.x (high_word s) (negative c.before) c.if-l-eq0.true

sub-result : tie.Need-overflow_sub-result
sub-result c = search rules

add-result : tie.Need-overflow_add-result
add-result c = search rules

returns-3 : tie.Need-returns
returns-3 c =
    let s = start c.before in
    low-taken s.args.x (high_word s) (negative c.before) (low_word s) (pos_of_ne-zero c.if-l-eq0.false)

pub low_spec : {M : Type 1} → statement M
low_spec = tie.close (tie.spec is-negative-requires returns returns-2 sub-result add-result returns-3)
