use Rattle.std.proofs.Common.{◌≡◌, ◌-◌, ◌<◌, ◌≤◌, ℕ, List, ◌++◌, true, length, take, drop, replicate, get_or, sym, ap, ap₂, subst, ◌∙◌, arith, rules}
use Rattle.std.proofs.lemmas.Result.{err_from_is_err_and}
use mathlib.Core.Option.{some}
use borrow.Author.Tests.{lt-leb, le-leb}
use lib.IntN.{ℤ, pos}
use lib.ListN.{length-take}
use mir.Syntax.{w32, w64}
use mir.Val.{SFits, to_z, of_z}
use Rattle.integers.specs.Z.{Within}
use Rattle.codec.specs.Places.{set_from}
use Rattle.query.proofs.Answers.{axes-most}
use Rattle.enumeration.specs.Search.{box_of, width}
use Rattle.enumeration.specs.Counting.{members_in, counts_from, side_at, axis_fits}
use Rattle.enumeration.proofs.CountAnswers.{axis-is, counts-refused, counts-room, counts-gives}
use Rattle.counting.specs.Answers.{counted_is}
use Rattle.counting.specs.Calls.{Checked, Ended}
use Rattle.counting.specs.declared.levels.Chosen.{Chosen}
use Rattle.counting.proofs.Sides.{reads, low-at, width-take}
use Rattle.counting.proofs.Zeros.{zeros-take, zeros-drop}
use Rattle.counting.proofs.Calling.{first-within, asked-axis, asked-limit, asked-gives, refused-table, ended-answer, ended-table}
use Rattle.counting.proofs.calls.counts.Goals as goal

pub returns-in_err-check-clause-is : goal.returns-in_err-check-clause-is
returns-in_err-check-clause-is c =
    let a = c.args in let p = err_from_is_err_and c.from_residual.result c.from_residual.ensures.1 in
    rw (p.1, p.2) (ap counted_is (sym (counts-refused a.n (length a.each.now) a.set.now a.lows a.highs a.axis a.limit _ (c.in_err-check.ensures (some a.axis) a.limit))))

pub returns-in_err-check-clause-table : goal.returns-in_err-check-clause-table
returns-in_err-check-clause-table c =
    let a = c.args in
    refused-table (length a.each.now) _ _ (counts-refused a.n (length a.each.now) a.set.now a.lows a.highs a.axis a.limit _ (c.in_err-check.ensures (some a.axis) a.limit)) _ (c.fill.ensures.after (λ y e. e))

pub axis_fits-requires : goal.axis_fits-requires
axis_fits-requires c = let a = c.args in axes-most a.n a.set.now c.in_ok-check.ensures.accepted

pub returns-then-not-axis_fits-clause-is : goal.returns-then-not-axis_fits-clause-is
returns-then-not-axis_fits-clause-is c =
    let a = c.args in
    ap counted_is (sym (counts-refused a.n (length a.each.now) a.set.now a.lows a.highs a.axis a.limit _ (asked-axis a.n a.set.now a.lows a.highs c.in_ok-check.ensures (some a.axis) a.limit (sym c.if-not-axis_fits.ensures))))

pub returns-then-not-axis_fits-clause-table : goal.returns-then-not-axis_fits-clause-table
returns-then-not-axis_fits-clause-table c =
    let a = c.args in
    refused-table (length a.each.now) _ _
    (counts-refused a.n (length a.each.now) a.set.now a.lows a.highs a.axis a.limit _ (asked-axis a.n a.set.now a.lows a.highs c.in_ok-check.ensures (some a.axis) a.limit (sym c.if-not-axis_fits.ensures))) _ (c.fill.ensures.after (λ y e. e))

pub returns-then-not-limit_fits-clause-is : goal.returns-then-not-limit_fits-clause-is
returns-then-not-limit_fits-clause-is c =
    let a = c.args in
    ap counted_is (sym (counts-refused a.n (length a.each.now) a.set.now a.lows a.highs a.axis a.limit _ (asked-limit a.n a.set.now a.lows a.highs c.in_ok-check.ensures (some a.axis) a.limit (sym c.if-not-axis_fits.ensures) (sym c.if-not-limit_fits.ensures))))

pub returns-then-not-limit_fits-clause-table : goal.returns-then-not-limit_fits-clause-table
returns-then-not-limit_fits-clause-table c =
    let a = c.args in
    refused-table (length a.each.now) _ _
    (counts-refused a.n (length a.each.now) a.set.now a.lows a.highs a.axis a.limit _ (asked-limit a.n a.set.now a.lows a.highs c.in_ok-check.ensures (some a.axis) a.limit (sym c.if-not-axis_fits.ensures) (sym c.if-not-limit_fits.ensures))) _ (c.fill.ensures.after (λ y e. e))

pub width-values-requires : goal.width-values-requires
width-values-requires c =
    let a = c.args in let m = axes-most a.n a.set.now c.in_ok-check.ensures.accepted in let r = axis-is a.n a.axis (take a.n (box_of a.lows a.highs)) (sym c.if-not-axis_fits.ensures) in
    let x = r.0 in let y = r.1 in omega arith

-- where the axis is one of n, at most eight
inside : (n axis : ℕ) (s : List ℕ) (lows highs : List ℤ) → Checked n s lows highs → axis_fits n (some axis) (take n (box_of lows highs)) ≡ true → (axis - 1 < n) × (axis - 1 < 8)
inside n axis s lows highs k f = let m = axes-most n s k.accepted in let r = axis-is n axis (take n (box_of lows highs)) f in let x = r.0 in let y = r.1 in (omega arith, omega arith)

pub returns-then-each-values-clause-is : goal.returns-then-each-values-clause-is
returns-then-each-values-clause-is c =
    let a = c.args in let k = c.in_ok-check.ensures in let i = inside a.n a.axis a.set.now a.lows a.highs k (sym c.if-not-axis_fits.ensures) in
    let given = asked-gives a.n a.set.now a.lows a.highs k (some a.axis) a.limit (sym c.if-not-axis_fits.ensures) (sym c.if-not-limit_fits.ensures) in
    let many = c.width-values.ensures ∙ width-take a.n (a.axis - 1) a.lows a.highs i.0 in
    let values = width (side_at (a.axis - 1) (take a.n (box_of a.lows a.highs))) in
    let l = c.fill.ensures.len in let x : length a.each.now < values = omega (arith, c.if-each-values.true) in
    ap counted_is (sym (counts-room a.n (length a.each.now) a.set.now a.lows a.highs a.axis a.limit _ given (lt-leb values (length a.each.now) x)))

pub returns-then-each-values-clause-table : goal.returns-then-each-values-clause-table
returns-then-each-values-clause-table c =
    let a = c.args in let k = c.in_ok-check.ensures in let i = inside a.n a.axis a.set.now a.lows a.highs k (sym c.if-not-axis_fits.ensures) in
    let given = asked-gives a.n a.set.now a.lows a.highs k (some a.axis) a.limit (sym c.if-not-axis_fits.ensures) (sym c.if-not-limit_fits.ensures) in
    let many = c.width-values.ensures ∙ width-take a.n (a.axis - 1) a.lows a.highs i.0 in
    let values = width (side_at (a.axis - 1) (take a.n (box_of a.lows a.highs))) in
    let l = c.fill.ensures.len in let x : length a.each.now < values = omega (arith, c.if-each-values.true) in
    refused-table (length a.each.now) _ _ (counts-room a.n (length a.each.now) a.set.now a.lows a.highs a.axis a.limit _ given (lt-leb values (length a.each.now) x)) _ (c.fill.ensures.after (λ y e. e))

pub offset_bounds-lows-i : goal.offset_bounds-lows-i
offset_bounds-lows-i c = let a = c.args in let i = inside a.n a.axis a.set.now a.lows a.highs c.in_ok-check.ensures (sym c.if-not-axis_fits.ensures) in let x = i.1 in omega arith

pub bounds-lows-i : goal.bounds-lows-i
bounds-lows-i c = let a = c.args in let i = inside a.n a.axis a.set.now a.lows a.highs c.in_ok-check.ensures (sym c.if-not-axis_fits.ensures) in let x = i.1 in omega arith

-- a number of 32 bits, read as one of 64
read-as : (r z : ℤ) → r ≡ to_z w32 (of_z w32 z) → SFits w32 z → to_z w64 (of_z w64 r) ≡ z
read-as r z e f = ap (λ (x : ℤ). to_z w64 (of_z w64 x)) e ∙ (reads f).is

pub ended-requires : goal.ended-requires
ended-requires c =
    let a = c.args in let k = c.in_ok-check.ensures in let i = inside a.n a.axis a.set.now a.lows a.highs k (sym c.if-not-axis_fits.ensures) in let x = i.1 in
    let fl : SFits w32 (get_or a.lows (a.axis - 1) (pos 0)) = record { sfits = omega arith } in
    let v = c.width-values.result in (
      k,
      record {
        axis = omega arith;
        first = subst (Within 1048576) (sym (read-as _ _ c.from-first.ensures fl)) (first-within a.n a.set.now a.lows a.highs k (a.axis - 1));
        none = subst (λ (l : List ℕ). take v l ≡ replicate (length (take v l)) 0) (sym (c.fill.ensures.after (λ y e. e))) (zeros-take (length a.each.now) v);
      },
    )

pub returns-clause-is : goal.returns-clause-is
returns-clause-is c =
    let a = c.args in let k = c.in_ok-check.ensures in let i = inside a.n a.axis a.set.now a.lows a.highs k (sym c.if-not-axis_fits.ensures) in let x = i.1 in
    let s = set_from a.set.now 0 in let box = take a.n (box_of a.lows a.highs) in let axis = a.axis - 1 in
    let v : ℕ = c.width-values.result in let ys : List ℕ = c.ended.new.each in let size = length a.each.now in
    let given = asked-gives a.n a.set.now a.lows a.highs k (some a.axis) a.limit (sym c.if-not-axis_fits.ensures) (sym c.if-not-limit_fits.ensures) in
    let many : v ≡ width (side_at axis box) = c.width-values.ensures ∙ width-take a.n axis a.lows a.highs i.0 in
    let l = c.fill.ensures.len in let room : v ≤ size = omega (arith, c.if-each-values.false) in
    let h : length a.lows ≡ 8 = search rules in let j : length a.highs ≡ 8 = search rules in
    let fl : SFits w32 (get_or a.lows axis (pos 0)) = record { sfits = omega arith } in
    let chosen : Chosen = record { axis = axis; first = to_z w64 (of_z w64 c.from-first.result) } in
    let same = λ (ps : List (List ℤ)). ap₂ (counts_from axis ps) many (read-as _ _ c.from-first.ensures fl ∙ low-at a.lows a.highs axis (omega arith) (omega arith) a.n i.0) in
    let told = counts-gives a.n size a.set.now a.lows a.highs a.axis a.limit _ given (le-leb (width (side_at axis box)) size (omega arith)) in
    let part : v ≡ length (take v c.fill.new.self) = omega (arith, length-take v c.fill.new.self) in
    let e : Ended a.limit chosen (members_in s box) v c.ended.result ys = subst (λ (n : ℕ). Ended a.limit chosen (members_in s box) n c.ended.result ys) (sym part) c.ended.ensures in
    ended-answer s box (some a.axis) a.limit chosen v same _ told _ _ e

pub returns-clause-table : goal.returns-clause-table
returns-clause-table c =
    let a = c.args in let k = c.in_ok-check.ensures in let i = inside a.n a.axis a.set.now a.lows a.highs k (sym c.if-not-axis_fits.ensures) in let x = i.1 in
    let s = set_from a.set.now 0 in let box = take a.n (box_of a.lows a.highs) in let axis = a.axis - 1 in
    let v : ℕ = c.width-values.result in let ys : List ℕ = c.ended.new.each in let size = length a.each.now in
    let given = asked-gives a.n a.set.now a.lows a.highs k (some a.axis) a.limit (sym c.if-not-axis_fits.ensures) (sym c.if-not-limit_fits.ensures) in
    let many : v ≡ width (side_at axis box) = c.width-values.ensures ∙ width-take a.n axis a.lows a.highs i.0 in
    let l = c.fill.ensures.len in let room : v ≤ size = omega (arith, c.if-each-values.false) in
    let h : length a.lows ≡ 8 = search rules in let j : length a.highs ≡ 8 = search rules in
    let fl : SFits w32 (get_or a.lows axis (pos 0)) = record { sfits = omega arith } in
    let chosen : Chosen = record { axis = axis; first = to_z w64 (of_z w64 c.from-first.result) } in
    let same = λ (ps : List (List ℤ)). ap₂ (counts_from axis ps) many (read-as _ _ c.from-first.ensures fl ∙ low-at a.lows a.highs axis (omega arith) (omega arith) a.n i.0) in
    let told = counts-gives a.n size a.set.now a.lows a.highs a.axis a.limit _ given (le-leb (width (side_at axis box)) size (omega arith)) in
    let part : v ≡ length (take v c.fill.new.self) = omega (arith, length-take v c.fill.new.self) in
    let e : Ended a.limit chosen (members_in s box) v c.ended.result ys = subst (λ (n : ℕ). Ended a.limit chosen (members_in s box) n c.ended.result ys) (sym part) c.ended.ensures in
    ap (λ (l : List ℕ). ys ++ l) (ap (drop v) (c.fill.ensures.after (λ y e. e)) ∙ zeros-drop size v) ∙ ended-table s box (some a.axis) a.limit chosen v same _ told size room _ _ e
