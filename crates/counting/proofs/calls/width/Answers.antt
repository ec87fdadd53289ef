use Rattle.std.proofs.Common.{◌≡◌, ◌+◌, [], ◌∷◌, length, get_or, sym, ap, ◌∙◌, subst, arith, rules}
use lib.IntN.{ℤ, pos, nat_abs, ◌-ℤ◌}
use mir.Syntax.{w32, w64}
use mir.Val.{SFits, to_z, of_z}
use Rattle.integers.specs.Lin.{fits, lin, lia-fits}
use Rattle.integers.specs.Mach.{Bits, b-op, is_lt, is_ge}
use Rattle.counting.proofs.Sides.{reads, width-shut, width-open}
use Rattle.counting.proofs.calls.width.Goals as goal

-- a number of 32 bits, read as one of 64
read-as : (r z : ℤ) → r ≡ to_z w32 (of_z w32 z) → SFits w32 z → Bits w64 (of_z w64 r) z
read-as r z e f = subst (λ (x : ℤ). Bits w64 (of_z w64 x) z) (sym e) (reads f)

difference : (a b : ℤ) → SFits w32 a → SFits w32 b → SFits w64 (b -ℤ a)
difference a b fa fb = lia-fits (a ∷ b ∷ []) (fits fa ∷ fits fb ∷ []) (search lin depth 30) (omega arith)

pub returns-then-high-low : goal.returns-then-high-low
returns-then-high-low c =
    let a = c.args in
    let h : length a.low ≡ 8 = search rules in let k : length a.high ≡ 8 = search rules in
    let fl : SFits w32 (get_or a.low a.i (pos 0)) = record { sfits = omega arith } in let fh : SFits w32 (get_or a.high a.i (pos 0)) = record { sfits = omega arith } in
    width-shut a.low a.high a.i (omega arith) (omega arith) (is_lt (read-as _ _ c.from-high.ensures fh) (read-as _ _ c.from-low.ensures fl) c.if-high-low.true)

pub returns-else-high-low : goal.returns-else-high-low
returns-else-high-low c =
    let a = c.args in
    let h : length a.low ≡ 8 = search rules in let k : length a.high ≡ 8 = search rules in
    let low : ℤ = get_or a.low a.i (pos 0) in let high : ℤ = get_or a.high a.i (pos 0) in
    let fl : SFits w32 low = record { sfits = omega arith } in let fh : SFits w32 high = record { sfits = omega arith } in
    let bl = read-as c.from-low.result low c.from-low.ensures fl in let bh = read-as c.from-high.result high c.from-high.ensures fh in
    ap (λ (z : ℤ). nat_abs z + 1) (b-op bh bl ◌-ℤ◌ (difference low high fl fh)).is
    ∙ width-open a.low a.high a.i (omega arith) (omega arith) (is_ge bh bl c.if-high-low.false)
