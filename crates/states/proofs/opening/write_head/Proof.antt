-- `states::opening::write_head` meets its contract. Assumes nothing.
use Prim.Native.Nat.{◌*◌}
use lib.ListN.{length-set}
use lib.Seq.{sets-eq}
use mathlib.Core.List.{[], ◌∷◌}
use native.Mathlib.Omega.{arith}
use borrow.Author.Rules.{rules}
use Rattle.states.proofs.opening.write_head.Statement.{statement}
use Rattle.states.proofs.opening.write_head.Tie as tie

slice-write-heads : tie.Need-bounds-heads-0
slice-write-heads c = search rules

slice-write-heads-2 : tie.Need-bounds-heads-1
slice-write-heads-2 c = simp length-set (omega (arith, c.requires.0))

slice-write-heads-3 : tie.Need-bounds-heads-2
slice-write-heads-3 c = simp length-set (omega (arith, c.requires.0))

mul-heads : tie.Need-overflow_mul-heads
mul-heads c = search rules

slice-write-heads-4 : tie.Need-bounds-heads-3
slice-write-heads-4 c = simp length-set (omega (arith, c.requires.0))

slice-write-heads-5 : tie.Need-bounds-heads-4
slice-write-heads-5 c = simp length-set (omega (arith, c.requires.0))

same_length : tie.Need-shape_of-heads
same_length c = search rules

returns : tie.Need-returns
returns c = sets-eq (c.args.n ∷ c.args.k ∷ 0 ∷ (2 * c.args.k) ∷ c.args.w ∷ []) c.args.heads.now 0 c.requires.0

pub write_head_spec : {M : Type 1} → statement M
write_head_spec =
    tie.close
    (tie.spec
    slice-write-heads
    slice-write-heads-2
    slice-write-heads-3
    mul-heads
    slice-write-heads-4
    slice-write-heads-5
    same_length
    returns)
