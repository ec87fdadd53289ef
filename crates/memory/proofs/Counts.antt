-- How many names are marked, and the ranks behind the heads. Assumes nothing.
use mathlib.Core.Path.{◌≡◌, refl, ap, ◌∙◌}
use mathlib.Core.Bool.{Bool, true, false, cond, not}
use mathlib.Core.List.{List, ◌++◌, append-nil}
use Prim.Native.Nat.{ℕ, ◌+◌, ◌-◌, ◌≤◌}
use native.Mathlib.Omega.{arith}
use lib.Dec.{eqb}
use lib.ListN.{length, take, drop, length-drop, drop_of_length-le}
use lib.Seq.{take_all}
use Rattle.std.specs.List.{count_by}
use Rattle.std.proofs.lemmas.List.Recursion.{is_count_by}
use Rattle.memory.specs.Memory.{with_ranks, marks}

counts-one : (b : Bool) (n : ℕ) → cond b 0 1 + n ≡ cond (not b) (1 + n) n
counts-one true n = omega arith
counts-one false n = refl

pub marks-count : (r : List ℕ) → marks r ≡ count_by (λ x. not (eqb x 0)) r
unfolding marks
marks-count r = is_count_by marks (λ x. not (eqb x 0)) refl (λ x r. counts-one (eqb x 0) (marks r)) r

-- the part behind the heads, changed and put back
pub put-ranks : (f : List ℕ → List ℕ) (h n : List ℕ) → n ≡ f (take (length h - 85) (drop 85 h)) → take 85 h ++ (n ++ drop (length h - 85) (drop 85 h)) ≡ with_ranks f h
put-ranks f h n e =
    let l = length-drop 85 h in
    let a : length (drop 85 h) ≤ length h - 85 = omega arith in
    ap (λ m. take 85 h ++ (n ++ m)) (drop_of_length-le (drop 85 h) a) ∙ ap (λ m. take 85 h ++ m) (append-nil n ∙ e ∙ ap f (take_all (length h - 85) (drop 85 h) a))
