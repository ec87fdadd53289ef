use Rattle.std.proofs.Common.{◌≡◌, ◌∙◌, refl, sym, ap, ℕ, zero, suc, ◌+◌, ◌≤◌, ◌<◌, List, [], ◌∷◌, ℤ, pos}
use Rattle.std.proofs.Common.{length, get_or, take, drop, rules, arith}
use Rattle.std.proofs.Math.Bool.{Bool, true, false, ◌||◌, or-true, or-false}
use Rattle.std.proofs.Math.Seq.{take-suc}
use Rattle.std.proofs.lemmas.List.Folds.{list_any-append}
use native.Mathlib.Numerals.{add-one}
use Rattle.model.specs.Lists.{any}
use Rattle.joining.specs.Joining.{is_unit}
use Rattle.joining.proofs.Dividing.{found-yes, found-no, found-end}
use Rattle.joining.proofs.tightening.unit_in.Goals as goal

module _ (xs : List ℤ) where
  abbrev first : ℕ → Bool
  first i = any is_unit (take i xs)

  abbrev others : ℕ → Bool
  others i = any is_unit (drop i xs)

  abbrev here : ℕ → Bool
  here i = is_unit (get_or xs i (pos 0))

  first-more : (i : ℕ) → i < length xs → first (suc i) ≡ (first i || here i)
  first-more i h =
      ap (any is_unit) (take-suc xs i (pos 0) h) ∙ list_any-append is_unit (take i xs) (get_or xs i (pos 0) ∷ [])
      ∙ ap (λ (b : Bool). first i || b) (or-false (here i))

  with-next : (i : ℕ) → i < length xs → (b : Bool) → here i ≡ b
      → ((first i || b) || others (i + 1)) ≡ (first i || others i)
  with-next i h true e = rw or-true (sym (found-yes is_unit xs i h (first i) e))
  with-next i h false e = rw or-false (found-no is_unit xs i h (first i) e)

  -- one of the first i, or one of the others
  parted : (i : ℕ) → i ≤ length xs → (first i || others i) ≡ any is_unit xs
  parted zero h = refl
  parted (suc i) h =
      ap (λ (b : Bool). b || others (suc i)) (first-more i (omega arith))
      ∙ ap (λ (j : ℕ). (first i || here i) || others j) (sym (add-one i))
      ∙ with-next i (omega arith) (here i) refl ∙ parted i (omega arith)

pub returns : goal.returns
returns c =
    let l : length c.args.xs ≡ 8 = search rules in
    let i = c.loop-x.x-index in
    sym (found-end c.loop-x.found is_unit c.args.xs i (omega arith))
    ∙ ap (λ (b : Bool). b || any is_unit (drop i c.args.xs)) c.loop-x.invariant ∙ parted c.args.xs i (omega arith)
