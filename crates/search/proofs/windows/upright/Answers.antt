use Rattle.std.proofs.Common.{◌≡◌, Bool, true, false, ◌&&◌, List, [], ◌∷◌, ℕ, zero, suc, ◌+◌, ◌≤◌, ◌<◌}
use Rattle.std.proofs.Common.{ℤ, pos, length, get_or, drop, refl, sym, ap, ap₂, ◌∙◌, arith, rules}
use borrow.Author.Tests.{tests}
use mathlib.Core.Logic.{⊎_elim}
use lib.ListN.{drop_of_length-le}
use lib.Seq.{drop-cons}
use native.Mathlib.Numerals.{add-one}
use Rattle.std.specs.List.{zip, list_all}
use Rattle.std.proofs.lemmas.Iterator.{YieldsList-from_slice, YieldsList-from_zip}
use Rattle.std.proofs.lemmas.Iterator.Search.{all_from_yields_List}
use lib.Signed.{le_z}
use Rattle.integers.specs.Part.{lt-or-le}
use Rattle.enumeration.specs.Search.{box_of, upright}
use Rattle.search.proofs.Searching.{sides-next, sides-stop, sides-end}
use Rattle.search.proofs.windows.upright.Goals as goal

abbrev in_order : ℤ × ℤ → Bool
in_order side = le_z side.0 side.1

-- no side without a high end
no_sides : (u : List ℤ) → list_all in_order (zip u []) ≡ upright (box_of u [])
no_sides [] = refl
no_sides (x ∷ u) = refl

module _ (u v : List ℤ) where
  -- the sides from i on, as the iterator asks them and as a box
  abbrev ordered : ℕ → Bool
  ordered i = list_all in_order (zip (drop i u) (drop i v))

  abbrev rest : ℕ → Bool
  rest i = upright (box_of (drop i u) (drop i v))

  abbrev here : ℕ → Bool
  here i = le_z (get_or u i (pos 0)) (get_or v i (pos 0))

  past : (i : ℕ) → length v ≤ i → ordered i ≡ rest i
  past i h =
      let e : drop i v ≡ [] = drop_of_length-le v h in
      ap (λ (y : List ℤ). list_all in_order (zip (drop i u) y)) e ∙ no_sides (drop i u)
      ∙ ap (λ (y : List ℤ). upright (box_of (drop i u) y)) (sym e)

  -- the last n of u
  from : (n i : ℕ) → n + i ≡ length u → rest i ≡ upright (box_of u v) → ordered i ≡ upright (box_of u v)
  from zero i e g =
      ap (λ (x : List ℤ). list_all in_order (zip x (drop i v))) (drop_of_length-le u (omega arith))
      ∙ sides-end u v i g (omega arith)
  from (suc n) i e g =
      ⊎_elim
      (λ h.
      ap₂ (λ (x y : List ℤ). list_all in_order (zip x y)) (drop-cons u i (pos 0) (omega arith))
      (drop-cons v i (pos 0) h)
      ∙ ap (λ (j : ℕ). here i && ordered j) (sym (add-one i))
      ∙ by (here i) h refl (from n (i + 1) (omega arith)))
      (λ h. past i h ∙ g)
      (lt-or-le i (length v))
    where
      by : (b : Bool) → i < length v → here i ≡ b
          → (rest (i + 1) ≡ upright (box_of u v) → ordered (i + 1) ≡ upright (box_of u v))
          → (b && ordered (i + 1)) ≡ upright (box_of u v)
      by true h s next = next (sides-next u v i g (omega arith) h s)
      by false h s next = sides-stop u v i g (omega arith) h s

sides_in_order : (u v : List ℤ) → list_all in_order (zip u v) ≡ upright (box_of u v)
sides_in_order u v = from u v (length u) 0 (omega arith) refl

pub returns : goal.returns
returns c =
    all_from_yields_List {s = c.zip.result} in_order c.all.new.self _ c.all.result c.all.ensures.ran (YieldsList-from_zip (YieldsList-from_slice c.args.low cc) (YieldsList-from_slice c.args.high cc)) (λ x b q k. search (rules, tests))
    ∙ sides_in_order c.args.low c.args.high
