-- A test of every element, as `all` of std answers it and as the definitions say it; of a range's places. Assumes nothing.
use mathlib.Core.Path.{◌≡◌, refl, sym, ap, ◌∙◌}
use mathlib.Core.Bool.{Bool, ◌&&◌}
use mathlib.Core.List.{List, [], ◌∷◌}
use Prim.Native.Nat.{ℕ, zero, suc, ◌+◌, ◌-◌}
use native.Mathlib.Numerals.{add-one}
use native.Mathlib.Omega.{arith}
use lib.ListN.{length, drop, get_or, drop_of_length-le}
use lib.Seq.{drop-cons}
use Rattle.std.specs.List.{list_all, range_with_len}
use Rattle.model.specs.Lists.{all}

pub all-of_list : {A : Type 0} (f : A → Bool) (l : List A) → list_all f l ≡ all f l
all-of_list f [] = refl
all-of_list f (a ∷ l) = ap (λ b. f a && b) (all-of_list f l)

-- the elements from place i on, by their places
pub all-places : {A : Type 0} (f : A → Bool) (d : A) (l : List A) (m i : ℕ) → m ≡ length l - i → list_all (λ j. f (get_or l j d)) (range_with_len i m) ≡ all f (drop i l)
all-places f d l zero i e = sym (ap (all f) (drop_of_length-le l (omega arith)))
all-places f d l (suc m) i e =
    ap (λ b. f (get_or l i d) && b) (all-places f d l m (i + 1) (omega arith))
    ∙ sym (ap (all f) (drop-cons l i d (omega arith) ∙ ap (λ j. get_or l i d ∷ drop j l) (sym (add-one i))))
