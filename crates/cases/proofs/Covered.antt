-- A search over a difference, on bytes: none exactly when every point of the first set in the box is in the second.
use mathlib.Core.Path.{◌≡◌, sym, ap, ◌∙◌, subst}
use mathlib.Core.Bool.{not, ◌&&◌}
use mathlib.Core.List.{List, ◌∷◌}
use Prim.Native.Nat.{ℕ, ◌≤◌, ◌<◌}
use native.Mathlib.Omega.{arith}
use lib.Dec.{T}
use lib.IntN.{ℤ}
use lib.ListN.{length, take, length-take}
use Rattle.model.specs.Sets.{Set, in_set}
use Rattle.model.specs.Existential.{ExistsIn}
use Rattle.codec.specs.Bytes.{Answer, gives, decode}
use Rattle.codec.proofs.Decoded.{Bytes}
use Rattle.algebra.specs.Cut.{keeps, difference}
use Rattle.algebra.specs.Operations.{difference_bytes}
use Rattle.algebra.proofs.Contracts.{Operation, difference-bytes}
use Rattle.query.proofs.Means.{decoded-means}
use Rattle.enumeration.specs.Search.{Interval, nothing, spent, Tallied, search_box, box_of, search_bytes}
use Rattle.enumeration.proofs.Walks.{In}
use Rattle.enumeration.proofs.Searched.{Searched, searched, sides, few-axes, none-covered, covered_none}

module _ (n room : ℕ) (a b c : List ℕ) (pa : Bytes a) (pb : Bytes b) (cut : difference_bytes n room a b ≡ gives c)
    (ls hs : List ℤ) (limit : ℕ) (t : Tallied) (l : length ls ≡ 8) (h : length hs ≡ 8) (asked : search_bytes n c ls hs limit ≡ gives t) where
  op : Operation (difference keeps) (λ p q. p && not q) n a b c
  op = difference-bytes n room a b c pa pb cut

  r : Searched n c ls hs limit t
  r = searched n c ls hs limit t asked

  -- every point of the first set in the box is, with FPL's meaning, in the second
  abbrev pub Covers : Set → Set → Type 0
  Covers s u = (x : List ℤ) → In x (take n (box_of ls hs)) → ExistsIn x s → ExistsIn x u

  some-low : 0 < length ls
  some-low = omega arith

  some-high : 0 < length hs
  some-high = omega arith

  given : {s u : Set} → ◌≡◌ {A = Answer Set} (gives s) (gives u) → s ≡ u
  given e = cc

  points : (x : List ℤ) → length x ≤ 8 → in_set x r.s ≡ (in_set x op.s && not (in_set x op.t))
  points x k = ap (in_set x) (given (sym r.decoded ∙ op.result)) ∙ op.points x k

  side : Interval
  side = (sides r some-low some-high).0

  others : List Interval
  others = (sides r some-low some-high).1

  box-is : take n (box_of ls hs) ≡ side ∷ others
  unfolding side others
  box-is = (sides r some-low some-high).2

  few : length (side ∷ others) ≤ 8
  few = subst (λ (bs : List Interval). length bs ≤ 8) box-is (few-take n (box_of ls hs) (few-axes r some-low some-high).1)
    where
      few-take : (n : ℕ) (l : List Interval) → n ≤ 8 → length (take n l) ≤ 8
      few-take n l k = omega (arith, length-take n l)

  answer-is : search_box r.s (side ∷ others) limit ≡ t
  answer-is = ap (λ (bs : List Interval). search_box r.s bs limit) (sym box-is) ∙ r.answer

  pub none-then-covered : t.found ≡ nothing → (s u : Set) → decode n a ≡ gives s → decode n b ≡ gives u → Covers s u
  none-then-covered e s u p q x i w =
      (decoded-means n b u q x).0
      (subst (λ (v : Set). T (in_set x v)) (given (sym op.second ∙ q))
      (none-covered r.s op.s op.t r.formed points side others few limit (ap (λ (v : Tallied). v.found) answer-is ∙ e) x (subst (In x) box-is i)
      (subst (λ (v : Set). T (in_set x v)) (given (sym p ∙ op.first)) ((decoded-means n a s p x).1 w))))

  pub covered-then-none : ¬ (t.found ≡ spent) → (s u : Set) → decode n a ≡ gives s → decode n b ≡ gives u → Covers s u → t.found ≡ nothing
  covered-then-none unspent s u p q f =
      ap (λ (v : Tallied). v.found) (sym answer-is)
      ∙ covered_none r.s op.s op.t r.formed points side others few limit (λ e. unspent (ap (λ (v : Tallied). v.found) (sym answer-is) ∙ e))
      (λ x i w.
      subst (λ (v : Set). T (in_set x v)) (given (sym q ∙ op.second))
      ((decoded-means n b u q x).1 (f x (subst (In x) (sym box-is) i) ((decoded-means n a s p x).0 (subst (λ (v : Set). T (in_set x v)) (given (sym op.first ∙ p)) w)))))
