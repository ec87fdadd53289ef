-- The first point of a search has as many coordinates as there are axes, so that the answer is the definition's.
use mathlib.Core.Path.{◌≡◌, refl, ap, subst}
use mathlib.Core.List.{List, [], ◌∷◌}
use Prim.Native.Nat.{ℕ, zero, suc, ◌-◌, ◌≤◌}
use native.Mathlib.Omega.{arith}
use lib.IntN.{ℤ, pos}
use lib.ListN.{length, take, replicate}
use lib.Seq.{take-append_seam}
use Rattle.codec.specs.Bytes.{Answer, refused, gives}
use Rattle.enumeration.specs.Search.{at, nothing, spent, Found, Tallied, box_of, search_bytes}
use Rattle.search.specs.Sides.{answer_of, padded}
use Rattle.enumeration.proofs.Walks.{In}
use Rattle.enumeration.proofs.Searched.{searched, few-axes, search-says}
use Rattle.commands.specs.Found.{found_is}

box-point : (n : ℕ) (ls hs p : List ℤ) → n ≤ length ls → n ≤ length hs → In p (take n (box_of ls hs)) → length p ≡ n
box-point zero ls hs [] a b h = refl
box-point zero ls hs (z ∷ p) a b h = absurd h
box-point (suc n) [] hs p a b h = absurd (omega arith)
box-point (suc n) (l ∷ ls) [] p a b h = absurd (omega arith)
box-point (suc n) (l ∷ ls) (u ∷ hs) [] a b h = absurd h
box-point (suc n) (l ∷ ls) (u ∷ hs) (z ∷ p) a b h = ap suc (box-point n ls hs p (omega arith) (omega arith) h.1)

point-back : (n : ℕ) (p : List ℤ) → length p ≡ n → take n (padded p) ≡ p
point-back n p e = subst (λ (m : ℕ). take m (padded p) ≡ p) e (take-append_seam p (replicate (8 - length p) (pos 0)))

pub found-is : (n : ℕ) (s : List ℕ) (ls hs : List ℤ) (limit : ℕ) → length ls ≡ 8 → length hs ≡ 8 → found_is n (answer_of (search_bytes n s ls hs limit)) ≡ search_bytes n s ls hs limit
found-is n s ls hs limit a b = by (search_bytes n s ls hs limit) refl
  where
    found : (f : Found) (m : ℕ) → search_bytes n s ls hs limit ≡ gives (record { found = f; tested = m }) → found_is n (answer_of (gives (record { found = f; tested = m }))) ≡ gives (record { found = f; tested = m })
    found (at p) m e =
        let r = searched n s ls hs limit (record { found = at p; tested = m }) e in
        let l = (few-axes r (omega arith) (omega arith)).1 in
        ap (λ (q : List ℤ). gives (record { found = at q; tested = m })) (point-back n p (box-point n ls hs p (omega arith) (omega arith) (search-says r (omega arith) (omega arith)).0.0))
    found nothing m e = refl
    found spent m e = refl

    by : (x : Answer Tallied) → search_bytes n s ls hs limit ≡ x → found_is n (answer_of x) ≡ x
    by (refused k) e = refl
    by (gives t) e = found t.found t.tested e
