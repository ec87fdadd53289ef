-- The first point of the search is the first of the members that a count meets.
use mathlib.Core.Path.{◌≡◌, refl, sym, ap, ◌∙◌}
use mathlib.Core.Bool.{Bool, true, false, cond}
use mathlib.Core.List.{List, [], ◌∷◌, ◌++◌}
use mathlib.Core.Option.{Option, none, some}
use Prim.Native.Nat.{ℕ, zero, suc, ◌+◌, ◌≤◌, ◌<◌, suc-le-suc}
use native.Mathlib.Nat.{le_refl}
use native.Mathlib.Omega.{arith}
use lib.IntN.{ℤ, pos, ◌+ℤ◌}
use lib.ListN.{take}
use Rattle.model.specs.Sets.{Set}
use Rattle.codec.specs.Bytes.{Answer, gives}
use Rattle.enumeration.specs.Search.{Interval, box_of, passes, width, Walk, or_else, upward, walk, Tallied, found_of, upright, search_box, search_bytes}
use Rattle.enumeration.proofs.Searched.{Walked, closed, within, beyond, walked, searched}
use Rattle.enumeration.specs.Counting.{Members, no_members, each_upward, members, members_in, counted, Tally, count_box}
use Rattle.enumeration.proofs.CountAnswers.{Asked}
use Rattle.enumeration.proofs.Counted.{counts-are}

abbrev pub head_of : List (List ℤ) → Option (List ℤ)
head_of [] = none
head_of (p ∷ ps) = some p

module _ (ok : ℤ → Bool) (w : ℤ → Walk) (m : ℤ → Members) where
  first-values : ((x : ℤ) → (w x).found ≡ head_of (m x).points) → (k : ℕ) (x : ℤ) → (upward ok w k x).found ≡ head_of (each_upward ok m k x).points
  first-values same zero x = refl
  first-values same (suc k) x = by (ok x) refl (first-values same k (x +ℤ pos 1))
    where
      either : (l r : List (List ℤ)) (v : Walk) → (w x).found ≡ head_of l → v.found ≡ head_of r → (or_else (w x) v).found ≡ head_of (l ++ r)
      either [] r v e h = rw (e, or_else) h
      either (p ∷ l) r v e h = rw (e, or_else) e

      by : (c : Bool) → ok x ≡ c → (upward ok w k (x +ℤ pos 1)).found ≡ head_of (each_upward ok m k (x +ℤ pos 1)).points → (upward ok w (suc k) x).found ≡ head_of (each_upward ok m (suc k) x).points
      by true e r = rw (e, upward, each_upward) (either (m x).points (each_upward ok m k (x +ℤ pos 1)).points (upward ok w k (x +ℤ pos 1)) (same x) r)
      by false e r = rw (e, upward, each_upward) r

  fewer-values : ((x : ℤ) → (w x).tested ≤ (m x).tested) → (k : ℕ) (x : ℤ) → (upward ok w k x).tested ≤ (each_upward ok m k x).tested
  fewer-values less zero x = le_refl 0
  fewer-values less (suc k) x = by (ok x) refl (fewer-values less k (x +ℤ pos 1))
    where
      either : (o : Option (List ℤ)) → (w x).found ≡ o → (v : Walk) (n : ℕ) → v.tested ≤ n → (or_else (w x) v).tested ≤ (m x).tested + n
      either none e v n h = let l = less x in rw (e, or_else) (omega arith)
      either (some p) e v n h = let l = less x in rw (e, or_else) (omega arith)

      by : (c : Bool) → ok x ≡ c → (upward ok w k (x +ℤ pos 1)).tested ≤ (each_upward ok m k (x +ℤ pos 1)).tested → (upward ok w (suc k) x).tested ≤ (each_upward ok m (suc k) x).tested
      by true e r = rw (e, upward, each_upward) (suc-le-suc (either (w x).found refl (upward ok w k (x +ℤ pos 1)) (each_upward ok m k (x +ℤ pos 1)).tested r))
      by false e r = rw (e, upward, each_upward) (suc-le-suc r)

pub first-of-members : (s : Set) (bs : List Interval) (p : List ℤ) → (walk s p bs).found ≡ head_of (members s p bs).points
unfolding walk members
first-of-members s [] p = refl
first-of-members s (b ∷ bs) p =
    first-values (λ (x : ℤ). passes s (p ++ (x ∷ [])) bs) (λ (x : ℤ). walk s (p ++ (x ∷ [])) bs) (λ (x : ℤ). members s (p ++ (x ∷ [])) bs) (λ x. first-of-members s bs (p ++ (x ∷ []))) (width b) b.low

-- the search tests no more prefixes than the count
pub search-fewer : (s : Set) (bs : List Interval) (p : List ℤ) → (walk s p bs).tested ≤ (members s p bs).tested
unfolding walk members
search-fewer s [] p = le_refl 0
search-fewer s (b ∷ bs) p =
    fewer-values (λ (x : ℤ). passes s (p ++ (x ∷ [])) bs) (λ (x : ℤ). walk s (p ++ (x ∷ [])) bs) (λ (x : ℤ). members s (p ++ (x ∷ [])) bs) (λ x. search-fewer s bs (p ++ (x ∷ []))) (width b) b.low

-- where a limit is enough for the count it is for the search, which finds the first member, or nothing where there is none
pub search-first : (s : Set) (box : List Interval) (axis : Option ℕ) (limit w : ℕ) (cs : List ℕ) → (count_box s box axis limit).count ≡ counted w cs
    → (search_box s box limit).found ≡ found_of (head_of (members_in s box).points)
search-first s box axis limit w cs e = by (search_box s box limit) (walked s box limit)
  where
    are : (c : Bool) → upright box ≡ c → members_in s box ≡ cond c (members s [] box) no_members
    are c u = ap (λ (b : Bool). cond b (members s [] box) no_members) u

    more : (i j k : ℕ) → i ≤ j → j ≤ limit → limit < i → ⊥
    more i j k p q r = omega arith

    by : (t : Tallied) → Walked s box limit t → t.found ≡ found_of (head_of (members_in s box).points)
    by _ (closed u) = ap (λ (m : Members). found_of (head_of m.points)) (sym (are false u))
    by _ (within u h) = ap found_of (first-of-members s box []) ∙ ap (λ (m : Members). found_of (head_of m.points)) (sym (are true u))
    by _ (beyond u h) =
        let c = counts-are s box axis limit w cs e in
        let q : (members s [] box).tested ≤ limit = enough c.tally c.enough in
        absurd (more (walk s [] box).tested (members s [] box).tested 0 (search-fewer s box []) q h)
      where
        enough : {t : ℕ} → t ≡ (members_in s box).tested → t ≤ limit → (members s [] box).tested ≤ limit
        enough {t} e h = let f : (members_in s box).tested ≡ (members s [] box).tested = ap (λ (m : Members). m.tested) (are true u) in omega arith

-- ---- on bytes
module _ {n : ℕ} {a : List ℕ} {ls hs : List ℤ} {axis : Option ℕ} {limit : ℕ} {t : Tally} (r : Asked n a ls hs axis limit t) (w : ℕ) (cs : List ℕ) (e : t.count ≡ counted w cs) where
  pub first_found : (u : Tallied) → search_bytes n a ls hs limit ≡ gives u → u.found ≡ found_of (head_of (members_in r.s (take n (box_of ls hs))).points)
  first_found u g =
      let q = searched n a ls hs limit u g in
      ap (λ (x : Tallied). x.found) (sym q.answer ∙ ap (λ (s : Set). search_box s (take n (box_of ls hs)) limit) (given (sym q.decoded ∙ r.decoded)))
      ∙ search-first r.s (take n (box_of ls hs)) axis limit w cs (ap (λ (x : Tally). x.count) r.answer ∙ e)
    where
      given : {u v : Set} → ◌≡◌ {A = Answer Set} (gives u) (gives v) → u ≡ v
      given e = cc
