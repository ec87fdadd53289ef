-- The divisions of a list of numbers, and their refusals. Assumes nothing.
use mathlib.Core.Path.{◌≡◌, refl, sym, ap, ap₂, ◌∙◌}
use mathlib.Core.Bool.{Bool, true, false, ◌&&◌}
use mathlib.Core.List.{List, [], ◌∷◌, ◌++◌, map}
use Prim.Native.Nat.{ℕ, zero, suc, ◌+◌, ◌-◌, ◌*◌, ◌≤◌, ◌<◌}
use native.Mathlib.Nat.{le_of_suc-le-suc, not-suc-le-zero}
use native.Mathlib.Omega.{arith}
use borrow.Author.Tests.{ltb-true}
use lib.Dec.{T, leb, ltb}
use lib.IntN.{ℤ, pos, negsuc}
use lib.ListN.{length, drop, take, set}
use lib.Seq.{drop-drop, take-suc-set}
use Rattle.model.specs.Lists.{all}
use Rattle.model.specs.Sets as S
use Rattle.model.specs.Sets.{absent}
use Rattle.model.specs.Values.{division_of}
use Rattle.model.specs.declared.Division.{Division}
use Rattle.model.proofs.Count.{and_left, and_right, to-T}
use Rattle.model.proofs.Lists.{map-append}
use Rattle.codec.specs.Bytes.{within, coefficient, refusal, division, first_failing, axes_fit}
use Rattle.planning.specs.State.{divisions_refusal, start_refusal}
use Rattle.rules.specs.Divisions.{division_by, divisions_in, Proper, Listed}

pub divisions-long : (k : ℕ) (xs : List ℤ) → length (divisions_in k xs) ≡ k
unfolding divisions_in
divisions-long zero xs = refl
divisions-long (suc k) xs = ap suc (divisions-long k (drop 10 xs))

tens : (i : ℕ) (xs : List ℤ) → drop (10 * i) (drop 10 xs) ≡ drop (10 * suc i) xs
tens i xs = let e : 10 + 10 * i ≡ 10 * suc i = omega arith in drop-drop (10 * i) 10 xs ∙ ap (λ n. drop n xs) e

pub divisions-more : (i : ℕ) (xs : List ℤ) → divisions_in (suc i) xs ≡ divisions_in i xs ++ (division_by (drop (10 * i) xs) ∷ [])
unfolding divisions_in
divisions-more zero xs = refl
divisions-more (suc i) xs = ap (λ l. division_by xs ∷ l) (divisions-more i (drop 10 xs) ∙ ap (λ ys. divisions_in i (drop 10 xs) ++ (division_by ys ∷ [])) (tens i xs))

-- ---- the loop over them

abbrev number : ℕ → ℕ → S.Division → ℕ
number n i e = refusal n (record { basics = 1; divisions = i; constraints = 0 }) (division e)

abbrev pub or : ℕ → ℕ → ℕ
or r m = elim r [ zero ↦ m | suc k ↦ suc k ]

pub or_some : (r m : ℕ) → (r ≡ 0 → ⊥) → r ≡ or r m
or_some zero m z = absurd (z refl)
or_some (suc k) m z = refl

module _ (n count i : ℕ) (xs : List ℤ) where
  -- the number of the divisions from number i on
  abbrev pub rest : ℕ
  rest = divisions_refusal n i (divisions_in (count - i) (drop (10 * i) xs))

  split : i < count → rest ≡ or (number n i (division_by (drop (10 * i) xs))) (divisions_refusal n (i + 1) (divisions_in (count - (i + 1)) (drop (10 * (i + 1)) xs)))
  unfolding divisions_in
  split h =
      let e : count - i ≡ suc (count - (i + 1)) = omega arith in
      let f : 10 * i + 10 ≡ 10 * (i + 1) = omega arith in
      let s : suc i ≡ i + 1 = omega arith in
      ap (λ m. divisions_refusal n i (divisions_in m (drop (10 * i) xs))) e
      ∙ ap₂ (λ ys j. or (number n i (division_by (drop (10 * i) xs))) (divisions_refusal n j (divisions_in (count - (i + 1)) ys))) (drop-drop 10 (10 * i) xs ∙ ap (λ m. drop m xs) f) s

  pub rest-next : (b : ℕ) → i < count → rest ≡ b → number n i (division_by (drop (10 * i) xs)) ≡ 0 → divisions_refusal n (i + 1) (divisions_in (count - (i + 1)) (drop (10 * (i + 1)) xs)) ≡ b
  rest-next b h g e = ap (λ r. or r (divisions_refusal n (i + 1) (divisions_in (count - (i + 1)) (drop (10 * (i + 1)) xs)))) (sym e) ∙ sym (split h) ∙ g

  pub rest-stop : (b r : ℕ) → i < count → rest ≡ b → r ≡ number n i (division_by (drop (10 * i) xs)) → (r ≡ 0 → ⊥) → r ≡ b
  rest-stop b r h g e z = or_some r (divisions_refusal n (i + 1) (divisions_in (count - (i + 1)) (drop (10 * (i + 1)) xs))) z ∙ ap (λ r. or r (divisions_refusal n (i + 1) (divisions_in (count - (i + 1)) (drop (10 * (i + 1)) xs)))) e ∙ sym (split h) ∙ g

  pub rest_end : (b : ℕ) → count ≤ i → rest ≡ b → 0 ≡ b
  unfolding divisions_in
  rest_end b h g = let e : 0 ≡ count - i = omega arith in ap (λ m. divisions_refusal n i (divisions_in m (drop (10 * i) xs))) e ∙ g

-- ---- none is refused

passed : (n i : ℕ) (e : S.Division) → number n i e ≡ 0 → (i < 8) × Proper e
passed n i e z = at (ltb i 8) (ltb 0 e.divisor && leb e.divisor 32767) (within (negsuc 999999999) (pos 1000000000) e.constant && all coefficient e.axes) (absent n e.axes) refl refl refl z
  where
    tests : Bool → Bool → Bool → Bool → ℕ
    tests a b c d = first_failing ((a, 9) ∷ (b, 6) ∷ (c, 7) ∷ (d, 8) ∷ [])

    at : (a b c d : Bool) → ltb i 8 ≡ a → (ltb 0 e.divisor && leb e.divisor 32767) ≡ b → (within (negsuc 999999999) (pos 1000000000) e.constant && all coefficient e.axes) ≡ c
        → tests a b c d ≡ 0 → (i < 8) × Proper e
    at true true true d p q r z = (
      ltb-true i 8 p,
      record {
        over = ltb-true 0 e.divisor (from (ltb 0 e.divisor) (and_left (ltb 0 e.divisor) (leb e.divisor 32767) (to-T _ q)));
        axes = and_right (within (negsuc 999999999) (pos 1000000000) e.constant) (all coefficient e.axes) (to-T _ r);
      },
    )
      where
        from : (b : Bool) → T b → b ≡ true
        from true t = refl
        from false t = absurd t
    at true true false d p q r z = absurd (omega arith)
    at true false c d p q r z = absurd (omega arith)
    at false b c d p q r z = absurd (omega arith)

each-passed : (n i f : ℕ) (ys : List ℤ) → divisions_refusal n i (divisions_in f ys) ≡ 0 → (j : ℕ) → j < f → number n (i + j) (division_by (drop (10 * j) ys)) ≡ 0
unfolding divisions_in
each-passed n i zero ys z j h = absurd (not-suc-le-zero h)
each-passed n i (suc f) ys z j h = at (number n i (division_by ys)) refl z j h (λ j h w. each-passed n (suc i) f (drop 10 ys) w j h)
  where
    at : (r : ℕ) → number n i (division_by ys) ≡ r → or r (divisions_refusal n (suc i) (divisions_in f (drop 10 ys))) ≡ 0 → (j : ℕ) → j < suc f
        → ((j : ℕ) → j < f → divisions_refusal n (suc i) (divisions_in f (drop 10 ys)) ≡ 0 → number n (suc i + j) (division_by (drop (10 * j) (drop 10 ys))) ≡ 0)
        → number n (i + j) (division_by (drop (10 * j) ys)) ≡ 0
    at (suc k) e z j h more = absurd (omega arith)
    at zero e z zero h more = let q : i + 0 ≡ i = omega arith in ap (λ m. number n m (division_by ys)) q ∙ e
    at zero e z (suc j) h more = let q : i + suc j ≡ suc i + j = omega arith in ap₂ (λ m zs. number n m (division_by zs)) q (sym (tens j ys)) ∙ more j (le_of_suc-le-suc h) z

pub listed : (n k : ℕ) (xs : List ℤ) → 10 * k ≤ length xs → start_refusal n (divisions_in k xs) ≡ 0 → Listed k xs
listed n k xs room z = by (axes_fit n) refl
  where
    ok : (j : ℕ) → divisions_refusal n 0 (divisions_in k xs) ≡ 0 → j < k → (j < 8) × Proper (division_by (drop (10 * j) xs))
    ok j w h = let q : 0 + j ≡ j = omega arith in passed n j (division_by (drop (10 * j) xs)) (ap (λ m. number n m (division_by (drop (10 * j) xs))) (sym q) ∙ each-passed n 0 k xs w j h)

    few : divisions_refusal n 0 (divisions_in k xs) ≡ 0 → (m : ℕ) → k ≡ m → k ≤ 8
    few w zero e = omega arith
    few w (suc m) e = let h = (ok m w (omega arith)).0 in omega arith

    by : (b : Bool) → axes_fit n ≡ b → Listed k xs
    by true e = let w : divisions_refusal n 0 (divisions_in k xs) ≡ 0 = rw e at z in record { few = few w k refl; room = room; proper = λ i h. (ok i w h).1 }
    by false e = let w : ◌≡◌ {A = ℕ} 1 0 = rw e at z in absurd (omega arith)

-- ---- the loop that makes the values
pub made-next : (i : ℕ) (xs : List ℤ) (ds : List Division) (d : Division) → i < length ds → map division_of (take i ds) ≡ divisions_in i xs → division_of d ≡ division_by (drop (10 * i) xs)
    → map division_of (take (i + 1) (set ds i d)) ≡ divisions_in (i + 1) xs
made-next i xs ds d h e f =
    let s : i + 1 ≡ suc i = omega arith in
    ap (λ m. map division_of (take m (set ds i d))) s
    ∙ ap (map division_of) (take-suc-set ds i d h)
    ∙ map-append division_of (take i ds) (d ∷ [])
    ∙ ap₂ (λ l x. l ++ (x ∷ [])) e f
    ∙ sym (divisions-more i xs)
    ∙ ap (λ m. divisions_in m xs) (sym s)
