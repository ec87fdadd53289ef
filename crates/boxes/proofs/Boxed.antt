-- A box as a set: it is valid, its points are those of the box, and what is outside a set in it decodes and has the points that it should.
use mathlib.Core.Path.{◌≡◌, refl, sym, ap, ◌∙◌, subst}
use mathlib.Core.Bool.{Bool, true, false, ◌&&◌, ◌||◌}
use mathlib.Core.List.{List, [], ◌∷◌}
use Prim.Native.Nat.{ℕ, zero, suc, ◌+◌, ◌≤◌, ◌<◌}
use native.Mathlib.Nat.{zero-add}
use native.Mathlib.Omega.{arith}
use lib.Dec.{T, leb, leb→le}
use lib.IntN.{ℤ, pos, negsuc, neg_ℤ, ◌+ℤ◌, ◌*ℤ◌}
use lib.Signed.{◌≤ℤ◌, yes_non_neg}
use lib.ListN.{length, take, drop, get_or, replicate, set, length-set, length-take, drop_of_length-le}
use lib.Seq.{drop-cons}
use Rattle.integers.specs.Ring.{ring, quote}
use Rattle.integers.specs.Lin.{le, lin, lia-le}
use Rattle.model.specs.Lists.{all, All}
use Rattle.model.specs.Sets.{dot, Constraint, holds, in_basic, in_set, is_zero, absent}
use Rattle.model.proofs.Count.{and_left, and_right, and-make, from-T}
use Rattle.model.proofs.Values.{nn}
use Rattle.codec.specs.Bytes.{coefficient}
use Rattle.codec.specs.Valid.{ValidConstraint, Valid, Fits}
use Rattle.query.specs.Member.{coordinate, point_fits}
use Rattle.enumeration.specs.Search.{Interval, box_of}
use Rattle.enumeration.proofs.Walks.{In}
use Rattle.enumeration.proofs.Windows.{box-take}
use Rattle.boxes.specs.Box.{side_rule, low_rule, high_rule, box_rules, box_basic}

-- ---- one number among zeros

dot-zeros : (k : ℕ) (x : List ℤ) → dot (replicate k (pos 0)) x ≡ pos 0
dot-zeros zero x = refl
dot-zeros (suc k) [] = refl
dot-zeros (suc k) (z ∷ x) = ap (λ (y : ℤ). pos 0 *ℤ z +ℤ y) (dot-zeros k x) ∙ ring (z ∷ []) (search quote depth 30) tt

dot-alone : (k i : ℕ) (c : ℤ) (x : List ℤ) → i < k → dot (set (replicate k (pos 0)) i c) x ≡ c *ℤ get_or x i (pos 0)
dot-alone zero i c x h = absurd (omega arith)
dot-alone (suc k) zero c [] h = ring (c ∷ []) (search quote depth 30) tt
dot-alone (suc k) zero c (z ∷ x) h = ap (λ (y : ℤ). c *ℤ z +ℤ y) (dot-zeros k x) ∙ ring (c ∷ z ∷ []) (search quote depth 30) tt
dot-alone (suc k) (suc i) c [] h = ring (c ∷ []) (search quote depth 30) tt
dot-alone (suc k) (suc i) c (z ∷ x) h = ap (λ (y : ℤ). pos 0 *ℤ z +ℤ y) (dot-alone k i c x (omega arith)) ∙ ring (c ∷ z ∷ get_or x i (pos 0) ∷ []) (search quote depth 30) tt

zeros-all : (f : ℤ → Bool) → T (f (pos 0)) → (k : ℕ) → T (all f (replicate k (pos 0)))
zeros-all f t zero = tt
zeros-all f t (suc k) = and-make (f (pos 0)) (all f (replicate k (pos 0))) t (zeros-all f t k)

alone-all : (f : ℤ → Bool) → T (f (pos 0)) → (k i : ℕ) (c : ℤ) → T (f c) → T (all f (set (replicate k (pos 0)) i c))
alone-all f t zero i c u = tt
alone-all f t (suc k) zero c u = and-make (f c) (all f (replicate k (pos 0))) u (zeros-all f t k)
alone-all f t (suc k) (suc i) c u = and-make (f (pos 0)) (all f (set (replicate k (pos 0)) i c)) t (alone-all f t k i c u)

alone-absent : (k n i : ℕ) (c : ℤ) → i < n → T (absent n (set (replicate k (pos 0)) i c))
alone-absent zero n i c h = subst (λ (l : List ℤ). T (all is_zero l)) (sym (drop_of_length-le [] {i = n} (omega arith))) tt
alone-absent (suc k) zero i c h = absurd (omega arith)
alone-absent (suc k) (suc n) zero c h = zeros-absent k n
  where
    zeros-absent : (k n : ℕ) → T (absent n (replicate k (pos 0)))
    zeros-absent zero n = subst (λ (l : List ℤ). T (all is_zero l)) (sym (drop_of_length-le [] {i = n} (omega arith))) tt
    zeros-absent (suc k) zero = zeros-all is_zero tt k
    zeros-absent (suc k) (suc n) = zeros-absent k n
alone-absent (suc k) (suc n) (suc i) c h = alone-absent k n i c (omega arith)

-- ---- the rules at a point

module _ (x : List ℤ) (i : ℕ) (few : i < 8) where
  abbrev at-axis : ℤ
  at-axis = get_or x i (pos 0)

  rule-at : (c k : ℤ) → k *ℤ pos 1 +ℤ (dot (set (replicate 8 (pos 0)) i c) x +ℤ dot (replicate 8 (pos 0)) []) ≡ k +ℤ c *ℤ at-axis
  rule-at c k = ap (λ (y : ℤ). k *ℤ pos 1 +ℤ (y +ℤ pos 0)) (dot-alone 8 i c x few) ∙ ring (k ∷ c ∷ at-axis ∷ []) (search quote depth 30) tt

  low_told : (l : ℤ) → T (holds (pos 1) x [] (low_rule i l)) → l ≤ℤ at-axis
  low_told l t = lia-le (l ∷ at-axis ∷ []) (le (subst (λ (y : ℤ). pos 0 ≤ℤ y) (rule-at (pos 1) (neg_ℤ l)) (nn t)) ∷ []) (search lin depth 30) (omega arith)

  low-holds : (l : ℤ) → l ≤ℤ at-axis → T (holds (pos 1) x [] (low_rule i l))
  low-holds l h = yes_non_neg (subst (λ (y : ℤ). pos 0 ≤ℤ y) (sym (rule-at (pos 1) (neg_ℤ l))) (lia-le (l ∷ at-axis ∷ []) (le h ∷ []) (search lin depth 30) (omega arith)))

  high-told : (u : ℤ) → T (holds (pos 1) x [] (high_rule i u)) → at-axis ≤ℤ u
  high-told u t = lia-le (u ∷ at-axis ∷ []) (le (subst (λ (y : ℤ). pos 0 ≤ℤ y) (rule-at (negsuc 0) u) (nn t)) ∷ []) (search lin depth 30) (omega arith)

  high-holds : (u : ℤ) → at-axis ≤ℤ u → T (holds (pos 1) x [] (high_rule i u))
  high-holds u h = yes_non_neg (subst (λ (y : ℤ). pos 0 ≤ℤ y) (sym (rule-at (negsuc 0) u)) (lia-le (u ∷ at-axis ∷ []) (le h ∷ []) (search lin depth 30) (omega arith)))

-- the rules from axis i on hold exactly where the rest of the point lies between the rest of the sides
module _ (x : List ℤ) (few : length x ≤ 8) where
  pub rules-in : (i : ℕ) (ls hs : List ℤ) → length ls ≡ length hs → length x ≡ i + length ls → T (all (holds (pos 1) x []) (box_rules i ls hs)) → In (drop i x) (box_of ls hs)
  rules-in i [] [] e m t = subst (λ (y : List ℤ). In y []) (sym (drop_of_length-le x {i = i} (omega arith))) tt
  rules-in i [] (h ∷ hs) e m t = absurd (omega arith)
  rules-in i (l ∷ ls) [] e m t = absurd (omega arith)
  rules-in i (l ∷ ls) (h ∷ hs) e m t =
      let k : i < length x = omega arith in let o : i < 8 = omega arith in
      let f : Constraint → Bool = holds (pos 1) x [] in let rest : List Constraint = box_rules (suc i) ls hs in
      let u = and_right (f (low_rule i l)) (f (high_rule i h) && all f rest) t in
      subst (λ (y : List ℤ). In y (box_of (l ∷ ls) (h ∷ hs))) (sym (drop-cons x i (pos 0) k)) (
        record { lo = low_told x i o l (and_left (f (low_rule i l)) (f (high_rule i h) && all f rest) t); hi = high-told x i o h (and_left (f (high_rule i h)) (all f rest) u) },
        rules-in (suc i) ls hs (omega arith) (omega arith) (and_right (f (high_rule i h)) (all f rest) u),
      )

  pub in-rules : (i : ℕ) (ls hs : List ℤ) → In (drop i x) (box_of ls hs) → T (all (holds (pos 1) x []) (box_rules i ls hs))
  in-rules i [] hs n = tt
  in-rules i (l ∷ ls) [] n = tt
  in-rules i (l ∷ ls) (h ∷ hs) n =
      let k : i < length x = some_left i n in let o : i < 8 = omega arith in
      let f : Constraint → Bool = holds (pos 1) x [] in let rest : List Constraint = box_rules (suc i) ls hs in
      let m : In (get_or x i (pos 0) ∷ drop (suc i) x) (box_of (l ∷ ls) (h ∷ hs)) = subst (λ (y : List ℤ). In y (box_of (l ∷ ls) (h ∷ hs))) (drop-cons x i (pos 0) k) n in
      and-make (f (low_rule i l)) (f (high_rule i h) && all f rest) (low-holds x i o l m.0.lo)
      (and-make (f (high_rule i h)) (all f rest) (high-holds x i o h m.0.hi) (in-rules (suc i) ls hs m.1))
    where
      some_left : (i : ℕ) → In (drop i x) (box_of (l ∷ ls) (h ∷ hs)) → i < length x
      some_left i n = by (drop i x) refl n
        where
          by : (y : List ℤ) → drop i x ≡ y → In y (box_of (l ∷ ls) (h ∷ hs)) → i < length x
          by [] e n = absurd n
          by (z ∷ y) e n = let q : length (drop i x) ≡ suc (length y) = ap length e in omega (arith, lib.ListN.length-drop i x)

-- ---- the box as a basic set

pub in-length : (zs : List ℤ) (ss : List Interval) → In zs ss → length zs ≡ length ss
in-length [] [] h = refl
in-length [] (r ∷ ss) h = absurd h
in-length (z ∷ zs) [] h = absurd h
in-length (z ∷ zs) (r ∷ ss) h = ap suc (in-length zs ss h.1)

module _ (n : ℕ) (ls hs : List ℤ) (few : n ≤ 8) (l : length ls ≡ 8) (h : length hs ≡ 8) where
  -- the sides of the box
  abbrev sides : List Interval
  sides = take n (box_of ls hs)

  taken : (u : List ℤ) → length u ≡ 8 → length (take n u) ≡ n
  taken u e = let q : length u ≡ 8 = e in omega (arith, length-take n u)

  sides-are : sides ≡ box_of (take n ls) (take n hs)
  sides-are = box-take n ls hs

  box-length : (u v : List ℤ) → length u ≡ length v → length (box_of u v) ≡ length u
  box-length [] v e = refl
  box-length (a ∷ u) [] e = absurd (omega arith)
  box-length (a ∷ u) (b ∷ v) e = ap suc (box-length u v (omega arith))

  pub sides-many : length sides ≡ n
  sides-many = ap length sides-are ∙ box-length (take n ls) (take n hs) (taken ls l ∙ sym (taken hs h)) ∙ taken ls l

  pub in-many : (x : List ℤ) → In x sides → length x ≡ n
  in-many x i = in-length x sides i ∙ sides-many

  -- a point of n axes is in the set exactly when it is in the box
  pub box-holds : (x : List ℤ) → In x sides → in_set x (box_basic n ls hs ∷ []) ≡ true
  box-holds x i =
      ap (λ (b : Bool). b || false)
      (from-T (in_basic x (box_basic n ls hs))
      (in-rules x (let m = in-many x i in omega arith) 0 (take n ls) (take n hs) (subst (In x) sides-are i)))

  pub box-told : (x : List ℤ) → length x ≡ n → T (in_set x (box_basic n ls hs ∷ [])) → In x sides
  box-told x m t =
      subst (In x) (sym sides-are)
      (rules-in x (omega arith) 0 (take n ls) (take n hs) (taken ls l ∙ sym (taken hs h)) (m ∙ sym (taken ls l) ∙ sym (zero-add (length (take n ls)))) (one (in_basic x (box_basic n ls hs)) t))
    where
      one : (b : Bool) → T (b || false) → T b
      one true t = t
      one false t = t

-- ---- its rules are valid

coordinate-fits : (z : ℤ) → T (coordinate z) → Fits 2147483648 z
coordinate-fits (pos m) t = let h = leb→le m 1048576 t in omega arith
coordinate-fits (negsuc m) t = let h = leb→le m 1048575 (and_left (leb m 1048575) true t) in omega arith

opposite-fits : (z : ℤ) → T (coordinate z) → Fits 2147483648 (neg_ℤ z)
opposite-fits (pos zero) t = omega arith
opposite-fits (pos (suc m)) t = let h = leb→le (suc m) 1048576 t in omega arith
opposite-fits (negsuc m) t = let h = leb→le m 1048575 (and_left (leb m 1048575) true t) in omega arith

module _ (n : ℕ) where
  side-valid : (i : ℕ) (c k : ℤ) → i < n → T (coefficient c) → Fits 2147483648 k → ValidConstraint n 0 (side_rule i c k)
  side-valid i c k h u w =
      record {
        axis_places = length-set (replicate 8 (pos 0)) i c;
        division_places = refl;
        number = omega arith;
        width = w;
        constant = tt;
        axes = alone-all coefficient tt 8 i c u;
        divisions = tt;
        axis_absents = alone-absent 8 n i c h;
        division_absents = tt;
      }

  rules-valid : (i : ℕ) (ls hs : List ℤ) → i + length ls ≤ n → T (all coordinate ls) → T (all coordinate hs) → All (ValidConstraint n 0) (box_rules i ls hs)
  rules-valid i [] hs m p q = tt
  rules-valid i (l ∷ ls) [] m p q = tt
  rules-valid i (l ∷ ls) (h ∷ hs) m p q =
      let k : i < n = omega arith in (
        side-valid i (pos 1) (neg_ℤ l) k tt (opposite-fits l (and_left (coordinate l) (all coordinate ls) p)),
        (
          side-valid i (negsuc 0) h k tt (coordinate-fits h (and_left (coordinate h) (all coordinate hs) q)),
          rules-valid (suc i) ls hs (omega arith) (and_right (coordinate l) (all coordinate ls) p) (and_right (coordinate h) (all coordinate hs) q),
        ),
      )

rules-many : (i : ℕ) (ls hs : List ℤ) → length (box_rules i ls hs) ≤ length ls + length ls
rules-many i [] hs = omega arith
rules-many i (l ∷ ls) [] = omega arith
rules-many i (l ∷ ls) (h ∷ hs) = let r = rules-many (suc i) ls hs in omega arith

all_take : (f : ℤ → Bool) (n : ℕ) (l : List ℤ) → T (all f l) → T (all f (take n l))
all_take f zero l t = tt
all_take f (suc n) [] t = tt
all_take f (suc n) (z ∷ l) t = and-make (f z) (all f (take n l)) (and_left (f z) (all f l) t) (all_take f n l (and_right (f z) (all f l) t))

pub box-valid : (n : ℕ) (ls hs : List ℤ) → n ≤ 8 → T (point_fits n ls) → T (point_fits n hs) → Valid n (box_basic n ls hs)
box-valid n ls hs few p q =
    record {
      few_divisions = omega arith;
      few_constraints = let r = rules-many 0 (take n ls) (take n hs) in omega (arith, length-take n ls);
      divisions = tt;
      constraints =
          rules-valid n 0 (take n ls) (take n hs) (omega (arith, length-take n ls)) (all_take coordinate n ls (and_left (all coordinate ls) (absent n ls) p))
          (all_take coordinate n hs (and_left (all coordinate hs) (absent n hs) q));
    }
