-- Finite sums of integers by an index, `sum_to n f` = f 0 + … + f (n − 1), and dot products of lists, `dotTo n a x`. A loop's partial sum is one,
-- so its invariant is an equation. Sums are additive, scale, may be exchanged, and are ordered and bounded by their terms. Assumes nothing.
use Rattle.std.specs.Prelude.{◌≡◌, refl, List, [], ◌∷◌, ℕ, zero, suc, ◌+◌, ◌*◌, ◌^◌, ◌<◌, ◌≤◌, length, get_or, ℤ, pos, ◌+ℤ◌, ◌-ℤ◌, ◌*ℤ◌, ◌≤ℤ◌, ◌<ℤ◌}
use Rattle.std.proofs.Common.{sym, ap, ap₂, ◌∙◌, subst, lt_of_le_of_lt, mul-le-mul, le_refl, arith, add-one}
use Rattle.std.specs.Int.Signed.{≤ℤ_refl}
use Rattle.integers.specs.Z.{Within}
use Rattle.integers.specs.Ring.{ring, quote}
use Rattle.integers.specs.Lin.{le, lt, eq, lin, lia-no}
use Rattle.integers.specs.Order.{add-le, mul-le-left}
use Rattle.integers.specs.Size.{within-add, within-mul, within-mono, within-fits, fits-within}
use Rattle.std.specs.Int.{Width}
use mir.Val.{SFits, hbits}

unfoldable pub sum_to : ℕ → (ℕ → ℤ) → ℤ
sum_to zero f = pos 0
sum_to (suc n) f = sum_to n f +ℤ f n

pub sum-zero : (f : ℕ → ℤ) → sum_to 0 f ≡ pos 0
unfolding sum_to
sum-zero f = refl

-- one more, as a loop counts
pub sum_more : (n : ℕ) (f : ℕ → ℤ) → sum_to (n + 1) f ≡ sum_to n f +ℤ f n
unfolding sum_to
sum_more n f = ap (λ (k : ℕ). sum_to k f) (add-one n)

pub sum-ext : (n : ℕ) (f g : ℕ → ℤ) → ((k : ℕ) → k < n → f k ≡ g k) → sum_to n f ≡ sum_to n g
unfolding sum_to
sum-ext zero f g h = refl
sum-ext (suc n) f g h = ap₂ ◌+ℤ◌ (sum-ext n f g (λ k l. h k (omega arith))) (h n (omega arith))

pub sum-add : (n : ℕ) (f g : ℕ → ℤ) → sum_to n (λ k. f k +ℤ g k) ≡ sum_to n f +ℤ sum_to n g
unfolding sum_to
sum-add zero f g = refl
sum-add (suc n) f g =
    let F = sum_to n f in let G = sum_to n g in let x = f n in let y = g n in
    ap (λ (z : ℤ). z +ℤ (x +ℤ y)) (sum-add n f g) ∙ ring (F ∷ G ∷ x ∷ y ∷ []) (search quote depth 30) tt

pub sum-scale : (n : ℕ) (c : ℤ) (f : ℕ → ℤ) → sum_to n (λ k. c *ℤ f k) ≡ c *ℤ sum_to n f
unfolding sum_to
sum-scale zero c f = ring (c ∷ []) (search quote depth 30) tt
sum-scale (suc n) c f =
    let F = sum_to n f in let x = f n in
    ap (λ (z : ℤ). z +ℤ c *ℤ x) (sum-scale n c f) ∙ ring (c ∷ F ∷ x ∷ []) (search quote depth 30) tt

pub sum-nil : (n : ℕ) (f : ℕ → ℤ) → ((k : ℕ) → k < n → f k ≡ pos 0) → sum_to n f ≡ pos 0
unfolding sum_to
sum-nil zero f h = refl
sum-nil (suc n) f h = ap₂ ◌+ℤ◌ (sum-nil n f (λ k l. h k (omega arith))) (h n (omega arith))

pub sum-exchange : (m n : ℕ) (f : ℕ → ℕ → ℤ) → sum_to m (λ i. sum_to n (λ j. f i j)) ≡ sum_to n (λ j. sum_to m (λ i. f i j))
unfolding sum_to
sum-exchange zero n f = sym (sum-nil n (λ j. pos 0) (λ k l. refl))
sum-exchange (suc m) n f = ap (λ (z : ℤ). z +ℤ sum_to n (λ j. f m j)) (sum-exchange m n f) ∙ sym (sum-add n (λ j. sum_to m (λ i. f i j)) (λ j. f m j))

pub sum-le : (n : ℕ) (f g : ℕ → ℤ) → ((k : ℕ) → k < n → f k ≤ℤ g k) → sum_to n f ≤ℤ sum_to n g
unfolding sum_to
sum-le zero f g h = ≤ℤ_refl (pos 0)
sum-le (suc n) f g h = add-le (sum-le n f g (λ k l. h k (omega arith))) (h n (omega arith))

pub sum-within : (B : ℕ) (n : ℕ) (f : ℕ → ℤ) → ((k : ℕ) → k < n → Within B (f k)) → Within (n * B) (sum_to n f)
unfolding sum_to
sum-within B zero f h = record { size = omega arith }
sum-within B (suc n) f h = within-mono (omega arith) (within-add (sum-within B n f (λ k l. h k (omega arith))) (h n (omega arith)))

-- ---- lists
-- the element at k
abbrev pub at : List ℤ → ℕ → ℤ
at l k = get_or l k (pos 0)

abbrev pub dot_to : ℕ → List ℤ → List ℤ → ℤ
dot_to n a x = sum_to n (λ k. at a k *ℤ at x k)

-- a row that is p times one less q times another
pub dot-combined : (p q : ℤ) (ds ss rs x : List ℤ) (n : ℕ) → ((k : ℕ) → k < n → at rs k ≡ p *ℤ at ds k -ℤ q *ℤ at ss k)
    → dot_to n rs x ≡ p *ℤ dot_to n ds x -ℤ q *ℤ dot_to n ss x
unfolding sum_to
dot-combined p q ds ss rs x zero h = ring (p ∷ q ∷ []) (search quote depth 30) tt
dot-combined p q ds ss rs x (suc n) h =
    let D = dot_to n ds x in let S = dot_to n ss x in let d = at ds n in let s = at ss n in let v = at x n in
    ap₂ (λ (u w : ℤ). u +ℤ w *ℤ v) (dot-combined p q ds ss rs x n (λ k l. h k (omega arith))) (h n (omega arith))
    ∙ ring (p ∷ q ∷ D ∷ S ∷ d ∷ s ∷ v ∷ []) (search quote depth 30) tt

-- every element is at most n in size
pub record AllWithin (n : ℕ) (xs : List ℤ) : Type 0 where
  pub each : (i : ℕ) → Within n (at xs i)

pub dot-within : {A X : ℕ} {a x : List ℤ} → AllWithin A a → AllWithin X x → (n : ℕ) → Within (n * (A * X)) (dot_to n a x)
dot-within {A} {X} h k n = sum-within (A * X) n _ (λ i l. within-mul (h.each i) (k.each i))

-- ---- the dot product of two lists
-- a₁·x₁ + a₂·x₂ + .., as far as both lists go
abbrev pub dot : List ℤ → List ℤ → ℤ
dot [] xs = pos 0
dot (a ∷ us) [] = pos 0
dot (a ∷ us) (x ∷ xs) = a *ℤ x +ℤ dot us xs

-- by the places of the second
dot-front : (n : ℕ) (a x : ℤ) (us xs : List ℤ) → dot_to (suc n) (a ∷ us) (x ∷ xs) ≡ a *ℤ x +ℤ dot_to n us xs
unfolding sum_to
dot-front zero a x us xs = ring (a ∷ x ∷ []) (search quote depth 30) tt
dot-front (suc n) a x us xs =
    let s = dot_to n us xs in let u = at us n in let v = at xs n in
    ap (λ (z : ℤ). z +ℤ u *ℤ v) (dot-front n a x us xs) ∙ ring (a ∷ x ∷ s ∷ u ∷ v ∷ []) (search quote depth 30) tt

pub dot-is : (a x : List ℤ) → length x ≤ length a → dot_to (length x) a x ≡ dot a x
dot-is [] [] h = sum-zero _
dot-is [] (x ∷ xs) h = absurd (omega arith)
dot-is (a ∷ us) [] h = sum-zero _
dot-is (a ∷ us) (x ∷ xs) h = dot-front (length xs) a x us xs ∙ ap (λ (z : ℤ). a *ℤ x +ℤ z) (dot-is us xs (omega arith))

pub dot-size : {A X : ℕ} {a x : List ℤ} → AllWithin A a → AllWithin X x → length x ≤ length a → Within (length x * (A * X)) (dot a x)
dot-size {A} {X} {a} {x} h k l = subst (Within (length x * (A * X))) (dot-is a x l) (dot-within h k (length x))

-- what membership and the search work out: a constant and a sum over the axes (a division's numerator), and with a sum over the divisions (a constraint's value)
module _ {C A X : ℕ} {c : ℤ} {a x : List ℤ} (hc : Within C c) (ha : AllWithin A a) (hx : AllWithin X x) (l : length x ≤ length a) where
  pub numerator-within : Within (C + length x * (A * X)) (c +ℤ dot a x)
  numerator-within = within-add hc (dot-size ha hx l)

  pub value-within : {Q : ℕ} {e q : List ℤ} → AllWithin A e → AllWithin Q q → length q ≤ length e
      → Within (C + (length x * (A * X) + length q * (A * Q))) (c +ℤ (dot a x +ℤ dot e q))
  value-within he hq m = within-add hc (within-add (dot-size ha hx l) (dot-size he hq m))

-- what the sum asks at width w, with coefficients of width v: a coefficient for each coordinate, and coordinates so small that it fits
pub record DotFits (v w : Width) (a x : List ℤ) : Type 0 where
  pub bound : ℕ
  pub places : length x ≤ length a
  pub coordinates : AllWithin bound x
  pub room : length x * (2 ^ hbits v * bound) < 2 ^ hbits w

-- the sum, and its range for coordinates of any bound
pub record Dotted (v : Width) (a x : List ℤ) (r : ℤ) : Type 0 where
  pub is : r ≡ dot a x
  pub size : (B : ℕ) → AllWithin B x → Within (length x * (2 ^ hbits v * B)) r

-- the sum as a loop adds it up: after i places it is z
pub record Summing (v : Width) (a x : List ℤ) (z : ℤ) (i : ℕ) : Type 0 where
  pub inside : i ≤ length x
  pub is : z ≡ dot_to i a x
  pub size : (B : ℕ) → AllWithin B x → Within (i * (2 ^ hbits v * B)) z

module _ (v : Width) (a x : List ℤ) where
  pub summing-none : Summing v a x (pos 0) 0
  summing-none = record { inside = omega arith; is = sym (sum-zero _); size = λ B b. record { size = omega arith } }

  module _ {z : ℤ} {i : ℕ} (s : Summing v a x z i) where
    pub summing-all : length x ≤ i → length x ≤ length a → Dotted v a x z
    summing-all h l =
        let e : i ≡ length x = omega (arith, s.inside) in
        record { is = s.is ∙ ap (λ (n : ℕ). dot_to n a x) e ∙ dot-is a x l; size = λ B b. subst (λ (n : ℕ). Within (n * (2 ^ hbits v * B)) z) e (s.size B b) }

    module _ (h : i < length x) (k : SFits v (at a i)) where
      pub summing-next : Summing v a x (z +ℤ at a i *ℤ at x i) (i + 1)
      summing-next =
          record {
            inside = omega arith;
            is = ap (λ (y : ℤ). y +ℤ at a i *ℤ at x i) s.is ∙ sym (sum_more i _);
            size = λ B b. within-mono (more (2 ^ hbits v * B)) (within-add (s.size B b) (within-mul (fits-within k) (b.each i)));
          }
        where
          more : (P : ℕ) → i * P + P ≤ (i + 1) * P
          more P = omega arith

      module _ {w : Width} (r : DotFits v w a x) where
        abbrev P : ℕ
        P = 2 ^ hbits v * r.bound

        -- so many products lie within the room
        few : (n : ℕ) → n ≤ length x → n * P < 2 ^ hbits w
        few n l = lt_of_le_of_lt (mul-le-mul l (le_refl P)) r.room

        pub product-fits : SFits w (at a i *ℤ at x i)
        product-fits = let l = few 1 (omega arith) in within-fits (omega arith) (within-mul (fits-within k) (r.coordinates.each i))

        pub sum_fits : SFits w (z +ℤ at a i *ℤ at x i)
        sum_fits = within-fits (few (i + 1) (omega arith)) (summing-next.size r.bound r.coordinates)

-- ---- Farkas: multipliers y ≥ 0 of m rows that add up to nothing, and of the bounds to less than 0, refute the rows
pub farkas : (m n : ℕ) (a : ℕ → List ℤ) (b y : ℕ → ℤ) (x : List ℤ)
    → ((i : ℕ) → i < m → dot_to n (a i) x ≤ℤ b i) → ((i : ℕ) → i < m → pos 0 ≤ℤ y i)
    → ((j : ℕ) → j < n → sum_to m (λ i. y i *ℤ at (a i) j) ≡ pos 0) → sum_to m (λ i. y i *ℤ b i) <ℤ pos 0 → ⊥
farkas m n a b y x rows nonneg none less =
    lia-no (S ∷ B ∷ []) (le below ∷ eq nothing ∷ lt less ∷ []) (search lin depth 30) (omega arith)
  where
    S : ℤ
    S = sum_to m (λ i. y i *ℤ dot_to n (a i) x)

    B : ℤ
    B = sum_to m (λ i. y i *ℤ b i)

    below : S ≤ℤ B
    below = sum-le m (λ i. y i *ℤ dot_to n (a i) x) (λ i. y i *ℤ b i) (λ i l. mul-le-left (nonneg i l) (rows i l))

    regroup : (c u v : ℤ) → c *ℤ (u *ℤ v) ≡ v *ℤ (c *ℤ u)
    regroup c u v = ring (c ∷ u ∷ v ∷ []) (search quote depth 30) tt

    nothing : S ≡ pos 0
    nothing =
        sum-ext m (λ i. y i *ℤ dot_to n (a i) x) (λ i. sum_to n (λ j. at x j *ℤ (y i *ℤ at (a i) j)))
        (λ i l. sym (sum-scale n (y i) (λ j. at (a i) j *ℤ at x j)) ∙ sum-ext n (λ j. y i *ℤ (at (a i) j *ℤ at x j)) (λ j. at x j *ℤ (y i *ℤ at (a i) j)) (λ j k. regroup (y i) (at (a i) j) (at x j)))
        ∙ sum-exchange m n (λ i j. at x j *ℤ (y i *ℤ at (a i) j))
        ∙ sum-nil n (λ j. sum_to m (λ i. at x j *ℤ (y i *ℤ at (a i) j))) (λ j l. sum-scale m (at x j) (λ i. y i *ℤ at (a i) j) ∙ ap (λ (z : ℤ). at x j *ℤ z) (none j l) ∙ ring (at x j ∷ []) (search quote depth 30) tt)
