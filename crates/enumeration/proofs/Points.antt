-- `pointsIn box` lists the points of the box: each of them is there, nothing else is, and they stand in dictionary order, so each once.
use mathlib.Core.Path.{◌≡◌, refl, sym, ap, ◌∙◌, subst}
use mathlib.Core.Bool.{Bool, true, false, ◌&&◌, cond}
use mathlib.Core.List.Memᴰ
use mathlib.Core.List.{List, [], ◌∷◌, ◌++◌, map, Memᴰ}
use mathlib.Core.Logic.{inl, inr}
use Prim.Native.Nat.{ℕ, zero, suc, ◌+◌, ◌≤◌, ◌<◌}
use native.Mathlib.Nat.{le_of_suc-le-suc, not-suc-le-zero}
use native.Mathlib.Numerals.{add-one}
use native.Mathlib.Omega.{arith}
use lib.IntN.{ℤ, pos, nat_abs, ◌+ℤ◌, ◌-ℤ◌, +ℤ_assoc, +ℤ_idr}
use lib.Signed.{le_z, ◌<ℤ◌}
use lib.ListN.{length, get_or}
use Rattle.integers.specs.Lin.{lt, lin, lia-lt, lia-no}
use Rattle.model.specs.Lists.{cons_if, filter, All}
use Rattle.model.proofs.Lists.{all_app, all-mapped}
use Rattle.enumeration.specs.Search.{Interval, width, upright}
use Rattle.enumeration.proofs.Walks.{Inside, In, Before, up, up_suc, side-index, index-side}
use Rattle.enumeration.specs.Points.{points_up, points_in}

-- ---- lists

module _ {A : Type 0} where
  pub all-at : (P : A → Type 0) (l : List A) → All P l → (i : ℕ) (d : A) → i < length l → P (get_or l i d)
  all-at P [] h i d k = absurd (not-suc-le-zero k)
  all-at P (a ∷ l) h zero d k = h.0
  all-at P (a ∷ l) h (suc i) d k = all-at P l h.1 i d (le_of_suc-le-suc k)

  pub all-kept : (P : A → Type 0) (f : A → Bool) (l : List A) → All P l → All P (filter f l)
  all-kept P f [] h = tt
  all-kept P f (a ∷ l) h = by (f a) (all-kept P f l h.1)
    where
      by : (b : Bool) → All P (filter f l) → All P (cons_if b a (filter f l))
      by true k = (h.0, k)
      by false k = k

-- ---- all of them, and nothing else

pub points-in : (bs : List Interval) → All (λ (zs : List ℤ). In zs bs) (points_in bs)
points-in [] = (tt, tt)
points-in (b ∷ bs) = go (points-in bs) (width b) 0 (omega arith) b.low (sym (+ℤ_idr b.low))
  where
    go : All (λ (zs : List ℤ). In zs bs) (points_in bs) → (k j : ℕ) → j + k ≤ width b → (x : ℤ) → x ≡ up b.low j → All (λ (zs : List ℤ). In zs (b ∷ bs)) (points_up (points_in bs) k x)
    go ih zero j h x e = tt
    go ih (suc k) j h x e =
        let i : Inside x b = subst (λ (v : ℤ). Inside v b) (sym e) (index-side b j (omega arith)) in
        let s : (x +ℤ pos 1) ≡ up b.low (suc j) = ap (λ (v : ℤ). v +ℤ pos 1) e ∙ +ℤ_assoc b.low (pos j) (pos 1) ∙ ap (λ (n : ℕ). b.low +ℤ pos n) (add-one j) in
        all_app (λ (zs : List ℤ). In zs (b ∷ bs)) (map (λ (p : List ℤ). x ∷ p) (points_in bs)) (points_up (points_in bs) k (x +ℤ pos 1))
        (all-mapped (λ (zs : List ℤ). In zs (b ∷ bs)) (λ (p : List ℤ). x ∷ p) (λ (zs : List ℤ). In zs bs) (λ zs h. (i, h)) (points_in bs) ih)
        (go ih k (suc j) (omega arith) (x +ℤ pos 1) s)

pub in-points : (bs : List Interval) (zs : List ℤ) → In zs bs → Memᴰ zs (points_in bs)
in-points [] [] h = Memᴰ.head refl
in-points [] (z ∷ zs) h = absurd h
in-points (b ∷ bs) [] h = absurd h
in-points (b ∷ bs) (z ∷ zs) h = let i = side-index b z h.0 in go (in-points bs zs h.1) (width b) b.low i.0 i.1 i.2
  where
    go : Memᴰ zs (points_in bs) → (k : ℕ) (x : ℤ) (i : ℕ) → i < k → z ≡ up x i → Memᴰ (z ∷ zs) (points_up (points_in bs) k x)
    go ih zero x i h e = absurd (not-suc-le-zero h)
    go ih (suc k) x zero h e =
        Memᴰ.append_left (points_up (points_in bs) k (x +ℤ pos 1))
        (subst (λ (v : ℤ). Memᴰ (v ∷ zs) (map (λ (p : List ℤ). x ∷ p) (points_in bs))) (sym (e ∙ +ℤ_idr x)) (Memᴰ.map (λ (p : List ℤ). x ∷ p) ih))
    go ih (suc k) x (suc i) h e =
        Memᴰ.append_right (map (λ (p : List ℤ). x ∷ p) (points_in bs))
        (go ih k (x +ℤ pos 1) i (le_of_suc-le-suc h) (e ∙ sym (up_suc x i)))

-- ---- in dictionary order

abbrev pub Sorted : List (List ℤ) → Type 0
Sorted [] = Unit {0}
Sorted (a ∷ l) = All (Before a) l × Sorted l

sorted-append : (l m : List (List ℤ)) → Sorted l → Sorted m → All (λ (a : List ℤ). All (Before a) m) l → Sorted (l ++ m)
sorted-append [] m h k e = k
sorted-append (a ∷ l) m h k e = (all_app (Before a) l m h.0 e.0, sorted-append l m h.1 k e.1)

sorted-map : (x : ℤ) (l : List (List ℤ)) → Sorted l → Sorted (map (λ (p : List ℤ). x ∷ p) l)
sorted-map x [] h = tt
sorted-map x (a ∷ l) h = (all-mapped (Before (x ∷ a)) (λ (p : List ℤ). x ∷ p) (Before a) (λ p k. inr (refl, k)) l h.0, sorted-map x l h.1)

pub sorted_filter : (f : List ℤ → Bool) (l : List (List ℤ)) → Sorted l → Sorted (filter f l)
sorted_filter f [] h = tt
sorted_filter f (a ∷ l) h = by (f a) (all-kept (Before a) f l h.0) (sorted_filter f l h.1)
  where
    by : (b : Bool) → All (Before a) (filter f l) → Sorted (filter f l) → Sorted (cons_if b a (filter f l))
    by true e k = (e, k)
    by false e k = k

-- what starts with more than x
abbrev Above : ℤ → List ℤ → Type 0
Above x [] = ⊥
Above x (z ∷ zs) = x <ℤ z

above-up : (x : ℤ) (ps : List (List ℤ)) (k : ℕ) (y : ℤ) → x <ℤ y → All (Above x) (points_up ps k y)
above-up x ps zero y l = tt
above-up x ps (suc k) y l =
    all_app (Above x) (map (λ (p : List ℤ). y ∷ p) ps) (points_up ps k (y +ℤ pos 1)) (all_above ps)
    (above-up x ps k (y +ℤ pos 1) (lia-lt (x ∷ y ∷ []) (lt l ∷ []) (search lin depth 30) (omega arith)))
  where
    all_above : (ps : List (List ℤ)) → All (Above x) (map (λ (p : List ℤ). y ∷ p) ps)
    all_above [] = tt
    all_above (p ∷ ps) = (l, all_above ps)

sorted-up : (ps : List (List ℤ)) → Sorted ps → (k : ℕ) (x : ℤ) → Sorted (points_up ps k x)
sorted-up ps h zero x = tt
sorted-up ps h (suc k) x =
    sorted-append (map (λ (p : List ℤ). x ∷ p) ps) (points_up ps k (x +ℤ pos 1)) (sorted-map x ps h) (sorted-up ps h k (x +ℤ pos 1)) (later ps)
  where
    next : All (Above x) (points_up ps k (x +ℤ pos 1))
    next = above-up x ps k (x +ℤ pos 1) (lia-lt (x ∷ []) [] (search lin depth 30) (omega arith))

    before : (p : List ℤ) (l : List (List ℤ)) → All (Above x) l → All (Before (x ∷ p)) l
    before p [] h = tt
    before p ([] ∷ l) h = absurd h.0
    before p ((z ∷ zs) ∷ l) h = (inl h.0, before p l h.1)

    later : (qs : List (List ℤ)) → All (λ (a : List ℤ). All (Before a) (points_up ps k (x +ℤ pos 1))) (map (λ (p : List ℤ). x ∷ p) qs)
    later [] = tt
    later (q ∷ qs) = (before q (points_up ps k (x +ℤ pos 1)) next, later qs)

pub points-sorted : (bs : List Interval) → Sorted (points_in bs)
points-sorted [] = (tt, tt)
points-sorted (b ∷ bs) = sorted-up (points_in bs) (points-sorted bs) (width b) b.low

-- ---- so each once

not-before-self : (zs : List ℤ) → Before zs zs → ⊥
not-before-self [] h = h
not-before-self (z ∷ zs) (inl l) = lia-no (z ∷ []) (lt l ∷ []) (search lin depth 30) (omega arith)
not-before-self (z ∷ zs) (inr h) = not-before-self zs h.1

pub sorted-once : (l : List (List ℤ)) → Sorted l → (i j : ℕ) → i < length l → j < length l → get_or l i [] ≡ get_or l j [] → i ≡ j
sorted-once [] h i j hi hj e = absurd (not-suc-le-zero hi)
sorted-once (a ∷ l) h zero zero hi hj e = refl
sorted-once (a ∷ l) h zero (suc j) hi hj e = absurd (not-before-self a (subst (Before a) (sym e) (all-at (Before a) l h.0 j [] (le_of_suc-le-suc hj))))
sorted-once (a ∷ l) h (suc i) zero hi hj e = absurd (not-before-self a (subst (Before a) e (all-at (Before a) l h.0 i [] (le_of_suc-le-suc hi))))
sorted-once (a ∷ l) h (suc i) (suc j) hi hj e = ap suc (sorted-once l h.1 i j (le_of_suc-le-suc hi) (le_of_suc-le-suc hj) e)

-- ---- none in a box that is upside down

no-points : (k : ℕ) (x : ℤ) → points_up [] k x ≡ []
no-points zero x = refl
no-points (suc k) x = no-points k (x +ℤ pos 1)

pub shut-points : (bs : List Interval) → upright bs ≡ false → points_in bs ≡ []
shut-points [] e = absurd (subst (λ (b : Bool). lib.Dec.T b) e tt)
shut-points (b ∷ bs) e = by (le_z b.low b.high) refl e (shut-points bs)
  where
    by : (c : Bool) → le_z b.low b.high ≡ c → (c && upright bs) ≡ false → (upright bs ≡ false → points_in bs ≡ []) → points_in (b ∷ bs) ≡ []
    by true q e ih = ap (λ (ps : List (List ℤ)). points_up ps (width b) b.low) (ih e) ∙ no-points (width b) b.low
    by false q e ih = ap (λ (c : Bool). points_up (points_in bs) (cond c (suc (nat_abs (b.high -ℤ b.low))) 0) b.low) q
