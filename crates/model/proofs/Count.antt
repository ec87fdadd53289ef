-- How many elements of a list pass a test: one equation on it says both which points the pieces hold and that no two pieces share one.
use mathlib.Core.Path.{◌≡◌, refl, sym, ap, ap₂, ◌∙◌, subst}
use mathlib.Core.Bool.{Bool, true, false, ◌&&◌, ◌||◌, cond}
use mathlib.Core.List.{List, [], ◌∷◌, ◌++◌}
use Prim.Native.Nat.{ℕ, zero, suc, ◌+◌, ◌≤◌, ◌<◌}
use native.Mathlib.Nat.{zero-add, add_assoc, not-suc-le-zero, le_of_suc-le-suc}
use lib.ListN.{length, get_or}
use native.Mathlib.Omega.{arith}
use lib.Dec.{T, ltb, lt→ltb}
use Rattle.model.specs.Lists.{all, any, concat_map, cons_if, filter}

abbrev pub ind : Bool → ℕ
ind true = 1
ind false = 0

pub and_left : (a b : Bool) → T (a && b) → T a
and_left true b t = tt
and_left false b t = t

pub and_right : (a b : Bool) → T (a && b) → T b
and_right true b t = t
and_right false b t = absurd t

pub and-make : (a b : Bool) → T a → T b → T (a && b)
and-make true b s t = t
and-make false b s t = absurd s

pub from-T : (b : Bool) → T b → b ≡ true
from-T true t = refl
from-T false t = absurd t

pub to-T : (b : Bool) → b ≡ true → T b
to-T b e = subst T (sym e) tt

pub and-true : (b : Bool) → (b && true) ≡ b
and-true true = refl
and-true false = refl

pub and_assoc : (a b c : Bool) → (a && b && c) ≡ (a && (b && c))
and_assoc true b c = refl
and_assoc false b c = refl

module _ {A : Type 0} where
  abbrev pub count : (A → Bool) → List A → ℕ
  count f [] = 0
  count f (a ∷ l) = ind (f a) + count f l

  pub all_append : (f : A → Bool) (l m : List A) → all f (l ++ m) ≡ (all f l && all f m)
  all_append f [] m = refl
  all_append f (a ∷ l) m = ap (λ (b : Bool). f a && b) (all_append f l m) ∙ sym (and_assoc (f a) (all f l) (all f m))

  pub all-at : (f : A → Bool) (l : List A) (i : ℕ) (d : A) → i < length l → T (all f l) → T (f (get_or l i d))
  all-at f [] i d h t = absurd (not-suc-le-zero h)
  all-at f (a ∷ l) zero d h t = and_left (f a) (all f l) t
  all-at f (a ∷ l) (suc i) d h t = all-at f l i d (le_of_suc-le-suc h) (and_right (f a) (all f l) t)

  pub count-append : (f : A → Bool) (l m : List A) → count f (l ++ m) ≡ count f l + count f m
  count-append f [] m = sym (zero-add (count f m))
  count-append f (a ∷ l) m = ap (λ (k : ℕ). ind (f a) + k) (count-append f l m) ∙ sym (add_assoc (ind (f a)) (count f l) (count f m))

  -- a filter that drops nothing that passes does not change the count
  dropped : (k p : Bool) (a : A) (f : A → Bool) (l : List A) (n : ℕ) → f a ≡ p → (T p → T k) → count f l ≡ n → count f (cons_if k a l) ≡ ind p + n
  dropped true p a f l n e h i = ap₂ (λ (b : Bool) (m : ℕ). ind b + m) e i
  dropped false true a f l n e h i = absurd (h tt)
  dropped false false a f l n e h i = i ∙ sym (zero-add n)

  pub count-filter : (f keep : A → Bool) (ok : A → Bool) → ((a : A) → T (ok a) → T (f a) → T (keep a)) → (l : List A) → T (all ok l)
      → count f (filter keep l) ≡ count f l
  count-filter f keep ok h [] w = refl
  count-filter f keep ok h (a ∷ l) w =
      dropped (keep a) (f a) a f (filter keep l) (count f l) refl (h a (and_left (ok a) (all ok l) w))
      (count-filter f keep ok h l (and_right (ok a) (all ok l) w))

  all-cons_if : (ok : A → Bool) (k : Bool) (a : A) (l : List A) → T (ok a) → T (all ok l) → T (all ok (cons_if k a l))
  all-cons_if ok true a l s t = and-make (ok a) (all ok l) s t
  all-cons_if ok false a l s t = t

  pub all_filter : (ok keep : A → Bool) (l : List A) → T (all ok l) → T (all ok (filter keep l))
  all_filter ok keep [] w = tt
  all_filter ok keep (a ∷ l) w =
      all-cons_if ok (keep a) a (filter keep l) (and_left (ok a) (all ok l) w) (all_filter ok keep l (and_right (ok a) (all ok l) w))

  pub any-count : (f : A → Bool) (l : List A) → any f l ≡ ltb 0 (count f l)
  any-count f [] = refl
  any-count f (a ∷ l) = step (f a) (count f l) (any f l) (any-count f l)
    where
      step : (b : Bool) (n : ℕ) (c : Bool) → c ≡ ltb 0 n → (b || c) ≡ ltb 0 (ind b + n)
      step true n c e = sym (from-T (ltb 0 (1 + n)) (lt→ltb 0 (1 + n) (omega arith)))
      step false n c e = e ∙ ap (λ (k : ℕ). ltb 0 k) (sym (zero-add n))

  -- two places of a list with a count of at most one do not both pass
  at_least_one : (f : A → Bool) (d : A) (l : List A) (i : ℕ) → i < length l → T (f (get_or l i d)) → 1 ≤ count f l
  at_least_one f d [] i h t = absurd (not-suc-le-zero h)
  at_least_one f d (a ∷ l) zero h t = subst (λ (b : Bool). 1 ≤ ind b + count f l) (sym (from-T (f a) t)) (omega arith)
  at_least_one f d (a ∷ l) (suc i) h t = let k = at_least_one f d l i (le_of_suc-le-suc h) t in omega arith

  pub alone : (f : A → Bool) (d : A) (l : List A) → count f l ≤ 1 → (i j : ℕ) → i < length l → j < length l → T (f (get_or l i d)) → T (f (get_or l j d)) → i ≡ j
  alone f d [] c i j hi hj s t = absurd (not-suc-le-zero hi)
  alone f d (a ∷ l) c zero zero hi hj s t = refl
  alone f d (a ∷ l) c zero (suc j) hi hj s t = absurd (twice (f a) (count f l) s c (at_least_one f d l j (le_of_suc-le-suc hj) t))
    where
      twice : (b : Bool) (n : ℕ) → T b → ind b + n ≤ 1 → 1 ≤ n → ⊥
      twice true n s c h = omega arith
      twice false n s c h = s
  alone f d (a ∷ l) c (suc i) zero hi hj s t = absurd (twice (f a) (count f l) t c (at_least_one f d l i (le_of_suc-le-suc hi) s))
    where
      twice : (b : Bool) (n : ℕ) → T b → ind b + n ≤ 1 → 1 ≤ n → ⊥
      twice true n s c h = omega arith
      twice false n s c h = s
  alone f d (a ∷ l) c (suc i) (suc j) hi hj s t = ap suc (alone f d l (omega arith) i j (le_of_suc-le-suc hi) (le_of_suc-le-suc hj) s t)

module _ {A B : Type 0} where
  -- where each part's count is the same number or nothing
  pub count-concat : (f : B → Bool) (g : A → List B) (h : A → Bool) (ok : A → Bool) (on : Bool)
      → ((a : A) → T (ok a) → count f (g a) ≡ ind (h a && on)) → (l : List A) → T (all ok l) → count f (concat_map g l) ≡ cond on (count h l) 0
  count-concat f g h ok on e [] w = none on
    where
      none : (b : Bool) → ◌≡◌ {A = ℕ} 0 (cond b 0 0)
      none true = refl
      none false = refl
  count-concat f g h ok on e (a ∷ l) w =
      count-append f (g a) (concat_map g l)
      ∙ ap₂ ◌+◌ (e a (and_left (ok a) (all ok l) w)) (count-concat f g h ok on e l (and_right (ok a) (all ok l) w))
      ∙ step on (h a) (count h l)
    where
      step : (b p : Bool) (n : ℕ) → ind (p && b) + cond b n 0 ≡ cond b (ind p + n) 0
      step true true n = refl
      step true false n = refl
      step false true n = refl
      step false false n = refl

  pub all-concat : (ok : A → Bool) (ok' : B → Bool) (g : A → List B) → ((a : A) → T (ok a) → T (all ok' (g a))) → (l : List A) → T (all ok l) → T (all ok' (concat_map g l))
  all-concat ok ok' g h [] w = tt
  all-concat ok ok' g h (a ∷ l) w =
      to-T (all ok' (g a ++ concat_map g l))
      (all_append ok' (g a) (concat_map g l)
      ∙ from-T (all ok' (g a) && all ok' (concat_map g l))
      (and-make (all ok' (g a)) (all ok' (concat_map g l)) (h a (and_left (ok a) (all ok l) w)) (all-concat ok ok' g h l (and_right (ok a) (all ok l) w))))

pub suc_inj : {m n : ℕ} → suc m ≡ suc n → m ≡ n
suc_inj e = omega arith

pub no-suc : {n : ℕ} {X : Type 0} → suc n ≡ 0 → X
no-suc {n} e = absurd (clash n e)
  where
    clash : (n : ℕ) → suc n ≡ 0 → ⊥
    clash n e = omega arith
