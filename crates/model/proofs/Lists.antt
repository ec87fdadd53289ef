-- Lists that are mapped, and lists that a loop changes from the front. Assumes nothing.
use mathlib.Core.Path.{◌≡◌, refl, sym, ap, ap₂, ◌∙◌}
use mathlib.Core.Bool.{Bool, true, false, ◌&&◌, ◌||◌}
use mathlib.Core.List.{List, [], ◌∷◌, ◌++◌, map}
use Prim.Native.Nat.{ℕ, zero, suc, ◌+◌, ◌≤◌, ◌<◌, zero-le, suc-le-suc}
use native.Mathlib.Nat.{le_of_suc-le-suc, not-suc-le-zero}
use native.Mathlib.Numerals.{add-one}
use native.Mathlib.Omega.{arith}
use lib.ListN.{length, take, get_or, set}
use Rattle.model.specs.Lists.{All, all, any, concat_map, cons_if, filter, is_nil}

-- ---- mapped

module _ {A B : Type 0} (f : A → B) where
  pub map-append : (l m : List A) → map f (l ++ m) ≡ map f l ++ map f m
  map-append [] m = refl
  map-append (x ∷ l) m = ap (λ (r : List B). f x ∷ r) (map-append l m)

  pub map-take : (n : ℕ) (l : List A) → map f (take n l) ≡ take n (map f l)
  map-take zero l = refl
  map-take (suc n) [] = refl
  map-take (suc n) (x ∷ l) = ap (λ (r : List B). f x ∷ r) (map-take n l)

  pub map_get : (l : List A) (i : ℕ) (d : A) (e : B) → i < length l → get_or (map f l) i e ≡ f (get_or l i d)
  map_get [] i d e h = absurd (not-suc-le-zero h)
  map_get (x ∷ l) zero d e h = refl
  map_get (x ∷ l) (suc i) d e h = map_get l i d e (le_of_suc-le-suc h)

  pub map-set : (l : List A) (i : ℕ) (v : A) → map f (set l i v) ≡ set (map f l) i (f v)
  map-set [] i v = refl
  map-set (x ∷ l) zero v = refl
  map-set (x ∷ l) (suc i) v = ap (λ (r : List B). f x ∷ r) (map-set l i v)

-- ---- lists of which every element is so

module _ {A : Type 0} where
  pub all_app : (P : A → Type 0) (l m : List A) → All P l → All P m → All P (l ++ m)
  all_app P [] m p q = q
  all_app P (a ∷ l) m p q = (p.0, all_app P l m p.1 q)

  pub all-imp : (P Q : A → Type 0) → ((a : A) → P a → Q a) → (l : List A) → All P l → All Q l
  all-imp P Q f [] p = tt
  all-imp P Q f (a ∷ l) p = (f a p.0, all-imp P Q f l p.1)

pub all-mapped : {A B : Type 0} (P : B → Type 0) (g : A → B) (Q : A → Type 0) → ((a : A) → Q a → P (g a)) → (l : List A) → All Q l → All P (map g l)
all-mapped P g Q f [] q = tt
all-mapped P g Q f (a ∷ l) q = (f a q.0, all-mapped P g Q f l q.1)

-- ---- tests and functions on the elements that a map changes: f' says of g a what f says of a

module _ {A B : Type 0} (g : A → B) (f : A → Bool) (f' : B → Bool) (same : (a : A) → f' (g a) ≡ f a) where
  pub all-through : (l : List A) → all f' (map g l) ≡ all f l
  all-through [] = refl
  all-through (a ∷ l) = ap₂ ◌&&◌ (same a) (all-through l)

  pub any-through : (l : List A) → any f' (map g l) ≡ any f l
  any-through [] = refl
  any-through (a ∷ l) = ap₂ ◌||◌ (same a) (any-through l)

  pub filter-through : (l : List A) → filter f' (map g l) ≡ map g (filter f l)
  filter-through [] = refl
  filter-through (a ∷ l) = ap₂ (λ (b : Bool) (r : List B). cons_if b (g a) r) (same a) (filter-through l) ∙ out (f a)
    where
      out : (b : Bool) → cons_if b (g a) (map g (filter f l)) ≡ map g (cons_if b a (filter f l))
      out true = refl
      out false = refl

module _ {A B C D : Type 0} (g : A → B) (h : C → D) where
  pub map-through : (f : A → C) (f' : B → D) → ((a : A) → f' (g a) ≡ h (f a)) → (l : List A) → map f' (map g l) ≡ map h (map f l)
  map-through f f' same [] = refl
  map-through f f' same (a ∷ l) = ap₂ ◌∷◌ (same a) (map-through f f' same l)

  pub concat-through : (f : A → List C) (f' : B → List D) → ((a : A) → f' (g a) ≡ map h (f a)) → (l : List A) → concat_map f' (map g l) ≡ map h (concat_map f l)
  concat-through f f' same [] = refl
  concat-through f f' same (a ∷ l) = ap₂ ◌++◌ (same a) (concat-through f f' same l) ∙ sym (map-append h (f a) (concat_map f l))

pub nil-through : {A B : Type 0} (g : A → B) (l : List A) → is_nil (map g l) ≡ is_nil l
nil-through g [] = refl
nil-through g (a ∷ l) = refl

-- ---- a loop that changes a list from the front: the first n numbers changed, each by the function of its place
unfoldable pub up_to : {A : Type 0} → (ℕ → A → A) → ℕ → List A → List A
up_to f zero l = l
up_to f (suc n) [] = []
up_to f (suc n) (x ∷ l) = f 0 x ∷ up_to (λ i. f (suc i)) n l

pub up_to-none : {A : Type 0} (f : ℕ → A → A) (l : List A) → l ≡ up_to f 0 l
unfolding up_to
up_to-none f l = refl

pub up_to-length : {A : Type 0} (f : ℕ → A → A) (n : ℕ) (l : List A) → length (up_to f n l) ≡ length l
unfolding up_to
up_to-length f zero l = refl
up_to-length f (suc n) [] = refl
up_to-length f (suc n) (x ∷ l) = ap suc (up_to-length (λ i. f (suc i)) n l)

-- the next number is as it was
pub up_to-next : {A : Type 0} (f : ℕ → A → A) (n : ℕ) (l : List A) (d : A) → get_or (up_to f n l) n d ≡ get_or l n d
unfolding up_to
up_to-next f zero l d = refl
up_to-next f (suc n) [] d = refl
up_to-next f (suc n) (x ∷ l) d = up_to-next (λ i. f (suc i)) n l d

up_to-suc : {A : Type 0} (f : ℕ → A → A) (n : ℕ) (l : List A) (d : A) → n < length l → set (up_to f n l) n (f n (get_or l n d)) ≡ up_to f (suc n) l
unfolding up_to
up_to-suc f n [] d h = absurd (not-suc-le-zero h)
up_to-suc f zero (x ∷ l) d h = refl
up_to-suc f (suc n) (x ∷ l) d h = ap (λ t. f 0 x ∷ t) (up_to-suc (λ i. f (suc i)) n l d (le_of_suc-le-suc h))

-- the store of one turn
pub up_to-more : {A : Type 0} (d : A) (f : ℕ → A → A) (n : ℕ) (l r : List A) (v : A) → n < length l → r ≡ up_to f n l → v ≡ f n (get_or r n d) → set r n v ≡ up_to f (n + 1) l
up_to-more d f n l r v h e w =
    let q : v ≡ f n (get_or l n d) = w ∙ ap (f n) (ap (λ t. get_or t n d) e ∙ up_to-next f n l d) in
    rw (add-one, q, e) (up_to-suc f n l d h)

-- what stays past the n-th as it is may be changed too
pub up_to-rest : {A : Type 0} (f : ℕ → A → A) (n m : ℕ) (l : List A) (d : A) → n ≤ m → ((k : ℕ) → n ≤ k → f k (get_or l k d) ≡ get_or l k d) → up_to f n l ≡ up_to f m l
unfolding up_to
up_to-rest f zero zero l d h e = refl
up_to-rest f zero (suc m) [] d h e = refl
up_to-rest f zero (suc m) (x ∷ l) d h e = ap₂ ◌∷◌ (sym (e 0 zero-le)) (up_to-rest (λ i. f (suc i)) zero m l d zero-le (λ k a. e (suc k) zero-le))
up_to-rest f (suc n) zero l d h e = absurd (not-suc-le-zero h)
up_to-rest f (suc n) (suc m) [] d h e = refl
up_to-rest f (suc n) (suc m) (x ∷ l) d h e = ap (λ t. f 0 x ∷ t) (up_to-rest (λ i. f (suc i)) n m l d (le_of_suc-le-suc h) (λ k a. e (suc k) (suc-le-suc a)))

-- the same function at each place
unfoldable pub each : {A : Type 0} → (A → A) → ℕ → A → A
each f i x = f x

pub each_at : {A : Type 0} (g : A → A) (i : ℕ) (x : A) → g x ≡ each g i x
unfolding each
each_at g i x = refl

pub up_to-each : {A : Type 0} (g : A → A) (n : ℕ) (l : List A) → length l ≤ n → up_to (each g) n l ≡ map g l
unfolding up_to each
up_to-each g zero [] h = refl
up_to-each g zero (x ∷ l) h = absurd (not-suc-le-zero h)
up_to-each g (suc n) [] h = refl
up_to-each g (suc n) (x ∷ l) h = ap (λ t. g x ∷ t) (up_to-each g n l (le_of_suc-le-suc h))

-- the same function at each place but one
unfoldable pub but : {A : Type 0} → ℕ → (A → A) → ℕ → A → A
but zero f zero x = x
but zero f (suc k) x = f x
but (suc i) f zero x = f x
but (suc i) f (suc k) x = but i f k x

pub but-own : {A : Type 0} (i : ℕ) (f : A → A) (x : A) → x ≡ but i f i x
unfolding but
but-own zero f x = refl
but-own (suc i) f x = but-own i f x

pub but-other : {A : Type 0} (i k : ℕ) (f : A → A) (x : A) → (k ≡ i → ⊥) → f x ≡ but i f k x
unfolding but
but-other zero zero f x n = absurd (n refl)
but-other zero (suc k) f x n = refl
but-other (suc i) zero f x n = refl
but-other (suc i) (suc k) f x n = but-other i k f x (λ e. n (ap suc e))

pub up_to-but : {A : Type 0} (d : A) (i : ℕ) (g : A → A) (n : ℕ) (l : List A) → length l ≤ n → up_to (but i g) n l ≡ set (map g l) i (get_or l i d)
unfolding up_to but each
up_to-but d i g zero [] h = refl
up_to-but d i g zero (x ∷ l) h = absurd (not-suc-le-zero h)
up_to-but d i g (suc n) [] h = refl
up_to-but d zero g (suc n) (x ∷ l) h = ap (λ t. x ∷ t) (up_to-each g n l (le_of_suc-le-suc h))
up_to-but d (suc i) g (suc n) (x ∷ l) h = ap (λ t. g x ∷ t) (up_to-but d i g n l (le_of_suc-le-suc h))

pub up_to-take : {A : Type 0} (g : A → A) (n : ℕ) (l : List A) → take n (up_to (each g) n l) ≡ map g (take n l)
unfolding up_to each
up_to-take g zero l = refl
up_to-take g (suc n) [] = refl
up_to-take g (suc n) (x ∷ l) = ap (λ t. g x ∷ t) (up_to-take g n l)

-- each place taken over from a list
unfoldable pub from_list : {A : Type 0} → A → List A → ℕ → A → A
from_list d s i x = get_or s i d

pub from_list-is : {A : Type 0} (d : A) (s : List A) (i : ℕ) (x : A) → from_list d s i x ≡ get_or s i d
unfolding from_list
from_list-is d s i x = refl

pub up_to-from : {A : Type 0} (d : A) (n : ℕ) (l s : List A) → length l ≤ n → length l ≡ length s → up_to (from_list d s) n l ≡ s
unfolding up_to from_list
up_to-from d zero [] [] h e = refl
up_to-from d zero [] (y ∷ s) h e = absurd (omega arith)
up_to-from d zero (x ∷ l) s h e = absurd (not-suc-le-zero h)
up_to-from d (suc n) [] [] h e = refl
up_to-from d (suc n) [] (y ∷ s) h e = absurd (omega arith)
up_to-from d (suc n) (x ∷ l) [] h e = absurd (omega arith)
up_to-from d (suc n) (x ∷ l) (y ∷ s) h e = ap (λ t. y ∷ t) (up_to-from d n l s (le_of_suc-le-suc h) (omega arith))
