-- Lists under a test or a function, and lists of which every element is so.
use Rattle.std.specs.Prelude.{Bool, true, false, ◌&&◌, ◌||◌, List, [], ◌∷◌, ◌++◌}

module _ {ℓ} {A : Type ℓ} where
  abbrev pub all : (A → Bool) → List A → Bool
  all f [] = true
  all f (a ∷ l) = f a && all f l

  abbrev pub any : (A → Bool) → List A → Bool
  any f [] = false
  any f (a ∷ l) = f a || any f l

module _ {ℓ κ} {A : Type ℓ} {B : Type κ} where
  abbrev pub concat_map : (A → List B) → List A → List B
  concat_map f [] = []
  concat_map f (a ∷ l) = f a ++ concat_map f l

module _ {ℓ} {A : Type ℓ} where
  abbrev pub cons_if : Bool → A → List A → List A
  cons_if true a l = a ∷ l
  cons_if false a l = l

  abbrev pub filter : (A → Bool) → List A → List A
  filter f [] = []
  filter f (a ∷ l) = cons_if (f a) a (filter f l)

  abbrev pub is_nil : List A → Bool
  is_nil [] = true
  is_nil (a ∷ l) = false

module _ {A : Type 0} where
  abbrev pub All : (A → Type 0) → List A → Type 0
  All P [] = Unit {0}
  All P (a ∷ l) = P a × All P l
