-- Laws of the bytes of commands, one behind the other.
use mathlib.Core.Path.{◌≡◌, refl, sym, ap, ap₂, ◌∙◌}
use mathlib.Core.List.{List, [], ◌∷◌, ◌++◌, map, append_assoc}
use Prim.Native.Nat.{ℕ, suc, ◌+◌, ◌*◌}
use native.Mathlib.Omega.{arith}
use lib.IntN.{ℤ}
use lib.ListN.{length, length-append}
use Rattle.model.specs.Lists.{concat_map}
use Rattle.model.specs.Sets.{Set}
use Rattle.codec.specs.Bytes.{opens, division, constraint, signed_bytes, encode_command, commands, encode}

pub concat-more : {A B : Type 0} (f : A → List B) (l m : List A) → concat_map f (l ++ m) ≡ concat_map f l ++ concat_map f m
concat-more f [] m = refl
concat-more f (a ∷ l) m = ap (λ (r : List _). f a ++ r) (concat-more f l m) ∙ sym (append_assoc (f a) (concat_map f l) (concat_map f m))

pub concat-map : {A B C : Type 0} (f : B → List C) (g : A → B) (l : List A) → concat_map f (map g l) ≡ concat_map (λ (a : A). f (g a)) l
concat-map f g [] = refl
concat-map f g (a ∷ l) = ap (λ (r : List _). f (g a) ++ r) (concat-map f g l)

pub concat-length : {A B : Type 0} (f : A → List B) (w : ℕ) → ((a : A) → length (f a) ≡ w) → (l : List A) → length (concat_map f l) ≡ w * length l
concat-length f w h [] = omega arith
concat-length f w h (a ∷ l) = let e = concat-length f w h l in let g = h a in length-append (f a) (concat_map f l) ∙ next (length (f a)) (length (concat_map f l)) (length l) g e
  where
    next : (x y n : ℕ) → x ≡ w → y ≡ w * n → x + y ≡ w * suc n
    next x y n p q = ap₂ ◌+◌ p q ∙ native.Mathlib.Nat.add_comm w (w * n) ∙ sym (native.Mathlib.Nat.mul-suc w n)

pub coefficients-length : (a : List ℤ) → length (concat_map (signed_bytes 2) a) ≡ 2 * length a
coefficients-length = concat-length (signed_bytes 2) 2 (λ z. refl)

pub encode-more : (s t : Set) → encode (s ++ t) ≡ encode s ++ encode t
unfolding encode
encode-more s t = ap (concat_map encode_command) (concat-more (λ b. opens ∷ map division b.divisions ++ map constraint b.constraints) s t) ∙ concat-more encode_command (commands s) (commands t)
