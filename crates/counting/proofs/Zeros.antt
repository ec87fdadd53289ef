-- A table of zeros.
use mathlib.Core.Path.{◌≡◌, refl, ap, ◌∙◌}
use mathlib.Core.List.{List, ◌∷◌}
use Prim.Native.Nat.{ℕ, zero, suc, ◌-◌}
use native.Mathlib.Omega.{arith}
use lib.ListN.{length, take, drop, get_or, replicate}

pub zeros-at : (k j : ℕ) → ◌≡◌ {A = ℕ} (get_or (replicate k 0) j 0) 0
zeros-at zero zero = refl
zeros-at zero (suc j) = refl
zeros-at (suc k) zero = refl
zeros-at (suc k) (suc j) = zeros-at k j

pub zeros-drop : (k v : ℕ) → drop {A = ℕ} v (replicate k 0) ≡ replicate (k - v) 0
zeros-drop k zero = let e : k ≡ k - 0 = omega arith in ap (λ (n : ℕ). replicate n 0) e
zeros-drop zero (suc v) = let e : 0 ≡ 0 - suc v = omega arith in ap (λ (n : ℕ). replicate n 0) e
zeros-drop (suc k) (suc v) = let e : k - v ≡ suc k - suc v = omega arith in zeros-drop k v ∙ ap (λ (n : ℕ). replicate n 0) e

pub zeros-take : (k v : ℕ) → take {A = ℕ} v (replicate k 0) ≡ replicate (length (take {A = ℕ} v (replicate k 0))) 0
zeros-take k zero = refl
zeros-take zero (suc v) = refl
zeros-take (suc k) (suc v) = ap (λ (l : List ℕ). 0 ∷ l) (zeros-take k v)
