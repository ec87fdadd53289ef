-- Of the choices among N variables no more than 2 to the power of N are different. Assumes nothing.
use mathlib.Core.Path.{◌≡◌, refl, sym, ap, ◌∙◌, subst}
use mathlib.Core.Bool.{Bool, true, false, cond}
use mathlib.Core.Logic.{⊎_elim}
use mathlib.Core.List.{List, [], ◌∷◌}
use Prim.Native.Nat.{ℕ, zero, suc, ◌+◌, ◌^◌, ◌≤◌, ◌<◌}
use native.Mathlib.Nat.{le_refl, not-suc-le-zero, suc-add, add-suc}
use native.Mathlib.Omega.{arith}
use lib.ListN.{length}
use Rattle.integers.specs.Part.{lt-or-le}

abbrev pub Choice : Type 0
Choice = ℕ → Bool

abbrev pub Differ : ℕ → Choice → Choice → Type 0
Differ N f g = ((v : ℕ) → v < N → f v ≡ g v) → ⊥

abbrev pub Apart : ℕ → Choice → List Choice → Type 0
Apart N f [] = Unit {0}
Apart N f (g ∷ l) = Differ N f g × Apart N f l

abbrev pub AllApart : ℕ → List Choice → Type 0
AllApart N [] = Unit {0}
AllApart N (f ∷ l) = Apart N f l × AllApart N l

-- those with N, and those without
abbrev yes_at : ℕ → List Choice → List Choice
yes_at N [] = []
yes_at N (f ∷ l) = cond (f N) (f ∷ yes_at N l) (yes_at N l)

abbrev no_at : ℕ → List Choice → List Choice
no_at N [] = []
no_at N (f ∷ l) = cond (f N) (no_at N l) (f ∷ no_at N l)

halves : (N : ℕ) (l : List Choice) → length (yes_at N l) + length (no_at N l) ≡ length l
halves N [] = refl
halves N (f ∷ l) = at (f N) (halves N l)
  where
    at : (b : Bool) → length (yes_at N l) + length (no_at N l) ≡ length l → length (cond b (f ∷ yes_at N l) (yes_at N l)) + length (cond b (no_at N l) (f ∷ no_at N l)) ≡ suc (length l)
    at true e = suc-add (length (yes_at N l)) (length (no_at N l)) ∙ ap suc e
    at false e = add-suc (length (yes_at N l)) (length (no_at N l)) ∙ ap suc e

-- choices that agree at N differ below it
lower : (N : ℕ) (f g : Choice) → f N ≡ g N → Differ (suc N) f g → Differ N f g
lower N f g e d a = d (λ v h. ⊎_elim (a v) (λ k. let q : v ≡ N = omega arith in subst (λ (x : ℕ). f x ≡ g x) (sym q) e) (lt-or-le v N))

apart-yes : (N : ℕ) (f : Choice) (l : List Choice) → f N ≡ true → Apart (suc N) f l → Apart N f (yes_at N l)
apart-yes N f [] e a = tt
apart-yes N f (g ∷ l) e a = at (g N) refl (apart-yes N f l e a.1)
  where
    at : (b : Bool) → g N ≡ b → Apart N f (yes_at N l) → Apart N f (cond b (g ∷ yes_at N l) (yes_at N l))
    at true q r = (lower N f g (e ∙ sym q) a.0, r)
    at false q r = r

apart-no : (N : ℕ) (f : Choice) (l : List Choice) → f N ≡ false → Apart (suc N) f l → Apart N f (no_at N l)
apart-no N f [] e a = tt
apart-no N f (g ∷ l) e a = at (g N) refl (apart-no N f l e a.1)
  where
    at : (b : Bool) → g N ≡ b → Apart N f (no_at N l) → Apart N f (cond b (no_at N l) (g ∷ no_at N l))
    at true q r = r
    at false q r = (lower N f g (e ∙ sym q) a.0, r)

all-halves : (N : ℕ) (l : List Choice) → AllApart (suc N) l → AllApart N (yes_at N l) × AllApart N (no_at N l)
all-halves N [] a = (tt, tt)
all-halves N (f ∷ l) a = at (f N) refl (all-halves N l a.1)
  where
    at : (b : Bool) → f N ≡ b → AllApart N (yes_at N l) × AllApart N (no_at N l) → AllApart N (cond b (f ∷ yes_at N l) (yes_at N l)) × AllApart N (cond b (no_at N l) (f ∷ no_at N l))
    at true q r = ((apart-yes N f l q a.0, r.0), r.1)
    at false q r = (r.0, (apart-no N f l q a.0, r.1))

pub pigeons : (N : ℕ) (l : List Choice) → AllApart N l → length l ≤ 2 ^ N
pigeons zero [] a = omega arith
pigeons zero (f ∷ []) a = le_refl 1
pigeons zero (f ∷ g ∷ l) a = absurd (a.0.0 (λ v h. absurd (not-suc-le-zero h)))
pigeons (suc N) l a =
    let h = all-halves N l a in
    let p : length (yes_at N l) ≤ 2 ^ N = pigeons N (yes_at N l) h.0 in
    let q : length (no_at N l) ≤ 2 ^ N = pigeons N (no_at N l) h.1 in
    let e : length (yes_at N l) + length (no_at N l) ≡ length l = halves N l in
    omega arith
