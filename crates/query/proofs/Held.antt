-- The basic set that holds a point first (document 01, "Asking"): it holds the point, no earlier one of either table does, and where
-- there is none no basic set of either table does.
use mathlib.Core.Path.{◌≡◌, refl, sym, ◌∙◌, subst}
use mathlib.Core.Bool.{Bool, true, false, ◌||◌, cond}
use mathlib.Core.List.{List, [], ◌∷◌}
use Prim.Native.Nat.{ℕ, zero, suc, ◌+◌, ◌<◌, suc-le-suc}
use native.Mathlib.Nat.{not-suc-le-zero, le_of_suc-le-suc, zero-lt-suc}
use native.Mathlib.Omega.{arith}
use lib.Dec.{T}
use lib.IntN.{ℤ}
use lib.ListN.{length, get_or, take}
use Rattle.model.specs.Sets.{BasicSet, Set, in_basic, in_set}
use Rattle.codec.specs.Bytes.{Answer, refused, gives, decode}
use Rattle.codec.proofs.Decoded.{no_way}
use Rattle.query.specs.Member.{point_fits}
use Rattle.query.specs.Holder.{first_holding, first, second, Holder, nobody, in_second, in_either, holder_of, on_both, holder_bytes}
use Rattle.model.proofs.Count.{no-suc, suc_inj, to-T}

-- basic set i of s, from 0, holds x, and none before it does
pub record Holds (x : List ℤ) (s : Set) (i : ℕ) : Type 0 where
  pub inside : i < length s
  pub here : (d : BasicSet) → T (in_basic x (get_or s i d))
  pub before : (j : ℕ) → j < i → (d : BasicSet) → ¬ T (in_basic x (get_or s j d))

pub holding-none : (k : ℕ) (x : List ℤ) (s : Set) → first_holding (suc k) x s ≡ 0 → in_set x s ≡ false
holding-none k x [] e = refl
holding-none k x (b ∷ s) e = by (in_basic x b) e (holding-none (suc k) x s)
  where
    by : (c : Bool) → cond c (suc k) (first_holding (suc (suc k)) x s) ≡ 0 → (first_holding (suc (suc k)) x s ≡ 0 → in_set x s ≡ false) → (c || in_set x s) ≡ false
    by true e f = no-suc e
    by false e f = f e

-- the number, counted from k + 1, of the basic set at i is k + 1 + i
pub holding-first : (k : ℕ) (x : List ℤ) (s : Set) (m : ℕ) → first_holding (suc k) x s ≡ suc m → (i : ℕ) × (m ≡ k + i) × Holds x s i
holding-first k x [] m e = no-suc (sym e)
holding-first k x (b ∷ s) m e = by (in_basic x b) refl e (holding-first (suc k) x s m)
  where
    later : in_basic x b ≡ false → (i : ℕ) → Holds x s i → Holds x (b ∷ s) (suc i)
    later q i h = record { inside = suc-le-suc h.inside; here = h.here; before = before }
      where
        before : (j : ℕ) → j < suc i → (d : BasicSet) → ¬ T (in_basic x (get_or (b ∷ s) j d))
        before zero l d t = subst T q t
        before (suc j) l d t = h.before j (le_of_suc-le-suc l) d t

    by : (c : Bool) → in_basic x b ≡ c → cond c (suc k) (first_holding (suc (suc k)) x s) ≡ suc m → (first_holding (suc (suc k)) x s ≡ suc m → (i : ℕ) × (m ≡ suc k + i) × Holds x s i)
        → (i : ℕ) × (m ≡ k + i) × Holds x (b ∷ s) i
    by true q e f =
        (0, zeroth k m (suc_inj e), record { inside = zero-lt-suc (length s); here = λ d. to-T (in_basic x b) q; before = λ j l. absurd (not-suc-le-zero l) })
      where
        zeroth : (k m : ℕ) → k ≡ m → m ≡ k + 0
        zeroth k m e = omega arith
    by false q e f = let r = f e in (suc r.0, shift k r.0 r.1, later q r.0 r.2)
      where
        shift : (k i : ℕ) → m ≡ suc k + i → m ≡ k + suc i
        shift k i e = omega arith

-- ---- of two tables

pub data Held (n : ℕ) (a b : List ℕ) (x : List ℤ) : Holder → Type 0 where
  of-first : (s : Set) → decode n a ≡ gives s → (i : ℕ) → Holds (take n x) s i → Held n a b x (record { table = first; number = suc i })
  of-second : (s t : Set) → decode n a ≡ gives s → decode n b ≡ gives t → in_set (take n x) s ≡ false → (i : ℕ) → Holds (take n x) t i
      → Held n a b x (record { table = second; number = suc i })
  of_none : ((s t : Set) → decode n a ≡ gives s → decode n b ≡ gives t → T (point_fits n x) → (in_set (take n x) s ≡ false) × (in_set (take n x) t ≡ false)) → Held n a b x nobody

gives-inj : {s t : Set} → ◌≡◌ {A = Answer Set} (gives s) (gives t) → s ≡ t
gives-inj e = cc

not-both : {m : ℕ} {s : Set} {X : Type 0} → ◌≡◌ {A = Answer Set} (refused m) (gives s) → X
not-both e = let z : ◌≡◌ {A = ℕ} 0 1 = cc in no_way z

pub held : (n : ℕ) (a b : List ℕ) (x : List ℤ) → Held n a b x (holder_bytes n a b x)
unfolding holder_bytes
held n a b x = by (decode n a) refl (decode n b) refl
  where
    y : List ℤ
    y = take n x

    zeroth : (m i : ℕ) → m ≡ 0 + i → m ≡ i
    zeroth m i e = omega arith

    in-second : (s t : Set) → decode n a ≡ gives s → decode n b ≡ gives t → in_set (take n x) s ≡ false → (j : ℕ) → first_holding 1 (take n x) t ≡ j → Held n a b x (in_second j)
    in-second s t p q none zero e =
        of_none (λ s' t' p' q' w. (
          subst (λ (r : Set). in_set (take n x) r ≡ false) (gives-inj (sym p ∙ p')) none,
          subst (λ (r : Set). in_set (take n x) r ≡ false) (gives-inj (sym q ∙ q')) (holding-none 0 (take n x) t e),
        ))
    in-second s t p q none (suc j) e =
        let r = holding-first 0 (take n x) t j e in
        subst (λ (i : ℕ). Held n a b x (record { table = second; number = suc i })) (sym (zeroth j r.0 r.1)) (of-second s t p q none r.0 r.2)

    in_either_lem : (s t : Set) → decode n a ≡ gives s → decode n b ≡ gives t → (m j : ℕ) → first_holding 1 (take n x) s ≡ m → first_holding 1 (take n x) t ≡ j → Held n a b x (in_either m j)
    in_either_lem s t p q zero j e f = in-second s t p q (holding-none 0 (take n x) s e) j f
    in_either_lem s t p q (suc m) j e f =
        let r = holding-first 0 (take n x) s m e in
        subst (λ (i : ℕ). Held n a b x (record { table = first; number = suc i })) (sym (zeroth m r.0 r.1)) (of-first s p r.0 r.2)

    fitting : (s t : Set) → decode n a ≡ gives s → decode n b ≡ gives t → (c : Bool) → point_fits n x ≡ c
        → Held n a b x (cond c (in_either (first_holding 1 (take n x) s) (first_holding 1 (take n x) t)) nobody)
    fitting s t p q true e = in_either_lem s t p q (first_holding 1 (take n x) s) (first_holding 1 (take n x) t) refl refl
    fitting s t p q false e = of_none (λ s' t' p' q' w. absurd (subst T e w))

    by : (u : Answer Set) → decode n a ≡ u → (v : Answer Set) → decode n b ≡ v → Held n a b x (on_both (holder_of n x) u v)
    by (refused m) p v q = of_none (λ s' t' p' q' w. not-both (sym p ∙ p'))
    by (gives s) p (refused m) q = of_none (λ s' t' p' q' w. not-both (sym q ∙ q'))
    by (gives s) p (gives t) q = fitting s t p q (point_fits n x) refl
