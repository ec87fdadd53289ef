-- The greatest and the least sum of coefficients times sides.
use mathlib.Core.Path.{◌≡◌, refl, sym, ap, ap₂, ◌∙◌, subst}
use mathlib.Core.Bool.{Bool, true, false, cond}
use mathlib.Core.List.{List, [], ◌∷◌}
use Prim.Native.Nat.{ℕ, zero, suc, ◌+◌, ◌-◌, ◌*◌, ◌≤◌, ◌<◌}
use native.Mathlib.Numerals.{add-one}
use native.Mathlib.Omega.{arith}
use native.Mathlib.Nat.{mul-le-mul, le_refl}
use lib.IntN.{ℤ, pos, ◌+ℤ◌, ◌*ℤ◌, +ℤ_idr, +ℤ_assoc}
use lib.Signed.{non_neg}
use lib.ListN.{length, take, drop, get_or, drop_of_length-le}
use lib.Seq.{drop-cons, drop-drop}
use mir.Syntax.{w64}
use mir.Val.{SFits, to_z, of_z}
use Rattle.integers.specs.Z.{Within}
use Rattle.integers.specs.Mach.{to_z_of_z}
use Rattle.integers.specs.Size.{within-mono, within-add, within-mul, within-fits}
use Rattle.codec.specs.Bytes.{value_of, signed, signed_list}
use Rattle.bounds.specs.Intervals.{plus, times, dot_sides, box_of}
use Rattle.bounds.specs.Ends.{AllWithin}
use Rattle.bounds.specs.Ends.{best, side}

-- ---- one term
pub pick-within : {B : ℕ} {u v : ℤ} (a : ℤ) → Within B u → Within B v → Within B (cond (non_neg a) u v)
pick-within {B} {u} {v} a h k = go (non_neg a)
  where
    go : (b : Bool) → Within B (cond b u v)
    go true = h
    go false = k

pub term-within : {B : ℕ} {a u v : ℤ} → Within 32768 a → Within B u → Within B v → Within (32768 * B) (a *ℤ cond (non_neg a) u v)
term-within {B} {a} w h k = within-mul w (pick-within a h k)

pub product-fits : {a u : ℤ} → Within 32768 a → Within 2199023255552 u → SFits w64 (a *ℤ u)
product-fits h k = within-fits (omega arith) (within-mul h k)

pub term-plain : {a u v : ℤ} → Within 32768 a → Within 2199023255552 u → Within 2199023255552 v
    → to_z w64 (of_z w64 a) *ℤ cond (non_neg (to_z w64 (of_z w64 a))) (to_z w64 (of_z w64 u)) (to_z w64 (of_z w64 v)) ≡ a *ℤ cond (non_neg a) u v
term-plain {a} {u} {v} ha hu hv =
    let ea : to_z w64 (of_z w64 a) ≡ a = to_z_of_z {w = w64} {z = a} (within-fits (omega arith) ha) in
    let eu : to_z w64 (of_z w64 u) ≡ u = to_z_of_z {w = w64} {z = u} (within-fits (omega arith) hu) in
    let ev : to_z w64 (of_z w64 v) ≡ v = to_z_of_z {w = w64} {z = v} (within-fits (omega arith) hv) in
    rw (ea, eu, ev) refl

-- ---- the loop over the sides
best-nil : (cs vs : List ℤ) → best cs [] vs ≡ pos 0
best-nil [] vs = refl
best-nil (a ∷ cs) vs = refl

abbrev pub rest : List ℕ → List ℤ → List ℤ → ℕ → ℕ → ℤ
rest t u v q i = best (signed_list (8 - i) (drop q t)) (drop i u) (drop i v)

best-more : (t : List ℕ) (u v : List ℤ) (q i : ℕ) → i < length u → length v ≡ length u → length u ≤ 8
    → rest t u v q i ≡ signed 2 (value_of (take 2 (drop q t))) *ℤ cond (non_neg (signed 2 (value_of (take 2 (drop q t))))) (get_or u i (pos 0)) (get_or v i (pos 0)) +ℤ rest t u v (q + 2) (i + 1)
best-more t u v q i h e l =
    let m : 8 - i ≡ suc (8 - (i + 1)) = omega arith in
    let a : ℤ = signed 2 (value_of (take 2 (drop q t))) in
    let du : drop i u ≡ get_or u i (pos 0) ∷ drop (i + 1) u = drop-cons u i (pos 0) h ∙ ap (λ (j : ℕ). get_or u i (pos 0) ∷ drop j u) (sym (add-one i)) in
    let dv : drop i v ≡ get_or v i (pos 0) ∷ drop (i + 1) v = drop-cons v i (pos 0) (omega arith) ∙ ap (λ (j : ℕ). get_or v i (pos 0) ∷ drop j v) (sym (add-one i)) in
    ap (λ (n : ℕ). best (signed_list n (drop q t)) (drop i u) (drop i v)) m
    ∙ ap₂ (λ (x y : List ℤ). best (signed_list (suc (8 - (i + 1))) (drop q t)) x y) du dv
    ∙ ap (λ (r : List ℕ). a *ℤ cond (non_neg a) (get_or u i (pos 0)) (get_or v i (pos 0)) +ℤ best (signed_list (8 - (i + 1)) r) (drop (i + 1) u) (drop (i + 1) v)) (drop-drop 2 q t)

pub record Summing (t : List ℕ) (p : ℕ) (u v : List ℤ) (from sum : ℤ) (i : ℕ) : Type 0 where
  pub size : (F B : ℕ) → Within F from → AllWithin B u → AllWithin B v → Within (F + i * (32768 * B)) sum
  pub same : sum +ℤ rest t u v (p + 2 * i) i ≡ from +ℤ best (signed_list 8 (drop p t)) u v

pub summing_start : (t : List ℕ) (p : ℕ) (u v : List ℤ) (from sum : ℤ) → sum ≡ from → Summing t p u v from sum 0
summing_start t p u v from sum e =
    let q : p + 2 * 0 ≡ p = omega arith in
    record { size = λ F B f hu hv. subst (Within (F + 0 * (32768 * B))) (sym e) (within-mono (omega arith) f); same = rw q (ap (λ (z : ℤ). z +ℤ rest t u v p 0) e) }

module _ (t : List ℕ) (p : ℕ) (u v : List ℤ) (from sum : ℤ) (i : ℕ) (m : Summing t p u v from sum i) where
  pub summing-fits : i ≤ 8 → (F : ℕ) → F ≤ 2199023255552 → Within F from → AllWithin 2199023255552 u → AllWithin 2199023255552 v → (z : ℤ) → Within (32768 * 2199023255552) z → SFits w64 (sum +ℤ z)
  summing-fits l F f w hu hv z hz = within-fits (omega arith) (within-add (m.size F 2199023255552 w hu hv) hz)

  pub summing-next : i < length u → length v ≡ length u → length u ≤ 8 → (sum' a z : ℤ) → a ≡ signed 2 (value_of (take 2 (drop (p + 2 * i) t))) → Within 32768 a → z ≡ a *ℤ cond (non_neg a) (get_or u i (pos 0)) (get_or v i (pos 0))
      → sum' ≡ sum +ℤ z → Summing t p u v from sum' (i + 1)
  summing-next h e l sum' a z ea wa ez es =
      let q : p + 2 * (i + 1) ≡ p + 2 * i + 2 = omega arith in
      record {
        size = λ F B f hu hv. subst (Within (F + (i + 1) * (32768 * B))) (sym es) (within-mono (omega arith) (within-add (m.size F B f hu hv) (subst (Within (32768 * B)) (sym ez) (term-within wa (hu.at i) (hv.at i)))));
        same =
            ap₂ (λ (y : ℤ) (j : ℕ). y +ℤ rest t u v j (i + 1)) es q
            ∙ +ℤ_assoc sum z (rest t u v (p + 2 * i + 2) (i + 1))
            ∙ ap (λ (y : ℤ). sum +ℤ y) (ap (λ (y : ℤ). y +ℤ rest t u v (p + 2 * i + 2) (i + 1)) (ez ∙ ap (λ (b : ℤ). b *ℤ cond (non_neg b) (get_or u i (pos 0)) (get_or v i (pos 0))) ea) ∙ sym (best-more t u v (p + 2 * i) i h e l)) ∙ m.same;
      }

  pub summing-end : length u ≤ i → sum ≡ from +ℤ best (signed_list 8 (drop p t)) u v
  summing-end h =
      let q : ℕ = p + 2 * i in
      sym (ap (λ (z : ℤ). sum +ℤ z) (ap (λ (x : List ℤ). best (signed_list (8 - i) (drop q t)) x (drop i v)) (drop_of_length-le u h) ∙ best-nil (signed_list (8 - i) (drop q t)) (drop i v)) ∙ +ℤ_idr sum) ∙ m.same

  pub summing-size : i ≤ 8 → (F B : ℕ) → Within F from → AllWithin B u → AllWithin B v → Within (F + 8 * (32768 * B)) sum
  summing-size j F B f hu hv = let o : i * (32768 * B) ≤ 8 * (32768 * B) = mul-le-mul j (le_refl (32768 * B)) in within-mono (omega arith) (m.size F B f hu hv)

-- ---- the two ends at once
pub box-ends : (cs u v : List ℤ) → dot_sides cs (box_of u v) ≡ side (best cs u v) (best cs v u)
box-ends [] u v = refl
box-ends (a ∷ cs) [] [] = refl
box-ends (a ∷ cs) [] (y ∷ v) = refl
box-ends (a ∷ cs) (x ∷ u) [] = refl
box-ends (a ∷ cs) (x ∷ u) (y ∷ v) = ap (plus (times a (side x y))) (box-ends cs u v)

-- one coefficient of the list
pub coefficient-at : (m k : ℕ) (s : List ℕ) → k < m → get_or (signed_list m s) k (pos 0) ≡ signed 2 (value_of (take 2 (drop (2 * k) s)))
coefficient-at zero k s h = absurd (omega arith)
coefficient-at (suc m) zero s h = refl
coefficient-at (suc m) (suc k) s h =
    let e : 2 * suc k ≡ 2 * k + 2 = omega arith in
    coefficient-at m k (drop 2 s) (omega arith) ∙ ap (λ (l : List ℕ). signed 2 (value_of (take 2 l))) (drop-drop (2 * k) 2 s ∙ ap (λ (j : ℕ). drop j s) (turn k ∙ sym e))
  where
    turn : (k : ℕ) → 2 + 2 * k ≡ 2 * k + 2
    turn k = omega arith

pub axis-at : (t : List ℕ) (p k : ℕ) → k < 8 → get_or (signed_list 8 (drop p t)) k (pos 0) ≡ signed 2 (value_of (take 2 (drop (p + 2 * k) t)))
axis-at t p k h = coefficient-at 8 k (drop p t) h ∙ ap (λ (l : List ℕ). signed 2 (value_of (take 2 l))) (drop-drop (2 * k) p t)

-- ---- sizes of what the machine reads back
pub back-within : {n : ℕ} {z : ℤ} → n < 9223372036854775808 → Within n z → Within n (to_z w64 (of_z w64 z))
back-within {n} l h = subst (Within n) (sym (to_z_of_z {w = w64} (within-fits l h))) h

pub step_fits : {z a u v : ℤ} → Within 274877906944 z → Within 32768 a → Within 2097152 u → Within 2097152 v → Within 343597383680 (z +ℤ a *ℤ cond (non_neg a) u v)
step_fits hz ha hu hv = within-mono (omega arith) (within-add hz (term-within ha hu hv))

pub end-within : {c z : ℤ} → Within 2147483648 c → Within 343597383680 z → Within 549755813888 (c +ℤ z)
end-within hc hz = within-mono (omega arith) (within-add hc hz)
