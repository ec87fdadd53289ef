-- A reduced row has the same solutions: its numbers are those of the row over one nonzero factor.
use mathlib.Core.Path.{◌≡◌, refl, sym, ap, ap₂, ◌∙◌, subst}
use mathlib.Core.List.{List, [], ◌∷◌, map}
use Prim.Native.Nat.{ℕ, zero, suc, ◌*◌, ◌/◌, ◌%◌, ◌<◌, ◌∣◌}
use native.Mathlib.Nat.{dvd_refl, dvd-zero, mod-lt, mod-eq-zero_of_dvd, pos_of_dvd_of_pos, zero-lt-suc, mul-pos, not-suc-le-zero}
use native.Mathlib.Omega.{arith}
use lib.Dec.{lt→ltb}
use lib.IntN.{ℤ, pos, negsuc, neg_ℤ, nat_abs, ◌+ℤ◌, ◌-ℤ◌, ◌*ℤ◌, *ℤ-zero}
use lib.Signed.{◌<ℤ◌, quot_z, rem_z}
use lib.ListN.{length, length-map}
use Rattle.integers.specs.Ring.{ring, quote}
use Rattle.integers.specs.Lin.{lt, eq, lin, lia-le, lia-lt, lia-eq}
use Rattle.integers.specs.Div.{floor-unique, floor_z-is, exact}
use Rattle.integers.specs.Size.{nat_abs_mul, nat_abs-zero}
use Rattle.integers.specs.Gcd.{IsGcd, step_is, Divides, divides-trans, divides-neg}
use Rattle.model.specs.Sets.{dot, floor_div}
use Rattle.feasibility.specs.Tableau.{Row, reduced, common_divisor, gcd, gcd_fuel}
use Rattle.model.proofs.Values.{dot-neg}
use Rattle.feasibility.proofs.Rows.{rest}

-- ---- the common divisor divides

gcd_fuel-is : (f a b : ℕ) → b < f → IsGcd a b (gcd_fuel f a b)
gcd_fuel-is zero a b h = absurd (not-suc-le-zero h)
gcd_fuel-is (suc f) a zero h = record { left = dvd_refl a; right = dvd-zero a; most = λ k x y. x }
gcd_fuel-is (suc f) a (suc b) h = let m = mod-lt a (zero-lt-suc b) in step_is (gcd_fuel-is f (suc b) (a % suc b) (omega arith))

pub euclid-is : (a b : ℕ) → IsGcd a b (gcd a b)
euclid-is a b = gcd_fuel-is (suc b) a b (omega arith)

pub common-divides : (zs : List ℤ) → Divides (common_divisor zs) zs
common-divides [] = tt
common-divides (z ∷ zs) =
    ((euclid-is (nat_abs z) (common_divisor zs)).left, divides-trans (gcd (nat_abs z) (common_divisor zs)) (common_divisor zs) zs (euclid-is (nat_abs z) (common_divisor zs)).right (common-divides zs))

pub common-most : (k : ℕ) (zs : List ℤ) → Divides k zs → k ∣ common_divisor zs
common-most k [] d = dvd-zero k
common-most k (z ∷ zs) d = (euclid-is (nat_abs z) (common_divisor zs)).most k d.0 (common-most k zs d.1)

-- ---- division that comes out even

rem-zero : (g : ℕ) (z : ℤ) → g ∣ nat_abs z → rem_z z (pos g) ≡ pos 0
rem-zero g (pos a) h = ap pos (mod-eq-zero_of_dvd g h)
rem-zero g (negsuc a) h = ap (λ (n : ℕ). neg_ℤ (pos n)) (mod-eq-zero_of_dvd g h)

pub exactly : (g : ℕ) (z : ℤ) → g ∣ nat_abs z → pos g *ℤ quot_z z (pos g) ≡ z
exactly g z d = lib.IntN.*ℤ_comm (pos g) (quot_z z (pos g)) ∙ exact z (pos g) (rem-zero g z d)

pub evenly : (g : ℕ) (z : ℤ) → 0 < g → g ∣ nat_abs z → pos g *ℤ floor_div z g ≡ z
evenly g z h d =
    let k : ℤ = quot_z z (pos g) in
    let e : k *ℤ pos g ≡ z = exact z (pos g) (rem-zero g z d) in
    let p : pos 0 <ℤ pos g = record { lt = lt→ltb 0 g h } in
    let same : floor_div z g ≡ k = floor-unique p (floor_z-is z p) (record { low = lia-le (k ∷ pos g ∷ z ∷ []) (eq e ∷ []) (search lin depth 30) (omega arith); high = lia-lt (k ∷ pos g ∷ z ∷ []) (eq e ∷ lt p ∷ []) (search lin depth 30) (omega arith) }) in
    ap (λ (q : ℤ). pos g *ℤ q) same ∙ lia-eq (k ∷ pos g ∷ z ∷ []) (eq e ∷ []) (search lin depth 30) (omega arith)

pub dot-evenly : (g : ℕ) (zs xs : List ℤ) → 0 < g → Divides g zs → pos g *ℤ dot (map (λ (z : ℤ). floor_div z g) zs) xs ≡ dot zs xs
dot-evenly g [] xs h d = *ℤ-zero (pos g)
dot-evenly g (z ∷ zs) [] h d = *ℤ-zero (pos g)
dot-evenly g (z ∷ zs) (x ∷ xs) h d =
    ring (pos g ∷ floor_div z g ∷ x ∷ dot (map (λ (z : ℤ). floor_div z g) zs) xs ∷ []) {b = pos g *ℤ floor_div z g *ℤ x +ℤ pos g *ℤ dot (map (λ (z : ℤ). floor_div z g) zs) xs} (search quote depth 30) tt
    ∙ ap₂ (λ (a b : ℤ). a *ℤ x +ℤ b) (evenly g z h d.0) (dot-evenly g zs xs h d.1)

pub cancel-zero : (c z : ℤ) → (c ≡ pos 0 → ⊥) → c *ℤ z ≡ pos 0 → z ≡ pos 0
cancel-zero c z n e = nat_abs-zero z (go (nat_abs c) (nat_abs z) refl (sym (nat_abs_mul c z) ∙ ap nat_abs e))
  where
    go : (a b : ℕ) → nat_abs c ≡ a → a * b ≡ 0 → b ≡ 0
    go zero b p q = absurd (n (nat_abs-zero c p))
    go (suc a) zero p q = refl
    go (suc a) (suc b) p q = absurd (clash (mul-pos (zero-lt-suc a) (zero-lt-suc b)) q)
      where
        clash : {m : ℕ} → 0 < m → m ≡ 0 → ⊥
        clash h e = omega arith

-- ---- reduced rows

-- what a reduced row has of the row it comes from
pub record Like (r s : Row) : Type 0 where
  pub factor : ℤ
  pub nonzero : factor ≡ pos 0 → ⊥
  pub times : (w : ℤ) (ws : List ℤ) → factor *ℤ rest s.den s.nums w ws ≡ rest r.den r.nums w ws
  pub positive : pos 0 <ℤ s.den
  pub long : length s.nums ≡ length r.nums
  pub same : s.var ≡ r.var

-- the quotient of a positive number is positive
pos-part : (g : ℕ) (a : ℕ) → pos g *ℤ floor_div (pos (suc a)) g ≡ pos (suc a) → pos 0 <ℤ floor_div (pos (suc a)) g
pos-part g a e = go (suc a / g) e
  where
    go : (q : ℕ) → pos g *ℤ pos q ≡ pos (suc a) → pos 0 <ℤ pos q
    go zero e = absurd (clash (ap nat_abs (sym (*ℤ-zero (pos g)) ∙ e)))
      where
        clash : 0 ≡ suc a → ⊥
        clash e = omega arith
    go (suc q) e = record { lt = lt→ltb 0 (suc q) (zero-lt-suc q) }

nonzero-pos : (g : ℕ) → 0 < g → pos g ≡ pos 0 → ⊥
nonzero-pos g h e = clash (ap nat_abs e)
  where
    clash : g ≡ 0 → ⊥
    clash e = omega arith

divisor-pos : (a : ℕ) (z : ℤ) (zs : List ℤ) → nat_abs z ≡ suc a → 0 < common_divisor (z ∷ zs)
divisor-pos a z zs e = pos_of_dvd_of_pos (common-divides (z ∷ zs)).0 (subst (λ (m : ℕ). 0 < m) (sym e) (zero-lt-suc a))

reduced-at : (v : ℕ) (d : ℤ) (ns : List ℤ) → (d ≡ pos 0 → ⊥) → Like (record { var = v; den = d; nums = ns }) (reduced (record { var = v; den = d; nums = ns }))
reduced-at v (pos zero) ns n = absurd (n refl)
reduced-at v (pos (suc a)) ns n =
    let g : ℕ = common_divisor (pos (suc a) ∷ ns) in
    let h : 0 < g = divisor-pos a (pos (suc a)) ns refl in
    let d : Divides g (pos (suc a) ∷ ns) = common-divides (pos (suc a) ∷ ns) in
    record {
      factor = pos g;
      nonzero = nonzero-pos g h;
      times = λ w ws.
          ring (pos g ∷ floor_div (pos (suc a)) g ∷ w ∷ dot (map (λ (z : ℤ). floor_div z g) ns) ws ∷ []) {b = pos g *ℤ floor_div (pos (suc a)) g *ℤ w -ℤ pos g *ℤ dot (map (λ (z : ℤ). floor_div z g) ns) ws} (search quote depth 30) tt
          ∙ ap₂ (λ (x y : ℤ). x *ℤ w -ℤ y) (evenly g (pos (suc a)) h d.0) (dot-evenly g ns ws h d.1);
      positive = pos-part g a (evenly g (pos (suc a)) h d.0);
      long = length-map ns (λ (z : ℤ). floor_div z g);
      same = refl;
    }
reduced-at v (negsuc a) ns n =
    let g : ℕ = common_divisor (negsuc a ∷ ns) in
    let h : 0 < g = divisor-pos a (negsuc a) ns refl in
    let d : Divides g (negsuc a ∷ ns) = common-divides (negsuc a ∷ ns) in
    record {
      factor = neg_ℤ (pos g);
      nonzero = λ e. nonzero-pos g h (sym (lib.IntN.neg_ℤ-neg_ℤ (pos g)) ∙ ap neg_ℤ e);
      times = λ w ws.
          ring (pos g ∷ floor_div (pos (suc a)) g ∷ w ∷ dot (map (λ (z : ℤ). floor_div z g) (map neg_ℤ ns)) ws ∷ []) {b = neg_ℤ (pos g *ℤ floor_div (pos (suc a)) g *ℤ w -ℤ pos g *ℤ dot (map (λ (z : ℤ). floor_div z g) (map neg_ℤ ns)) ws)} (search quote depth 30) tt
          ∙ ap₂ (λ (x y : ℤ). neg_ℤ (x *ℤ w -ℤ y)) (evenly g (pos (suc a)) h d.0) (dot-evenly g (map neg_ℤ ns) ws h (divides-neg g ns d.1) ∙ dot-neg ns ws)
          ∙ ring (pos (suc a) ∷ w ∷ dot ns ws ∷ []) {b = neg_ℤ (pos (suc a)) *ℤ w -ℤ dot ns ws} (search quote depth 30) tt;
      positive = pos-part g a (evenly g (pos (suc a)) h d.0);
      long = length-map (map neg_ℤ ns) (λ (z : ℤ). floor_div z g) ∙ length-map ns neg_ℤ;
      same = refl;
    }

pub reduced-like : (r : Row) → (r.den ≡ pos 0 → ⊥) → Like r (reduced r)
reduced-like r n = reduced-at r.var r.den r.nums n
