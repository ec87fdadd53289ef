-- A settled row has the rule's solutions: a replacement by a row that holds keeps the equation, both ways, over a positive denominator.
use mathlib.Core.Path.{◌≡◌, refl, sym, ap, ap₂, ◌∙◌, subst}
use mathlib.Core.Bool.{Bool, true, false, not}
use mathlib.Core.List.{List, [], ◌∷◌, ◌++◌, map}
use mathlib.Core.Option.{Option, none, some}
use Prim.Native.Nat.{ℕ, zero, suc, ◌<◌}
use native.Mathlib.Nat.{zero-div, zero-lt-suc, pos_of_dvd_of_pos}
use native.Mathlib.Omega.{arith}
use lib.Dec.{T, ltb, ltb→lt, nltb→le}
use lib.IntN.{ℤ, pos, negsuc, neg_ℤ, nat_abs, ◌+ℤ◌, ◌-ℤ◌, ◌*ℤ◌, *ℤ-zero}
use lib.Signed.{◌<ℤ◌, <ℤ_irrefl}
use lib.ListN
use lib.ListN.{length, get_or, set, length-set, length-map, get_or-eq_default}
use lib.Seq.{set-get_or}
use Rattle.integers.specs.Ring.{ring, quote}
use Rattle.integers.specs.Lin.{eq, lin, lia-eq}
use Rattle.integers.specs.Order.{mul-pos-pos}
use Rattle.integers.specs.Gcd.{Divides, divides-parts}
use Rattle.model.specs.Sets.{dot, is_zero, floor_div}
use Rattle.feasibility.specs.Tableau.{Row, common_divisor}
use Rattle.model.proofs.Values.{is_zero→}
use Rattle.model.specs.Lists.{All}
use Rattle.feasibility.proofs.Rows.{rest, dot-set, dot-combine, length-combine}
use Rattle.feasibility.proofs.Reduce.{common-divides, evenly, dot-evenly, cancel-zero, reduced-like}
use Rattle.feasibility.proofs.Exchange.{Shape}
use Rattle.feasibility.proofs.Verdicts.{some-none, true-false}
use Rattle.planning.specs.Draft.{Draft, numbers_of, divided_by, lowest_terms, put_in, substituted, row_for, both_within, settled}
use Rattle.planning.proofs.Columns.{leftover}

-- ---- lists of numbers

get_d_map : (f : ℤ → ℤ) → f (pos 0) ≡ pos 0 → (zs : List ℤ) (i : ℕ) → get_or (map f zs) i (pos 0) ≡ f (get_or zs i (pos 0))
get_d_map f e zs i = ap (get_or (map f zs) i) (sym e) ∙ ListN.get_or-map f zs i (pos 0)

dot-times : (p : ℤ) (zs xs : List ℤ) → dot (map (λ (z : ℤ). p *ℤ z) zs) xs ≡ p *ℤ dot zs xs
dot-times p [] xs = sym (*ℤ-zero p)
dot-times p (z ∷ zs) [] = sym (*ℤ-zero p)
dot-times p (z ∷ zs) (x ∷ xs) = ap (λ (y : ℤ). p *ℤ z *ℤ x +ℤ y) (dot-times p zs xs) ∙ ring (p ∷ z ∷ x ∷ dot zs xs ∷ []) (search quote depth 30) tt

dot-zeros : (zs xs : List ℤ) → ((i : ℕ) → get_or zs i (pos 0) ≡ pos 0) → dot zs xs ≡ pos 0
dot-zeros [] xs f = refl
dot-zeros (z ∷ zs) [] f = refl
dot-zeros (z ∷ zs) (x ∷ xs) f = ap₂ (λ (a b : ℤ). a *ℤ x +ℤ b) (f 0) (dot-zeros zs xs (λ i. f (suc i))) ∙ ring (x ∷ []) (search quote depth 30) tt

-- ---- what waits

-- variable v does not wait
abbrev pub Done : Draft → ℕ → Type 0
Done d v = get_or d.waiting v (pos 0) ≡ pos 0

pub waits-inside : (d : Draft) (v : ℕ) → ¬ Done d v → v < length d.waiting
waits-inside d v n = at (ltb v (length d.waiting)) refl
  where
    at : (b : Bool) → ltb v (length d.waiting) ≡ b → v < length d.waiting
    at true q = ltb→lt v (length d.waiting) (subst T (sym q) tt)
    at false q = absurd (n (get_or-eq_default d.waiting (pos 0) (nltb→le v (length d.waiting) (subst (λ (c : Bool). T (not c)) (sym q) tt))))

-- where nothing waits the row alone has the equation
pub nothing-waits : (X F : List ℤ) (y : ℤ) (e : Draft) → ((v : ℕ) → v < length e.waiting → Done e v) → leftover X F y e ≡ rest e.den e.nums y X
nothing-waits X F y e z =
    ap (λ (x : ℤ). e.den *ℤ y -ℤ (dot e.nums X +ℤ x)) (dot-zeros e.waiting F everywhere) ∙ ring (e.den ∷ y ∷ dot e.nums X ∷ []) (search quote depth 30) tt
  where
    everywhere : (v : ℕ) → Done e v
    everywhere v = at (is_zero (get_or e.waiting v (pos 0))) refl
      where
        at : (b : Bool) → is_zero (get_or e.waiting v (pos 0)) ≡ b → Done e v
        at true q = is_zero→ (get_or e.waiting v (pos 0)) (subst T (sym q) tt)
        at false q = z v (waits-inside e v (λ d. true-false (sym (ap is_zero d) ∙ q)))

-- ---- what is done stays done

set_here : (zs : List ℤ) (v : ℕ) → get_or (set zs v (pos 0)) v (pos 0) ≡ pos 0
set_here [] v = refl
set_here (z ∷ zs) zero = refl
set_here (z ∷ zs) (suc v) = set_here zs v

set-zero : (zs : List ℤ) (v i : ℕ) → get_or zs i (pos 0) ≡ pos 0 → get_or (set zs v (pos 0)) i (pos 0) ≡ pos 0
set-zero [] v i e = refl
set-zero (z ∷ zs) zero zero e = refl
set-zero (z ∷ zs) zero (suc i) e = e
set-zero (z ∷ zs) (suc v) zero e = e
set-zero (z ∷ zs) (suc v) (suc i) e = set-zero zs v i e

floor-zero : (g : ℕ) → floor_div (pos 0) g ≡ pos 0
floor-zero g = ap pos (zero-div g)

divided-done : (g : ℕ) (d : Draft) (u : ℕ) → Done d u → Done (divided_by g d) u
divided-done g d u z = get_d_map (λ (z : ℤ). floor_div z g) (floor-zero g) d.waiting u ∙ ap (λ (z : ℤ). floor_div z g) z ∙ floor-zero g

put-done : (v : ℕ) (r : Row) (d : Draft) (u : ℕ) → Done d u → Done (put_in v r d) u
put-done v r d u z = set-zero (map (λ (z : ℤ). r.den *ℤ z) d.waiting) v u (get_d_map (λ (z : ℤ). r.den *ℤ z) (*ℤ-zero r.den) d.waiting u ∙ ap (λ (z : ℤ). r.den *ℤ z) z ∙ *ℤ-zero r.den)

-- what is replaced waits no longer
done-now : (v : ℕ) (r : Row) (d : Draft) → Done (substituted v r d) v
done-now v r d = divided-done (common_divisor (numbers_of (put_in v r d))) (put_in v r d) v (set_here (map (λ (z : ℤ). r.den *ℤ z) d.waiting) v)

-- ---- one replacement

-- the rows of what waits hold, where F has the numerators of the axes and divisions
abbrev pub Hold : List Row → Draft → List ℤ → List ℤ → Type 0
Hold rows d X F = (v : ℕ) → ¬ Done d v → rest (row_for rows v).den (row_for rows v).nums (get_or F v (pos 0)) X ≡ pos 0

-- what a draft e that is made of d has of it
pub record Kept (rows : List Row) (d e : Draft) : Type 0 where
  pub positive : pos 0 <ℤ e.den
  pub long : length e.nums ≡ length d.nums
  pub waits : length e.waiting ≡ length d.waiting
  pub done : (v : ℕ) → Done d v → Done e v
  pub on : (X F : List ℤ) (y : ℤ) → length F ≡ length d.waiting → Hold rows d X F → leftover X F y d ≡ pos 0 → leftover X F y e ≡ pos 0
  pub back : (X F : List ℤ) (y : ℤ) → length F ≡ length d.waiting → Hold rows d X F → leftover X F y e ≡ pos 0 → leftover X F y d ≡ pos 0

kept_self : (rows : List Row) (d : Draft) → pos 0 <ℤ d.den → Kept rows d d
kept_self rows d h = record { positive = h; long = refl; waits = refl; done = λ v e. e; on = λ X F y l k e. e; back = λ X F y l k e. e }

kept_more : (rows : List Row) (c d e : Draft) → Kept rows c d → Kept rows d e → Kept rows c e
kept_more rows c d e p q =
    record {
      positive = q.positive;
      long = q.long ∙ p.long;
      waits = q.waits ∙ p.waits;
      done = λ v z. q.done v (p.done v z);
      on = λ X F y l k z. q.on X F y (l ∙ sym p.waits) (λ v n. k v (λ z. n (p.done v z))) (p.on X F y l k z);
      back = λ X F y l k z. p.back X F y l k (q.back X F y (l ∙ sym p.waits) (λ v n. k v (λ z. n (p.done v z))) z);
    }

divided-left : (g : ℕ) (d : Draft) (X F : List ℤ) (y : ℤ) → 0 < g → Divides g (numbers_of d) → pos g *ℤ leftover X F y (divided_by g d) ≡ leftover X F y d
divided-left g d X F y h k =
    let p = divides-parts g d.nums d.waiting k.1 in
    let a : ℤ = dot (map (λ (z : ℤ). floor_div z g) d.nums) X in
    let b : ℤ = dot (map (λ (z : ℤ). floor_div z g) d.waiting) F in
    ring (pos g ∷ floor_div d.den g ∷ y ∷ a ∷ b ∷ []) {b = pos g *ℤ floor_div d.den g *ℤ y -ℤ (pos g *ℤ a +ℤ pos g *ℤ b)} (search quote depth 30) tt
    ∙ ap₂ (λ (x z : ℤ). x *ℤ y -ℤ z) (evenly g d.den h k.0) (ap₂ ◌+ℤ◌ (dot-evenly g d.nums X h p.0) (dot-evenly g d.waiting F h p.1))

-- of a draft with a positive denominator
lowest-kept : (rows : List Row) (den : ℤ) (ns ws : List ℤ) → pos 0 <ℤ den → Kept rows (record { den = den; nums = ns; waiting = ws }) (lowest_terms (record { den = den; nums = ns; waiting = ws }))
lowest-kept rows (pos zero) ns ws p = absurd (<ℤ_irrefl p)
lowest-kept rows (pos (suc a)) ns ws p =
    let d : Draft = record { den = pos (suc a); nums = ns; waiting = ws } in
    let g : ℕ = common_divisor (numbers_of d) in
    let k : Divides g (numbers_of d) = common-divides (numbers_of d) in
    let h : 0 < g = pos_of_dvd_of_pos k.0 (zero-lt-suc a) in
    record {
      positive = (reduced-like (record { var = 0; den = pos (suc a); nums = ns ++ ws }) (λ e. clash (ap nat_abs e))).positive;
      long = length-map ns (λ (z : ℤ). floor_div z g);
      waits = length-map ws (λ (z : ℤ). floor_div z g);
      done = λ v z. divided-done g d v z;
      on = λ X F y l b z. cancel-zero (pos g) _ (λ e. not-zero h (ap nat_abs e)) (divided-left g d X F y h k ∙ z);
      back = λ X F y l b z. sym (divided-left g d X F y h k) ∙ ap (λ (x : ℤ). pos g *ℤ x) z ∙ *ℤ-zero (pos g);
    }
  where
    clash : suc a ≡ 0 → ⊥
    clash e = omega arith

    not-zero : {g : ℕ} → 0 < g → g ≡ 0 → ⊥
    not-zero h e = omega arith
lowest-kept rows (negsuc a) ns ws p = absurd p.lt

module _ (rows : List Row) (v : ℕ) (d : Draft) (pd : pos 0 <ℤ d.den) (n : ℕ) (long : length d.nums ≡ suc n) (shape : Shape n (row_for rows v)) (nz : ¬ Done d v) where
  abbrev r : Row
  r = row_for rows v

  abbrev a : ℤ
  a = get_or d.waiting v (pos 0)

  abbrev times : ℤ → ℤ
  times z = r.den *ℤ z

  abbrev c : Draft
  c = put_in v r d

  same-long : length d.nums ≡ length r.nums
  same-long = long ∙ sym shape.long

  -- v is a place of the multiplied list
  inside : v < length (map times d.waiting)
  inside = subst (λ (m : ℕ). v < m) (sym (length-map d.waiting times)) (waits-inside d v nz)

  put-left : (X F : List ℤ) (y : ℤ) → length F ≡ length d.waiting → rest r.den r.nums (get_or F v (pos 0)) X ≡ pos 0 → leftover X F y c ≡ r.den *ℤ leftover X F y d
  put-left X F y l h =
      let Fv : ℤ = get_or F v (pos 0) in
      let p : ℤ = r.den in
      let s : ℤ = dot d.nums X in
      let u : ℤ = dot r.nums X in
      let q : ℤ = dot d.waiting F in
      let w : dot c.waiting F ≡ p *ℤ q -ℤ p *ℤ a *ℤ Fv =
      ap (λ (f : List ℤ). dot (set (map times d.waiting) v (pos 0)) f) (sym (set-get_or F v (pos 0)))
      ∙ dot-set (map times d.waiting) F v (pos 0) Fv inside (subst (λ (m : ℕ). v < m) (sym l) (waits-inside d v nz))
      ∙ ap₂ (λ (x z : ℤ). x +ℤ (pos 0 *ℤ Fv -ℤ z *ℤ Fv)) (dot-times p d.waiting F) (get_d_map times (*ℤ-zero p) d.waiting v)
      ∙ ring (p ∷ q ∷ a ∷ Fv ∷ []) (search quote depth 30) tt in
      ap₂ (λ (x z : ℤ). p *ℤ d.den *ℤ y -ℤ (x +ℤ z)) (dot-combine p (neg_ℤ a) d.nums r.nums X same-long) w
      ∙ lia-eq (p ∷ d.den ∷ y ∷ s ∷ a ∷ u ∷ q ∷ Fv ∷ []) (eq {b = a *ℤ pos 0} (ap (λ (z : ℤ). a *ℤ z) h) ∷ []) {b = p *ℤ (d.den *ℤ y -ℤ (s +ℤ q))} (search lin depth 40) (omega arith)

  put-kept : Kept rows d c
  put-kept =
      record {
        positive = mul-pos-pos shape.positive pd;
        long = length-combine r.den (neg_ℤ a) d.nums r.nums same-long;
        waits = length-set (map times d.waiting) v (pos 0) ∙ length-map d.waiting times;
        done = λ u z. put-done v r d u z;
        on = λ X F y l k z. put-left X F y l (k v nz) ∙ ap times z ∙ *ℤ-zero r.den;
        back = λ X F y l k z. cancel-zero r.den _ (λ e. <ℤ_irrefl (subst (λ (z : ℤ). pos 0 <ℤ z) e shape.positive)) (sym (put-left X F y l (k v nz)) ∙ z);
      }

  substituted-kept : Kept rows d (substituted v r d)
  substituted-kept = kept_more rows d c (substituted v r d) put-kept (lowest-kept rows c.den c.nums c.waiting put-kept.positive)

-- ---- all of them

-- each variable that waits has a row with n columns
abbrev pub Backed : ℕ → List Row → Draft → Type 0
Backed n rows d = (v : ℕ) → ¬ Done d v → Shape n (row_for rows v)

same_some : {A : Type 0} {a b : A} → some a ≡ some b → a ≡ b
same_some e = cc

pub settled-kept : (m : ℕ) (rows : List Row) (n : ℕ) (vs : List ℕ) (d e : Draft) → pos 0 <ℤ d.den → length d.nums ≡ suc n → Backed n rows d → settled m rows vs d ≡ some e
    → Kept rows d e × All (Done e) vs
unfolding settled
settled-kept m rows n [] d e pd l b q = (subst (Kept rows d) (same_some q) (kept_self rows d pd), tt)
settled-kept m rows n (v ∷ vs) d e pd l b q = at (is_zero (get_or d.waiting v (pos 0))) refl q (settled-kept m rows n vs)
  where
    Rest : Type 0
    Rest = (c e : Draft) → pos 0 <ℤ c.den → length c.nums ≡ suc n → Backed n rows c → settled m rows vs c ≡ some e → Kept rows c e × All (Done e) vs

    -- from c, where v waits no longer
    onward : (c : Draft) → Kept rows d c → Done c v → settled m rows vs c ≡ some e → Rest → Kept rows d e × All (Done e) (v ∷ vs)
    onward c k z q ih =
        let p = ih c e k.positive (k.long ∙ l) (λ u nz. b u (λ x. nz (k.done u x))) q in
        (kept_more rows d c e k p.0, (p.0.done v z, p.1))

    at : (c : Bool) → is_zero (get_or d.waiting v (pos 0)) ≡ c
        → elim c as (λ (c : Bool). Option Draft) [ true ↦ settled m rows vs d | false ↦ elim (both_within m d (row_for rows v)) as (λ (c : Bool). Option Draft) [ false ↦ none | true ↦ settled m rows vs (substituted v (row_for rows v) d) ] ] ≡ some e
        → Rest → Kept rows d e × All (Done e) (v ∷ vs)
    at true z q ih = onward d (kept_self rows d pd) (is_zero→ (get_or d.waiting v (pos 0)) (subst T (sym z) tt)) q ih
    at false z q ih = fits (both_within m d (row_for rows v)) q
      where
        nz : ¬ Done d v
        nz x = true-false (sym (ap is_zero x) ∙ z)

        fits : (c : Bool) → elim c as (λ (c : Bool). Option Draft) [ false ↦ none | true ↦ settled m rows vs (substituted v (row_for rows v) d) ] ≡ some e → Kept rows d e × All (Done e) (v ∷ vs)
        fits false q = some-none (sym q)
        fits true q = onward (substituted v (row_for rows v) d) (substituted-kept rows v d pd n l (b v nz) nz) (done-now v (row_for rows v) d) q ih
