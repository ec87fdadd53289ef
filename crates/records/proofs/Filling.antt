-- The basic set that is being decoded: what is read so far, and what is left at the place that was reached.
use mathlib.Core.Path.{◌≡◌, refl, sym, ap, ap₂, ◌∙◌}
use mathlib.Core.Bool.{true, false}
use mathlib.Core.List.{List, [], ◌∷◌, ◌++◌, map, append_assoc, append-nil}
use Prim.Native.Nat.{ℕ, zero, suc, ◌+◌, ◌≤◌, ◌<◌}
use native.Mathlib.Numerals.{add-one}
use native.Mathlib.Omega.{arith}
use lib.IntN.{ℤ}
use lib.ListN.{length, take, drop, get_or, set, length-append}
use lib.Seq.{take-suc-set, drop-drop}
use Rattle.model.specs.Sets as S
use Rattle.model.specs.Values.{division_of, constraint_of}
use Rattle.model.specs.declared.Division.{Division}
use Rattle.model.specs.declared.Constraint.{Constraint}
use Rattle.codec.specs.Bytes.{value_of, signed, signed_list, division, constraint, is_division, is_constraint, Counts, counted, Built}
use Rattle.codec.specs.Places.{built, division_at, constraint_at, next_of, Checked, opened, Opened, Decoded}
use Rattle.codec.proofs.Standing.{DivisionAt, ConstraintAt, division-at, constraint-at, no-division, no-constraint}

-- ---- eight coefficients, read one by one
pub eight : (t : List ℕ) (p : ℕ) → (f : ℕ → ℤ) → ((q : ℕ) → f q ≡ signed 2 (value_of (take 2 (drop q t))))
    → f p ∷ f (p + 2) ∷ f (p + 4) ∷ f (p + 6) ∷ f (p + 8) ∷ f (p + 10) ∷ f (p + 12) ∷ f (p + 14) ∷ [] ≡ signed_list 8 (drop p t)
eight t p f h =
    let a : p + 4 ≡ p + 2 + 2 = omega arith in let b : p + 6 ≡ p + 2 + 2 + 2 = omega arith in let c : p + 8 ≡ p + 2 + 2 + 2 + 2 = omega arith in
    let d : p + 10 ≡ p + 2 + 2 + 2 + 2 + 2 = omega arith in let g : p + 12 ≡ p + 2 + 2 + 2 + 2 + 2 + 2 = omega arith in let k : p + 14 ≡ p + 2 + 2 + 2 + 2 + 2 + 2 + 2 = omega arith in
    (λ i. f p ∷ f (p + 2) ∷ f (a i) ∷ f (b i) ∷ f (c i) ∷ f (d i) ∷ f (g i) ∷ f (k i) ∷ []) ∙ more 8 p (drop p t) refl
  where
    listed : ℕ → ℕ → List ℤ
    listed zero q = []
    listed (suc m) q = f q ∷ listed m (q + 2)

    more : (m q : ℕ) (l : List ℕ) → l ≡ drop q t → listed m q ≡ signed_list m l
    more zero q l e = refl
    more (suc m) q l e = ap₂ (λ (z : ℤ) (r : List ℤ). z ∷ r) (h q ∙ ap (λ (r : List ℕ). signed 2 (value_of (take 2 r))) (sym e)) (more m (q + 2) (drop 2 l) (ap (drop 2) e ∙ drop-drop 2 q t))

-- ---- what is read so far
pub record Filling (s : List ℕ) (first at : ℕ) (D : List S.Division) (R : List S.Constraint) : Type 0 where
  pub n : ℕ
  pub k : Counts
  pub here : Checked n s at k
  pub d : k.divisions ≡ length D
  pub r : k.constraints ≡ length R
  pub divs : length D ≤ 8
  pub cons : length R ≤ 48
  pub divisions : D ++ (built (drop at s)).divisions ≡ (built (drop first s)).divisions
  pub constraints : R ++ (built (drop at s)).constraints ≡ (built (drop first s)).constraints
  pub rest : (built (drop at s)).rest ≡ (built (drop first s)).rest

pub fill_start : (s : List ℕ) (at : ℕ) → Opened s at → Filling s at at [] []
fill_start s at o = record { n = o.n; k = opened o.basics; here = o.here; d = refl; r = refl; divs = omega arith; cons = omega arith; divisions = refl; constraints = refl; rest = refl }

pub one_more : {A : Type 0} (l : List A) (a : A) → length (l ++ a ∷ []) ≡ length l + 1
one_more l a = length-append l (a ∷ [])

module _ (s : List ℕ) (first at : ℕ) (D : List S.Division) (R : List S.Constraint) (f : Filling s first at D R) where
  pub division-here : is_division (get_or s at 0) ≡ true → DivisionAt f.n s at f.k
  division-here e = division-at f.n s at f.k f.here e

  pub constraint-here : is_constraint (get_or s at 0) ≡ true → ConstraintAt f.n s at f.k
  constraint-here e = constraint-at f.n s at f.k f.here e

  pub fill-division : is_division (get_or s at 0) ≡ true → Filling s first (next_of s at) (D ++ division_at s at ∷ []) R
  fill-division e =
      let x = division-here e in let u = x.few in let d = f.d in
      let m : S.Division = division_at s at in let o = one_more D m in
      record {
        n = f.n;
        k = counted f.k (division m);
        here = x.there;
        d = ap (λ (j : ℕ). j + 1) d ∙ sym o;
        r = f.r;
        divs = omega arith;
        cons = f.cons;
        divisions = append_assoc D (m ∷ []) (built (drop (next_of s at) s)).divisions ∙ ap (λ (y : Built). D ++ y.divisions) (sym x.builds) ∙ f.divisions;
        constraints = ap (λ (y : Built). R ++ y.constraints) (sym x.builds) ∙ f.constraints;
        rest = ap (λ (y : Built). y.rest) (sym x.builds) ∙ f.rest;
      }

pub record Settled (s : List ℕ) (first at : ℕ) (D : List S.Division) (R : List S.Constraint) : Type 0 where
  pub filling : Filling s first at D R
  pub no_more : (built (drop at s)).divisions ≡ []

-- no division comes any more
pub settled : (s : List ℕ) (first at : ℕ) (D : List S.Division) (R : List S.Constraint) → Filling s first at D R → is_division (get_or s at 0) ≡ false → Settled s first at D R
settled s first at D R f z = record { filling = f; no_more = no-division f.n s at f.k f.here z }

pub fill-constraint : (s : List ℕ) (first at : ℕ) (D : List S.Division) (R : List S.Constraint) → Settled s first at D R → is_constraint (get_or s at 0) ≡ true → Settled s first (next_of s at) D (R ++ constraint_at s at ∷ [])
fill-constraint s first at D R t e =
    let f = t.filling in let x = constraint-here s first at D R f e in let u = x.few in let d = f.r in
    let m : S.Constraint = constraint_at s at in let o = one_more R m in
    record {
      filling = record {
        n = f.n;
        k = counted f.k (constraint m);
        here = x.there;
        d = f.d;
        r = ap (λ (j : ℕ). j + 1) d ∙ sym o;
        divs = f.divs;
        cons = omega arith;
        divisions = ap (λ (y : Built). D ++ y.divisions) (sym x.builds) ∙ f.divisions;
        constraints = append_assoc R (m ∷ []) (built (drop (next_of s at) s)).constraints ∙ ap (λ (y : Built). R ++ y.constraints) (sym x.builds) ∙ f.constraints;
        rest = ap (λ (y : Built). y.rest) (sym x.builds) ∙ f.rest;
      };
      no_more = x.later;
    }

-- ---- a value that is stored behind the first ones
map-one : {A B : Type 0} (f : A → B) (l : List A) (a : A) → map f (l ++ a ∷ []) ≡ map f l ++ f a ∷ []
map-one f [] a = refl
map-one f (b ∷ l) a = ap (λ (r : List _). f b ∷ r) (map-one f l a)

pub stored : {A B : Type 0} (f : A → B) (l : List A) (i : ℕ) (a : A) (b : B) → i < length l → f a ≡ b → map f (take (i + 1) (set l i a)) ≡ map f (take i l) ++ b ∷ []
stored f l i a b h q = ap (λ (j : ℕ). map f (take j (set l i a))) (add-one i) ∙ ap (map f) (take-suc-set l i a h) ∙ map-one f (take i l) a ∙ ap (λ (x : _). map f (take i l) ++ x ∷ []) q

pub decoded : (s : List ℕ) (first at : ℕ) (ds : List Division) (rs : List Constraint) (d r : ℕ) → Settled s first at (map division_of (take d ds)) (map constraint_of (take r rs))
    → d ≡ length (map division_of (take d ds)) → r ≡ length (map constraint_of (take r rs)) → length ds ≡ 8 → length rs ≡ 48 → is_constraint (get_or s at 0) ≡ false
    → Decoded s first (record { divisions = ds; constraints = rs; divs = d; cons = r })
decoded s first at ds rs d r t dl rl dn rn z =
    let f = t.filling in
    let D : List S.Division = map division_of (take d ds) in
    let R : List S.Constraint = map constraint_of (take r rs) in
    let e = no-constraint f.n s at f.k f.here t.no_more z in
    let a = f.divs in let b = f.cons in
    let u : D ≡ (built (drop first s)).divisions = sym (ap (λ (y : List S.Division). D ++ y) t.no_more ∙ append-nil D) ∙ f.divisions in
    let v : R ≡ (built (drop first s)).constraints = sym (ap (λ (y : List S.Constraint). R ++ y) e ∙ append-nil R) ∙ f.constraints in
    record {
      basic = ap₂ (λ (x : List S.Division) (y : List S.Constraint). record { divisions = x; constraints = y }) u v;
      divs = omega arith;
      cons = omega arith;
      divisions = dn;
      constraints = rn;
    }
