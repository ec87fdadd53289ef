-- Values of rules at a point: opposites, and rules moved to joined divisions.
use mathlib.Core.Path.{◌≡◌, refl, sym, ap, ap₂, ◌∙◌, subst}
use mathlib.Core.Bool.{Bool, true, false, not, ◌&&◌, cond}
use mathlib.Core.List.{List, [], ◌∷◌, ◌++◌, map, append_assoc, append-nil}
use mathlib.Core.Option.{Option, none, some}
use Prim.Native.Nat.{ℕ, zero, suc, ◌+◌, ◌<◌, zero-le, suc-le-suc}
use native.Mathlib.Nat.{add-zero, zero-add, add-suc, suc-add}
use native.Mathlib.Omega.{arith}
use lib.Dec.{T, ltb, lt→ltb, eqb, eqb→eq, eqb-suc-zero}
use lib.IntN.{ℤ, pos, negsuc, neg_ℤ, ◌+ℤ◌, ◌-ℤ◌, ◌*ℤ◌, -ℤ_one, pred_ℤ, +ℤ_idl, -ℤ-+ℤ_cancel}
use lib.Signed.{non_neg}
use lib.ListN.{length, get_or, replicate, length-append}
use Rattle.integers.specs.Ring.{ring, quote}
use Rattle.model.specs.Lists.{all, any}
use Rattle.model.specs.Sets.{dot, floor_div, Division, Kind, equality, inequality, Constraint, is_zero, meets, value, holds, quotient, quotients}
use Rattle.algebra.specs.Cut.{above, below, opposites, opposites_at, add_at, move, move_constraint, sameℤ, same_list, same_division, seek, Joined, join_from, join}
use Rattle.model.proofs.Count.{ind, count, and_left, and_right, and-make, to-T, from-T, all_append}
use Rattle.model.proofs.Values.{dot-neg, dot-nil, divides, is_zero→}

-- ---- opposites

one_of_two : (z : ℤ) → ind (non_neg (pred_ℤ z)) + (ind (non_neg (pred_ℤ (neg_ℤ z))) + 0) ≡ ind (not (is_zero z))
one_of_two (pos zero) = refl
one_of_two (pos (suc n)) = ap (λ (b : Bool). ind (not b)) (sym (eqb-suc-zero n))
one_of_two (negsuc n) = refl

one-of-one : (z : ℤ) → ind (non_neg (pred_ℤ (neg_ℤ z))) + 0 ≡ ind (not (non_neg z))
one-of-one (pos zero) = refl
one-of-one (pos (suc n)) = refl
one-of-one (negsuc n) = refl

module _ (x q : List ℤ) where
  above-value : (r : Constraint) → value (pos 1) x q (above r) ≡ pred_ℤ (value (pos 1) x q r)
  above-value r = ring (r.constant ∷ dot r.axes x ∷ dot r.divisions q ∷ []) (search quote depth 30) tt ∙ -ℤ_one (value (pos 1) x q r)

  below-value : (r : Constraint) → value (pos 1) x q (below r) ≡ pred_ℤ (neg_ℤ (value (pos 1) x q r))
  below-value r =
      ap₂ (λ (a b : ℤ). (neg_ℤ r.constant -ℤ pos 1) *ℤ pos 1 +ℤ (a +ℤ b)) (dot-neg r.axes x) (dot-neg r.divisions q)
      ∙ ring (r.constant ∷ dot r.axes x ∷ dot r.divisions q ∷ []) (search quote depth 30) tt
      ∙ -ℤ_one (neg_ℤ (value (pos 1) x q r))

  opposites-count-at : (k : Kind) (r : Constraint) → count (holds (pos 1) x q) (opposites_at k r) ≡ ind (not (meets k (value (pos 1) x q r)))
  opposites-count-at equality r =
      ap₂ (λ (a b : ℤ). ind (non_neg a) + (ind (non_neg b) + 0)) (above-value r) (below-value r) ∙ one_of_two (value (pos 1) x q r)
  opposites-count-at inequality r = ap (λ (b : ℤ). ind (non_neg b) + 0) (below-value r) ∙ one-of-one (value (pos 1) x q r)

  -- of a rule and its opposites exactly one holds
  pub opposites-count : (r : Constraint) → count (holds (pos 1) x q) (opposites r) ≡ ind (not (holds (pos 1) x q r))
  opposites-count r = opposites-count-at r.kind r

-- ---- a coefficient that is moved

dot-zeros : (k : ℕ) (xs : List ℤ) → dot (replicate k (pos 0)) xs ≡ pos 0
dot-zeros zero xs = refl
dot-zeros (suc k) [] = refl
dot-zeros (suc k) (x ∷ xs) = ap (λ (z : ℤ). pos 0 *ℤ x +ℤ z) (dot-zeros k xs) ∙ ring (x ∷ []) (search quote depth 30) tt

dot-add_at : (i : ℕ) (c : ℤ) (cs xs : List ℤ) → dot (add_at i c cs) xs ≡ c *ℤ get_or xs i (pos 0) +ℤ dot cs xs
dot-add_at zero c [] [] = sym (ring (c ∷ []) (search quote depth 30) tt)
dot-add_at zero c [] (x ∷ xs) = refl
dot-add_at zero c (z ∷ cs) [] = sym (ring (c ∷ []) (search quote depth 30) tt)
dot-add_at zero c (z ∷ cs) (x ∷ xs) = ring (c ∷ z ∷ x ∷ dot cs xs ∷ []) (search quote depth 30) tt
dot-add_at (suc i) c [] [] = sym (ring (c ∷ []) (search quote depth 30) tt)
dot-add_at (suc i) c [] (x ∷ xs) = ap (λ (w : ℤ). pos 0 *ℤ x +ℤ w) (dot-add_at i c [] xs) ∙ ring (c ∷ x ∷ get_or xs i (pos 0) ∷ []) (search quote depth 30) tt
dot-add_at (suc i) c (z ∷ cs) [] = sym (ring (c ∷ []) (search quote depth 30) tt)
dot-add_at (suc i) c (z ∷ cs) (x ∷ xs) =
    ap (λ (w : ℤ). z *ℤ x +ℤ w) (dot-add_at i c cs xs)
    ∙ ring (c ∷ z ∷ x ∷ get_or xs i (pos 0) ∷ dot cs xs ∷ []) (search quote depth 30) tt

abbrev pub at : List ℤ → List ℕ → List ℤ
at xs is = map (λ (i : ℕ). get_or xs i (pos 0)) is

pub dot-move : (is : List ℕ) (cs xs : List ℤ) → dot (move is cs) xs ≡ dot cs (at xs is)
dot-move [] cs xs = dot-zeros 8 xs ∙ sym (dot-nil cs)
dot-move (i ∷ is) [] xs = dot-zeros 8 xs
dot-move (i ∷ is) (c ∷ cs) xs =
    dot-add_at i c (move is cs) xs ∙ ap (λ (w : ℤ). c *ℤ get_or xs i (pos 0) +ℤ w) (dot-move is cs xs)

-- ---- joined divisions

pub same→ : (a b : ℤ) → T (sameℤ a b) → a ≡ b
same→ a b t = sym (-ℤ-+ℤ_cancel a b) ∙ ap (λ (z : ℤ). z +ℤ b) (is_zero→ (a -ℤ b) t) ∙ +ℤ_idl b

pub same_list→ : (us vs : List ℤ) → T (same_list us vs) → us ≡ vs
same_list→ [] [] t = refl
same_list→ [] (b ∷ vs) t = absurd t
same_list→ (a ∷ us) [] t = absurd t
same_list→ (a ∷ us) (b ∷ vs) t =
    ap₂ (λ (z : ℤ) (l : List ℤ). z ∷ l) (same→ a b (and_left (sameℤ a b) (same_list us vs) t)) (same_list→ us vs (and_right (sameℤ a b) (same_list us vs) t))

module _ (x : List ℤ) where
  same-quotient : (e f : Division) → T (same_division e f) → quotient x e ≡ quotient x f
  same-quotient e f t =
      let u = and_right (eqb e.divisor f.divisor) (sameℤ e.constant f.constant && same_list e.axes f.axes) t in
      let p : e.divisor ≡ f.divisor = eqb→eq e.divisor f.divisor (and_left (eqb e.divisor f.divisor) (sameℤ e.constant f.constant && same_list e.axes f.axes) t) in
      let c : e.constant ≡ f.constant = same→ e.constant f.constant (and_left (sameℤ e.constant f.constant) (same_list e.axes f.axes) u) in
      let a : e.axes ≡ f.axes = same_list→ e.axes f.axes (and_right (sameℤ e.constant f.constant) (same_list e.axes f.axes) u) in
      λ i. floor_div (c i +ℤ dot (a i) x) (p i)

  -- the place that `seek` finds, less where it began
  pub record Sought (e : Division) (ds : List Division) (k i : ℕ) : Type 0 where
    pub m : ℕ
    pub place : i ≡ k + m
    pub fits : m < length ds
    pub right : (l : List Division) → get_or (quotients (ds ++ l) x) m (pos 0) ≡ quotient x e

  some_inj : {a b : ℕ} → some a ≡ some b → a ≡ b
  some_inj {a} {b} p = cc

  none-some : {a : ℕ} {X : Type 0} → ◌≡◌ {A = Option ℕ} none (some a) → X
  none-some {a} p = let z : ◌≡◌ {A = ℕ} 0 1 = cc in absurd (no_way z)
    where
      no_way : ◌≡◌ {A = ℕ} 0 1 → ⊥
      no_way z = omega arith

  seek-right : (e : Division) (taken : List ℕ) (k : ℕ) (ds : List Division) (i : ℕ) → seek e taken k ds ≡ some i → Sought e ds k i
  seek-right e taken k [] i p = none-some p
  seek-right e taken k (f ∷ ds) i p =
      choose (same_division e f) (not (any (eqb k) taken)) (λ t. same-quotient e f t) p (seek-right e taken (suc k) ds i)
    where
      later : Sought e ds (suc k) i → Sought e (f ∷ ds) k i
      later s = record { m = suc s.m; place = s.place ∙ suc-add k s.m ∙ sym (add-suc k s.m); fits = suc-le-suc s.fits; right = s.right }

      choose : (a b : Bool) → (T a → quotient x e ≡ quotient x f) → cond (a && b) (some k) (seek e taken (suc k) ds) ≡ some i
          → (seek e taken (suc k) ds ≡ some i → Sought e ds (suc k) i) → Sought e (f ∷ ds) k i
      choose true true g p r = record { m = 0; place = sym (some_inj p) ∙ sym (add-zero k); fits = suc-le-suc zero-le; right = λ l. sym (g tt) }
      choose true false g p r = later (r p)
      choose false b g p r = later (r p)

  pub map-append : (l m : List Division) → quotients (l ++ m) x ≡ quotients l x ++ quotients m x
  map-append [] m = refl
  map-append (e ∷ l) m = ap (λ (w : List ℤ). quotient x e ∷ w) (map-append l m)

  seam : (l : List Division) (e : Division) (m : List Division) → get_or (quotients (l ++ e ∷ m) x) (length l) (pos 0) ≡ quotient x e
  seam [] e m = refl
  seam (d ∷ l) e m = seam l e m

  -- what joining yields: the divisions so far with more behind them, and each of B's at its place
  pub record Good (joined es : List Division) (j : Joined) : Type 0 where
    pub extra : List Division
    pub extends : j.all ≡ joined ++ extra
    pub matches : at (quotients j.all x) j.places ≡ quotients es x
    pub inside : T (all (λ (p : ℕ). ltb p (length j.all)) j.places)
    pub positive : T (all divides joined) → T (all divides es) → T (all divides j.all)

  longer : (l m k : List Division) (i : ℕ) → i < length l → k ≡ l ++ m → T (ltb i (length k))
  longer l m k i h e = lt→ltb i (length k) (subst (λ (n : ℕ). i < n) (sym (ap length e ∙ length-append l m)) (omega arith))

  join-good : (ds : List Division) (taken : List ℕ) (more es : List Division) → Good (ds ++ more) es (join_from ds taken (ds ++ more) es)
  join-good ds taken more [] = record { extra = []; extends = sym (append-nil (ds ++ more)); matches = refl; inside = tt; positive = λ s t. s }
  join-good ds taken more (e ∷ es) =
      go (seek e taken 0 ds) refl (λ i. join-good ds (i ∷ taken) more es) (subst (λ (l : List Division). Good l es (join_from ds taken l es)) (sym (append_assoc ds more (e ∷ []))) (join-good ds taken (more ++ (e ∷ [])) es))
    where
      go : (o : Option ℕ) → seek e taken 0 ds ≡ o → ((i : ℕ) → Good (ds ++ more) es (join_from ds (i ∷ taken) (ds ++ more) es))
          → Good (ds ++ more ++ (e ∷ [])) es (join_from ds taken (ds ++ more ++ (e ∷ [])) es) → Good (ds ++ more) (e ∷ es) (join_from ds taken (ds ++ more) (e ∷ es))
      go (some i) h f g =
          let s = seek-right e taken 0 ds i h in
          let c = f i in
          let same : (join_from ds (i ∷ taken) (ds ++ more) es).all ≡ ds ++ (more ++ c.extra) = c.extends ∙ append_assoc ds more c.extra in
          let place : i ≡ s.m = s.place ∙ zero-add s.m in
          let j : Joined = join_from ds (i ∷ taken) (ds ++ more) es in
          rw (h, join_from) record {
            extra = c.extra;
            extends = c.extends;
            matches = ap₂ (λ (z : ℤ) (l : List ℤ). z ∷ l) (ap₂ (λ (l : List Division) (k : ℕ). get_or (quotients l x) k (pos 0)) same place ∙ s.right (more ++ c.extra)) c.matches;
            inside = and-make (ltb i (length j.all)) (all (λ (p : ℕ). ltb p (length j.all)) j.places) (longer ds (more ++ c.extra) j.all i (subst (λ (k : ℕ). k < length ds) (sym place) s.fits) same) c.inside;
            positive = λ t u. c.positive t (and_right (divides e) (all divides es) u);
          }
      go none h f g =
          let same : (join_from ds taken (ds ++ more ++ (e ∷ [])) es).all ≡ ds ++ more ++ (e ∷ g.extra) = g.extends ∙ append_assoc (ds ++ more) (e ∷ []) g.extra in
          let j : Joined = join_from ds taken (ds ++ more ++ (e ∷ [])) es in
          rw (h, join_from) record {
            extra = e ∷ g.extra;
            extends = same;
            matches = ap₂ (λ (z : ℤ) (l : List ℤ). z ∷ l) (ap (λ (l : List Division). get_or (quotients l x) (length (ds ++ more)) (pos 0)) same ∙ seam (ds ++ more) e g.extra) g.matches;
            inside = and-make (ltb (length (ds ++ more)) (length j.all)) (all (λ (p : ℕ). ltb p (length j.all)) j.places) (longer (ds ++ more ++ (e ∷ [])) g.extra j.all (length (ds ++ more)) (subst (λ (n : ℕ). length (ds ++ more) < n) (sym (length-append (ds ++ more) (e ∷ []))) (omega arith)) g.extends) g.inside;
            positive = λ t u. g.positive (to-T (all divides (ds ++ more ++ (e ∷ []))) (all_append divides (ds ++ more) (e ∷ []) ∙ from-T (all divides (ds ++ more) && (divides e && true)) (and-make (all divides (ds ++ more)) (divides e && true) t (and-make (divides e) true (and_left (divides e) (all divides es) u) tt)))) (and_right (divides e) (all divides es) u);
          }

  pub joined : (ds es : List Division) → Good ds es (join ds es)
  joined ds es = subst (λ (l : List Division). Good l es (join_from ds [] l es)) (append-nil ds) (join-good ds [] [] es)

  -- a moved rule is worth what it was
  pub moved_value : (ds es : List Division) (r : Constraint) → value (pos 1) x (quotients (join ds es).all x) (move_constraint (join ds es).places r) ≡ value (pos 1) x (quotients es x) r
  moved_value ds es r =
      ap (λ (z : ℤ). r.constant *ℤ pos 1 +ℤ (dot r.axes x +ℤ z))
      (dot-move (join ds es).places r.divisions (quotients (join ds es).all x) ∙ ap (dot r.divisions) (joined ds es).matches)
