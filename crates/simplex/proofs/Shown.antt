-- A row of the tableau and its 18 numbers in the table: an exchange of the table's rows is the tableau's. Assumes nothing.
use mathlib.Core.Path.{◌≡◌, refl, sym, ap, ap₂, ◌∙◌, subst}
use mathlib.Core.Bool.{Bool, true, false, ◌&&◌, ◌||◌, cond}
use mathlib.Core.List.{List, [], ◌∷◌, map}
use mathlib.Core.Logic.{⊎_elim}
use Prim.Native.Nat.{ℕ, zero, suc, ◌+◌, ◌≤◌, ◌<◌, ◌∣◌, zero-le, suc-le-suc}
use native.Mathlib.Nat.{dvd_antisymm}
use native.Mathlib.Numerals.{add-two}
use native.Mathlib.Omega.{arith}
use borrow.Author.Tests.{eqb-true, eqb-false, le-leb}
use lib.Dec.{leb, eqb}
use lib.ListN.{length, get_or, set, length-set, length-map}
use lib.Seq.{get_or-set_same, get_or-set_other}
use lib.IntN.{ℤ, pos, negsuc, neg_ℤ, nat_abs, ◌+ℤ◌, ◌-ℤ◌, ◌*ℤ◌, *ℤ-zero}
use lib.Signed.{quot_z, lt_z, ◌<ℤ◌, <ℤ_irrefl}
use Rattle.integers.specs.Ring.{ring, quote}
use Rattle.integers.specs.Lin.{eq, lin, lia-eq}
use Rattle.integers.specs.Order.{mul-pos-pos, mul-zero}
use Rattle.integers.specs.Size.{nat_abs-neg}
use Rattle.integers.specs.Gcd.{gcd_all, Divides, gcd_all-divides, gcd_all-most}
use Rattle.model.specs.Sets.{is_zero, floor_div}
use Rattle.model.specs.Lists.{all}
use Rattle.model.proofs.Count.{from-T, to-T, and_left, and_right}
use Rattle.feasibility.specs.Tableau as T
use Rattle.feasibility.specs.Tableau.{Row, reduced, positive, solved, replaced, common_divisor, combine}
use Rattle.tableau.specs.Rows.{den, entry, divisor_from, reduce_row, divide_row, turn_row, turn_by, solve_row, replace_row, rebuild_row, combine_rows, minus_row, small_at, narrow_row_at}
use Rattle.simplex.specs.Table.{column_of, standing, number_at, layout}
use Rattle.feasibility.proofs.Rows.{length-combine}
use Rattle.feasibility.proofs.Reduce.{evenly, exactly, common-divides, reduced-like}
use Rattle.feasibility.proofs.Exchange.{Shape}
use Rattle.simplex.proofs.Canonical.{scale, common-is, divisor_is, divides-at, divides-of, lowest-terms, canonical, abs-over}
use Rattle.tableau.proofs.Lines.{map-zero, combine-at, combine-length, row-divisor}
use Rattle.tableau.proofs.Lines as Lines
use Rattle.tableau.proofs.Searches.{small-within}
use Rattle.simplex.proofs.Columns.{column-in, lay, lay_at, lay-length, lay-is, number-entry, lay-entry, number-map, number-set, number-other, number-combine, number-den, number-zero}

module _ (k : ℕ) (kin : k ≤ 8) where
  -- ---- the common divisor

  -- each number of the row stands somewhere, and there is no other
  stands : (Q : ℤ → Type 0) (d : ℤ) (ns : List ℤ) → length ns ≡ suc (8 + k) → ((i : ℕ) → i < 18 → Q (number_at k d ns i)) → (i : ℕ) → i < length (d ∷ ns) → Q (get_or (d ∷ ns) i (pos 0))
  unfolding number_at
  stands Q d ns len h zero l = h 0 (omega arith)
  stands Q d ns len h (suc zero) l = h 1 (omega arith)
  stands Q d ns len h (suc (suc j)) l =
      let b : j < 8 + k = omega arith in
      let c = column-in k j b in
      subst Q (number-entry k kin d ns j) (h (column_of k j + 2) (omega arith))

  number_of : (Q : ℤ → Type 0) (d : ℤ) (ns : List ℤ) → ((i : ℕ) → Q (get_or (d ∷ ns) i (pos 0))) → (i : ℕ) → Q (number_at k d ns i)
  unfolding number_at
  number_of Q d ns h zero = h 0
  number_of Q d ns h (suc zero) = h 1
  number_of Q d ns h (suc (suc c)) = h (suc (suc (standing k c)))

  number-divides : (d : ℤ) (ns : List ℤ) (g : ℕ) → Divides g (d ∷ ns) → (i : ℕ) → g ∣ nat_abs (number_at k d ns i)
  number-divides d ns g h i = number_of (λ z. g ∣ nat_abs z) d ns (λ i. divides-at g (d ∷ ns) i h) i

  lay-divides : (d : ℤ) (ns : List ℤ) (g : ℕ) → Divides g (d ∷ ns) → Divides g (lay k kin d ns)
  lay-divides d ns g h =
      divides-of g (lay k kin d ns)
      (λ i l. let b : i < 18 = subst (λ n. i < n) (lay-length k kin d ns) l in subst (λ z. g ∣ nat_abs z) (sym (lay_at k kin d ns i b)) (number-divides d ns g h i))

  lay-gcd : (d : ℤ) (ns : List ℤ) → length ns ≡ suc (8 + k) → gcd_all (lay k kin d ns) ≡ common_divisor (d ∷ ns)
  lay-gcd d ns len =
      dvd_antisymm
      (subst (λ n. gcd_all (lay k kin d ns) ∣ n) (sym (common-is (d ∷ ns)))
      (gcd_all-most (gcd_all (lay k kin d ns)) (d ∷ ns)
      (divides-of (gcd_all (lay k kin d ns)) (d ∷ ns)
      (stands (λ z. gcd_all (lay k kin d ns) ∣ nat_abs z) d ns len
      (λ i b. subst (λ z. gcd_all (lay k kin d ns) ∣ nat_abs z) (lay_at k kin d ns i b) (divides-at (gcd_all (lay k kin d ns)) (lay k kin d ns) i (gcd_all-divides (lay k kin d ns))))))))
      (gcd_all-most (common_divisor (d ∷ ns)) (lay k kin d ns) (lay-divides d ns (common_divisor (d ∷ ns)) (common-divides (d ∷ ns))))

  -- ---- rows in lowest terms

  -- l is, in lowest terms, a row whose multiple is r
  record Terms (l r : List ℤ) : Type 0 where
    factor : ℤ
    nonzero : factor ≡ pos 0 → ⊥
    times : scale factor l ≡ r
    lowest : gcd_all l ≡ 1
    over : pos 0 <ℤ den l

  terms-unique : (l l' r r' : List ℤ) (e : ℤ) → (e ≡ pos 0 → ⊥) → scale e r ≡ r' → Terms l r → Terms l' r' → l ≡ l'
  terms-unique [] l' r r' e n q t t' = absurd (<ℤ_irrefl t.over)
  terms-unique (x ∷ l) [] r r' e n q t t' = absurd (<ℤ_irrefl t'.over)
  terms-unique (x ∷ l) (y ∷ l') r r' e n q t t' =
      canonical (e *ℤ t.factor) t'.factor x y l l' (both e t.factor n t.nonzero) t'.nonzero t.over t'.over t.lowest t'.lowest
      (scale-scale e t.factor (x ∷ l) ∙ ap (scale e) t.times ∙ q ∙ sym t'.times)
    where
      both : (a b : ℤ) → (a ≡ pos 0 → ⊥) → (b ≡ pos 0 → ⊥) → a *ℤ b ≡ pos 0 → ⊥
      both a b n m z = ⊎_elim n m (mul-zero z)

      scale-scale : (a b : ℤ) (xs : List ℤ) → scale (a *ℤ b) xs ≡ scale a (scale b xs)
      scale-scale a b [] = refl
      scale-scale a b (x ∷ xs) = ap₂ ◌∷◌ (ring (a ∷ b ∷ x ∷ []) (search quote depth 30) tt) (scale-scale a b xs)

  -- the table's
  divided : (g : ℕ) (xs : List ℤ) → 0 < g → Divides g xs → scale (pos g) (map (λ x. quot_z x (pos g)) xs) ≡ xs
  divided g [] p d = refl
  divided g (x ∷ xs) p d = ap₂ ◌∷◌ (exactly g x d.0) (divided g xs p d.1)

  not-zero : (n : ℕ) → 0 < n → pos n ≡ pos 0 → ⊥
  not-zero n h e = let z : n ≡ 0 = ap nat_abs e in omega arith

  reduce-terms : (l : List ℤ) → pos 0 <ℤ den l → Terms (reduce_row l) l
  unfolding reduce_row divide_row
  reduce-terms l h =
      let g = divisor_from 0 l in
      let d = row-divisor l h in
      let e = divisor_is l in
      let q = divided g l d.0 (subst (λ n. Divides n l) (sym e) (gcd_all-divides l)) in
      record {
        factor = pos g;
        nonzero = not-zero g d.0;
        times = q;
        lowest = lowest-terms (pos g) (reduce_row l) l (not-zero g d.0) q e;
        over = Lines.reduce-over l h;
      }

  -- the tableau's
  module _ (v : ℕ) (d : ℤ) (ns : List ℤ) (n : d ≡ pos 0 → ⊥) (len : length ns ≡ suc (8 + k)) where
    abbrev r : Row
    r = record { var = v; den = d; nums = ns }

    abbrev g : ℕ
    g = common_divisor (d ∷ ns)

    g-over : 0 < g
    g-over = native.Mathlib.Nat.pos_of_dvd_of_pos (common-divides (d ∷ ns)).0 (abs-over d n)

    zero-floor : floor_div (pos 0) g ≡ pos 0
    zero-floor = let h = g-over in ap pos (omega (arith, native.Mathlib.Nat.div-le_self 0 g))

    scaled-lay : (f : ℤ) (d' : ℤ) (ns' : List ℤ) → ((i : ℕ) → f *ℤ number_at k d' ns' i ≡ number_at k d ns i) → scale f (lay k kin d' ns') ≡ lay k kin d ns
    scaled-lay f d' ns' h =
        lay-is k kin (scale f (lay k kin d' ns')) d ns (length-map (lay k kin d' ns') (λ x. f *ℤ x) ∙ lay-length k kin d' ns')
        (λ i b. map-zero (λ x. f *ℤ x) (lay k kin d' ns') i (*ℤ-zero f) ∙ ap (λ x. f *ℤ x) (lay_at k kin d' ns' i b) ∙ h i)

    even : (i : ℕ) → pos g *ℤ floor_div (number_at k d ns i) g ≡ number_at k d ns i
    even i = evenly g (number_at k d ns i) g-over (number-divides d ns g (common-divides (d ∷ ns)) i)

    even-neg : (i : ℕ) → neg_ℤ (pos g) *ℤ floor_div (neg_ℤ (number_at k d ns i)) g ≡ number_at k d ns i
    even-neg i =
        let z = number_at k d ns i in
        let q = evenly g (neg_ℤ z) g-over (subst (λ m. g ∣ m) (sym (nat_abs-neg z)) (number-divides d ns g (common-divides (d ∷ ns)) i)) in
        lia-eq (pos g ∷ floor_div (neg_ℤ z) g ∷ z ∷ []) (eq q ∷ []) (search lin depth 30) (omega arith)

    finish : (f : ℤ) → nat_abs f ≡ g → (f ≡ pos 0 → ⊥) → ((i : ℕ) → f *ℤ number_at k (reduced r).den (reduced r).nums i ≡ number_at k d ns i) → Terms (layout k (reduced r)) (lay k kin d ns)
    finish f e m h =
        let q = scaled-lay f (reduced r).den (reduced r).nums h in
        record {
          factor = f;
          nonzero = m;
          times = q;
          lowest = lowest-terms f (layout k (reduced r)) (lay k kin d ns) m q (e ∙ sym (lay-gcd d ns len));
          over = subst (λ z. pos 0 <ℤ z) (sym (lay_at k kin (reduced r).den (reduced r).nums 0 (omega arith) ∙ number-zero k kin (reduced r).den (reduced r).nums)) (reduced-like r n).positive;
        }

  reduced-terms : (v : ℕ) (d : ℤ) (ns : List ℤ) → (d ≡ pos 0 → ⊥) → length ns ≡ suc (8 + k) → Terms (layout k (reduced (record { var = v; den = d; nums = ns }))) (lay k kin d ns)
  reduced-terms v (pos m) ns n len =
      let g = common_divisor (pos m ∷ ns) in
      finish v (pos m) ns n len (pos g) refl (not-zero g (g-over v (pos m) ns n len))
      (λ i. ap (λ x. pos g *ℤ x) (number-map k kin (λ x. floor_div x g) (pos m) ns i (zero-floor v (pos m) ns n len)) ∙ even v (pos m) ns n len i)
  reduced-terms v (negsuc m) ns n len =
      let d = negsuc m in
      let g = common_divisor (d ∷ ns) in
      finish v d ns n len (neg_ℤ (pos g)) (nat_abs-neg (pos g)) (λ e. not-zero g (g-over v d ns n len) (sym (lib.IntN.neg_ℤ-neg_ℤ (pos g)) ∙ ap neg_ℤ e))
      (λ i.
      ap (λ x. neg_ℤ (pos g) *ℤ x) (number-map k kin (λ x. floor_div x g) (pos (suc m)) (map neg_ℤ ns) i (zero-floor v d ns n len) ∙ ap (λ x. floor_div x g) (number-map k kin neg_ℤ d ns i refl))
      ∙ even-neg v d ns n len i)

  -- a multiple of a row's numbers, in lowest terms
  pub reduce-shows : (e : ℤ) (l : List ℤ) (v : ℕ) (d : ℤ) (ns : List ℤ) → (e ≡ pos 0 → ⊥) → pos 0 <ℤ den l → (d ≡ pos 0 → ⊥) → length ns ≡ suc (8 + k) → scale e l ≡ lay k kin d ns
      → reduce_row l ≡ layout k (reduced (record { var = v; den = d; nums = ns }))
  reduce-shows e l v d ns m h n len q = terms-unique _ _ l (lay k kin d ns) e m q (reduce-terms l h) (reduced-terms v d ns n len)

  -- ---- the row solved for column j

  -- two stores, at the denominator and at a column
  module _ (l : List ℤ) (len : length l ≡ 18) (c : ℕ) (cin : c < 16) (x y : ℤ) where
    abbrev stored : List ℤ
    stored = set (set l 0 x) (c + 2) y

    at-den : get_or stored 0 (pos 0) ≡ x
    at-den = get_or-set_other (set l 0 x) (c + 2) 0 y (pos 0) (λ e. omega arith) ∙ get_or-set_same l 0 x (pos 0) (omega arith)

    at-column : get_or stored (c + 2) (pos 0) ≡ y
    at-column = get_or-set_same (set l 0 x) (c + 2) y (pos 0) (subst (λ n. c + 2 < n) (sym (length-set l 0 x)) (omega arith))

    elsewhere : (i : ℕ) → (suc i ≡ c + 2 → ⊥) → get_or stored (suc i) (pos 0) ≡ get_or l (suc i) (pos 0)
    elsewhere i n = get_or-set_other (set l 0 x) (c + 2) (suc i) y (pos 0) n ∙ get_or-set_other l 0 (suc i) x (pos 0) (λ e. omega arith)

    stored-length : length stored ≡ 18
    stored-length = length-set (set l 0 x) (c + 2) y ∙ length-set l 0 x ∙ len

  -- by cases of a place: the denominator, column c, another
  by_place : (Q : ℕ → Type 0) (c : ℕ) → Q 0 → Q (c + 2) → ((i : ℕ) → (suc i ≡ c + 2 → ⊥) → Q (suc i)) → (i : ℕ) → Q i
  by_place Q c a b f zero = a
  by_place Q c a b f (suc i) = at (eqb (suc i) (c + 2)) refl
    where
      at : (t : Bool) → eqb (suc i) (c + 2) ≡ t → Q (suc i)
      at true e = subst Q (sym (eqb-true (suc i) (c + 2) e)) b
      at false e = f i (eqb-false (suc i) (c + 2) e)

  module _ (r : Row) (j v : ℕ) (jin : j < 8 + k) (sh : Shape (8 + k) r) (pivot : T.entry r j ≡ pos 0 → ⊥) where
    abbrev c : ℕ
    c = column_of k j

    abbrev P : ℤ
    P = T.entry r j

    abbrev l : List ℤ
    l = layout k r

    cin : c < 16
    cin = let h = column-in k j jin in omega arith

    l-length : length l ≡ 18
    l-length = lay-length k kin r.den r.nums

    l-entry : entry l c ≡ P
    l-entry = lay-entry k kin r.den r.nums j jin

    l-den : den l ≡ r.den
    l-den = lay_at k kin r.den r.nums 0 (omega arith) ∙ number-zero k kin r.den r.nums

    abbrev solved_nums : List ℤ
    solved_nums = set (map neg_ℤ r.nums) (suc j) r.den

    solved-long : length solved_nums ≡ suc (8 + k)
    solved-long = length-set (map neg_ℤ r.nums) (suc j) r.den ∙ length-map r.nums neg_ℤ ∙ sh.long

    solved-column : number_at k P solved_nums (c + 2) ≡ r.den
    solved-column = number-set k kin P (map neg_ℤ r.nums) j r.den (subst (λ n. suc j < n) (sym (length-map r.nums neg_ℤ ∙ sh.long)) (suc-le-suc jin))

    solved-other : (i : ℕ) → (suc i ≡ c + 2 → ⊥) → number_at k P solved_nums (suc i) ≡ neg_ℤ (number_at k r.den r.nums (suc i))
    solved-other i n =
        number-other k kin P (map neg_ℤ r.nums) j r.den (suc i) n
        ∙ number-den k kin P (neg_ℤ r.den) (map neg_ℤ r.nums) i
        ∙ number-map k kin neg_ℤ r.den r.nums (suc i) refl

    -- before it is reduced
    record Turned (u : List ℤ) : Type 0 where
      sign : ℤ
      nonzero : sign ≡ pos 0 → ⊥
      times : scale sign u ≡ lay k kin P solved_nums
      over : pos 0 <ℤ den u

    turned_by : (e : ℤ) (u : List ℤ) → length u ≡ 18 → e *ℤ get_or u 0 (pos 0) ≡ P → e *ℤ get_or u (c + 2) (pos 0) ≡ r.den
        → ((i : ℕ) → (suc i ≡ c + 2 → ⊥) → suc i < 18 → e *ℤ get_or u (suc i) (pos 0) ≡ neg_ℤ (number_at k r.den r.nums (suc i))) → scale e u ≡ lay k kin P solved_nums
    turned_by e u len a b f =
        lay-is k kin (scale e u) P solved_nums (length-map u (λ x. e *ℤ x) ∙ len)
        (λ i h. map-zero (λ x. e *ℤ x) u i (*ℤ-zero e)
        ∙ by_place (λ i. i < 18 → e *ℤ get_or u i (pos 0) ≡ number_at k P solved_nums i) c
        (λ h. a ∙ sym (number-zero k kin P solved_nums))
        (λ h. b ∙ sym solved-column)
        (λ i n h. f i n h ∙ sym (solved-other i n))
        i h)

    turned : (b : Bool) → lt_z (entry l c) (pos 0) ≡ b → Turned (turn_by b l c)
    turned true t =
        let x : ℤ = pos 0 -ℤ entry l c in
        let y : ℤ = pos 0 -ℤ den l in
        record {
          sign = negsuc 0;
          nonzero = λ e. let z : ◌≡◌ {A = ℕ} 1 0 = ap nat_abs e in omega arith;
          times = turned_by (negsuc 0) (stored l l-length c cin x y) (stored-length l l-length c cin x y)
              (ap (λ z. negsuc 0 *ℤ z) (at-den l l-length c cin x y) ∙ minus (entry l c) ∙ l-entry)
              (ap (λ z. negsuc 0 *ℤ z) (at-column l l-length c cin x y) ∙ minus (den l) ∙ l-den)
              (λ i n h. ap (λ z. negsuc 0 *ℤ z) (elsewhere l l-length c cin x y i n ∙ lay_at k kin r.den r.nums (suc i) h) ∙ ring (number_at k r.den r.nums (suc i) ∷ []) (search quote depth 30) tt);
          over = subst (λ z. pos 0 <ℤ z) (sym (at-den l l-length c cin x y)) (Lines.minus-positive (entry l c) t);
        }
      where
        minus : (z : ℤ) → negsuc 0 *ℤ (pos 0 -ℤ z) ≡ z
        minus z = ring (z ∷ []) (search quote depth 30) tt
    turned false t =
        let m : List ℤ = minus_row l in
        let len : length m ≡ 18 = length-map l (λ x. pos 0 -ℤ x) ∙ l-length in
        let x : ℤ = entry l c in
        let y : ℤ = den l in
        record {
          sign = pos 1;
          nonzero = λ e. let z : ◌≡◌ {A = ℕ} 1 0 = ap nat_abs e in omega arith;
          times = turned_by (pos 1) (stored m len c cin x y) (stored-length m len c cin x y)
              (ap (λ z. pos 1 *ℤ z) (at-den m len c cin x y) ∙ one (entry l c) ∙ l-entry)
              (ap (λ z. pos 1 *ℤ z) (at-column m len c cin x y) ∙ one (den l) ∙ l-den)
              (λ i n h. ap (λ z. pos 1 *ℤ z) (elsewhere m len c cin x y i n ∙ map-zero (λ x. pos 0 -ℤ x) l (suc i) refl ∙ ap (λ z. pos 0 -ℤ z) (lay_at k kin r.den r.nums (suc i) h)) ∙ ring (number_at k r.den r.nums (suc i) ∷ []) (search quote depth 30) tt);
          over = subst (λ z. pos 0 <ℤ z) (sym (at-den m len c cin x y)) (Lines.nonzero-positive (entry l c) t (λ e. pivot (sym l-entry ∙ e)));
        }
      where
        one : (z : ℤ) → pos 1 *ℤ z ≡ z
        one z = ring (z ∷ []) (search quote depth 30) tt

    pub solve-shows : solve_row l c ≡ layout k (solved r j v)
    unfolding solve_row turn_row
    solve-shows =
        let t = turned (lt_z (entry l c) (pos 0)) refl in
        reduce-shows t.sign (turn_row l c) v P solved_nums t.nonzero t.over pivot solved-long t.times

    -- ---- another row, with column j replaced

    abbrev p : List ℤ
    p = layout k (solved r j v)

    p-terms : Terms p (lay k kin P solved_nums)
    p-terms = reduced-terms v P solved_nums pivot solved-long

    p-length : length p ≡ 18
    p-length = lay-length k kin (solved r j v).den (solved r j v).nums

    p-times : (i : ℕ) → i < 18 → p-terms.factor *ℤ get_or p i (pos 0) ≡ number_at k P solved_nums i
    p-times i h =
        sym (map-zero (λ x. p-terms.factor *ℤ x) p i (*ℤ-zero p-terms.factor))
        ∙ ap (λ u. get_or u i (pos 0)) p-terms.times
        ∙ lay_at k kin P solved_nums i h

    abbrev q : List ℤ
    q = set p 0 (pos 0)

    q-length : length q ≡ 18
    q-length = length-set p 0 (pos 0) ∙ p-length

    q-den : get_or q 0 (pos 0) ≡ pos 0
    q-den = Lines.cleared_at p 0

    q-at : (i : ℕ) → get_or q (suc i) (pos 0) ≡ get_or p (suc i) (pos 0)
    q-at i = get_or-set_other p 0 (suc i) (pos 0) (pos 0) (λ e. omega arith)

    module _ (s : Row) (ss : Shape (8 + k) s) where
      abbrev a : ℤ
      a = T.entry s j

      abbrev o : List ℤ
      o = set (layout k s) (c + 2) (pos 0)

      o-length : length o ≡ 18
      o-length = length-set (layout k s) (c + 2) (pos 0) ∙ lay-length k kin s.den s.nums

      o-other : (i : ℕ) → i < 18 → (i ≡ c + 2 → ⊥) → get_or o i (pos 0) ≡ number_at k s.den s.nums i
      o-other i h n = get_or-set_other (layout k s) (c + 2) i (pos 0) (pos 0) n ∙ lay_at k kin s.den s.nums i h

      o-column : get_or o (c + 2) (pos 0) ≡ pos 0
      o-column = let h = cin in get_or-set_same (layout k s) (c + 2) (pos 0) (pos 0) (subst (λ n. c + 2 < n) (sym (lay-length k kin s.den s.nums)) (omega arith))

      abbrev new_nums : List ℤ
      new_nums = set (combine P a s.nums r.nums) (suc j) (a *ℤ r.den)

      same-long : length s.nums ≡ length r.nums
      same-long = ss.long ∙ sym sh.long

      new-long : length new_nums ≡ suc (8 + k)
      new-long = length-set (combine P a s.nums r.nums) (suc j) (a *ℤ r.den) ∙ length-combine P a s.nums r.nums same-long ∙ ss.long

      new-column : number_at k (P *ℤ s.den) new_nums (c + 2) ≡ a *ℤ r.den
      new-column =
          number-set k kin (P *ℤ s.den) (combine P a s.nums r.nums) j (a *ℤ r.den) (subst (λ n. suc j < n) (sym (length-combine P a s.nums r.nums same-long ∙ ss.long)) (suc-le-suc jin))

      new-other : (i : ℕ) → (suc i ≡ c + 2 → ⊥) → number_at k (P *ℤ s.den) new_nums (suc i) ≡ P *ℤ number_at k s.den s.nums (suc i) -ℤ a *ℤ number_at k r.den r.nums (suc i)
      new-other i n =
          let D : ℤ = P *ℤ s.den in
          number-other k kin D (combine P a s.nums r.nums) j (a *ℤ r.den) (suc i) n
          ∙ number-combine k kin D P a s.nums r.nums i same-long
          ∙ ap₂ (λ x y. P *ℤ x -ℤ a *ℤ y) (number-den k kin D s.den s.nums i) (number-den k kin D r.den r.nums i)

      abbrev combined : List ℤ
      combined = combine_rows (den p) (pos 0 -ℤ a) o q

      combined-at : (i : ℕ) → get_or combined i (pos 0) ≡ get_or o i (pos 0) *ℤ den p -ℤ (pos 0 -ℤ a) *ℤ get_or q i (pos 0)
      combined-at i = combine-at (den p) (pos 0 -ℤ a) o q i (o-length ∙ sym q-length)

      abbrev f : ℤ
      f = p-terms.factor

      fm : f *ℤ den p ≡ P
      fm = p-times 0 (omega arith) ∙ number-zero k kin P solved_nums

      at-0 : f *ℤ get_or combined 0 (pos 0) ≡ P *ℤ s.den
      at-0 =
          ap (λ z. f *ℤ z) (combined-at 0 ∙ ap₂ (λ x y. x *ℤ den p -ℤ (pos 0 -ℤ a) *ℤ y) (o-other 0 (omega arith) (λ e. omega arith) ∙ number-zero k kin s.den s.nums) q-den)
          ∙ ring (f ∷ s.den ∷ den p ∷ a ∷ []) {b = f *ℤ den p *ℤ s.den} (search quote depth 30) tt
          ∙ ap (λ x. x *ℤ s.den) fm

      at_c : f *ℤ get_or combined (c + 2) (pos 0) ≡ a *ℤ r.den
      at_c =
          let h = cin in
          let x : ℤ = get_or p (c + 2) (pos 0) in
          let e : get_or q (c + 2) (pos 0) ≡ x = ap (λ n. get_or q n (pos 0)) (add-two c) ∙ q-at (suc c) ∙ ap (λ n. get_or p n (pos 0)) (sym (add-two c)) in
          ap (λ z. f *ℤ z) (combined-at (c + 2) ∙ ap₂ (λ x y. x *ℤ den p -ℤ (pos 0 -ℤ a) *ℤ y) o-column e)
          ∙ ring (f ∷ den p ∷ a ∷ x ∷ []) {b = a *ℤ (f *ℤ x)} (search quote depth 30) tt
          ∙ ap (λ x. a *ℤ x) (p-times (c + 2) (omega arith) ∙ solved-column)

      at_i : (i : ℕ) → (suc i ≡ c + 2 → ⊥) → suc i < 18 → f *ℤ get_or combined (suc i) (pos 0) ≡ P *ℤ number_at k s.den s.nums (suc i) -ℤ a *ℤ number_at k r.den r.nums (suc i)
      at_i i n h =
          let x : ℤ = get_or p (suc i) (pos 0) in
          let S : ℤ = number_at k s.den s.nums (suc i) in
          let R : ℤ = number_at k r.den r.nums (suc i) in
          ap (λ z. f *ℤ z) (combined-at (suc i) ∙ ap₂ (λ x y. x *ℤ den p -ℤ (pos 0 -ℤ a) *ℤ y) (o-other (suc i) h n) (q-at i))
          ∙ ring (f ∷ S ∷ den p ∷ a ∷ x ∷ []) {b = f *ℤ den p *ℤ S +ℤ a *ℤ (f *ℤ x)} (search quote depth 30) tt
          ∙ ap₂ (λ y z. y *ℤ S +ℤ a *ℤ z) fm (p-times (suc i) h ∙ solved-other i n)
          ∙ ring (P ∷ S ∷ a ∷ R ∷ []) (search quote depth 30) tt

      scaled : scale f combined ≡ lay k kin (P *ℤ s.den) new_nums
      scaled =
          lay-is k kin (scale f combined) (P *ℤ s.den) new_nums (length-map combined (λ x. f *ℤ x) ∙ combine-length (den p) (pos 0 -ℤ a) o q (o-length ∙ sym q-length) ∙ o-length)
          (λ i h. map-zero (λ x. f *ℤ x) combined i (*ℤ-zero f)
          ∙ by_place (λ i. i < 18 → f *ℤ get_or combined i (pos 0) ≡ number_at k (P *ℤ s.den) new_nums i) c
          (λ h. at-0 ∙ sym (number-zero k kin (P *ℤ s.den) new_nums))
          (λ h. at_c ∙ sym new-column)
          (λ i n h. at_i i n h ∙ sym (new-other i n))
          i h)

      combined-over : pos 0 <ℤ den combined
      combined-over =
          subst (λ z. pos 0 <ℤ z)
          (sym (combined-at 0 ∙ ap₂ (λ x y. x *ℤ den p -ℤ (pos 0 -ℤ a) *ℤ y) (o-other 0 (omega arith) (λ e. omega arith) ∙ number-zero k kin s.den s.nums) q-den ∙ ring (s.den ∷ den p ∷ a ∷ []) {b = s.den *ℤ den p} (search quote depth 30) tt))
          (mul-pos-pos ss.positive p-terms.over)

      new-den : P *ℤ s.den ≡ pos 0 → ⊥
      new-den e = ⊎_elim pivot (λ z. <ℤ_irrefl (subst (λ y. pos 0 <ℤ y) z ss.positive)) (mul-zero e)

      pub rebuild-shows : rebuild_row c (den p) q (layout k s) ≡ layout k (replaced r j s)
      unfolding rebuild_row replace_row
      rebuild-shows =
          ap (λ z. cond (is_zero z) (layout k s) (reduce_row (combine_rows (den p) (pos 0 -ℤ z) o q))) (lay-entry k kin s.den s.nums j jin)
          ∙ at (is_zero a)
        where
          at : (b : Bool) → cond b (layout k s) (reduce_row combined) ≡ layout k (cond b s (reduced (record { var = s.var; den = P *ℤ s.den; nums = new_nums })))
          at true = refl
          at false = reduce-shows f combined s.var (P *ℤ s.den) new_nums p-terms.nonzero combined-over new-den new-long scaled

  -- ---- the number test of a row

  module _ (m : ℕ) where
    abbrev within-bound : ℤ → Bool
    within-bound z = leb (nat_abs z) m

    small-shows : (r : Row) → Shape (8 + k) r → small_at m (layout k r) ≡ all within-bound (r.den ∷ r.nums)
    unfolding small_at
    small-shows r sh =
        same (small_at m (layout k r)) (all within-bound (r.den ∷ r.nums))
        (λ e. all_of (r.den ∷ r.nums)
        (stands (λ z. within-bound z ≡ true) r.den r.nums sh.long
        (λ i h. le-leb _ _ (subst (λ z. nat_abs z ≤ m) (lay_at k kin r.den r.nums i h) (small-within (layout k r) e i).size))))
        (λ e. small_of (layout k r)
        (λ i. by_length i (number_of (λ z. within-bound z ≡ true) r.den r.nums (all-at (r.den ∷ r.nums) e))))
      where
        same : (a b : Bool) → (a ≡ true → b ≡ true) → (b ≡ true → a ≡ true) → a ≡ b
        same true b f g = sym (f refl)
        same false true f g = g refl
        same false false f g = refl

        all_of : (xs : List ℤ) → ((i : ℕ) → i < length xs → within-bound (get_or xs i (pos 0)) ≡ true) → all within-bound xs ≡ true
        all_of [] h = refl
        all_of (x ∷ xs) h = ap₂ ◌&&◌ (h 0 (suc-le-suc zero-le)) (all_of xs (λ i l. h (suc i) (suc-le-suc l)))

        all-at : (xs : List ℤ) → all within-bound xs ≡ true → (i : ℕ) → within-bound (get_or xs i (pos 0)) ≡ true
        all-at [] e i = le-leb 0 m zero-le
        all-at (x ∷ xs) e zero = from-T (within-bound x) (and_left (within-bound x) (all within-bound xs) (to-T _ e))
        all-at (x ∷ xs) e (suc i) = all-at xs (from-T (all within-bound xs) (and_right (within-bound x) (all within-bound xs) (to-T _ e))) i

        small_of : (l : List ℤ) → ((i : ℕ) → i < length l → within-bound (get_or l i (pos 0)) ≡ true) → small_at m l ≡ true
        small_of [] h = refl
        small_of (x ∷ l) h = ap₂ (λ a b. cond a b false) (h 0 (suc-le-suc zero-le)) (small_of l (λ i b. h (suc i) (suc-le-suc b)))

        by_length : (i : ℕ) → ((i : ℕ) → within-bound (number_at k r.den r.nums i) ≡ true) → i < length (layout k r) → within-bound (get_or (layout k r) i (pos 0)) ≡ true
        by_length i h l = ap within-bound (lay_at k kin r.den r.nums i (subst (λ n. i < n) (lay-length k kin r.den r.nums) l)) ∙ h i

    pub narrow-shows : (r : Row) (j : ℕ) → j < 8 + k → Shape (8 + k) r → narrow_row_at m (column_of k j) (layout k r) ≡ (is_zero (T.entry r j) || all within-bound (r.den ∷ r.nums))
    narrow-shows r j jin sh =
        ap₂ (λ z b. cond (is_zero z) true b) (lay-entry k kin r.den r.nums j jin) (small-shows r sh) ∙ either (is_zero (T.entry r j)) (all within-bound (r.den ∷ r.nums))
      where
        either : (a b : Bool) → cond a true b ≡ (a || b)
        either true b = refl
        either false b = refl
