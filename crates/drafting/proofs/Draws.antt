-- Over a table that shows a tableau, a sketch draws planning's draft: its row laid out, and its waiting numbers from number 2 on. Assumes nothing.
use mathlib.Core.Path.{◌≡◌, refl, sym, ap, ap₂, ◌∙◌, subst}
use mathlib.Core.Bool.{Bool, true, false, ◌&&◌, cond}
use mathlib.Core.List.{List, [], ◌∷◌, ◌++◌, map, append-nil}
use mathlib.Core.Logic.{⊎_elim}
use Prim.Native.Nat.{ℕ, zero, suc, ◌+◌, ◌-◌, ◌≤◌, ◌<◌, ◌∣◌, zero-le}
use native.Mathlib.Nat.{dvd_antisymm, dvd_trans, dvd-zero, le_of_dvd, pos_of_dvd_of_pos, zero-div}
use native.Mathlib.Numerals.{add-two}
use native.Mathlib.Omega.{arith}
use borrow.Author.Tests.{le-leb}
use lib.Dec.{leb}
use lib.ListN.{length, get_or, set, length-set, length-map, get_or-append}
use lib.Seq.{get_or-set_other, get_or-append-add}
use lib.IntN.{ℤ, pos, neg_ℤ, nat_abs, ◌-ℤ◌, ◌*ℤ◌, *ℤ-zero, *ℤ_comm}
use lib.Signed.{quot_z, ◌<ℤ◌}
use Rattle.integers.specs.Ring.{ring, quote}
use Rattle.integers.specs.Part.{lt-or-le}
use Rattle.integers.specs.Order.{mul-pos-pos, mul-cancel}
use Rattle.integers.specs.Gcd.{gcd-is, gcd_all-divides, gcd_all-most}
use Rattle.model.specs.Sets.{floor_div}
use Rattle.model.proofs.Count.{and-true, and_assoc}
use Rattle.model.proofs.Lists.{map-set}
use Rattle.feasibility.specs.Tableau.{Row, common_divisor, combine}
use Rattle.feasibility.proofs.Rows.{length-combine}
use Rattle.feasibility.proofs.Reduce.{evenly, exactly, common-divides, common-most}
use Rattle.feasibility.proofs.Exchange.{Shape}
use Rattle.termination.proofs.Columns.{same_or_not}
use Rattle.tableau.specs.Rows.{den, divisor, divide_row, combine_rows, small_at}
use Rattle.tableau.proofs.Lines as L
use Rattle.tableau.proofs.Searches.{small-within}
use Rattle.simplex.specs.Table.{number_at, column_of, standing, layout}
use Rattle.simplex.proofs.Canonical.{divisor_is, divides-at, divides-of}
use Rattle.simplex.proofs.Columns.{lay, lay_at, lay-length, lay-is, column-in, number-entry, number-map, number-combine, number-den, number-zero}
use Rattle.simplex.proofs.Fills.{past_end}
use Rattle.planning.specs.Draft as P
use Rattle.planning.specs.Draft.{Draft}
use Rattle.drafting.specs.Sketch.{Sketch, put_in, divisor_of, divided_by, lowest_terms, substituted, both_small}
use Rattle.drafting.proofs.Sketches.{times-at, divided-at, quot-over}
use Rattle.drafting.proofs.Making.{both_true}

-- a draft's waiting numbers as they stand in a sketch
abbrev pub waiting_in : List ℤ → List ℤ
waiting_in ws = pos 0 ∷ (pos 0 ∷ ws)

abbrev pub row_of : Draft → Row
row_of d = record { var = 0; den = d.den; nums = d.nums }

pub record Draws (k : ℕ) (s : Sketch) (d : Draft) : Type 0 where
  pub row_is : s.row ≡ layout k (row_of d)
  pub waits : (i : ℕ) → get_or s.waiting i (pos 0) ≡ get_or (waiting_in d.waiting) i (pos 0)
  pub wide : length s.waiting ≡ 18
  pub long : length d.nums ≡ suc (8 + k)
  pub free : length d.waiting ≡ 8 + k
  pub over : pos 0 <ℤ d.den

-- two lists with the same numbers, one of them cleared
cleared-same : (a b : List ℤ) → ((i : ℕ) → get_or a i (pos 0) ≡ get_or b i (pos 0)) → (n i : ℕ) → get_or (set a n (pos 0)) i (pos 0) ≡ get_or (set b n (pos 0)) i (pos 0)
cleared-same a b h n i =
    ⊎_elim
    (λ e. ap (λ j. get_or (set a n (pos 0)) j (pos 0)) e ∙ L.cleared_at a n ∙ sym (ap (λ j. get_or (set b n (pos 0)) j (pos 0)) e ∙ L.cleared_at b n))
    (λ e. get_or-set_other a n i (pos 0) (pos 0) e ∙ h i ∙ sym (get_or-set_other b n i (pos 0) (pos 0) e))
    (same_or_not i n)

module _ (k : ℕ) (few : k ≤ 8) where
  -- ---- the numbers of a draft, and those of its sketch

  module _ (l w : List ℤ) (d : ℤ) (ns ws : List ℤ) (row_is : l ≡ lay k few d ns) (waits : (i : ℕ) → get_or w i (pos 0) ≡ get_or (waiting_in ws) i (pos 0)) (long : length ns ≡ suc (8 + k)) (Q : ℤ → Type 0) (nil : Q (pos 0)) where
    row_at : (i : ℕ) → i < 18 → get_or l i (pos 0) ≡ number_at k d ns i
    row_at i h = ap (λ l. get_or l i (pos 0)) row_is ∙ lay_at k few d ns i h

    -- each number of the draft stands in the sketch
    to-draft : ((i : ℕ) → Q (get_or l i (pos 0))) → ((i : ℕ) → Q (get_or w i (pos 0))) → (i : ℕ) → Q (get_or (d ∷ (ns ++ ws)) i (pos 0))
    unfolding number_at
    to-draft f g zero = subst Q (row_at 0 (omega arith) ∙ number-zero k few d ns) (f 0)
    to-draft f g (suc i) = ⊎_elim low high (lt-or-le i (length ns))
      where
        num : (i : ℕ) → i < length ns → Q (get_or ns i (pos 0))
        num zero h = subst Q (row_at 1 (omega arith)) (f 1)
        num (suc j) h =
            let c = column-in k j (omega arith) in
            subst Q (row_at (column_of k j + 2) (omega arith) ∙ number-entry k few d ns j) (f (column_of k j + 2))

        low : i < length ns → Q (get_or (ns ++ ws) i (pos 0))
        low h = subst Q (sym (get_or-append ns ws (pos 0) i h)) (num i h)

        high : length ns ≤ i → Q (get_or (ns ++ ws) i (pos 0))
        high h =
            let v = i - length ns in
            let e : i ≡ length ns + v = omega arith in
            subst Q (waits (suc (suc v)) ∙ sym (ap (λ i. get_or (ns ++ ws) i (pos 0)) e ∙ get_or-append-add ns ws v (pos 0))) (g (suc (suc v)))

    module _ (h : (i : ℕ) → Q (get_or (d ∷ (ns ++ ws)) i (pos 0))) where
      of-nums : (i : ℕ) → Q (get_or ns i (pos 0))
      of-nums i = ⊎_elim (λ b. subst Q (get_or-append ns ws (pos 0) i b) (h (suc i))) (λ b. subst Q (sym (past_end ns i b)) nil) (lt-or-le i (length ns))

      of_number : (i : ℕ) → Q (number_at k d ns i)
      unfolding number_at
      of_number zero = h 0
      of_number (suc zero) = of-nums 0
      of_number (suc (suc c)) = of-nums (suc (standing k c))

      -- and there is no other
      of_row : (i : ℕ) → Q (get_or l i (pos 0))
      of_row i =
          ⊎_elim (λ b. subst Q (sym (row_at i b)) (of_number i)) (λ b. subst Q (sym (past_end l i (subst (λ n. n ≤ i) (sym (ap length row_is ∙ lay-length k few d ns)) b))) nil)
          (lt-or-le i 18)

      of-waiting : (i : ℕ) → Q (get_or w i (pos 0))
      of-waiting i = subst Q (sym (waits i)) (at i)
        where
          at : (i : ℕ) → Q (get_or (waiting_in ws) i (pos 0))
          at zero = nil
          at (suc zero) = nil
          at (suc (suc v)) = subst Q (get_or-append-add ns ws v (pos 0)) (h (suc (length ns + v)))

  -- ---- the number test

  module _ (m : ℕ) where
    small_of : (l : List ℤ) → ((i : ℕ) → nat_abs (get_or l i (pos 0)) ≤ m) → small_at m l ≡ true
    unfolding small_at
    small_of [] h = refl
    small_of (x ∷ l) h = ap₂ (λ a b. cond a b false) (le-leb (nat_abs x) m (h 0)) (small_of l (λ i. h (suc i)))

    small_is : (l : List ℤ) → small_at m l ≡ P.numbers_within m l
    unfolding small_at
    small_is [] = refl
    small_is (x ∷ l) = at (leb (nat_abs x) m) (small_is l)
      where
        at : {a b : Bool} (c : Bool) → a ≡ b → cond c a false ≡ (c && b)
        at true e = e
        at false e = refl

    same : (a b : Bool) → (a ≡ true → b ≡ true) → (b ≡ true → a ≡ true) → a ≡ b
    same true b f g = sym (f refl)
    same false true f g = g refl
    same false false f g = refl

    abbrev Q : ℤ → Type 0
    Q z = nat_abs z ≤ m

    numbers-small : (l w : List ℤ) (d : ℤ) (ns ws : List ℤ) → l ≡ lay k few d ns → ((i : ℕ) → get_or w i (pos 0) ≡ get_or (waiting_in ws) i (pos 0)) → length ns ≡ suc (8 + k)
        → (small_at m l && small_at m w) ≡ P.numbers_within m (d ∷ (ns ++ ws))
    numbers-small l w d ns ws e f n =
        same (small_at m l && small_at m w) (small_at m (d ∷ (ns ++ ws)))
        (λ b. let p = both_true (small_at m l) (small_at m w) b in
        small_of (d ∷ (ns ++ ws)) (to-draft l w d ns ws e f n Q zero-le (λ i. (small-within l p.0 i).size) (λ i. (small-within w p.1 i).size)))
        (λ b. let h : (i : ℕ) → Q (get_or (d ∷ (ns ++ ws)) i (pos 0)) = λ i. (small-within (d ∷ (ns ++ ws)) b i).size in
        ap₂ ◌&&◌ (small_of l (of_row l w d ns ws e f n Q zero-le h)) (small_of w (of-waiting l w d ns ws e f n Q zero-le h)))
        ∙ small_is (d ∷ (ns ++ ws))

    row_small : (r : Row) → length r.nums ≡ suc (8 + k) → small_at m (layout k r) ≡ P.numbers_within m (r.den ∷ r.nums)
    row_small r n = sym (and-true (small_at m (layout k r))) ∙ ap (λ b. small_at m (layout k r) && b) (sym (small_of [] (λ i. zero-le))) ∙ numbers-small (layout k r) [] r.den r.nums [] refl nothing n ∙ ap (λ l. P.numbers_within m (r.den ∷ l)) (append-nil r.nums)
      where
        nothing : (i : ℕ) → get_or [] i (pos 0) ≡ get_or (waiting_in []) i (pos 0)
        nothing zero = refl
        nothing (suc zero) = refl
        nothing (suc (suc v)) = refl

    pub both-shows : (s : Sketch) (d : Draft) (r : Row) → Draws k s d → length r.nums ≡ suc (8 + k) → both_small m s (layout k r) ≡ P.both_within m d r
    both-shows s d r h n =
        sym (and_assoc (small_at m s.row) (small_at m s.waiting) (small_at m (layout k r)))
        ∙ ap₂ ◌&&◌ (numbers-small s.row s.waiting d.den d.nums d.waiting h.row_is h.waits h.long) (row_small r n)

  -- ---- the common divisor

  list-divides : (l : List ℤ) (i : ℕ) → divisor l ∣ nat_abs (get_or l i (pos 0))
  list-divides l i = subst (λ g. g ∣ nat_abs (get_or l i (pos 0))) (sym (divisor_is l)) (divides-at _ l i (gcd_all-divides l))

  divides-list : (g : ℕ) (l : List ℤ) → ((i : ℕ) → g ∣ nat_abs (get_or l i (pos 0))) → g ∣ divisor l
  divides-list g l h = subst (λ n. g ∣ n) (sym (divisor_is l)) (gcd_all-most g l (divides-of g l (λ i b. h i)))

  module _ (s : Sketch) (d : Draft) (h : Draws k s d) where
    abbrev G : ℕ
    G = common_divisor (P.numbers_of d)

    G-divides : (i : ℕ) → G ∣ nat_abs (get_or (P.numbers_of d) i (pos 0))
    G-divides i = divides-at G (P.numbers_of d) i (common-divides (P.numbers_of d))

    row-even : (i : ℕ) → G ∣ nat_abs (get_or s.row i (pos 0))
    row-even = of_row s.row s.waiting d.den d.nums d.waiting h.row_is h.waits h.long (λ z. G ∣ nat_abs z) (dvd-zero G) G-divides

    waiting-even : (i : ℕ) → G ∣ nat_abs (get_or s.waiting i (pos 0))
    waiting-even = of-waiting s.row s.waiting d.den d.nums d.waiting h.row_is h.waits h.long (λ z. G ∣ nat_abs z) (dvd-zero G) G-divides

    divisor-shows : divisor_of s ≡ G
    divisor-shows =
        let g = gcd-is (divisor s.row) (divisor s.waiting) in
        dvd_antisymm
        (common-most (divisor_of s) (P.numbers_of d)
        (divides-of (divisor_of s) (P.numbers_of d)
        (λ i b. to-draft s.row s.waiting d.den d.nums d.waiting h.row_is h.waits h.long (λ z. divisor_of s ∣ nat_abs z) (dvd-zero (divisor_of s))
        (λ i. dvd_trans _ g.left (list-divides s.row i)) (λ i. dvd_trans _ g.right (list-divides s.waiting i)) i)))
        (g.most G (divides-list G s.row row-even) (divides-list G s.waiting waiting-even))

    G-over : 0 < G
    G-over = pos_of_dvd_of_pos (common-divides (P.numbers_of d)).0 (L.pos_nat_abs d.den h.over)

    quot-floor : (z : ℤ) → G ∣ nat_abs z → quot_z z (pos G) ≡ floor_div z G
    quot-floor z e = mul-cancel (L.positive G G-over) (*ℤ_comm (quot_z z (pos G)) (pos G) ∙ exactly G z e ∙ sym (evenly G z G-over e) ∙ *ℤ_comm (pos G) (floor_div z G))

    floor-none : floor_div (pos 0) G ≡ pos 0
    floor-none = ap pos (zero-div G)

    divided-row : (i : ℕ) → i < 18 → get_or (divide_row s.row G) i (pos 0) ≡ number_at k (floor_div d.den G) (map (λ (z : ℤ). floor_div z G) d.nums) i
    divided-row i b =
        divided-at G G-over s.row i
        ∙ quot-floor (get_or s.row i (pos 0)) (row-even i)
        ∙ ap (λ z. floor_div z G) (ap (λ l. get_or l i (pos 0)) h.row_is ∙ lay_at k few d.den d.nums i b)
        ∙ sym (number-map k few (λ z. floor_div z G) d.den d.nums i floor-none)

    divided-waiting : (i : ℕ) → get_or (divide_row s.waiting G) i (pos 0) ≡ get_or (waiting_in (map (λ (z : ℤ). floor_div z G) d.waiting)) i (pos 0)
    divided-waiting i = divided-at G G-over s.waiting i ∙ quot-floor (get_or s.waiting i (pos 0)) (waiting-even i) ∙ ap (λ z. floor_div z G) (h.waits i) ∙ at i
      where
        at : (i : ℕ) → floor_div (get_or (waiting_in d.waiting) i (pos 0)) G ≡ get_or (waiting_in (map (λ (z : ℤ). floor_div z G) d.waiting)) i (pos 0)
        at zero = floor-none
        at (suc zero) = floor-none
        at (suc (suc v)) = sym (L.map-zero (λ z. floor_div z G) d.waiting v floor-none)

    divide-long : (l : List ℤ) → length (divide_row l G) ≡ length l
    unfolding divide_row
    divide-long l = length-map l (λ x. quot_z x (pos G))

    pub lowest-draws : Draws k (lowest_terms s) (P.lowest_terms d)
    lowest-draws =
        subst (λ g. Draws k (divided_by g s) (P.lowest_terms d)) (sym divisor-shows)
        (record {
          row_is = lay-is k few (divide_row s.row G) (floor_div d.den G) (map (λ (z : ℤ). floor_div z G) d.nums) (divide-long s.row ∙ ap length h.row_is ∙ lay-length k few d.den d.nums) divided-row;
          waits = divided-waiting;
          wide = divide-long s.waiting ∙ h.wide;
          long = length-map d.nums (λ (z : ℤ). floor_div z G) ∙ h.long;
          free = length-map d.waiting (λ (z : ℤ). floor_div z G) ∙ h.free;
          over =
              subst (λ z. pos 0 <ℤ z) (quot-floor d.den (common-divides (P.numbers_of d)).0)
              (quot-over G G-over d.den h.over (le_of_dvd (L.pos_nat_abs d.den h.over) (common-divides (P.numbers_of d)).0));
        })

  -- ---- a variable replaced

  module _ (v : ℕ) (r : Row) (shape : Shape (8 + k) r) (s : Sketch) (d : Draft) (h : Draws k s d) where
    abbrev l : List ℤ
    l = layout k r

    abbrev q : List ℤ
    q = set l 0 (pos 0)

    abbrev b : ℤ
    b = get_or d.waiting v (pos 0)

    abbrev m : ℤ
    m = r.den

    l-long : length l ≡ 18
    l-long = lay-length k few r.den r.nums

    q_long : length q ≡ 18
    q_long = length-set l 0 (pos 0) ∙ l-long

    s-long : length s.row ≡ 18
    s-long = ap length h.row_is ∙ lay-length k few d.den d.nums

    l-den : den l ≡ m
    l-den = lay_at k few r.den r.nums 0 (omega arith) ∙ number-zero k few r.den r.nums

    waiting-b : get_or s.waiting (v + 2) (pos 0) ≡ b
    waiting-b = ap (λ i. get_or s.waiting i (pos 0)) (add-two v) ∙ h.waits (suc (suc v))

    same-long : length d.nums ≡ length r.nums
    same-long = h.long ∙ sym shape.long

    abbrev nums : List ℤ
    nums = combine m (neg_ℤ b) d.nums r.nums

    s-at : (i : ℕ) → i < 18 → get_or s.row i (pos 0) ≡ number_at k d.den d.nums i
    s-at i c = ap (λ l. get_or l i (pos 0)) h.row_is ∙ lay_at k few d.den d.nums i c

    combined-at : (i : ℕ) → i < 18 → get_or (combine_rows m (neg_ℤ b) s.row q) i (pos 0) ≡ number_at k (m *ℤ d.den) nums i
    combined-at i c = L.combine-at m (neg_ℤ b) s.row q i (s-long ∙ sym q_long) ∙ at i c
      where
        at : (i : ℕ) → i < 18 → get_or s.row i (pos 0) *ℤ m -ℤ neg_ℤ b *ℤ get_or q i (pos 0) ≡ number_at k (m *ℤ d.den) nums i
        at zero c =
            ap₂ (λ x y. x *ℤ m -ℤ neg_ℤ b *ℤ y) (s-at 0 c ∙ number-zero k few d.den d.nums) (L.cleared_at l 0)
            ∙ ring (d.den ∷ m ∷ b ∷ []) {b = m *ℤ d.den} (search quote depth 30) tt
            ∙ sym (number-zero k few (m *ℤ d.den) nums)
        at (suc i) c =
            let D = m *ℤ d.den in
            let x = number_at k D d.nums (suc i) in
            let y = number_at k D r.nums (suc i) in
            ap₂ (λ x y. x *ℤ m -ℤ neg_ℤ b *ℤ y)
            (s-at (suc i) c ∙ number-den k few d.den D d.nums i)
            (get_or-set_other l 0 (suc i) (pos 0) (pos 0) (λ e. omega arith) ∙ lay_at k few r.den r.nums (suc i) c ∙ number-den k few r.den D r.nums i)
            ∙ ring (x ∷ y ∷ m ∷ b ∷ []) {b = m *ℤ x -ℤ neg_ℤ b *ℤ y} (search quote depth 30) tt
            ∙ sym (number-combine k few D m (neg_ℤ b) d.nums r.nums i same-long)

    abbrev times : ℤ → ℤ
    times z = m *ℤ z

    waiting-at : (i : ℕ) → get_or (combine_rows m (pos 0) (set s.waiting (v + 2) (pos 0)) q) i (pos 0) ≡ get_or (waiting_in (set (map times d.waiting) v (pos 0))) i (pos 0)
    waiting-at i =
        times-at m (set s.waiting (v + 2) (pos 0)) q i (length-set s.waiting (v + 2) (pos 0) ∙ h.wide ∙ sym q_long)
        ∙ ap (λ z. z *ℤ m) (ap (λ n. get_or (set s.waiting n (pos 0)) i (pos 0)) (add-two v) ∙ cleared-same s.waiting (waiting_in d.waiting) h.waits (suc (suc v)) i)
        ∙ at i
      where
        at : (i : ℕ) → get_or (waiting_in (set d.waiting v (pos 0))) i (pos 0) *ℤ m ≡ get_or (waiting_in (set (map times d.waiting) v (pos 0))) i (pos 0)
        at zero = lib.IntN.zero-*ℤ m
        at (suc zero) = lib.IntN.zero-*ℤ m
        at (suc (suc u)) =
            *ℤ_comm (get_or (set d.waiting v (pos 0)) u (pos 0)) m
            ∙ sym (L.map-zero times (set d.waiting v (pos 0)) u (*ℤ-zero m))
            ∙ ap (λ l. get_or l u (pos 0)) (map-set times d.waiting v (pos 0) ∙ ap (set (map times d.waiting) v) (*ℤ-zero m))

    in-draws' : Draws k (record { row = combine_rows m (neg_ℤ b) s.row q; waiting = combine_rows m (pos 0) (set s.waiting (v + 2) (pos 0)) q }) (P.put_in v r d)
    in-draws' =
        record {
          row_is = lay-is k few (combine_rows m (neg_ℤ b) s.row q) (m *ℤ d.den) nums (L.combine-length m (neg_ℤ b) s.row q (s-long ∙ sym q_long) ∙ s-long) combined-at;
          waits = waiting-at;
          wide = L.combine-length m (pos 0) (set s.waiting (v + 2) (pos 0)) q (length-set s.waiting (v + 2) (pos 0) ∙ h.wide ∙ sym q_long) ∙ length-set s.waiting (v + 2) (pos 0) ∙ h.wide;
          long = length-combine m (neg_ℤ b) d.nums r.nums same-long ∙ h.long;
          free = length-set (map times d.waiting) v (pos 0) ∙ length-map d.waiting times ∙ h.free;
          over = mul-pos-pos shape.positive h.over;
        }

    in-draws : Draws k (put_in v l s) (P.put_in v r d)
    unfolding put_in
    in-draws =
        subst (λ (e : ℤ × ℤ). Draws k (record { row = combine_rows e.0 (neg_ℤ e.1) s.row q; waiting = combine_rows e.0 (pos 0) (set s.waiting (v + 2) (pos 0)) q }) (P.put_in v r d))
        (ap₂ (λ (x y : ℤ). (x, y)) (sym l-den) (sym waiting-b)) in-draws'

    pub substituted-draws : Draws k (substituted v l s) (P.substituted v r d)
    substituted-draws = lowest-draws (put_in v l s) (P.put_in v r d) in-draws
