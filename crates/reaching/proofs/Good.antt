-- What holds of every state that is reached in these calls, and so what a slot that shows it holds: the table that simplex runs. Assumes nothing.
use mathlib.Core.Path.{◌≡◌, refl, sym, ap, ap₂, ◌∙◌, subst}
use mathlib.Core.Bool.{Bool, true, ◌&&◌, ◌||◌}
use mathlib.Core.List.{List, [], ◌∷◌, map}
use Prim.Native.Nat.{ℕ, zero, suc, ◌+◌, ◌-◌, ◌*◌, ◌^◌, ◌≤◌, ◌<◌}
use native.Mathlib.Nat.{zero-lt-suc}
use native.Mathlib.Omega.{arith}
use borrow.Author.Tests.{eq-eqb, lt-ltb, le-leb}
use lib.Dec.{T, leb, ltb, eqb, leb→le, lit<}
use lib.IntN.{ℤ, pos, nat_abs}
use lib.Signed.{lt_z}
use lib.ListN.{length, get_or, take, drop, length-drop}
use lib.Seq.{length-take-le, get_or-take, get_or-drop, take-take}
use Rattle.integers.specs.Z.{Within}
use Rattle.model.specs.Lists.{all, All}
use Rattle.model.specs.Sets.{is_zero}
use Rattle.model.proofs.Count.{and-make, to-T, from-T}
use Rattle.codec.specs.Bytes.{axes_fit}
use Rattle.feasibility.specs.Tableau.{Verdict, point, dropped, wide, long, Row, Tableau}
use Rattle.feasibility.proofs.Exchange.{Shape, Shaped}
use Rattle.feasibility.proofs.Verdicts.{row_var, col_var}
use Rattle.optimum.proofs.Ranges.{RowWithin, number-at}
use Rattle.planning.specs.State.{State}
use Rattle.planning.proofs.Places as P
use Rattle.planning.proofs.Proper.{Proper}
use Rattle.planning.proofs.Ranges.{StateWithin, two}
use Rattle.tableau.specs.Rows.{den}
use Rattle.wide.specs.Wide.{cell, high_of, low_of}
use Rattle.wide.proofs.Sizes.{cell-back}
use Rattle.wide_tableau.specs.Cells.{cells, words, rows_of}
use Rattle.simplex.specs.Table.{column_of, number_at, layout}
use Rattle.simplex.proofs.Columns.{column-in, lay_at, lay-length}
use Rattle.simplex.proofs.Shows as S
use Rattle.simplex.proofs.Filled.{layout-whole}
use Rattle.memory.specs.Memory.{Memory, head_at, Fits}
use Rattle.memory.specs.Sound.{plain_cell, plain_words, sound_row, sound_place, is_word, sound_head, sound_table, sound}
use Rattle.reaching.specs.Shows.{Slot, slot_of, word_for, row_words, ShowsState}
use Rattle.reaching.proofs.Windows.{window-at}

pub record Good (s : State) : Type 0 where
  pub axes : T (axes_fit s.axes)
  pub few : s.divisions ≤ 8
  pub rules : s.rules ≤ 48
  pub rows : length s.tableau.rows ≤ 2 * s.divisions + s.rules
  pub proper : Proper s
  pub within : StateWithin 128 two s

-- ---- numbers of 127 bits and a sign, and their words

abbrev InReach : ℤ → Type 0
InReach z = nat_abs z < 2 ^ 127

in_reach : (z : ℤ) → Within (2 ^ 127 - 1) z → InReach z
in_reach z h = by (2 ^ 127) (nat_abs z) (leb→le 1 (2 ^ 127) tt) h.size
  where
    by : (c x : ℕ) → 1 ≤ c → x ≤ c - 1 → x < c
    by c x p q = omega arith

cell-is : (z : ℤ) → InReach z → cell (high_of z) (low_of z) ≡ z
cell-is z b = cell-back 9223372036854775808 18446744073709551616 (lit< tt) z b

abbrev EachIn : List ℤ → Type 0
EachIn l = (i : ℕ) → i < length l → InReach (get_or l i (pos 0))

cells-words : (l : List ℤ) → EachIn l → cells (words l) ≡ l
unfolding cells words
cells-words [] h = refl
cells-words (z ∷ l) h = ap₂ ◌∷◌ (cell-is z (h 0 (zero-lt-suc (length l)))) (cells-words l (λ i b. h (suc i) (omega arith)))

plain-is : (l : List ℤ) → EachIn l → T (plain_words (words l))
unfolding plain_words plain_cell words
plain-is [] h = tt
plain-is (z ∷ l) h =
    let e = cell-is z (h 0 (zero-lt-suc (length l))) in
    let a = eqb (high_of (cell (high_of z) (low_of z))) (high_of z) in
    let b = eqb (low_of (cell (high_of z) (low_of z))) (low_of z) in
    and-make (a && b) (plain_words (words l)) (and-make a b (to-T a (eq-eqb _ _ (ap high_of e))) (to-T b (eq-eqb _ _ (ap low_of e)))) (plain-is l (λ i b. h (suc i) (omega arith)))

words_long : (l : List ℤ) → length (words l) ≡ length l + length l
unfolding words
words_long [] = refl
words_long (z ∷ l) = let e = words_long l in omega arith

all_of : {A : Type 0} (f : A → Bool) (d : A) (l : List A) → ((i : ℕ) → i < length l → T (f (get_or l i d))) → T (all f l)
all_of f d [] h = tt
all_of f d (a ∷ l) h = and-make (f a) (all f l) (h 0 (zero-lt-suc (length l))) (all_of f d l (λ i b. h (suc i) (omega arith)))

-- ---- a row of a tableau

module _ (k : ℕ) (few : k ≤ 8) where
  number_in : (d : ℤ) (ns : List ℤ) → Within (2 ^ 127 - 1) d → All (Within (2 ^ 127 - 1)) ns → (i : ℕ) → Within (2 ^ 127 - 1) (number_at k d ns i)
  unfolding number_at
  number_in d ns h hs zero = h
  number_in d ns h hs (suc zero) = number-at (2 ^ 127 - 1) ns 0 hs
  number_in d ns h hs (suc (suc c)) = number-at (2 ^ 127 - 1) ns (suc (Rattle.simplex.specs.Table.standing k c)) hs

  module _ (r : Row) (w : RowWithin (2 ^ 127 - 1) r) where
    row_in : EachIn (layout k r)
    row_in i h =
        let b : i < 18 = subst (λ n. i < n) (lay-length k few r.den r.nums) h in
        in_reach (get_or (layout k r) i (pos 0)) (subst (Within (2 ^ 127 - 1)) (sym (lay_at k few r.den r.nums i b)) (number_in r.den r.nums w.0 w.1 i))

    row-cells : cells (row_words k r) ≡ layout k r
    row-cells = cells-words (layout k r) row_in

    row-long : length (row_words k r) ≡ 36
    row-long = let e = words_long (layout k r) in let q = lay-length k few r.den r.nums in omega arith

    row-sound : Shape (8 + k) r → T (sound_row (k + 10) (row_words k r))
    unfolding sound_row
    row-sound sh =
        let h = layout-whole k few r sh in
        let c = cells (row_words k r) in
        let e = row-cells in
        let n = k + 10 in
        and-make (eqb (length (row_words k r)) 36) (plain_words (row_words k r) && (all is_zero (drop n c) && lt_z (pos 0) (den c))) (to-T _ (eq-eqb _ _ row-long))
        (and-make (plain_words (row_words k r)) (all is_zero (drop n c) && lt_z (pos 0) (den c)) (plain-is (layout k r) row_in)
        (and-make (all is_zero (drop n c)) (lt_z (pos 0) (den c))
        (all_of is_zero (pos 0) (drop n c) (λ i b. subst (λ z. T (is_zero z)) (sym (get_or-drop n c i (pos 0) ∙ ap (λ l. get_or l (n + i) (pos 0)) e ∙ h.line.blank (n + i) (omega arith))) tt))
        (subst (λ l. T (lt_z (pos 0) (den l))) (sym e) h.over.lt)))

  rows-cells : (rs : List Row) → All (RowWithin (2 ^ 127 - 1)) rs → rows_of (map (row_words k) rs) ≡ map (layout k) rs
  rows-cells [] w = refl
  rows-cells (r ∷ rs) w = ap₂ ◌∷◌ (row-cells r w.0) (rows-cells rs w.1)

  rows-sound : (rs : List Row) → All (RowWithin (2 ^ 127 - 1)) rs → Shaped (8 + k) rs → T (all (sound_row (k + 10)) (map (row_words k) rs))
  rows-sound [] w sh = tt
  rows-sound (r ∷ rs) w sh = and-make (sound_row (k + 10) (row_words k r)) (all (sound_row (k + 10)) (map (row_words k) rs)) (row-sound r w.0 sh.0) (rows-sound rs w.1 sh.1)

-- the words of rows, laid out
pub words-rows : (k : ℕ) (rs : List Row) → map words (map (layout k) rs) ≡ map (row_words k) rs
words-rows k [] = refl
words-rows k (r ∷ rs) = ap (λ l. row_words k r ∷ l) (words-rows k rs)

-- ---- a state

module _ (s : State) (g : Good s) where
  abbrev pub t : Tableau
  t = s.tableau

  abbrev pub k : ℕ
  k = s.divisions

  abbrev pub m : ℕ
  m = length s.tableau.rows

  pub rows_few : m ≤ 64
  rows_few = let a = g.rows in let b = g.rules in let c = g.few in omega arith

  pub names-are : length s.kinds ≡ 8 + k + m
  names-are = sym g.proper.many

  shaped : Shaped (8 + k) t.rows
  shaped = subst (λ n. Shaped n t.rows) g.proper.square g.proper.sound.shaped

  pub rows_are : rows_of (map (row_words k) t.rows) ≡ map (layout k) t.rows
  rows_are = rows-cells k g.few t.rows g.within

  module _ (x : Slot) (h : ShowsState s x) (room : length x.place ≡ 80) where
    abbrev pub places : List ℕ
    places = take (8 + k + m) x.place

    pub places-long : length places ≡ 8 + k + m
    places-long = let a = rows_few in let b = g.few in length-take-le (8 + k + m) x.place (omega arith)

    place_at : (v : ℕ) → v < length s.kinds → (v < length places) × (get_or places v 0 ≡ get_or x.place v 0)
    place_at v b = let n = names-are in let l = places-long in (omega arith, get_or-take (8 + k + m) x.place v 0 (omega arith))

    named : (v : ℕ) → P.Present t v → S.Named t v
    named v (P.in-column j b e) = S.in-col j b e
    named v (P.in-row i b e) = S.in-row i b e

    -- the table that simplex runs
    pub table-shows : S.Shows k (map (layout k) t.rows) places t
    table-shows =
        let n = names-are in
        let l = places-long in
        record {
          few = g.few;
          count = rows_few;
          width = g.proper.square;
          shaped = g.proper.sound.shaped;
          rows_are = refl;
          rows_at = λ i b. let p = place_at (row_var t i) (g.proper.numbered.rows_below i b) in (p.0, p.1 ∙ h.row_places i b);
          cols_at = λ j b. let p = place_at (col_var t j) (g.proper.numbered.cols_below j b) in (p.0, p.1 ∙ h.column_places j b);
          whose = λ v b. named v (g.proper.present v (omega arith));
        }

    place-sound : (v : ℕ) → S.Named t v → T (sound_place k m (get_or places v 0))
    place-sound v (S.in-row i b e) = subst (λ p. T (sound_place k m p)) (sym (ap (λ u. get_or places u 0) (sym e) ∙ (table-shows.rows_at i b).1)) (or_left (ltb i m) (leb 64 i && ltb i (72 + k)) (to-T _ (lt-ltb i m b)))
      where
        or_left : (a b : Bool) → T a → T (a || b)
        or_left true b t = tt
        or_left Bool.false b t = absurd t
    place-sound v (S.in-col j b e) =
        let c = column-in k j (subst (λ n. j < n) g.proper.square b) in
        let p = 64 + column_of k j in
        subst (λ p. T (sound_place k m p)) (sym (ap (λ u. get_or places u 0) (sym e) ∙ (table-shows.cols_at j b).1))
        (or_right (ltb p m) (leb 64 p && ltb p (72 + k)) (and-make (leb 64 p) (ltb p (72 + k)) (to-T _ (le-leb 64 p (omega arith))) (to-T _ (lt-ltb p (72 + k) (omega arith)))))
      where
        or_right : (a b : Bool) → T b → T (a || b)
        or_right true b t = tt
        or_right Bool.false b t = t

-- ---- a state in slot 0 of a memory

pub head_at_lem : (s : State) (i : ℕ) (y : Memory) → ShowsState s (slot_of i y) → (j : ℕ) → j < 5 → head_at i j y ≡ get_or (s.axes ∷ s.divisions ∷ s.rules ∷ length s.tableau.rows ∷ word_for s.says ∷ []) j 0
head_at_lem s i y h j b = sym (window-at 0 5 (5 * i) y.heads j b) ∙ ap (λ l. get_or l j 0) h.head

pub word-is : (v : Verdict) → T (is_word (word_for v))
word-is point = tt
word-is dropped = tt
word-is wide = tt
word-is long = tt

five : {n n' k k' r r' m m' w w' : ℕ} (y : Memory) → n ≡ n' → k ≡ k' → r ≡ r' → m ≡ m' → w ≡ w'
    → (sound_head n k r m w && sound_table k m y) ≡ (sound_head n' k' r' m' w' && sound_table k' m' y)
five y a b c d e = cc

module _ (s : State) (g : Good s) (y : Memory) (f : Fits y) (h : ShowsState s (slot_of 0 y)) where
  pub place_room : length (slot_of 0 y).place ≡ 80
  place_room = let p = f.place in length-take-le 80 (drop (80 * 0) y.place) (let q = length-drop (80 * 0) y.place in omega arith)

  pub rows_taken : take (m s g) y.rows ≡ map (row_words (k s g)) s.tableau.rows
  rows_taken = sym (take-take (m s g) 64 y.rows (rows_few s g)) ∙ h.rows

  pub place-taken : take (8 + k s g + m s g) y.place ≡ places s g (slot_of 0 y) h place_room
  place-taken = let a = rows_few s g in let b = g.few in sym (take-take (8 + k s g + m s g) 80 y.place (omega arith))

  pub sound-here : sound y ≡ true
  unfolding sound
  sound-here =
      five y (head_at_lem s 0 y h 0 (omega arith)) (head_at_lem s 0 y h 1 (omega arith)) (head_at_lem s 0 y h 2 (omega arith)) (head_at_lem s 0 y h 3 (omega arith)) (head_at_lem s 0 y h 4 (omega arith))
      ∙ from-T _ (and-make (sound_head s.axes (k s g) s.rules (m s g) (word_for s.says)) (sound_table (k s g) (m s g) y) heads tables)
    where
      heads : T (sound_head s.axes (k s g) s.rules (m s g) (word_for s.says))
      heads =
          let c = leb (k s g) 8 in
          let r = leb s.rules 48 in
          let l = leb (m s g) (2 * k s g + s.rules) in
          let w = is_word (word_for s.says) in
          and-make (axes_fit s.axes) (c && (r && (l && w))) g.axes
          (and-make c (r && (l && w)) (to-T _ (le-leb _ _ g.few)) (and-make r (l && w) (to-T _ (le-leb _ _ g.rules)) (and-make l w (to-T _ (le-leb _ _ g.rows)) (word-is s.says))))

      tables : T (sound_table (k s g) (m s g) y)
      tables =
          and-make (all (sound_row (k s g + 10)) (take (m s g) y.rows)) (all (sound_place (k s g) (m s g)) (take (8 + k s g + m s g) y.place))
          (subst (λ l. T (all (sound_row (k s g + 10)) l)) (sym rows_taken) (rows-sound (k s g) g.few s.tableau.rows g.within (shaped s g)))
          (subst (λ l. T (all (sound_place (k s g) (m s g)) l)) (sym place-taken)
          (all_of (sound_place (k s g) (m s g)) 0 (places s g (slot_of 0 y) h place_room)
          (λ v b. place-sound s g (slot_of 0 y) h place_room v ((table-shows s g (slot_of 0 y) h place_room).whose v b))))
