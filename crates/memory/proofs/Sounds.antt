-- What a sound slot holds. Assumes nothing.
use mathlib.Core.Path.{◌≡◌, refl, sym, ap, ap₂, ◌∙◌, subst}
use mathlib.Core.Bool.{Bool, true, false, ◌&&◌, ◌||◌}
use mathlib.Core.List.{List, [], ◌∷◌}
use Prim.Native.Nat.{ℕ, zero, suc, ◌+◌, ◌-◌, ◌*◌, ◌≤◌, ◌<◌}
use mathlib.Core.Logic.{⊎_elim}
use native.Mathlib.Omega.{arith}
use borrow.Author.Tests.{eqb-true, leb-true, ltb-true, eq-eqb, ne_eqb}
use lib.Dec.{T, leb, ltb, eqb, lit<}
use lib.IntN.{ℤ, pos}
use lib.ListN.{length, drop, get_or, length-drop, drop_of_length-le, get_or-eq_default}
use lib.Seq.{drop-cons, get_or-drop}
use lib.Signed.{lt_z, ◌<ℤ◌}
use Rattle.std.specs.List.{list_all, range_with_len}
use Rattle.wide.proofs.Sizes.{cell-low-word, cell-high-word, cell-minus-zero}
use Rattle.integers.specs.Part.{lt-or-le}
use Rattle.model.specs.Lists.{all}
use Rattle.model.specs.Sets.{is_zero}
use Rattle.model.proofs.Count.{and_left, and_right, all-at, to-T, from-T}
use Rattle.model.proofs.Values.{is_zero→}
use Rattle.codec.specs.Bytes.{axes_fit}
use Rattle.wide.specs.Wide.{cell, high_of, low_of}
use Rattle.tableau.specs.Rows.{den, Line}
use Rattle.wide_tableau.specs.Cells.{cells, words, rows_of, Sheet}
use Rattle.wide_tableau.proofs.Sheets.{sheet-long, rows_at, rows-length}
use Rattle.memory.specs.Sound.{plain_cell, plain_words, sound_row, sound_place, is_word, sound_head, Stands}

-- ---- a row

plain-words : (n : ℕ) (r : List ℕ) → length r ≡ n + n → plain_words r ≡ true → words (cells r) ≡ r
unfolding plain_words plain_cell cells words
plain-words n [] e p = refl
plain-words zero (h ∷ r) e p = absurd (omega arith)
plain-words (suc n) (h ∷ []) e p = absurd (omega arith)
plain-words (suc n) (h ∷ (l ∷ r)) e p =
    let t = to-T (plain_cell h l && plain_words r) p in
    let a = and_left (plain_cell h l) (plain_words r) t in
    let b = and_right (plain_cell h l) (plain_words r) t in
    ap₂ ◌∷◌ (eqb-true (high_of (cell h l)) h (from-T _ (and_left (eqb (high_of (cell h l)) h) (eqb (low_of (cell h l)) l) a)))
    (ap₂ ◌∷◌ (eqb-true (low_of (cell h l)) l (from-T _ (and_right (eqb (high_of (cell h l)) h) (eqb (low_of (cell h l)) l) a))) (plain-words n r (omega arith) (from-T _ b)))

-- the pairs from the i-th on, one by one
pub plain-pairs : (r : List ℕ) (m i : ℕ) → length r ≡ 2 * (i + m) → list_all (λ j. plain_cell (get_or r (2 * j) 0) (get_or r (2 * j + 1) 0)) (range_with_len i m) ≡ plain_words (drop (2 * i) r)
unfolding plain_words
plain-pairs r zero i e = sym (ap plain_words (drop_of_length-le r (omega arith)))
plain-pairs r (suc m) i e =
    let a : suc (2 * i) ≡ 2 * i + 1 = omega arith in
    let b : suc (2 * i + 1) ≡ 2 * (i + 1) = omega arith in
    let c = drop-cons r (2 * i) 0 (omega arith) ∙ ap (λ j. get_or r (2 * i) 0 ∷ drop j r) a ∙ ap (λ l. get_or r (2 * i) 0 ∷ l) (drop-cons r (2 * i + 1) 0 (omega arith) ∙ ap (λ j. get_or r (2 * i + 1) 0 ∷ drop j r) b) in
    ap (λ x. plain_cell (get_or r (2 * i) 0) (get_or r (2 * i + 1) 0) && x) (plain-pairs r m (i + 1) (omega arith)) ∙ sym (ap plain_words c)

-- the two words of a cell that is no 0 with a sign
pub plain_is : (h l : ℕ) → h < 18446744073709551616 → l < 18446744073709551616 → (h ≡ 9223372036854775808 → l ≡ 0 → ⊥) → plain_cell h l ≡ true
unfolding plain_cell
plain_is h l fh fl n =
    rw (eq-eqb (high_of (cell h l)) h (cell-high-word 9223372036854775808 18446744073709551616 (lit< tt) h l fl fh n), eq-eqb (low_of (cell h l)) l (cell-low-word 9223372036854775808 18446744073709551616 (lit< tt) h l fl))

pub minus_zero_is : plain_cell 9223372036854775808 0 ≡ false
unfolding plain_cell
minus_zero_is = rw (ne_eqb (high_of (cell 9223372036854775808 0)) 9223372036854775808 (cell-minus-zero 9223372036854775808 18446744073709551616 (lit< tt) (lit< tt)))

pub plain_sheet : (r : List ℕ) → length r ≡ 36 → plain_words r ≡ true → Sheet r
plain_sheet r e p = record { long = e; plain = plain-words 18 r e p }

pub record Whole (n : ℕ) (r : List ℕ) : Type 0 where
  pub sheet : Sheet r
  pub line : Line n (cells r)
  pub over : pos 0 <ℤ den (cells r)

pub row-whole : (n : ℕ) (r : List ℕ) → n ≤ 18 → T (sound_row n r) → Whole n r
unfolding sound_row
row-whole n r f t =
    let a = eqb (length r) 36 in
    let b = plain_words r in
    let c = all is_zero (drop n (cells r)) in
    let d = lt_z (pos 0) (den (cells r)) in
    let u = and_right a (b && (c && d)) t in
    let v = and_right b (c && d) u in
    let s = plain_sheet r (eqb-true _ _ (from-T a (and_left a (b && (c && d)) t))) (from-T b (and_left b (c && d) u)) in
    record {
      sheet = s;
      line = record { fit = f; long = sheet-long r s; blank = blank s (and_left c d v) };
      over = record { lt = and_right c d v };
    }
  where
    blank : Sheet r → T (all is_zero (drop n (cells r))) → (k : ℕ) → n ≤ k → get_or (cells r) k (pos 0) ≡ pos 0
    blank s t k h = ⊎_elim (λ w. inside w) (λ w. get_or-eq_default (cells r) (pos 0) (let l = sheet-long r s in omega arith)) (lt-or-le k 18)
      where
        inside : k < 18 → get_or (cells r) k (pos 0) ≡ pos 0
        inside w =
            let l = sheet-long r s in
            let q : n + (k - n) ≡ k = omega arith in
            let z = all-at is_zero (drop n (cells r)) (k - n) (pos 0) (let m = length-drop n (cells r) in omega arith) t in
            ap (λ j. get_or (cells r) j (pos 0)) (sym q) ∙ sym (get_or-drop n (cells r) (k - n) (pos 0)) ∙ is_zero→ (get_or (drop n (cells r)) (k - n) (pos 0)) z

-- ---- the table

pub stands : (k m : ℕ) (t : List (List ℕ)) (place : List ℕ) → k ≤ 8 → length t ≡ m → m ≤ 64 → T (all (sound_row (k + 10)) t) → T (all (sound_place k m) place) → Stands k t place
stands k m t place f e c a b =
    record {
      sheets = record { at = λ i h. (whole i h).sheet };
      line = λ i h. subst (Line (k + 10)) (sym (rows_at t i)) (whole i (inside i h)).line;
      over = λ i h. subst (λ (r : List ℤ). pos 0 <ℤ den r) (sym (rows_at t i)) (whole i (inside i h)).over;
      near = λ v h. near (get_or place v 0) (all-at (sound_place k m) place v 0 h b);
      spot = λ v h w. let q = rows-length t in spot (get_or place v 0) (all-at (sound_place k m) place v 0 h b) w (length (rows_of t)) (omega arith);
    }
  where
    inside : (i : ℕ) → i < length (rows_of t) → i < length t
    inside i h = let q = rows-length t in omega arith

    whole : (i : ℕ) → i < length t → Whole (k + 10) (get_or t i [])
    whole i h = row-whole (k + 10) (get_or t i []) (omega arith) (all-at (sound_row (k + 10)) t i [] h a)

    near : (p : ℕ) → T (sound_place k m p) → p < 72 + k
    near p s = at (ltb p m) refl s
      where
        at : (b : Bool) → ltb p m ≡ b → T (b || (leb 64 p && ltb p (72 + k))) → p < 72 + k
        at true q s = let h = ltb-true p m q in omega arith
        at false q s = ltb-true p (72 + k) (from-T _ (and_right (leb 64 p) (ltb p (72 + k)) s))

    spot : (p : ℕ) → T (sound_place k m p) → p < 64 → (n : ℕ) → n ≡ m → p < n
    spot p s w n z = at (ltb p m) refl s
      where
        at : (b : Bool) → ltb p m ≡ b → T (b || (leb 64 p && ltb p (72 + k))) → p < n
        at true q s = let h = ltb-true p m q in omega arith
        at false q s = let h = leb-true 64 p (from-T _ (and_left (leb 64 p) (ltb p (72 + k)) s)) in absurd (omega arith)

-- ---- the head
pub record Headed (k rules m w : ℕ) : Type 0 where
  pub few : k ≤ 8
  pub rules_fit : rules ≤ 48
  pub rows_fit : m ≤ 2 * k + rules
  pub word : is_word w ≡ true

pub headed : (n k rules m w : ℕ) → T (sound_head n k rules m w) → Headed k rules m w
headed n k rules m w t = record { few = leb-true k 8 (from-T _ (and_left (leb k 8) rest₁ a)); rules_fit = leb-true rules 48 (from-T _ (and_left (leb rules 48) rest₂ b)); rows_fit = leb-true m (2 * k + rules) (from-T _ (and_left (leb m (2 * k + rules)) (is_word w) c)); word = from-T (is_word w) (and_right (leb m (2 * k + rules)) (is_word w) c) }
  where
    rest₂ : Bool
    rest₂ = leb m (2 * k + rules) && is_word w

    rest₁ : Bool
    rest₁ = leb rules 48 && rest₂

    a : T (leb k 8 && rest₁)
    a = and_right (axes_fit n) (leb k 8 && rest₁) t

    b : T rest₁
    b = and_right (leb k 8) rest₁ a

    c : T rest₂
    c = and_right (leb rules 48) rest₂ b
