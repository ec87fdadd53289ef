-- A row at one kept pivot, and from one to the next. Assumes nothing.
use mathlib.Core.Path.{◌≡◌, refl, sym, ap, ap₂, ◌∙◌, subst}
use mathlib.Core.Bool.{Bool, true, false, cond}
use mathlib.Core.List.{List, [], ◌∷◌, ◌++◌}
use Prim.Native.Nat.{ℕ, suc, ◌+◌, ◌≤◌, ◌<◌}
use native.Mathlib.Numerals.{add-one}
use native.Mathlib.Omega.{arith}
use lib.ListN.{length, get_or, set, take, drop, drop_of_length-le}
use lib.Seq.{drop-cons, take-suc, take-suc-set, get_or-take, length-take-le}
use lib.IntN.{ℤ, pos}
use Rattle.model.specs.Sets.{is_zero}
use Rattle.tableau.specs.Rows.{den, entry, replace_row, rebuild_row, small, narrow_row, Whole}
use Rattle.tableau.proofs.Searches.{rebuild-whole, narrow-small}
use Rattle.sharing.specs.Past.{put, passed, through, brought, Left, Kept, Passed, Replayed}

module _ (j : ℕ) (q s : List ℤ) where
  pub pass-zero : is_zero (entry s j) ≡ true → Passed j q s true s
  unfolding rebuild_row
  pass-zero e =
      record {
        test = sym (ap (λ z. cond z true (small s)) e);
        row = sym (ap (λ z. cond (cond z true (small s)) (cond z s (replace_row s j (den q) (set q 0 (pos 0)))) s) e);
      }

  pub pass-wide : is_zero (entry s j) ≡ false → small s ≡ false → Passed j q s false s
  unfolding rebuild_row
  pass-wide e f =
      record {
        test = sym (ap₂ (λ z b. cond z true b) e f);
        row = sym (ap₂ (λ z b. cond (cond z true b) (cond z s (replace_row s j (den q) (set q 0 (pos 0)))) s) e f);
      }

  pub pass-put : is_zero (entry s j) ≡ false → small s ≡ true → Passed j q s true (replace_row s j (den q) (set q 0 (pos 0)))
  unfolding rebuild_row
  pass-put e f =
      record {
        test = sym (ap₂ (λ z b. cond z true b) e f);
        row = sym (ap₂ (λ z b. cond (cond z true b) (cond z s (replace_row s j (den q) (set q 0 (pos 0)))) s) e f);
      }

  pub put_whole : (n : ℕ) → Left n q → narrow_row j s ≡ true → Whole n s → Whole n (put j q s)
  put_whole n l e w = rebuild-whole n j (den q) (set q 0 (pos 0)) s w l.divisor (narrow-small j s e)

  pub passed_on : narrow_row j s ≡ true → passed j q s ≡ put j q s
  passed_on e = ap (λ b. cond b (put j q s) s) e

  pub passed-off : narrow_row j s ≡ false → passed j q s ≡ s
  passed-off e = ap (λ b. cond b (put j q s) s) e

-- ---- the pivots from number k on

module _ (qs : List (List ℤ)) (cs : List ℕ) (k : ℕ) (s : List ℤ) where
  abbrev j : ℕ
  j = get_or cs k 0

  abbrev q : List ℤ
  q = get_or qs k []

  pub through-on : k < length qs → length cs ≡ length qs → narrow_row j s ≡ true
      → (through (drop k qs) (drop k cs) s ≡ through (drop (k + 1) qs) (drop (k + 1) cs) (put j q s)) × (brought (drop k qs) (drop k cs) s ≡ brought (drop (k + 1) qs) (drop (k + 1) cs) (put j q s))
  unfolding through brought
  through-on h e n =
      let hc : k < length cs = omega arith in
      rw (add-one, drop-cons qs k [] h, drop-cons cs k 0 hc) (
        ap (λ b. cond b (through (drop (suc k) qs) (drop (suc k) cs) (put j q s)) false) n,
        ap (λ b. cond b (brought (drop (suc k) qs) (drop (suc k) cs) (put j q s)) s) n,
      )

  pub through-off : k < length qs → length cs ≡ length qs → narrow_row j s ≡ false → (through (drop k qs) (drop k cs) s ≡ false) × (brought (drop k qs) (drop k cs) s ≡ s)
  unfolding through brought
  through-off h e n =
      let hc : k < length cs = omega arith in
      rw (drop-cons qs k [] h, drop-cons cs k 0 hc) (
        ap (λ b. cond b (through (drop (suc k) qs) (drop (suc k) cs) (put j q s)) false) n,
        ap (λ b. cond b (brought (drop (suc k) qs) (drop (suc k) cs) (put j q s)) s) n,
      )

  pub through-end : length qs ≤ k → (through (drop k qs) (drop k cs) s ≡ true) × (brought (drop k qs) (drop k cs) s ≡ s)
  unfolding through brought
  through-end h = rw (drop_of_length-le qs {i = k} h) (refl, refl)

pub brought-whole : (n : ℕ) (qs : List (List ℤ)) (cs : List ℕ) (s : List ℤ) → ((k : ℕ) → k < length qs → Left n (get_or qs k [])) → Whole n s → Whole n (brought qs cs s)
unfolding brought
brought-whole n [] cs s l w = w
brought-whole n (q ∷ qs) [] s l w = w
brought-whole n (q ∷ qs) (j ∷ cs) s l w = at (narrow_row j s) refl (λ v. brought-whole n qs cs (put j q s) (λ k h. l (suc k) (omega arith)) v)
  where
    at : (b : Bool) → narrow_row j s ≡ b → (Whole n (put j q s) → Whole n (brought qs cs (put j q s))) → Whole n (cond b (brought qs cs (put j q s)) s)
    at true e ih = ih (put_whole j q s n (l 0 (omega arith)) e w)
    at false e ih = w

-- ---- copies

-- the row of a pivot at number k: qs and cs are the pivots, r₀ the row before them
pub record Replaying (n : ℕ) (qs : List (List ℤ)) (cs : List ℕ) (r₀ r : List ℤ) (k : ℕ) : Type 0 where
  pub whole : Whole n r
  pub left : through (drop k qs) (drop k cs) r ≡ through qs cs r₀
  pub row : brought (drop k qs) (drop k cs) r ≡ brought qs cs r₀

module _ {n k : ℕ} {qs : List (List ℤ)} {cs : List ℕ} {r₀ r : List ℤ} (K : Kept n qs cs) (g : Replaying n qs cs r₀ r k) where
  pub replay-end : length qs ≤ k → Replayed qs cs r₀ true r
  replay-end h = let e = through-end qs cs k r h in record { all = sym e.0 ∙ g.left; row = sym e.1 ∙ g.row }

  module _ (here : k < length qs) {q : List ℤ} {j : ℕ} (row_is : q ≡ get_or qs k []) (column-is : j ≡ get_or cs k 0) {r' : List ℤ} where
    asked : (b : Bool) → Passed j q r b r' → narrow_row (get_or cs k 0) r ≡ b
    asked b p = ap (λ j. narrow_row j r) (sym column-is) ∙ sym p.test

    pub replay-off : Passed j q r false r' → Replayed qs cs r₀ false r'
    replay-off p =
        let f = through-off qs cs k r here K.same (asked false p) in
        record {
          all = sym f.0 ∙ g.left;
          row = p.row ∙ passed-off j q r (sym p.test) ∙ sym f.1 ∙ g.row;
        }

    pub replay-on : Passed j q r true r' → Replaying n qs cs r₀ r' (k + 1)
    replay-on p =
        let f = through-on qs cs k r here K.same (asked true p) in
        let e : r' ≡ put (get_or cs k 0) (get_or qs k []) r = p.row ∙ passed_on j q r (sym p.test) ∙ ap₂ (λ j a. put j a r) column-is row_is in
        record {
          whole = subst (Whole n) (sym e) (put_whole (get_or cs k 0) (get_or qs k []) r n (K.rows k here) (asked true p) g.whole);
          left = ap (through (drop (k + 1) qs) (drop (k + 1) cs)) e ∙ sym f.0 ∙ g.left;
          row = ap (brought (drop (k + 1) qs) (drop (k + 1) cs)) e ∙ sym f.1 ∙ g.row;
        }
