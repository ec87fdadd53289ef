-- Where the variables of a state's tableau stand: each at one place, in a column or in a row. An exchange and a new row keep this.
use mathlib.Core.Path.{◌≡◌, refl, sym, ap, ◌∙◌, subst}
use mathlib.Core.Bool.{Bool, true, false, cond}
use mathlib.Core.Logic.{⊎_elim}
use mathlib.Core.List.{List, [], ◌∷◌, ◌++◌}
use Prim.Native.Nat.{ℕ, zero, suc, ◌+◌, ◌-◌, ◌≤◌, ◌<◌, suc-le-suc}
use native.Mathlib.Nat.{le_refl, le_of_suc-le-suc, not-suc-le-zero, zero-add, add-zero, add-suc, zero-lt-suc}
use native.Mathlib.Omega.{arith}
use lib.Dec.{T, eqb, eqb→eq, eqb_refl}
use lib.ListN.{length, get_or, length-append, get_or-append}
use lib.Seq.{get_or-append_seam}
use Rattle.integers.specs.Part.{lt-or-le}
use Rattle.model.specs.Sets.{Constraint}
use Rattle.feasibility.specs.Tableau.{Row, Tableau, exchange, no_row, start}
use Rattle.model.proofs.Count.{from-T}
use Rattle.feasibility.proofs.Exchange.{Shape, Shaped, Pivot}
use Rattle.feasibility.proofs.Verdicts.{row_var, col_var}
use Rattle.feasibility.proofs.Start.{length_from}
use Rattle.feasibility.proofs.Points.{Place, in_row, Placed, from_at, rows-from}
use Rattle.feasibility.proofs.Sound.{length-cols, length-rows, col-other, col-new, row_new, row_other, Sound, exchange-sound, start-sound, first-length}
use Rattle.termination.proofs.Columns.{same_or_not, Numbered, numbered-on, numbered-start}
use Rattle.planning.specs.Draft.{row_for}

-- ---- a column's or a row's variable

pub data Present (t : Tableau) (v : ℕ) : Type 0 where
  in-column : (j : ℕ) → j < length t.cols → col_var t j ≡ v → Present t v
  in-row : (i : ℕ) → i < length t.rows → row_var t i ≡ v → Present t v

module _ (i j : ℕ) (t : Tableau) (p : Pivot i j t) (v : ℕ) where
  abbrev u : Tableau
  u = exchange i j t

  wide : {m : ℕ} → m < length t.cols → m < length u.cols
  wide {m} h = subst (λ (n : ℕ). m < n) (sym (length-cols i j t)) h

  high : {m : ℕ} → m < length t.rows → m < length u.rows
  high {m} h = subst (λ (n : ℕ). m < n) (sym (length-rows i j t)) h

  present-on : Present t v → Present u v
  present-on (in-column m h e) =
      ⊎_elim (λ q. in-row i (high p.row) (row_new i j t p.row ∙ ap (col_var t) (sym q) ∙ e)) (λ n. in-column m (wide h) (col-other i j t m n ∙ e)) (same_or_not m j)
  present-on (in-row m h e) =
      ⊎_elim (λ q. in-column j (wide p.col) (col-new i j t p.col ∙ ap (row_var t) (sym q) ∙ e)) (λ n. in-row m (high h) (row_other i j t m h n ∙ e)) (same_or_not m i)

-- ---- a tableau of N variables, 8 axes and k divisions among them

pub record Complete (k N : ℕ) (t : Tableau) : Type 0 where
  pub sound : Sound t
  pub numbered : Numbered N t
  pub square : length t.cols ≡ 8 + k
  pub many : 8 + k + length t.rows ≡ N
  pub present : (v : ℕ) → v < N → Present t v

pub complete-start : (k : ℕ) (cs : List Constraint) → Complete k (8 + k + length cs) (start k cs)
complete-start k cs =
    record {
      sound = start-sound k cs;
      numbered = numbered-start k cs;
      square = length_from 0 (8 + k);
      many = ap (λ (n : ℕ). 8 + k + n) (first-length k (8 + k) cs);
      present = λ v h. ⊎_elim (column v) (row v h) (lt-or-le v (8 + k));
    }
  where
    column : (v : ℕ) → v < 8 + k → Present (start k cs) v
    column v l = in-column v (subst (λ (n : ℕ). v < n) (sym (length_from 0 (8 + k))) l) (from_at 0 (8 + k) v l ∙ zero-add v)

    row : (v : ℕ) → v < 8 + k + length cs → 8 + k ≤ v → Present (start k cs) v
    row v h l =
        let i : ℕ = v - (8 + k) in
        let b : i < length cs = omega arith in
        let e : 8 + k + i ≡ v = omega arith in
        let c : i < length (start k cs).rows = subst (λ (n : ℕ). i < n) (sym (first-length k (8 + k) cs)) b in
        in-row i c (rows-from k (8 + k) cs i c ∙ e)

pub complete-on : (k N i j : ℕ) (t : Tableau) → Pivot i j t → Complete k N t → Complete k N (exchange i j t)
complete-on k N i j t p g =
    record {
      sound = exchange-sound i j t p g.sound;
      numbered = numbered-on N i j t p g.numbered;
      square = length-cols i j t ∙ g.square;
      many = ap (λ (n : ℕ). 8 + k + n) (length-rows i j t) ∙ g.many;
      present = λ v h. present-on i j t p v (g.present v h);
    }

-- ---- with one row more

pub one_more : {A : Type 0} (l : List A) (a : A) → length (l ++ (a ∷ [])) ≡ suc (length l)
one_more l a = length-append l (a ∷ []) ∙ add-suc (length l) 0 ∙ ap suc (add-zero (length l))

shaped-more : (n : ℕ) (rs : List Row) (r : Row) → Shaped n rs → Shape n r → Shaped n (rs ++ (r ∷ []))
shaped-more n [] r h s = (s, tt)
shaped-more n (q ∷ rs) r h s = (h.0, shaped-more n rs r h.1 s)

module _ (cols : List ℕ) (rs : List Row) (r : Row) where
  abbrev was : Tableau
  was = record { cols = cols; rows = rs }

  abbrev is : Tableau
  is = record { cols = cols; rows = rs ++ (r ∷ []) }

  -- an old row, or the new one
  by_place : (P : ℕ → Row → Type 0) → ((i : ℕ) → i < length rs → P i (get_or rs i no_row)) → P (length rs) r → (i : ℕ) → i < length (rs ++ (r ∷ [])) → P i (get_or (rs ++ (r ∷ [])) i no_row)
  by_place P f z i h =
      ⊎_elim (λ l. subst (P i) (sym (get_or-append rs (r ∷ []) no_row i l)) (f i l))
      (λ g. subst (λ (j : ℕ). P j (get_or (rs ++ (r ∷ [])) j no_row)) (sym (last h g)) (subst (P (length rs)) (sym (get_or-append_seam rs r [] no_row)) z)) (lt-or-le i (length rs))
    where
      last : i < length (rs ++ (r ∷ [])) → length rs ≤ i → i ≡ length rs
      last h g = let e = one_more rs r in omega arith

  longer : {i : ℕ} → i < suc (length rs) → i < length (rs ++ (r ∷ []))
  longer h = let e = one_more rs r in omega arith

  old_row : (i : ℕ) → i < length rs → row_var is i ≡ row_var was i
  old_row i h = ap (λ (r : Row). r.var) (get_or-append rs (r ∷ []) no_row i h)

  new_row : row_var is (length rs) ≡ r.var
  new_row = ap (λ (r : Row). r.var) (get_or-append_seam rs r [] no_row)

  module _ (k N : ℕ) (g : Complete k N was) (s : Shape (length cols) r) (next : r.var ≡ N) where
    -- the new variable's place is the new row
    abbrev loc : ℕ → Place
    loc v = cond (eqb v N) (in_row (length rs)) (g.sound.placed.loc v)

    old : (v : ℕ) → v < N → loc v ≡ g.sound.placed.loc v
    old v h = at (eqb v N) refl
      where
        clash : v < N → v ≡ N → ⊥
        clash h e = omega arith

        at : (b : Bool) → eqb v N ≡ b → cond b (in_row (length rs)) (g.sound.placed.loc v) ≡ g.sound.placed.loc v
        at true q = absurd (clash h (eqb→eq v N (subst T (sym q) tt)))
        at false q = refl

    new : loc r.var ≡ in_row (length rs)
    new = ap loc next ∙ ap (λ (b : Bool). cond b (in_row (length rs)) (g.sound.placed.loc N)) (from-T (eqb N N) (eqb_refl N))

    more : {v : ℕ} → v < N → v < suc N
    more h = omega arith

    present-more : (v : ℕ) → v < suc N → Present is v
    present-more v h = ⊎_elim (λ l. again (g.present v l)) (λ l. in-row (length rs) (longer (le_refl (suc (length rs)))) (new_row ∙ next ∙ last h l)) (lt-or-le v N)
      where
        again : Present was v → Present is v
        again (in-column j h e) = in-column j h e
        again (in-row i h e) = in-row i (longer (wider h)) (old_row i h ∙ e)
          where
            wider : {i : ℕ} → i < length rs → i < suc (length rs)
            wider h = omega arith

        last : v < suc N → N ≤ v → N ≡ v
        last h l = omega arith

    pub complete-more : Complete k (suc N) is
    complete-more =
        record {
          sound =
              record {
                shaped = shaped-more (length cols) rs r g.sound.shaped s;
                placed =
                    record {
                      loc = loc;
                      cols_at = λ j h. old (get_or cols j 0) (g.numbered.cols_below j h) ∙ g.sound.placed.cols_at j h;
                      rows_at = by_place (λ (i : ℕ) (q : Row). loc q.var ≡ in_row i) (λ i h. old (row_var was i) (g.numbered.rows_below i h) ∙ g.sound.placed.rows_at i h) new;
                    };
              };
          numbered =
              record {
                cols_below = λ j h. more (g.numbered.cols_below j h);
                rows_below = by_place (λ (i : ℕ) (q : Row). q.var < suc N) (λ i h. more (g.numbered.rows_below i h)) (subst (λ (v : ℕ). v < suc N) (sym next) (le_refl (suc N)));
              };
          square = g.square;
          many = ap (λ (n : ℕ). 8 + k + n) (one_more rs r) ∙ add-suc (8 + k) (length rs) ∙ ap suc g.many;
          present = present-more;
        }

-- ---- the row of a variable

row_for-by : (loc : ℕ → Place) (b : ℕ) (rs : List Row) → ((i : ℕ) → i < length rs → loc (get_or rs i no_row).var ≡ in_row (b + i)) → (i : ℕ) → i < length rs → row_for rs (get_or rs i no_row).var ≡ get_or rs i no_row
row_for-by loc b [] f i h = absurd (not-suc-le-zero h)
row_for-by loc b (r ∷ rs) f zero h = ap (λ (c : Bool). cond c r (row_for rs r.var)) (from-T (eqb r.var r.var) (eqb_refl r.var))
row_for-by loc b (r ∷ rs) f (suc i) h =
    ap (λ (c : Bool). cond c r (row_for rs v)) (apart (eqb r.var v) refl) ∙ row_for-by loc (suc b) rs (λ j l. f (suc j) (suc-le-suc l) ∙ ap in_row (moved j)) i (le_of_suc-le-suc h)
  where
    v : ℕ
    v = (get_or rs i no_row).var

    inj : {m n : ℕ} → in_row m ≡ in_row n → m ≡ n
    inj e = cc

    clash : b + 0 ≡ b + suc i → ⊥
    clash e = omega arith

    moved : (j : ℕ) → b + suc j ≡ suc b + j
    moved j = omega arith

    apart : (c : Bool) → eqb r.var v ≡ c → c ≡ false
    apart true q = absurd (clash (inj (sym (f 0 (zero-lt-suc (length rs))) ∙ ap loc (eqb→eq r.var v (subst T (sym q) tt)) ∙ f (suc i) h)))
    apart false q = refl

pub row_for-is : (t : Tableau) → Placed t → (i : ℕ) → i < length t.rows → row_for t.rows (row_var t i) ≡ get_or t.rows i no_row
row_for-is t pl i h = row_for-by pl.loc 0 t.rows (λ j l. pl.rows_at j l ∙ ap in_row (sym (zero-add j))) i h
