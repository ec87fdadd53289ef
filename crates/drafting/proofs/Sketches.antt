-- What a sketch keeps while it is made and settled: its shape, a positive denominator, and that what waits is a row. Assumes nothing.
use mathlib.Core.Path.{◌≡◌, refl, sym, ap, ◌∙◌, subst}
use mathlib.Core.Bool.{Bool, true, false, cond}
use mathlib.Core.List.{List, [], ◌∷◌}
use mathlib.Core.Option.{Option, none, some}
use mathlib.Core.Logic.{⊎_elim}
use Prim.Native.Nat.{ℕ, zero, suc, ◌+◌, ◌-◌, ◌/◌, ◌≤◌, ◌<◌}
use native.Mathlib.Nat.{le_trans, le_of_dvd, pos_of_dvd_of_pos, le-div_iff_mul-le}
use native.Mathlib.Omega.{arith}
use borrow.Author.Tests.{ltb-true, ltb-false}
use lib.Dec.{ltb}
use lib.ListN.{length, get_or, set, replicate, length-map}
use lib.Seq.{get_or-set_other}
use lib.IntN.{ℤ, pos, negsuc, neg_ℤ, nat_abs, ◌*ℤ◌}
use lib.Signed.{quot_z, ◌<ℤ◌}
use Rattle.integers.specs.Ring.{ring, quote}
use Rattle.integers.specs.Gcd.{gcd-is}
use Rattle.model.specs.Sets.{Constraint, is_zero}
use Rattle.feasibility.proofs.Verdicts.{some-none}
use Rattle.termination.proofs.Columns.{same_or_not}
use Rattle.tableau.specs.Rows.{den, divisor, divide_row, combine_rows, Line}
use Rattle.tableau.proofs.Lines as L
use Rattle.wide_tableau.proofs.Signs.{zero-no}
use Rattle.drafting.specs.Sketch.{Sketch, coefficient_at, put_at, put_from, bare, begun, put_in, divisor_of, lowest_terms, substituted, both_small, replaced_by, settled_at, and_then, settled_from, row_in, rule_row, Laid, Whole, Sound, Ready}

abbrev pub sketch : List ℤ → List ℤ → Sketch
sketch r w = record { row = r; waiting = w }

-- ---- numbers and places

zero-stays : (l : List ℤ) (i j : ℕ) → get_or l j (pos 0) ≡ pos 0 → get_or (set l i (pos 0)) j (pos 0) ≡ pos 0
zero-stays l i j h =
    ⊎_elim (λ e. ap (λ n. get_or (set l i (pos 0)) n (pos 0)) e ∙ L.cleared_at l i) (λ n. get_or-set_other l i j (pos 0) (pos 0) n ∙ h) (same_or_not j i)

-- the number at place i of a multiple
pub times-at : (m : ℤ) (l q : List ℤ) (i : ℕ) → length l ≡ length q → get_or (combine_rows m (pos 0) l q) i (pos 0) ≡ get_or l i (pos 0) *ℤ m
times-at m l q i e =
    L.combine-at m (pos 0) l q i e ∙ ring (get_or l i (pos 0) ∷ m ∷ get_or q i (pos 0) ∷ []) (search quote depth 30) tt

-- ---- divided by g

module _ (g : ℕ) (h : 0 < g) where
  pub quot-none : quot_z (pos 0) (pos g) ≡ pos 0
  quot-none = L.quot-zero (pos g) (L.positive g h)

  pub divided-at : (l : List ℤ) (i : ℕ) → get_or (divide_row l g) i (pos 0) ≡ quot_z (get_or l i (pos 0)) (pos g)
  unfolding divide_row
  divided-at l i = L.map-zero (λ x. quot_z x (pos g)) l i quot-none

  divided-line : (n : ℕ) (l : List ℤ) → Line n l → Line n (divide_row l g)
  unfolding divide_row
  divided-line n l f =
      record { fit = f.fit; long = length-map l (λ x. quot_z x (pos g)) ∙ f.long; blank = λ i b. divided-at l i ∙ ap (λ x. quot_z x (pos g)) (f.blank i b) ∙ quot-none }

  pub quot-over : (x : ℤ) → pos 0 <ℤ x → g ≤ nat_abs x → pos 0 <ℤ quot_z x (pos g)
  quot-over (pos a) p k = L.positive (a / g) ((le-div_iff_mul-le h).1 (omega arith))
  quot-over (negsuc a) p k = absurd p.lt

-- the common divisor is positive, and at most the denominator
pub divisor-over : (s : Sketch) → pos 0 <ℤ den s.row → (0 < divisor_of s) × (divisor_of s ≤ nat_abs (den s.row))
divisor-over s h =
    let d = L.row-divisor s.row h in
    let g = (gcd-is (divisor s.row) (divisor s.waiting)).left in
    (pos_of_dvd_of_pos g d.0, le_trans (le_of_dvd d.0 g) d.1)

-- ---- the first sketch

module _ (k : ℕ) (rows : List (List ℤ)) (place : List ℕ) (t : Laid k rows place) where
  bare-line : (x y : ℤ) → Line (k + 10) (x ∷ (y ∷ replicate 16 (pos 0)))
  bare-line x y = let f = t.few in record { fit = omega arith; long = refl; blank = none-there }
    where
      none-there : (i : ℕ) → k + 10 ≤ i → get_or (x ∷ (y ∷ replicate 16 (pos 0))) i (pos 0) ≡ pos 0
      none-there zero b = absurd (omega arith)
      none-there (suc zero) b = absurd (omega arith)
      none-there (suc (suc i)) b = L.zeros-at 16 i

  bare-sound : (z : ℤ) → Sound k rows place (bare z)
  bare-sound z =
      record {
        whole = record { line = bare-line (pos 1) z; waits = bare-line (pos 0) (pos 0); over = record { lt = tt } };
        spot = λ v b n. absurd (n (L.zeros-at 18 (v + 2)));
      }

  put-sound : (v : ℕ) (x : ℤ) (s : Sketch) → v < 8 + k → Sound k rows place s → Sound k rows place (put_at v (get_or place v 0) x s)
  put-sound v x s c h = at (ltb (get_or place v 0) 64) refl
    where
      at : (b : Bool) → ltb (get_or place v 0) 64 ≡ b → Sound k rows place (sketch (cond b s.row (set s.row (get_or place v 0 - 64 + 2) x)) (cond b (set s.waiting (v + 2) x) s.waiting))
      at true e =
          record {
            whole = record { line = h.whole.line; waits = L.set_line (k + 10) s.waiting (v + 2) x (omega arith) h.whole.waits; over = h.whole.over };
            spot = λ u b n. ⊎_elim
                (λ d. subst (λ w. get_or place w 0 < length rows) (sym d) (t.spot v c (ltb-true (get_or place v 0) 64 e)))
                (λ d. h.spot u b (λ z. n (get_or-set_other s.waiting (v + 2) (u + 2) x (pos 0) (λ w. d (omega arith)) ∙ z)))
                (same_or_not u v);
          }
      at false e =
          let i = get_or place v 0 in
          let l = ltb-false i 64 e in
          let n = t.near v c in
          record {
            whole = record { line = L.set_line (k + 10) s.row (i - 64 + 2) x (omega arith) h.whole.line; waits = h.whole.waits; over = subst (λ z. pos 0 <ℤ z) (sym (L.set-den s.row (i - 64) x)) h.whole.over };
            spot = h.spot;
          }

  puts-sound : (r : Constraint) (f v : ℕ) (s : Sketch) → v + f ≤ 8 + k → Sound k rows place s → Sound k rows place (put_from r place f v s)
  unfolding put_from
  puts-sound r zero v s l h = h
  puts-sound r (suc f) v s l h = puts-sound r f (suc v) (put_at v (get_or place v 0) (coefficient_at r v) s) (omega arith) (put-sound v (coefficient_at r v) s (omega arith) h)

  pub begun-sound : (r : Constraint) → Sound k rows place (begun k place r)
  unfolding begun
  begun-sound r = puts-sound r (8 + k) 0 (bare r.constant) (omega arith) (bare-sound r.constant)

-- ---- a variable replaced

module _ (n v : ℕ) (r : List ℤ) (s : Sketch) (h : Ready n s r) where
  abbrev q : List ℤ
  q = set r 0 (pos 0)

  pub q-line : Line n q
  q-line = L.clear-line n r 0 h.line

  abbrev w : List ℤ
  w = set s.waiting (v + 2) (pos 0)

  pub w-line : Line n w
  w-line = L.clear-line n s.waiting (v + 2) h.whole.waits

  pub in_whole : Whole n (put_in v r s)
  unfolding put_in
  in_whole =
      let b = neg_ℤ (get_or s.waiting (v + 2) (pos 0)) in
      record {
        line = L.combine-line n (den r) b s.row q h.whole.line q-line;
        waits = L.combine-line n (den r) (pos 0) w q w-line q-line;
        over = L.combine-den n (den r) b s.row q h.whole.line q-line h.over h.whole.over (L.cleared_at r 0);
      }

  -- what does not wait will not
  in-zero : (u : ℕ) → get_or s.waiting u (pos 0) ≡ pos 0 → get_or (put_in v r s).waiting u (pos 0) ≡ pos 0
  unfolding put_in
  in-zero u z = times-at (den r) w q u (w-line.long ∙ sym q-line.long) ∙ ap (λ x. x *ℤ den r) (zero-stays s.waiting (v + 2) u z) ∙ lib.IntN.zero-*ℤ (den r)

module _ (n : ℕ) (s : Sketch) (h : Whole n s) where
  lowest-whole : Whole n (lowest_terms s)
  lowest-whole =
      let d = divisor-over s h.over in
      let g = divisor_of s in
      record {
        line = divided-line g d.0 n s.row h.line;
        waits = divided-line g d.0 n s.waiting h.waits;
        over = subst (λ z. pos 0 <ℤ z) (sym (divided-at g d.0 s.row 0)) (quot-over g d.0 (den s.row) h.over d.1);
      }

  lowest-zero : (u : ℕ) → get_or s.waiting u (pos 0) ≡ pos 0 → get_or (lowest_terms s).waiting u (pos 0) ≡ pos 0
  lowest-zero u z =
      let d = (divisor-over s h.over).0 in
      let g = divisor_of s in
      divided-at g d s.waiting u ∙ ap (λ x. quot_z x (pos g)) z ∙ quot-none g d

-- ---- all of them

some_is : {s s' : Sketch} → some s ≡ some s' → s ≡ s'
some_is e = cc

then_some : (o : Option Sketch) (go : Sketch → Option Sketch) (s : Sketch) → and_then o go ≡ some s → (u : Sketch) × (o ≡ some u) × (go u ≡ some s)
then_some none go s e = some-none (sym e)
then_some (some u) go s e = (u, refl, e)

module _ (k : ℕ) (rows : List (List ℤ)) (place : List ℕ) (t : Laid k rows place) (m : ℕ) where
  substituted-sound : (v : ℕ) (r : List ℤ) (s : Sketch) → Line (k + 10) r → pos 0 <ℤ den r → Sound k rows place s → Sound k rows place (substituted v r s)
  substituted-sound v r s line over h =
      let a : Ready (k + 10) s r = record { whole = h.whole; line = line; over = over } in
      let b = in_whole (k + 10) v r s a in
      record {
        whole = lowest-whole (k + 10) (put_in v r s) b;
        spot = λ u c f. h.spot u c (λ z. f (lowest-zero (k + 10) (put_in v r s) b (u + 2) (in-zero (k + 10) v r s a (u + 2) z)));
      }

  pub settle-sound : (v : ℕ) (s s' : Sketch) → v < 8 + k → Sound k rows place s → settled_at m rows place v s ≡ some s' → Sound k rows place s'
  unfolding settled_at
  settle-sound v s s' b h e = at (is_zero (get_or s.waiting (v + 2) (pos 0))) refl e
    where
      small : (c : Bool) (r : List ℤ) → Line (k + 10) r → pos 0 <ℤ den r → cond c (some (substituted v r s)) none ≡ some s' → Sound k rows place s'
      small true r l o e = subst (Sound k rows place) (some_is e) (substituted-sound v r s l o h)
      small false r l o e = some-none (sym e)

      at : (c : Bool) → is_zero (get_or s.waiting (v + 2) (pos 0)) ≡ c → cond c (some s) (replaced_by m v (get_or rows (get_or place v 0) []) s) ≡ some s' → Sound k rows place s'
      at true z e = subst (Sound k rows place) (some_is e) h
      at false z e =
          let i = h.spot v b (zero-no (get_or s.waiting (v + 2) (pos 0)) z) in
          let r = get_or rows (get_or place v 0) [] in
          small (both_small m s r) r (t.line (get_or place v 0) i) (t.over (get_or place v 0) i) e

  settles-sound : (f v : ℕ) (s s' : Sketch) → v + f ≤ 8 + k → Sound k rows place s → settled_from m rows place f v s ≡ some s' → Sound k rows place s'
  unfolding settled_from
  settles-sound zero v s s' l h e = subst (Sound k rows place) (some_is e) h
  settles-sound (suc f) v s s' l h e =
      let u = then_some (settled_at m rows place _ s) (settled_from m rows place f _) s' e in
      settles-sound f _ u.0 s' (omega arith) (settle-sound _ s u.0 (omega arith) h u.1) u.2

  -- a rule's row has its numbers, and a positive denominator
  pub rule-whole : (r : Constraint) (l : List ℤ) → rule_row m k rows place r ≡ some l → Line (k + 10) l × (pos 0 <ℤ den l)
  unfolding rule_row
  rule-whole r l e = at (settled_from m rows place (8 + k) 0 (begun k place r)) refl e
    where
      at : (o : Option Sketch) → settled_from m rows place (8 + k) 0 (begun k place r) ≡ o → row_in o ≡ some l → Line (k + 10) l × (pos 0 <ℤ den l)
      at none q e = some-none (sym e)
      at (some s) q e =
          let h = (settles-sound (8 + k) 0 (begun k place r) s (omega arith) (begun-sound k rows place t r) q).whole in
          let x : s.row ≡ l = cc in
          (subst (Line (k + 10)) x h.line, subst (λ l. pos 0 <ℤ den l) x h.over)
