-- What `aim` finds: the lowest-numbered column that improves the value, and of the rows that stop it soonest the lowest-numbered.
use mathlib.Core.Path.{◌≡◌, refl, sym, ap, ◌∙◌, subst}
use mathlib.Core.Bool.{false, not}
use mathlib.Core.List.{List, tail}
use mathlib.Core.Option.{Option, none, some}
use Prim.Native.Nat.{ℕ, zero, suc, ◌≤◌, ◌<◌}
use native.Mathlib.Nat.{zero-add}
use lib.Dec.{T, eqb, eqb-suc-zero}
use lib.IntN.{ℤ, pos, negsuc, ◌*ℤ◌, zero-*ℤ}
use lib.Signed.{◌≤ℤ◌, ◌<ℤ◌, <ℤ_irrefl, <ℤ-≤ℤ_trans}
use lib.ListN.{length}
use Rattle.integers.specs.Order.{pos-nonneg}
use Rattle.model.specs.Sets.{Kind, equality, inequality}
use Rattle.feasibility.specs.Tableau.{Row, Tableau, entry, constant_of, violates, helps, lowest, helpful_cols}
use Rattle.optimum.specs.Value.{Aim, best, endless, turn, way, stop, Stop, soonest, stop_of, leaving, entering, aim}
use Rattle.feasibility.proofs.Verdicts.{row_var, col_var, some-none, lowest-some, lowest-least, found-col, listed-col, tail-entry}
use Rattle.feasibility.proofs.Sound.{row_of}
use Rattle.optimum.proofs.Soonest.{Soonest, soonest-none, soonest-some}
use Rattle.optimum.proofs.Moves.{eq-meets, Stops, size, size-pos, stops-off, change, Improvement}

-- ---- which rows stop the move, and after how much of it

-- the first number: an equality's row stops it at 0, where its constant is
abbrev first_of : Option Kind → ℤ → ℤ
first_of none c = c
first_of (some equality) c = pos 0
first_of (some inequality) c = c

first-is : (s : Option Kind) (c : ℤ) → T (not (violates s c)) → first_of s c ≡ c
first-is none c a = refl
first-is (some equality) c a = sym (eq-meets c a)
first-is (some inequality) c a = refl

stop_is : (s : Option Kind) (c x : ℤ) → Stops s x → stop s c x ≡ some (first_of s c, size x)
stop_is none c x k = absurd k
stop_is (some equality) c (pos zero) k = absurd (k refl)
stop_is (some equality) c (pos (suc n)) k = let z : eqb (suc n) 0 ≡ false = eqb-suc-zero n in cc
stop_is (some equality) c (negsuc n) k = refl
stop_is (some inequality) c (pos n) k = absurd (<ℤ_irrefl (<ℤ-≤ℤ_trans k (pos-nonneg n)))
stop_is (some inequality) c (negsuc n) k = refl

stop-stops : (s : Option Kind) (c x : ℤ) (q : ℤ × ℤ) → stop s c x ≡ some q → Stops s x
stop-stops none c x q e = some-none (sym e)
stop-stops (some equality) c x q e = λ z. some-none (sym e ∙ ap (stop (some equality) c) z)
stop-stops (some inequality) c (pos n) q e = some-none (sym e)
stop-stops (some inequality) c (negsuc n) q e = record { lt = tt }

-- ---- what `aim` finds

pub data Aims (sort : ℕ → Option Kind) (z : ℤ) (k : ℕ) (t : Tableau) : Aim → Type 0 where
  none-improves : lowest 0 (helpful_cols sort z t.cols (tail (row_of t k).nums)) ≡ none → Aims sort z k t best
  none-stops : (j : ℕ) → j < length t.cols → T (helps (sort (col_var t j)) z (entry (row_of t k) j))
      → ((m : ℕ) → m < length t.rows → Stops (sort (row_var t m)) (change z k j t m) → ⊥) → Aims sort z k t endless
  improves : (i j : ℕ) → Improvement sort z k i j t → Aims sort z k t (turn i j)

module _ (sort : ℕ → Option Kind) (z : ℤ) (k : ℕ) (t : Tableau) (allowed : (m : ℕ) → m < length t.rows → T (not (violates (sort (row_var t m)) (constant_of (row_of t m))))) where
  module _
      (j : ℕ) (jin : j < length t.cols) (helpful : T (helps (sort (col_var t j)) z (entry (row_of t k) j)))
      (cols_first : (m : ℕ) → m < length t.cols → T (helps (sort (col_var t m)) z (entry (row_of t k) m)) → col_var t j ≤ col_var t m)
    where
      abbrev stop_at : Row → Option (ℤ × ℤ)
      stop_at = stop_of sort j (way z (entry (row_of t k) j))

      -- row m as it stops the move
      abbrev Row-stops : ℕ → Type 0
      Row-stops m = Stops (sort (row_var t m)) (change z k j t m)

      stop-at : (m : ℕ) → m < length t.rows → Row-stops m → stop_at (row_of t m) ≡ some (constant_of (row_of t m), size (change z k j t m))
      stop-at m h s =
          stop_is (sort (row_var t m)) (constant_of (row_of t m)) (change z k j t m) s
          ∙ ap (λ (v : ℤ). some (v, size (change z k j t m))) (first-is (sort (row_var t m)) (constant_of (row_of t m)) (allowed m h))

      dens : (r : Row) (q : ℤ × ℤ) → stop_at r ≡ some q → pos 0 <ℤ q.1
      dens r q e =
          let x : ℤ = entry r j *ℤ way z (entry (row_of t k) j) in
          let s : Stops (sort r.var) x = stop-stops (sort r.var) (constant_of r) x q e in
          subst (λ (p : ℤ × ℤ). pos 0 <ℤ p.1) (pair (sym (stop_is (sort r.var) (constant_of r) x s) ∙ e)) (size-pos x (stops-off (sort r.var) x s))
        where
          pair : {p : ℤ × ℤ} → some p ≡ some q → p ≡ q
          pair e = cc

      module _ (a : Stop) (s : Soonest stop_at 0 t.rows a) where
        abbrev i : ℕ
        i = s.m

        stops : Row-stops i
        stops = stop-stops (sort (row_var t i)) (constant_of (row_of t i)) (change z k j t i) (a.num, a.den) s.found

        numbers : ◌≡◌ {A = ℤ × ℤ} (constant_of (row_of t i), size (change z k j t i)) (a.num, a.den)
        numbers = pair (sym (stop-at i s.inside stops) ∙ s.found)
          where
            pair : {p q : ℤ × ℤ} → some p ≡ some q → p ≡ q
            pair e = cc

        -- no row stops it sooner, and none after the same move with a lower number
        least : (m : ℕ) → m < length t.rows → Row-stops m
            → ((constant_of (row_of t i) *ℤ size (change z k j t m)) ≤ℤ (constant_of (row_of t m) *ℤ size (change z k j t i)))
            × (constant_of (row_of t i) *ℤ size (change z k j t m) ≡ constant_of (row_of t m) *ℤ size (change z k j t i) → row_var t i ≤ row_var t m)
        least m h b =
            subst (λ (v : ℕ). (c *ℤ x) ≤ℤ (constant_of (row_of t m) *ℤ d) × (c *ℤ x ≡ constant_of (row_of t m) *ℤ d → v ≤ row_var t m)) s.var
            (subst (λ (p : ℤ × ℤ). (p.0 *ℤ x) ≤ℤ (constant_of (row_of t m) *ℤ p.1) × (p.0 *ℤ x ≡ constant_of (row_of t m) *ℤ p.1 → a.var ≤ row_var t m)) (sym numbers)
            (s.least m (constant_of (row_of t m), x) h (stop-at m h b)))
          where
            c : ℤ
            c = constant_of (row_of t i)

            d : ℤ
            d = size (change z k j t i)

            x : ℤ
            x = size (change z k j t m)

        improvement : Improvement sort z k i j t
        improvement =
            record {
              pivots =
                  record {
                    row = s.inside;
                    col = jin;
                    entry = λ q. stops-off (sort (row_var t i)) (change z k j t i) stops (ap (λ (v : ℤ). v *ℤ way z (entry (row_of t k) j)) q ∙ zero-*ℤ (way z (entry (row_of t k) j)));
                  };
              helpful = helpful;
              cols_first = cols_first;
              stops = stops;
              soon = λ m h b. (least m h b).0;
              tied = λ m h b. (least m h b).1;
            }

      aims-leaving : (o : Option Stop) → soonest stop_at 0 t.rows ≡ o → Aims sort z k t (leaving j o)
      aims-leaving none e = none-stops j jin helpful (λ m h s. soonest-none stop_at 0 t.rows e m (constant_of (row_of t m), size (change z k j t m)) h (stop-at m h s))
      aims-leaving (some a) e =
          let s = soonest-some stop_at dens 0 t.rows a e in
          improves a.place j (subst (λ (i : ℕ). Improvement sort z k i j t) (sym (s.place ∙ zero-add s.m)) (improvement a s))

  aims-entering : (o : Option (ℕ × ℕ)) → lowest 0 (helpful_cols sort z t.cols (tail (row_of t k).nums)) ≡ o → Aims sort z k t (entering sort z k t o)
  aims-entering none e = none-improves e
  aims-entering (some a) e =
      let es : List ℤ = tail (row_of t k).nums in
      let l = lowest-some 0 (helpful_cols sort z t.cols es) a e in
      let c = found-col sort z t.cols es l.m a.0 l.found in
      let p : l.m ≡ a.1 = sym (l.place ∙ zero-add l.m) in aims-leaving a.1
      (subst (λ (j : ℕ). j < length t.cols) p c.0)
      (subst (λ (j : ℕ). T (helps (sort (col_var t j)) z (entry (row_of t k) j))) p (subst (λ (v : ℤ). T (helps (sort (col_var t l.m)) z v)) (tail-entry (row_of t k).nums l.m) c.1))
      (λ m b h.
      subst (λ (n : ℕ). n ≤ col_var t m) (sym (ap (col_var t) (sym p) ∙ c.2))
      (lowest-least 0 (helpful_cols sort z t.cols es) a e m (col_var t m) (listed-col sort z t.cols es m b (subst (λ (v : ℤ). T (helps (sort (col_var t m)) z v)) (sym (tail-entry (row_of t k).nums m)) h))))
      (soonest (stop_of sort a.1 (way z (entry (row_of t k) a.1))) 0 t.rows) refl

  pub aimed : Aims sort z k t (aim sort z k t)
  unfolding aim
  aimed = aims-entering (lowest 0 (helpful_cols sort z t.cols (tail (row_of t k).nums))) refl
