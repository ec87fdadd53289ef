-- The run with its pivots, step by step. Assumes nothing.
use mathlib.Core.Path.{◌≡◌, refl, sym, ap, ◌∙◌, subst}
use mathlib.Core.Bool.{Bool, true, false, cond}
use mathlib.Core.List.{List, [], ◌∷◌, ◌++◌, map, append-nil}
use Prim.Native.Nat.{ℕ, zero, suc, ◌+◌, ◌-◌, ◌≤◌, ◌<◌, suc-le-suc}
use native.Mathlib.Nat.{not-suc-le-zero, le_of_suc-le-suc}
use native.Mathlib.Numerals.{add-one}
use native.Mathlib.Omega.{arith}
use borrow.Author.Tests.{leb-true}
use lib.Dec.{leb, eqb}
use lib.ListN.{length, get_or, set, take, length-set, length-map}
use lib.Seq.{take-suc-set, append_snoc, get_or-set_same}
use lib.IntN.{ℤ, pos}
use Rattle.integers.specs.Size.{bound}
use Rattle.simplex.specs.declared.Verdict.{Verdict}
use Rattle.simplex.specs.declared.Verdict.TheVariants.{Point, Dropped, Long, Wide}
use Rattle.simplex.specs.declared.Move.{Move}
use Rattle.simplex.specs.declared.Move.TheVariants.{Stop, Pivot}
use Rattle.tableau.specs.Rows.{den, solve_row, rebuild_row, exchange_rows, violated, helping, narrow_rows}
use Rattle.simplex.specs.Table.{move_of, move_at, pivot_rows, pivot_place, run_table, run_table_at, Fine, Crossing}
use Rattle.simplex.specs.Table as Table
use Rattle.tableau.proofs.Lines.{Sound, solve-sound, divisor-of}
use Rattle.simplex.proofs.Moves.{pivot-left, pivot-fine, crossing, pivot-length, rows-length}
use Rattle.sharing.specs.declared.history.Standing.{Standing}
use Rattle.sharing.specs.Past.{Left, Kept}
use Rattle.sharing.specs.Trace.{Traced, stopped, prefixed, leaves, follow, trace, Went, Made}

pub trace-stop : (kinds : List ℕ) (n : ℕ) (t : List (List ℤ)) (place : List ℕ) (x : Verdict) → move_of t place kinds n ≡ Stop x → trace kinds n t place ≡ stopped x t place
unfolding trace
trace-stop kinds zero t place x e = ap (λ m. follow m (stopped Long) t place) e
trace-stop kinds (suc n) t place x e = ap (λ m. follow m (trace kinds n) t place) e

abbrev pub turned : List ℕ → ℕ → List (List ℤ) → List ℕ → ℕ → ℕ → Traced
turned kinds n t place v w = prefixed (leaves t place v w ∷ []) ((get_or place w 0 - 64) ∷ []) (trace kinds n (pivot_rows t place v w) (pivot_place place v w))

pub trace-more : (kinds : List ℕ) (n : ℕ) (t : List (List ℤ)) (place : List ℕ) (v w : ℕ) → move_of t place kinds (suc n) ≡ Pivot v w → trace kinds (suc n) t place ≡ turned kinds n t place v w
unfolding trace
trace-more kinds n t place v w e = ap (λ m. follow m (trace kinds n) t place) e

pub trace-pivot : (kinds : List ℕ) (n : ℕ) (t : List (List ℤ)) (place : List ℕ) (v w : ℕ) → move_of t place kinds n ≡ Pivot v w → trace kinds n t place ≡ turned kinds (n - 1) t place v w
trace-pivot kinds zero t place v w e = absurd (let h = pivot-left kinds 0 t place v w e in omega arith)
trace-pivot kinds (suc n) t place v w e = trace-more kinds n t place v w e ∙ ap (λ k. turned kinds k t place v w) {x = n} {y = suc n - 1} (omega arith)

-- ---- the loop that keeps its pivots

module _ (m : ℕ) (t₀ : List (List ℤ)) (place₀ kinds : List ℕ) (past₀ : List (List ℤ)) (columns₀ : List ℕ) (start : ℕ) where
  abbrev pub whole : Traced
  whole = trace kinds (200 - start) t₀ place₀

  pub record Going (t : List (List ℤ)) (place : List ℕ) (past : List (List ℤ)) (columns : List ℕ) (made : ℕ) : Type 0 where
    pub fine : Fine m t place kinds
    pub most : made ≤ 200
    pub many : length past ≡ 200
    pub many' : length columns ≡ 200
    pub same : length t ≡ length t₀
    pub same' : length place ≡ length place₀
    pub verdict_is : (trace kinds (200 - made) t place).verdict ≡ whole.verdict
    pub rows_are : (trace kinds (200 - made) t place).rows ≡ whole.rows
    pub place_is : (trace kinds (200 - made) t place).place ≡ whole.place
    pub count : made + length (trace kinds (200 - made) t place).kept ≡ start + length whole.kept
    pub kept_are : take made past ++ (trace kinds (200 - made) t place).kept ≡ take start past₀ ++ whole.kept
    pub columns_are : take made columns ++ (trace kinds (200 - made) t place).columns ≡ take start columns₀ ++ whole.columns

  pub going_start : Fine m t₀ place₀ kinds → length past₀ ≡ 200 → length columns₀ ≡ 200 → start ≤ 200 → Going t₀ place₀ past₀ columns₀ start
  going_start f a b h =
      record { fine = f; most = h; many = a; many' = b; same = refl; same' = refl; verdict_is = refl; rows_are = refl; place_is = refl; count = refl; kept_are = refl; columns_are = refl }

  module _ (t : List (List ℤ)) (place : List ℕ) (past : List (List ℤ)) (columns : List ℕ) (made : ℕ) (g : Going t place past columns made) where
    pub going_end : (x : Verdict) → move_of t place kinds (200 - made) ≡ Stop x → Went kinds start t₀ place₀ past₀ columns₀ (record { rows = length t₀; pivots = made; verdict = x }) t place past columns
    going_end x e =
        let q = trace-stop kinds (200 - made) t place x e in
        record {
          size = refl;
          verdict_is = sym (ap (λ (y : Traced). y.verdict) q) ∙ g.verdict_is;
          rows_are = sym (ap (λ (y : Traced). y.rows) q) ∙ g.rows_are;
          place_is = sym (ap (λ (y : Traced). y.place) q) ∙ g.place_is;
          count = let c : length (trace kinds (200 - made) t place).kept ≡ 0 = ap (λ (y : Traced). length y.kept) q in omega (arith, g.count);
          past_is = sym (append-nil (take made past)) ∙ sym (ap (λ (y : Traced). take made past ++ y.kept) q) ∙ g.kept_are;
          columns_are = sym (append-nil (take made columns)) ∙ sym (ap (λ (y : Traced). take made columns ++ y.columns) q) ∙ g.columns_are;
        }

    -- what the run from here ends in, the whole run ends in
    pub going-went : (x : Standing) (t' : List (List ℤ)) (place' : List ℕ) (past' : List (List ℤ)) (columns' : List ℕ) → Went kinds made t place past columns x t' place' past' columns'
        → Went kinds start t₀ place₀ past₀ columns₀ x t' place' past' columns'
    going-went x t' place' past' columns' w =
        record {
          size = w.size ∙ g.same;
          verdict_is = w.verdict_is ∙ g.verdict_is;
          rows_are = w.rows_are ∙ g.rows_are;
          place_is = w.place_is ∙ g.place_is;
          count = w.count ∙ g.count;
          past_is = w.past_is ∙ g.kept_are;
          columns_are = w.columns_are ∙ g.columns_are;
        }

    module _ (v w : ℕ) (e : move_of t place kinds (200 - made) ≡ Pivot v w) where
      pub made-less : made < 200
      made-less = let h = pivot-left kinds (200 - made) t place v w e in omega arith

      pub crosses : Crossing m t place v w
      crosses = crossing m t place kinds (200 - made) v w g.fine e

      abbrev q : List ℤ
      q = leaves t place v w

      abbrev j : ℕ
      j = get_or place w 0 - 64

      abbrev y : Traced
      y = trace kinds (200 - (made + 1)) (pivot_rows t place v w) (pivot_place place v w)

      step : trace kinds (200 - made) t place ≡ prefixed (q ∷ []) (j ∷ []) y
      step = trace-pivot kinds (200 - made) t place v w e ∙ ap (λ k. turned kinds k t place v w) {x = 200 - made - 1} {y = 200 - (made + 1)} (omega arith)

      going_on : Going (pivot_rows t place v w) (pivot_place place v w) (set past made q) (set columns made j) (made + 1)
      going_on =
          let h = made-less in
          let a : made < length past = subst (λ n. made < n) (sym g.many) h in
          let b : made < length columns = subst (λ n. made < n) (sym g.many') h in
          record {
            fine = pivot-fine m t place kinds v w g.fine crosses;
            most = omega arith;
            many = length-set past made q ∙ g.many;
            many' = length-set columns made j ∙ g.many';
            same = rows-length t place v w ∙ g.same;
            same' = pivot-length place v w ∙ g.same';
            verdict_is = sym (ap (λ (y : Traced). y.verdict) step) ∙ g.verdict_is;
            rows_are = sym (ap (λ (y : Traced). y.rows) step) ∙ g.rows_are;
            place_is = sym (ap (λ (y : Traced). y.place) step) ∙ g.place_is;
            count = let c : length (trace kinds (200 - made) t place).kept ≡ suc (length y.kept) = ap (λ (y : Traced). length y.kept) step in omega (arith, g.count);
            kept_are =
                ap (λ (l : List (List ℤ)). l ++ y.kept) (ap (λ n. take n (set past made q)) (add-one made) ∙ take-suc-set past made q a)
                ∙ append_snoc (take made past) q y.kept
                ∙ sym (ap (λ (y : Traced). take made past ++ y.kept) step)
                ∙ g.kept_are;
            columns_are =
                ap (λ (l : List ℕ). l ++ y.columns) (ap (λ n. take n (set columns made j)) (add-one made) ∙ take-suc-set columns made j b)
                ∙ append_snoc (take made columns) j y.columns
                ∙ sym (ap (λ (y : Traced). take made columns ++ y.columns) step)
                ∙ g.columns_are;
          }

      pub going-made : (t' : List (List ℤ)) (place' : List ℕ) (past' : List (List ℤ)) (columns' : List ℕ) → Made t place past columns made v w t' place' past' columns' → Going t' place' past' columns' (made + 1)
      going-made t' place' past' columns' d = rw (d.rows_are, d.place_is, d.past_is, d.columns_are) going_on

-- ---- forgetting the pivots it is the run

pub trace-run : (kinds : List ℕ) (n : ℕ) (t : List (List ℤ)) (place : List ℕ) → (trace kinds n t place).verdict ≡ (run_table kinds n t place).verdict
unfolding trace run_table_at
trace-run kinds zero t place = at (move_of t place kinds 0)
  where
    at : (m : Move) → (follow m (stopped Long) t place).verdict ≡ (Table.follow m 0 (λ rows place. record { verdict = Long; left = 0; rows = rows; place = place }) t place).verdict
    at (Stop x) = refl
    at (Pivot v w) = refl
trace-run kinds (suc n) t place = at (move_of t place kinds (suc n)) (λ t' place'. trace-run kinds n t' place')
  where
    at : (m : Move) → ((t' : List (List ℤ)) (place' : List ℕ) → (trace kinds n t' place').verdict ≡ (run_table kinds n t' place').verdict)
        → (follow m (trace kinds n) t place).verdict ≡ (Table.follow m (suc n) (run_table kinds n) t place).verdict
    at (Stop x) ih = refl
    at (Pivot v w) ih = ih (pivot_rows t place v w) (pivot_place place v w)

-- ---- what a pivot leaves can be replayed

pub pivot-leaves : (m : ℕ) (t : List (List ℤ)) (place : List ℕ) (v w : ℕ) → Crossing m t place v w → Sound m (bound 64) (get_or (pivot_rows t place v w) (get_or place v 0) [])
unfolding pivot_rows exchange_rows
pivot-leaves m t place v w c =
    let i : ℕ = get_or place v 0 in
    let j : ℕ = get_or place w 0 - 64 in
    let f = c.ready.rows i c.ready.row in
    let p : List ℤ = solve_row (get_or t i []) j in
    let s = solve-sound m (get_or t i []) j c.ready.col f.line (f.small c.ready.cross) c.ready.cross in
    let g : List ℤ → List ℤ = rebuild_row j (den p) (set p 0 (pos 0)) in
    subst (Sound m (bound 64)) (sym (get_or-set_same (map g t) i p [] (subst (λ n. i < n) (sym (length-map t g)) c.ready.row))) s

pub kept-left : (m : ℕ) (p : List ℤ) → Sound m (bound 64) p → Left m p
kept-left m p s = record { long = s.line.long; divisor = divisor-of m p s }

kept-nil : (m : ℕ) → Kept m [] []
kept-nil m = record { same = refl; columns = λ k h. absurd (not-suc-le-zero h); rows = λ k h. absurd (not-suc-le-zero h) }

kept_cons : (m : ℕ) (q : List ℤ) (j : ℕ) (qs : List (List ℤ)) (cs : List ℕ) → Left m q → j < 16 → Kept m qs cs → Kept m (q ∷ qs) (j ∷ cs)
kept_cons m q j qs cs l h k = record { same = ap suc k.same; columns = cols; rows = rows }
  where
    cols : (i : ℕ) → i < length (q ∷ qs) → get_or (j ∷ cs) i 0 < 16
    cols zero z = h
    cols (suc i) z = k.columns i (le_of_suc-le-suc z)

    rows : (i : ℕ) → i < length (q ∷ qs) → Left m (get_or (q ∷ qs) i [])
    rows zero z = l
    rows (suc i) z = k.rows i (le_of_suc-le-suc z)

pub kept_append : (m : ℕ) (qs qs' : List (List ℤ)) (cs cs' : List ℕ) → Kept m qs cs → Kept m qs' cs' → Kept m (qs ++ qs') (cs ++ cs')
kept_append m [] qs' [] cs' k k' = k'
kept_append m [] qs' (j ∷ cs) cs' k k' = absurd (let z = k.same in omega arith)
kept_append m (q ∷ qs) qs' [] cs' k k' = absurd (let z = k.same in omega arith)
kept_append m (q ∷ qs) qs' (j ∷ cs) cs' k k' =
    kept_cons m q j (qs ++ qs') (cs ++ cs') (k.rows 0 (omega arith)) (k.columns 0 (omega arith))
    (kept_append m qs qs' cs cs' (record { same = let z = k.same in omega arith; columns = λ i h. k.columns (suc i) (suc-le-suc h); rows = λ i h. k.rows (suc i) (suc-le-suc h) }) k')

-- how the run ends
module _ (m : ℕ) (kinds : List ℕ) where
  pub record Good (n : ℕ) (t : List (List ℤ)) (place : List ℕ) (y : Traced) : Type 0 where
    pub kept : Kept m y.kept y.columns
    pub fine : Fine m y.rows y.place kinds
    pub most : length y.kept ≤ n
    pub high : length y.rows ≡ length t
    pub long : length y.place ≡ length place
    pub calm : y.verdict ≡ Point → length y.place ≤ violated y.rows y.place kinds

  point-calm : (n : ℕ) (t : List (List ℤ)) (place : List ℕ) (x : Verdict) → move_of t place kinds n ≡ Stop x → x ≡ Point → length place ≤ violated t place kinds
  unfolding move_at
  point-calm n t place x e z = leb-true (length place) (violated t place kinds) (at (leb (length place) (violated t place kinds)) (leb (length place) w) (eqb n 0) (narrow_rows (get_or place w 0 - 64) t) (e ∙ ap Stop z))
    where
      v : ℕ
      v = violated t place kinds

      w : ℕ
      w = helping (get_or t (get_or place v 0) []) place kinds

      at : (a b c d : Bool) → cond a (Stop Point) (cond b (Stop Dropped) (cond c (Stop Long) (cond d (Pivot v w) (Stop Wide)))) ≡ Stop Point → a ≡ true
      at true b c d q = refl
      at false true c d q = let z : ◌≡◌ {A = ℕ} 0 1 = cc in absurd (omega arith)
      at false false true d q = let z : ◌≡◌ {A = ℕ} 0 1 = cc in absurd (omega arith)
      at false false false true q = let z : ◌≡◌ {A = ℕ} 0 1 = cc in absurd (omega arith)
      at false false false false q = let z : ◌≡◌ {A = ℕ} 0 1 = cc in absurd (omega arith)

  good-stop : (n : ℕ) (t : List (List ℤ)) (place : List ℕ) (x : Verdict) → Fine m t place kinds → move_of t place kinds n ≡ Stop x → Good n t place (trace kinds n t place)
  good-stop n t place x f e =
      subst (Good n t place) (sym (trace-stop kinds n t place x e)) (record { kept = kept-nil m; fine = f; most = omega arith; high = refl; long = refl; calm = point-calm n t place x e })

  pub trace-good : (n : ℕ) (t : List (List ℤ)) (place : List ℕ) → Fine m t place kinds → Good n t place (trace kinds n t place)
  trace-good zero t place f = at (move_of t place kinds 0) refl
    where
      at : (o : Move) → move_of t place kinds 0 ≡ o → Good 0 t place (trace kinds 0 t place)
      at (Stop x) e = good-stop 0 t place x f e
      at (Pivot v w) e = let h = pivot-left kinds 0 t place v w e in absurd (not-suc-le-zero h)
  trace-good (suc n) t place f = at (move_of t place kinds (suc n)) refl (λ t₁ place₁. trace-good n t₁ place₁)
    where
      at : (o : Move) → move_of t place kinds (suc n) ≡ o → ((t₁ : List (List ℤ)) (place₁ : List ℕ) → Fine m t₁ place₁ kinds → Good n t₁ place₁ (trace kinds n t₁ place₁)) → Good (suc n) t place (trace kinds (suc n) t place)
      at (Stop x) e ih = good-stop (suc n) t place x f e
      at (Pivot v w) e ih =
          let c = crossing m t place kinds (suc n) v w f e in
          let g = ih (pivot_rows t place v w) (pivot_place place v w) (pivot-fine m t place kinds v w f c) in
          let a = c.column in
          let b = f.near w c.other in
          let h : get_or place w 0 - 64 < 16 = omega arith in
          let o = g.most in
          subst (Good (suc n) t place) (sym (trace-more kinds n t place v w e))
          (record {
            kept = kept_cons m _ _ _ _ (kept-left m _ (pivot-leaves m t place v w c)) h g.kept;
            fine = g.fine;
            most = omega arith;
            high = g.high ∙ rows-length t place v w;
            long = g.long ∙ pivot-length place v w;
            calm = g.calm;
          })
