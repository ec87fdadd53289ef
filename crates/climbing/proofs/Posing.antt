-- The table with the expression's row beside it: an exchange keeps what the halves ask, and how the first half goes on. Assumes nothing.
use mathlib.Core.Path.{◌≡◌, refl, sym, ap, ◌∙◌, subst}
use mathlib.Core.List.{List, [], map}
use Prim.Native.Nat.{ℕ, zero, suc, ◌-◌, ◌≤◌, ◌<◌}
use native.Mathlib.Omega.{arith}
use mathlib.Core.Bool.{Bool, true, false, cond}
use lib.ListN.{length, get_or, set, length-map}
use lib.Seq.{get_or-set_same}
use lib.IntN.{ℤ, pos}
use Rattle.integers.specs.Size.{bound}
use Rattle.tableau.specs.Rows.{den, solve_row, rebuild_row, exchange_rows, narrow_row_at, FitAt, DivisorAt, Whole}
use Rattle.tableau.proofs.Lines.{Sound, solve-sound_at, divisor-of}
use Rattle.tableau.proofs.Searches.{narrow-small, rebuild-whole_at}
use Rattle.simplex.specs.declared.Verdict.{Verdict}
use Rattle.simplex.specs.declared.Verdict.TheVariants.{Long, Wide}
use Rattle.simplex.specs.declared.Move.{Move}
use Rattle.simplex.specs.declared.Move.TheVariants.{Stop, Pivot}
use Rattle.simplex.specs.Table.{move_at, pivot_rows, pivot_place, CrossingAt}
use Rattle.simplex.proofs.Moves.{crossing_at, pivot-left_at, pivot-fine_at, pivot-length}
use Rattle.climbing.specs.Steps.{pivot_goal, with_goal, move_with, Ending, follow, reach_with, Posed}

-- ---- an exchange

-- an expression's row that passes the number test can be rebuilt
pub goal-fits : (m n : ℕ) (rows : List (List ℤ)) (goal : List ℤ) (place kinds : List ℕ) (j : ℕ) → Posed n rows goal place kinds → narrow_row_at m j goal ≡ true → FitAt m n goal j
goal-fits m n rows goal place kinds j p e = record { line = p.line; dens = λ z. p.dens; small = narrow-small j goal e }

-- the row that goes into the others and into the expression's
module _ {m : ℕ} (n : ℕ) (rows : List (List ℤ)) (place : List ℕ) (v w : ℕ) (c : CrossingAt m n rows place v w) where
  leaving-sound : Sound n m (solve_row (get_or rows (get_or place v 0) []) (get_or place w 0 - 64))
  leaving-sound =
      let r = c.ready in let f = r.rows (get_or place v 0) r.row in
      solve-sound_at m n (get_or rows (get_or place v 0) []) (get_or place w 0 - 64) r.col f.line (f.small r.cross) r.cross

  pub leaving-divisor : let p = solve_row (get_or rows (get_or place v 0) []) (get_or place w 0 - 64) in DivisorAt m n (den p) (set p 0 (pos 0))
  leaving-divisor = divisor-of n (solve_row (get_or rows (get_or place v 0) []) (get_or place w 0 - 64)) leaving-sound

-- it stands where it stood
pub pivot-own : (rows : List (List ℤ)) (place : List ℕ) (v w : ℕ) → get_or place v 0 < length rows → get_or (pivot_rows rows place v w) (get_or place v 0) [] ≡ solve_row (get_or rows (get_or place v 0) []) (get_or place w 0 - 64)
unfolding pivot_rows exchange_rows
pivot-own rows place v w h =
    let i = get_or place v 0 in let j = get_or place w 0 - 64 in let p = solve_row (get_or rows i []) j in let f = rebuild_row j (den p) (set p 0 (pos 0)) in
    get_or-set_same (map f rows) i p [] (subst (λ (n : ℕ). i < n) (sym (length-map rows f)) h)

goal-whole : {W : ℕ} → 2 ≤ W → (n : ℕ) (rows : List (List ℤ)) (goal : List ℤ) (place : List ℕ) (v w : ℕ) → Whole n goal → CrossingAt (bound W) n rows place v w → FitAt (bound W) n goal (get_or place w 0 - 64)
    → Whole n (pivot_goal rows goal place v w)
unfolding pivot_goal
goal-whole big n rows goal place v w h c f =
    let j = get_or place w 0 - 64 in let p = solve_row (get_or rows (get_or place v 0) []) j in
    rebuild-whole_at big n j (den p) (set p 0 (pos 0)) goal h (leaving-divisor n rows place v w c) f.small

pub pivot-posed_at : {W : ℕ} → 2 ≤ W → (n : ℕ) (rows : List (List ℤ)) (goal : List ℤ) (place kinds : List ℕ) (v w : ℕ) → Posed n rows goal place kinds → CrossingAt (bound W) n rows place v w → FitAt (bound W) n goal (get_or place w 0 - 64)
    → Posed n (pivot_rows rows place v w) (pivot_goal rows goal place v w) (pivot_place place v w) kinds
pivot-posed_at big n rows goal place kinds v w p c f =
    let g = goal-whole big n rows goal place v w (record { line = p.line; over = p.dens }) c f in
    record { fine = pivot-fine_at big n rows place kinds v w p.fine c; line = g.line; dens = g.over }

-- at 128 bits
pub pivot-posed : (n : ℕ) (rows : List (List ℤ)) (goal : List ℤ) (place kinds : List ℕ) (v w : ℕ) → Posed n rows goal place kinds → CrossingAt (bound 128) n rows place v w → FitAt (bound 128) n goal (get_or place w 0 - 64)
    → Posed n (pivot_rows rows place v w) (pivot_goal rows goal place v w) (pivot_place place v w) kinds
pivot-posed n rows goal place kinds v w p c f = pivot-posed_at {W = 128} (omega arith) n rows goal place kinds v w p c f

-- ---- the first half: what a step says
pub move-stops : (m : ℕ) (rows : List (List ℤ)) (goal : List ℤ) (place kinds : List ℕ) (left : ℕ) (x : Verdict) → move_at m rows place kinds left ≡ Stop x → Stop x ≡ move_with m rows goal place kinds left
unfolding move_with
move-stops m rows goal place kinds left x e = sym (ap (with_goal m goal place) e)

pub move-pivots : (m : ℕ) (rows : List (List ℤ)) (goal : List ℤ) (place kinds : List ℕ) (left v w : ℕ) (b : Bool) → move_at m rows place kinds left ≡ Pivot v w → narrow_row_at m (get_or place w 0 - 64) goal ≡ b → cond b (Pivot v w) (Stop Wide) ≡ move_with m rows goal place kinds left
unfolding move_with
move-pivots m rows goal place kinds left v w b e q = sym (ap (with_goal m goal place) e ∙ ap (λ (b : Bool). cond b (Pivot v w) (Stop Wide)) q)

stop≢pivot : (x : Verdict) (v w : ℕ) → Stop x ≡ Pivot v w → ⊥
stop≢pivot x v w e = let z : ◌≡◌ {A = ℕ} 0 1 = cc in omega arith

pub move-inv : (m : ℕ) (rows : List (List ℤ)) (goal : List ℤ) (place kinds : List ℕ) (left v w : ℕ) → move_with m rows goal place kinds left ≡ Pivot v w → (move_at m rows place kinds left ≡ Pivot v w) × (narrow_row_at m (get_or place w 0 - 64) goal ≡ true)
unfolding move_with
move-inv m rows goal place kinds left v w e = at (move_at m rows place kinds left) e
  where
    by : (v' w' : ℕ) (b : Bool) → narrow_row_at m (get_or place w' 0 - 64) goal ≡ b → cond b (Pivot v' w') (Stop Wide) ≡ Pivot v w → (Pivot v' w' ≡ Pivot v w) × (narrow_row_at m (get_or place w 0 - 64) goal ≡ true)
    by v' w' true q e = let u : w ≡ w' = cc in (e, ap (λ (n : ℕ). narrow_row_at m (get_or place n 0 - 64) goal) u ∙ q)
    by v' w' false q e = absurd (stop≢pivot Wide v w e)

    at : (x : Move) → with_goal m goal place x ≡ Pivot v w → (x ≡ Pivot v w) × (narrow_row_at m (get_or place w 0 - 64) goal ≡ true)
    at (Stop x) e = absurd (stop≢pivot x v w e)
    at (Pivot v' w') e = by v' w' (narrow_row_at m (get_or place w' 0 - 64) goal) refl e

-- what an exchange asks
pub move-crosses : (m n : ℕ) (rows : List (List ℤ)) (goal : List ℤ) (place kinds : List ℕ) (left v w : ℕ) → Posed n rows goal place kinds → move_with m rows goal place kinds left ≡ Pivot v w
    → CrossingAt m n rows place v w × FitAt m n goal (get_or place w 0 - 64)
move-crosses m n rows goal place kinds left v w p e =
    let i = move-inv m rows goal place kinds left v w e in
    (crossing_at m n rows place kinds left v w p.fine i.0, goal-fits m n rows goal place kinds (get_or place w 0 - 64) p i.1)

-- ---- the first half: how it goes on
pub move-left : (m : ℕ) (kinds : List ℕ) (left : ℕ) (rows : List (List ℤ)) (goal : List ℤ) (place : List ℕ) (v w : ℕ) → move_with m rows goal place kinds left ≡ Pivot v w → 0 < left
move-left m kinds left rows goal place v w e = pivot-left_at m kinds left rows place v w (move-inv m rows goal place kinds left v w e).0

pub reach-stop : (m : ℕ) (kinds : List ℕ) (left : ℕ) (rows : List (List ℤ)) (goal : List ℤ) (place : List ℕ) (x : Verdict) → move_with m rows goal place kinds left ≡ Stop x
    → reach_with m kinds left rows goal place ≡ record { verdict = x; left = left; rows = rows; goal = goal; place = place }
unfolding reach_with
reach-stop m kinds zero rows goal place x e = ap (λ (y : Move). follow y 0 (λ rows goal place. record { verdict = Long; left = 0; rows = rows; goal = goal; place = place }) rows goal place) e
reach-stop m kinds (suc left) rows goal place x e = ap (λ (y : Move). follow y (suc left) (reach_with m kinds left) rows goal place) e

pub reach-more : (m : ℕ) (kinds : List ℕ) (left : ℕ) (rows : List (List ℤ)) (goal : List ℤ) (place : List ℕ) (v w : ℕ) → move_with m rows goal place kinds (suc left) ≡ Pivot v w
    → reach_with m kinds left (pivot_rows rows place v w) (pivot_goal rows goal place v w) (pivot_place place v w) ≡ reach_with m kinds (suc left) rows goal place
unfolding reach_with
reach-more m kinds left rows goal place v w e = sym (ap (λ (y : Move). follow y (suc left) (reach_with m kinds left) rows goal place) e)

pub reach-pivot : (m : ℕ) (kinds : List ℕ) (left : ℕ) (rows : List (List ℤ)) (goal : List ℤ) (place : List ℕ) (v w : ℕ) → move_with m rows goal place kinds left ≡ Pivot v w
    → reach_with m kinds (left - 1) (pivot_rows rows place v w) (pivot_goal rows goal place v w) (pivot_place place v w) ≡ reach_with m kinds left rows goal place
reach-pivot m kinds zero rows goal place v w e = absurd (let h = move-left m kinds 0 rows goal place v w e in omega arith)
reach-pivot m kinds (suc left) rows goal place v w e =
    ap (λ (k : ℕ). reach_with m kinds k (pivot_rows rows place v w) (pivot_goal rows goal place v w) (pivot_place place v w)) {x = suc left - 1} {y = left} (omega arith)
    ∙ reach-more m kinds left rows goal place v w e

-- ---- the first half keeps what it asks, as many names, and ends with no more pivots left than at first
pub record Keeps (n : ℕ) (kinds place : List ℕ) (left : ℕ) (o : Ending) : Type 0 where
  pub posed : Posed n o.rows o.goal o.place kinds
  pub names : length o.place ≡ length place
  pub fewer : o.left ≤ left

pub reach-keeps : {W : ℕ} → 2 ≤ W → (n : ℕ) (kinds : List ℕ) (left : ℕ) (rows : List (List ℤ)) (goal : List ℤ) (place : List ℕ) → Posed n rows goal place kinds → Keeps n kinds place left (reach_with (bound W) kinds left rows goal place)
reach-keeps {W} big n kinds zero rows goal place p = at (move_with (bound W) rows goal place kinds 0) refl
  where
    at : (x : Move) → move_with (bound W) rows goal place kinds 0 ≡ x → Keeps n kinds place 0 (reach_with (bound W) kinds 0 rows goal place)
    at (Stop x) e = subst (Keeps n kinds place 0) (sym (reach-stop (bound W) kinds 0 rows goal place x e)) (record { posed = p; names = refl; fewer = omega arith })
    at (Pivot v w) e = absurd (let h = move-left (bound W) kinds 0 rows goal place v w e in omega arith)
reach-keeps {W} big n kinds (suc left) rows goal place p = at (move_with (bound W) rows goal place kinds (suc left)) refl (λ rows goal place p. reach-keeps big n kinds left rows goal place p)
  where
    at : (x : Move) → move_with (bound W) rows goal place kinds (suc left) ≡ x
        → ((rows : List (List ℤ)) (goal : List ℤ) (place : List ℕ) → Posed n rows goal place kinds → Keeps n kinds place left (reach_with (bound W) kinds left rows goal place))
        → Keeps n kinds place (suc left) (reach_with (bound W) kinds (suc left) rows goal place)
    at (Stop x) e ih = subst (Keeps n kinds place (suc left)) (sym (reach-stop (bound W) kinds (suc left) rows goal place x e)) (record { posed = p; names = refl; fewer = omega arith })
    at (Pivot v w) e ih =
        let c = move-crosses (bound W) n rows goal place kinds (suc left) v w p e in
        let h = ih (pivot_rows rows place v w) (pivot_goal rows goal place v w) (pivot_place place v w) (pivot-posed_at big n rows goal place kinds v w p c.0 c.1) in
        let q = h.fewer in
        subst (Keeps n kinds place (suc left)) (reach-more (bound W) kinds left rows goal place v w e) (record { posed = h.posed; names = h.names ∙ pivot-length place v w; fewer = omega arith })
