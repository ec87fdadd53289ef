-- The rows that stop a move, and which of them leaves. Assumes nothing.
use mathlib.Core.Path.{◌≡◌, refl, sym, ap, ◌∙◌, subst}
use mathlib.Core.List.{List, [], ◌∷◌}
use mathlib.Core.Bool.{Bool, true, false, ◌&&◌, cond}
use Prim.Native.Nat.{ℕ, zero, suc, ◌+◌, ◌-◌, ◌≤◌, ◌<◌, zero-le}
use native.Mathlib.Numerals.{add-one}
use native.Mathlib.Omega.{arith}
use lib.Dec.{ltb, eqb, T, ltb→lt}
use lib.ListN.{length, get_or}
use lib.IntN.{ℤ, pos, ◌-ℤ◌}
use lib.Signed.{lt_z}
use Rattle.integers.specs.Z.{Within}
use Rattle.integers.specs.Lin.{lia-no, lt, le, lin}
use Rattle.integers.specs.Mach.{lt_z-true, lt_z-false}
use Rattle.integers.specs.Size.{bound}
use Rattle.model.proofs.Count.{and_left, and_right}
use Rattle.tableau.specs.Rows.{entry, violated_by, narrow_rows_at}
use Rattle.tableau.proofs.Searches.{first_holds, narrow_at, narrow-small}
use Rattle.simplex.specs.Table.{Fine}
use Rattle.climbing.specs.Steps.{moved, stops_at, stopping, move_over, move_under, sooner_at, leaving_from, leaving, Stopped}

-- ---- a row that stops the move has an entry in the column

cond-and : (a b : Bool) → cond a b false ≡ (a && b)
cond-and true b = refl
cond-and false b = refl

moved-zero : (up : Bool) → moved up (pos 0) ≡ pos 0
moved-zero true = refl
moved-zero false = refl

allowed-zero : (a b : Bool) → cond a false (cond b false false) ≡ false
allowed-zero true b = refl
allowed-zero false true = refl
allowed-zero false false = refl

module _ (rows : List (List ℤ)) (place kinds : List ℕ) (j : ℕ) (up : Bool) where
  pub stops-row : (v : ℕ) → stops_at rows place kinds j up v ≡ true → (get_or place v 0 < 64) × (entry (get_or rows (get_or place v 0) []) j ≡ pos 0 → ⊥)
  unfolding stops_at
  stops-row v h =
      let k = get_or kinds v 0 in let b = ltb (get_or place v 0) 64 in let e = entry (get_or rows (get_or place v 0) []) j in
      let t : T (b && violated_by k (moved up e)) = subst T (sym (sym (cond-and b (violated_by k (moved up e))) ∙ h)) tt in (
        ltb→lt (get_or place v 0) 64 (and_left b _ t),
        λ z. subst T (ap (λ (x : ℤ). violated_by k (moved up x)) z ∙ ap (violated_by k) (moved-zero up) ∙ allowed-zero (eqb k 1) (eqb k 2)) (and_right b _ t),
      )

  -- where step 4 holds, all its numbers are small
  pub stops-small : (n : ℕ) → Fine n rows place kinds → narrow_rows_at (bound 128) j rows ≡ true → (v : ℕ) → v < length place → stops_at rows place kinds j up v ≡ true → Stopped rows place v
  stops-small n f h v l s =
      let r = stops-row v s in
      record { named = l; row = r.0; small = narrow-small j (get_or rows (get_or place v 0) []) (narrow_at (bound 128) j rows h (get_or place v 0) (f.spot v l r.0)) r.1 }

  -- ---- the lowest-numbered

  pub stopping-stops : (u : ℕ) → u ≡ stopping rows place kinds j up → u < length place → stops_at rows place kinds j up u ≡ true
  unfolding stopping
  stopping-stops u e h = ap (stops_at rows place kinds j up) e ∙ first_holds (stops_at rows place kinds j up) (length place) 0 (omega arith)

  -- ---- the one that leaves

  pub leaving-start : (u : ℕ) → leaving_from rows place kinds j up (length place - (u + 1)) (u + 1) u ≡ leaving rows place kinds j up u
  unfolding leaving
  leaving-start u = rw add-one refl

  leaving-next : (n v best : ℕ) → v < n → leaving_from rows place kinds j up (n - (v + 1)) (v + 1) (cond (stops_at rows place kinds j up v && sooner_at rows place kinds j v best) v best) ≡ leaving_from rows place kinds j up (n - v) v best
  unfolding leaving_from
  leaving-next n v best h = let m : n - v ≡ suc (n - (v + 1)) = omega arith in rw (m, add-one) refl

  pub leaving-end : (n v best : ℕ) → n ≤ v → best ≡ leaving_from rows place kinds j up (n - v) v best
  unfolding leaving_from
  leaving-end n v best h = let z : n - v ≡ 0 = omega arith in sym (ap (λ (k : ℕ). leaving_from rows place kinds j up k v best) z)

  -- it stops the move
  abbrev pub Stops : ℕ → Type 0
  Stops v = (v < length place) × (stops_at rows place kinds j up v ≡ true)

  either-stops : (v best : ℕ) (a b : Bool) → stops_at rows place kinds j up v ≡ a → v < length place → Stops best → Stops (cond (a && b) v best)
  either-stops v best true true e h k = (h, e)
  either-stops v best true false e h k = k
  either-stops v best false b e h k = k

  from-stops : (n v best : ℕ) → v + n ≤ length place → Stops best → Stops (leaving_from rows place kinds j up n v best)
  unfolding leaving_from
  from-stops zero v best h k = k
  from-stops (suc n) v best h k =
      from-stops n (suc v) _ (omega arith) (either-stops v best (stops_at rows place kinds j up v) (sooner_at rows place kinds j v best) refl (omega arith) k)

  -- a turn of the search
  pub leaving-turn : (u v best best' : ℕ) → v < length place → best' ≡ cond (stops_at rows place kinds j up v && sooner_at rows place kinds j v best) v best → Stops best → leaving_from rows place kinds j up (length place - v) v best ≡ leaving rows place kinds j up u
      → Stops best' × (leaving_from rows place kinds j up (length place - (v + 1)) (v + 1) best' ≡ leaving rows place kinds j up u)
  leaving-turn u v best best' h e k i = (
    subst Stops (sym e) (either-stops v best (stops_at rows place kinds j up v) (sooner_at rows place kinds j v best) refl h k),
    ap (leaving_from rows place kinds j up (length place - (v + 1)) (v + 1)) e ∙ leaving-next (length place) v best h ∙ i,
  )

  pub leaving-stops : (u : ℕ) → Stops u → Stops (leaving rows place kinds j up u)
  unfolding leaving
  leaving-stops u k = let h = k.0 in from-stops (length place - suc u) (suc u) u (omega arith) k

-- ---- the numbers compared

pub over-within : (rows : List (List ℤ)) (place kinds : List ℕ) (v : ℕ) → Stopped rows place v → Within (bound 128) (move_over rows place kinds v)
over-within rows place kinds v s = at (eqb (get_or kinds v 0) 2)
  where
    at : (b : Bool) → Within (bound 128) (cond b (pos 0) (get_or (get_or rows (get_or place v 0) []) 1 (pos 0)))
    at true = record { size = zero-le }
    at false = s.small 1

pub under-within : (rows : List (List ℤ)) (place : List ℕ) (j v : ℕ) → Stopped rows place v → Within (bound 128) (move_under rows place j v)
under-within rows place j v s = record { size = (s.small (j + 2)).size }

pub lt-minus : (a b : ℤ) → lt_z (a -ℤ b) (pos 0) ≡ lt_z a b
lt-minus a b = at (lt_z (a -ℤ b) (pos 0)) (lt_z a b) refl refl
  where
    at : (x y : Bool) → lt_z (a -ℤ b) (pos 0) ≡ x → lt_z a b ≡ y → x ≡ y
    at true true e f = refl
    at false false e f = refl
    at true false e f = absurd (lia-no (a ∷ b ∷ []) (lt (lt_z-true (a -ℤ b) (pos 0) e) ∷ le (lt_z-false a b f) ∷ []) (search lin depth 30) (omega arith))
    at false true e f = absurd (lia-no (a ∷ b ∷ []) (le (lt_z-false (a -ℤ b) (pos 0) e) ∷ lt (lt_z-true a b f) ∷ []) (search lin depth 30) (omega arith))
