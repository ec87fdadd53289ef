-- The scan of the variables upward leaves with a row that stops the move, and none stops it sooner, nor as soon with a lower number.
-- Assumes nothing.
use mathlib.Core.Path.{◌≡◌, refl, sym, ◌∙◌, subst}
use mathlib.Core.Bool.{Bool, true, false, ◌&&◌, cond}
use mathlib.Core.List.{List, []}
use mathlib.Core.Logic.{⊎_elim}
use Prim.Native.Nat.{ℕ, zero, suc, ◌+◌, ◌-◌, ◌≤◌, ◌<◌, zero-le}
use native.Mathlib.Nat.{add-zero, zero-lt-suc}
use native.Mathlib.Omega.{arith}
use lib.Dec.{lt→ltb}
use lib.ListN.{length, get_or}
use lib.IntN.{ℤ, pos, nat_abs}
use lib.Signed.{◌<ℤ◌}
use Rattle.integers.specs.Part.{lt-or-le}
use Rattle.integers.specs.Size.{nat_abs-zero}
use Rattle.feasibility.proofs.Verdicts.{true-false}
use Rattle.tableau.specs.Rows.{entry, first}
use Rattle.tableau.proofs.Searches.{first_holds}
use Rattle.optimum.specs.Value.{Stop}
use Rattle.optimum.proofs.Soonest.{NotAfter, not-after-self, not-after-trans, sooner-first, no_later}
use Rattle.climbing.proofs.Stopping.{stops-row}
use Rattle.climbing.specs.Steps.{stops_at, stopping, move_over, move_under, sooner_at, leaving_from, leaving}

-- ---- numbers

-- a number below another's successor is that number, or below it
below_next : (P : ℕ → Type 0) (u v : ℕ) → u < suc v → (u < v → P u) → P v → P u
below_next P u v h f p = ⊎_elim f (λ l. subst P (same l) p) (lt-or-le u v)
  where
    same : v ≤ u → v ≡ u
    same l = omega arith

-- before the first number of which p holds it does not
pub first-before : (p : ℕ → Bool) (n v u : ℕ) → v ≤ u → u < first p n v → p u ≡ false
unfolding first
first-before p zero v u h l = absurd (omega arith)
first-before p (suc n) v u h l = at (p v) refl l (first-before p n (suc v) u)
  where
    at : (b : Bool) → p v ≡ b → u < cond b v (first p n (suc v)) → (suc v ≤ u → u < first p n (suc v) → p u ≡ false) → p u ≡ false
    at true e l f = absurd (omega arith)
    at false e l f = ⊎_elim (λ k. f k l) (λ k. subst (λ w. p w ≡ false) (same k) e) (lt-or-le v u)
      where
        same : u ≤ v → v ≡ u
        same k = omega arith

-- ---- the scan

module _ (rows : List (List ℤ)) (place kinds : List ℕ) (j : ℕ) (up : Bool) where
  abbrev pub Stops : ℕ → Type 0
  Stops v = stops_at rows place kinds j up v ≡ true

  -- how variable v stops the move
  abbrev pub stop_at : ℕ → Stop
  stop_at v = record { place = get_or place v 0; var = v; num = move_over rows place kinds v; den = move_under rows place j v }

  pub under-pos : (v : ℕ) → Stops v → pos 0 <ℤ (stop_at v).den
  under-pos v h = at (nat_abs x) refl
    where
      x : ℤ
      x = entry (get_or rows (get_or place v 0) []) j

      at : (n : ℕ) → nat_abs x ≡ n → pos 0 <ℤ pos n
      at zero e = absurd ((stops-row rows place kinds j up v h).1 (nat_abs-zero x e))
      at (suc n) e = record { lt = lt→ltb 0 (suc n) (zero-lt-suc n) }

  -- of the variables below v, u is the soonest
  pub record Scanned (v u : ℕ) : Type 0 where
    pub below : u < v
    pub stops : Stops u
    pub least : (w : ℕ) → w < v → Stops w → NotAfter (stop_at u) (stop_at w)

  scan_step : (v u : ℕ) → Scanned v u → Scanned (suc v) (cond (stops_at rows place kinds j up v && sooner_at rows place kinds j v u) v u)
  unfolding sooner_at
  scan_step v u s = at (stops_at rows place kinds j up v) refl (sooner_at rows place kinds j v u) refl
    where
      kept : (Stops v → NotAfter (stop_at u) (stop_at v)) → Scanned (suc v) u
      kept f =
          record {
            below = let h = s.below in omega arith;
            stops = s.stops;
            least = λ w h. below_next (λ (w : ℕ). Stops w → NotAfter (stop_at u) (stop_at w)) w v h (λ l. s.least w l) f;
          }

      at : (a : Bool) → stops_at rows place kinds j up v ≡ a → (b : Bool) → sooner_at rows place kinds j v u ≡ b → Scanned (suc v) (cond (a && b) v u)
      at true e true q =
          record {
            below = omega arith;
            stops = e;
            least = λ w h. below_next (λ (w : ℕ). Stops w → NotAfter (stop_at v) (stop_at w)) w v h
                (λ l k. not-after-trans (stop_at v) (stop_at u) (stop_at w) (under-pos v e) (under-pos u s.stops) (under-pos w k) (sooner-first (stop_at v) (stop_at u) q) (s.least w l k))
                (λ k. not-after-self (stop_at v));
          }
      at true e false q = kept (λ k. no_later (stop_at u) (stop_at v) q (let h = s.below in omega arith))
      at false e b q = kept (λ k. true-false (sym k ∙ e))

  scan : (n v u : ℕ) → Scanned v u → Scanned (v + n) (leaving_from rows place kinds j up n v u)
  unfolding leaving_from
  scan zero v u s = subst (λ m. Scanned m u) (sym (add-zero v)) s
  scan (suc n) v u s =
      let u' : ℕ = cond (stops_at rows place kinds j up v && sooner_at rows place kinds j v u) v u in
      subst (λ m. Scanned m (leaving_from rows place kinds j up n (suc v) u')) shift (scan n (suc v) u' (scan_step v u s))
    where
      shift : suc v + n ≡ v + suc n
      shift = omega arith

  -- where one stops the move, the scan ends with the soonest
  pub leaving-soonest : stopping rows place kinds j up < length place → Scanned (length place) (leaving rows place kinds j up (stopping rows place kinds j up))
  unfolding stopping leaving
  leaving-soonest h =
      subst (λ m. Scanned m (leaving rows place kinds j up u)) end
      (scan (length place - suc u) (suc u) u
      (record {
        below = omega arith;
        stops = first_holds p (length place) 0 (omega arith);
        least = λ w l. below_next (λ (w : ℕ). Stops w → NotAfter (stop_at u) (stop_at w)) w u l
            (λ b k. true-false (sym k ∙ first-before p (length place) 0 w zero-le b))
            (λ k. not-after-self (stop_at u));
      }))
    where
      p : ℕ → Bool
      p = stops_at rows place kinds j up

      u : ℕ
      u = first p (length place) 0

      end : suc u + (length place - suc u) ≡ length place
      end = omega arith

  pub none_before : (w : ℕ) → w < stopping rows place kinds j up → stops_at rows place kinds j up w ≡ false
  unfolding stopping
  none_before w h = first-before (stops_at rows place kinds j up) (length place) 0 w zero-le h
