-- The walk over the divisions of a basic set for the one that helps.
use mathlib.Core.Path.{◌≡◌, ap}
use mathlib.Core.Bool.{Bool, true, false}
use mathlib.Core.List.{List}
use Prim.Native.Nat.{ℕ, ◌+◌, ◌<◌}
use native.Mathlib.Omega.{arith}
use lib.ListN.{get_or}
use Rattle.codec.specs.Bytes.{Counts, is_division}
use Rattle.codec.specs.Places.{next_of, Checked}
use Rattle.codec.proofs.Standing.{DivisionAt, division-at}
use Rattle.runs.specs.declared.guesses.Helper.{Helper}
use Rattle.runs.specs.declared.guesses.Helper.TheVariants.{Nothing, One, Several}
use Rattle.runs.specs.Helping.{noted_of, Helping, HelpedAt}

-- at a place after j divisions
pub record Seeking (s : List ℕ) (at j : ℕ) (h : Helper) : Type 0 where
  pub n : ℕ
  pub k : Counts
  pub here : Checked n s at k
  pub counts : k.divisions ≡ j
  pub helping : Helping s h

module _ (s : List ℕ) (at j : ℕ) (h : Helper) (g : Seeking s at j h) (e : is_division (get_or s at 0) ≡ true) where
  pub seeking-at : DivisionAt g.n s at g.k
  seeking-at = division-at g.n s at g.k g.here e

  pub seeking-few : j < 8
  seeking-few = let f = seeking-at.few in let c = g.counts in omega arith

helping-noted : (s : List ℕ) (h : Helper) (j at : ℕ) (so : Bool) → Helping s h → HelpedAt s j at → Helping s (noted_of h j at so)
helping-noted s h j at false g d = g
helping-noted s Nothing j at true g d = d
helping-noted s (One i p) j at true g d = tt
helping-noted s Several j at true g d = tt

pub seeking-next : (s : List ℕ) (at j : ℕ) (h : Helper) (so : Bool) (g : Seeking s at j h) → DivisionAt g.n s at g.k → Seeking s (next_of s at) (j + 1) (noted_of h j at so)
seeking-next s at j h so g d =
    let f = d.few in let e = g.counts in
    record {
      n = g.n;
      k = _;
      here = d.there;
      counts = ap (λ (m : ℕ). m + 1) g.counts;
      helping = helping-noted s h j at so g.helping (record { few = omega arith; whole = d.whole; body = d.body });
    }
