-- What a level of a walk is asked and says, in the code's own structs; the first-point walk of a level.
use Rattle.std.specs.Prelude.{◌≡◌, Bool, true, false, cond, List, [], ◌∷◌, ◌++◌, ℕ, suc, ◌+◌, ◌-◌, ◌≤◌, ◌<◌, eqb, ℤ, pos, nat_abs, ◌+ℤ◌, ◌-ℤ◌, take, drop, get_or, set}
use Rattle.model.specs.Sets.{Set}
use Rattle.codec.specs.Places.{set_from}
use Rattle.enumeration.specs.Search.{Interval, box_of, passes, Walk, walk, Tallied}
use Rattle.search.specs.Sides.{limited, sides_of, Standing}
use Rattle.search.specs.Live.{Rowed, Live}
use Rattle.search.specs.declared.levels.Prefix.{Prefix}
use Rattle.search.specs.declared.levels.Stop.{Stop}
use Rattle.search.specs.declared.levels.Passed.{Passed}
use Rattle.search.specs.declared.levels.Way.{Way}
use Rattle.search.specs.declared.levels.Way.TheVariants.{Past, Spent, Point, Below}
use Rattle.search.specs.declared.levels.Outcome.{Outcome}
use Rattle.search.specs.declared.first.FirstPoint.{FirstPoint}

-- one value after the prefix p, with the sides bs open below it
abbrev pub ok_at : Set → List ℤ → List Interval → ℤ → Bool
ok_at s p bs x = passes s (p ++ (x ∷ [])) bs

-- ---- a level: its whole walk; its values, number 0 to span
abbrev pub walk_at : List ℕ → Prefix → Walk
walk_at s p = walk (set_from s 0) (take p.k p.low) (drop p.k (sides_of p.n p.low p.high))

abbrev pub level_of : List ℕ → Prefix → ℕ → Tallied
level_of s p t = limited p.limit t (walk_at s p)

abbrev pub span_at : Prefix → ℕ
span_at p = nat_abs (get_or p.high p.k (pos 0) -ℤ get_or p.low p.k (pos 0))

abbrev pub value_at : Prefix → ℕ → ℤ
value_at p i = get_or p.low p.k (pos 0) +ℤ pos i

-- the sides below the level's own
abbrev pub rest_at : Prefix → List Interval
rest_at p = drop (suc p.k) (sides_of p.n p.low p.high)

-- whether the prefix with value i passes
abbrev pub passes_at : List ℕ → Prefix → ℕ → Bool
passes_at s p i = ok_at (set_from s 0) (take p.k p.low) (rest_at p) (value_at p i)

-- a prefix to go below, with t tested before
pub record Ready (s : List ℕ) (p : Prefix) (t : ℕ) : Type 0 where
  pub standing : Standing s p.n p.k p.low p.high
  pub within : t ≤ p.limit
  pub fits : p.limit < 4294967296
  pub lives : Live s (sides_of p.n p.low p.high) p.live

-- how a walk ended, if m were tested by then
abbrev pub trail : Outcome → ℕ → FirstPoint
trail o m = record { outcome = o; tested = m }

-- a prefix that passed
abbrev pub next_of : Prefix → List ℤ → List ℤ → List Bool → Prefix
next_of p l h live = record { n = p.n; k = p.k + 1; limit = p.limit; count = p.count; low = l; high = h; live = live }

abbrev pub way_at : Prefix → Passed → Way
way_at p q = cond (eqb (p.k + 1) p.n) (Point q) (Below q)

abbrev pub stop_at : Prefix → List ℤ → List ℤ → List Bool → ℕ → ℕ → Stop
stop_at p l h live tested next = record { way = way_at p (record { at = next_of p l h live; next = next }); tested = tested }

-- the sides with value i fixed
abbrev pub lows_at : Prefix → ℕ → List ℤ
lows_at p i = set p.low p.k (value_at p i)

abbrev pub highs_at : Prefix → ℕ → List ℤ
highs_at p i = set p.high p.k (value_at p i)

-- m values fail, from number i on
abbrev pub Failed : List ℕ → Prefix → ℕ → ℕ → Type 0
Failed s p i m = (j : ℕ) → j < m → passes_at s p (i + j) ≡ false

-- how the values from number i on went, t prefixes having been tested before: m fail, and then the side is at its end, the limit
-- is reached, or a value passes
pub data Climbed (s : List ℕ) (p : Prefix) (i t : ℕ) : Stop → Type 0 where
  past : (m : ℕ) → Failed s p i m → m ≡ suc (span_at p) - i → t + m ≤ p.limit → Climbed s p i t (record { way = Past; tested = m })
  exhausted : (m : ℕ) → Failed s p i m → i + m ≤ span_at p → t + m ≡ p.limit → Climbed s p i t (record { way = Spent; tested = m })
  passing : (m : ℕ) → Failed s p i m → i + m ≤ span_at p → t + m < p.limit → passes_at s p (i + m) ≡ true
      → (live : List Bool) → Live s (sides_of p.n (lows_at p (i + m)) (highs_at p (i + m))) live
      → Climbed s p i t (stop_at p (lows_at p (i + m)) (highs_at p (i + m)) live (m + 1) (i + m + 1))

-- m values pass, from number i on, within the side and what the limit leaves after t
pub record Lasting (s : List ℕ) (p : Prefix) (i t m : ℕ) : Type 0 where
  pub some : 0 < m
  pub inside : i + m ≤ suc (span_at p)
  pub room : t + m ≤ p.limit
  pub passed : (j : ℕ) → j < m → passes_at s p (i + j) ≡ true

-- where a walk of a box begins: at the prefix of no numbers
pub record Begun (s : List ℕ) (n : ℕ) (low high : List ℤ) (limit : ℕ) (rows : List (List ℤ)) (p : Prefix) : Type 0 where
  pub ready : Ready s p 0
  pub rowed : Rowed s p.n p.count rows
  pub whole : p.k ≡ 0
  pub limit_is : p.limit ≡ limit
  pub sides : sides_of p.n p.low p.high ≡ take n (box_of low high)
