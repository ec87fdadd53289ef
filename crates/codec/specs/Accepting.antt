-- Bytes accepted by the least and the greatest coefficient at each place of a basic set.
use Rattle.std.specs.Prelude.{◌≡◌, true, false, ◌&&◌, ◌⊎◌, List, ◌++◌, ℕ, ◌+◌, ◌-◌, ◌*◌, ◌≤◌, ◌<◌, ℤ, pos, negsuc, ltb, leb, ◌≤ℤ◌, Option, IfSome, length, take, drop, get_or, replicate}
use Rattle.model.specs.Limits.{most_axes, most_divisions, most_constraints, coefficient_places, most_coefficient, most_divisor}
use Rattle.model.specs.Sets as S
use Rattle.codec.specs.Bytes.{division_byte, is_constraint, body_of, constraint_body, axes_place, divisions_place, constant_in, value_of, signed, division_constant, constant_fits, kind_of, is_misnumbered, Counts, decode, number}
use Rattle.codec.specs.Places.{set_from, longest_division, head_at, division_at, Checked, opened}
use Rattle.codec.specs.declared.accepting.ConstraintRun.{ConstraintRun}

-- number i of those of 2 bytes from p on
abbrev pub number_at : List ℕ → ℕ → ℕ → ℤ
number_at s p i = signed 2 (value_of (take 2 (drop (p + 2 * i) s)))

-- at each of eight places x is at most y
pub record Under (x y : List ℤ) : Type 0 where
  pub each : (i : ℕ) → i < coefficient_places → get_or x i (pos 0) ≤ℤ get_or y i (pos 0)

-- the eight numbers from p on are from low to high
pub record Over (low : List ℤ) (s : List ℕ) (p : ℕ) : Type 0 where
  pub each : (i : ℕ) → i < coefficient_places → get_or low i (pos 0) ≤ℤ number_at s p i

pub record Upto (high : List ℤ) (s : List ℕ) (p : ℕ) : Type 0 where
  pub each : (i : ℕ) → i < coefficient_places → number_at s p i ≤ℤ get_or high i (pos 0)

-- the least and then the greatest coefficient at each place, from place 8 − n on: 0 where there is no axis or division
abbrev pub ranges_allowed : List ℤ
ranges_allowed = replicate coefficient_places (negsuc (most_coefficient - 1)) ++ replicate coefficient_places (pos 0) ++ replicate coefficient_places (pos most_coefficient) ++ replicate coefficient_places (pos 0)

-- where n places are not absent, low and high are in the range at each place
pub record InRange (n : ℕ) (low high : List ℤ) : Type 0 where
  pub least : (i : ℕ) → i < coefficient_places → get_or ranges_allowed (coefficient_places - n + i) (pos 0) ≤ℤ get_or low i (pos 0)
  pub greatest : (i : ℕ) → i < coefficient_places → get_or high i (pos 0) ≤ℤ get_or ranges_allowed (3 * coefficient_places - n + i) (pos 0)

-- a division at a place, with its divisor and its constant in range
pub record DivisionThere (s : List ℕ) (at : ℕ) : Type 0 where
  pub inside : at + longest_division ≤ length s
  pub command : get_or s at 0 ≡ division_byte
  pub divisor : (ltb 0 (division_at s at).divisor && leb (division_at s at).divisor most_divisor) ≡ true
  pub constant : division_constant (division_at s at).constant ≡ true

-- one of two commands at a place, an equality and an inequality with such a head, with its constant in range
pub record CommandThere (s : List ℕ) (at head equality inequality : ℕ) : Type 0 where
  pub inside : at + head + constraint_body ≤ length s
  pub command : (get_or s at 0 ≡ inequality) ⊎ ((get_or s at 0 ≡ equality) × (constant_fits S.equality (constant_in (drop (at + head) s)) ≡ true))

-- a constraint at a place, its body at p, not misnumbered and with its constant in range
pub record ConstraintThere (s : List ℕ) (at p : ℕ) : Type 0 where
  pub command : is_constraint (get_or s at 0) ≡ true
  pub body : p ≡ at + body_of (get_or s at 0)
  pub inside : p + constraint_body ≤ length s
  pub named : is_misnumbered (get_or s at 0) (head_at s at) ≡ false
  pub constant : constant_fits (kind_of (get_or s at 0)) (constant_in (drop p s)) ≡ true

-- ---- from place to place

-- no command between two places is refused, after the counts k at the first; the basic sets that open there are counted
pub record Leads (n : ℕ) (s : List ℕ) (at : ℕ) (k : Counts) (at' : ℕ) (k' : Counts) : Type 0 where
  pub accepts : Checked n s at' k' → Checked n s at k
  pub counts : k.basics + length (set_from s at) ≡ k'.basics + length (set_from s at')

-- in basic set number b, after d divisions and c constraints
abbrev pub in_basic : ℕ → ℕ → ℕ → Counts
in_basic b d c = record { basics = b; divisions = d; constraints = c }

-- `count` divisions from a place on, accepted where low and high are in range
pub record DivisionsTo (s : List ℕ) (start at count : ℕ) (low high : List ℤ) : Type 0 where
  pub place : at ≡ start + longest_division * count
  pub inside : at ≤ length s
  pub leads : (n b : ℕ) → n ≤ most_axes → 0 < b → count ≤ most_divisions → InRange n low high → Leads n s start (opened b) at (in_basic b count 0)

-- c, and the constraint whose body is at p
pub record Joined (s : List ℕ) (c : ConstraintRun) (p : ℕ) (r : ConstraintRun) : Type 0 where
  pub at : r.at ≡ p + constraint_body
  pub count : r.count ≡ c.count + 1
  pub low : Under r.axes.low c.axes.low × Over r.axes.low s (p + axes_place)
  pub high : Under c.axes.high r.axes.high × Upto r.axes.high s (p + axes_place)
  pub below : Under r.divisions.low c.divisions.low × Over r.divisions.low s (p + divisions_place)
  pub above : Under c.divisions.high r.divisions.high × Upto r.divisions.high s (p + divisions_place)

-- c, and constraints that follow, accepted where the coefficients of all are in range
pub record Further (s : List ℕ) (c r : ConstraintRun) : Type 0 where
  pub inside : r.at ≤ length s
  pub past : c.at ≤ r.at
  pub counted : c.at + r.count ≤ r.at + c.count
  pub more : c.count ≤ r.count
  pub low : Under r.axes.low c.axes.low
  pub high : Under c.axes.high r.axes.high
  pub below : Under r.divisions.low c.divisions.low
  pub above : Under c.divisions.high r.divisions.high
  pub leads : (n d b : ℕ) → n ≤ most_axes → d ≤ most_divisions → 0 < b → r.count ≤ most_constraints → InRange n r.axes.low r.axes.high → InRange d r.divisions.low r.divisions.high → Leads n s c.at (in_basic b d c.count) r.at (in_basic b d r.count)

-- constraints from a place on, after divisions whose coefficients go from `least` to `greatest`
pub record ConstraintsTo (s : List ℕ) (start : ℕ) (least greatest : List ℤ) (r : ConstraintRun) : Type 0 where
  pub none : ConstraintRun
  pub at : none.at ≡ start
  pub count : none.count ≡ 0
  pub low : none.axes.low ≡ least
  pub high : none.axes.high ≡ greatest
  pub run : Further s none r

-- a basic set from a place on
pub record Ends (n : ℕ) (s : List ℕ) (start end : ℕ) : Type 0 where
  pub divisions : ℕ
  pub constraints : ℕ
  pub past : start ≤ end
  pub inside : end ≤ length s
  pub leads : (b : ℕ) → 0 < b → Leads n s start (opened b) end (in_basic b divisions constraints)

-- what quick acceptance says, which tells how many basic sets there are
pub record Accepts (n : ℕ) (s : List ℕ) (q : Option ℕ) : Type 0 where
  pub none : IfSome q (λ basics. number (decode n s) ≡ 0)
  pub basics : IfSome q (λ basics. basics ≡ length (set_from s 0))
