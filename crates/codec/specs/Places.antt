-- The bytes of a set from a place on: what the commands there build, and the records by which code goes through checked bytes.
use Rattle.std.specs.Prelude.{◌≡◌, cond, List, [], ◌∷◌, ℕ, zero, suc, ◌+◌, ◌-◌, ◌*◌, ◌≤◌, ◌<◌, eqb, length, drop, get_or}
use Rattle.model.specs.Limits.{most_divisions, most_constraints, most_basic_sets}
use Rattle.model.specs.Sets as S
use Rattle.model.specs.Sets.{Division, Constraint, Set}
use Rattle.model.specs.Numbers.{numbered}
use Rattle.model.specs.Values.{basic_set_of}
use Rattle.model.specs.declared.BasicSet.{BasicSet}
use Rattle.codec.specs.Bytes.{division_byte, equality_byte, numbered_equality_byte, Command, Counts, head_of, body_in, width_of, kind_of, read_division, read_constraint, read_command, Built, build, parse, decode, number}

-- the commands of the bytes, whether or not they are refused; the first number bounds the length
unfoldable pub commands_of : ℕ → List ℕ → List Command
commands_of zero s = []
commands_of (suc f) [] = []
commands_of (suc f) (b ∷ s) = read_command b s ∷ commands_of f (drop (width_of b - 1) s)

-- what the commands of the bytes build
unfoldable pub built : List ℕ → Built
built s = build (commands_of (length s) s)

-- the basic set whose divisions and constraints start at a place, just past its `11`
abbrev pub basic_at : List ℕ → ℕ → S.BasicSet
basic_at s at = record { divisions = (built (drop at s)).divisions; constraints = (built (drop at s)).constraints }

-- the basic sets that open at a place or later
abbrev pub set_from : List ℕ → ℕ → Set
set_from s at = (built (drop at s)).rest

-- how many bytes a division and a rule are written with, a rule without and with its number
abbrev pub division_width : Division → ℕ
division_width e = width_of division_byte

abbrev pub bare_width : ℕ
bare_width = width_of equality_byte

abbrev pub numbered_width : ℕ
numbered_width = width_of numbered_equality_byte

abbrev pub constraint_width : Constraint → ℕ
constraint_width r = cond (eqb r.number 0) bare_width numbered_width

abbrev pub widths : {A : Type 0} → (A → ℕ) → List A → ℕ
widths f [] = 0
widths f (a ∷ l) = f a + widths f l

-- the most that they have
abbrev pub longest_division : ℕ
longest_division = width_of division_byte

abbrev pub longest_constraint : ℕ
longest_constraint = numbered_width

-- the most that a basic set of 8 divisions and 48 rules has, and a set of 32 of them
abbrev pub longest_basic : ℕ
longest_basic = 1 + most_divisions * longest_division + most_constraints * longest_constraint

abbrev pub longest_set : ℕ
longest_set = most_basic_sets * longest_basic

-- the place after that basic set
abbrev pub end_of : List ℕ → ℕ → ℕ
end_of s at = at + (widths division_width (built (drop at s)).divisions + widths constraint_width (built (drop at s)).constraints)

-- ---- the command at a place: its head, its body, and what it reads as
abbrev pub head_at : List ℕ → ℕ → ℕ
head_at s at = head_of (get_or s at 0) (drop (at + 1) s)

abbrev pub body_at : List ℕ → ℕ → List ℕ
body_at s at = body_in (get_or s at 0) (drop (at + 1) s)

abbrev pub division_at : List ℕ → ℕ → Division
division_at s at = read_division (head_at s at) (body_at s at)

abbrev pub constraint_at : List ℕ → ℕ → Constraint
constraint_at s at = numbered (head_at s at) (read_constraint (kind_of (get_or s at 0)) (body_at s at))

-- the place after it
abbrev pub next_of : List ℕ → ℕ → ℕ
next_of s at = at + width_of (get_or s at 0)

-- a command at a place, with all its bytes
pub record Whole (s : List ℕ) (at : ℕ) : Type 0 where
  pub known : 0 < width_of (get_or s at 0)
  pub room : next_of s at ≤ length s

-- at a place of checked bytes, after the counts k, the commands that are left are accepted
pub record Checked (n : ℕ) (s : List ℕ) (at : ℕ) (k : Counts) : Type 0 where
  pub inside : at ≤ length s
  pub accepted : number (parse n (length (drop at s)) k (drop at s)) ≡ 0

abbrev pub opened : ℕ → Counts
opened b = record { basics = b; divisions = 0; constraints = 0 }

-- the bytes of a set that no test refuses, for some number of axes
pub record Accepted (s : List ℕ) : Type 0 where
  pub n : ℕ
  pub accepted : number (decode n s) ≡ 0

-- just past an `11` of checked bytes
pub record Opened (s : List ℕ) (at : ℕ) : Type 0 where
  pub n : ℕ
  pub basics : ℕ
  pub here : Checked n s at (opened basics)

-- at the start of a basic set of checked bytes, or at their end
pub record Boundary (n : ℕ) (s : List ℕ) (at : ℕ) : Type 0 where
  pub k : Counts
  pub here : Checked n s at k
  pub no_divisions : (built (drop at s)).divisions ≡ []
  pub no_constraints : (built (drop at s)).constraints ≡ []

-- at a place of checked bytes where the divisions of a basic set are past
pub record Tail (s : List ℕ) (at : ℕ) : Type 0 where
  pub n : ℕ
  pub k : Counts
  pub here : Checked n s at k
  pub none : (built (drop at s)).divisions ≡ []

-- `next` is past the divisions of the basic set whose commands start at a place, at its constraints
pub record Past (s : List ℕ) (start next : ℕ) : Type 0 where
  pub there : Tail s next
  pub same : (built (drop next s)).constraints ≡ (built (drop start s)).constraints
  pub end : end_of s next ≡ end_of s start

-- b is the basic set there
pub record Decoded (s : List ℕ) (at : ℕ) (b : BasicSet) : Type 0 where
  pub basic : basic_set_of b ≡ basic_at s at
  pub divs : b.divs ≤ most_divisions
  pub cons : b.cons ≤ most_constraints
  pub divisions : length b.divisions ≡ most_divisions
  pub constraints : length b.constraints ≡ most_constraints
