-- The bytes of a set, the refusals, and the operations on bytes (document 01, "Bytes of a set", "Refused").
use Rattle.std.specs.Prelude.{Bool, true, false, ◌&&◌, ◌||◌, cond, List, [], ◌∷◌, ◌++◌, map, ℕ, zero, suc, ◌+◌, ◌-◌, ℤ, pos, negsuc, leb, ltb, eqb, length, take, drop}
use Rattle.std.specs.Int.Signed.{le_z}
use Rattle.model.specs.Limits.{most_axes, most_divisions, most_constraints, most_basic_sets, most_coefficient, most_divisor, most_division_constant}
use Rattle.model.specs.Refusals.{bad_axes, unknown_command, cut_short, no_basic_set, late_division, bad_divisor, out_of_range, not_absent, too_many, no_number}
pub use Rattle.integers.specs.LittleEndian.{bytes_of, value_of, unsigned, signed, signed_bytes}
use Rattle.model.specs.Lists.{all, concat_map}
use Rattle.model.specs.Sets.{Division, Kind, equality, inequality, Constraint, BasicSet, Set, absent}
use Rattle.model.specs.Numbers.{numbered}

-- a refusal with its number, or a result
pub data Answer {ℓ} (A : Type ℓ) : Type ℓ where
  refused : ℕ → Answer A
  gives : A → Answer A

-- ---- the layout: command bytes, and where the numbers of a command stand

-- "`11` opens a basic set", "`12` division", "`13` equality, `14` inequality"; 02, 6: "Commands `16` (equality) and `17` (inequality)"
abbrev pub opening_byte : ℕ
opening_byte = 0x11

abbrev pub division_byte : ℕ
division_byte = 0x12

abbrev pub equality_byte : ℕ
equality_byte = 0x13

abbrev pub inequality_byte : ℕ
inequality_byte = 0x14

abbrev pub numbered_equality_byte : ℕ
numbered_equality_byte = 0x16

abbrev pub numbered_inequality_byte : ℕ
numbered_inequality_byte = 0x17

-- the command that opens a basic set, that of a division, of a rule, and of a rule that is an equality
abbrev pub is_opening : ℕ → Bool
is_opening b = eqb b opening_byte

abbrev pub is_division : ℕ → Bool
is_division b = eqb b division_byte

-- of rules, those without a number and those "with the number directly after the command byte"
abbrev pub is_bare : ℕ → Bool
is_bare b = eqb b equality_byte || eqb b inequality_byte

abbrev pub is_numbered : ℕ → Bool
is_numbered b = eqb b numbered_equality_byte || eqb b numbered_inequality_byte

abbrev pub is_constraint : ℕ → Bool
is_constraint b = is_bare b || is_numbered b

abbrev pub is_equality : ℕ → Bool
is_equality b = eqb b equality_byte || eqb b numbered_equality_byte

-- a byte at which a basic set goes on: in checked bytes every command but the one that opens the next
abbrev pub goes_on : ℕ → Bool
goes_on b = ltb opening_byte b

-- a command with a number of 2 bytes before its body: the divisor of a division, the number of a rule
abbrev pub has_head : ℕ → Bool
has_head b = is_division b || is_numbered b

-- where the body of a command stands, counted from its first byte: its constant, its axes and, of a rule, its divisions
abbrev pub body_of : ℕ → ℕ
body_of b = cond (has_head b) 3 1

-- what stands between a command's first byte and its body, as a number (the divisor of a division, the number of a
-- rule); 0 where nothing does
abbrev pub head_of : ℕ → List ℕ → ℕ
head_of b s = value_of (take (body_of b - 1) s)

-- every body is a constant of 4 bytes, 8 axes of 2 and, of a rule, 8 divisions of 2
abbrev pub axes_place : ℕ
axes_place = 4

abbrev pub divisions_place : ℕ
divisions_place = 20

abbrev pub division_body : ℕ
division_body = 20

abbrev pub constraint_body : ℕ
constraint_body = 36

-- how many bytes a command has with its first; 0: unknown
abbrev pub width_of : ℕ → ℕ
width_of b = cond (is_opening b) 1 (cond (is_division b) (body_of b + division_body) (cond (is_constraint b) (body_of b + constraint_body) 0))

-- ---- commands

-- misnumbered: a `16` or `17` with number 0, which is always refused
pub data Command : Type 0 where
  opens misnumbered : Command
  division : Division → Command
  constraint : Constraint → Command

abbrev pub opcode : Kind → ℕ
opcode equality = equality_byte
opcode inequality = inequality_byte

abbrev pub numbered_opcode : Kind → ℕ
numbered_opcode equality = numbered_equality_byte
numbered_opcode inequality = numbered_inequality_byte

-- "`13` and `14` read as number 0 and are what is written for it"
abbrev pub rule_head : Kind → ℕ → List ℕ
rule_head k m = cond (eqb m 0) (opcode k ∷ []) (numbered_opcode k ∷ bytes_of 2 m)

abbrev pub encode_command : Command → List ℕ
encode_command opens = opening_byte ∷ []
-- no set has one: its bytes do not matter
encode_command misnumbered = numbered_equality_byte ∷ []
encode_command (division e) = division_byte ∷ bytes_of 2 e.divisor ++ signed_bytes 4 e.constant ++ concat_map (signed_bytes 2) e.axes
encode_command (constraint r) = rule_head r.kind r.number ++ (signed_bytes 4 r.constant ++ concat_map (signed_bytes 2) r.axes ++ concat_map (signed_bytes 2) r.divisions)

abbrev pub commands : Set → List Command
commands s = concat_map (λ (b : BasicSet). opens ∷ map division b.divisions ++ map constraint b.constraints) s

unfoldable pub encode : Set → List ℕ
encode s = concat_map encode_command (commands s)

-- k signed numbers of 2 bytes each
abbrev pub signed_list : ℕ → List ℕ → List ℤ
signed_list zero s = []
signed_list (suc k) s = signed 2 (value_of (take 2 s)) ∷ signed_list k (drop 2 s)

-- the numbers of a body, and a division and a rule of them
abbrev pub constant_in : List ℕ → ℤ
constant_in t = signed 4 (value_of (take 4 t))

abbrev pub axes_in : List ℕ → List ℤ
axes_in t = signed_list most_axes (drop axes_place t)

abbrev pub divisions_in : List ℕ → List ℤ
divisions_in t = signed_list most_divisions (drop divisions_place t)

abbrev pub read_division : ℕ → List ℕ → Division
read_division d t = record { divisor = d; constant = constant_in t; axes = axes_in t }

abbrev pub read_constraint : Kind → List ℕ → Constraint
read_constraint k t = record { kind = k; number = 0; constant = constant_in t; axes = axes_in t; divisions = divisions_in t }

-- ---- the refusals of one command, in their order; 0 is none

-- how far the set has come: its basic sets, and of the last one the divisions and rules
pub record Counts : Type 0 where
  pub basics : ℕ
  pub divisions : ℕ
  pub constraints : ℕ

abbrev pub within : ℤ → ℤ → ℤ → Bool
within l h z = le_z l z && le_z z h

abbrev pub coefficient : ℤ → Bool
coefficient z = within (negsuc (most_coefficient - 1)) (pos most_coefficient) z

abbrev pub division_constant : ℤ → Bool
division_constant z = within (negsuc (most_division_constant - 1)) (pos most_division_constant) z

-- the number of the first test that fails
abbrev pub first_failing : List (Bool × ℕ) → ℕ
first_failing [] = 0
first_failing (t ∷ ts) = cond t.0 (first_failing ts) t.1

abbrev pub constant_fits : Kind → ℤ → Bool
constant_fits equality z = le_z (negsuc 2147483646) z
constant_fits inequality z = true

abbrev pub tests_of : ℕ → Counts → Command → List (Bool × ℕ)
tests_of n k opens = (ltb k.basics most_basic_sets, too_many) ∷ []
tests_of n k misnumbered = (ltb 0 k.basics, no_basic_set) ∷ (ltb k.constraints most_constraints, too_many) ∷ (false, no_number) ∷ []
tests_of n k (division e) =
    (ltb 0 k.basics, no_basic_set)
    ∷ (eqb k.constraints 0, late_division)
    ∷ (ltb k.divisions most_divisions, too_many)
    ∷ (ltb 0 e.divisor && leb e.divisor most_divisor, bad_divisor)
    ∷ (division_constant e.constant && all coefficient e.axes, out_of_range)
    ∷ (absent n e.axes, not_absent)
    ∷ []
tests_of n k (constraint r) =
    (ltb 0 k.basics, no_basic_set)
    ∷ (ltb k.constraints most_constraints, too_many)
    ∷ (constant_fits r.kind r.constant && (all coefficient r.axes && all coefficient r.divisions), out_of_range)
    ∷ (absent n r.axes && absent k.divisions r.divisions, not_absent)
    ∷ []

abbrev pub refusal : ℕ → Counts → Command → ℕ
refusal n k c = first_failing (tests_of n k c)

abbrev pub counted : Counts → Command → Counts
counted k opens = record { basics = k.basics + 1; divisions = 0; constraints = 0 }
counted k misnumbered = record { basics = k.basics; divisions = k.divisions; constraints = k.constraints + 1 }
counted k (division e) = record { basics = k.basics; divisions = k.divisions + 1; constraints = k.constraints }
counted k (constraint r) = record { basics = k.basics; divisions = k.divisions; constraints = k.constraints + 1 }

-- ---- decoding

abbrev pub kind_of : ℕ → Kind
kind_of b = cond (is_equality b) equality inequality

-- the body of the command b whose bytes after the first are s
abbrev pub body_in : ℕ → List ℕ → List ℕ
body_in b s = drop (body_of b - 1) s

-- the rule with the command b, the number m and the body t
abbrev pub is_misnumbered : ℕ → ℕ → Bool
is_misnumbered b m = is_numbered b && eqb m 0

abbrev pub read_rule : ℕ → ℕ → List ℕ → Command
read_rule b m t = cond (is_misnumbered b m) misnumbered (constraint (numbered m (read_constraint (kind_of b) t)))

-- the command b whose bytes after the first are s
abbrev pub read_command : ℕ → List ℕ → Command
read_command b s =
    cond (is_opening b) opens (cond (is_division b) (division (read_division (head_of b s) (body_in b s))) (read_rule b (head_of b s) (body_in b s)))

-- divisions and rules that follow, up to the next basic set, and the basic sets from there on
pub record Built : Type 0 where
  pub divisions : List Division
  pub constraints : List Constraint
  pub rest : Set

abbrev pub build : List Command → Built
build [] = record { divisions = []; constraints = []; rest = [] }
build (opens ∷ cs) = let b : Built = build cs in record { divisions = []; constraints = []; rest = record { divisions = b.divisions; constraints = b.constraints } ∷ b.rest }
build (misnumbered ∷ cs) = build cs
build (division e ∷ cs) = let b : Built = build cs in record { divisions = e ∷ b.divisions; constraints = b.constraints; rest = b.rest }
build (constraint r ∷ cs) = let b : Built = build cs in record { divisions = b.divisions; constraints = r ∷ b.constraints; rest = b.rest }

abbrev pub after : Command → Answer (List Command) → Answer (List Command)
after c (refused m) = refused m
after c (gives cs) = gives (c ∷ cs)

-- the number that refuses the command b with the bytes s after it, 0 for none
unfoldable pub head_refusal : ℕ → Counts → ℕ → List ℕ → ℕ
head_refusal n k b s =
    first_failing ((ltb 0 (width_of b), unknown_command) ∷ (leb (width_of b) (suc (length s)), cut_short) ∷ (eqb (refusal n k (read_command b s)) 0, refusal n k (read_command b s)) ∷ [])

-- the commands of the bytes, or the number of the first that is refused. The first number bounds the length
unfoldable pub parse : ℕ → ℕ → Counts → List ℕ → Answer (List Command)
parse n zero k s = gives []
parse n (suc f) k [] = gives []
parse n (suc f) k (b ∷ s) =
    elim (head_refusal n k b s) [
      | zero ↦ after (read_command b s) (parse n f (counted k (read_command b s)) (drop (width_of b - 1) s))
      | suc m ↦ refused (suc m)
    ]

abbrev pub set_of : Answer (List Command) → Answer Set
set_of (refused m) = refused m
set_of (gives cs) = gives (build cs).rest

abbrev pub axes_fit : ℕ → Bool
axes_fit n = ltb 0 n && leb n most_axes

unfoldable pub decode : ℕ → List ℕ → Answer Set
decode n s = cond (axes_fit n) (set_of (parse n (length s) (record { basics = 0; divisions = 0; constraints = 0 }) s)) (refused bad_axes)

-- the number of a refusal, 0 for none
abbrev pub number : {A : Type 0} → Answer A → ℕ
number (refused m) = m
number (gives a) = 0
