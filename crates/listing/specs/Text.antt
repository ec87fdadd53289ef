-- The lines that the script program prints (document 01, "The script program"): words and decimal numbers as bytes of text.
use Rattle.std.specs.Prelude.{true, false, List, [], ◌∷◌, ◌++◌, ℕ, zero, suc, ◌+◌, ◌/◌, ◌%◌, ℤ, pos, negsuc, ltb, length, take}
use Prim.Native.Char.{code}
use Prim.Native.String as S
use Prim.Native.String.{String}
use Rattle.model.specs.Sets.{Division, Kind, equality, inequality, Constraint, BasicSet, Set}
use Rattle.model.specs.Lists.{concat_map}

abbrev pub codes : String → List ℕ
codes S.[] = []
codes (S.◌∷◌ c s) = code c ∷ codes s

-- n in decimal, in front of l; the first number bounds the digits
abbrev pub digits : ℕ → ℕ → List ℕ → List ℕ
digits zero n l = l
digits (suc f) n l = elim (ltb n 10) [ true ↦ (48 + n) ∷ l | false ↦ digits f (n / 10) ((48 + n % 10) ∷ l) ]

-- numbers of 64 bits have at most 20 digits
abbrev pub decimal : ℤ → List ℕ
decimal (pos n) = digits 20 n []
decimal (negsuc n) = 45 ∷ digits 20 (suc n) []

-- a space and the number
abbrev pub number : ℤ → List ℕ
number z = 32 ∷ decimal z

-- a word and its numbers, on one line
abbrev pub line : String → List ℤ → List ℕ
line w zs = codes w ++ concat_map number zs ++ (10 ∷ [])

-- "a division line is div, d, c, axis coefficients", n of them
abbrev pub division_line : ℕ → Division → List ℕ
division_line n e = line "div" (pos e.divisor ∷ e.constant ∷ take n e.axes)

abbrev pub word : Kind → String
word equality = "eq"
word inequality = "ge"

-- "a rule line is ge or eq, constant, axis coefficients, division coefficients": n, and k for the k divisions there are
abbrev pub constraint_line : ℕ → ℕ → Constraint → List ℕ
constraint_line n k r = line (word r.kind) (r.constant ∷ take n r.axes ++ take k r.divisions)

abbrev pub basic_lines : ℕ → BasicSet → List ℕ
basic_lines n b = concat_map (division_line n) b.divisions ++ concat_map (constraint_line n (length b.divisions)) b.constraints

-- the basic sets from number i on
abbrev pub basics_from : ℕ → ℕ → Set → List ℕ
basics_from n i [] = []
basics_from n i (b ∷ s) = line "basic" (pos i ∷ []) ++ basic_lines n b ++ basics_from n (suc i) s

-- the listing of set m: "opens with the set's number and its count of basic sets"
abbrev pub listing : ℕ → ℕ → Set → List ℕ
listing n m s = codes "set" ++ number (pos m) ++ line " has" (pos (length s) ∷ []) ++ basics_from n 1 s
