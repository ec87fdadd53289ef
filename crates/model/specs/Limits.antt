-- The limits of documents 01 and 02, each once. src/limit.rt has them for the code; a contract holds the two together.
use Rattle.std.specs.Prelude.{ℕ}

-- "n from 1 to 8"; "A basic set holds at most 8 divisions and 48 rules"; "A set is a list of at most 32 basic sets"
abbrev pub most_axes : ℕ
most_axes = 8

abbrev pub most_divisions : ℕ
most_divisions = 8

abbrev pub most_constraints : ℕ
most_constraints = 48

abbrev pub most_basic_sets : ℕ
most_basic_sets = 32

-- "16 coefficients ..: places 1 to 8 axes, 9 to 16 divisions": as many for the one as for the other
abbrev pub coefficient_places : ℕ
coefficient_places = 8

-- "Coefficients run from −32,767 to 32,767"; "d (.. 1 to 32,767), c (.. −1,000,000,000 to 1,000,000,000)"
abbrev pub most_coefficient : ℕ
most_coefficient = 32767

abbrev pub most_divisor : ℕ
most_divisor = 32767

abbrev pub most_division_constant : ℕ
most_division_constant = 1000000000

-- "200 pivots made: long"
abbrev pub most_pivots : ℕ
most_pivots = 200

-- "coordinates from −1,048,576 to 1,048,576"; "a limit from 1 to 1,000,000"
abbrev pub most_coordinate : ℕ
most_coordinate = 1048576

abbrev pub most_prefixes : ℕ
most_prefixes = 1000000

-- "Sets are 0 to 3, .. 8,000 bytes each"
abbrev pub last_set : ℕ
last_set = 3

abbrev pub set_bytes : ℕ
set_bytes = 8000

-- 02, 2: "more than 64 points"; 8: "a name over 15"; 12: "whose side has over 64 values"
abbrev pub most_points : ℕ
most_points = 64

abbrev pub most_name : ℕ
most_name = 15

abbrev pub most_values : ℕ
most_values = 64
