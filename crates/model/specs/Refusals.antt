-- The numbers of a refusal (document 01, "Refused"; document 02), each once. src/refusal.rt has them for the code.
use Rattle.std.specs.Prelude.{ℕ}

-- 1 "n not 1 to 8"
abbrev pub bad_axes : ℕ
bad_axes = 1

-- 2 "unknown command"
abbrev pub unknown_command : ℕ
unknown_command = 2

-- 3 "bytes end in a command, or a script without `00`"
abbrev pub cut_short : ℕ
cut_short = 3

-- 4 "division or rule before any `11`"
abbrev pub no_basic_set : ℕ
no_basic_set = 4

-- 5 "division after a rule"
abbrev pub late_division : ℕ
late_division = 5

-- 6 "d is 0 or over 32,767"
abbrev pub bad_divisor : ℕ
bad_divisor = 6

-- 7 "another number outside its range"
abbrev pub out_of_range : ℕ
out_of_range = 7

-- 8 "absent axis or division not 0"
abbrev pub not_absent : ℕ
not_absent = 8

-- 9 "over 32, 8 or 48 in a given set"
abbrev pub too_many : ℕ
too_many = 9

-- 10 "a join over 8 divisions, a candidate over 48 rules, or a 33rd basic set in the result"
abbrev pub over_limit : ℕ
over_limit = 10

-- 11 "result, or a loaded set, longer than its table"
abbrev pub table_full : ℕ
table_full = 11

-- 12 "coordinate out of range, low over high, absent axis not 0"
abbrev pub bad_point : ℕ
bad_point = 12

-- 13 "search limit"
abbrev pub bad_limit : ℕ
bad_limit = 13

-- 14 "script: set number over 3"
abbrev pub no_such_set : ℕ
no_such_set = 14

-- 15 "script: `10` not first, or again"
abbrev pub out_of_place : ℕ
out_of_place = 15

-- 02, 2: "16 for more than 64 points or a list that isn't a whole number of points"
abbrev pub bad_fleet : ℕ
bad_fleet = 16

-- 02, 6: "17 for a `16` or `17` with number 0"
abbrev pub no_number : ℕ
no_number = 17

-- 02, 8: "18 for a name over 15 or, in going back, never marked or forgotten"
abbrev pub bad_name : ℕ
bad_name = 18

-- 02, 12: "19 for a chosen axis that isn't 1 to n or whose side has over 64 values"
abbrev pub bad_axis : ℕ
bad_axis = 19
