-- A refusal of the code (src/refusal.rt) by its number, and whether a result is one.
use Rattle.std.specs.Prelude.{ℕ, Result, Ok, Err}
use Rattle.model.specs.Refusals.{bad_axes, unknown_command, cut_short, no_basic_set, late_division, bad_divisor, out_of_range, not_absent, too_many, over_limit, table_full, bad_point, bad_limit, no_such_set, out_of_place, bad_fleet, no_number, bad_name, bad_axis}
use Rattle.model.specs.declared.refusal.Refusal.{Refusal}
use Rattle.model.specs.declared.refusal.Refusal.TheVariants.{BadAxes, UnknownCommand, CutShort, NoBasicSet, LateDivision, BadDivisor, OutOfRange, NotAbsent, TooMany, OverLimit, TableFull, BadPoint, BadLimit, NoSuchSet, OutOfPlace, BadFleet, NoNumber, BadName, BadAxis}

abbrev pub number_of : Refusal → ℕ
number_of BadAxes = bad_axes
number_of UnknownCommand = unknown_command
number_of CutShort = cut_short
number_of NoBasicSet = no_basic_set
number_of LateDivision = late_division
number_of BadDivisor = bad_divisor
number_of OutOfRange = out_of_range
number_of NotAbsent = not_absent
number_of TooMany = too_many
number_of OverLimit = over_limit
number_of TableFull = table_full
number_of BadPoint = bad_point
number_of BadLimit = bad_limit
number_of NoSuchSet = no_such_set
number_of OutOfPlace = out_of_place
number_of BadFleet = bad_fleet
number_of NoNumber = no_number
number_of BadName = bad_name
number_of BadAxis = bad_axis

-- the number of a refusal, 0 for none
abbrev pub number_in : {A : Type 0} → Result A Refusal → ℕ
number_in (Ok x) = 0
number_in (Err r) = number_of r
