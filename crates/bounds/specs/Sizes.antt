-- How large the numbers of asking get: what follows from the limits of coordinates, coefficients (16 bits) and constants (32 bits).
use Rattle.std.specs.Prelude.{ℕ, ◌+◌, ◌*◌}
use Rattle.model.specs.Limits.{most_axes, most_coordinate}

-- how far an end of a side moves, from one coordinate to another
abbrev pub most_move : ℕ
most_move = 2 * most_coordinate

-- the axes' part of a division or a rule at coordinates: 2^38
abbrev pub most_axes_part : ℕ
most_axes_part = most_axes * (32768 * most_coordinate)

-- the same where an end of one side has moved
abbrev pub most_moved_part : ℕ
most_moved_part = most_axes_part + 32768 * most_move

-- the value of a division, and an end of its values: with a constant of 32 bits 2^38 + 2^36 + 2^31 at most, so twice the axes' part covers it
abbrev pub most_quotient : ℕ
most_quotient = 2 * most_axes_part
