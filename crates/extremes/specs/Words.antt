-- A value in words, for C: "both numbers of 128 bits" (document 02, request 11).
use Rattle.std.specs.Prelude.{List, [], ◌∷◌, ℕ, suc, ◌-◌, ◌/◌, ◌%◌, ℤ, pos, negsuc, replicate}
use Rattle.codec.specs.Bytes.{Answer, refused, gives}
use Rattle.optimum.specs.Value.{Extreme, empty, unbounded, too_wide, too_long, attained}

-- two's complement at 128 bits: a number below 0 is 2^128 more
abbrev pub complement : ℤ → ℕ
complement (pos n) = n
complement (negsuc n) = 340282366920938463463374607431768211456 - suc n

-- numerator and denominator, of each the lower word first
abbrev pub extreme_words : Extreme → List ℕ
extreme_words empty = replicate 4 0
extreme_words unbounded = replicate 4 0
extreme_words too_wide = replicate 4 0
extreme_words too_long = replicate 4 0
extreme_words (attained p q) =
    (complement p % 18446744073709551616) ∷ (complement p / 18446744073709551616) ∷ (q % 18446744073709551616) ∷ (q / 18446744073709551616) ∷ []

-- "A refused answer carries its number and otherwise zeros" (document 01)
abbrev pub value_words : Answer Extreme → List ℕ
value_words (refused k) = replicate 4 0
value_words (gives x) = extreme_words x
