-- What the program lends and moves: the memory of a run, and the bytes between a read and the turns.
use Rattle.std.specs.Prelude.{◌≡◌, true, false, List, ℕ, ◌-◌, ◌≤◌, ◌<◌, length, take, drop}
use Rattle.session.specs.Turns.{memory}
use Rattle.session.specs.Session.{Fresh}
use Rattle.pitsets.specs.declared.Filled.{Filled}

-- the bytes from..have of the table that is read into: read and not used
abbrev pub unused : List ℕ → ℕ → ℕ → List ℕ
unused l from have = take (have - from) (drop from l)

-- What a run is lent. The longest command, `40` with 65,535 bytes, has 65,539: it fits with room for a read behind it.
-- No line is longer than 512.
pub record Lent (read sets lengths answer text : List ℕ) : Type 0 where
  pub read_long : length read ≡ 69632
  pub fresh : Fresh (memory sets lengths answer)
  pub line_long : 512 ≤ length text

-- One read: what was not used stands at the front as it was, with what came behind it; nothing came exactly where the
-- input has ended.
pub record Refilled (l l' : List ℕ) (from have turns : ℕ) (r : Filled) : Type 0 where
  pub kept : take (have - from) l' ≡ unused l from have
  pub more : have - from ≤ r.have
  pub within : r.have ≤ length l
  pub end : r.ended ≡ true → r.have ≡ have - from
  pub goes_on : r.ended ≡ false → have - from < r.have
  pub turns_left : r.turns ≤ turns
