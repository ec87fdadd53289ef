-- What the functions of a turn ask and give.
use Rattle.std.specs.Prelude.{◌≡◌, List, ℕ, ◌≤◌, length, get_or}
use Rattle.model.specs.Limits.{most_axes, most_divisions}
use Rattle.codec.specs.Places.{Whole}
use Rattle.session.specs.Script.{room}
use Rattle.session.specs.Turns.{Turned, state_at, goes_on}
use Rattle.listing.specs.Written.{Wrote}
use Rattle.commands.specs.declared.commands.CommandDone.{CommandDone}
use Rattle.session.specs.declared.Cursor.{Cursor}
use Rattle.session.specs.declared.State.{State}
use Rattle.script.specs.declared.turns.Turn.{Turn}
use Rattle.session.specs.declared.Next.{Next}
use Rattle.commands.specs.Promises.{Holds}

-- the contract of a turn: its text in the line, and every byte of the memory
pub record Says (e : Turned) (r : Turn) (out out' : List ℕ) : Type 0 where
  pub text : Wrote e.text out 0 r.text out'
  pub used : r.used ≡ e.used
  pub state : r.state ≡ e.state
  pub next : r.next ≡ e.next

pub record TurnIs (e : Turned) (r : Turn) (out out' : List ℕ) (tables lengths result : List ℕ) : Type 0 where
  pub says : Says e r out out'
  pub holds : Holds e.memory tables lengths result

-- ---- what its functions go by

-- a cursor of a listing
pub record CursorIn (c : Cursor) (lengths : List ℕ) : Type 0 where
  pub set_is : c.set ≤ 3
  pub place_in : c.place ≤ get_or lengths c.set 0
  pub few_basics : c.basics ≤ room
  pub few_divisions : c.divisions ≤ most_divisions

-- the command of a listing at the cursor's place in s, all there
pub record Shows (n : ℕ) (c : Cursor) (s out : List ℕ) : Type 0 where
  pub axes : n ≤ most_axes
  pub line_long : 512 ≤ length out
  pub few_basics : c.basics ≤ room
  pub few_divisions : c.divisions ≤ most_divisions
  pub whole : Whole s c.place

-- turns as the code makes them
abbrev pub silent_turn : State → Next → Turn
silent_turn st x = record { text = 0; used = 0; state = st; next = x }

abbrev pub after_turn : CommandDone → ℕ → Turn
after_turn d w = record { text = d.text; used = w; state = state_at d.axes d.listing; next = goes_on d.goes }
