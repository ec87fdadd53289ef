-- The script program as it runs: in fixed memory, one turn after the other, on the part of the input that has been read so far.
-- A turn prints one line at most: a listing (`45`) is printed line by line, so that no buffer bounds it.
use Rattle.std.specs.Prelude.{◌≡◌, Bool, true, false, not, ◌&&◌, ◌||◌, cond, List, [], ◌∷◌, ◌++◌, ℕ, zero, suc, ◌+◌, ◌*◌, ◌≤◌, pos, leb, ltb, eqb, length, take, drop, get_or, set, Option, Some, None}
use Rattle.model.specs.Limits.{most_axes, most_divisions, last_set}
use Rattle.model.specs.Refusals.{cut_short}
use Rattle.model.specs.Lists.{all}
use Rattle.model.specs.Sets.{Set}
use Rattle.codec.specs.Bytes.{Answer, refused, gives, decode, is_opening, is_division, head_of, body_in, width_of, read_division, read_constraint, kind_of}
use Rattle.algebra.specs.Operations.{union_bytes, intersection_bytes, difference_bytes, complement_bytes}
use Rattle.algebra.specs.Result.{table_of}
use Rattle.listing.specs.Text.{codes, number, line, division_line, constraint_line}
use Rattle.session.specs.Script as S
use Rattle.session.specs.Script.{room, set_at, is_binary, set_numbers, command_width, ending, Done, refused_line, load_bytes, execute}
use Rattle.listing.specs.Written.{put}
use Rattle.session.specs.declared.Cursor.{Cursor}
use Rattle.session.specs.declared.State.{State}
use Rattle.session.specs.declared.Next.{Next}
use Rattle.session.specs.declared.Next.TheVariants.{Goes, Reads, Ends, Misused}

-- ---- the command at the front of what has been read

abbrev pub cut_off : Bool → Answer (Option ℕ)
cut_off ended = cond (not ended) (gives None) (refused cut_short)

-- whole, or more input is needed, or the script ends by a number; `ended`: there is no more input
unfoldable pub front_of : ℕ → Bool → List ℕ → Answer (Option ℕ)
front_of axes ended s =
    elim (ending axes s) [ zero ↦ gives (Some (command_width s)) | suc k ↦ cond (eqb (suc k) cut_short && not ended) (gives None) (refused (suc k)) ]

-- ---- memory

-- four tables of `room` bytes one behind the other, the lengths of the sets in them, and a table for results
pub record Memory : Type 0 where
  pub tables : List ℕ
  pub lengths : List ℕ
  pub result : List ℕ

abbrev pub table_at : List ℕ → List ℕ → ℕ → List ℕ
table_at tables lengths m = take (get_or lengths m 0) (drop (room * m) tables)

-- the state of the script that the memory holds
abbrev pub state_in : ℕ → List ℕ → List ℕ → S.State
state_in n tables lengths =
    record { axes = n; sets = table_at tables lengths 0 ∷ table_at tables lengths 1 ∷ table_at tables lengths 2 ∷ table_at tables lengths 3 ∷ [] }

abbrev pub state_of : ℕ → Memory → S.State
state_of n y = state_in n y.tables y.lengths

abbrev pub memory : List ℕ → List ℕ → List ℕ → Memory
memory tables lengths result = record { tables = tables; lengths = lengths; result = result }

-- an answer in the table for results and, where it is a set, in table m
abbrev pub keeps : Memory → ℕ → Answer (List ℕ) → Memory
keeps y m (refused k) = record { tables = y.tables; lengths = y.lengths; result = table_of room (refused k) }
keeps y m (gives l) =
    record { tables = put (room * m) (table_of room (gives l)) y.tables; lengths = set y.lengths m (length l); result = table_of room (gives l) }

-- ---- what a command does beside printing

pub data Effect : Type 0 where
  -- nothing
  none : Effect
  -- set m is listed: the first line now, the others turn by turn
  lists : ℕ → Set → Effect
  -- table m is assigned
  assigns : ℕ → Answer (List ℕ) → Effect

abbrev pub listed : ℕ → Answer Set → Effect
listed m (refused k) = none
listed m (gives t) = lists m t

-- `40` to `44` assign a set
abbrev pub is_assignment : ℕ → Bool
is_assignment b = eqb b 0x40 || (is_binary b || eqb b 0x44)

-- what they assign, with the operands s
unfoldable pub answer_of : S.State → ℕ → List ℕ → Answer (List ℕ)
answer_of st b s =
    let n : ℕ = st.axes in
    let first : List ℕ = set_at st (get_or s 1 0) in
    let second : List ℕ = set_at st (get_or s 2 0) in
    cond (eqb b 0x40) (load_bytes n (drop 3 s))
    (cond (eqb b 0x41) (union_bytes n room first second)
    (cond (eqb b 0x42) (intersection_bytes n room first second)
    (cond (eqb b 0x43) (difference_bytes n room first second) (complement_bytes n room first))))

-- a command whose set numbers are good
unfoldable pub performs : S.State → ℕ → List ℕ → Effect
performs st b s =
    cond (is_assignment b) (assigns (get_or s 0 0) (answer_of st b s)) (cond (eqb b 0x45) (listed (get_or s 0 0) (decode st.axes (set_at st (get_or s 0 0)))) none)

unfoldable pub effect_of : S.State → List ℕ → Effect
effect_of st [] = none
effect_of st (b ∷ s) = cond (all (λ (m : ℕ). leb m 3) (take (set_numbers b) s)) (performs st b s) none

-- ---- listings

-- "a listing opens with the set's number and its count of basic sets"
abbrev pub header_line : ℕ → ℕ → List ℕ
header_line m k = codes "set" ++ (number (pos m) ++ line " has" (pos k ∷ []))

abbrev pub start_of : ℕ → Cursor
start_of m = record { set = m; place = 0; basics = 0; divisions = 0 }

-- the line of the command b with the bytes t after it, at a cursor
abbrev pub line_of : ℕ → Cursor → ℕ → List ℕ → List ℕ
line_of n c b t =
    cond (is_opening b) (line "basic" (pos (c.basics + 1) ∷ []))
    (cond (is_division b) (division_line n (read_division (head_of b t) (body_in b t))) (constraint_line n c.divisions (read_constraint (kind_of b) (body_in b t))))

-- the cursor after it
abbrev pub past : Cursor → ℕ → Cursor
past c b =
    record {
      set = c.set;
      place = c.place + width_of b;
      basics = cond (is_opening b) (c.basics + 1) c.basics;
      divisions = cond (is_opening b) 0 (cond (is_division b) (c.divisions + 1) c.divisions);
    }

-- whether the command at the head is known and all there
abbrev pub there : List ℕ → Bool
there [] = false
there (b ∷ t) = ltb 0 (width_of b) && leb (width_of b) (suc (length t))

-- ---- what is lent

-- the tables and the lengths of the sets in them
pub record Fitted (tables lengths : List ℕ) : Type 0 where
  pub tables_long : length tables ≡ 32000
  pub lengths_long : length lengths ≡ last_set + 1
  pub fit : (m : ℕ) → get_or lengths m 0 ≤ room

-- the text at once, the listing and the memory by the effect
abbrev pub shown : List ℕ → Effect → List ℕ
shown l none = l
shown l (lists m t) = header_line m (length t)
shown l (assigns m a) = l

abbrev pub listing_of : Effect → Option Cursor
listing_of none = None
listing_of (lists m t) = Some (start_of m)
listing_of (assigns m a) = None

abbrev pub memory_of : Memory → Effect → Memory
memory_of y none = y
memory_of y (lists m t) = y
memory_of y (assigns m a) = keeps y m a

-- ---- a turn

pub record Turned : Type 0 where
  pub text : List ℕ
  pub used : ℕ
  pub state : State
  pub next : Next
  pub memory : Memory

abbrev pub quiet : State → Memory → Next → Turned
quiet st y x = record { text = []; used = 0; state = st; next = x; memory = y }

abbrev pub state_at : ℕ → Option Cursor → State
state_at n l = record { axes = n; listing = l }

-- a line of a listing, from the bytes at the cursor on; or nothing, and the listing is over
abbrev pub line_turn : ℕ → Memory → Cursor → List ℕ → Turned
line_turn n y c [] = quiet (state_at n None) y Goes
line_turn n y c (b ∷ t) =
    cond (there (b ∷ t)) (record { text = line_of n c b t; used = 0; state = state_at n (Some (past c b)); next = Goes; memory = y }) (quiet (state_at n None) y Goes)

abbrev pub goes_on : Bool → Next
goes_on true = Goes
goes_on false = Ends

-- one whole command c
abbrev pub command_turn : State → Memory → List ℕ → Turned
command_turn st y c =
    let d : Done = execute (state_of st.axes y) c in
    let e : Effect = effect_of (state_of st.axes y) c in
    record { text = shown d.text e; used = length c; state = record { axes = d.state.axes; listing = listing_of e }; next = goes_on d.goes; memory = memory_of y e }

abbrev pub front_turn : State → Memory → List ℕ → Answer (Option ℕ) → Turned
front_turn st y s (gives (Some w)) = command_turn st y (take w s)
front_turn st y s (gives None) = quiet st y Reads
front_turn st y s (refused k) = record { text = refused_line k; used = 0; state = st; next = Ends; memory = y }

abbrev pub turn_in : State → Memory → Bool → List ℕ → Option Cursor → Turned
turn_in st y ended s (Some c) = line_turn st.axes y c (drop c.place (table_at y.tables y.lengths c.set))
turn_in st y ended s None = front_turn st y s (front_of st.axes ended s)

-- what a turn may be lent: tables of their sizes, lengths within them, `width` bytes for a line, and a state that turns leave
abbrev pub cursor_in : List ℕ → Cursor → Bool
cursor_in lengths c = leb c.set last_set && (leb c.place (get_or lengths c.set 0) && (leb c.basics room && leb c.divisions most_divisions))

abbrev pub cursor_fits : List ℕ → Option Cursor → Bool
cursor_fits lengths None = true
cursor_fits lengths (Some c) = cursor_in lengths c

unfoldable pub usable : State → Memory → ℕ → Bool
usable st y width =
    eqb (length y.tables) 32000
    && (eqb (length y.lengths) (last_set + 1) && (all (λ (l : ℕ). leb l room) y.lengths && (eqb (length y.result) room && (leb 512 width && (leb st.axes most_axes && cursor_fits y.lengths st.listing)))))

-- the turn of a state on what has been read; memory or a state that no turn leaves is not touched
unfoldable pub turn_of : State → Memory → ℕ → Bool → List ℕ → Turned
turn_of st y width ended s = cond (usable st y width) (turn_in st y ended s st.listing) (quiet st y Misused)
