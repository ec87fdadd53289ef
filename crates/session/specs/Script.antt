-- The program `pitsets`: from the bytes of its input to the bytes of its output (document 01, "The script program").
-- A step looks at the bytes from one command on: either the script ends there by a refusal of its own (`ending`), or the command is
-- whole, does what `execute` says with its own bytes only, and the script goes on behind it or has ended.
use Rattle.std.specs.Prelude.{Bool, true, false, not, ◌||◌, cond, List, [], ◌∷◌, ◌++◌, ℕ, zero, suc, ◌+◌, ℤ, pos, leb, ltb, eqb, length, take, drop, get_or, set, replicate}
use Rattle.model.specs.Limits.{most_axes, last_set, set_bytes}
use Rattle.model.specs.Refusals.{bad_axes, unknown_command, cut_short, table_full, no_such_set, out_of_place}
use Rattle.model.specs.Lists.{all}
use Rattle.model.specs.Sets.{Set}
use Rattle.codec.specs.Bytes.{Answer, refused, gives, value_of, signed, first_failing, axes_fit, decode}
use Rattle.algebra.specs.Operations.{union_bytes, intersection_bytes, difference_bytes, complement_bytes}
use Rattle.query.specs.Member.{member_bytes}
use Rattle.enumeration.specs.Search.{Found, at, nothing, spent, Tallied, search_bytes}
use Rattle.listing.specs.Text.{line, listing}

-- n, 0 before `10` gives it; and the bytes of sets 0 to 3, "empty at first"
pub record State : Type 0 where
  pub axes : ℕ
  pub sets : List (List ℕ)

abbrev pub empty : State
empty = record { axes = 0; sets = replicate (last_set + 1) [] }

abbrev pub set_at : State → ℕ → List ℕ
set_at st m = get_or st.sets m []

-- "8,000 bytes each"
abbrev pub room : ℕ
room = set_bytes

-- ---- commands and their operands

-- 41 union, 42 intersection, 43 difference
abbrev pub is_binary : ℕ → Bool
is_binary b = eqb b 0x41 || (eqb b 0x42 || eqb b 0x43)

-- the bytes of a command by its first, a load's without those of its set; 0: unknown
abbrev pub fixed_width : ℕ → ℕ
fixed_width b =
    cond (eqb b 0x00) 1
    (cond (eqb b 0x10) 2
    (cond (eqb b 0x40 || is_binary b) 4 (cond (eqb b 0x44) 3 (cond (eqb b 0x45) 2 (cond (eqb b 0x46) 34 (cond (eqb b 0x47) 70 0))))))

-- "40 set, length (16 bits), bytes": the length, of the bytes from the command on
abbrev pub load_length : List ℕ → ℕ
load_length s = value_of (take 2 (drop 2 s))

-- the bytes of the command at the head; only its first four are looked at
abbrev pub command_width : List ℕ → ℕ
command_width [] = 0
command_width (b ∷ s) = fixed_width b + cond (eqb b 0x40) (load_length (b ∷ s)) 0

-- how many of the operands are set numbers; they come first
abbrev pub set_numbers : ℕ → ℕ
set_numbers b = cond (is_binary b) 3 (cond (eqb b 0x44) 2 1)

-- k signed numbers of 32 bits
abbrev pub coordinates : ℕ → List ℕ → List ℤ
coordinates zero s = []
coordinates (suc k) s = signed 4 (value_of (take 4 s)) ∷ coordinates k (drop 4 s)

-- ---- the refusals that end the script: 2, 15, 3, in that order; 0 is none

-- `10` is the first command, and only the first
abbrev pub in_place : ℕ → ℕ → Bool
in_place axes b = cond (eqb axes 0) (eqb b 0x10) (not (eqb b 0x10))

unfoldable pub ending : ℕ → List ℕ → ℕ
ending axes [] = cut_short
ending axes (b ∷ s) =
    first_failing ((ltb 0 (fixed_width b), unknown_command) ∷ (in_place axes b, out_of_place) ∷ (leb (command_width (b ∷ s)) (suc (length s)), cut_short) ∷ [])

-- ---- what a command prints, the state after it, and whether the script goes on

pub record Done : Type 0 where
  pub text : List ℕ
  pub state : State
  pub goes : Bool

abbrev pub says : State → List ℕ → Done
says st l = record { text = l; state = st; goes = true }

abbrev pub ends : State → List ℕ → Done
ends st l = record { text = l; state = st; goes = false }

abbrev pub refused_line : ℕ → List ℕ
refused_line k = line "refused" (pos k ∷ [])

-- `10`: "axes and n"; 1 of the script ends it
abbrev pub opened : State → ℕ → Done
opened st n = cond (axes_fit n) (says (record { axes = n; sets = st.sets }) (line "axes" (pos n ∷ []))) (ends st (refused_line bad_axes))

-- `40` to `44`: done, or the refusal's line and the target as it was
abbrev pub stored : State → ℕ → Answer (List ℕ) → Done
stored st m (refused k) = says st (refused_line k)
stored st m (gives l) = says (record { axes = st.axes; sets = set st.sets m l }) (line "done" [])

-- a loaded set: its own refusals, then 11
abbrev pub fitting : List ℕ → Answer Set → Answer (List ℕ)
fitting l (refused k) = refused k
fitting l (gives s) = cond (leb (length l) room) (gives l) (refused table_full)

unfoldable pub load_bytes : ℕ → List ℕ → Answer (List ℕ)
load_bytes n l = fitting l (decode n l)

-- `45` to `47`: a text, or the refusal's line
abbrev pub told : {A : Type 0} → State → (A → List ℕ) → Answer A → Done
told st f (refused k) = says st (refused_line k)
told st f (gives a) = says st (f a)

abbrev pub member_line : Bool → List ℕ
member_line true = line "in" []
member_line false = line "out" []

-- "at with n coordinates, none or spent, then the tally"
abbrev pub found_line : ℕ → Found → List ℕ
found_line k (at p) = line "at" (p ++ (pos k ∷ []))
found_line k nothing = line "none" (pos k ∷ [])
found_line k spent = line "spent" (pos k ∷ [])

abbrev pub search_line : Tallied → List ℕ
search_line t = found_line t.tested t.found

-- a command whose set numbers are good, with the operands s
unfoldable pub perform : State → ℕ → List ℕ → Done
perform st b s =
    let n : ℕ = st.axes in
    let m : ℕ = get_or s 0 0 in
    let first : List ℕ = set_at st (get_or s 1 0) in
    let second : List ℕ = set_at st (get_or s 2 0) in
    cond (eqb b 0x40) (stored st m (load_bytes n (drop 3 s)))
    (cond (eqb b 0x41) (stored st m (union_bytes n room first second))
    (cond (eqb b 0x42) (stored st m (intersection_bytes n room first second))
    (cond (eqb b 0x43) (stored st m (difference_bytes n room first second))
    (cond (eqb b 0x44) (stored st m (complement_bytes n room first))
    (cond (eqb b 0x45) (told st (listing n m) (decode n (set_at st m)))
    (cond (eqb b 0x46) (told st member_line (member_bytes n (set_at st m) (coordinates most_axes (drop 1 s))))
    (told st search_line (search_bytes n (set_at st m) (coordinates most_axes (drop 5 s)) (coordinates most_axes (drop 37 s)) (value_of (take 4 (drop 1 s)))))))))))

-- the bytes of one whole command: `00` ends, `10` opens, any other has its set numbers looked at first (14) and is performed
unfoldable pub execute : State → List ℕ → Done
execute st [] = ends st []
execute st (b ∷ s) =
    cond (eqb b 0x00) (ends st (line "end" []))
    (cond (eqb b 0x10) (opened st (get_or s 0 0))
    (cond (all (λ (m : ℕ). leb m last_set) (take (set_numbers b) s)) (perform st b s) (says st (refused_line no_such_set))))

-- ---- the script, command by command; the first number bounds how many

unfoldable pub run : ℕ → State → List ℕ → List ℕ
run zero st s = []
run (suc f) st s =
    elim (ending st.axes s) [
      | suc k ↦ refused_line (suc k)
      | zero ↦
          let d : Done = execute st (take (command_width s) s) in
          d.text ++ elim d.goes [ false ↦ [] | true ↦ run f d.state (drop (command_width s) s) ]
    ]

-- all that the program prints: each command has a byte, and one more step ends the script
unfoldable pub script : List ℕ → List ℕ
script s = run (suc (length s)) empty s
