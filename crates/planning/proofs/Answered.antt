-- Named states on small rules, by computation.
use mathlib.Core.Path.{◌≡◌, refl}
use mathlib.Core.List.{List, [], ◌∷◌, ◌++◌}
use mathlib.Core.Option.{Option, none, some}
use Prim.Native.Nat.{ℕ}
use lib.IntN.{ℤ, pos, negsuc}
use lib.ListN.{replicate}
use Rattle.model.specs.Sets.{equality, inequality, Division, Constraint}
use Rattle.codec.specs.Bytes.{refused, gives}
use Rattle.feasibility.specs.Tableau.{point, dropped, wide, look, exchange, reach, ends_at, test_ends}
use Rattle.planning.specs.Draft.{Draft, settled, settled_on}
use Rattle.planning.specs.State.{State, begun, begun_at, row_at, added, added_at}
use Rattle.planning.specs.Desk.{Call, start, add, mark, back, words, words_at}

abbrev ge : ℤ → List ℤ → Constraint
ge c a = record { kind = inequality; number = 0; constant = c; axes = a; divisions = [] }

abbrev axis : ℤ → List ℤ
axis z = z ∷ []

-- ---- what a state says

-- 0 ≤ x ≤ 2186 is open. A planner tries the closure x ≤ −1: empty, and what is added then is not looked at. Back, x ≥ 100 instead
pub closure : words 1 []
    (add (ge (pos 0) (axis (pos 1)))
    ∷ add (ge (pos 2186) (axis (negsuc 0)))
    ∷ mark 3
    ∷ add (ge (negsuc 0) (axis (negsuc 0)))
    ∷ add (ge (pos 5) (axis (pos 1)))
    ∷ back 3
    ∷ add (ge (negsuc 99) (axis (pos 1)))
    ∷ [])
    ≡ gives point ∷ gives point ∷ gives point ∷ gives point ∷ gives dropped ∷ gives dropped ∷ gives point ∷ gives point ∷ []
unfolding begun added settled_on test_ends ends_at reach look exchange
closure = refl

-- q = floor(x / 10) and q = 218: then x ≥ 2180, so x ≤ 2179 is empty
pub tens : words 1 (record { divisor = 10; constant = pos 0; axes = axis (pos 1) } ∷ [])
    (add (record { kind = equality; number = 0; constant = negsuc 217; axes = []; divisions = pos 1 ∷ [] }) ∷ mark 0 ∷ add (ge (pos 2179) (axis (negsuc 0))) ∷ back 0 ∷ add (ge (pos 2180) (axis (negsuc 0))) ∷ [])
    ≡ gives point ∷ gives point ∷ gives point ∷ gives dropped ∷ gives point ∷ gives point ∷ []
unfolding begun added settled_on test_ends ends_at reach look exchange
tens = refl

-- ---- a row that needs two replacements

abbrev with : ℕ → ℕ → List Constraint → State
with W n [] = begun_at W n []
with W n (r ∷ rs) = added_at W (with W n rs) r

-- 2x − 1 ≥ 0 and 3y − 1 ≥ 0: x and y are rows, x = (1 + u) / 2 and y = (1 + v) / 3. So 5 − 2x − y is 5 − (1 + u) − (1 + v) / 3 = (11 − 3u − v) / 3
pub two : row_at 64 (with 64 2 (ge (negsuc 0) (pos 0 ∷ pos 3 ∷ []) ∷ ge (negsuc 0) (pos 2 ∷ []) ∷ [])) (ge (pos 5) (negsuc 1 ∷ negsuc 0 ∷ []))
    ≡ some (record { den = pos 3; nums = pos 11 ∷ negsuc 2 ∷ negsuc 0 ∷ replicate 6 (pos 0); waiting = replicate 8 (pos 0) })
unfolding begun_at added_at settled ends_at reach look exchange
two = refl

-- at 8 bits, whose bound is 7, with x ≥ 1 and y ≥ 1: x = 1 + u and y = 1 + v
abbrev row_of : Constraint → Option Draft
row_of r = row_at 8 (with 8 2 (ge (negsuc 0) (pos 0 ∷ pos 1 ∷ []) ∷ ge (negsuc 0) (pos 1 ∷ []) ∷ [])) r

-- 1 + x + 7y is 2 + u + 7y and then 9 + u + 7v; in 1 + 7x + y the 8 of 8 + 7u + y is beyond the bound; and so is 8 in x + 8y while x is replaced
pub order : (row_of (ge (pos 1) (pos 1 ∷ pos 7 ∷ [])) ≡ some (record { den = pos 1; nums = pos 9 ∷ pos 1 ∷ pos 7 ∷ replicate 6 (pos 0); waiting = replicate 8 (pos 0) }))
    × (row_of (ge (pos 1) (pos 7 ∷ pos 1 ∷ [])) ≡ none)
    × (row_of (ge (pos 0) (pos 1 ∷ pos 8 ∷ [])) ≡ none)
unfolding begun_at added_at settled ends_at reach look exchange
order = (refl, refl, refl)

-- ---- wide

-- at 16 bits, whose bound is 127: x ≥ 50 is pivoted; in 200 + x ≥ 0 the row is beyond the bound; it stays wide, whatever is added, until it goes back
pub beyond : words_at 16 1 [] (add (ge (negsuc 49) (axis (pos 1))) ∷ mark 0 ∷ add (ge (pos 200) (axis (pos 1))) ∷ add (ge (negsuc 0) []) ∷ back 0 ∷ add (ge (negsuc 0) []) ∷ [])
    ≡ gives point ∷ gives point ∷ gives point ∷ gives wide ∷ gives wide ∷ gives point ∷ gives dropped ∷ []
unfolding begun_at added_at settled ends_at reach look exchange
beyond = refl

-- the rule counts, and its row stays out of the tableau
abbrev fifty : State
fifty = with 16 1 (ge (negsuc 49) (axis (pos 1)) ∷ [])

pub unpivoted : (added_at 16 fifty (ge (pos 200) (axis (pos 1))) ≡ record { axes = 1; divisions = 0; rules = 2; kinds = fifty.kinds; tableau = fifty.tableau; says = wide })
    × (added_at 16 (added_at 16 fifty (ge (pos 200) (axis (pos 1)))) (ge (pos 0) []) ≡ record { axes = 1; divisions = 0; rules = 3; kinds = fifty.kinds; tableau = fifty.tableau; says = wide })
unfolding begun_at added_at settled ends_at reach look exchange
unpivoted = (refl, refl)

-- x ≥ 2,000,000,000, y ≥ 32767x, z ≥ 32767y, w ≥ 32767z: the second needs 128 bits for its pivot, the third for its row too, the fourth is wide there
abbrev heights : List Call
heights =
    add (ge (negsuc 1999999999) (axis (pos 1)))
    ∷ add (ge (pos 0) (negsuc 32766 ∷ pos 1 ∷ []))
    ∷ add (ge (pos 0) (pos 0 ∷ negsuc 32766 ∷ pos 1 ∷ []))
    ∷ add (ge (pos 0) (pos 0 ∷ pos 0 ∷ negsuc 32766 ∷ pos 1 ∷ []))
    ∷ []

pub higher : (words 4 [] heights ≡ gives point ∷ gives point ∷ gives point ∷ gives point ∷ gives wide ∷ [])
    × (words_at 64 4 [] heights ≡ gives point ∷ gives point ∷ gives wide ∷ gives wide ∷ gives wide ∷ [])
unfolding begun begun_at added added_at settled settled_on test_ends ends_at reach look exchange
higher = (refl, refl)

-- ---- names

-- never marked; over 15; forgotten by going back; and 2 stays when 1 is forgotten
pub names : words 1 [] (back 0 ∷ mark 16 ∷ back 16 ∷ mark 2 ∷ mark 1 ∷ back 2 ∷ back 1 ∷ back 2 ∷ [])
    ≡ gives point ∷ refused 18 ∷ refused 18 ∷ refused 18 ∷ gives point ∷ gives point ∷ gives point ∷ refused 18 ∷ gives point ∷ []
unfolding begun added settled_on test_ends ends_at reach look exchange
names = refl

-- 1 was marked before 2, and moves: going back to 2 forgets it
pub moves : words 1 [] (mark 1 ∷ mark 2 ∷ add (ge (negsuc 0) []) ∷ mark 1 ∷ back 1 ∷ back 2 ∷ back 1 ∷ [])
    ≡ gives point ∷ gives point ∷ gives point ∷ gives dropped ∷ gives dropped ∷ gives dropped ∷ gives point ∷ refused 18 ∷ []
unfolding begun added settled_on test_ends ends_at reach look exchange
moves = refl

-- a start has no marks; a refused one leaves them
pub anew : words 1 [] (mark 1 ∷ start 9 [] ∷ back 1 ∷ start 2 [] ∷ back 1 ∷ [])
    ≡ gives point ∷ gives point ∷ refused 1 ∷ gives point ∷ gives point ∷ refused 18 ∷ []
unfolding begun added settled_on test_ends ends_at reach look exchange
anew = refl

-- ---- refusals

abbrev empty : Call
empty = add (ge (negsuc 0) [])

-- 7, then 8, then 10 for the 49th; also while it is empty
pub refusals : words 1 [] (add (ge (pos 0) (axis (pos 32768))) ∷ add (ge (pos 0) (pos 0 ∷ pos 1 ∷ [])) ∷ empty ∷ add (ge (pos 0) (pos 0 ∷ negsuc 32767 ∷ [])) ∷ replicate 47 empty ++ (empty ∷ add (ge (pos 0) (pos 0 ∷ pos 1 ∷ [])) ∷ []))
    ≡ gives point ∷ refused 7 ∷ refused 8 ∷ gives dropped ∷ refused 7 ∷ replicate 47 (gives dropped) ++ (refused 10 ∷ refused 8 ∷ [])
unfolding begun added settled_on test_ends ends_at reach look exchange
refusals = refl

abbrev by : ℕ → Division
by d = record { divisor = d; constant = pos 0; axes = [] }

-- 1, and the divisions as they come: a ninth is 9 after the eighth's 6, whatever it is
pub starts : (words 0 (by 0 ∷ []) [] ≡ refused 1 ∷ [])
    × (words 1 (replicate 8 (by 1)) [] ≡ gives point ∷ [])
    × (words 1 (replicate 8 (by 1) ++ (by 0 ∷ [])) [] ≡ refused 9 ∷ [])
    × (words 1 (replicate 7 (by 1) ++ (by 0 ∷ by 1 ∷ [])) [] ≡ refused 6 ∷ [])
    × (words 1 (record { divisor = 1; constant = pos 1000000001; axes = pos 0 ∷ pos 1 ∷ [] } ∷ []) [] ≡ refused 7 ∷ [])
    × (words 1 (record { divisor = 1; constant = pos 0; axes = pos 0 ∷ pos 1 ∷ [] } ∷ []) [] ≡ refused 8 ∷ [])
unfolding begun added settled_on test_ends ends_at reach look exchange
starts = (refl, refl, refl, refl, refl, refl)
