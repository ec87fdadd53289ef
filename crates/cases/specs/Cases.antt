-- The 13 starred cases of document 01, "Worked on the board": a table, and one proof over its rows, by computation.
-- Sets go through their bytes wherever a call takes or gives them, with n = 1 and tables of 8,000 bytes.
use Rattle.std.specs.Prelude.{Bool, true, false, ◌&&◌, List, [], ◌∷◌, ◌++◌, map, ℕ, ℤ, pos, negsuc, eqb, length, replicate}
use Rattle.std.specs.Bool.{beq}
use Prim.Native.String.{String}
use Rattle.model.specs.Limits.{set_bytes}
use Rattle.model.specs.Sets.{Division, Kind, equality, inequality, Constraint, Set, floor_div}
use Rattle.algebra.specs.Cut.{opposites, sameℤ, same_list}
use Rattle.codec.specs.Bytes.{Answer, refused, gives, encode}
use Rattle.algebra.specs.Operations.{difference_bytes, complement_bytes, intersection_bytes}
use Rattle.query.specs.Member.{member_bytes}
use Rattle.enumeration.specs.Search.{Found, at, nothing, spent, Tallied, search_bytes}
use Rattle.listing.specs.Text.{codes}
use Rattle.session.specs.Script.{script}

-- ---- the sets of the cases

-- 8 places, the first given
abbrev pub first : ℤ → List ℤ
first a = a ∷ replicate 7 (pos 0)

-- c + a·x + b·q, that is = 0 or ≥ 0
abbrev pub on : Kind → ℤ → ℤ → ℤ → Constraint
on k c a b = record { kind = k; number = 0; constant = c; axes = first a; divisions = first b }

abbrev pub ge : ℤ → ℤ → Constraint
ge c a = on inequality c a (pos 0)

abbrev pub plain : List Constraint → Set
plain rs = record { divisions = []; constraints = rs } ∷ []

-- 0 ≤ x ≤ 2186
abbrev pub set_a : Set
set_a = plain (ge (pos 0) (pos 1) ∷ ge (pos 2186) (negsuc 0) ∷ [])

abbrev pub tenth : Division
tenth = record { divisor = 10; constant = pos 0; axes = first (pos 1) }

-- floor(x/10) = 218
abbrev pub set_b : Set
set_b = record { divisions = tenth ∷ []; constraints = on equality (negsuc 217) (pos 0) (pos 1) ∷ [] } ∷ []

-- 2x − 1 = 0
abbrev pub half : Set
half = plain (on equality (negsuc 0) (pos 2) (pos 0) ∷ [])

-- A's rules and −q + 217 ≥ 0
abbrev pub minus_b : Set
minus_b = record { divisions = tenth ∷ []; constraints = ge (pos 0) (pos 1) ∷ ge (pos 2186) (negsuc 0) ∷ on inequality (pos 217) (pos 0) (negsuc 0) ∷ [] } ∷ []

-- ---- equal answers

abbrev pub same_bytes : List ℕ → List ℕ → Bool
same_bytes [] [] = true
same_bytes [] (b ∷ bs) = false
same_bytes (a ∷ us) [] = false
same_bytes (a ∷ us) (b ∷ bs) = eqb a b && same_bytes us bs

-- the bytes of s, n of them
abbrev pub gives_bytes : Answer (List ℕ) → Set → ℕ → Bool
gives_bytes (refused m) s n = false
gives_bytes (gives bs) s n = same_bytes bs (encode s) && eqb (length bs) n

abbrev pub gives_bool : Answer Bool → Bool → Bool
gives_bool (refused m) b = false
gives_bool (gives a) b = beq a b

abbrev pub same_found : Found → Found → Bool
same_found (at p) f = elim f [ at q ↦ same_list p q | nothing ↦ false | spent ↦ false ]
same_found nothing f = elim f [ at q ↦ false | nothing ↦ true | spent ↦ false ]
same_found spent f = elim f [ at q ↦ false | nothing ↦ false | spent ↦ true ]

abbrev pub gives_found : Answer Tallied → Found → ℕ → Bool
gives_found (refused m) f n = false
gives_found (gives t) f n = same_found t.found f && eqb t.tested n

-- ---- the table

pub data Case : Type 0 where
  -- a point is in, or not
  member : Set → ℤ → Bool → Case
  -- floor(z/d)
  floor : ℤ → ℕ → ℤ → Case
  -- first, second, result and its length
  minus : Set → Set → Set → ℕ → Case
  complement : Set → Set → ℕ → Case
  -- the same with a script and all that it prints
  listed : Set → Set → ℕ → List ℕ → String → Case
  -- the constants of a rule's opposites
  opposite : Constraint → List ℤ → Case
  intersect : Set → Set → Set → ℕ → Case
  -- set, low, high, limit; answer and tally
  search_case : Set → ℤ → ℤ → ℕ → Found → ℕ → Case

abbrev pub right : Case → Bool
right (member s x b) = gives_bool (member_bytes 1 (encode s) (first x)) b
right (floor z d q) = sameℤ (floor_div z d) q
right (minus s t r n) = gives_bytes (difference_bytes 1 set_bytes (encode s) (encode t)) r n
right (complement s r n) = gives_bytes (complement_bytes 1 set_bytes (encode s)) r n
right (listed s r n input w) = gives_bytes (complement_bytes 1 set_bytes (encode s)) r n && same_bytes (script input) (codes w)
right (opposite r cs) = same_list (map (λ (o : Constraint). o.constant) (opposites r)) cs
right (intersect s t r n) = gives_bytes (intersection_bytes 1 set_bytes (encode s) (encode t)) r n
right (search_case s l h k f n) = gives_found (search_bytes 1 (encode s) (first l) (first h) k) f n

-- `10 01`, `40 00 4B 00` with A, `44 01 00`, `45 01`, `00`
abbrev pub script_a : List ℕ
script_a = 0x10 ∷ 0x01 ∷ 0x40 ∷ 0x00 ∷ 0x4B ∷ 0x00 ∷ encode set_a ++ (0x44 ∷ 0x01 ∷ 0x00 ∷ 0x45 ∷ 0x01 ∷ 0x00 ∷ [])

abbrev pub cases : List Case
cases =
    member set_a (pos 2186) true
    ∷ member set_a (pos 2187) false
    ∷ floor (negsuc 0) 10 (negsuc 0)
    ∷ floor (negsuc 2185) 10 (negsuc 218)
    ∷ minus set_a set_b minus_b 135
    ∷ minus set_a set_a [] 0
    ∷ minus set_a [] set_a 75
    ∷ complement [] (plain []) 1
    ∷ listed set_a (plain (ge (negsuc 0) (negsuc 0) ∷ []) ++ plain (ge (pos 0) (pos 1) ∷ ge (negsuc 2186) (pos 1) ∷ [])) 113 script_a
    "axes 1\ndone\ndone\nset 1 has 2\nbasic 1\nge -1 -1\nbasic 2\nge 0 1\nge -2187 1\nend\n"
    ∷ opposite (ge (negsuc 2147483647) (pos 1)) (pos 2147483647 ∷ [])
    ∷ intersect half (plain []) [] 0
    ∷ search_case half (pos 0) (pos 1) 1000 nothing 2
    ∷ search_case half (pos 0) (pos 1) 1 spent 1
    ∷ []
