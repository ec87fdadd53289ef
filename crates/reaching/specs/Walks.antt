-- Calls one after another on a memory, as the program takes them: in numbers (document 02, request 8).
use Rattle.std.specs.Prelude.{◌≡◌, List, [], ◌∷◌, ℕ, ◌/◌, ◌%◌, ℤ, length}
use Rattle.integers.specs.Z.{Within}
use Rattle.model.specs.Sets.{Division}
use Rattle.codec.specs.Bytes.{Answer, refused, gives}
use Rattle.feasibility.specs.Tableau.{Verdict, point, dropped, wide, long}
use Rattle.planning.specs.Desk as D
use Rattle.memory.specs.Memory.{Memory}
use Rattle.states.specs.Calls.{Saying}
use Rattle.states.specs.Calls.{Point, Empty, Wide, Long, Refused}
use Rattle.rules.specs.declared.Rule.{Rule}
use Rattle.rules.specs.Rules.{rule_of}
use Rattle.rules.specs.Divisions.{divisions_in}
use Rattle.states.specs.Calls.{Step, start_step, add_step, mark_step, back_step}

pub data Call : Type 0 where
  start : ℕ → List ℤ → Call
  add : Rule → Call
  mark back : ℕ → Call

-- ten numbers a division
abbrev pub divisions_of : List ℤ → List Division
divisions_of xs = divisions_in (length xs / 10) xs

-- the document's call
abbrev pub meant : Call → D.Call
meant (start n xs) = D.start n (divisions_of xs)
meant (add r) = D.add (rule_of r)
meant (mark k) = D.mark k
meant (back k) = D.back k

-- divisions come as ten numbers each; a rule's constant has 32 bits
abbrev pub Formed : Call → Type 0
Formed (start n xs) = length xs % 10 ≡ 0
Formed (add r) = Within 2147483648 r.constant
Formed (mark k) = Unit {0}
Formed (back k) = Unit {0}

abbrev pub AllFormed : List Call → Type 0
AllFormed [] = Unit {0}
AllFormed (c ∷ cs) = Formed c × AllFormed cs

-- it writes the slot of name j
abbrev pub Writes : Call → ℕ → Type 0
Writes (start n xs) j = ⊥
Writes (add r) j = ⊥
Writes (mark k) j = k ≡ j
Writes (back k) j = ⊥

abbrev pub NoneWrites : ℕ → List Call → Type 0
NoneWrites j [] = Unit {0}
NoneWrites j (c ∷ cs) = (Writes c j → ⊥) × NoneWrites j cs

-- ---- on a memory's words

abbrev pub step_of : Call → Memory → Step
step_of (start n xs) y = start_step n xs y
step_of (add r) y = add_step (rule_of r) y
step_of (mark k) y = mark_step k y
step_of (back k) y = back_step k y

abbrev pub saids : List Call → Memory → List Saying
saids [] y = []
saids (c ∷ cs) y = (step_of c y).said ∷ saids cs (step_of c y).memory

abbrev pub memory_after : List Call → Memory → Memory
memory_after [] y = y
memory_after (c ∷ cs) y = memory_after cs (step_of c y).memory

-- ---- what the document's answers are called here

abbrev pub saying_of : Verdict → Saying
saying_of point = Point
saying_of dropped = Empty
saying_of wide = Wide
saying_of long = Long

abbrev pub told : Answer Verdict → Saying
told (refused k) = Refused k
told (gives v) = saying_of v
