-- The holder of a point, as the code answers it: the very part of the table it came from.
use Rattle.std.specs.Prelude.{cond, List, ℕ, ◌+◌, Option, Some, None}
use Rattle.std.specs.Borrow.{Bor}
use Rattle.codec.specs.Parts.{part_of, held}
use Rattle.query.specs.Holder.{first, second, Holder, nobody}
use Rattle.query.specs.declared.holders.Seat.{Seat}

abbrev pub holder_is : Option Seat → Holder
holder_is None = nobody
holder_is (Some s) = record { table = cond s.second second first; number = s.number }

-- where a reference points, and the bytes there
abbrev pub seen : Bor (List ℕ) → (ℕ × ℕ) × List ℕ
seen r = (r.ref_ptr, r.now)

-- basic set number k of a lent table, the empty part at its start for 0
abbrev pub seat : ℕ → Bor (List ℕ) → ℕ → (ℕ × ℕ) × List ℕ
seat n t k = ((t.ref_ptr.0, t.ref_ptr.1 + (part_of n t.now k).place), held (part_of n t.now k) t.now)

-- "handed back as a part of the table it came from"
abbrev pub handed : ℕ → Bor (List ℕ) → Bor (List ℕ) → Holder → (ℕ × ℕ) × List ℕ
handed n a b h = elim h.table [ first ↦ seat n a h.number | second ↦ seat n b h.number ]
