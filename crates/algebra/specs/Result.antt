-- What an operation answers and leaves in the lent table (document 01, "Refused": result tables are all 0 after a refusal, and 0 past
-- the result after success; "Asking": the result's length, or the refusal's number).
use Rattle.std.specs.Prelude.{◌≡◌, List, ◌++◌, ℕ, ◌-◌, length, replicate}
use Rattle.codec.specs.Bytes.{Answer, refused, gives}

-- the whole table of `room` bytes after the call
abbrev pub table_of : ℕ → Answer (List ℕ) → List ℕ
table_of room (refused k) = replicate room 0
table_of room (gives l) = l ++ replicate (room - length l) 0

-- what the call answers: the result's length, or the refusal's number
abbrev pub length_of : Answer (List ℕ) → Answer ℕ
length_of (refused k) = refused k
length_of (gives l) = gives (length l)

-- the contract of a call that answers `outcome` and leaves `table`, for an operation on bytes that is `a`
pub record Result (room : ℕ) (a : Answer (List ℕ)) (outcome : Answer ℕ) (table : List ℕ) : Type 0 where
  pub answer : outcome ≡ length_of a
  pub bytes : table ≡ table_of room a
