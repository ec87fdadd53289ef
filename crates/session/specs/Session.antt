-- A run of the program: turn after turn, and a read where a turn asks for more input.
use Rattle.std.specs.Prelude.{◌≡◌, Bool, true, false, List, [], ◌∷◌, ◌++◌, ℕ, length, drop, None}
use Rattle.session.specs.Script.{room}
use Rattle.session.specs.Turns.{Memory, state_at, turn_of}
use Rattle.session.specs.declared.State.{State}
use Rattle.session.specs.declared.Next.TheVariants.{Goes, Reads, Ends}

-- With a line of `width` bytes: from a state and its memory, with `s` read and not used and the reads `ps` still to come, all that is
-- printed is the last list. `e`: it is known that the input has ended.
pub data Session (width : ℕ) : State → Memory → Bool → List ℕ → List (List ℕ) → List ℕ → Type 0 where
  goes : {st : State} {y : Memory} {e : Bool} {s : List ℕ} {ps : List (List ℕ)} {l : List ℕ} → (turn_of st y width e s).next ≡ Goes
      → Session width (turn_of st y width e s).state (turn_of st y width e s).memory e (drop (turn_of st y width e s).used s) ps l
      → Session width st y e s ps ((turn_of st y width e s).text ++ l)
  reads : {st : State} {y : Memory} {s p : List ℕ} {ps : List (List ℕ)} {l : List ℕ} → (turn_of st y width false s).next ≡ Reads
      → Session width (turn_of st y width false s).state (turn_of st y width false s).memory false (drop (turn_of st y width false s).used s ++ p) ps l
      → Session width st y false s (p ∷ ps) ((turn_of st y width false s).text ++ l)
  closes : {st : State} {y : Memory} {s : List ℕ} {l : List ℕ} → (turn_of st y width false s).next ≡ Reads
      → Session width (turn_of st y width false s).state (turn_of st y width false s).memory true (drop (turn_of st y width false s).used s) [] l
      → Session width st y false s [] ((turn_of st y width false s).text ++ l)
  ends : {st : State} {y : Memory} {e : Bool} {s : List ℕ} {ps : List (List ℕ)} → (turn_of st y width e s).next ≡ Ends → Session width st y e s ps (turn_of st y width e s).text

-- ---- a run as far as it has come

-- memory for a run: tables of their sizes, and four empty sets
pub record Fresh (y : Memory) : Type 0 where
  pub tables : length y.tables ≡ 32000
  pub empty : y.lengths ≡ 0 ∷ 0 ∷ 0 ∷ 0 ∷ []
  pub result : length y.result ≡ room

-- With a line of `width` bytes, from fresh memory: the state and the memory reached, whether it is known that the input
-- has ended, what is read and not used, all that has been read, and all that has been printed.
pub data Reached (width : ℕ) : State → Memory → Bool → List ℕ → List ℕ → List ℕ → Type 0 where
  begins : {y : Memory} → Fresh y → Reached width (state_at 0 None) y false [] [] []
  goes : {st : State} {y : Memory} {e : Bool} {s i o : List ℕ} → Reached width st y e s i o
      → (turn_of st y width e s).next ≡ Goes
      → Reached width (turn_of st y width e s).state (turn_of st y width e s).memory e
      (drop (turn_of st y width e s).used s) i (o ++ (turn_of st y width e s).text)
  -- the bytes p come, none where the input has ended
  reads : {st : State} {y : Memory} {e : Bool} {s i o : List ℕ} → Reached width st y e s i o
      → (turn_of st y width e s).next ≡ Reads → (p : List ℕ) (e' : Bool) → (e' ≡ true → p ≡ [])
      → Reached width (turn_of st y width e s).state (turn_of st y width e s).memory e'
      (drop (turn_of st y width e s).used s ++ p) (i ++ p) (o ++ (turn_of st y width e s).text)

-- memory that a run leaves behind: that of its last turn
pub record Left (width : ℕ) (y' : Memory) : Type 0 where
  pub st : State
  pub y : Memory
  pub e : Bool
  pub s : List ℕ
  pub read : List ℕ
  pub printed : List ℕ
  pub reached : Reached width st y e s read printed
  pub memory : y' ≡ (turn_of st y width e s).memory
