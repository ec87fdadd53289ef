-- What the functions of a command ask and give.
use Rattle.std.specs.Prelude.{◌≡◌, Bool, true, false, List, [], ℕ, suc, ◌≤◌, ◌<◌, leb, eqb, length, take, Option, None}
use Rattle.model.specs.Limits.{most_axes}
use Rattle.model.specs.Lists.{all}
use Rattle.model.specs.Sets.{Set}
use Rattle.codec.specs.Bytes.{Answer, refused, gives}
use Rattle.listing.specs.Text.{line}
use Rattle.session.specs.Script.{room, set_numbers, fixed_width, command_width, ending, Done, refused_line}
use Rattle.session.specs.Turns.{Memory, Effect, Fitted, header_line, shown, listing_of}
use Rattle.listing.specs.Written.{Wrote}
use Rattle.session.specs.declared.Cursor.{Cursor}
use Rattle.commands.specs.declared.commands.CommandDone.{CommandDone}

-- all operands of the command b are there, and the set numbers among them are good
pub record Operands (b : ℕ) (s : List ℕ) : Type 0 where
  pub enough : fixed_width b ≤ suc (length s)
  pub good : all (λ (m : ℕ). leb m 3) (take (set_numbers b) s) ≡ true

-- the lent memory, with n axes and a line of 512 bytes
pub record Usable (n : ℕ) (tables lengths result out : List ℕ) : Type 0 where
  pub axes : n ≤ most_axes
  pub fitted : Fitted tables lengths
  pub result_long : length result ≡ room
  pub line_long : 512 ≤ length out

-- a command with good set numbers: `40` to `47`
pub record Performable (n b : ℕ) (s tables lengths result out : List ℕ) : Type 0 where
  pub usable : Usable n tables lengths result out
  pub operands : Operands b s
  pub known : 0 < fixed_width b
  pub later : (eqb b 0x00 ≡ false) × (eqb b 0x10 ≡ false)

-- one whole command, and only it
pub record Single (axes : ℕ) (c : List ℕ) : Type 0 where
  pub begins : ending axes c ≡ 0
  pub all_there : command_width c ≡ length c

-- ---- what a command prints, by the answer

abbrev pub tells : {A : Type 0} → (A → List ℕ) → Answer A → List ℕ
tells f (refused k) = refused_line k
tells f (gives a) = f a

abbrev pub done_line : List ℕ → List ℕ
done_line l = line "done" []

abbrev pub first_line : ℕ → Set → List ℕ
first_line m t = header_line m (length t)

-- what is known after it: the line, n, whether the script goes on, and the listing that is under way
pub record Told (l : List ℕ) (n : ℕ) (g : Bool) (c : Option Cursor) (r : CommandDone) (out out' : List ℕ) : Type 0 where
  pub text : Wrote l out 0 r.text out'
  pub axes : r.axes ≡ n
  pub goes : r.goes ≡ g
  pub listing : r.listing ≡ c

-- the same of a definition d with its effect e
pub record CommandIs (d : Done) (e : Effect) (r : CommandDone) (out out' : List ℕ) : Type 0 where
  pub is : Told (shown d.text e) d.state.axes d.goes (listing_of e) r out out'

-- the memory is as y says
pub record Holds (y : Memory) (tables lengths result : List ℕ) : Type 0 where
  pub tables_are : tables ≡ y.tables
  pub lengths_are : lengths ≡ y.lengths
  pub result_is : result ≡ y.result

abbrev pub saying : ℕ → ℕ → Bool → CommandDone
saying t n g = record { text = t; axes = n; goes = g; listing = None }
