-- A table with one row more. Assumes nothing.
use mathlib.Core.Path.{◌≡◌, refl, sym, ap, ◌∙◌, subst}
use mathlib.Core.Bool.{Bool, true, false, ◌&&◌}
use mathlib.Core.List.{List, [], ◌∷◌, ◌++◌}
use mathlib.Core.Logic.{⊎_elim}
use Prim.Native.Nat.{ℕ, ◌+◌, ◌≤◌, ◌<◌}
use native.Mathlib.Numerals.{add-one}
use native.Mathlib.Omega.{arith}
use borrow.Author.Tests.{ltb-true}
use lib.Dec.{T, ltb}
use lib.IntN.{pos}
use lib.Signed.{◌<ℤ◌}
use lib.ListN.{length, get_or, set, take, drop, length-append, length-set, get_or-append}
use lib.Seq.{take-suc-set, drop-set-lt, get_or-append_seam, length-take-le}
use Rattle.integers.specs.Part.{lt-or-le}
use Rattle.integers.specs.Size.{bound}
use Rattle.model.specs.Lists.{all}
use Rattle.model.specs.Sets.{Constraint, absent}
use Rattle.model.proofs.Count.{and_left, and_right, to-T}
use Rattle.model.proofs.Lists.{map-append}
use Rattle.codec.specs.Bytes.{coefficient, constant_fits, first_failing}
use Rattle.tableau.specs.Rows.{den, Line}
use Rattle.wide_tableau.specs.Cells.{cells, rows_of, Sheet, Sheets}
use Rattle.wide_tableau.proofs.Sheets.{rows-length}
use Rattle.simplex.specs.Table.{run_table_at, Fine}
use Rattle.drafting.specs.Sketch.{Laid}
use Rattle.memory.specs.Memory.{Memory, memory, head_at, Fits}
use Rattle.memory.specs.Sound.{sound_row, sound_place, sound_head, sound_table, sound}
use Rattle.memory.proofs.Sounds.{headed, stands}
use Rattle.rules.specs.Rules.{rule_number}
use Rattle.states.specs.Calls.{goes_on}
use Rattle.states.specs.Parts.{Open, Joins}
use Rattle.states.proofs.Tables.{same-run}

-- ---- lists

-- what holds of each element holds of each with one more
at_more : {A : Type 0} (P : A → Type 0) (l : List A) (x d : A) → ((i : ℕ) → i < length l → P (get_or l i d)) → P x → (i : ℕ) → i < length (l ++ (x ∷ [])) → P (get_or (l ++ (x ∷ [])) i d)
at_more P l x d h p i b = ⊎_elim (λ w. subst P (sym (get_or-append l (x ∷ []) d i w)) (h i w)) (λ w. last w) (lt-or-le i (length l))
  where
    last : length l ≤ i → P (get_or (l ++ (x ∷ [])) i d)
    last w =
        let n = length-append l (x ∷ []) in
        let e : length l ≡ i = omega arith in
        subst (λ j. P (get_or (l ++ (x ∷ [])) j d)) e (subst P (sym (get_or-append_seam l x [] d)) p)

set_more : {A : Type 0} (l : List A) (i : ℕ) (x : A) → i < length l → take (i + 1) (set l i x) ≡ take i l ++ (x ∷ [])
set_more l i x h = ap (λ n. take n (set l i x)) (add-one i) ∙ take-suc-set l i x h

pub set_rest : {A : Type 0} (l : List A) (i : ℕ) (x : A) → drop (i + 1) (set l i x) ≡ drop (i + 1) l
set_rest l i x = drop-set-lt (i + 1) l i x (omega arith)

pub more-long : {A : Type 0} (l : List A) (i : ℕ) (x : A) → i < length l → length (take (i + 1) (set l i x)) ≡ i + 1
more-long l i x h = length-take-le (i + 1) (set l i x) (let s = length-set l i x in omega arith)

-- ---- the table

module _ {k m : ℕ} {rows : List (List ℕ)} {place kinds : List ℕ} (o : Open k m rows place kinds) where
  pub rows_room : m < length rows
  rows_room = let c = o.count in let r = o.rows_room in omega arith

  pub place_room : 8 + k + m < length place
  place_room = let c = o.count in let f = o.few in let r = o.place_room in omega arith

  pub kinds_room : 8 + k + m < length kinds
  kinds_room = let c = o.count in let f = o.few in let r = o.kinds_room in omega arith

  pub rows_taken : length (take m rows) ≡ m
  rows_taken = length-take-le m rows (let r = rows_room in omega arith)

  pub place-taken : length (take (8 + k + m) place) ≡ 8 + k + m
  place-taken = length-take-le (8 + k + m) place (let r = place_room in omega arith)

  kinds-taken : length (take (8 + k + m) kinds) ≡ 8 + k + m
  kinds-taken = length-take-le (8 + k + m) kinds (let r = kinds_room in omega arith)

  -- what a draft asks
  pub open-laid : Laid k (rows_of (take m rows)) (take (8 + k + m) place)
  open-laid =
      let n = place-taken in
      let s = o.stands in
      record {
        few = o.few;
        names = omega arith;
        line = s.line;
        over = s.over;
        near = λ v h. s.near v (omega arith);
        spot = λ v h w. s.spot v (omega arith) w;
      }

  module _ (row : List ℕ) (kind : ℕ) (j : Joins k row) where
    rows_are : rows_of (take (m + 1) (set rows m row)) ≡ rows_of (take m rows) ++ (cells row ∷ [])
    rows_are = ap rows_of (set_more rows m row rows_room) ∙ map-append cells (take m rows) (row ∷ [])

    place_is : take (8 + k + m + 1) (set place (8 + k + m) m) ≡ take (8 + k + m) place ++ (m ∷ [])
    place_is = set_more place (8 + k + m) m place_room

    kinds_are : take (8 + k + m + 1) (set kinds (8 + k + m) kind) ≡ take (8 + k + m) kinds ++ (kind ∷ [])
    kinds_are = set_more kinds (8 + k + m) kind kinds_room

    pub sheets-more : Sheets (take (m + 1) (set rows m row))
    sheets-more = subst Sheets (sym (set_more rows m row rows_room)) (record { at = at_more Sheet (take m rows) row [] o.stands.sheets.at j.sheet })

    fine-there : Fine (k + 10) (rows_of (take m rows) ++ (cells row ∷ [])) (take (8 + k + m) place ++ (m ∷ [])) (take (8 + k + m) kinds ++ (kind ∷ []))
    fine-there =
        let s = o.stands in
        let a = length-append (rows_of (take m rows)) (cells row ∷ []) in
        let b = length-append (take (8 + k + m) place) (m ∷ []) in
        let c = length-append (take (8 + k + m) kinds) (kind ∷ []) in
        let r = rows-length (take m rows) in
        let r' = rows_taken in
        let p = place-taken in
        let q = kinds-taken in
        let few = o.few in
        let count = o.count in
        record {
          count = omega arith;
          names = omega arith;
          same = omega arith;
          line = at_more (Line (k + 10)) (rows_of (take m rows)) (cells row) [] s.line j.line;
          dens = at_more (λ l. pos 0 <ℤ den l) (rows_of (take m rows)) (cells row) [] s.over j.over;
          near = at_more (λ x. x < 80) (take (8 + k + m) place) m 0 (λ v h. let n = s.near v h in omega arith) (omega arith);
          spot = at_more (λ x. x < 64 → x < length (rows_of (take m rows) ++ (cells row ∷ []))) (take (8 + k + m) place) m 0 (λ v h w. let n = s.spot v h w in omega arith) (λ w. omega arith);
        }

    pub fine_more : Fine (k + 10) (rows_of (take (m + 1) (set rows m row))) (take (8 + k + m + 1) (set place (8 + k + m) m)) (take (8 + k + m + 1) (set kinds (8 + k + m) kind))
    fine_more =
        subst (λ r. Fine (k + 10) r (take (8 + k + m + 1) (set place (8 + k + m) m)) (take (8 + k + m + 1) (set kinds (8 + k + m) kind))) (sym rows_are)
        (subst (λ p. Fine (k + 10) (rows_of (take m rows) ++ (cells row ∷ [])) p (take (8 + k + m + 1) (set kinds (8 + k + m) kind))) (sym place_is)
        (subst (Fine (k + 10) (rows_of (take m rows) ++ (cells row ∷ [])) (take (8 + k + m) place ++ (m ∷ []))) (sym kinds_are) fine-there))

    pub run_more : run_table_at (bound 128) (take (8 + k + m + 1) (set kinds (8 + k + m) kind)) 200 (rows_of (take (m + 1) (set rows m row))) (take (8 + k + m + 1) (set place (8 + k + m) m))
        ≡ goes_on k m kind (cells row) (memory rows place kinds [])
    run_more = same-run kinds_are rows_are place_is

-- ---- a sound memory is open to one rule more
pub opened : (y : Memory) → Fits y → T (sound y) → head_at 0 2 y < 48 → Open (head_at 0 1 y) (head_at 0 3 y) y.rows y.place y.kinds
unfolding sound
opened y f t l =
    let k = head_at 0 1 y in
    let m = head_at 0 3 y in
    let hd = sound_head (head_at 0 0 y) k (head_at 0 2 y) m (head_at 0 4 y) in
    let h = headed (head_at 0 0 y) k (head_at 0 2 y) m (head_at 0 4 y) (and_left hd (sound_table k m y) t) in
    let u = and_right hd (sound_table k m y) t in
    let few = h.few in
    let rf = h.rows_fit in
    let lr = f.rows in
    record {
      few = h.few;
      count = omega arith;
      rows_room = f.rows;
      place_room = f.place;
      kinds_room = f.kinds;
      stands = stands k m (take m y.rows) (take (8 + k + m) y.place) h.few (length-take-le m y.rows (omega arith)) (omega arith) (and_left (all (sound_row (k + 10)) (take m y.rows)) (all (sound_place k m) (take (8 + k + m) y.place)) u) (and_right (all (sound_row (k + 10)) (take m y.rows)) (all (sound_place k m) (take (8 + k + m) y.place)) u);
    }

-- ---- a rule that is not refused
pub number_passed : (n k rules : ℕ) (r : Constraint) → rule_number n k rules r ≡ 0 → T (all coefficient r.axes) × T (all coefficient r.divisions) × (rules < 48)
number_passed n k rules r z = at (constant_fits r.kind r.constant) (all coefficient r.axes) (all coefficient r.divisions) (absent n r.axes && absent k r.divisions) (ltb rules 48) refl refl refl z
  where
    tests : Bool → Bool → Bool → Bool → Bool → ℕ
    tests a b c d e = first_failing ((a && (b && c), 7) ∷ (d, 8) ∷ (e, 10) ∷ [])

    at : (a b c d e : Bool) → all coefficient r.axes ≡ b → all coefficient r.divisions ≡ c → ltb rules 48 ≡ e → tests a b c d e ≡ 0 → T (all coefficient r.axes) × T (all coefficient r.divisions) × (rules < 48)
    at true true true true true p q l z = (to-T _ p, to-T _ q, ltb-true rules 48 l)
    at true true true true false p q l z = absurd (omega arith)
    at true true true false e p q l z = absurd (omega arith)
    at true true false d e p q l z = absurd (omega arith)
    at true false c d e p q l z = absurd (omega arith)
    at false b c d e p q l z = absurd (omega arith)
