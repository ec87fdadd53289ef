-- A start, on any memory of the right size, is planning's at 128 bits. Assumes nothing.
use mathlib.Core.Path.{◌≡◌, refl, sym, ap, ap₂, ◌∙◌, subst}
use mathlib.Core.Bool.{Bool, true, false, cond}
use mathlib.Core.List.{List, [], ◌∷◌, ◌++◌, map, append-nil}
use mathlib.Core.Option.{none}
use mathlib.Core.Logic.{⊎_elim}
use Prim.Native.Nat.{ℕ, zero, suc, ◌+◌, ◌*◌, ◌-◌, ◌/◌, ◌%◌, ◌^◌, ◌≤◌, ◌<◌}
use native.Mathlib.Omega.{arith}
use borrow.Author.Tests.{lt-ltb, le-ltb}
use lib.Dec.{T, ltb, leb→le, ltb→lt}
use lib.IntN.{ℤ, pos, negsuc}
use lib.ListN.{length, get_or, take, drop, length-drop, length-map, get_or-append, get_or-map}
use lib.Seq.{get_or-take, take-take, take_at, length-take-le, ext_get_or}
use Rattle.integers.specs.Part.{lt-or-le}
use Rattle.integers.specs.Size.{bound}
use Rattle.model.specs.Lists.{all, All}
use Rattle.model.specs.Sets.{equality, Division, Constraint, BasicSet, bounds, conditions}
use Rattle.model.proofs.Count.{and_left, and_right, no-suc, to-T}
use Rattle.codec.specs.Bytes.{Answer, refused, gives, Counts, division, tests_of, refusal, axes_fit, within, coefficient}
use Rattle.codec.proofs.Parsing.{all-passed}
use Rattle.codec.specs.Valid.{ValidDivision}
use Rattle.feasibility.specs.Tableau as F
use Rattle.feasibility.specs.Tableau.{narrow, reach, sorts, begin, start, ends_at}
use Rattle.feasibility.proofs.Verdicts.{row_var, col_var}
use Rattle.optimum.proofs.Ranges.{ConstraintWithin}
use Rattle.optimum.proofs.Numbers.{conditions-within}
use Rattle.planning.specs.State.{State, kinds_of, without_rules, opened, begun, begun_at, start_refusal, divisions_refusal, unless}
use Rattle.planning.specs.Desk as D
use Rattle.planning.specs.Desk.{Desk, fresh, start_answer, call_answer}
use Rattle.planning.proofs.Proper.{Proper, kinds-length, proper-begun}
use Rattle.planning.proofs.Carried.{begun-128}
use Rattle.planning.proofs.Ranges.{StateWithin, two, begun-within}
use Rattle.planning.proofs.Back.{no-gives, given}
use Rattle.wide_tableau.specs.Cells.{words}
use Rattle.simplex.specs.Table.{Ending, layout, kind_number}
use Rattle.simplex.proofs.Shows as S
use Rattle.simplex.proofs.Filled.{sort-free, sort-bound}
use Rattle.simplex.proofs.Bridge.{Ends, reach-shows}
use Rattle.carrying.proofs.Runs.{run-keeps}
use Rattle.memory.specs.Memory.{Memory, Fits, forgotten, ranks_of}
use Rattle.states.specs.Calls.{Refused}
use Rattle.rules.specs.Divisions.{divisions_in}
use Rattle.states.specs.Calls.{Step, stepped, said_of, word_number, first_place, first_kinds, first_rows, start_end, opened_in, opens, start_step}
use Rattle.states.proofs.Tables.{bounds-count, place-long, kinds-long, kind_at, first-shows, first_fine}
use Rattle.rules.proofs.Quotients.{divisions-long}
use Rattle.states.proofs.Stepping.{start-refused, start-done}
use Rattle.reaching.specs.Shows.{slot_of, word_for, ShowsState, Shows}
use Rattle.reaching.specs.Walks.{divisions_of, saying_of}
use Rattle.reaching.proofs.Windows.{slot_is, ranks-put, ranks-apart, ranks-long}
use Rattle.reaching.proofs.Ranks.{ranks-none}
use Rattle.reaching.proofs.Good.{Good, words-rows}
use Rattle.reaching.proofs.Changing.{word_number_lem, SameFrom, same-front}
use Rattle.reaching.proofs.Marking.{Kept, Meets, said-is, fits-fitting}

-- ---- divisions that are not refused

abbrev Eight : Division → Type 0
Eight e = length e.axes ≡ 8

eights : (k : ℕ) (xs : List ℤ) → 10 * k ≤ length xs → All Eight (divisions_in k xs)
unfolding divisions_in
eights zero xs h = tt
eights (suc k) xs h = (length-take-le 8 (drop 2 xs) (let e = length-drop 2 xs in omega arith), eights k (drop 10 xs) (let e = length-drop 10 xs in omega arith))

valid-all : (n i : ℕ) (ds : List Division) → i ≤ 8 → All Eight ds → divisions_refusal n i ds ≡ 0 → All (ValidDivision n) ds × (i + length ds ≤ 8)
valid-all n i [] h a e = (tt, omega arith)
valid-all n i (x ∷ ds) h a e = at (refusal n k (division x)) refl e (valid-all n (suc i) ds)
  where
    k : Counts
    k = record { basics = 1; divisions = i; constraints = 0 }

    moved : suc i + length ds ≤ 8 → i + suc (length ds) ≤ 8
    moved h = omega arith

    at : (m : ℕ) → refusal n k (division x) ≡ m → ◌≡◌ {A = ℕ} (elim m [ zero ↦ divisions_refusal n (suc i) ds | suc m ↦ suc m ]) 0
        → (suc i ≤ 8 → All Eight ds → divisions_refusal n (suc i) ds ≡ 0 → All (ValidDivision n) ds × (suc i + length ds ≤ 8)) → All (ValidDivision n) (x ∷ ds) × (i + suc (length ds) ≤ 8)
    at zero p e ih =
        let t = all-passed (tests_of n k (division x)) tt p in
        let y = ih (ltb→lt i 8 t.1.1.0) a.1 e in
        let b = within (negsuc 999999999) (pos 1000000000) x.constant in
        let c = all coefficient x.axes in
        let u = t.1.1.1.1.0 in (
          (record { places = a.0; divisor = t.1.1.1.0; constant = and_left b c u; axes = and_right b c u; absents = t.1.1.1.1.1.0 }, y.0),
          moved y.1,
        )
    at (suc m) p e ih = no-suc e

all_left : {A : Type 0} (Q : A → Type 0) (l m : List A) → All Q (l ++ m) → All Q l
all_left Q [] m h = tt
all_left Q (a ∷ l) m h = (h.0, all_left Q l m h.1)

start-valid : (n : ℕ) (ds : List Division) → All Eight ds → start_refusal n ds ≡ 0 → T (axes_fit n) × (length ds ≤ 8) × All (ConstraintWithin (2 ^ 127 - 1)) (conditions (without_rules ds))
start-valid n ds a e = at (axes_fit n) refl e
  where
    nothing : Constraint
    nothing = record { kind = equality; number = 0; constant = pos 0; axes = []; divisions = [] }

    at : (b : Bool) → axes_fit n ≡ b → cond b (divisions_refusal n 0 ds) 1 ≡ 0 → T (axes_fit n) × (length ds ≤ 8) × All (ConstraintWithin (2 ^ 127 - 1)) (conditions (without_rules ds))
    at true q e =
        let v = valid-all n 0 ds (omega arith) a e in
        let f : length ds ≤ 8 = let z = v.1 in omega arith in (
          to-T (axes_fit n) q,
          f,
          all_left (ConstraintWithin (2 ^ 127 - 1)) (conditions (without_rules ds)) (nothing ∷ [])
              (conditions-within n (without_rules ds) nothing (record { few_divisions = f; few_constraints = leb→le 0 48 tt; divisions = v.0; constraints = tt }) (leb→le 1 2147483648 tt) tt tt (2 ^ 127 - 1) (leb→le 2147483648 (2 ^ 127 - 1) tt)),
        )
    at false q e = no-suc e

-- ---- the first tableau, tested

-- what a start from memory y leaves: what is said, the desk that the memory shows, and the slots of the names
pub record Begins (e : Desk State) (y : Memory) (x : Step) : Type 0 where
  pub said : x.said ≡ saying_of e.now.says
  pub kept : Kept e
  pub shows : Shows e x.memory
  pub slots : (j : ℕ) → j ≤ 15 → slot_of (suc j) x.memory ≡ slot_of (suc j) y

module _ (n : ℕ) (ds : List Division) (axes : T (axes_fit n)) (few : length ds ≤ 8) (small : All (ConstraintWithin (2 ^ 127 - 1)) (conditions (without_rules ds))) where
  abbrev k : ℕ
  k = length ds

  abbrev b : BasicSet
  b = without_rules ds

  abbrev end : F.Ending
  end = reach (narrow (bound 128)) (sorts b) 200 (begin b)

  abbrev s : State
  s = opened n ds end

  begun-is : begun n ds ≡ s
  unfolding begun_at ends_at
  begun-is = begun-128 n ds

  proper : Proper s
  proper = subst Proper begun-is (proper-begun n ds)

  conditions-long : length (conditions b) ≡ 2 * k
  conditions-long = ap length (append-nil (bounds 0 ds)) ∙ bounds-count 0 ds

  kinds-count : length (kinds_of b) ≡ 8 + k + 2 * k
  kinds-count = kinds-length b ∙ ap (λ m. 8 + k + m) conditions-long

  rows-count : length end.tableau.rows ≡ 2 * k
  rows-count = let a = proper.many in let c = kinds-count in omega arith

  within-here : StateWithin 128 two s
  unfolding begun_at ends_at
  within-here = begun-within 128 two n ds small

  good : Good s
  good =
      record {
        axes = axes;
        few = few;
        rules = leb→le 0 48 tt;
        rows = let a = rows-count in omega arith;
        proper = proper;
        within = within-here;
      }

  sorted : (v : ℕ) → v < 8 + k + 2 * k → get_or (first_kinds k) v 0 ≡ kind_number (sorts b v)
  sorted v h = kind_at k v h ∙ ⊎_elim low high (lt-or-le v (8 + k))
    where
      low : v < 8 + k → cond (ltb v (8 + k)) 0 1 ≡ kind_number (sorts b v)
      low l = ap (λ c. cond c 0 1) (lt-ltb v (8 + k) l) ∙ sym (ap kind_number (sort-free k ds [] refl v l))

      high : 8 + k ≤ v → cond (ltb v (8 + k)) 0 1 ≡ kind_number (sorts b v)
      high l =
          let e : v ≡ 8 + k + (v - (8 + k)) = omega arith in
          ap (λ c. cond c 0 1) (le-ltb v (8 + k) l) ∙ sym (ap kind_number (ap (sorts b) e ∙ sort-bound k ds [] refl (v - (8 + k)) (omega arith)))

  kinds_are : first_kinds k ≡ map kind_number (kinds_of b)
  kinds_are =
      let a = kinds-long k in
      let c = kinds-count in
      let e = length-map (kinds_of b) kind_number in
      ext_get_or 0 (first_kinds k) (map kind_number (kinds_of b)) (omega arith) (λ v h. sorted v (omega arith) ∙ sym (get_or-map kind_number (kinds_of b) v none))

  shows_first : S.Shows k (first_rows k ds) (first_place k) (begin b)
  shows_first = subst (λ cs. S.Shows k (first_rows k ds) (first_place k) (start k cs)) (sym (append-nil (bounds 0 ds))) (first-shows k ds few refl)

  abbrev o : Ending
  o = start_end k ds

  ends : Ends k end o
  unfolding start_end
  ends = reach-shows k (sorts b) (first_kinds k) (bound 128) 200 (begin b) (first_rows k ds) (first_place k) shows_first (λ v h. let l = place-long k in sorted v (omega arith))

  place_kept : length o.place ≡ 8 + k + 2 * k
  unfolding start_end
  place_kept = (run-keeps {W = 128} (omega arith) (k + 10) (first_kinds k) 200 (first_rows k ds) (first_place k) (first_fine k ds few refl)).1 ∙ place-long k

  run-rows : o.rows ≡ map (layout k) end.tableau.rows
  run-rows = ends.shows.rows_are

  run_long : length (map words o.rows) ≡ 2 * k
  run_long = length-map o.rows words ∙ ap length run-rows ∙ length-map end.tableau.rows (layout k) ∙ rows-count

  -- ---- in the memory

  module _ (y : Memory) (f : Fits y) where
    abbrev heads : List ℕ
    heads = (n ∷ k ∷ 0 ∷ (2 * k) ∷ word_number o.verdict ∷ []) ++ drop 5 y.heads

    abbrev z : Memory
    z = opened_in n k o y

    heads-long : length heads ≡ 101
    heads-long = let a = f.heads in let c = length-drop 5 y.heads in omega arith

    ranks-16 : length (drop 85 heads) ≡ 16
    ranks-16 = let a = heads-long in let c = length-drop 85 heads in omega arith

    rows-front : SameFrom 64 z.rows y.rows
    rows-front = let a = f.rows in same-front 64 (2 * k) (map words o.rows) y.rows run_long (omega arith) (omega arith)

    place-front : SameFrom 80 z.place y.place
    place-front = let a = f.place in same-front 80 (8 + k + 2 * k) o.place y.place place_kept (omega arith) (omega arith)

    kinds-front : SameFrom 80 z.kinds y.kinds
    kinds-front = let a = f.kinds in same-front 80 (8 + k + 2 * k) (first_kinds k) y.kinds (kinds-long k) (omega arith) (omega arith)

    opened-fits : Fits z
    opened-fits =
        let a = heads-long in
        record {
          rows = rows-front.long ∙ f.rows;
          place = place-front.long ∙ f.place;
          kinds = kinds-front.long ∙ f.kinds;
          heads = ranks-long (map (forgotten 0)) heads (omega arith) (length-map (drop 85 heads) (forgotten 0)) ∙ heads-long;
        }

    opened-place : (v : ℕ) → v < length o.place → get_or (slot_of 0 z).place v 0 ≡ get_or o.place v 0
    opened-place v h =
        let e = place_kept in
        get_or-take 80 (o.place ++ drop (8 + k + 2 * k) y.place) v 0 (omega arith) ∙ get_or-append o.place (drop (8 + k + 2 * k) y.place) 0 v h

    opened-shows : ShowsState s (slot_of 0 z)
    opened-shows =
        let a = heads-long in
        record {
          head =
              ranks-apart (map (forgotten 0)) heads (omega arith) 0 (omega arith)
              ∙ take_at (n ∷ k ∷ 0 ∷ (2 * k) ∷ word_number o.verdict ∷ []) (drop 5 y.heads) 5 refl
              ∙ ap₂ (λ (m w : ℕ). n ∷ k ∷ 0 ∷ m ∷ w ∷ []) (sym rows-count) (word_number_lem o.verdict ∙ ap word_for ends.verdict_is);
          rows =
              ap (λ j. take j (take 64 z.rows)) rows-count ∙ take-take (2 * k) 64 z.rows (omega arith)
              ∙ take_at (map words o.rows) (drop (2 * k) y.rows) (2 * k) run_long
              ∙ ap (map words) run-rows
              ∙ words-rows k end.tableau.rows;
          row_places = λ i h. let p = ends.shows.rows_at i h in opened-place (row_var end.tableau i) p.0 ∙ p.1;
          column_places = λ j h. let p = ends.shows.cols_at j h in opened-place (col_var end.tableau j) p.0 ∙ p.1;
          kinds =
              ap (λ j. take j (take 80 z.kinds)) kinds-count ∙ take-take (8 + k + 2 * k) 80 z.kinds (omega arith)
              ∙ take_at (first_kinds k) (drop (8 + k + 2 * k) y.kinds) (8 + k + 2 * k) (kinds-long k)
              ∙ kinds_are;
        }

    opened-ranks : ranks_of z ≡ Rattle.reaching.proofs.Ranks.ranks []
    opened-ranks = let a = heads-long in ranks-put (map (forgotten 0)) heads (omega arith) ∙ ranks-none (drop 85 heads) ranks-16

    opened-slots : (j : ℕ) → j ≤ 15 → slot_of (suc j) z ≡ slot_of (suc j) y
    opened-slots j h =
        let a = heads-long in
        let e : length (n ∷ k ∷ 0 ∷ (2 * k) ∷ word_number o.verdict ∷ []) ≡ 5 = refl in
        let c = f.heads in
        slot_is (ap (take 64) (rows-front.rest (64 * suc j) (omega arith))) (ap (take 80) (place-front.rest (80 * suc j) (omega arith))) (ap (take 80) (kinds-front.rest (80 * suc j) (omega arith)))
        (ranks-apart (map (forgotten 0)) heads (omega arith) (suc j) (omega arith) ∙ ap (take 5) ((same-front 5 5 (n ∷ k ∷ 0 ∷ (2 * k) ∷ word_number o.verdict ∷ []) y.heads e (omega arith) (omega arith)).rest (5 * suc j) (omega arith)))

    pub opened-begins : Begins (record { now = begun n ds; marks = [] }) y (opens n k o y)
    opened-begins =
        subst (λ (u : State). Begins (record { now = u; marks = [] }) y (opens n k o y)) (sym begun-is)
        (record {
          said = ap said_of (word_number_lem o.verdict ∙ ap word_for ends.verdict_is) ∙ said-is s.says;
          kept = record { now = good; marks = λ j u e. Rattle.feasibility.proofs.Verdicts.some-none (sym e); once = tt; names = tt };
          shows = record { fits = opened-fits; now = opened-shows; marks = λ j u e. Rattle.feasibility.proofs.Verdicts.some-none (sym e); ranks = opened-ranks };
          slots = opened-slots;
        })

-- ---- the call

module _ (n : ℕ) (xs : List ℤ) (tens : length xs % 10 ≡ 0) (y : Memory) (f : Fits y) where
  abbrev ds : List Division
  ds = divisions_of xs

  ds-long : length ds ≡ length xs / 10
  ds-long = divisions-long (length xs / 10) xs

  given-start : start_refusal n ds ≡ 0 → Begins (record { now = begun n ds; marks = [] }) y (start_step n xs y)
  given-start e =
      let v = start-valid n ds (eights (length xs / 10) xs (omega arith)) e in
      subst (Begins (record { now = begun n ds; marks = [] }) y) (start-done n xs y (fits-fitting y f) tens 0 (sym e) refl refl)
      (subst (λ k. Begins (record { now = begun n ds; marks = [] }) y (opens n k (start_end k ds) y)) ds-long (opened-begins n ds v.0 v.1 v.2 y f))

  pub start-begins : (e : Desk State) → start_answer n ds ≡ gives e → Begins e y (start_step n xs y)
  start-begins e q = at (start_refusal n ds) refl q
    where
      at : (c : ℕ) → start_refusal n ds ≡ c → fresh (unless c (begun n ds)) ≡ gives e → Begins e y (start_step n xs y)
      at zero p q = subst (λ d. Begins d y (start_step n xs y)) (given q) (given-start p)
      at (suc c) p q = no-gives q

  -- "A refused call leaves state and marks as they were", and any other memory
  pub start-leaves : (c : ℕ) → start_answer n ds ≡ refused c → start_step n xs y ≡ stepped (Refused c) y
  start-leaves c q = at (start_refusal n ds) refl q
    where
      same : {a b : ℕ} → ◌≡◌ {A = Answer (Desk State)} (refused a) (refused b) → a ≡ b
      same e = cc

      at : (m : ℕ) → start_refusal n ds ≡ m → fresh (unless m (begun n ds)) ≡ refused c → start_step n xs y ≡ stepped (Refused c) y
      at zero p q = no-gives (sym q)
      at (suc m) p q = sym (start-refused n xs y (fits-fitting y f) tens (suc m) (sym p) (λ z. omega arith)) ∙ ap (λ j. stepped (Refused j) y) (same q)

  pub start-meets : (d : Desk State) → Kept d → Shows d y → Meets (λ j. ⊥) (call_answer (D.start n ds) d) d y (start_step n xs y)
  start-meets d g h = at (start_answer n ds) refl
    where
      at : (a : Answer (Desk State)) → start_answer n ds ≡ a → Meets (λ j. ⊥) a d y (start_step n xs y)
      at (refused c) q = subst (Meets (λ j. ⊥) (refused c) d y) (sym (start-leaves c q)) (record { said = refl; kept = g; shows = h; slots = λ j l n. refl })
      at (gives e) q = let m = start-begins e q in record { said = m.said; kept = m.kept; shows = m.shows; slots = λ j l n. m.slots j l }
