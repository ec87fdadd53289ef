-- An added rule, on the words of a memory that shows a desk, is planning's addition at 128 bits. Assumes nothing.
use mathlib.Core.Path.{◌≡◌, refl, sym, ap, ap₂, ◌∙◌, subst}
use mathlib.Core.Bool.{Bool, true, false, ◌&&◌, cond}
use mathlib.Core.List.{List, [], ◌∷◌, ◌++◌, map}
use mathlib.Core.Option.{Option, none, some}
use mathlib.Core.Logic.{⊎_elim}
use Prim.Native.Nat.{ℕ, zero, suc, ◌+◌, ◌*◌, ◌^◌, ◌-◌, ◌≤◌, ◌<◌}
use native.Mathlib.Numerals.{add-one}
use native.Mathlib.Omega.{arith}
use lib.Dec.{T, eqb, ltb→lt, leb→le}
use lib.IntN.{ℤ, pos}
use lib.ListN.{length, get_or, set, take, drop, length-append, length-map, get_or-append, get_or-map}
use lib.Seq.{get_or-append_seam, get_or-take, take-take, take_at, take-suc-set, take-set-lt}
use Rattle.integers.specs.Part.{lt-or-le}
use Rattle.integers.specs.Size.{bound, within-mono}
use Rattle.integers.specs.Z.{Within}
use Rattle.model.specs.Lists.{all}
use Rattle.model.specs.Sets.{Kind, Constraint}
use Rattle.model.proofs.Lists.{map-append}
use Rattle.model.proofs.Count.{and_left, and_right}
use Rattle.codec.specs.Bytes.{refused, gives, coefficient, constant_fits}
use Rattle.codec.proofs.Parsing.{all-passed}
use Rattle.feasibility.specs.Tableau as F
use Rattle.feasibility.specs.Tableau.{Verdict, point, dropped, long, wide, Row, Tableau, no_row}
use Rattle.feasibility.proofs.Verdicts.{row_var, col_var}
use Rattle.optimum.proofs.Ranges.{ConstraintWithin}
use Rattle.optimum.proofs.Numbers.{conditions-within}
use Rattle.planning.specs.Draft.{Draft}
use Rattle.planning.specs.State.{State, without_rules, sort_by, with_row, with_kind, counted, grown, row_at, goes_on_at, added_at, rule_tests, rule_refusal, unless}
use Rattle.planning.specs.Desk.{Desk, add, renewed, call_answer, call_at}
use Rattle.planning.proofs.Places as P
use Rattle.planning.proofs.Places.{Complete, one_more}
use Rattle.planning.proofs.Proper.{Proper, row-proper, proper-added}
use Rattle.planning.proofs.Carried.{added-128, call-128}
use Rattle.planning.proofs.Ranges.{StateWithin, two, added-within}
use Rattle.wide_tableau.specs.Cells.{words, rows_of}
use Rattle.simplex.specs.Table.{Ending, run_table_at, layout, kind_number}
use Rattle.simplex.proofs.Shows as S
use Rattle.simplex.proofs.Filled.{shows-fine}
use Rattle.simplex.proofs.Bridge.{Ends, reach-shows}
use Rattle.carrying.proofs.Runs.{run-keeps}
use Rattle.drafting.specs.Sketch.{rule_row}
use Rattle.drafting.proofs.Bridge.{laid_out, rule-shows}
use Rattle.memory.specs.Memory.{Memory, fitting, Fits, head_at}
use Rattle.memory.specs.Sound.{sound}
use Rattle.rules.specs.Rules.{rule_number}
use Rattle.states.specs.Calls.{said_of, says, saying, word_number, goes_on, went_on, grown_by, grown_in, counted_in, joined_in, add_step}
use Rattle.states.proofs.Tables.{same-run}
use Rattle.states.proofs.Stepping.{add-refused, add_done}
use Rattle.reaching.specs.Shows.{Slot, slot_of, word_for, ShowsState, Shows}
use Rattle.reaching.proofs.Good.{Good, words-rows, names-are, rows_few, rows_are, places, places-long, table-shows, head_at_lem, place_room, rows_taken, place-taken, sound-here}
use Rattle.reaching.proofs.Changing.{word_number_lem, same-all, same_set, same-front, Changed, changed-slots, changed-shows}
use Rattle.reaching.proofs.Marking.{Kept, Meets, said-is, fits-fitting}

-- ---- planning's addition, by what it does

module _ (s : State) (r : Constraint) where
  added-counted : (s.says ≡ point → ⊥) → added_at 128 s r ≡ counted s
  unfolding added_at
  added-counted n = at s.says n
    where
      at : (v : Verdict) → (v ≡ point → ⊥) → elim v as (λ (v : Verdict). State) [ point ↦ grown (goes_on_at 128) s r (row_at 128 s r) | dropped ↦ counted s | long ↦ counted s | wide ↦ counted s ] ≡ counted s
      at point n = absurd (n refl)
      at dropped n = refl
      at long n = refl
      at wide n = refl

  added-grown : s.says ≡ point → (o : Option Draft) → row_at 128 s r ≡ o → added_at 128 s r ≡ grown (goes_on_at 128) s r o
  unfolding added_at
  added-grown e o q =
      ap (λ v. elim v as (λ (v : Verdict). State) [ point ↦ grown (goes_on_at 128) s r (row_at 128 s r) | dropped ↦ counted s | long ↦ counted s | wide ↦ counted s ]) e
      ∙ ap (grown (goes_on_at 128) s r) q

  good-counted : Good s → s.rules < 48 → Good (counted s)
  good-counted g l = let b = g.rows in record { axes = g.axes; few = g.few; rules = l; rows = omega arith; proper = g.proper; within = g.within }

  good-wide : Good s → s.rules < 48 → Good (grown (goes_on_at 128) s r none)
  good-wide g l = let b = g.rows in record { axes = g.axes; few = g.few; rules = l; rows = omega arith; proper = g.proper; within = g.within }

-- ---- with one row more

module _ (s : State) (g : Good s) (x : Slot) (h : ShowsState s x) (room : length x.place ≡ 80) (r : Constraint) (less : s.rules < 48) (fits : ConstraintWithin (2 ^ 127 - 1) r) (point-now : s.says ≡ point) (d : Draft) (q : row_at 128 s r ≡ some d) where
  abbrev k : ℕ
  k = s.divisions

  abbrev m : ℕ
  m = length s.tableau.rows

  abbrev t : Tableau
  t = s.tableau

  abbrev new : Row
  new = record { var = length s.kinds; den = d.den; nums = d.nums }

  abbrev t' : Tableau
  t' = with_row s d

  abbrev kinds' : List ℕ
  kinds' = map kind_number (with_kind s r)

  abbrev place' : List ℕ
  place' = places s g x h room ++ (m ∷ [])

  abbrev rows' : List (List ℤ)
  rows' = map (layout k) t.rows ++ (layout k new ∷ [])

  complete : Complete k (length (with_kind s r)) t'
  complete = row-proper 128 s g.proper r d q

  kinds-more : length (with_kind s r) ≡ 8 + k + m + 1
  kinds-more = let a = names-are s g in let b = one_more s.kinds (some r.kind) in omega arith

  place-more : length place' ≡ 8 + k + m + 1
  place-more = let a = places-long s g x h room in let b = length-append (places s g x h room) (m ∷ []) in omega arith

  old-place : (v : ℕ) → v < length (places s g x h room) → (v < length place') × (get_or place' v 0 ≡ get_or (places s g x h room) v 0)
  old-place v b = let e = length-append (places s g x h room) (m ∷ []) in (omega arith, get_or-append (places s g x h room) (m ∷ []) 0 v b)

  -- an old row, or the new one
  by_row : (Q : ℕ → Row → Type 0) → ((i : ℕ) → i < m → Q i (get_or t.rows i no_row)) → Q m new → (i : ℕ) → i < length t'.rows → Q i (get_or t'.rows i no_row)
  by_row Q f z i b =
      ⊎_elim (λ l. subst (Q i) (sym (get_or-append t.rows (new ∷ []) no_row i l)) (f i l))
      (λ l. subst (λ j. Q j (get_or t'.rows j no_row)) (sym (last b l)) (subst (Q m) (sym (get_or-append_seam t.rows new [] no_row)) z)) (lt-or-le i m)
    where
      last : i < length t'.rows → m ≤ i → i ≡ m
      last b l = let e = one_more t.rows new in omega arith

  shows-old : S.Shows k (map (layout k) t.rows) (places s g x h room) t
  shows-old = table-shows s g x h room

  shows_more : S.Shows k rows' place' t'
  shows_more =
      record {
        few = g.few;
        count = let e = one_more t.rows new in let a = g.rows in let b = g.few in omega arith;
        width = complete.square;
        shaped = complete.sound.shaped;
        rows_are = sym (map-append (layout k) t.rows (new ∷ []));
        rows_at =
            by_row (λ (i : ℕ) (u : Row). (u.var < length place') × (get_or place' u.var 0 ≡ i))
            (λ i b. let o = shows-old.rows_at i b in let p = old-place (row_var t i) o.0 in (p.0, p.1 ∙ o.1))
            (let a = names-are s g in let b = place-more in let l = places-long s g x h room in let e : length s.kinds ≡ length (places s g x h room) = omega arith in
            (omega arith, ap (λ v. get_or place' v 0) e ∙ get_or-append_seam (places s g x h room) m [] 0));
        cols_at = λ j b. let o = shows-old.cols_at j b in let p = old-place (col_var t j) o.0 in (p.0, p.1 ∙ o.1);
        whose = λ v b. let a = kinds-more in let e = place-more in named v (complete.present v (omega arith));
      }
    where
      named : (v : ℕ) → P.Present t' v → S.Named t' v
      named v (P.in-column j b e) = S.in-col j b e
      named v (P.in-row i b e) = S.in-row i b e

  -- ---- the test goes on

  abbrev sort : ℕ → Option Kind
  sort = sort_by (with_kind s r)

  abbrev end : F.Ending
  end = goes_on_at 128 sort t'

  abbrev o : Ending
  o = run_table_at (bound 128) kinds' 200 rows' place'

  ends : Ends k end o
  ends = reach-shows k sort kinds' (bound 128) 200 t' rows' place' shows_more (λ v b. get_or-map kind_number (with_kind s r) v none)

  place_kept : length o.place ≡ 8 + k + m + 1
  place_kept =
      let a = kinds-more in
      let b = place-more in
      let c = length-map (with_kind s r) kind_number in
      let u = rows_few s g in
      let f = g.few in
      (run-keeps {W = 128} (omega arith) (k + 10) kinds' 200 rows' place' (shows-fine k rows' place' kinds' t' shows_more (omega arith) (names-80 g.rows less))).1 ∙ b
    where
      names-80 : m ≤ 2 * k + s.rules → s.rules < 48 → length place' ≤ 80
      names-80 a l = let b = place-more in let f = g.few in omega arith

  abbrev s' : State
  s' = grown (goes_on_at 128) s r (some d)

  proper' : Proper s'
  proper' = subst Proper (added-128 s r ∙ added-grown s r point-now (some d) q) (proper-added s r g.proper)

  rows-kept : length s'.tableau.rows ≡ m + 1
  rows-kept = let a = proper'.many in let b = kinds-more in omega arith

  pub good_more : Good s'
  good_more =
      record {
        axes = g.axes;
        few = g.few;
        rules = less;
        rows = let a = rows-kept in let b = g.rows in omega arith;
        proper = proper';
        within = subst (StateWithin 128 two) (added-grown s r point-now (some d) q) (added-within 128 two s r fits g.within);
      }

  run-rows : o.rows ≡ map (layout k) s'.tableau.rows
  run-rows = ends.shows.rows_are

  run_long : length (map words o.rows) ≡ m + 1
  run_long = length-map o.rows words ∙ ap length run-rows ∙ length-map s'.tableau.rows (layout k) ∙ rows-kept

-- ---- in the memory

five : (l : List ℕ) (i v : ℕ) → i < 5 → take 5 (set l i v) ≡ set (take 5 l) i v
five l i v h = take-set-lt 5 l i v h

module _ (s : State) (g : Good s) (y : Memory) (f : Fits y) (h : ShowsState s (slot_of 0 y)) where
  abbrev n : ℕ
  n = 8 + s.divisions + length s.tableau.rows

  names-80 : n ≤ 80
  names-80 = let a = rows_few s g in let b = g.few in omega arith

  kinds-taken : take n y.kinds ≡ map kind_number s.kinds
  kinds-taken = let e = names-are s g in sym (take-take n 80 y.kinds names-80) ∙ ap (λ j. take j (take 80 y.kinds)) (sym e) ∙ h.kinds

  rules-are : head_at 0 2 y + 1 ≡ suc s.rules
  rules-are = ap (λ x. x + 1) (head_at_lem s 0 y h 2 (omega arith)) ∙ add-one s.rules

  counted-changed : Changed y (counted_in y)
  counted-changed = record { rows = same-all 64 y.rows; place = same-all 80 y.place; kinds = same-all 80 y.kinds; heads = same_set 5 y.heads y.heads 2 (head_at 0 2 y + 1) (omega arith) (same-all 5 y.heads) }

  head-counted : take 5 (counted_in y).heads ≡ s.axes ∷ s.divisions ∷ suc s.rules ∷ length s.tableau.rows ∷ word_for s.says ∷ []
  head-counted = five y.heads 2 (head_at 0 2 y + 1) (omega arith) ∙ ap₂ (λ (l : List ℕ) (v : ℕ). set l 2 v) h.head rules-are

  counted-shows : ShowsState (counted s) (slot_of 0 (counted_in y))
  counted-shows = record { head = head-counted; rows = h.rows; row_places = h.row_places; column_places = h.column_places; kinds = h.kinds }

  -- "beyond it is wide"
  wide-changed : Changed y (saying 3 (counted_in y))
  wide-changed = record { rows = same-all 64 y.rows; place = same-all 80 y.place; kinds = same-all 80 y.kinds; heads = same_set 5 (counted_in y).heads y.heads 4 3 (omega arith) counted-changed.heads }

  wide-shows : (r : Constraint) → ShowsState (grown (goes_on_at 128) s r none) (slot_of 0 (saying 3 (counted_in y)))
  wide-shows r =
      record {
        head = five (counted_in y).heads 4 3 (omega arith) ∙ ap (λ (l : List ℕ). set l 4 3) head-counted;
        rows = h.rows;
        row_places = h.row_places;
        column_places = h.column_places;
        kinds = h.kinds;
      }

  -- the code's row and planning's
  row_is : (r : Constraint) → rule_row (bound 128) s.divisions (rows_of (take (length s.tableau.rows) y.rows)) (take n y.place) r ≡ laid_out s.divisions (row_at 128 s r)
  row_is r =
      let e = places-long s g (slot_of 0 y) h (place_room s g y f h) in
      ap₂ (λ t p. rule_row (bound 128) s.divisions t p r) (ap rows_of (rows_taken s g y f h) ∙ rows_are s g) (place-taken s g y f h)
      ∙ rule-shows (bound 128) s.divisions (map (layout s.divisions) s.tableau.rows) (places s g (slot_of 0 y) h (place_room s g y f h)) s.tableau (table-shows s g (slot_of 0 y) h (place_room s g y f h)) (omega arith) r

  module _ (r : Constraint) (less : s.rules < 48) (fits : ConstraintWithin (2 ^ 127 - 1) r) (point-now : s.says ≡ point) (d : Draft) (q : row_at 128 s r ≡ some d) where
    abbrev end' : Ending
    end' = o s g (slot_of 0 y) h (place_room s g y f h) r less fits point-now d q

    abbrev row' : List ℤ
    row' = layout s.divisions (new s g (slot_of 0 y) h (place_room s g y f h) r less fits point-now d q)

    run_is : goes_on s.divisions (length s.tableau.rows) (kind_number (some r.kind)) row' (counted_in y) ≡ end'
    run_is =
        same-run (ap (λ l. l ++ (kind_number (some r.kind) ∷ [])) kinds-taken ∙ sym (map-append kind_number s.kinds (some r.kind ∷ [])))
        (ap (λ l. l ++ (row' ∷ [])) (ap rows_of (rows_taken s g y f h) ∙ rows_are s g)) (ap (λ l. l ++ (length s.tableau.rows ∷ [])) (place-taken s g y f h))

    abbrev z : Memory
    z = went_on s.divisions (length s.tableau.rows) (kind_number (some r.kind)) end' (counted_in y)

    m-64 : length s.tableau.rows + 1 ≤ 64
    m-64 = let a = g.rows in let b = g.few in omega arith

    n-80 : n + 1 ≤ 80
    n-80 = let a = m-64 in let b = g.few in omega arith

    abbrev ran-rows : length (map words end'.rows) ≡ length s.tableau.rows + 1
    ran-rows = run_long s g (slot_of 0 y) h (place_room s g y f h) r less fits point-now d q

    abbrev ran-place : length end'.place ≡ n + 1
    ran-place = place_kept s g (slot_of 0 y) h (place_room s g y f h) r less fits point-now d q

    abbrev s'' : State
    s'' = s' s g (slot_of 0 y) h (place_room s g y f h) r less fits point-now d q

    abbrev ended : Ends s.divisions (end s g (slot_of 0 y) h (place_room s g y f h) r less fits point-now d q) end'
    ended = ends s g (slot_of 0 y) h (place_room s g y f h) r less fits point-now d q

    went-changed : Changed y z
    went-changed =
        let a = f.rows in
        let b = f.place in
        let c = m-64 in
        let e = n-80 in
        record {
          rows = same-front 64 (length s.tableau.rows + 1) (map words end'.rows) y.rows ran-rows (omega arith) (omega arith);
          place = same-front 80 (n + 1) end'.place y.place ran-place (omega arith) (omega arith);
          kinds = same_set 80 y.kinds y.kinds n (kind_number (some r.kind)) (omega arith) (same-all 80 y.kinds);
          heads = same_set 5 (set (counted_in y).heads 4 (word_number end'.verdict)) y.heads 3 (length s.tableau.rows + 1) (omega arith) (same_set 5 (counted_in y).heads y.heads 4 (word_number end'.verdict) (omega arith) counted-changed.heads);
        }

    went-place : (v : ℕ) → v < length end'.place → get_or (slot_of 0 z).place v 0 ≡ get_or end'.place v 0
    went-place v b =
        let e = ran-place in
        let c = n-80 in
        get_or-take 80 (end'.place ++ drop (n + 1) y.place) v 0 (omega arith) ∙ get_or-append end'.place (drop (n + 1) y.place) 0 v b

    went-shows : ShowsState s'' (slot_of 0 z)
    went-shows =
        record {
          head =
              five (set (counted_in y).heads 4 (word_number end'.verdict)) 3 (length s.tableau.rows + 1) (omega arith)
              ∙ ap (λ (l : List ℕ). set l 3 (length s.tableau.rows + 1)) (five (counted_in y).heads 4 (word_number end'.verdict) (omega arith) ∙ ap₂ (λ (l : List ℕ) (v : ℕ). set l 4 v) head-counted (word_number_lem end'.verdict ∙ ap word_for ended.verdict_is))
              ∙ ap (λ (j : ℕ). s.axes ∷ s.divisions ∷ suc s.rules ∷ j ∷ word_for s''.says ∷ []) (sym rows_now);
          rows =
              ap (λ j. take j (take 64 z.rows)) rows_now ∙ take-take (length s.tableau.rows + 1) 64 z.rows m-64
              ∙ take_at (map words end'.rows) (drop (length s.tableau.rows + 1) y.rows) (length s.tableau.rows + 1) ran-rows
              ∙ ap (map words) (run-rows s g (slot_of 0 y) h (place_room s g y f h) r less fits point-now d q)
              ∙ words-rows s.divisions s''.tableau.rows;
          row_places = λ i b. let p = ended.shows.rows_at i b in went-place (row_var s''.tableau i) p.0 ∙ p.1;
          column_places = λ j b. let p = ended.shows.cols_at j b in went-place (col_var s''.tableau j) p.0 ∙ p.1;
          kinds =
              ap (λ j. take j (take 80 z.kinds)) kinds-now ∙ take-take (suc n) 80 z.kinds (let c = n-80 in omega arith)
              ∙ take-suc-set y.kinds n (kind_number (some r.kind)) (let a = f.kinds in let c = n-80 in omega arith)
              ∙ ap (λ l. l ++ (kind_number (some r.kind) ∷ [])) kinds-taken
              ∙ sym (map-append kind_number s.kinds (some r.kind ∷ []));
        }
      where
        rows_now : length s''.tableau.rows ≡ length s.tableau.rows + 1
        rows_now = rows-kept s g (slot_of 0 y) h (place_room s g y f h) r less fits point-now d q

        kinds-now : length s''.kinds ≡ suc n
        kinds-now = one_more s.kinds (some r.kind) ∙ ap suc (names-are s g)

-- ---- the call

module _ (d : Desk State) (g : Kept d) (y : Memory) (h : Shows d y) (r : Constraint) (fits : ConstraintWithin (2 ^ 127 - 1) r) where
  abbrev now : State
  now = d.now

  abbrev renews : State → Desk State
  renews s = record { now = s; marks = d.marks }

  -- a memory that has become a state's, and says its word
  meets : (z : Memory) (s : State) → Good s → Changed y z → ShowsState s (slot_of 0 z) → Meets (λ j. ⊥) (gives (renews s)) d y (says z)
  meets z s gs c n =
      record {
        said = ap said_of (head_at_lem s 0 z n 4 (omega arith)) ∙ said-is s.says;
        kept = record { now = gs; marks = g.marks; once = g.once; names = g.names };
        shows = changed-shows y z c d h s n;
        slots = λ j l m. changed-slots y z c j;
      }

  -- the heads as the code reads them
  joined_is : joined_in r y ≡ cond (eqb (word_for now.says) 1) (grown_in now.divisions (length now.tableau.rows) r (counted_in y)) (counted_in y)
  joined_is = three (head_at_lem now 0 y h.now 4 (omega arith)) (head_at_lem now 0 y h.now 1 (omega arith)) (head_at_lem now 0 y h.now 3 (omega arith))
    where
      three : {w w' k k' m m' : ℕ} → w ≡ w' → k ≡ k' → m ≡ m' → cond (eqb w 1) (grown_in k m r (counted_in y)) (counted_in y) ≡ cond (eqb w' 1) (grown_in k' m' r (counted_in y)) (counted_in y)
      three a b c = cc

  module _ (less : now.rules < 48) where
    others : (v : Verdict) → now.says ≡ v → (v ≡ point → ⊥) → eqb (word_for v) 1 ≡ false → Meets (λ j. ⊥) (gives (renews (added_at 128 now r))) d y (says (joined_in r y))
    others v e n w =
        subst (λ s. Meets (λ j. ⊥) (gives (renews s)) d y (says (joined_in r y))) (sym (added-counted now r (λ q. n (sym e ∙ q))))
        (subst (λ z. Meets (λ j. ⊥) (gives (renews (counted now))) d y (says z)) (sym (joined_is ∙ ap (λ (b : Bool). cond b (grown_in now.divisions (length now.tableau.rows) r (counted_in y)) (counted_in y)) (ap (λ v. eqb (word_for v) 1) e ∙ w)))
        (meets (counted_in y) (counted now) (good-counted now r g.now less) (counted-changed now g.now y h.fits h.now) (counted-shows now g.now y h.fits h.now)))

    grows : now.says ≡ point → (o : Option Draft) → row_at 128 now r ≡ o → Meets (λ j. ⊥) (gives (renews (grown (goes_on_at 128) now r o))) d y (says (grown_in now.divisions (length now.tableau.rows) r (counted_in y)))
    unfolding grown_in
    grows e none q =
        subst (λ z. Meets (λ j. ⊥) (gives (renews (grown (goes_on_at 128) now r none))) d y (says z))
        (sym (ap (λ x. grown_by now.divisions (length now.tableau.rows) (kind_number (some r.kind)) x (counted_in y)) (row_is now g.now y h.fits h.now r ∙ ap (laid_out now.divisions) q)))
        (meets (saying 3 (counted_in y)) (grown (goes_on_at 128) now r none) (good-wide now r g.now less) (wide-changed now g.now y h.fits h.now) (wide-shows now g.now y h.fits h.now r))
    grows e (some x) q =
        let place = place_room now g.now y h.fits h.now in
        subst (λ z. Meets (λ j. ⊥) (gives (renews (grown (goes_on_at 128) now r (some x)))) d y (says z))
        (sym (ap (λ u. grown_by now.divisions (length now.tableau.rows) (kind_number (some r.kind)) u (counted_in y)) (row_is now g.now y h.fits h.now r ∙ ap (laid_out now.divisions) q)
        ∙ ap (λ v. went_on now.divisions (length now.tableau.rows) (kind_number (some r.kind)) v (counted_in y)) (run_is now g.now y h.fits h.now r less fits e x q)))
        (meets (z now g.now y h.fits h.now r less fits e x q) (grown (goes_on_at 128) now r (some x)) (good_more now g.now (slot_of 0 y) h.now place r less fits e x q)
        (went-changed now g.now y h.fits h.now r less fits e x q) (went-shows now g.now y h.fits h.now r less fits e x q))

    joins : Meets (λ j. ⊥) (gives (renews (added_at 128 now r))) d y (says (joined_in r y))
    joins = at now.says refl
      where
        at : (v : Verdict) → now.says ≡ v → Meets (λ j. ⊥) (gives (renews (added_at 128 now r))) d y (says (joined_in r y))
        at point e =
            subst (λ s. Meets (λ j. ⊥) (gives (renews s)) d y (says (joined_in r y))) (sym (added-grown now r e (row_at 128 now r) refl))
            (subst (λ z. Meets (λ j. ⊥) (gives (renews (grown (goes_on_at 128) now r (row_at 128 now r)))) d y (says z)) (sym (joined_is ∙ ap (λ v. cond (eqb (word_for v) 1) (grown_in now.divisions (length now.tableau.rows) r (counted_in y)) (counted_in y)) e))
            (grows e (row_at 128 now r) refl))
        at dropped e = others dropped e (λ q. no_way q) refl
          where
            no_way : ◌≡◌ {A = Verdict} dropped point → ⊥
            no_way q = let z : ◌≡◌ {A = ℕ} 2 1 = ap word_for q in omega arith
        at long e = others long e (λ q. no_way q) refl
          where
            no_way : ◌≡◌ {A = Verdict} long point → ⊥
            no_way q = let z : ◌≡◌ {A = ℕ} 4 1 = ap word_for q in omega arith
        at wide e = others wide e (λ q. no_way q) refl
          where
            no_way : ◌≡◌ {A = Verdict} wide point → ⊥
            no_way q = let z : ◌≡◌ {A = ℕ} 3 1 = ap word_for q in omega arith

-- a rule that is not refused has small numbers
rule-within : (r : Constraint) → Within 2147483648 r.constant → T (all coefficient r.axes) → T (all coefficient r.divisions) → ConstraintWithin (2 ^ 127 - 1) r
rule-within r c a b =
    let w = conditions-within 8 (without_rules []) (record { kind = r.kind; number = 0; constant = pos 0; axes = r.axes; divisions = r.divisions }) (record { few_divisions = leb→le 0 8 tt; few_constraints = leb→le 0 48 tt; divisions = tt; constraints = tt }) (leb→le 1 2147483648 tt) a b (2 ^ 127 - 1) (leb→le 2147483648 (2 ^ 127 - 1) tt) in
    (within-mono (leb→le 2147483648 (2 ^ 127 - 1) tt) c, w.0.1, w.0.2)

module _ (d : Desk State) (g : Kept d) (y : Memory) (h : Shows d y) (r : Constraint) (short : Within 2147483648 r.constant) where
  number_is : rule_refusal d.now r ≡ rule_number (head_at 0 0 y) (head_at 0 1 y) (head_at 0 2 y) r
  number_is = three (sym (head_at_lem d.now 0 y h.now 0 (omega arith))) (sym (head_at_lem d.now 0 y h.now 1 (omega arith))) (sym (head_at_lem d.now 0 y h.now 2 (omega arith)))
    where
      three : {a a' b b' c c' : ℕ} → a ≡ a' → b ≡ b' → c ≡ c' → rule_number a b c r ≡ rule_number a' b' c' r
      three p q s = cc

  add-here : Meets (λ j. ⊥) (call_at 128 (add r) d) d y (add_step r y)
  add-here = at (rule_refusal d.now r) refl
    where
      fit : fitting y ≡ true
      fit = fits-fitting y h.fits

      firm : sound y ≡ true
      firm = sound-here d.now g.now y h.fits h.now

      at : (c : ℕ) → rule_refusal d.now r ≡ c → Meets (λ j. ⊥) (renewed (unless c (added_at 128 d.now r)) d) d y (add_step r y)
      at zero e =
          let t = all-passed (rule_tests d.now.axes d.now.divisions d.now.rules r) tt e in
          let a = all coefficient r.axes in
          let b = all coefficient r.divisions in
          let u = and_right (constant_fits r.kind r.constant) (a && b) t.0 in
          subst (Meets (λ j. ⊥) (gives (renews d g y h r (rule-within r short (and_left a b u) (and_right a b u)) (added_at 128 d.now r))) d y) (add_done r y fit firm 0 (sym e ∙ number_is) refl refl)
          (joins d g y h r (rule-within r short (and_left a b u) (and_right a b u)) (ltb→lt d.now.rules 48 t.1.1.0))
      at (suc c) e =
          subst (Meets (λ j. ⊥) (refused (suc c)) d y) (add-refused r y fit firm (suc c) (sym e ∙ number_is) (λ z. omega arith)) (record { said = refl; kept = g; shows = h; slots = λ j l n. refl })

  pub add_meets : Meets (λ j. ⊥) (call_answer (add r) d) d y (add_step r y)
  add_meets = subst (λ a. Meets (λ j. ⊥) a d y (add_step r y)) (sym (call-128 (add r) d)) add-here
