-- The tables of a state. Assumes nothing.
use mathlib.Core.Path.{◌≡◌, refl, sym, ap, ap₂, ◌∙◌, subst}
use mathlib.Core.List.{List, [], ◌∷◌, map}
use Prim.Native.Nat.{ℕ, suc, ◌+◌, ◌*◌, ◌≤◌, ◌<◌, suc-le-suc}
use native.Mathlib.Nat.{zero-lt-suc}
use native.Mathlib.Omega.{arith}
use lib.IntN.{ℤ}
use lib.ListN.{length, get_or, length-map}
use lib.Seq.{ext_get_or}
use Rattle.model.specs.Sets as S
use Rattle.model.specs.Sets.{bounds}
use Rattle.wide_tableau.specs.Cells.{words, rows_of, Sheet, Turns}
use Rattle.feasibility.specs.Tableau.{start}
use Rattle.integers.specs.Size.{bound}
use Rattle.simplex.specs.Table.{Ending, run_table_at, place_at, start_row, Named, Fine}
use Rattle.simplex.specs.declared.Counted.{Counted}
use Rattle.carrying.specs.Carried.{WentTo}
use Rattle.simplex.proofs.Columns.{tabulate-at, tabulate-length}
use Rattle.simplex.proofs.Shows.{Shows}
use Rattle.simplex.proofs.Filled.{start-shows, shows-fine}
use Rattle.states.specs.Calls.{word_number, first_place, first_kinds, free_or_bound, first_rows, start_end}
use Rattle.states.specs.Parts.{Begun, Ran}

-- ---- words

words-rows : (t : List (List ℕ)) → ((k : ℕ) → k < length t → Sheet (get_or t k [])) → map words (rows_of t) ≡ t
words-rows [] h = refl
words-rows (r ∷ t) h = ap₂ ◌∷◌ (h 0 (zero-lt-suc (length t))).plain (words-rows t (λ k l. h (suc k) (suc-le-suc l)))

-- a table that has become these rows has their words
pub turned-words : {t : List (List ℕ)} {l : List (List ℤ)} → Turns t l → t ≡ map words l
turned-words {t} {l} e = sym (words-rows t e.sheets.at) ∙ ap (map words) e.is

-- ---- the first table of k divisions

pub bounds-count : (i : ℕ) (ds : List S.Division) → length (bounds i ds) ≡ 2 * length ds
bounds-count i [] = refl
bounds-count i (e ∷ ds) = let h = bounds-count (suc i) ds in omega arith

pub place-long : (k : ℕ) → length (first_place k) ≡ 8 + k + 2 * k
unfolding first_place
place-long k = tabulate-length (8 + k + 2 * k) (place_at k)

pub kinds-long : (k : ℕ) → length (first_kinds k) ≡ 8 + k + 2 * k
unfolding first_kinds
kinds-long k = tabulate-length (8 + k + 2 * k) (free_or_bound k)

pub place_at_lem : (k v : ℕ) → v < 8 + k + 2 * k → get_or (first_place k) v 0 ≡ place_at k v
unfolding first_place
place_at_lem k v h = tabulate-at (8 + k + 2 * k) (place_at k) v 0 h

pub kind_at : (k v : ℕ) → v < 8 + k + 2 * k → get_or (first_kinds k) v 0 ≡ free_or_bound k v
unfolding first_kinds
kind_at k v h = tabulate-at (8 + k + 2 * k) (free_or_bound k) v 0 h

module _ {k : ℕ} {place place' kinds kinds' : List ℕ} (n : Named k (8 + k + 2 * k) place place' kinds kinds') where
  pub named-place : length place ≡ 8 + k + 2 * k → place' ≡ first_place k
  named-place e =
      let l = n.long ∙ e in
      ext_get_or 0 place' (first_place k) (l ∙ sym (place-long k)) (λ i h. let w : i < 8 + k + 2 * k = omega arith in n.places i w ∙ sym (place_at_lem k i w))

  pub named-kinds : length kinds ≡ 8 + k + 2 * k → kinds' ≡ first_kinds k
  named-kinds e =
      let l = n.names ∙ e in
      ext_get_or 0 kinds' (first_kinds k) (l ∙ sym (kinds-long k)) (λ i h. let w : i < 8 + k + 2 * k = omega arith in n.free i w ∙ sym (kind_at k i w))

module _ (k : ℕ) (ds : List S.Division) (few : k ≤ 8) (len : length ds ≡ k) where
  pub rows_long : length (first_rows k ds) ≡ 2 * k
  rows_long = length-map (bounds 0 ds) (start_row k) ∙ bounds-count 0 ds ∙ ap (λ n. 2 * n) len

  pub first-shows : Shows k (first_rows k ds) (first_place k) (start k (bounds 0 ds))
  first-shows =
      start-shows k (bounds 0 ds) few (2 * k) (bounds-count 0 ds ∙ ap (λ n. 2 * n) len) (omega arith) (first_place k) (place-long k) (place_at_lem k) (first_rows k ds) refl

  pub first_fine : Fine (k + 10) (first_rows k ds) (first_place k) (first_kinds k)
  first_fine = shows-fine k (first_rows k ds) (first_place k) (first_kinds k) (start k (bounds 0 ds)) first-shows (kinds-long k ∙ sym (place-long k)) (let l = place-long k in omega arith)

-- ---- a run that the code made
pub ran : {rows : List (List ℤ)} {place kinds : List ℕ} {x : Counted} {t : List (List ℕ)} {place' : List ℕ} {w : ℕ} {e : Ending} → WentTo rows place kinds 200 x t place'
    → run_table_at (bound 128) kinds 200 rows place ≡ e → w ≡ word_number x.ended.verdict → Ran e w t place'
ran g q h =
    record {
      word = h ∙ ap word_number (g.went.verdict_is ∙ ap (λ (o : Ending). o.verdict) q);
      rows = turned-words g.rows_are ∙ ap (λ (o : Ending). map words o.rows) q;
      place_is = g.place_is ∙ ap (λ (o : Ending). o.place) q;
    }

pub same-run : {kinds kinds' place place' : List ℕ} {rows rows' : List (List ℤ)} → kinds ≡ kinds' → rows ≡ rows' → place ≡ place'
    → run_table_at (bound 128) kinds 200 rows place ≡ run_table_at (bound 128) kinds' 200 rows' place'
same-run a b c = cc

module _ {k : ℕ} {ds : List S.Division} {t : List (List ℕ)} {place kinds : List ℕ} (b : Begun k ds t place kinds) where
  pub begun-fine : k ≤ 8 → length ds ≡ k → Fine (k + 10) (rows_of t) place kinds
  begun-fine f l =
      subst (λ r. Fine (k + 10) r place kinds) (sym b.rows.is)
      (subst (λ p. Fine (k + 10) (first_rows k ds) p kinds) (sym b.place_is) (subst (Fine (k + 10) (first_rows k ds) (first_place k)) (sym b.kinds_are) (first_fine k ds f l)))

  pub begun-run : run_table_at (bound 128) kinds 200 (rows_of t) place ≡ start_end k ds
  unfolding start_end
  begun-run = same-run b.kinds_are b.rows.is b.place_is
