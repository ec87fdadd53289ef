-- The first table of a basic set shows its first tableau, and what shows a tableau can be run. Assumes nothing.
use mathlib.Core.Path.{◌≡◌, refl, sym, ap, ap₂, ◌∙◌, subst}
use mathlib.Core.Bool.{false, cond}
use mathlib.Core.List.{List, [], ◌∷◌, ◌++◌, map}
use mathlib.Core.Option.{Option, none, some}
use mathlib.Core.Logic.{⊎_elim}
use Prim.Native.Nat.{ℕ, zero, suc, ◌+◌, ◌-◌, ◌*◌, ◌≤◌, ◌<◌}
use native.Mathlib.Nat.{le_of_suc-le-suc, not-suc-le-zero, zero-add}
use native.Mathlib.Omega.{arith}
use borrow.Author.Tests.{lt-ltb, le-ltb}
use lib.Dec.{ltb}
use lib.ListN.{length, get_or, take, replicate, length-map, length-append, length-replicate, get_or-append}
use lib.Seq.{get_or-take, get_or-append-add, length-take-le}
use lib.IntN.{ℤ, pos}
use lib.Signed.{◌<ℤ◌}
use Rattle.integers.specs.Part.{lt-or-le}
use Rattle.model.specs.Sets as S
use Rattle.model.specs.Sets.{bounds, Kind, inequality, conditions}
use Rattle.model.specs.Values.{division_of, constraint_of, basic_set_of}
use Rattle.model.specs.declared.Constraint.{Constraint}
use Rattle.model.specs.declared.BasicSet.{BasicSet}
use Rattle.feasibility.specs.Tableau as T
use Rattle.feasibility.specs.Tableau.{Row, Tableau, first_rows, start, begin, sorts, no_row}
use Rattle.tableau.specs.Rows.{den, Line, Whole}
use Rattle.simplex.specs.Table.{column_of, standing, number_at, layout, start_row, place_at, kind_number, Fine, Valid, Bounded, Ruled, First}
use Rattle.simplex.specs.Table as Table
use Rattle.feasibility.proofs.Exchange.{Shape, Shaped, shape_at}
use Rattle.feasibility.proofs.Start.{length_from, start-shaped}
use Rattle.feasibility.proofs.Points.{from_at, rows-from}
use Rattle.feasibility.proofs.Verdicts.{row_var, col_var}
use Rattle.simplex.proofs.Columns.{lay_at, lay-length, column-in, column-low, column-mid, standing-high}
use Rattle.simplex.proofs.Fills.{past_end, map-append, map_get}
use Rattle.simplex.proofs.Shows.{Named, in-row, in-col, Shows, map_at}

-- ---- a row with a number for each column, and its constant

module _ (k : ℕ) (few : k ≤ 8) where
  blank-number : (d : ℤ) (ns : List ℤ) → length ns ≡ suc (8 + k) → (i : ℕ) → k + 10 ≤ i → number_at k d ns i ≡ pos 0
  unfolding number_at
  blank-number d ns e zero h = absurd (omega arith)
  blank-number d ns e (suc zero) h = absurd (omega arith)
  blank-number d ns e (suc (suc c)) h = past_end ns (suc (standing k c)) (subst (λ n. length ns ≤ suc n) (sym (standing-high k c (omega arith))) (omega arith))

  pub layout-whole : (r : Row) → Shape (8 + k) r → Whole (k + 10) (layout k r)
  unfolding number_at
  layout-whole r s =
      record {
        line =
            record {
              fit = omega arith;
              long = lay-length k few r.den r.nums;
              blank = λ m b. ⊎_elim
                  (λ a. lay_at k few r.den r.nums m a ∙ blank-number r.den r.nums s.long m b)
                  (λ a. past_end (layout k r) m (subst (λ n. n ≤ m) (sym (lay-length k few r.den r.nums)) a))
                  (lt-or-le m 18);
            };
        over = subst (λ z. pos 0 <ℤ z) (sym (lay_at k few r.den r.nums 0 (omega arith))) s.positive;
      }

  -- the first row of a constraint
  pub row-whole : (c : S.Constraint) → Whole (k + 10) (start_row k c)
  unfolding start_row
  row-whole c = layout-whole _ (subst (λ n. Shaped n (first_rows k 0 (c ∷ []))) (length_from 0 (8 + k)) (start-shaped k 0 (c ∷ []))).0

-- ---- a table that shows a tableau is fine

module _ (k : ℕ) (rows : List (List ℤ)) (place kinds : List ℕ) (t : Tableau) (s : Shows k rows place t) (same : length kinds ≡ length place) (names : length place ≤ 80) where
  row_is : (i : ℕ) → i < length t.rows → get_or rows i [] ≡ layout k (get_or t.rows i no_row)
  row_is i h = ap (λ l. get_or l i []) s.rows_are ∙ map_at (layout k) t.rows i h

  shape : (i : ℕ) → i < length t.rows → Shape (8 + k) (get_or t.rows i no_row)
  shape i h = shape_at (8 + k) t.rows i h (subst (λ n. Shaped n t.rows) s.width s.shaped)

  whole_of : (i : ℕ) → i < length t.rows → Whole (k + 10) (layout k (get_or t.rows i no_row))
  whole_of i h = layout-whole k s.few (get_or t.rows i no_row) (shape i h)

  count : length rows ≡ length t.rows
  count = ap length s.rows_are ∙ length-map t.rows (layout k)

  near_of : (v : ℕ) → Named t v → get_or place v 0 < 80
  near_of v (in-row i h e) = let c = s.count in let q = (s.rows_at i h).1 in subst (λ u. get_or place u 0 < 80) e (omega arith)
  near_of v (in-col j h e) =
      let f = s.few in
      let q = (s.cols_at j h).1 in
      let c = column-in k j (subst (λ n. j < n) s.width h) in
      subst (λ u. get_or place u 0 < 80) e (omega arith)

  spot_of : (v : ℕ) → Named t v → get_or place v 0 < 64 → get_or place v 0 < length rows
  spot_of v (in-row i h e) l = let q = (s.rows_at i h).1 in subst (λ u. get_or place u 0 < length rows) e (subst (λ n. get_or place (row_var t i) 0 < n) (sym count) (omega arith))
  spot_of v (in-col j h e) l =
      let q = (s.cols_at j h).1 in
      let w : get_or place (col_var t j) 0 < 64 = subst (λ u. get_or place u 0 < 64) (sym e) l in
      absurd (omega arith)

  pub shows-fine : Fine (k + 10) rows place kinds
  shows-fine =
      record {
        count = subst (λ n. n ≤ 64) (sym count) s.count;
        names = names;
        same = same;
        line = λ i h. subst (Line (k + 10)) (sym (row_is i (subst (λ n. i < n) count h))) (whole_of i (subst (λ n. i < n) count h)).line;
        dens = λ i h. subst (λ l. pos 0 <ℤ den l) (sym (row_is i (subst (λ n. i < n) count h))) (whole_of i (subst (λ n. i < n) count h)).over;
        near = λ v h. near_of v (s.whose v h);
        spot = λ v h. spot_of v (s.whose v h);
      }

-- ---- the first tableau

first-layout : (k v : ℕ) (cs : List S.Constraint) → map (start_row k) cs ≡ map (layout k) (first_rows k v cs)
unfolding start_row
first-layout k v [] = refl
first-layout k v (c ∷ cs) = ap₂ ◌∷◌ refl (first-layout k (suc v) cs)

pub first-long : (k v : ℕ) (cs : List S.Constraint) → length (first_rows k v cs) ≡ length cs
first-long k v [] = refl
first-long k v (c ∷ cs) = ap suc (first-long k (suc v) cs)

-- the first table, of k divisions and m rows
module _ (k : ℕ) (cs : List S.Constraint) (few : k ≤ 8) (m : ℕ) (len : length cs ≡ m) (most : m ≤ 64) (place : List ℕ) (long : length place ≡ 8 + k + m)
    (places : (v : ℕ) → v < 8 + k + m → get_or place v 0 ≡ place_at k v) where
  abbrev t : Tableau
  t = start k cs

  rows_long : length t.rows ≡ m
  rows_long = first-long k (8 + k) cs ∙ len

  var-row : (i : ℕ) → i < length t.rows → row_var t i ≡ 8 + k + i
  var-row i h = rows-from k (8 + k) cs i h

  var-col : (j : ℕ) → j < 8 + k → col_var t j ≡ j
  var-col j h = from_at 0 (8 + k) j h ∙ zero-add j

  place-row : (i : ℕ) → place_at k (8 + k + i) ≡ i
  place-row i =
      let v = 8 + k + i in
      ap (λ b. cond b (64 + k + v) (cond (ltb v (8 + k)) (64 + (v - 8)) (v - (8 + k)))) (le-ltb v 8 (omega arith))
      ∙ ap (λ b. cond b (64 + (v - 8)) (v - (8 + k))) (le-ltb v (8 + k) (omega arith))
      ∙ minus
    where
      minus : 8 + k + i - (8 + k) ≡ i
      minus = omega arith

  place-col : (j : ℕ) → j < 8 + k → place_at k j ≡ 64 + column_of k j
  place-col j h =
      ⊎_elim
      (λ l. ap (λ b. cond b (64 + k + j) (cond (ltb j (8 + k)) (64 + (j - 8)) (j - (8 + k)))) (lt-ltb j 8 l) ∙ assoc ∙ ap (λ n. 64 + n) (sym (column-low k j l)))
      (λ l.
      ap (λ b. cond b (64 + k + j) (cond (ltb j (8 + k)) (64 + (j - 8)) (j - (8 + k)))) (le-ltb j 8 l)
      ∙ ap (λ b. cond b (64 + (j - 8)) (j - (8 + k))) (lt-ltb j (8 + k) h)
      ∙ ap (λ n. 64 + n) (sym (column-mid k j l h)))
      (lt-or-le j 8)
    where
      assoc : 64 + k + j ≡ 64 + (k + j)
      assoc = omega arith

  pub start-shows : (rows : List (List ℤ)) → rows ≡ map (start_row k) cs → Shows k rows place t
  start-shows rows e =
      record {
        few = few;
        count = subst (λ n. n ≤ 64) (sym rows_long) most;
        width = length_from 0 (8 + k);
        shaped = start-shaped k (8 + k) cs;
        rows_are = e ∙ first-layout k (8 + k) cs;
        rows_at = λ i h.
            let b : i < m = subst (λ n. i < n) rows_long h in
            subst (λ v. (v < length place) × (get_or place v 0 ≡ i)) (sym (var-row i h)) (omega arith, places (8 + k + i) (omega arith) ∙ place-row i);
        cols_at = λ j h.
            let b : j < 8 + k = subst (λ n. j < n) (length_from 0 (8 + k)) h in
            subst (λ v. (v < length place) × (get_or place v 0 ≡ 64 + column_of k j)) (sym (var-col j b)) (omega arith, places j (omega arith) ∙ place-col j b);
        whose = λ v h. ⊎_elim
            (λ l. in-col v (subst (λ n. v < n) (sym (length_from 0 (8 + k))) l) (var-col v l))
            (λ l. let b : v - (8 + k) < length t.rows = subst (λ n. v - (8 + k) < n) (sym rows_long) (omega arith) in in-row (v - (8 + k)) b (var-row (v - (8 + k)) b ∙ back v l))
            (lt-or-le v (8 + k));
      }
    where
      back : (v : ℕ) → 8 + k ≤ v → 8 + k + (v - (8 + k)) ≡ v
      back v l = omega arith

-- ---- the kinds

abbrev kinds_of : List S.Constraint → List (Option Kind)
kinds_of cs = map (λ (r : S.Constraint). some r.kind) cs

bounds-kind : (i : ℕ) (ds : List S.Division) (m : ℕ) → m < length (bounds i ds) → get_or (kinds_of (bounds i ds)) m none ≡ some inequality
bounds-kind i [] m h = absurd (not-suc-le-zero h)
bounds-kind i (e ∷ ds) zero h = refl
bounds-kind i (e ∷ ds) (suc zero) h = refl
bounds-kind i (e ∷ ds) (suc (suc m)) h = bounds-kind (suc i) ds m (le_of_suc-le-suc (le_of_suc-le-suc h))

bounds-long : (i : ℕ) (ds : List S.Division) → length (bounds i ds) ≡ 2 * length ds
bounds-long i [] = refl
bounds-long i (e ∷ ds) = let h = bounds-long (suc i) ds in omega arith

abbrev no_kind : Option Kind
no_kind = none

pub get_or-none : (n i : ℕ) → get_or (replicate n no_kind) i none ≡ none
get_or-none zero i = refl
get_or-none (suc n) zero = refl
get_or-none (suc n) (suc i) = get_or-none n i

module _ (k : ℕ) (ds : List S.Division) (cs : List S.Constraint) (len : length ds ≡ k) where
  abbrev all : List S.Constraint
  all = bounds 0 ds ++ cs

  abbrev sort : ℕ → Option Kind
  sort v = T.sort_of (8 + k) all v

  frees : length (replicate (8 + k) no_kind) ≡ 8 + k
  frees = length-replicate (8 + k) no_kind

  pub sort-free : (v : ℕ) → v < 8 + k → sort v ≡ none
  sort-free v h = get_or-append (replicate (8 + k) none) (kinds_of all) none v (subst (λ n. v < n) (sym frees) h) ∙ get_or-none (8 + k) v

  sort-row : (i : ℕ) → sort (8 + k + i) ≡ get_or (kinds_of all) i none
  sort-row i = ap (λ n. get_or (replicate (8 + k) none ++ kinds_of all) (n + i) none) (sym frees) ∙ get_or-append-add (replicate (8 + k) none) (kinds_of all) i none

  kinds-split : kinds_of all ≡ kinds_of (bounds 0 ds) ++ kinds_of cs
  kinds-split = map-append (λ (r : S.Constraint). some r.kind) (bounds 0 ds) cs

  twice : length (kinds_of (bounds 0 ds)) ≡ 2 * k
  twice = length-map (bounds 0 ds) (λ (r : S.Constraint). some r.kind) ∙ bounds-long 0 ds ∙ ap (λ n. 2 * n) len

  pub sort-bound : (i : ℕ) → i < 2 * k → sort (8 + k + i) ≡ some inequality
  sort-bound i h =
      sort-row i
      ∙ ap (λ l. get_or l i none) kinds-split
      ∙ get_or-append (kinds_of (bounds 0 ds)) (kinds_of cs) none i (subst (λ n. i < n) (sym twice) h)
      ∙ bounds-kind 0 ds i (subst (λ n. i < n) (sym (bounds-long 0 ds ∙ ap (λ n. 2 * n) len)) h)

  pub sort-constraint : (c : ℕ) → sort (8 + k + (2 * k + c)) ≡ get_or (kinds_of cs) c none
  sort-constraint c =
      sort-row (2 * k + c)
      ∙ ap (λ l. get_or l (2 * k + c) none) kinds-split
      ∙ ap (λ n. get_or (kinds_of (bounds 0 ds) ++ kinds_of cs) (n + c) none) (sym twice)
      ∙ get_or-append-add (kinds_of (bounds 0 ds)) (kinds_of cs) c none

-- ---- how many they are

pub divisions-long : (b : BasicSet) → Valid b → length (basic_set_of b).divisions ≡ b.divs
divisions-long b v = let h = v.divisions in let d = v.divs in length-map (take b.divs b.divisions) division_of ∙ length-take-le b.divs b.divisions (omega arith)

pub conditions-long : (b : BasicSet) → Valid b → length (conditions (basic_set_of b)) ≡ 2 * b.divs + b.cons
conditions-long b v =
    let h = v.constraints in
    let c = v.cons in
    let B = basic_set_of b in
    length-append (bounds 0 B.divisions) B.constraints
    ∙ ap₂ ◌+◌ (bounds-long 0 B.divisions ∙ ap (λ i. 2 * i) (divisions-long b v)) (length-map (take b.cons b.constraints) constraint_of ∙ length-take-le b.cons b.constraints (omega arith))

-- ---- what the code has filled

-- the first table, with the rows of n constraints; it was rows₁ and kinds₁ before the first of them
pub record Filling (b : BasicSet) (n : ℕ) (rows rows' : List (List ℤ)) (place place' kinds kinds' : List ℕ) : Type 0 where
  pub valid : Valid b
  pub rows₁ : List (List ℤ)
  pub kinds₁ : List ℕ
  pub named : Table.Named b.divs (8 + b.divs + (2 * b.divs + b.cons)) place place' kinds kinds₁
  pub bounded : Bounded b.divisions b.divs b.divs rows rows₁
  pub ruled : Ruled b n rows₁ rows' kinds₁ kinds'

module _ (b : BasicSet) (rows rows₂ : List (List ℤ)) (place place' kinds kinds₂ : List ℕ) (f : Filling b b.cons rows rows₂ place place' kinds kinds₂) where
  valid : Valid b
  valid = f.valid

  named : Table.Named b.divs (8 + b.divs + (2 * b.divs + b.cons)) place place' kinds f.kinds₁
  named = f.named

  bounded : Bounded b.divisions b.divs b.divs rows f.rows₁
  bounded = f.bounded

  ruled : Ruled b b.cons f.rows₁ rows₂ f.kinds₁ kinds₂
  ruled = f.ruled

  abbrev k : ℕ
  k = b.divs

  abbrev m : ℕ
  m = 2 * k + b.cons

  abbrev n : ℕ
  n = 8 + k + m

  abbrev B : S.BasicSet
  B = basic_set_of b

  rows_are : take m rows₂ ≡ map (start_row k) (conditions B)
  rows_are = ruled.firsts ∙ ap (λ l. l ++ map (start_row k) B.constraints) bounded.firsts ∙ sym (map-append (start_row k) (bounds 0 B.divisions) B.constraints)

  kind-of : (v : ℕ) → v < n → get_or kinds₂ v 0 ≡ kind_number (T.sort_of (8 + k) (conditions B) v)
  kind-of v h =
      ⊎_elim
      (λ l. ruled.before v (omega arith) ∙ named.free v h ∙ ap (λ t. cond {A = ℕ} t 0 1) (lt-ltb v (8 + k) l) ∙ ap kind_number (sym (sort-free k B.divisions B.constraints (divisions-long b valid) v l)))
      (λ l. ⊎_elim
      (λ u. ruled.before v u ∙ named.free v h ∙ ap (λ t. cond {A = ℕ} t 0 1) (le-ltb v (8 + k) l)
      ∙ ap kind_number (sym (sort-bound k B.divisions B.constraints (divisions-long b valid) (v - (8 + k)) (omega arith)) ∙ ap (T.sort_of (8 + k) (conditions B)) (back v l)))
      (λ u. ap (λ i. get_or kinds₂ i 0) (sym (far v u)) ∙ ruled.kinds_are (v - (8 + 3 * k)) (omega arith)
      ∙ ap kind_number (kept (v - (8 + 3 * k)) (omega arith) ∙ sym (sort-constraint k B.divisions B.constraints (divisions-long b valid) (v - (8 + 3 * k))) ∙ ap (T.sort_of (8 + k) (conditions B)) (back₂ v u)))
      (lt-or-le v (8 + 3 * k)))
      (lt-or-le v (8 + k))
    where
      back : (v : ℕ) → 8 + k ≤ v → 8 + k + (v - (8 + k)) ≡ v
      back v l = omega arith

      far : (v : ℕ) → 8 + 3 * k ≤ v → 8 + 3 * k + (v - (8 + 3 * k)) ≡ v
      far v u = omega arith

      back₂ : (v : ℕ) → 8 + 3 * k ≤ v → 8 + k + (2 * k + (v - (8 + 3 * k))) ≡ v
      back₂ v u = omega arith

      no_c : Constraint
      no_c = record { equality = false; number = 0; constant = pos 0; axes = []; divisions = [] }

      kept : (c : ℕ) → c < b.cons → get_or (map (λ (r : Constraint). some (constraint_of r).kind) b.constraints) c none ≡ get_or (kinds_of (map constraint_of (take b.cons b.constraints))) c none
      kept c h =
          let z = valid.constraints in
          let y = valid.cons in
          let tl = length-take-le b.cons b.constraints (omega arith) in
          map_get (λ (r : Constraint). some (constraint_of r).kind) b.constraints c no_c none (omega arith)
          ∙ ap (λ (r : Constraint). some (constraint_of r).kind) (sym (get_or-take b.cons b.constraints c no_c h))
          ∙ sym (map_get constraint_kind (take b.cons b.constraints) c no_c none (omega arith))
          ∙ ap (λ l. get_or l c none) (sym (map-map (take b.cons b.constraints)))
        where
          constraint_kind : Constraint → Option Kind
          constraint_kind r = some (constraint_of r).kind

          map-map : (l : List Constraint) → kinds_of (map constraint_of l) ≡ map constraint_kind l
          map-map [] = refl
          map-map (x ∷ l) = ap (λ u. constraint_kind x ∷ u) (map-map l)

  pub filled-first : First b rows rows₂ place place' kinds kinds₂
  filled-first =
      record {
        long = ruled.long ∙ bounded.long;
        names = named.long;
        sames = ruled.names ∙ named.names;
        rows_are = rows_are;
        places = named.places;
        kinds_are = λ v h. kind-of v h ∙ ap (λ j. kind_number (T.sort_of (8 + j) (conditions B) v)) (sym (divisions-long b valid));
      }

-- ---- what it shows

-- the first table of b: its rows, and at the front of these the places and kinds of its variables
pub record FirstTable (b : BasicSet) (rows : List (List ℤ)) (place kinds : List ℕ) : Type 0 where
  pub valid : Valid b
  pub rows_are : rows ≡ map (start_row b.divs) (conditions (basic_set_of b))
  pub place_room : 8 + b.divs + (2 * b.divs + b.cons) ≤ length place
  pub kinds_room : 8 + b.divs + (2 * b.divs + b.cons) ≤ length kinds
  pub places : (v : ℕ) → v < 8 + b.divs + (2 * b.divs + b.cons) → get_or place v 0 ≡ place_at b.divs v
  pub kinds_are : (v : ℕ) → v < 8 + b.divs + (2 * b.divs + b.cons) → get_or kinds v 0 ≡ kind_number (sorts (basic_set_of b) v)

-- it is left by what fills it, in rows and names enough
pub first-table : {b : BasicSet} {rows rows' : List (List ℤ)} {place place' kinds kinds' : List ℕ} → Valid b → First b rows rows' place place' kinds kinds'
    → 80 ≤ length place → 80 ≤ length kinds → FirstTable b (take (2 * b.divs + b.cons) rows') place' kinds'
first-table v f p q =
    let d = v.divs in
    let c = v.cons in
    let n = f.names in
    let s = f.sames in
    record { valid = v; rows_are = f.rows_are; place_room = omega arith; kinds_room = omega arith; places = f.places; kinds_are = f.kinds_are }

module _ (b : BasicSet) (rows : List (List ℤ)) (place kinds : List ℕ) (f : FirstTable b rows place kinds) where
  abbrev divs : ℕ
  divs = b.divs

  abbrev rules : ℕ
  rules = 2 * divs + b.cons

  abbrev names : ℕ
  names = 8 + divs + rules

  most : rules ≤ 64
  most = let d = f.valid.divs in let c = f.valid.cons in omega arith

  wide : names ≤ 80
  wide = let d = f.valid.divs in let c = f.valid.cons in omega arith

  pub first_rows_lem : length rows ≡ rules
  first_rows_lem = ap length f.rows_are ∙ length-map (conditions (basic_set_of b)) (start_row divs) ∙ conditions-long b f.valid

  pub first-places : length (take names place) ≡ names
  first-places = length-take-le names place f.place_room

  pub first-kinds : length (take names kinds) ≡ names
  first-kinds = length-take-le names kinds f.kinds_room

  pub first-shows : Shows divs rows (take names place) (begin (basic_set_of b))
  first-shows =
      subst (λ j. Shows divs rows (take names place) (start j (conditions (basic_set_of b)))) (sym (divisions-long b f.valid))
      (start-shows divs (conditions (basic_set_of b)) f.valid.divs rules (conditions-long b f.valid) most (take names place) first-places
      (λ v h. get_or-take names place v 0 h ∙ f.places v h) rows f.rows_are)

  pub first-sorted : (v : ℕ) → v < length (take names place) → get_or (take names kinds) v 0 ≡ kind_number (sorts (basic_set_of b) v)
  first-sorted v h = let l : v < names = subst (λ i. v < i) first-places h in get_or-take names kinds v 0 l ∙ f.kinds_are v l

  pub first_fine : Fine (divs + 10) rows (take names place) (take names kinds)
  first_fine =
      shows-fine divs rows (take names place) (take names kinds) (begin (basic_set_of b)) first-shows (first-kinds ∙ sym first-places)
      (subst (λ i. i ≤ 80) (sym first-places) wide)
