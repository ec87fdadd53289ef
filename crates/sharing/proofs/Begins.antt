-- The first table of the divisions' bounds. Assumes nothing.
use mathlib.Core.Path.{◌≡◌, refl, sym, ap, ◌∙◌, subst}
use mathlib.Core.Bool.{cond}
use mathlib.Core.List.{List, [], ◌∷◌, ◌++◌, map}
use mathlib.Core.Option.{Option, none}
use mathlib.Core.Logic.{⊎_elim}
use Prim.Native.Nat.{ℕ, zero, suc, ◌+◌, ◌-◌, ◌*◌, ◌≤◌, ◌<◌}
use native.Mathlib.Nat.{not-suc-le-zero, le_of_suc-le-suc}
use native.Mathlib.Omega.{arith}
use borrow.Author.Tests.{lt-ltb, le-ltb}
use lib.ListN.{length, get_or, take, drop, replicate, length-map, length-replicate, get_or-append}
use lib.Seq.{ext_get_or, get_or-take, get_or-append-add, length-take-le}
use lib.IntN.{ℤ}
use Rattle.integers.specs.Part.{lt-or-le}
use Rattle.model.specs.Sets.{Division, Kind, Constraint, bounds}
use Rattle.model.specs.Values.{division_of, basic_set_of}
use Rattle.model.specs.declared.BasicSet.{BasicSet as Stored}
use Rattle.simplex.specs.Table.{place_at, kind_number, Valid, Bounded, Fine}
use Rattle.simplex.specs.Table as Table
use Rattle.simplex.proofs.Columns.{tabulate-at}
use Rattle.sharing.specs.declared.history.Standing.{Standing}
use Rattle.sharing.specs.Trace.{Went}
use Rattle.sharing.specs.Working.{kind_of, first_table, first_place, first_kinds, Stands}
use Rattle.sharing.proofs.Firsts.{place-long, kinds-long, kind_at, first_fine}
use Rattle.sharing.proofs.Appending.{seam, rejoined}
use Rattle.sharing.proofs.Standings.{begun}
use Rattle.simplex.proofs.Filled.{get_or-none}

pub bounds-long : (i : ℕ) (ds : List Division) → length (bounds i ds) ≡ 2 * length ds
bounds-long i [] = refl
bounds-long i (e ∷ ds) = let h = bounds-long (suc i) ds in omega arith

bound-kind : (i : ℕ) (ds : List Division) (m : ℕ) → m < length (bounds i ds) → kind_number (get_or (map kind_of (bounds i ds)) m none) ≡ 1
bound-kind i [] m h = absurd (not-suc-le-zero h)
bound-kind i (e ∷ ds) zero h = refl
bound-kind i (e ∷ ds) (suc zero) h = refl
bound-kind i (e ∷ ds) (suc (suc m)) h = bound-kind (suc i) ds m (le_of_suc-le-suc (le_of_suc-le-suc h))

abbrev no_kind : Option Kind
no_kind = none

module _ {b : Stored} (valid : Valid b) {rows rows' : List (List ℤ)} {place place' kinds kinds' : List ℕ}
    (named : Table.Named b.divs (8 + 3 * b.divs) place place' kinds kinds') (bounded : Bounded b.divisions b.divs b.divs rows rows') (hr : length rows ≡ 64) (hp : length place ≡ 80) (hk : length kinds ≡ 80) where
  abbrev k : ℕ
  k = b.divs

  abbrev cs : List Constraint
  cs = bounds 0 (basic_set_of b).divisions

  abbrev n : ℕ
  n = 8 + 3 * k

  divisions-long : length (basic_set_of b).divisions ≡ k
  divisions-long = let h = valid.divisions in let f = valid.divs in length-map (take k b.divisions) division_of ∙ length-take-le k b.divisions (omega arith)

  pub long : length cs ≡ 2 * k
  long = bounds-long 0 (basic_set_of b).divisions ∙ ap (λ i. 2 * i) divisions-long

  pub all-long : 8 + k + length cs ≡ n
  all-long = let e = long in omega arith

  pub few-bounds : length cs ≤ 64
  few-bounds = let e = long in let f = valid.divs in omega arith

  pub rows-length : length rows' ≡ 64
  rows-length = bounded.long ∙ hr

  pub place-length : length place' ≡ 80
  place-length = named.long ∙ hp

  pub kinds-length : length kinds' ≡ 80
  kinds-length = named.names ∙ hk

  pub rows-count : length (take (2 * k) rows') ≡ 2 * k
  rows-count = let f = valid.divs in let e = rows-length in length-take-le (2 * k) rows' (omega arith)

  pub place-count : length (take n place') ≡ n
  place-count = let f = valid.divs in let e = place-length in length-take-le n place' (omega arith)

  pub kinds-count : length (take n kinds') ≡ n
  kinds-count = let f = valid.divs in let e = kinds-length in length-take-le n kinds' (omega arith)

  pub rows_are : take (2 * k) rows' ≡ first_table k cs
  rows_are = bounded.firsts

  pub place_is : take n place' ≡ first_place k (length cs)
  place_is =
      ext_get_or 0 (take n place') (first_place k (length cs)) (place-count ∙ sym (place-long k (length cs) ∙ all-long))
      (λ v h. let l : v < n = subst (λ i. v < i) place-count h in
      get_or-take n place' v 0 l ∙ named.places v l ∙ sym (tabulate-at (8 + k + length cs) (place_at k) v 0 (subst (λ i. v < i) (sym all-long) l)))

  frees : length (replicate (8 + k) no_kind) ≡ 8 + k
  frees = length-replicate (8 + k) no_kind

  kind-free : (v : ℕ) → v < 8 + k → get_or (first_kinds k cs) v 0 ≡ 0
  kind-free v h =
      kind_at (replicate (8 + k) none ++ map kind_of cs) v
      ∙ ap kind_number (get_or-append (replicate (8 + k) none) (map kind_of cs) none v (subst (λ i. v < i) (sym frees) h) ∙ get_or-none (8 + k) v)

  kind-bound : (v : ℕ) → 8 + k ≤ v → v < n → get_or (first_kinds k cs) v 0 ≡ 1
  kind-bound v h l =
      let e = long in
      kind_at (replicate (8 + k) none ++ map kind_of cs) v
      ∙ ap (λ i. kind_number (get_or (replicate (8 + k) none ++ map kind_of cs) i none)) back
      ∙ ap kind_number (get_or-append-add (replicate (8 + k) none) (map kind_of cs) (v - (8 + k)) none)
      ∙ bound-kind 0 (basic_set_of b).divisions (v - (8 + k)) (omega arith)
    where
      back : v ≡ length (replicate (8 + k) no_kind) + (v - (8 + k))
      back = let e = frees in omega arith

  pub kinds_are : take n kinds' ≡ first_kinds k cs
  kinds_are =
      ext_get_or 0 (take n kinds') (first_kinds k cs) (kinds-count ∙ sym (kinds-long k cs ∙ all-long))
      (λ v h. let l : v < n = subst (λ i. v < i) kinds-count h in
      get_or-take n kinds' v 0 l ∙ named.free v l ∙ ⊎_elim
      (λ a. ap (λ t. cond {A = ℕ} t 0 1) (lt-ltb v (8 + k) a) ∙ sym (kind-free v a))
      (λ a. ap (λ t. cond {A = ℕ} t 0 1) (le-ltb v (8 + k) a) ∙ sym (kind-bound v a l))
      (lt-or-le v (8 + k)))

  pub begin-fine : Fine (k + 10) (take (2 * k) rows') (take n place') (take n kinds')
  begin-fine = rw (rows_are, place_is, kinds_are) (first_fine k cs valid.divs few-bounds)

  pub begin-stands : {x : Standing} {t' : List (List ℤ)} {p' : List ℕ} {past past' : List (List ℤ)} {columns columns' : List ℕ}
      → Went (take n kinds') 0 (take (2 * k) rows') (take n place') past columns x t' p' past' columns' → length t' ≡ length (take (2 * k) rows') → length p' ≡ length (take n place')
      → length past' ≡ 200 → length columns' ≡ 200 → Stands k cs x (t' ++ drop (2 * k) rows') (p' ++ drop n place') kinds' past' columns'
  begin-stands {x} {t'} {p'} {past} {past'} {columns} {columns'} g lt lp la lc =
      let w : Went (first_kinds k cs) 0 (first_table k cs) (first_place k (length cs)) past columns x t' p' past' columns' =
      subst (λ a. Went a 0 (first_table k cs) (first_place k (length cs)) past columns x t' p' past' columns') kinds_are
      (subst (λ a. Went (take n kinds') 0 (first_table k cs) a past columns x t' p' past' columns') place_is
      (subst (λ a. Went (take n kinds') 0 a (take n place') past columns x t' p' past' columns') rows_are g)) in
      begun k cs x (t' ++ drop (2 * k) rows') (p' ++ drop n place') kinds' past columns past' columns' valid.divs few-bounds
      (rejoined (2 * k) t' rows' lt ∙ rows-length)
      (rejoined n p' place' lp ∙ place-length)
      kinds-length la lc t' p' w
      (ap (λ i. take i (t' ++ drop (2 * k) rows')) long ∙ seam (2 * k) t' (drop (2 * k) rows') (lt ∙ rows-count))
      (ap (λ i. take i (p' ++ drop n place')) all-long ∙ seam n p' (drop n place') (lp ∙ place-count))
      (ap (λ i. take i kinds') all-long ∙ kinds_are)
