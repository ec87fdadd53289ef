-- The first table in numbers of two words, and the expression's row beside it. Assumes nothing.
use mathlib.Core.Path.{◌≡◌, sym, ap, ◌∙◌, subst, subst₂}
use mathlib.Core.Bool.{Bool}
use mathlib.Core.List.{List, [], ◌++◌}
use Prim.Native.Nat.{ℕ, ◌+◌, ◌*◌, ◌≤◌, ◌<◌}
use native.Mathlib.Omega.{arith}
use lib.IntN.{ℤ, pos}
use lib.Signed.{◌<ℤ◌}
use lib.ListN.{length, take, drop, get_or, length-map, length-append, length-drop}
use lib.Seq.{take-append_seam, length-take-le}
use Rattle.integers.specs.Size.{bound}
use Rattle.model.specs.Sets as S
use Rattle.model.specs.Values.{basic_set_of}
use Rattle.model.specs.declared.BasicSet.{BasicSet}
use Rattle.tableau.specs.Rows.{den, Line}
use Rattle.wide_tableau.specs.Cells.{cells, rows_of, Becomes, Turns}
use Rattle.simplex.specs.Table.{start_row, Valid, First}
use Rattle.simplex.proofs.Filled.{row-whole, divisions-long, FirstTable, first-table, first_rows_lem, first-shows, first-sorted, first_fine}
use Rattle.optimum.specs.Value.{extreme_of}
use Rattle.optimum.proofs.Carried.{carried-is}
use Rattle.climbing.specs.Steps.{aim_of, halves, Posed, Begun}
use Rattle.extremes.proofs.Halves.{halves-is}

few-rows : {b : BasicSet} → Valid b → 2 * b.divs + b.cons ≤ 64
few-rows v = let d = v.divs in let c = v.cons in omega arith

pub taken-rows : {b : BasicSet} → Valid b → (t : List (List ℕ)) → length t ≡ 64 → length (take (2 * b.divs + b.cons) t) ≡ 2 * b.divs + b.cons
taken-rows {b} v t e = length-take-le (2 * b.divs + b.cons) t (let h = few-rows v in omega arith)

-- what was filled, and carried over into the first rows of t
module _ {b : BasicSet} {rows rows' : List (List ℤ)} {place place' kinds kinds' : List ℕ} (v : Valid b) (f : First b rows rows' place place' kinds kinds') (p : length place ≡ 80) (q : length kinds ≡ 80) where
  abbrev m : ℕ
  m = 2 * b.divs + b.cons

  filled : FirstTable b (take m rows') place' kinds'
  filled = first-table v f (omega arith) (omega arith)

  pub filled-rows : length (take m rows') ≡ m
  filled-rows = first_rows_lem b (take m rows') place' kinds' filled

  -- each with its 18 numbers
  pub filled-long : (k : ℕ) → k < length (take m rows') → length (get_or (take m rows') k []) ≡ 18
  filled-long k h = ((first_fine b (take m rows') place' kinds' filled).line k h).long

  pub begun : (t x : List (List ℕ)) → length t ≡ 64 → Turns x (take m rows') → Begun b (x ++ drop m t) place' kinds'
  begun t x l c =
      let e : length x ≡ m = sym (length-map x cells) ∙ ap length c.is ∙ filled-rows in
      record {
        long = length-append x (drop m t) ∙ length_drop_is e;
        names = f.names ∙ p;
        sames = f.sames ∙ q;
        rows = subst₂ Turns (sym (ap (λ n. take n (x ++ drop m t)) (sym e) ∙ take-append_seam x (drop m t))) f.rows_are c;
        places = f.places;
        kinds_are = f.kinds_are;
      }
    where
      length_drop_is : length x ≡ m → length x + length (drop m t) ≡ 64
      length_drop_is e = let w = few-rows v in let d = length-drop m t in omega arith

-- ---- the table that was begun
module _ {b : BasicSet} {t : List (List ℕ)} {place kinds : List ℕ} (v : Valid b) (f : Begun b t place kinds) where
  abbrev rows : List (List ℤ)
  rows = rows_of (take (2 * b.divs + b.cons) t)

  abbrev n : ℕ
  n = 8 + b.divs + (2 * b.divs + b.cons)

  pub begun-table : FirstTable b rows place kinds
  begun-table =
      let d = v.divs in
      let c = v.cons in
      let p = f.names in
      let q = f.sames in
      record { valid = v; rows_are = f.rows.is; place_room = omega arith; kinds_room = omega arith; places = f.places; kinds_are = f.kinds_are }

  -- with the expression's row beside it
  module _ (c : S.Constraint) {g : List ℕ} (e : Becomes g (start_row b.divs c)) where
    pub begun-posed : Posed (b.divs + 10) rows (cells g) (take n place) (take n kinds)
    begun-posed =
        let w = row-whole b.divs v.divs c in
        record {
          fine = first_fine b rows place kinds begun-table;
          line = subst (Line (b.divs + 10)) (sym e.is) w.line;
          dens = subst (λ l. pos 0 <ℤ den l) (sym e.is) w.over;
        }

    pub begun-value : (greatest : Bool) → halves (bound 128) (take n kinds) greatest rows (cells g) (take n place) ≡ extreme_of (aim_of greatest) (basic_set_of b) c
    begun-value greatest =
        halves-is 128 (basic_set_of b) c greatest b.divs rows (cells g) (take n place) (take n kinds) (divisions-long b v)
        (first-shows b rows place kinds begun-table) (first-sorted b rows place kinds begun-table) e.is
        ∙ sym (carried-is (aim_of greatest) (basic_set_of b) c)
