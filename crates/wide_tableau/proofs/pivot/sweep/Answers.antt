use Rattle.std.proofs.Common.{◌≡◌, ℕ, ◌+◌, ◌<◌, sym, ap, ◌∙◌, subst, List, [], length, get_or, set, drop, arith}
use Rattle.std.specs.Prelude.{ℤ}
use Rattle.wide_tableau.specs.Cells.{cells, rows_of, Sheets}
use Rattle.wide.specs.Wide.{value_of}
use Rattle.integers.specs.Size.{bound}
use native.Mathlib.Nat.{le_refl}
use lib.ListN.{length-set}
use lib.Seq.{get_or-set_same, get_or-set_other}
use Rattle.wide_tableau.proofs.Sheets.{rows_at, rows-set, rows-length, sheets-set}
use Rattle.wide_tableau.proofs.Signs.{Rest, rest-none, rest-next}
use Rattle.wide_tableau.proofs.pivot.sweep.Goals.{then-k-i, else-k-i}
use Rattle.tableau.specs.Rows as R
use Rattle.tableau.proofs.Lines as L
use Rattle.wide_tableau.proofs.pivot.sweep.Goals as goal

-- row k of t, whose rows are those of t₀ as far as the loop has come
module _ (f : List ℤ → List ℤ) (i j k : ℕ) (t₀ t : List (List ℕ)) (e : rows_of t ≡ L.up_to (L.but i f) k (rows_of t₀)) (s : Rest k t₀ t) (h : k < length t₀) where
  there : k < length (rows_of t₀)
  there = omega (arith, h, rows-length t₀)

  same : get_or t k [] ≡ get_or t₀ k []
  same = s.at k (le_refl _)

  step : R.rebuilt j (get_or (set (rows_of t₀) i []) k []) + R.touched j (drop (k + 1) (set (rows_of t₀) i [])) ≡ R.touched j (drop k (set (rows_of t₀) i []))
  step = L.touched-step j k (set (rows_of t₀) i []) (omega (arith, length-set (rows_of t₀) i [], there))

  -- row i is left as it is, and does not count
  passed : k ≡ i → rows_of (set t k (get_or t k [])) ≡ L.up_to (L.but i f) (k + 1) (rows_of t₀)
  passed o =
      let r = get_or (rows_of t) k [] in
      rows-set t k _ ∙ ap (set (rows_of t) k) (sym (rows_at t k))
      ∙ L.up_to-more [] (L.but i f) k (rows_of t₀) (rows_of t) r there e (L.but-own k f r ∙ ap (λ (n : ℕ). L.but n f k r) o)

  uncounted : k ≡ i → R.rebuilt j (get_or (set (rows_of t₀) i []) k []) ≡ 0
  uncounted o =
      ap (λ (n : ℕ). R.rebuilt j (get_or (set (rows_of t₀) i []) n [])) o ∙ ap (R.rebuilt j) (get_or-set_same (rows_of t₀) i [] [] (let l = there in omega (arith, o)))

  counted : (b : ℕ) → (k ≡ i → ⊥) → b ≡ R.rebuilt j (cells (get_or t k [])) → b ≡ R.rebuilt j (get_or (set (rows_of t₀) i []) k [])
  counted b o w =
      w ∙ ap (λ (r : List ℕ). R.rebuilt j (cells r)) same
      ∙ sym (ap (R.rebuilt j) (get_or-set_other (rows_of t₀) i k [] [] o ∙ rows_at t₀ k))

pub loop-k-init : goal.loop-k-init
loop-k-init c = record { sheets = c.requires.0; rest = rest-none _; swept = L.up_to-none _ _; counted = omega arith }

pub rebuild-built-requires : goal.rebuild-built-requires
rebuild-built-requires c =
    let v = c.loop-k.invariant in
    let k = c.loop-k.k in
    let h = c.loop-k-test.true in (
      v.sheets.at k (omega (arith, h)),
      c.requires.1,
      c.requires.2,
      subst (λ (r : List ℕ). R.FitAt (bound 128) c.args.n (cells r) c.args.j) (sym (v.rest.at k (le_refl _))) (c.requires.4 k h c.if-k-i.true),
      c.requires.5,
    )

pub overflow_add-built : goal.overflow_add-built
overflow_add-built c =
    let j = c.args.j in
    let i = c.args.i in
    let k = c.loop-k.k in
    let t₀ = c.args.t.now in
    let t = c.loop-k.t in
    let v = c.loop-k.invariant in
    let h = c.loop-k-test.true in
    let r = rows_of t₀ in
    record {
      fits = omega (
        arith,
        counted _ i j k t₀ t v.swept v.rest h c.rebuild-built.result c.if-k-i.true c.rebuild-built.ensures.1,
        step _ i j k t₀ t v.swept v.rest h,
        L.touched-le j (set r i []),
        length-set r i [],
        rows-length t₀,
        c.requires.3,
        v.counted,
      );
    }

pub loop-k-preserved : goal.loop-k-preserved
loop-k-preserved c =
    let j = c.args.j in
    let i = c.args.i in
    let k = c.loop-k.k in
    let t₀ = c.args.t.now in
    let t = c.loop-k.t in
    let f = R.rebuild_row j (value_of c.args.m) (cells c.args.q.now) in
    let v = c.loop-k.invariant in
    let h = c.loop-k-test.true in
    let s = step f i j k t₀ t v.swept v.rest h in
    elim c.if-k-i.branch [
      | then-k-i w ↦
          let g = counted f i j k t₀ t v.swept v.rest h _ w.if-k-i.true w.rebuild-built.ensures.1 in
          let e = w.rebuild-built.ensures.0 in
          record {
            sheets = subst Sheets (sym w.t-is) (sheets-set t k _ v.sheets e.sheet);
            rest = subst (Rest (k + 1) t₀) (sym w.t-is) (rest-next k t₀ t _ v.rest);
            swept =
                ap rows_of w.t-is ∙ rows-set t k _
                ∙ L.up_to-more [] (L.but i f) k (rows_of t₀) (rows_of t) _ (there f i j k t₀ t v.swept v.rest h) v.swept
                (e.is ∙ ap f (sym (rows_at t k)) ∙ L.but-other i k f _ w.if-k-i.true);
            counted = omega (arith, w.built-is, g, s, v.counted);
          }
      | else-k-i w ↦
          record {
            sheets = subst Sheets (sym w.t-is) (sheets-set t k _ v.sheets (v.sheets.at k (omega (arith, h))));
            rest = subst (Rest (k + 1) t₀) (sym w.t-is) (rest-next k t₀ t _ v.rest);
            swept = ap rows_of w.t-is ∙ passed f i j k t₀ t v.swept v.rest h w.if-k-i.false;
            counted = omega (arith, w.built-is, uncounted f i j k t₀ t v.swept v.rest h w.if-k-i.false, s, v.counted);
          }
    ]

pub returns : goal.returns
returns c =
    let i = c.args.i in
    let j = c.args.j in
    let k = c.loop-k.k in
    let t = c.args.t.now in
    let f = R.rebuild_row j (value_of c.args.m) (cells c.args.q.now) in
    let v = c.loop-k.invariant in (
      record { is = v.swept ∙ L.up_to-but [] i f k (rows_of t) (omega (arith, rows-length t)); sheets = v.sheets },
      omega (arith, L.touched-end j k (set (rows_of t) i []) (omega (arith, length-set (rows_of t) i [], rows-length t)), v.counted),
    )
