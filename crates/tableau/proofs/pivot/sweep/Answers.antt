-- Row k is still what it was when its turn comes. Row i is passed over, and does not count.
use Rattle.std.proofs.Common.{◌≡◌, ℕ, ◌+◌, ◌<◌, sym, ap, ◌∙◌, List, [], map, length, get_or, set, drop, arith}
use Rattle.std.specs.Prelude.{ℤ}
use mir.Syntax.{w64}
use mir.Val.{to_z, of_z}
use mir.Facts.{to_z-of_z}
use lib.ListN.{length-set}
use lib.Seq.{get_or-set_same, get_or-set_other}
use Rattle.tableau.specs.Rows.{rebuild_row as rebuild_of, touched, rebuilt}
use Rattle.tableau.proofs.Lines.{up_to, but, but-own, but-other, up_to-none, up_to-more, up_to-next, up_to-length, up_to-but, touched-le, touched-step, touched-end}
use Rattle.tableau.proofs.pivot.sweep.Goals as goal
use Rattle.tableau.proofs.pivot.sweep.Goals.{then-k-i, else-k-i}

-- row k of t, which is t₀ as far as the loop has come
module _ (f : List ℤ → List ℤ) (i j k : ℕ) (t₀ t : List (List ℤ)) (e : t ≡ up_to (but i f) k t₀) (h : k < length t₀) where
  same : get_or t k [] ≡ get_or t₀ k []
  same = ap (λ u. get_or u k []) e ∙ up_to-next (but i f) k t₀ []

  step : rebuilt j (get_or (set t₀ i []) k []) + touched j (drop (k + 1) (set t₀ i [])) ≡ touched j (drop k (set t₀ i []))
  step = touched-step j k (set t₀ i []) (omega (arith, length-set t₀ i []))

  passed : k ≡ i → set t k (get_or t k []) ≡ up_to (but i f) (k + 1) t₀
  passed o =
      let r = get_or t k [] in
      up_to-more [] (but i f) k t₀ t r h e (but-own k f r ∙ ap (λ (n : ℕ). but n f k r) o)

  uncounted : k ≡ i → rebuilt j (get_or (set t₀ i []) k []) ≡ 0
  uncounted o =
      ap (λ (n : ℕ). rebuilt j (get_or (set t₀ i []) n [])) o ∙ ap (rebuilt j) (get_or-set_same t₀ i [] [] (let l = h in omega (arith, o)))

  counted : (b : ℕ) → (k ≡ i → ⊥) → b ≡ rebuilt j (get_or t k []) → b ≡ rebuilt j (get_or (set t₀ i []) k [])
  counted b o w = w ∙ ap (rebuilt j) (same ∙ sym (get_or-set_other t₀ i k [] [] o))

pub loop-k-init : goal.loop-k-init
loop-k-init c = record { swept = up_to-none _ _; counted = omega arith }

pub rebuild-built-requires-clause-fit : goal.rebuild-built-requires-clause-fit
rebuild-built-requires-clause-fit c =
    let k = c.loop-k.k in
    let e = c.loop-k.invariant.swept in
    rw (same _ c.args.i c.args.j k c.args.t.now c.loop-k.t e c.loop-k-test.true)
    (c.requires.2 k c.loop-k-test.true c.if-k-i.true)

pub overflow_add-built : goal.overflow_add-built
overflow_add-built c =
    let j = c.args.j in
    let i = c.args.i in
    let k = c.loop-k.k in
    let t₀ = c.args.t.now in
    let t = c.loop-k.t in
    let e = c.loop-k.invariant.swept in
    let h = c.loop-k-test.true in
    record {
      fits = omega (
        arith,
        counted _ i j k t₀ t e h c.rebuild-built.result c.if-k-i.true c.rebuild-built.ensures.1,
        step _ i j k t₀ t e h,
        touched-le j (set t₀ i []),
        length-set t₀ i [],
      );
    }

pub loop-k-preserved : goal.loop-k-preserved
loop-k-preserved c =
    let j = c.args.j in
    let i = c.args.i in
    let k = c.loop-k.k in
    let t₀ = c.args.t.now in
    let t = c.loop-k.t in
    let f = rebuild_of j (to_z w64 (of_z w64 c.args.m)) c.args.q.now in
    let e = c.loop-k.invariant.swept in
    let h = c.loop-k-test.true in
    let s = step f i j k t₀ t e h in
    elim c.if-k-i.branch [
      | then-k-i w ↦
          let g = counted f i j k t₀ t e h _ w.if-k-i.true w.rebuild-built.ensures.1 in
          record {
            swept = w.t-is ∙ up_to-more [] (but i f) k t₀ t _ h e (w.rebuild-built.ensures.0 ∙ but-other i k f _ w.if-k-i.true);
            counted = omega (arith, w.built-is, g, s, c.loop-k.invariant.counted);
          }
      | else-k-i w ↦
          record {
            swept = w.t-is ∙ passed f i j k t₀ t e h w.if-k-i.false;
            counted = omega (arith, w.built-is, uncounted f i j k t₀ t e h w.if-k-i.false, s, c.loop-k.invariant.counted);
          }
    ]

pub returns : goal.returns
returns c =
    let i = c.args.i in
    let j = c.args.j in
    let k = c.loop-k.k in
    let t = c.args.t.now in
    let q = c.args.q.now in
    let f = rebuild_of j (to_z w64 (of_z w64 c.args.m)) q in
    let e : length c.loop-k.t ≡ length t = ap length c.loop-k.invariant.swept ∙ up_to-length (but i f) k t in (
      c.loop-k.invariant.swept ∙ up_to-but [] i f k t (omega arith)
          ∙ ap (λ m. set (map (rebuild_of j m q) t) i (get_or t i [])) (to_z-of_z c.ranges.m),
      omega (arith, touched-end j k (set t i []) (omega (arith, length-set t i [])), c.loop-k.invariant.counted),
    )
