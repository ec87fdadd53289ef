use Rattle.std.proofs.Common.{◌≡◌, ◌+◌, ◌<◌, ◌≤◌, ℕ, suc, ℤ, true, List, length, take, sym, ap, subst, ◌∙◌, arith}
use lib.ListN.{set}
use lib.Seq.{set-set}
use mir.Syntax.{w64}
use mir.Val.{to_z, of_z}
use Rattle.integers.specs.Mach.{result_is}
use Rattle.search.specs.Live.{Rowed}
use Rattle.search.specs.Levels.{span_at, value_at, passes_at, lows_at, highs_at, past, exhausted}
use Rattle.search.proofs.Climbs.{lt_of, ok-set, failed-more, climbed-passing}
use Rattle.search.proofs.Lives.{axes-length, next_fits, value-fails}
use Rattle.search.proofs.levels.climb.Goals as goal

pub returns-then-tested-t-clause-is : goal.returns-then-tested-t-clause-is
returns-then-tested-t-clause-is c =
    let v = c.loop-i.invariant in let w = v.whole in let i = v.gone in
    exhausted c.loop-i.t v.failed (omega arith) c.if-tested-t.true

pub opened_in-requires : goal.opened_in-requires
opened_in-requires c =
    let a = c.args in let p = a.p in let s = a.s.now in let g = c.requires.0.standing in let l = c.loop-i in let v = l.invariant in
    let whole = v.whole in let room = v.room in
    let h : l.i ≤ span_at p = omega arith in
    let w : ℤ = to_z w64 (of_z w64 c.value_at-v.result) in
    let e : w ≡ value_at p l.i = result_is w64 c.value_at-v.result c.value_at-v.type_inv ∙ c.value_at-v.ensures in
    let lows : List ℤ = set l.low p.k w in let highs : List ℤ = set l.high p.k w in
    let el : lows ≡ lows_at p l.i = v.lows w ∙ ap (set p.low p.k) e in let eh : highs ≡ highs_at p l.i = v.highs w ∙ ap (set p.high p.k) e in
    let axes : p.n ≡ length (take p.n lows) = axes-length s p.n p.k p.low p.high g l.i h lows highs el eh p.low lows g.lows el in
    let most = c.min-most.result in
    let left : a.tested + l.t < p.limit = lt_of (a.tested + l.t) p.limit v.room c.if-tested-t.false in
    let some : 0 < most = omega arith in
    let side : l.i + most ≤ suc (span_at p) = omega arith in (
      subst (λ (j : ℕ). Rowed s j p.count l.rows) axes v.rowed,
      next_fits s p.n p.k p.low p.high g l.i h lows highs el eh p.live most c.requires.0.lives some side,
    )

pub returns-in-Open-clause-is : goal.returns-in-Open-clause-is
returns-in-Open-clause-is c =
    let a = c.args in let p = a.p in let s = a.s.now in let g = c.requires.0.standing in let l = c.loop-i in let v = l.invariant in
    let whole = v.whole in
    let h : l.i ≤ span_at p = omega arith in
    let w : ℤ = to_z w64 (of_z w64 c.value_at-v.result) in
    let e : w ≡ value_at p l.i = result_is w64 c.value_at-v.result c.value_at-v.type_inv ∙ c.value_at-v.ensures in
    let lows : List ℤ = set l.low p.k w in let highs : List ℤ = set l.high p.k w in
    let el : lows ≡ lows_at p l.i = v.lows w ∙ ap (set p.low p.k) e in let eh : highs ≡ highs_at p l.i = v.highs w ∙ ap (set p.high p.k) e in
    let left : a.tested + l.t < p.limit = lt_of (a.tested + l.t) p.limit v.room c.if-tested-t.false in
    let o = c.in-Open.ensures.is in
    let passes : passes_at s p l.i ≡ true = ok-set s p.n p.k p.low p.high g (value_at p l.i) lows highs el eh true (sym o.some) in
    climbed-passing s p a.from l.t v.failed l.i v.gone a.tested h left passes lows highs el eh c.in-Open.live o.still c.stop_at.result c.stop_at.ensures

pub loop-i-preserved : goal.loop-i-preserved
loop-i-preserved c =
    let a = c.args in let p = a.p in let s = a.s.now in let g = c.requires.0.standing in let l = c.loop-i in let v = l.invariant in
    let whole = v.whole in let gone = v.gone in let inside = v.inside in let room = v.room in
    let h : l.i ≤ span_at p = omega arith in
    let w : ℤ = to_z w64 (of_z w64 c.value_at-v.result) in
    let e : w ≡ value_at p l.i = result_is w64 c.value_at-v.result c.value_at-v.type_inv ∙ c.value_at-v.ensures in
    let lows : List ℤ = set l.low p.k w in let highs : List ℤ = set l.high p.k w in
    let el : lows ≡ lows_at p l.i = v.lows w ∙ ap (set p.low p.k) e in let eh : highs ≡ highs_at p l.i = v.highs w ∙ ap (set p.high p.k) e in
    let axes : p.n ≡ length (take p.n lows) = axes-length s p.n p.k p.low p.high g l.i h lows highs el eh p.low lows g.lows el in
    let left : a.tested + l.t < p.limit = lt_of (a.tested + l.t) p.limit v.room c.if-tested-t.false in
    let o = c.in-Shut.ensures.is in let few = o.few in let run = c.in-Shut.run' in
    record {
      whole = v.whole;
      gone = omega arith;
      inside = omega arith;
      room = omega arith;
      failed = failed-more s p a.from l.t v.failed l.i v.gone run (value-fails s p.n p.k p.low p.high g l.i h run lows highs el eh o.far);
      rowed = subst (λ (j : ℕ). Rowed s j p.count c.opened_in.new.rows) (sym axes) c.opened_in.ensures.rows;
      lows = λ z. set-set l.low p.k w z ∙ v.lows z;
      highs = λ z. set-set l.high p.k w z ∙ v.highs z;
    }

pub returns-clause-is : goal.returns-clause-is
returns-clause-is c =
    let v = c.loop-i.invariant in let whole = v.whole in let gone = v.gone in let inside = v.inside in
    past c.loop-i.t v.failed (omega arith) v.room
