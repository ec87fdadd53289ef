use Rattle.std.proofs.Common.{◌≡◌, ◌+◌, ◌<◌, ◌≤◌, ℕ, suc, ℤ, Bool, true, List, length, take, ap, subst, ◌∙◌, arith}
use lib.Dec.{ltb}
use lib.ListN.{set}
use borrow.Author.Tests.{ltb-true, ltb-false}
use mir.Syntax.{w64}
use mir.Val.{to_z, of_z}
use Rattle.integers.specs.Mach.{result_is}
use Rattle.bounds.proofs.Reading.{by}
use Rattle.search.specs.Live.{Rowed, Sided, Kept}
use Rattle.search.specs.Levels.{span_at, value_at, passes_at, lows_at, highs_at}
use Rattle.search.proofs.Lives.{axes-length, reach-low, next_fits, value_passes}
use Rattle.search.proofs.keeping.lasting.Goals as goal

pub kept_in-requires : goal.kept_in-requires
kept_in-requires c =
    let a = c.args in let p = a.p in let s = a.s.now in let g = c.requires.0.standing in let h = c.requires.2 in let room = c.requires.3 in
    let w : ℤ = to_z w64 (of_z w64 c.value_at-v.result) in
    let e : w ≡ value_at p a.i = result_is w64 c.value_at-v.result c.value_at-v.type_inv ∙ c.value_at-v.ensures in
    let lows : List ℤ = set p.low p.k w in let highs : List ℤ = set p.high p.k w in
    let el : lows ≡ lows_at p a.i = ap (set p.low p.k) e in let eh : highs ≡ highs_at p a.i = ap (set p.high p.k) e in
    let axes : p.n ≡ length (take p.n lows) = axes-length s p.n p.k p.low p.high g a.i h lows highs el eh p.low lows g.lows el in
    let most = c.min-most.result in
    let some : 0 < most = omega arith in
    let side : a.i + most ≤ suc (span_at p) = omega arith in
    let d : Sided s p.k (take p.n lows) (take p.n highs) p.live most = next_fits s p.n p.k p.low p.high g a.i h lows highs el eh p.live most c.requires.0.lives some side in
    (subst (λ (j : ℕ). Rowed s j p.count a.rows.now) axes c.requires.1, d.ends, d.axis, reach-low s p.n p.k p.low p.high g a.i h lows highs el eh most d.reach, some)

pub returns-clause-is : goal.returns-clause-is
returns-clause-is c =
    let a = c.args in let p = a.p in let s = a.s.now in let g = c.requires.0.standing in let h = c.requires.2 in let room = c.requires.3 in
    let w : ℤ = to_z w64 (of_z w64 c.value_at-v.result) in
    let e : w ≡ value_at p a.i = result_is w64 c.value_at-v.result c.value_at-v.type_inv ∙ c.value_at-v.ensures in
    let lows : List ℤ = set p.low p.k w in let highs : List ℤ = set p.high p.k w in
    let el : lows ≡ lows_at p a.i = ap (set p.low p.k) e in let eh : highs ≡ highs_at p a.i = ap (set p.high p.k) e in
    let m = c.kept_in.result in
    let q : Kept s p.k (take p.n lows) (take p.n highs) c.min-most.result m = c.kept_in.ensures.is in
    let few = q.few in
    record {
      some = q.some;
      inside = omega arith;
      room = omega arith;
      passed = λ j o. by (λ (x : Bool). passes_at s p (a.i + j) ≡ true) (ltb 1 m)
          (λ x. value_passes s p.n p.k p.low p.high g a.i h m lows highs el eh (q.is (ltb-true 1 m x)) j o)
          (λ x. let l = ltb-false 1 m x in let z : a.i ≡ a.i + j = omega arith in subst (λ (y : ℕ). passes_at s p y ≡ true) z c.requires.4);
    }
