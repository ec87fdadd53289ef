-- The call of `climb` goes through the values; at a point its row is gathered, below any other prefix that passed the level calls itself.
use Rattle.std.proofs.Common.{◌≡◌, ◌+◌, ◌-◌, ◌≤◌, ℕ, ℤ, List, Some, None, subst, subst₂, sym, arith}
use Rattle.search.specs.Live.{Rowed}
use Rattle.search.specs.Levels.{Ready, Climbed}
use Rattle.search.specs.declared.levels.Prefix.{Prefix}
use Rattle.search.specs.declared.levels.Passed.{Passed}
use Rattle.search.specs.declared.levels.Way.TheVariants.{Point, Below}
use Rattle.search.specs.declared.levels.Stop.{Stop}
use Rattle.search.proofs.Climbs.{Descends, climbed-most, climbed-fewer, climbed-below}
use Rattle.counting.specs.Levels.{AtMost, Gathered, Summed, members_at}
use Rattle.counting.specs.declared.levels.Chosen.{Chosen}
use Rattle.counting.specs.declared.levels.Counted.{Counted}
use Rattle.counting.proofs.Summing.{Going, going_start, going-most, going-past, going_end, going-spent, going-at, going-below, going-out, Met, climbed-met}
use Rattle.counting.proofs.levels.+level.Goals as goal

-- what a prefix is asked stays so at every count up to the limit
ready-at : {s : List ℕ} {p : Prefix} {t : ℕ} → Ready s p t → (n : ℕ) → n ≤ p.limit → Ready s p n
ready-at d n h = record { standing = d.standing; within = h; fits = d.fits; lives = d.lives }

at-most : {m n : ℕ} {each : List ℕ} → AtMost m each → m ≤ n → AtMost n each
at-most a h = record { at = λ j. let k = a.at j in omega arith }

-- where a turn stands once its values were climbed
module _ {s : List ℕ} {p : Prefix} {tested : ℕ} {c : Chosen} {each₀ each : List ℕ} {whole t i : ℕ} (d : Ready s p tested) (g : Going s p tested c each₀ each whole t i) (r : Stop) (e : Climbed s p i t r) where
  here : Ready s p t
  here = ready-at d t g.inside

  -- at a point
  module _ (to : Passed) (w : r.way ≡ Point to) where
    met : Met s p i t r.tested to.next
    met = climbed-met r e to w

    first : Ready s p (t + r.tested - 1)
    first = let m = met in let h = m.room in ready-at d (t + r.tested - 1) (omega arith)

    gathered : (m : ℕ) (each' : List ℕ) → Gathered s p (to.next - 1) (t + r.tested - 1) c m each each' → Going s p tested c each₀ each' (whole + m) (t + r.tested - 1 + m) (to.next - 1 + m)
    gathered m each' h = going-at g here r e to w m each' h

  -- above a prefix to go below
  module _ (to : Passed) (w : r.way ≡ Below to) where
    descends : Descends s p (t + r.tested) to.at
    descends = climbed-below s p i t here r e to w

    back : {rows : List (List ℤ)} → Rowed s to.at.n to.at.count rows → Rowed s p.n p.count rows
    back {rows} h = subst₂ (λ (n b : ℕ). Rowed s n b rows) descends.axes descends.count h

    out : (u : Counted) (each' : List ℕ) → Summed to.at.limit (t + r.tested) c (members_at s to.at) each u each' → u.whole ≡ None → Summed p.limit tested c (members_at s p) each₀ u each'
    out u each' h q = going-out g here r e to w u each' h q

    summed : (u : Counted) (each' : List ℕ) → Summed to.at.limit (t + r.tested) c (members_at s to.at) each u each' → (more : ℕ) → u.whole ≡ Some more → Going s p tested c each₀ each' (whole + more) u.tested to.next
    summed u each' h more q = going-below g here r e to w u each' h more q

pub loop-i-init : goal.loop-i-init
loop-i-init t c = record { going = going_start c.requires.0; rowed = c.requires.1 }

pub overflow_add-t : goal.overflow_add-t
overflow_add-t t c =
    let h = climbed-most c.args.s.now c.args.p c.loop-i.i c.loop-i.t c.climb-stop.result c.climb-stop.ensures.is in let f = c.requires.0.fits in omega arith

pub returns-in-Past-clause-is : goal.returns-in-Past-clause-is
returns-in-Past-clause-is t c =
    let g = c.loop-i.invariant.going in let x = c.climb-stop in going-past g (here c.requires.0 g x.result x.ensures.is) x.result x.ensures.is c.in-Past.is

pub returns-in-Spent-clause-is : goal.returns-in-Spent-clause-is
returns-in-Spent-clause-is t c =
    let g = c.loop-i.invariant.going in let x = c.climb-stop in going-spent g (here c.requires.0 g x.result x.ensures.is) x.result x.ensures.is c.in-Spent.is

pub overflow_sub-j : goal.overflow_sub-j
overflow_sub-j t c = let x = c.climb-stop in let h = (met c.requires.0 c.loop-i.invariant.going x.result x.ensures.is c.in-Point.passed c.in-Point.is).some in omega arith

pub overflow_sub-span : goal.overflow_sub-span
overflow_sub-span t c =
    let x = c.climb-stop in let h = (met c.requires.0 c.loop-i.invariant.going x.result x.ensures.is c.in-Point.passed c.in-Point.is).here in let e = c.span_of-span.ensures.is in omega arith

pub overflow_sub-t : goal.overflow_sub-t
overflow_sub-t t c = let x = c.climb-stop in let h = (met c.requires.0 c.loop-i.invariant.going x.result x.ensures.is c.in-Point.passed c.in-Point.is).one in omega arith

pub gathered-m-requires : goal.gathered-m-requires
gathered-m-requires t c =
    let p = c.requires in let g = c.loop-i.invariant.going in let x = c.climb-stop in
    let d = met p.0 g x.result x.ensures.is c.in-Point.passed c.in-Point.is in let o = d.one in
    (first p.0 g x.result x.ensures.is c.in-Point.passed c.in-Point.is, x.ensures.rows, d.here, d.room, d.passes, p.2, p.3, at-most (going-most g p.4) (omega arith))

pub overflow_add-whole : goal.overflow_add-whole
overflow_add-whole t c =
    let x = c.climb-stop in let m = c.gathered-m in
    let g = gathered c.requires.0 c.loop-i.invariant.going x.result x.ensures.is c.in-Point.passed c.in-Point.is m.result m.new.each m.ensures.is in
    let a = g.many in let b = g.sum in let d = g.few in let h = g.inside in let f = c.requires.0.fits in omega arith

pub overflow_sub-t-in-Point : goal.overflow_sub-t-in-Point
overflow_sub-t-in-Point t c = let x = c.climb-stop in let h = (met c.requires.0 c.loop-i.invariant.going x.result x.ensures.is c.in-Point.passed c.in-Point.is).one in omega arith

pub loop-i-smaller-in-Point : goal.loop-i-smaller-in-Point
loop-i-smaller-in-Point t c =
    let x = c.climb-stop in let d = met c.requires.0 c.loop-i.invariant.going x.result x.ensures.is c.in-Point.passed c.in-Point.is in
    let a = d.here in let b = d.later in let h = c.gathered-m.ensures.is.lasts.some in let e = c.from.ensures in omega arith

pub loop-i-preserved-in-Point : goal.loop-i-preserved-in-Point
loop-i-preserved-in-Point t c =
    let x = c.climb-stop in let m = c.gathered-m in let to = c.in-Point.passed in let l = c.loop-i in
    let g = gathered c.requires.0 l.invariant.going x.result x.ensures.is to c.in-Point.is m.result m.new.each m.ensures.is in
    record {
      going = subst (λ (n : ℕ). Going c.args.s.now c.args.p c.args.tested c.args.c c.args.each.now m.new.each (l.whole + m.result) (l.t + x.result.tested - 1 + m.result) (to.next - 1 + n)) (sym c.from.ensures) g;
      rowed = m.ensures.rows;
    }

pub level-below-requires : goal.level-below-requires
level-below-requires t c =
    let p = c.requires in let g = c.loop-i.invariant.going in let x = c.climb-stop in
    let d = descends p.0 g x.result x.ensures.is c.in-Below.passed c.in-Below.is in (
      omega (arith, d.deeper, c.decreases),
      (d.ready, subst₂ (λ (n b : ℕ). Rowed c.args.s.now n b x.new.rows) (sym d.axes) (sym d.count) x.ensures.rows, p.2, p.3, at-most (going-most g p.4) (omega arith)),
    )

pub returns-in-None-clause-is : goal.returns-in-None-clause-is
returns-in-None-clause-is t c =
    let x = c.climb-stop in let b = c.level-below in out c.requires.0 c.loop-i.invariant.going x.result x.ensures.is c.in-Below.passed c.in-Below.is b.result b.new.each b.ensures.is c.in-None.is

pub returns-in-None-clause-rows : goal.returns-in-None-clause-rows
returns-in-None-clause-rows t c =
    let x = c.climb-stop in back c.requires.0 c.loop-i.invariant.going x.result x.ensures.is c.in-Below.passed c.in-Below.is c.level-below.ensures.rows

pub overflow_add-whole-in-Some : goal.overflow_add-whole-in-Some
overflow_add-whole-in-Some t c =
    let x = c.climb-stop in let b = c.level-below in
    let g = summed c.requires.0 c.loop-i.invariant.going x.result x.ensures.is c.in-Below.passed c.in-Below.is b.result b.new.each b.ensures.is c.in-Some.more c.in-Some.is in
    let a = g.many in let e = g.sum in let d = g.few in let h = g.inside in let f = c.requires.0.fits in omega arith

pub loop-i-smaller : goal.loop-i-smaller
loop-i-smaller t c = climbed-fewer c.args.s.now c.args.p c.loop-i.i c.loop-i.t c.climb-stop.result c.climb-stop.ensures.is c.in-Below.passed c.in-Below.is

pub loop-i-preserved : goal.loop-i-preserved
loop-i-preserved t c =
    let x = c.climb-stop in let b = c.level-below in
    record {
      going = summed c.requires.0 c.loop-i.invariant.going x.result x.ensures.is c.in-Below.passed c.in-Below.is b.result b.new.each b.ensures.is c.in-Some.more c.in-Some.is;
      rowed = back c.requires.0 c.loop-i.invariant.going x.result x.ensures.is c.in-Below.passed c.in-Below.is b.ensures.rows;
    }

pub returns-clause-is : goal.returns-clause-is
returns-clause-is t c =
    let g = c.loop-i.invariant.going in let e = c.span_of-span.ensures.is in let o = c.loop-i-test.false in
    going_end g (ready-at c.requires.0 c.loop-i.t g.inside) (omega arith)
