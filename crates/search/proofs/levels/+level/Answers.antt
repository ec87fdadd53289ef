-- The call of `climb` goes through the values; below a prefix that passed the level calls itself.
use Rattle.std.proofs.Common.{◌≡◌, ◌+◌, ◌≤◌, ℕ, ap, sym, subst₂, ◌∙◌, arith}
use Rattle.search.specs.Sides.{trail_of}
use Rattle.search.specs.Live.{Rowed}
use Rattle.search.specs.Levels.{Ready}
use Rattle.search.proofs.Climbs.{onward, level-start, Descends, climbed-most, climbed-fewer, climbed-below, climbed-past, climbed-spent, climbed-point, climbed-goes, level-found, level-none}
use Rattle.search.proofs.levels.+level.Goals as goal

pub loop-passed-init : goal.loop-passed-init
loop-passed-init t c =
    let p = c.args.p in let d = c.requires.0 in
    record { rowed = c.requires.1; within = d.within; is = level-start c.args.s.now p.n p.k p.low p.high d.standing p.limit c.args.tally.now.tested }

pub overflow_add-tally : goal.overflow_add-tally
overflow_add-tally t c =
    let h = climbed-most c.args.s.now c.args.p c.loop-passed.from c.loop-passed.tally.tested c.climb-stop.result c.climb-stop.ensures.is in
    let f = c.requires.0.fits in omega arith

pub returns-in-Past : goal.returns-in-Past
returns-in-Past t c =
    let s = c.args.s.now in let p = c.args.p in let d = c.requires.0 in let l = c.loop-passed in let x = c.climb-stop in
    let here : Ready s p l.tally.tested = record { standing = d.standing; within = l.invariant.within; fits = d.fits; lives = d.lives } in
    (x.ensures.rows, climbed-past s p l.from l.tally.tested here x.result x.ensures.is c.in-Past.is ∙ ap trail_of l.invariant.is)

pub returns-in-Spent : goal.returns-in-Spent
returns-in-Spent t c =
    let s = c.args.s.now in let p = c.args.p in let d = c.requires.0 in let l = c.loop-passed in let x = c.climb-stop in
    let here : Ready s p l.tally.tested = record { standing = d.standing; within = l.invariant.within; fits = d.fits; lives = d.lives } in
    (x.ensures.rows, climbed-spent s p l.from l.tally.tested here x.result x.ensures.is c.in-Spent.is ∙ ap trail_of l.invariant.is)

pub returns-in-Point : goal.returns-in-Point
returns-in-Point t c =
    let s = c.args.s.now in let p = c.args.p in let d = c.requires.0 in let l = c.loop-passed in let x = c.climb-stop in
    let here : Ready s p l.tally.tested = record { standing = d.standing; within = l.invariant.within; fits = d.fits; lives = d.lives } in
    (x.ensures.rows, climbed-point s p l.from l.tally.tested here x.result x.ensures.is c.in-Point.passed c.in-Point.is ∙ ap trail_of l.invariant.is)

pub level-requires : goal.level-requires
level-requires t c =
    let s = c.args.s.now in let p = c.args.p in let d = c.requires.0 in let l = c.loop-passed in let x = c.climb-stop in let q = c.in-Below.passed in
    let here : Ready s p l.tally.tested = record { standing = d.standing; within = l.invariant.within; fits = d.fits; lives = d.lives } in
    let b : Descends s p (l.tally.tested + x.result.tested) q.at = climbed-below s p l.from l.tally.tested here x.result x.ensures.is q c.in-Below.is in
    (omega (arith, b.deeper, c.decreases), (b.ready, subst₂ (λ (n k : ℕ). Rowed s n k x.new.rows) (sym b.axes) (sym b.count) x.ensures.rows))

pub loop-passed-smaller : goal.loop-passed-smaller
loop-passed-smaller t c = climbed-fewer c.args.s.now c.args.p c.loop-passed.from c.loop-passed.tally.tested c.climb-stop.result c.climb-stop.ensures.is c.in-Below.passed c.in-Below.is

pub loop-passed-preserved : goal.loop-passed-preserved
loop-passed-preserved t c =
    let s = c.args.s.now in let p = c.args.p in let d = c.requires.0 in let l = c.loop-passed in let x = c.climb-stop in let q = c.in-Below.passed in let r = c.level in
    let here : Ready s p l.tally.tested = record { standing = d.standing; within = l.invariant.within; fits = d.fits; lives = d.lives } in
    let b : Descends s p (l.tally.tested + x.result.tested) q.at = climbed-below s p l.from l.tally.tested here x.result x.ensures.is q c.in-Below.is in
    let g = climbed-goes s p l.from l.tally.tested here x.result x.ensures.is q c.in-Below.is in
    let e : (r.new.tally.tested ≤ p.limit) × (onward s p q.next r.new.tally.tested ≡ onward s p l.from l.tally.tested) = level-none s p (onward s p l.from l.tally.tested) (l.tally.tested + x.result.tested) q b.limit g r.result r.new.tally.tested r.ensures.1 c.in-Nothing.is in
    record { rowed = subst₂ (λ (n k : ℕ). Rowed s n k r.new.rows) b.axes b.count r.ensures.0; within = e.0; is = e.1 ∙ l.invariant.is }

pub returns-in_default : goal.returns-in_default
returns-in_default t c =
    let s = c.args.s.now in let p = c.args.p in let d = c.requires.0 in let l = c.loop-passed in let x = c.climb-stop in let q = c.in-Below.passed in let r = c.level in
    let here : Ready s p l.tally.tested = record { standing = d.standing; within = l.invariant.within; fits = d.fits; lives = d.lives } in
    let b : Descends s p (l.tally.tested + x.result.tested) q.at = climbed-below s p l.from l.tally.tested here x.result x.ensures.is q c.in-Below.is in
    let g = climbed-goes s p l.from l.tally.tested here x.result x.ensures.is q c.in-Below.is in (
      subst₂ (λ (n k : ℕ). Rowed s n k r.new.rows) b.axes b.count r.ensures.0,
      level-found s p (onward s p l.from l.tally.tested) (l.tally.tested + x.result.tested) q b.limit g r.result r.new.tally.tested r.ensures.1 c.in_default.not-Nothing ∙ ap trail_of l.invariant.is,
    )
