use Rattle.std.proofs.Common.{◌≡◌, ℕ, length, take, sym, ap, ap₂, ◌∙◌, arith}
use lib.ListN.{length-take}
use Rattle.codec.specs.Bytes.{gives}
use Rattle.codec.specs.Places.{set_from}
use Rattle.codec.proofs.Boundaries.{decode_is}
use Rattle.coverage.specs.Readings.{range_by, told_of}
use Rattle.coverage.specs.declared.ranges.Range.{Range}
use Rattle.coverage.proofs.Told.{ranged-is, found-is, not-refused, searched-is, in-range}
use Rattle.coverage.proofs.ranges.searched.Goals as goal

pub returns-in_err-p : goal.returns-in_err-p
returns-in_err-p c =
    let a = c.args in let q = c.requires.0 in let i = q.limit_inside in let o = q.limit_outside in
    not-refused c.in_err-p.ensures (searched-is a.n a.set.now a.lows a.highs _ (set_from a.set.now 0) (decode_is a.n a.set.now q.boxed.accepted) q.boxed.box (search (i, o)))

pub slice_bounds-first_point-end : goal.slice_bounds-first_point-end
slice_bounds-first_point-end c = let a = c.args in let h = c.requires.1.inside in omega (arith, length-take a.l a.table.now)

pub returns-in_err-q : goal.returns-in_err-q
returns-in_err-q c =
    let a = c.args in let q = c.requires.0 in let t = c.requires.1 in
    not-refused c.in_err-q.ensures (searched-is a.n (take a.l a.table.now) a.lows a.highs a.outside _ t.decoded q.boxed.box q.limit_outside)

pub returns : goal.returns
returns c =
    let a = c.args in let q = c.requires.0 in let t = c.requires.1 in let h = t.inside in
    let p-found = found-is c.in_ok-p.ensures (searched-is a.n a.set.now a.lows a.highs a.inside (set_from a.set.now 0) (decode_is a.n a.set.now q.boxed.accepted) q.boxed.box q.limit_inside) in
    let q-found = found-is c.in_ok-q.ensures (searched-is a.n (take a.l a.table.now) a.lows a.highs a.outside _ t.decoded q.boxed.box q.limit_outside) in
    let long : a.l ≡ length (take a.l a.table.now) = omega (arith, length-take a.l a.table.now) in
    ap₂ (λ (r : Range) (l : ℕ). gives (record { range = r; length = l }))
    (c.ranged.ensures ∙ ap₂ range_by p-found q-found ∙ ranged-is _ _ ∙ ap told_of (sym (in-range a.n a.set.now a.lows a.highs a.inside a.outside))) long
