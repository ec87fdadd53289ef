use Rattle.std.proofs.Common.{◌≡◌, sym, ap, ◌∙◌, ◌+◌, set, get_or, pos, ◌-ℤ◌, ◌<ℤ◌}
use mathlib.Core.Path.{ap₂}
use Prim.Native.Nat.{zero-le}
use mir.Syntax.{w64}
use mir.Val.{to_z}
use mir.Facts.{to_z-of_z}
use Rattle.integers.specs.Size.{bound}
use Rattle.tableau.specs.Rows.{combine_rows, reduce_row, replace_row}
use Rattle.tableau.proofs.Lines.{set-small, clear-line, combine-line, combine-small, combine-den, combine-one, one-lowest, set-den, within-minus, minus-back, back, wider}
use Rattle.tableau.proofs.row.replace.Goals as goal

pub reduce_by-requires-clause-line : goal.reduce_by-requires-clause-line
reduce_by-requires-clause-line c =
    let l = clear-line c.args.n c.args.r.now (c.args.j + 2) c.requires.line in
    rw c.combine-g.ensures.0 (combine-line c.args.n _ _ _ c.args.q.now l c.requires.line_2)

pub reduce_by-requires-clause-small : goal.reduce_by-requires-clause-small
reduce_by-requires-clause-small c =
    let j = c.args.j + 2 in
    let h = c.requires.small j in
    let l = clear-line c.args.n c.args.r.now j c.requires.line in
    let s = set-small (bound 64) c.args.r.now j (pos 0) (record { size = zero-le }) c.requires.small in
    let b = minus-back (get_or c.args.r.now j (pos 0)) h in
    rw (c.combine-g.ensures.0, to_z-of_z c.ranges.m, b)
    (combine-small c.args.n c.args.m _ _ c.args.q.now l c.requires.line_2 c.requires.within (within-minus h) s c.requires.small_2)

pub reduce_by-requires-clause-pos_bound : goal.reduce_by-requires-clause-pos_bound
reduce_by-requires-clause-pos_bound c =
    let l = clear-line c.args.n c.args.r.now (c.args.j + 2) c.requires.line in
    let d : pos 0 <ℤ get_or (set c.args.r.now (c.args.j + 2) (pos 0)) 0 (pos 0) = rw (set-den c.args.r.now c.args.j (pos 0)) c.requires.pos_bound_2 in
    rw (c.combine-g.ensures.0, to_z-of_z c.ranges.m) (combine-den c.args.n c.args.m _ _ c.args.q.now l c.requires.line_2 c.requires.pos_bound d c.requires.pos_value)

pub returns-then-r-eq1 : goal.returns-then-r-eq1
unfolding replace_row
returns-then-r-eq1 c =
    let j = c.args.j + 2 in
    let b = get_or c.args.r.now j (pos 0) in
    let l = set c.args.r.now j (pos 0) in
    let q = c.args.q.now in
    let m : c.args.m ≡ pos 1 = sym (to_z-of_z c.ranges.m) ∙ ap (to_z w64) c.if-m-eq1.true in
    let s = set-small (bound 64) c.args.r.now j (pos 0) (record { size = zero-le }) c.requires.small in
    let d : get_or l 0 (pos 0) ≡ pos 1 = sym (back (wider (s 0))) ∙ ap (to_z w64) c.if-r-eq1.true in
    c.add.ensures
    ∙ ap₂ (λ m z. combine_rows m (pos 0 -ℤ z) l q) (sym m) (back (wider (c.requires.small j)))
    ∙ sym (one-lowest (combine_rows c.args.m (pos 0 -ℤ b) l q)
    (combine-one c.args.n c.args.m (pos 0 -ℤ b) l q (clear-line c.args.n c.args.r.now j c.requires.line) c.requires.line_2 m d c.requires.pos_value))

pub returns-else-m-eq1 : goal.returns-else-m-eq1
unfolding replace_row
returns-else-m-eq1 c =
    let j = c.args.j + 2 in
    c.reduce_by.ensures ∙ ap reduce_row (c.combine-g.ensures.0
    ∙ ap₂ (λ m b. combine_rows m b (set c.args.r.now j (pos 0)) c.args.q.now) (to_z-of_z c.ranges.m) (minus-back (get_or c.args.r.now j (pos 0)) (c.requires.small j)))
