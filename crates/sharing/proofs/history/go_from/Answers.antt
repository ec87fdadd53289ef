use Rattle.std.proofs.Common.{◌≡◌, ◌∙◌, sym, ℕ, ◌-◌, List, ℤ, length, arith}
use Rattle.simplex.specs.declared.Move.TheVariants.{Pivot}
use Rattle.simplex.specs.Table.{move_of, Fine}
use Rattle.sharing.proofs.Going.{Going, going_start, going_end, going-went, going-made, made-less, crosses}
use Rattle.sharing.proofs.history.go_from.Goals as goal

pub returns-in-Stop : goal.returns-in-Stop
returns-in-Stop c =
    let p = c.requires in
    let g = going_start _ _ _ _ _ _ _ p.fine p.past_len.0 p.past_len.1 p.start_le_most_pivots in
    going_end _ _ _ _ _ _ _ _ _ _ _ _ g c.in-Stop.x (sym c.choose_at.ensures ∙ c.in-Stop.is)

pub make-requires-clause-crossing : goal.make-requires-clause-crossing
make-requires-clause-crossing c =
    let p = c.requires in
    let g = going_start _ _ _ _ _ _ _ p.fine p.past_len.0 p.past_len.1 p.start_le_most_pivots in
    crosses _ _ _ _ _ _ _ _ _ _ _ _ g _ _ (sym c.choose_at.ensures ∙ c.in-Pivot.is)

pub make-requires-clause-k_in_bounds : goal.make-requires-clause-k_in_bounds
make-requires-clause-k_in_bounds c =
    let p = c.requires in
    let g = going_start _ _ _ _ _ _ _ p.fine p.past_len.0 p.past_len.1 p.start_le_most_pivots in
    let h = made-less _ _ _ _ _ _ _ _ _ _ _ _ g _ _ (sym c.choose_at.ensures ∙ c.in-Pivot.is) in
    let m = p.past_len.0 in
    omega (arith, h, m)

pub make-requires-clause-k_in_bounds_2 : goal.make-requires-clause-k_in_bounds_2
make-requires-clause-k_in_bounds_2 c =
    let p = c.requires in
    let g = going_start _ _ _ _ _ _ _ p.fine p.past_len.0 p.past_len.1 p.start_le_most_pivots in
    let h = made-less _ _ _ _ _ _ _ _ _ _ _ _ g _ _ (sym c.choose_at.ensures ∙ c.in-Pivot.is) in
    let m = p.past_len.1 in
    omega (arith, h, m)

pub go_on-requires-clause-fine : goal.go_on-requires-clause-fine
go_on-requires-clause-fine c =
    let p = c.requires in
    let g = going_start _ _ _ _ _ _ _ p.fine p.past_len.0 p.past_len.1 p.start_le_most_pivots in
    (going-made _ _ _ _ _ _ _ _ _ _ _ _ g _ _ (sym c.choose_at.ensures ∙ c.in-Pivot.is) _ _ _ _ c.make.ensures).fine

pub go_on-requires-clause-start_le_most_pivots : goal.go_on-requires-clause-start_le_most_pivots
go_on-requires-clause-start_le_most_pivots c =
    let p = c.requires in
    let g = going_start _ _ _ _ _ _ _ p.fine p.past_len.0 p.past_len.1 p.start_le_most_pivots in
    (going-made _ _ _ _ _ _ _ _ _ _ _ _ g _ _ (sym c.choose_at.ensures ∙ c.in-Pivot.is) _ _ _ _ c.make.ensures).most

pub returns-in-Pivot : goal.returns-in-Pivot
returns-in-Pivot c =
    let p = c.requires in
    let g = going_start _ _ _ _ _ _ _ p.fine p.past_len.0 p.past_len.1 p.start_le_most_pivots in
    let m = going-made _ _ _ _ _ _ _ _ _ _ _ _ g _ _ (sym c.choose_at.ensures ∙ c.in-Pivot.is) _ _ _ _ c.make.ensures in
    going-went _ _ _ _ _ _ _ _ _ _ _ _ m _ _ _ _ _ c.go_on.ensures
