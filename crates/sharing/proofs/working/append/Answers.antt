use Rattle.std.proofs.Common.{◌≡◌, ◌∙◌, ap, sym, get_or, pos, ◌+◌, SFits, w64, rules}
use Rattle.std.proofs.lemmas.Int.{to_z-of_z}
use Rattle.tableau.specs.Rows.{violated_by}
use Rattle.sharing.proofs.Appending.{seam, fine_more, last_more, rows-count, place-count, kinds-count, rows_more, place-more, kinds-more, appended-still, appended-went}
use Rattle.sharing.proofs.working.append.Goals as goal

pub returns-then-not-is_violated : goal.returns-then-not-is_violated
returns-then-not-is_violated c =
    let f : SFits w64 (get_or c.args.r 1 (pos 0)) = search rules in
    appended-still c.requires.calm c.args.kind c.args.made c.args.past.now c.args.columns.now (ap (violated_by c.args.kind) (sym (to_z-of_z w64 _ f)) ∙ sym c.is_violated.ensures ∙ c.if-not-is_violated.true)

-- the kinds that are lent on
pub slice_bounds-go_from-end-5 : goal.slice_bounds-go_from-end-5
slice_bounds-go_from-end-5 c = (kinds-count c.requires.calm c.args.kind).0

pub slice_bounds-go_from-end-6 : goal.slice_bounds-go_from-end-6
slice_bounds-go_from-end-6 c = sym (kinds-count c.requires.calm c.args.kind).1

pub go_from-requires-clause-fine : goal.go_from-requires-clause-fine
go_from-requires-clause-fine c =
    let k = c.requires.calm in
    rw (rows_more k c.args.kind, place-more k c.args.kind, kinds-more k c.args.kind) (fine_more k c.args.kind)

pub go_from-requires-clause-u_value : goal.go_from-requires-clause-u_value
go_from-requires-clause-u_value c =
    let k = c.requires.calm in
    let f : SFits w64 (get_or c.args.r 1 (pos 0)) = search rules in
    rw (rows_more k c.args.kind, place-more k c.args.kind, kinds-more k c.args.kind)
    (last_more k c.args.kind (ap (violated_by c.args.kind) (sym (to_z-of_z w64 _ f)) ∙ sym c.is_violated.ensures ∙ c.if-not-is_violated.false))

pub returns : goal.returns
returns c =
    let k = c.requires.calm in
    let g = c.go_from in
    appended-went k c.args.kind c.args.made c.args.past.now c.args.columns.now g.result _ _ _ _ g.ensures _ _
    (seam (c.args.m + 1) g.new.t _ (g.auto.t ∙ (rows-count k c.args.kind).1)) (seam (c.args.v + 1) g.new.place _ (g.auto.place ∙ (place-count k c.args.kind).1))
