use Rattle.std.proofs.Common.{ℕ, List, [], drop, refl, ap, sym, ◌∙◌, None, Some}
use Rattle.session.specs.declared.Cursor.{Cursor}
use Rattle.session.specs.declared.Next.TheVariants.{Goes}
use Rattle.session.specs.Turns.{memory, line_turn, state_at}
use Rattle.session.proofs.Turning.{over-end, over-unknown, over-cut, line-there}
use Rattle.script.proofs.TurnLaws.{says-quiet, says_same}
use Rattle.script.proofs.turns.listing_turn.Goals as goal
use Rattle.script.proofs.turns.listing_turn.Goals.{then-w-eq0-via-then-w-eq0, then-w-eq0-via-else-w-eq0+then-s-c-2}

pub returns-then-s-c : goal.returns-then-s-c
returns-then-s-c c =
    let n = c.args.axes in let k = c.args.c in let y = memory [] [] [] in
    says_same (sym (over-end n y k _ k.place c.if-s-c.true) ∙ ap (λ (l : List ℕ). line_turn n y k (drop k.place l)) c.table-s.ensures)
    (says-quiet (state_at n None) y Goes c.args.out.now c.over.ensures)

pub returns-then-w-eq0 : goal.returns-then-w-eq0
returns-then-w-eq0 c =
    let n = c.args.axes in let k = c.args.c in let y = memory [] [] [] in
    let s = ap (λ (l : List ℕ). line_turn n y k (drop k.place l)) c.table-s.ensures in
    let q = says-quiet (state_at n None) y Goes c.args.out.now c.over-then-w-eq0.ensures in
    elim c.then-w-eq0.branch [
      | then-w-eq0-via-then-w-eq0 w ↦
          says_same (sym (over-unknown n y k _ k.place c.if-s-c.false c.width-w.result c.width-w.ensures w.if-w-eq0.true) ∙ s) q
      | then-w-eq0-via-else-w-eq0+then-s-c-2 w ↦
          says_same (sym (over-cut n y k _ k.place c.if-s-c.false c.width-w.result c.width-w.ensures w.if-w-eq0.false w.if-s-c-2.true) ∙ s) q
    ]

pub returns : goal.returns
returns c =
    let n = c.args.axes in let k = c.args.c in let y = memory [] [] [] in
    says_same
    (sym (line-there n y k _ k.place c.if-s-c.false c.width-w.result c.width-w.ensures c.if-w-eq0.false c.if-s-c-2.false)
    ∙ ap (λ (l : List ℕ). line_turn n y k (drop k.place l)) c.table-s.ensures)
    (record { text = c.line-text.ensures.wrote; used = refl; state = ap (λ (x : Cursor). state_at n (Some x)) c.past.ensures; next = refl })
