use Rattle.std.proofs.Common.{◌≡◌, ◌∙◌, ap, sym, ◌+◌, get_or, set, ℤ, pos, of_z, SFits, w64, rules}
use Rattle.model.specs.Sets.{is_zero}
use Rattle.model.proofs.Values.{is_zero-no}
use Rattle.tableau.specs.Rows.{replace_row}
use Rattle.tableau.proofs.Lines.{bits-zero, back, wider}
use Rattle.tableau.proofs.Searches.{small-within}
use Rattle.sharing.proofs.Passes.{pass-zero, pass-wide, pass-put}
use Rattle.sharing.proofs.history.pass.Goals as goal

pub returns-then-r-j-eq0 : goal.returns-then-r-j-eq0
returns-then-r-j-eq0 c =
    let x = get_or c.args.r.now (c.args.j + 2) (pos 0) in
    let f : SFits w64 x = search rules in
    pass-zero c.args.j c.args.q.now c.args.r.now (ap is_zero (bits-zero x f.sfits c.if-r-j-eq0.true))

pub returns-then-not-small : goal.returns-then-not-small
returns-then-not-small c =
    let e = is_zero-no (get_or c.args.r.now (c.args.j + 2) (pos 0)) (λ z. c.if-r-j-eq0.false (ap (of_z w64) z)) in
    pass-wide c.args.j c.args.q.now c.args.r.now e (sym c.small.ensures ∙ c.if-not-small.true)

pub replace-requires-clause-small : goal.replace-requires-clause-small
replace-requires-clause-small c = small-within c.args.r.now (sym c.small.ensures ∙ c.if-not-small.false)

pub returns : goal.returns
returns c =
    let q = c.args.q.now in
    let r = c.args.r.now in
    let x = pass-put c.args.j q r (is_zero-no (get_or r (c.args.j + 2) (pos 0)) (λ z. c.if-r-j-eq0.false (ap (of_z w64) z))) (sym c.small.ensures ∙ c.if-not-small.false) in
    record { test = x.test; row = c.replace.ensures ∙ ap (λ (m : ℤ). replace_row r c.args.j m (set q 0 (pos 0))) (back (wider c.requires.left.divisor.near)) ∙ x.row }
