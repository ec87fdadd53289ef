use Rattle.std.proofs.Common.{◌∙◌}
use Rattle.sharing.proofs.Begins.{begin-fine, begin-stands}
use Rattle.sharing.proofs.working.begin.Goals as goal

pub go_on-requires-clause-fine : goal.go_on-requires-clause-fine
go_on-requires-clause-fine c =
    let b = c.requires.beginning in
    begin-fine c.requires.valid c.name_variables.ensures c.fill_bounds.ensures b.high b.long b.wide

pub returns : goal.returns
returns c =
    let b = c.requires.beginning in
    let x = c.go_on.auto in
    begin-stands c.requires.valid c.name_variables.ensures c.fill_bounds.ensures b.high b.long b.wide c.go_on.ensures x.t x.place (x.past ∙ b.many) (x.columns ∙ b.many')
