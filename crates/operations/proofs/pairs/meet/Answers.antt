use Rattle.std.proofs.Common.{◌∙◌, sym}
use Rattle.model.specs.Values.{basic_set_of}
use Rattle.algebra.specs.Cut.{keeps, both_fits}
use Rattle.results.proofs.Chained.{emits-refused}
use Rattle.operations.specs.Operations.{meeting}
use Rattle.operations.proofs.Meeting.{meet-sound, meet-admitted, admit-plain}
use Rattle.operations.proofs.pairs.meet.Goals as goal

-- over 8 divisions or 48 constraints
pub returns-in-None : goal.returns-in-None
returns-in-None c =
    let a = c.args in
    let i = c.in-None.ensures in
    emits-refused (meeting (basic_set_of a.p) (basic_set_of a.v)) (both_fits keeps (basic_set_of a.p) (basic_set_of a.v)) a.out.now a.out.now a.s _ _ (sym i.fits)

pub any_divisible-requires : goal.any_divisible-requires
any_divisible-requires c = (meet-sound c.requires.0 c.in-Some.ensures).cons

pub admit_divided-requires : goal.admit_divided-requires
admit_divided-requires c = (meet-sound c.requires.0 c.in-Some.ensures, c.requires.1, c.requires.2)

pub returns-then-any_divisible : goal.returns-then-any_divisible
returns-then-any_divisible c = meet-admitted c.requires.0 c.in-Some.ensures c.admit_divided.ensures

pub emit_kept-requires : goal.emit_kept-requires
emit_kept-requires c = (meet-sound c.requires.0 c.in-Some.ensures, c.requires.1, c.requires.2)

pub returns : goal.returns
returns c = meet-admitted c.requires.0 c.in-Some.ensures (admit-plain c.in-Some.w (sym c.any_divisible.ensures ∙ c.if-any_divisible.false) c.emit_kept.ensures)
