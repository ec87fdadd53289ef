use Rattle.subtraction.proofs.Firsts.{first-level, divided-tight, divided-void, divided-cut}
use Rattle.subtraction.proofs.levels.cut_divided.Goals as goal

pub cut_all-requires : goal.cut_all-requires
cut_all-requires c =
    let q = c.in-Some.q in
    (first-level c.args.p q c.in-Some.ensures c.requires.0, c.requires.1, c.requires.2, c.requires.3, λ z. divided-tight c.args.p q c.in-Some.ensures)

pub returns-in-Some : goal.returns-in-Some
returns-in-Some c = divided-cut c.requires.0 c.requires.4 c.in-Some.ensures c.cut_all.ensures

pub returns-in-None : goal.returns-in-None
returns-in-None c = divided-void c.requires.0 c.requires.4 c.in-None.ensures c.args.out.now c.args.s c.requires.1
