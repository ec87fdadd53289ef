use Rattle.std.proofs.Common.{◌∙◌, sym, SFits, w32, rules}
use Rattle.std.proofs.lemmas.Int.{to_z-of_z}
use Rattle.model.specs.Values.{constraint_of}
use Rattle.joining.proofs.Dividing.{void-over, tight-over}
use Rattle.joining.proofs.tightening.reduce.Goals as goal

pub returns-then-undivided : goal.returns-then-undivided
returns-then-undivided c =
    let g = c.content-divisor in
    let h = c.if-divisor-le1.false in
    let f : SFits w32 c.args.c.constant = search rules in
    let u = rw (to_z-of_z w32 _ f) at c.undivided.ensures in
    record {
      void = sym c.if-undivided.true ∙ u ∙ void-over (constraint_of c.args.c) g.result g.ensures.is h;
      rule = tt;
    }

pub returns : goal.returns
returns c =
    let g = c.content-divisor in
    let h = c.if-divisor-le1.false in
    let f : SFits w32 c.args.c.constant = search rules in
    let u = rw (to_z-of_z w32 _ f) at c.undivided.ensures in
    record {
      void = sym c.if-undivided.false ∙ u ∙ void-over (constraint_of c.args.c) g.result g.ensures.is h;
      rule = c.divided_down.ensures ∙ tight-over (constraint_of c.args.c) g.result g.ensures.is h;
    }
