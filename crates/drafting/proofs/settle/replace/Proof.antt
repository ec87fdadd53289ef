-- `drafting::settle::replace` meets its contract. Assumes nothing.
use mathlib.Core.Path.{sym, ap, ◌∙◌, refl}
use mathlib.Core.Option.{some}
use borrow.Author.Tests.{not-true, not-false}
use borrow.Author.Rules.{rules}
use Rattle.integers.specs.Size.{bound}
use Rattle.wide_tableau.specs.Cells.{cells}
use Rattle.drafting.specs.Sketch.{sketch_of}
use Rattle.drafting.proofs.Making.{replaced-yes, replaced-no, both-near}
use Rattle.drafting.proofs.settle.replace.Statement.{statement}
use Rattle.drafting.proofs.settle.replace.Tie as tie

both-small-requires : tie.Need-both_small-requires
both-small-requires c κs = search rules

returns : tie.Need-returns-then-not-both_small
returns c =
    let b = c.before in let s = b.before in
    record {
      is = replaced-no (bound 128) s.args.v (cells s.args.r.now) (sketch_of s.args.row.now s.args.waiting.now) (sym b.both_small.ensures ∙ not-true _ c.if-not-both_small.true-raw);
      sheet = s.requires.0;
      waits = s.requires.1;
    }

substitute-requires : tie.Need-substitute-requires
substitute-requires c κs =
    let e = c.before.before in let b = e.before in let s = b.before in
    (s.requires.0, s.requires.1, s.requires.2, s.requires.3, both-near (bound 128) s.args.v (cells s.args.r.now) (sketch_of s.args.row.now s.args.waiting.now) s.args.n refl s.requires.4 (sym b.both_small.ensures ∙ not-false _ e.if-not-both_small.false-raw))

returns-2 : tie.Need-returns
returns-2 c =
    let e = c.before.before.before in let b = e.before in let s = b.before in
    record {
      is = replaced-yes (bound 128) s.args.v (cells s.args.r.now) (sketch_of s.args.row.now s.args.waiting.now) (sym b.both_small.ensures ∙ not-false _ e.if-not-both_small.false-raw) ∙ ap some (sym c.substitute.ensures.is);
      sheet = c.substitute.ensures.sheet;
      waits = c.substitute.ensures.waits;
    }

pub replace_spec : {M : Type 1} → statement M
replace_spec = tie.close (tie.spec both-small-requires returns substitute-requires returns-2)
