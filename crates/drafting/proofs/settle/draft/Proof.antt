-- `drafting::settle::draft` meets its contract. Assumes nothing.
use mathlib.Core.Path.{sym, subst}
use native.Mathlib.Omega.{arith}
use Rattle.integers.specs.Size.{bound}
use Rattle.model.specs.Values.{constraint_of}
use Rattle.wide_tableau.specs.Cells.{cells, rows_of}
use Rattle.drafting.specs.Sketch.{sketch_of, Sound}
use Rattle.drafting.proofs.Sketches.{begun-sound}
use Rattle.drafting.proofs.Making.{rule-is}
use Rattle.drafting.proofs.settle.draft.Statement.{statement}
use Rattle.drafting.proofs.settle.draft.Tie as tie

begin-requires : tie.Need-begin-requires
begin-requires c κs = let p = c.before.before.before.requires.1 in (p.few, p.names, λ v h. omega (arith, p.near v h, p.few))

settle-requires : tie.Need-settle-requires
settle-requires c κs =
    let e = c.before.before.begin.ensures in let s = c.before.before.before.before.before.before in let t = rows_of s.args.t.now in
    (s.requires.0, e.sheet, e.waits, s.requires.1, subst (Sound s.args.k t s.args.place.now) (sym e.is) (begun-sound s.args.k t s.args.place.now s.requires.1 (constraint_of s.args.c)))

returns : tie.Need-returns
returns c =
    let b = c.before.before.before in let s = b.before.before.before.before in
    record {
      is = rule-is (bound 128) s.args.k (rows_of s.args.t.now) s.args.place.now (constraint_of s.args.c) (sketch_of b.begin.new.row b.begin.new.waiting) c.settle.result (cells c.settle.new.row) (cells c.settle.new.waiting) b.begin.ensures.is c.settle.ensures.is;
      sheet = c.settle.ensures.sheet;
    }

pub draft_spec : {M : Type 1} → statement M
draft_spec = tie.close (tie.spec begin-requires settle-requires returns)
