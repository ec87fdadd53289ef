-- `drafting::begin::coefficient` meets its contract. Assumes nothing.
use mathlib.Core.Path.{sym, ap, ◌∙◌}
use mathlib.Core.Bool.{Bool, cond}
use Prim.Native.Nat.{◌-◌}
use borrow.Author.Tests.{lt-ltb, le-ltb}
use borrow.Author.Rules.{rules}
use lib.ListN.{get_or}
use lib.IntN.{pos}
use mir.Syntax.{w16}
use mir.Facts.{to_z-of_z}
use Rattle.drafting.proofs.begin.coefficient.Statement.{statement}
use Rattle.drafting.proofs.begin.coefficient.Tie as tie

mul-x : tie.Need-offset_bounds-a-v
mul-x c = search rules

array-copy-out-x : tie.Need-bounds-a-v
array-copy-out-x c = search rules

widened-requires : tie.Need-widened-requires
widened-requires c κs = search rules

returns : tie.Need-returns-then-v-lt-AXES
returns c =
    let x = c.before in let t = x.before.before in let s = t.before in let r = s.args.c in let v = s.args.v in (
      c.widened.ensures.0
          ∙ to_z-of_z {w = w16} {z = get_or r.axes v (pos 0)} (record { sfits = x.x-1.given })
          ∙ sym (ap (λ (b : Bool). cond b (get_or r.axes v (pos 0)) (get_or r.divisions (v - 8) (pos 0))) (lt-ltb v 8 t.if-v-lt-AXES.true)),
      c.widened.ensures.1,
    )

mul-y : tie.Need-offset_bounds-d-v
mul-y c = search rules

array-copy-out-y : tie.Need-bounds-d-v
array-copy-out-y c = search rules

widened-requires-2 : tie.Need-widened-requires-2
widened-requires-2 c κs = search rules

returns-2 : tie.Need-returns
returns-2 c =
    let y = c.before in let t = y.before.before in let s = t.before in let r = s.args.c in let v = s.args.v in (
      c.widened-2.ensures.0
          ∙ to_z-of_z {w = w16} {z = get_or r.divisions (v - 8) (pos 0)} (record { sfits = y.y-1.given })
          ∙ sym (ap (λ (b : Bool). cond b (get_or r.axes v (pos 0)) (get_or r.divisions (v - 8) (pos 0))) (le-ltb v 8 t.if-v-lt-AXES.false)),
      c.widened-2.ensures.1,
    )

pub coefficient_spec : {M : Type 1} → statement M
coefficient_spec =
    tie.close
    (tie.spec
    mul-x
    array-copy-out-x
    widened-requires
    returns
    mul-y
    array-copy-out-y
    widened-requires-2
    returns-2)
