use Rattle.std.proofs.Common.{◌≡◌, ℕ, true, false, Option, Some, None, refl, sym}
use Rattle.std.specs.Option.{is_some}
use Rattle.counting.proofs.Calling.{members-shut, members-open, ended-shut, ended-done, ended-spent, boxed}
use Rattle.counting.proofs.calls.ended.Goals as goal

none-of : (o : Option ℕ) → is_some o ≡ false → o ≡ None
none-of None e = refl
none-of (Some n) e = cc

some-of : (o : Option ℕ) → is_some o ≡ true → o ≡ None → ⊥
some-of None e z = cc
some-of (Some n) e z = cc

pub returns-then-not-upright : goal.returns-then-not-upright
returns-then-not-upright c =
    let a = c.args in
    ended-shut a.limit a.c a.each.now c.requires.1.none _ (members-shut a.n a.s.now a.low a.high c.requires.0 (sym c.if-not-upright.ensures))

pub walked-told-requires : goal.walked-told-requires
walked-told-requires c = let a = c.args in (boxed a.n a.s.now a.low a.high c.requires.0 (sym c.if-not-upright.ensures), c.requires.1)

pub returns-then-is_none : goal.returns-then-is_none
returns-then-is_none c =
    let a = c.args in
    ended-spent a.limit a.c a.each.now c.requires.1.none _ _ (members-open a.n a.s.now a.low a.high c.requires.0 (sym c.if-not-upright.ensures))
    _ _ c.walked-told.ensures (none-of c.walked-told.result.whole c.if-is_none.ensures) _ (c.fill.ensures.after (λ y e. e))

pub returns-else-is_none : goal.returns-else-is_none
returns-else-is_none c =
    let a = c.args in
    ended-done a.limit a.c a.each.now c.requires.1.none _ _ (members-open a.n a.s.now a.low a.high c.requires.0 (sym c.if-not-upright.ensures))
    _ _ c.walked-told.ensures (some-of c.walked-told.result.whole c.if-is_none.ensures)
