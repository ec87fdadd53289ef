-- `climbing::stops::sooner` meets its contract. Assumes nothing.
use mathlib.Core.Path.{◌≡◌, sym, ap, ap₂, ◌∙◌, subst}
use Prim.Native.Nat.{ℕ, ◌<◌}
use borrow.Author.Rules.{rules}
use lib.ListN.{length, get_or}
use lib.IntN.{ℤ, pos, ◌-ℤ◌, ◌*ℤ◌}
use lib.Signed.{lt_z}
use Rattle.integers.specs.Z.{Within}
use Rattle.integers.specs.Size.{bound}
use Rattle.wide.specs.Wide.{value_of}
use Rattle.wide_tableau.specs.Cells.{rows_of}
use Rattle.wide_tableau.proofs.Sheets.{rows-length}
use Rattle.climbing.specs.Steps.{sooner_at, move_over, move_under, Stopped}
use Rattle.climbing.proofs.Stopping.{over-within, under-within, lt-minus}
use Rattle.climbing.proofs.stops.sooner.Statement.{statement}
use Rattle.climbing.proofs.stops.sooner.Tie as tie

abbrev begun : tie.After-over-a → tie.Start
begun c = c.before.before.before

-- where a row stands
spot : (s : tie.Start) (v : ℕ) → Stopped (rows_of s.args.t.now) s.args.place.now v → get_or s.args.place.now v 0 < length s.args.t.now
spot s v h = subst (λ (n : ℕ). get_or s.args.place.now v 0 < n) (rows-length s.args.t.now) (s.requires.1.spot v h.named h.row)

over-requires : tie.Need-over-a-requires
over-requires c κs = search rules

under-requires : tie.Need-under-b-requires
under-requires c κs = let s = begun c in (s.requires.0, s.requires.4.named, spot s s.args.u s.requires.4, s.requires.2)

over-requires-2 : tie.Need-over-c-requires
over-requires-2 c κs = search rules

under-requires-2 : tie.Need-under-d-requires
under-requires-2 c κs = let s = begun c.before.before in (s.requires.0, s.requires.3.named, spot s s.args.v s.requires.3, s.requires.2)

determinant-requires : tie.Need-determinant-x-requires
determinant-requires c κs =
    let z = c.before in let y = z.before in let x = y.before in let s = begun x in
    let rows = rows_of s.args.t.now in let place = s.args.place.now in let kinds = s.args.kinds.now in let j = s.args.j in (
      subst (Within (bound 128)) (sym x.over-a.ensures) (over-within rows place kinds s.args.v s.requires.3),
      subst (Within (bound 128)) (sym y.under-b.ensures) (under-within rows place j s.args.u s.requires.4),
      subst (Within (bound 128)) (sym z.over-c.ensures) (over-within rows place kinds s.args.u s.requires.4),
      subst (Within (bound 128)) (sym c.under-d.ensures) (under-within rows place j s.args.v s.requires.3),
    )

is-negative-requires : tie.Need-is_negative-requires
is-negative-requires c κs = search rules

returns : tie.Need-returns
unfolding sooner_at
returns c =
    let d = c.before in let w = d.before in let z = w.before in let y = z.before in let x = y.before in let s = begun x in
    let rows = rows_of s.args.t.now in let place = s.args.place.now in let kinds = s.args.kinds.now in let j = s.args.j in
    let p : ℤ = move_over rows place kinds s.args.v *ℤ move_under rows place j s.args.u in
    let q : ℤ = move_over rows place kinds s.args.u *ℤ move_under rows place j s.args.v in
    let e : value_of d.determinant-x.result ≡ p -ℤ q =
    d.determinant-x.ensures.0 ∙ ap₂ (λ (p q : ℤ). p -ℤ q) (ap₂ (λ (p q : ℤ). p *ℤ q) x.over-a.ensures y.under-b.ensures) (ap₂ (λ (p q : ℤ). p *ℤ q) z.over-c.ensures w.under-d.ensures) in
    c.is_negative.ensures ∙ ap (λ (n : ℤ). lt_z n (pos 0)) e ∙ lt-minus p q

pub sooner_spec : {M : Type 1} → statement M
sooner_spec =
    tie.close
    (tie.spec
    over-requires
    under-requires
    over-requires-2
    under-requires-2
    determinant-requires
    is-negative-requires
    returns)
