-- A row without an entry in the column stays, any other is replaced and counted.
use Rattle.std.proofs.Common.{◌≡◌, ℕ, ◌+◌, true, false, cond, sym, ap, ◌∙◌, get_or, rules}
use Rattle.std.specs.Prelude.{pos}
use mir.Syntax.{w64}
use mir.Val.{SFits, of_z}
use mir.Facts.{to_z-of_z}
use Rattle.tableau.specs.Rows.{replace_row as replace_of, rebuild_row as rebuild_of}
use Rattle.model.specs.Sets.{is_zero}
use Rattle.model.proofs.Values.{is_zero-no}
use Rattle.tableau.proofs.Lines.{bits-zero}
use Rattle.tableau.proofs.pivot.rebuild.Goals as goal

pub returns-then-r-j-eq0 : goal.returns-then-r-j-eq0
unfolding rebuild_of
returns-then-r-j-eq0 c =
    let s = c.args in
    let z = get_or s.r.now (s.j + 2) (pos 0) in
    let x : SFits w64 z = search rules in
    let e : is_zero z ≡ true = ap is_zero (bits-zero z x.sfits c.if-r-j-eq0.true) in
    (sym (ap (λ b. cond b s.r.now (replace_of s.r.now s.j s.m s.q.now)) e), sym (ap (λ b. cond {A = ℕ} b 0 1) e))

pub returns : goal.returns
unfolding rebuild_of
returns c =
    let s = c.args in
    let z = get_or s.r.now (s.j + 2) (pos 0) in
    let e : is_zero z ≡ false = is_zero-no z (λ h. c.if-r-j-eq0.false (ap (of_z w64) h)) in (
      c.replace.ensures ∙ ap (λ m. replace_of s.r.now s.j m s.q.now) (to_z-of_z c.ranges.m)
          ∙ sym (ap (λ b. cond b s.r.now (replace_of s.r.now s.j s.m s.q.now)) e),
      sym (ap (λ b. cond {A = ℕ} b 0 1) e),
    )
