use mathlib.Core.Path.{◌≡◌, sym, ap, ap₂, ◌∙◌, subst}
use mathlib.Core.Bool.{false}
use mathlib.Core.List.{List}
use Prim.Native.Nat.{ℕ, ◌+◌, ◌≤◌}
use native.Mathlib.Omega.{arith}
use lib.ListN.{length, drop, get_or}
use borrow.Author.Rules.{rules}
use Rattle.codec.specs.Bytes as B
use Rattle.codec.specs.Bytes.{is_division, division_body, constraint_body, width_of}
use Rattle.codec.specs.Places.{Whole}
use Rattle.codec.specs.Checking.{counts_of}
use Rattle.codec.proofs.Parsing.{head-unknown, head-cut, head_at, read-opens, read-division, read-rule, width-division, width-constraint, other-code, body-room}
use Rattle.codec.proofs.checking.check_command.Statement.{statement}
use Rattle.codec.proofs.checking.check_command.Tie as tie

shared-slice-read-b : tie.Need-bounds-s-at
shared-slice-read-b c = search rules

width-requires : tie.Need-width-w-requires
width-requires c κs = search rules

abbrev start : tie.After-width-w → tie.Start
start w = w.before.before.before.before

returns : tie.Need-returns-then-w-eq0
returns c = let w = c.before in let a = (start w).args in sym (head-unknown a.n (counts_of a.k) _ _ (sym w.width-w.ensures ∙ c.if-w-eq0.true))

sub-if2 : tie.Need-overflow_sub-s
sub-if2 c = search rules

returns-2 : tie.Need-returns-then-s-at
returns-2 c = let e1 = c.before in let w = e1.before in let st = start w in let a = st.args in sym (head-cut a.n (counts_of a.k) _ a.s.now a.at _ st.requires.0 w.width-w.ensures e1.if-w-eq0.false c.if-s-at.true)

opens-refusal-requires : tie.Need-check_opening-requires
opens-refusal-requires c κs = search rules

-- a command that is known and whole
module _ (c : tie.Else-s-at) where
  abbrev st : tie.Start
  st = start c.before.before

  abbrev k : B.Counts
  k = counts_of st.args.k

  abbrev s : List ℕ
  s = st.args.s.now

  abbrev at : ℕ
  at = st.args.at

  abbrev b : ℕ
  b = get_or s at 0

  some : width_of b ≡ 0 → ⊥
  some z = c.before.if-w-eq0.false (c.before.before.width-w.ensures ∙ z)

  room : at + width_of b ≤ length s
  room = let e = c.before.before.width-w.ensures in let h = c.if-s-at.false in let l = st.requires.0 in omega arith

  whole : Whole s at
  whole = let n = some in record { known = let e = c.before.before.width-w.ensures in let h = c.before.if-w-eq0.false in omega arith; room = room }

  refuses : B.head_refusal st.args.n k b (drop (at + 1) s) ≡ B.refusal st.args.n k (B.read_command b (drop (at + 1) s))
  refuses = head_at st.args.n k b s at _ st.requires.0 c.before.before.width-w.ensures c.before.if-w-eq0.false c.if-s-at.false

returns-3 : tie.Need-returns-then-b-eq-OPENS
returns-3 c =
    let y = c.before in let e = y.before in
    c.check_opening.ensures ∙ ap (B.refusal (st e).args.n (k e)) (sym (read-opens (b e) (drop (at e + 1) (s e)) y.if-b-eq-OPENS.true)) ∙ sym (refuses e)

body-requires : tie.Need-body-t-requires
body-requires c κs = whole c.before

is-division-requires : tie.Need-is_division-requires
is-division-requires c κs = search rules

head-requires : tie.Need-head-m-requires
head-requires c κs = whole c.before.before

-- a division
division-refusal-requires : tie.Need-check_division-requires
division-refusal-requires c κs =
    let d = c.before in let o = d.before.before in let e = o.before.before in
    (subst (λ (t : List ℕ). division_body ≤ length t) (sym o.body-t.ensures) (body-room (b e) (s e) (at e) division_body (width-division (b e) (sym d.is_division.ensures ∙ c.if-is_division.true)) (room e)), (st e).requires.1, (st e).requires.3)

returns-4 : tie.Need-returns-then-is_division
returns-4 c =
    let y = c.before in let d = y.before in let h = d.before in let o = h.before in let e = o.before.before in
    c.check_division.ensures
    ∙ ap₂ (λ (m : ℕ) (t : List ℕ). B.refusal (st e).args.n (k e) (B.division (B.read_division m t))) h.head-m.ensures.0 o.body-t.ensures
    ∙ ap (B.refusal (st e).args.n (k e)) (sym (read-division (b e) (drop (at e + 1) (s e)) (sym d.is_division.ensures ∙ y.if-is_division.true))) ∙ sym (refuses e)

-- a rule
module _ (c : tie.Else-is_division) where
  abbrev o : tie.After-body-t
  o = c.before.before.before

  other : is_division (b o.before.before) ≡ false
  other = sym c.before.is_division.ensures ∙ c.if-is_division.false

constraint-refusal-requires : tie.Need-check_constraint-requires
constraint-refusal-requires c κs =
    let e = (o c).before.before in let n = (o c).before.if-b-eq-OPENS.false in
    let w = width-constraint (b e) n (other c) (other-code (b e) n (other c) (some e)) in
    (subst (λ (t : List ℕ). constraint_body ≤ length t) (sym (o c).body-t.ensures) (body-room (b e) (s e) (at e) constraint_body w (room e)), (st e).requires.1, (st e).requires.2, (st e).requires.3)

returns-5 : tie.Need-returns
returns-5 c =
    let y = c.before in let e = (o y).before.before in
    c.check_constraint.ensures
    ∙ ap₂ (λ (m : ℕ) (t : List ℕ). B.refusal (st e).args.n (k e) (B.read_rule (b e) m t)) y.before.before.head-m.ensures.0 (o y).body-t.ensures
    ∙ ap (B.refusal (st e).args.n (k e)) (sym (read-rule (b e) (drop (at e + 1) (s e)) (o y).before.if-b-eq-OPENS.false (other y))) ∙ sym (refuses e)

pub check_command_spec : {M : Type 1} → statement M
check_command_spec =
    tie.close
    (tie.spec
    shared-slice-read-b
    width-requires
    returns
    sub-if2
    returns-2
    opens-refusal-requires
    returns-3
    body-requires
    head-requires
    is-division-requires
    division-refusal-requires
    returns-4
    constraint-refusal-requires
    returns-5)
