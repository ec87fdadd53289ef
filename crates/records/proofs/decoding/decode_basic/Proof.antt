use mathlib.Core.Path.{◌≡◌, refl, sym, ap, ap₂, ◌∙◌, subst, subst₂}
use mathlib.Core.Bool.{true}
use mathlib.Core.List.{List, [], map}
use native.Mathlib.Omega.{arith}
use Prim.Native.Nat.{ℕ, ◌+◌, ◌-◌, ◌≤◌, ◌<◌}
use lib.ListN.{length, take, get_or, length-set}
use Rattle.model.specs.Sets as S
use Rattle.model.specs.Numbers.{numbered}
use Rattle.model.specs.Values.{division_of, constraint_of}
use Rattle.codec.specs.Bytes.{is_division, is_constraint, division_body, constraint_body, read_division, read_constraint, kind_of}
use Rattle.codec.specs.Places.{head_at, division_at, constraint_at}
use Rattle.codec.proofs.Standing.{DivisionAt, ConstraintAt}
use Rattle.records.proofs.Filling.{Filling, Settled, one_more, fill_start, fill-division, fill-constraint, division-here, constraint-here, settled, decoded, stored}
use Rattle.records.proofs.decoding.decode_basic.Statement.{statement}
use Rattle.records.proofs.decoding.decode_basic.Tie as tie

abbrev invariant-loop : tie.invariant-loop-e
invariant-loop s start at₀ ds₀ d₀ at ds d = Filling s start at (map division_of (take d ds)) [] × (d ≡ length (map division_of (take d ds))) × (length ds ≡ 8)

abbrev decreases-loop : tie.decreases-loop-e
decreases-loop s start at₀ ds₀ d₀ at ds d = length s - at

abbrev invariant-loop2 : tie.invariant-loop-b
invariant-loop2 s start at₀ ds d rs₀ r₀ at rs r = Settled s start at (map division_of (take d ds)) (map constraint_of (take r rs)) × (r ≡ length (map constraint_of (take r rs))) × (length rs ≡ 48)

abbrev decreases-loop2 : tie.decreases-loop-b
decreases-loop2 s start at₀ ds d rs₀ r₀ at rs r = length s - at

no-divisions-requires : tie.Need-no_divisions-ds-requires invariant-loop decreases-loop invariant-loop2 decreases-loop2
no-divisions-requires c κs = tt

loop-holds : tie.Need-loop-e-init invariant-loop decreases-loop invariant-loop2 decreases-loop2
loop-holds c = let st = c.before.before in (fill_start st.args.s.now st.args.start st.requires, refl, c.no_divisions-ds.ensures)

division-at-requires : tie.Need-division_at-requires invariant-loop decreases-loop invariant-loop2 decreases-loop2
division-at-requires c κs = tt

-- ---- a division: the start, those read before it, and what stands at the place
abbrev start : tie.At-loop-e invariant-loop decreases-loop invariant-loop2 decreases-loop2 → tie.Start invariant-loop decreases-loop invariant-loop2 decreases-loop2
start m = m.before.before.before

module _ (t : tie.In-loop-e invariant-loop decreases-loop invariant-loop2 decreases-loop2) where
  abbrev m : tie.At-loop-e invariant-loop decreases-loop invariant-loop2 decreases-loop2
  m = t.before.before

  abbrev s : List ℕ
  s = (start m).args.s.now

  abbrev D : List S.Division
  D = map division_of (take m.loop-e.d m.loop-e.ds)

  code : is_division (get_or s m.loop-e.at 0) ≡ true
  code = sym t.before.division_at.ensures ∙ t.loop-e-test.true

  here : DivisionAt m.loop-e.invariant.0.n s m.loop-e.at m.loop-e.invariant.0.k
  here = division-here s (start m).args.start m.loop-e.at D [] m.loop-e.invariant.0 code

  few : m.loop-e.d < 8
  few = let f = here.few in let d = m.loop-e.invariant.0.d in let e = m.loop-e.invariant.1 in omega arith

head-requires : tie.Need-head-e-requires invariant-loop decreases-loop invariant-loop2 decreases-loop2
head-requires c κs = (here c).whole

body-requires : tie.Need-body-t-requires invariant-loop decreases-loop invariant-loop2 decreases-loop2
body-requires c κs = (here c.before).whole

read-division-requires : tie.Need-read_division-requires invariant-loop decreases-loop invariant-loop2 decreases-loop2
read-division-requires c κs = (subst (λ (t : List ℕ). division_body ≤ length t) (sym c.body-t.ensures) (here c.before.before).body, c.before.head-e.ensures.1)

mul-ds : tie.Need-offset_bounds-ds-d invariant-loop decreases-loop invariant-loop2 decreases-loop2
mul-ds c = let f = few c.before.before.before in omega arith

array-set-from-ds : tie.Need-bounds-ds-d invariant-loop decreases-loop invariant-loop2 decreases-loop2
array-set-from-ds c = let t = c.before.before.before in let f = few t in let l = (m t).loop-e.invariant.2 in omega arith

add-d : tie.Need-overflow_add-d invariant-loop decreases-loop invariant-loop2 decreases-loop2
add-d c = let f = few c.before.before.before in omega arith

next-requires : tie.Need-next-at-requires invariant-loop decreases-loop invariant-loop2 decreases-loop2
next-requires c κs = (here c.before.before.before).whole

loop-less : tie.Need-loop-e-smaller invariant-loop decreases-loop invariant-loop2 decreases-loop2
loop-less c = let h = (here c.before.before.before.before).whole in let r = h.room in let w = h.known in omega (arith, c.next-at.ensures)

loop-again : tie.Need-loop-e-preserved invariant-loop decreases-loop invariant-loop2 decreases-loop2
loop-again c =
    let v = c.before in let b = v.before in let e = b.before in let t = e.before in let l = (m t).loop-e in let first = (start (m t)).args.start in
    let f = few t in let n = l.invariant.2 in let h : l.d < length l.ds = omega arith in
    let w = stored division_of l.ds l.d v.read_division.result (division_at (s t) l.at) h (v.read_division.ensures ∙ ap₂ read_division e.head-e.ensures.0 b.body-t.ensures) in (
      subst₂ (λ (p : ℕ) (X : List S.Division). Filling (s t) first p X []) (sym c.next-at.ensures) (sym w) (fill-division (s t) first l.at (D t) [] l.invariant.0 (code t)),
      ap (λ (j : ℕ). j + 1) l.invariant.1 ∙ sym (one_more (D t) (division_at (s t) l.at)) ∙ ap length (sym w),
      length-set l.ds l.d v.read_division.result ∙ n,
    )

no-constraints-requires : tie.Need-no_constraints-rs-requires invariant-loop decreases-loop invariant-loop2 decreases-loop2
no-constraints-requires c κs = tt

loop2-holds : tie.Need-loop-b-init invariant-loop decreases-loop invariant-loop2 decreases-loop2
loop2-holds c =
    let e = c.before in let y = e.before in let m = y.before in let a = (start m).args in
    (settled a.s.now a.start m.loop-e.at (map division_of (take m.loop-e.d m.loop-e.ds)) [] m.loop-e.invariant.0 (sym y.division_at.ensures ∙ e.loop-e-test.false), refl, c.no_constraints-rs.ensures)

constraint-at-requires : tie.Need-constraint_at-requires invariant-loop decreases-loop invariant-loop2 decreases-loop2
constraint-at-requires c κs = tt

-- ---- a constraint
abbrev earlier : tie.At-loop-b invariant-loop decreases-loop invariant-loop2 decreases-loop2 → tie.At-loop-e invariant-loop decreases-loop invariant-loop2 decreases-loop2
earlier m = m.before.before.before.before

module _ (t : tie.In-loop-b invariant-loop decreases-loop invariant-loop2 decreases-loop2) where
  abbrev m2 : tie.At-loop-b invariant-loop decreases-loop invariant-loop2 decreases-loop2
  m2 = t.before.before

  abbrev s2 : List ℕ
  s2 = (start (earlier m2)).args.s.now

  abbrev E : List S.Division
  E = map division_of (take (earlier m2).loop-e.d (earlier m2).loop-e.ds)

  abbrev R : List S.Constraint
  R = map constraint_of (take m2.loop-b.r m2.loop-b.rs)

  code2 : is_constraint (get_or s2 m2.loop-b.at 0) ≡ true
  code2 = sym t.before.constraint_at.ensures ∙ t.loop-b-test.true

  here2 : ConstraintAt m2.loop-b.invariant.0.filling.n s2 m2.loop-b.at m2.loop-b.invariant.0.filling.k
  here2 = constraint-here s2 (start (earlier m2)).args.start m2.loop-b.at E R m2.loop-b.invariant.0.filling code2

  few2 : m2.loop-b.r < 48
  few2 = let f = here2.few in let d = m2.loop-b.invariant.0.filling.r in let e = m2.loop-b.invariant.1 in omega arith

code-requires : tie.Need-code-b-requires invariant-loop decreases-loop invariant-loop2 decreases-loop2
code-requires c κs = tt

rule-number-requires : tie.Need-rule_number-m-requires invariant-loop decreases-loop invariant-loop2 decreases-loop2
rule-number-requires c κs = ((here2 c.before).whole, code2 c.before)

body-requires-2 : tie.Need-body-t-requires-in-loop-b invariant-loop decreases-loop invariant-loop2 decreases-loop2
body-requires-2 c κs = (here2 c.before.before).whole

read-constraint-requires : tie.Need-read_constraint-requires invariant-loop decreases-loop invariant-loop2 decreases-loop2
read-constraint-requires c κs = subst (λ (t : List ℕ). constraint_body ≤ length t) (sym c.body-t-in-loop-b.ensures) (here2 c.before.before.before).body

mul-rs : tie.Need-offset_bounds-rs-r invariant-loop decreases-loop invariant-loop2 decreases-loop2
mul-rs c = let f = few2 c.before.before.before.before in omega arith

array-set-from-rs : tie.Need-bounds-rs-r invariant-loop decreases-loop invariant-loop2 decreases-loop2
array-set-from-rs c = let t = c.before.before.before.before in let f = few2 t in let l = (m2 t).loop-b.invariant.2 in omega arith

add_r : tie.Need-overflow_add-r invariant-loop decreases-loop invariant-loop2 decreases-loop2
add_r c = let f = few2 c.before.before.before.before in omega arith

next-requires-2 : tie.Need-next-at-requires-in-loop-b invariant-loop decreases-loop invariant-loop2 decreases-loop2
next-requires-2 c κs = (here2 c.before.before.before.before).whole

loop2-less : tie.Need-loop-b-smaller invariant-loop decreases-loop invariant-loop2 decreases-loop2
loop2-less c = let h = (here2 c.before.before.before.before.before).whole in let r = h.room in let w = h.known in omega (arith, c.next-at-in-loop-b.ensures)

loop2-again : tie.Need-loop-b-preserved invariant-loop decreases-loop invariant-loop2 decreases-loop2
loop2-again c =
    let v = c.before in let b = v.before in let u = b.before in let e = u.before in let t = e.before in let l = (m2 t).loop-b in let first = (start (earlier (m2 t))).args.start in
    let f = few2 t in let n = l.invariant.2 in let h : l.r < length l.rs = omega arith in
    let w = stored constraint_of l.rs l.r v.read_constraint.result (constraint_at (s2 t) l.at) h
    (v.read_constraint.ensures ∙ ap (λ (x : ℕ). numbered x (read_constraint (kind_of e.code-b.result) b.body-t-in-loop-b.result.now)) u.rule_number-m.ensures
    ∙ ap₂ (λ (b : ℕ) (y : List ℕ). numbered (head_at (s2 t) l.at) (read_constraint (kind_of b) y)) e.code-b.ensures b.body-t-in-loop-b.ensures) in (
      subst₂ (λ (p : ℕ) (X : List S.Constraint). Settled (s2 t) first p (E t) X) (sym c.next-at-in-loop-b.ensures) (sym w) (fill-constraint (s2 t) first l.at (E t) (R t) l.invariant.0 (code2 t)),
      ap (λ (j : ℕ). j + 1) l.invariant.1 ∙ sym (one_more (R t) (constraint_at (s2 t) l.at)) ∙ ap length (sym w),
      length-set l.rs l.r v.read_constraint.result ∙ n,
    )

returns : tie.Need-returns invariant-loop decreases-loop invariant-loop2 decreases-loop2
returns c =
    let y = c.before in let n = y.before in let m = earlier n in let a = (start m).args in
    decoded a.s.now a.start n.loop-b.at m.loop-e.ds n.loop-b.rs m.loop-e.d n.loop-b.r n.loop-b.invariant.0 m.loop-e.invariant.1 n.loop-b.invariant.1 m.loop-e.invariant.2 n.loop-b.invariant.2
    (sym y.constraint_at.ensures ∙ c.loop-b-test.false)

pub decode_basic_spec : {M : Type 1} → statement M
decode_basic_spec =
    tie.close
    (tie.spec
    invariant-loop
    decreases-loop
    invariant-loop2
    decreases-loop2
    no-divisions-requires
    loop-holds
    division-at-requires
    head-requires
    body-requires
    read-division-requires
    mul-ds
    array-set-from-ds
    add-d
    next-requires
    loop-less
    loop-again
    no-constraints-requires
    loop2-holds
    constraint-at-requires
    code-requires
    rule-number-requires
    body-requires-2
    read-constraint-requires
    mul-rs
    array-set-from-rs
    add_r
    next-requires-2
    loop2-less
    loop2-again
    returns)
