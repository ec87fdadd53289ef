use borrow.Author.Tests.{lt-ltb, le-ltb, not-true, not-false}
use mathlib.Core.Path.{◌≡◌, sym, ap, ◌∙◌}
use mathlib.Core.Bool.{Bool, true, false, ◌&&◌}
use mathlib.Core.List.{List, [], ◌∷◌}
use Prim.Native.Nat.{ℕ}
use lib.Dec.{ltb}
use Rattle.model.specs.Lists.{all}
use Rattle.model.specs.Sets.{absent}
use Rattle.codec.specs.Bytes.{kind_of, signed, coefficient, constant_fits, constant_in, axes_in, divisions_in, is_misnumbered, read_rule, Counts, first_failing, refusal}
use Rattle.codec.specs.Checking.{counts_of}
use Rattle.codec.proofs.Parsing.{pos-ltb, both, first-no, second-no, absent-of, rule_tests, rule-tests}
use borrow.Author.Rules.{rules}
use Rattle.codec.proofs.checking.check_constraint.Statement.{statement}
use Rattle.codec.proofs.checking.check_constraint.Tie as tie

-- ---- the numbers that the tests look at, and the tests in their order
module _ (st : tie.Start) where
  abbrev k : Counts
  k = counts_of st.args.k

  abbrev t : List ℕ
  t = st.args.t.now

  abbrev constant : Bool
  constant = constant_fits (kind_of st.args.b) (constant_in t)

  abbrev axes : Bool
  axes = all coefficient (axes_in t)

  abbrev divisions : Bool
  divisions = all coefficient (divisions_in t)

  abbrev zero-axes : Bool
  zero-axes = absent st.args.n (axes_in t)

  abbrev zero-divisions : Bool
  zero-divisions = absent k.divisions (divisions_in t)

  tests : refusal st.args.n k (read_rule st.args.b st.args.m t) ≡ first_failing (rule_tests st.args.n k st.args.b st.args.m t)
  tests = rule-tests st.args.n k st.args.b st.args.m t

-- ---- what each test has shown, where the code goes on behind it
abbrev s1 : tie.After-struct_known-1 → tie.Start
s1 c = c.before.before.before

abbrev s2 : tie.After-struct_known-2-1 → tie.Start
s2 c = s1 c.before.before

abbrev s3 : tie.After-is_misnumbered → tie.Start
s3 c = s2 c.before.before

abbrev s4 : tie.After-constraint_constant_in → tie.Start
s4 c = s3 c.before.before.before

abbrev s5 : tie.After-plain → tie.Start
s5 c = s4 c.before.before

abbrev s6 : tie.After-plain-2 → tie.Start
s6 c = s5 c.before.before

abbrev s7 : tie.After-zeros → tie.Start
s7 c = s6 c.before.before

abbrev s8 : tie.After-zeros-2 → tie.Start
s8 c = s7 c.before.before

some : (c : tie.Else-k-eq0) → ltb 0 (k (s1 c.before)).basics ≡ true
some c = pos-ltb _ c.if-k-eq0.false

few : (c : tie.Else-k-ge-CONSTRAINTS) → ltb (k (s2 c.before)).constraints 48 ≡ true
few c = lt-ltb _ 48 c.if-k-ge-CONSTRAINTS.false

numbered : (c : tie.Else-is_misnumbered) → is_misnumbered (s3 c.before).args.b (s3 c.before).args.m ≡ false
numbered c = sym c.before.is_misnumbered.ensures ∙ c.if-is_misnumbered.false

constant-is : (c : tie.After-constraint_constant_in) → constant (s4 c) ≡ c.constraint_constant_in.result
constant-is c = ap (λ (x : ℕ). constant_fits (kind_of (s4 c).args.b) (signed 4 x)) (sym c.before.u32_at.ensures.0) ∙ sym c.constraint_constant_in.ensures

constant-in : (c : tie.Else-not-constraint_constant_in) → constant (s4 c.before) ≡ true
constant-in c = constant-is c.before ∙ not-false _ c.if-not-constraint_constant_in.false-raw

axes-in : (c : tie.Else-not-plain) → axes (s5 c.before) ≡ true
axes-in c = sym c.before.plain.ensures ∙ not-false _ c.if-not-plain.false-raw

divisions-in : (c : tie.Else-not-plain-2) → divisions (s6 c.before) ≡ true
divisions-in c = sym c.before.plain-2.ensures ∙ not-false _ c.if-not-plain-2.false-raw

numbers-in : (c : tie.Else-not-plain-2) → let st = s6 c.before in (constant st && (axes st && divisions st)) ≡ true
numbers-in c = let e5 = c.before.before in both (constant-in e5.before.before) (both (axes-in e5) (divisions-in c))

axes-zero : (c : tie.After-zeros) → zero-axes (s7 c) ≡ c.zeros.result
axes-zero c = let st = s7 c in absent-of st.args.n 4 (t st) st.requires.1 ∙ sym c.zeros.ensures

divisions-zero : (c : tie.After-zeros-2) → zero-divisions (s8 c) ≡ c.zeros-2.result
divisions-zero c = let st = s8 c in absent-of (k st).divisions 20 (t st) st.requires.2 ∙ sym c.zeros-2.ensures

-- ---- the answers
returns : tie.Need-returns-then-k-eq0
returns c = let none : ltb 0 (k (s1 c.before)).basics ≡ false = ap (ltb 0) c.if-k-eq0.true in simp (tests (s1 c.before), none)

returns-2 : tie.Need-returns-then-k-ge-CONSTRAINTS
returns-2 c = simp (tests (s2 c.before), some c.before.before, le-ltb _ 48 c.if-k-ge-CONSTRAINTS.true)

is-misnumbered-requires : tie.Need-is_misnumbered-requires
is-misnumbered-requires c κs = search rules

returns-3 : tie.Need-returns-then-is_misnumbered
returns-3 c =
    let y = c.before in let e2 = y.before in
    simp (some e2.before.before, few e2, sym y.is_misnumbered.ensures ∙ c.if-is_misnumbered.true)

u32-at-requires : tie.Need-u32_at-requires
u32-at-requires c κs = search rules

constraint-constant-in-requires : tie.Need-constraint_constant_in-requires
constraint-constant-in-requires c κs = search rules

-- past 4, 9 and 17
past : (c : tie.Else-is_misnumbered) → let st = s3 c.before in refusal st.args.n (k st) (read_rule st.args.b st.args.m (t st)) ≡ first_failing ((constant st && (axes st && divisions st), 7) ∷ (zero-axes st && zero-divisions st, 8) ∷ [])
past c = let y = c.before in let e2 = y.before in simp (some e2.before.before, few e2, numbered c)

returns-4 : tie.Need-returns-then-not-constraint_constant_in
returns-4 c =
    let y = c.before in let st = s4 y in
    simp (past y.before.before, first-no (axes st && divisions st) (constant-is y ∙ not-true _ c.if-not-constraint_constant_in.true-raw))

plain-requires : tie.Need-plain-requires
plain-requires c κs = search rules

returns-5 : tie.Need-returns-then-not-plain
returns-5 c =
    let y = c.before in let e4 = y.before in
    simp (past e4.before.before.before, second-no (constant-in e4) (first-no (divisions (s5 y)) (sym y.plain.ensures ∙ not-true _ c.if-not-plain.true-raw)))

plain-requires-2 : tie.Need-plain-requires-2
plain-requires-2 c κs = search rules

returns-6 : tie.Need-returns-then-not-plain-2
returns-6 c =
    let y = c.before in let e5 = y.before in let e4 = e5.before.before in
    simp (past e4.before.before.before, second-no (constant-in e4) (second-no (axes-in e5) (sym y.plain-2.ensures ∙ not-true _ c.if-not-plain-2.true-raw)))

zeros-requires : tie.Need-zeros-requires
zeros-requires c κs = search rules

-- past 7
abbrev else3 : tie.Else-not-plain-2 → tie.Else-is_misnumbered
else3 c = c.before.before.before.before.before.before.before

returns-7 : tie.Need-returns-then-not-zeros
returns-7 c =
    let y = c.before in let e6 = y.before in
    simp (past (else3 e6), numbers-in e6, first-no (zero-divisions (s7 y)) (axes-zero y ∙ not-true _ c.if-not-zeros.true-raw))

zeros-requires-2 : tie.Need-zeros-requires-2
zeros-requires-2 c κs = search rules

returns-8 : tie.Need-returns-then-not-zeros-2
returns-8 c =
    let y = c.before in let e7 = y.before in let e6 = e7.before.before in
    simp (past (else3 e6), numbers-in e6, second-no (axes-zero e7.before ∙ not-false _ e7.if-not-zeros.false-raw) (divisions-zero y ∙ not-true _ c.if-not-zeros-2.true-raw))

returns-9 : tie.Need-returns
returns-9 c =
    let y = c.before in let e7 = y.before in let e6 = e7.before.before in
    simp (past (else3 e6), numbers-in e6, both (axes-zero e7.before ∙ not-false _ e7.if-not-zeros.false-raw) (divisions-zero y ∙ not-false _ c.if-not-zeros-2.false-raw))

pub check_constraint_spec : {M : Type 1} → statement M
check_constraint_spec =
    tie.close
    (tie.spec
    returns
    returns-2
    is-misnumbered-requires
    returns-3
    u32-at-requires
    constraint-constant-in-requires
    returns-4
    plain-requires
    returns-5
    plain-requires-2
    returns-6
    zeros-requires
    returns-7
    zeros-requires-2
    returns-8
    returns-9)
