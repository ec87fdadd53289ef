use Rattle.std.proofs.Common.{rules, List, Bool, ◌≡◌, ◌∙◌, ◌&&◌, true, refl, sym, ap, take, drop, ℕ}
use borrow.Author.Tests.{ne_eqb, eq-eqb, lt-ltb, le-ltb, not-true, not-false}
use Rattle.model.specs.Lists.{all}
use Rattle.codec.specs.Bytes.{value_of, signed, signed_list, coefficient, division_constant}
use Rattle.codec.proofs.Parsing.{pos-ltb, both, divisor-zero, divisor-over, divisor-in, absent-of}
use Rattle.codec.proofs.checking.check_division.Goals.{then-d-eq0-via-then-d-eq0, then-d-eq0-via-else-d-eq0+then-d-gt-DIVISOR}
use Rattle.codec.proofs.checking.check_division.Goals as goal

pub returns-then-k-eq0 : goal.returns-then-k-eq0
returns-then-k-eq0 c = rw c.if-k-eq0.true

pub returns-then-k-ne0 : goal.returns-then-k-ne0
returns-then-k-ne0 c = simp (pos-ltb _ c.if-k-eq0.false, ne_eqb _ _ c.if-k-ne0.true)

pub returns-then-k-ge-DIVISIONS : goal.returns-then-k-ge-DIVISIONS
returns-then-k-ge-DIVISIONS c = simp (pos-ltb _ c.if-k-eq0.false, eq-eqb _ _ c.if-k-ne0.false, le-ltb _ 8 c.if-k-ge-DIVISIONS.true)

pub returns-then-d-eq0 : goal.returns-then-d-eq0
returns-then-d-eq0 c = elim c.then-d-eq0.branch [
  | then-d-eq0-via-then-d-eq0 w ↦ simp (pos-ltb _ c.if-k-eq0.false, eq-eqb _ _ c.if-k-ne0.false, lt-ltb _ 8 c.if-k-ge-DIVISIONS.false, divisor-zero _ c.args.d refl w.if-d-eq0.true)
  | then-d-eq0-via-else-d-eq0+then-d-gt-DIVISOR w ↦ simp (pos-ltb _ c.if-k-eq0.false, eq-eqb _ _ c.if-k-ne0.false, lt-ltb _ 8 c.if-k-ge-DIVISIONS.false, divisor-over _ c.args.d refl w.if-d-gt-DIVISOR.true)
]

-- the constant and the coefficients are in range
in_range : (t : List ℕ) (u : ℕ) (constant axes : Bool) → u ≡ value_of (take 4 t) → constant ≡ division_constant (signed 4 u) → constant ≡ true
    → axes ≡ all coefficient (signed_list 8 (drop 4 t)) → axes ≡ true
    → (division_constant (signed 4 (value_of (take 4 t))) && all coefficient (signed_list 8 (drop 4 t))) ≡ true
in_range t u constant axes e f g h i = both (ap (λ (x : ℕ). division_constant (signed 4 x)) (sym e) ∙ sym f ∙ g) (sym h ∙ i)

pub returns-then-not-zeros : goal.returns-then-not-zeros
returns-then-not-zeros c = simp (
  pos-ltb _ c.if-k-eq0.false,
  eq-eqb _ _ c.if-k-ne0.false,
  lt-ltb _ 8 c.if-k-ge-DIVISIONS.false,
  divisor-in _ c.args.d refl c.if-d-eq0.false c.if-d-gt-DIVISOR.false,
  in_range c.args.t.now _ _ _ c.u32_at.ensures.is c.constant_in.ensures (search rules) c.plain.ensures (search rules),
  absent-of c.args.n 4 c.args.t.now c.requires.1 ∙ sym c.zeros.ensures ∙ not-true _ c.if-not-zeros.true-raw,
)

pub returns : goal.returns
returns c = simp (
  pos-ltb _ c.if-k-eq0.false,
  eq-eqb _ _ c.if-k-ne0.false,
  lt-ltb _ 8 c.if-k-ge-DIVISIONS.false,
  divisor-in _ c.args.d refl c.if-d-eq0.false c.if-d-gt-DIVISOR.false,
  in_range c.args.t.now _ _ _ c.u32_at.ensures.is c.constant_in.ensures (search rules) c.plain.ensures (search rules),
  absent-of c.args.n 4 c.args.t.now c.requires.1 ∙ sym c.zeros.ensures ∙ not-false _ c.if-not-zeros.false-raw,
)
