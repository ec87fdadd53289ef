-- The candidates of a cut, and the test of the working constraints as it grows. Assumes nothing.
use mathlib.Core.Path.{◌≡◌, refl, sym, ap, ap₂, ◌∙◌, subst}
use mathlib.Core.Bool.{Bool, true, false, cond}
use mathlib.Core.List.{List, [], ◌∷◌, ◌++◌, map, append_assoc}
use Prim.Native.Nat.{ℕ, ◌+◌, ◌-◌, ◌*◌, ◌≤◌, ◌<◌}
use native.Mathlib.Numerals.{add-one}
use native.Mathlib.Omega.{arith}
use borrow.Author.Tests.{eq-eqb, ne_eqb}
use lib.Dec.{T}
use lib.IntN.{ℤ}
use lib.ListN.{length, take, get_or, set, length-map, length-append}
use lib.Seq.{length-take-le, get_or-take, get_or-append-add, take-suc, take_all, take-take, take-append_seam}
use Rattle.integers.specs.Mach.{clash}
use Rattle.model.specs.Sets.{Kind, equality, inequality, Constraint, BasicSet, bounds, conditions}
use Rattle.model.specs.Values.{kind_is, division_of, constraint_of, basic_set_of}
use Rattle.model.specs.declared.Constraint.{Constraint as StoredConstraint}
use Rattle.model.specs.declared.BasicSet.{BasicSet as Stored}
use Rattle.model.proofs.Lists.{map-take, map_get}
use Rattle.codec.specs.Bytes.{constant_fits}
use Rattle.codec.specs.Valid.{ValidConstraint}
use Rattle.simplex.specs.Table.{Valid as Counted}
use Rattle.feasibility.specs.Tableau.{Ending, wide, test_at}
use Rattle.feasibility.proofs.Sizes.{judgement-kept}
use Rattle.simplex.specs.declared.Verdict.{Verdict}
use Rattle.simplex.specs.declared.Verdict.TheVariants.{Point, Dropped, Long, Wide}
use Rattle.simplex.specs.Answers.{verdict_of}
use Rattle.carrying.specs.Carried.{is_wide}
use Rattle.sharing.specs.declared.history.Standing.{Standing}
use Rattle.sharing.specs.Working.{trace_of, Stands, Growing, Grown, Tried}
use Rattle.sharing.proofs.Firsts.{first-tests}
use Rattle.sharing.proofs.Begins.{bounds-long}
use Rattle.algebra.specs.Tighten.{void}
use Rattle.algebra.specs.Cut.{is_kept, keeps}
use Rattle.joining.specs.Joining.{Below, Above, Settled}
use Rattle.joining.proofs.Placing.{no_constraint, map-pushed}
use Rattle.candidates.specs.Candidates.{Tables, with_last, candidate, no_rule, Opposed, Holds, Behind, Caught, Followed, followed}

-- ---- a constraint put behind the first ones

pub put_is : (cs : List StoredConstraint) (cons at : ℕ) (r : StoredConstraint) → at ≤ cons → at < length cs
    → map constraint_of (take (at + 1) (set cs at r)) ≡ take at (map constraint_of (take cons cs)) ++ (constraint_of r ∷ [])
put_is cs cons at r h g =
    map-pushed constraint_of no_constraint cs at r g
    ∙ ap (λ (l : List Constraint). l ++ (constraint_of r ∷ [])) (ap (map constraint_of) (sym (take-take at cons cs h)) ∙ map-take constraint_of at (take cons cs))

pub below_of : {n k : ℕ} {r : Constraint} → ValidConstraint n k r → Below r
below_of v = record { axes = v.axes; divisions = v.divisions }

pub above_of : {n k : ℕ} {r : Constraint} → r.kind ≡ equality → ValidConstraint n k r → Above r
above_of {n} {k} {r} e v = record { constant = subst (λ (q : Kind). T (constant_fits q r.constant)) e v.constant }

pub tables-kept : {rows rows' : List (List ℤ)} {place place' kinds kinds' : List ℕ} → Tables rows place kinds → length rows' ≡ length rows → length place' ≡ length place → length kinds' ≡ length kinds → Tables rows' place' kinds'
tables-kept t p q r = record { high = p ∙ t.high; long = q ∙ t.long; wide = r ∙ t.wide }

-- ---- a candidate's test

candidate-conditions : (b : BasicSet) (o : Constraint) → conditions (candidate b o) ≡ conditions b ++ (o ∷ [])
candidate-conditions b o = sym (append_assoc (bounds 0 b.divisions) b.constraints (o ∷ []))

-- the shared test of a candidate is its test at 64 bits
tried-test : {k : ℕ} {o : StoredConstraint} {h : Standing} {rows : List (List ℤ)} {place kinds : List ℕ} {past : List (List ℤ)} {columns : List ℕ} {x : Verdict} → Tried k o h rows place kinds past columns x → h.rows < 64
    → (b : BasicSet) → Holds k b h rows place kinds past columns → verdict_of x ≡ test_at 64 (candidate b (constraint_of o))
tried-test {o = o} t less b g =
    let c : BasicSet = candidate b (constraint_of o) in
    let e = candidate-conditions b (constraint_of o) in
    let n : length (conditions c) ≡ length (conditions b) + 1 = ap length e ∙ length-append (conditions b) (constraint_of o ∷ []) in
    let s = g.stands.size in
    ap verdict_of (t.tried (conditions b) g.stands ∙ ap₂ (λ i l. (trace_of i l).verdict) (sym g.divs) (sym e))
    ∙ first-tests c (subst (λ i. i ≤ 8) (sym g.divs) g.stands.few) (omega arith)

-- what is not wide there is judged
judged : (c : BasicSet) (x : Verdict) → verdict_of x ≡ test_at 64 c → is_wide x ≡ false → is_kept (verdict_of x) ≡ keeps c
judged c x e n = ap is_kept (e ∙ sym (ap (λ (y : Ending). y.verdict) (judgement-kept c (λ w. plain x n (e ∙ w)))))
  where
    plain : (x : Verdict) → is_wide x ≡ false → verdict_of x ≡ wide → ⊥
    plain Point n q = let z : ◌≡◌ {A = ℕ} 0 1 = cc in omega arith
    plain Dropped n q = let z : ◌≡◌ {A = ℕ} 0 1 = cc in omega arith
    plain Long n q = let z : ◌≡◌ {A = ℕ} 0 1 = cc in omega arith
    plain Wide n q = clash refl n

-- a shared test that is not wide keeps what the test keeps
pub shared_keeps : {k : ℕ} {o : StoredConstraint} {h : Standing} {rows : List (List ℤ)} {place kinds : List ℕ} {past : List (List ℤ)} {columns : List ℕ} {x : Verdict} → Tried k o h rows place kinds past columns x → h.rows < 64
    → (b : BasicSet) → Holds k b h rows place kinds past columns → is_wide x ≡ false → is_kept (verdict_of x) ≡ keeps (candidate b (constraint_of o))
shared_keeps {o = o} {x = x} t less b g n = judged (candidate b (constraint_of o)) x (tried-test t less b g) n

-- a constraint put behind all of a basic set's makes a candidate
pub put_last : (w : Stored) → length w.constraints ≡ 48 → w.cons ≤ 48 → (o : Constraint) → with_last (basic_set_of w) w.cons o ≡ candidate (basic_set_of w) o
put_last w l h o =
    let z : length (basic_set_of w).constraints ≡ w.cons = length-map (take w.cons w.constraints) constraint_of ∙ length-take-le w.cons w.constraints (omega arith) in
    ap (λ (cs : List Constraint). record { divisions = (basic_set_of w).divisions; constraints = cs ++ (o ∷ []) }) (take_all w.cons (basic_set_of w).constraints (omega arith))

-- an opposite is an inequality
pub opposite-plain : (o : StoredConstraint) (r : Constraint) → constraint_of o ≡ r → r.kind ≡ inequality → o.equality ≡ false
opposite-plain o r e k = at o.equality (ap (λ (c : Constraint). c.kind) e ∙ k)
  where
    at : (b : Bool) → kind_is b ≡ inequality → b ≡ false
    at true q = let z : ◌≡◌ {A = ℕ} 0 1 = cc in absurd (omega arith)
    at false q = refl

pub opposed : (n k : ℕ) (r : StoredConstraint) → ((t : Bool) → t ≡ void (constraint_of r) → Settled (constraint_of r) t) → ValidConstraint n k (constraint_of r) → Opposed r
opposed n k r s v = record { below = below_of v; above = λ e. above_of e v; settled = s }

-- ---- the working constraints

module _ {w : Stored} (valid : Counted w) where
  hd : w.divs ≤ 8
  hd = valid.divs

  hc : w.cons ≤ 48
  hc = valid.cons

  lc : length w.constraints ≡ 48
  lc = valid.constraints

  divs-long : length (basic_set_of w).divisions ≡ w.divs
  divs-long = let h = hd in let l = valid.divisions in length-map (take w.divs w.divisions) division_of ∙ length-take-le w.divs w.divisions (omega arith)

  cons-long : length (basic_set_of w).constraints ≡ w.cons
  cons-long = let h = hc in let l = lc in length-map (take w.cons w.constraints) constraint_of ∙ length-take-le w.cons w.constraints (omega arith)

  pub bounds-are : length (bounds 0 (basic_set_of w).divisions) ≡ 2 * w.divs
  bounds-are = bounds-long 0 (basic_set_of w).divisions ∙ ap (λ i. 2 * i) divs-long

  conditions-long : length (conditions (basic_set_of w)) ≡ 2 * w.divs + w.cons
  conditions-long = length-append (bounds 0 (basic_set_of w).divisions) (basic_set_of w).constraints ∙ ap₂ ◌+◌ bounds-are cons-long

  condition-at : (i : ℕ) → i < w.cons → get_or (conditions (basic_set_of w)) (2 * w.divs + i) no_rule ≡ constraint_of (get_or w.constraints i no_constraint)
  condition-at i h =
      let few = hc in
      let long = lc in
      let l : i < length (take w.cons w.constraints) = omega (arith, length-take-le w.cons w.constraints (omega arith)) in
      ap (λ n. get_or (conditions (basic_set_of w)) (n + i) no_rule) (sym bounds-are)
      ∙ get_or-append-add (bounds 0 (basic_set_of w).divisions) (basic_set_of w).constraints i no_rule
      ∙ map_get constraint_of (take w.cons w.constraints) i no_constraint no_rule l
      ∙ ap constraint_of (get_or-take w.cons w.constraints i no_constraint h)

  pub behind-start : {x : Standing} {rows : List (List ℤ)} {place kinds : List ℕ} {past : List (List ℤ)} {columns : List ℕ} → Stands w.divs (bounds 0 (basic_set_of w).divisions) x rows place kinds past columns → Behind w x rows place kinds past columns
  behind-start {x} {rows} {place} {kinds} {past} {columns} g =
      let few = hc in
      let e : x.rows ≡ 2 * w.divs = g.size ∙ bounds-are in
      record {
        divs = hd;
        cons = hc;
        count = divs-long;
        size = conditions-long;
        from = omega arith;
        upto = omega arith;
        stands =
            subst (λ (l : List Constraint). Stands w.divs l x rows place kinds past columns)
            (sym (ap (λ n. take n (conditions (basic_set_of w))) g.size ∙ take-append_seam (bounds 0 (basic_set_of w).divisions) (basic_set_of w).constraints)) g;
      }

  module _ {x : Standing} {rows : List (List ℤ)} {place kinds : List ℕ} {past : List (List ℤ)} {columns : List ℕ} (g : Behind w x rows place kinds past columns) where
    module _ (h : x.rows < 2 * w.divs + w.cons) where
      pub behind-inside : x.rows - 2 * w.divs < w.cons
      behind-inside = let f = g.from in omega arith

      pub behind-growing : Growing w.divs x rows place kinds past columns
      behind-growing = let d = g.divs in let c = g.cons in record { cs = take x.rows (conditions (basic_set_of w)); stands = g.stands; less = omega arith }

      pub behind-grown : {x' : Standing} {rows' : List (List ℤ)} {place' kinds' : List ℕ} {past' : List (List ℤ)} {columns' : List ℕ}
          → Grown w.divs (get_or w.constraints (x.rows - 2 * w.divs) no_constraint) x rows place kinds past columns x' rows' place' kinds' past' columns' → Behind w x' rows' place' kinds' past' columns' × (x'.rows ≡ x.rows + 1)
      behind-grown {x'} {rows'} {place'} {kinds'} {past'} {columns'} d =
          let C : List Constraint = conditions (basic_set_of w) in
          let r : Constraint = constraint_of (get_or w.constraints (x.rows - 2 * w.divs) no_constraint) in
          let s = d.grown (take x.rows C) g.stands in
          let f = g.from in
          let z = g.size in
          let b : x.rows ≡ 2 * w.divs + (x.rows - 2 * w.divs) = omega arith in
          let l : x.rows < length C = omega arith in
          let c : get_or C x.rows no_rule ≡ r = ap (λ n. get_or C n no_rule) b ∙ condition-at (x.rows - 2 * w.divs) behind-inside in
          let t : take (x.rows + 1) C ≡ take x.rows C ++ (r ∷ []) = rw add-one (take-suc C x.rows no_rule l ∙ ap (λ (y : Constraint). take x.rows C ++ (y ∷ [])) c) in
          let n : x'.rows ≡ x.rows + 1 = s.size ∙ length-append (take x.rows C) (r ∷ []) ∙ ap (λ i. i + 1) (length-take-le x.rows C (omega arith)) in (
            record {
              divs = g.divs;
              cons = g.cons;
              count = g.count;
              size = g.size;
              from = omega arith;
              upto = omega arith;
              stands = subst (λ (m : List Constraint). Stands w.divs m x' rows' place' kinds' past' columns') (sym (ap (λ i. take i C) n ∙ t)) s;
            },
            n,
          )

pub behind-end : {w : Stored} {x : Standing} {rows : List (List ℤ)} {place kinds : List ℕ} {past : List (List ℤ)} {columns : List ℕ} → Behind w x rows place kinds past columns → 2 * w.divs + w.cons ≤ x.rows → Caught w x rows place kinds past columns
behind-end {w} {x} {rows} {place} {kinds} {past} {columns} g h =
    let z = g.size in
    record { count = g.count; size = g.size; stands = subst (λ (l : List Constraint). Stands w.divs l x rows place kinds past columns) (take_all x.rows (conditions (basic_set_of w)) (omega arith)) g.stands }

module _ {w : Stored} {x : Standing} {rows : List (List ℤ)} {place kinds : List ℕ} {past : List (List ℤ)} {columns : List ℕ} (g : Caught w x rows place kinds past columns) where
  pub caught-all : 2 * w.divs + w.cons ≤ x.rows
  caught-all = let z = g.size in let n = g.stands.size in omega arith

  pub caught-behind : w.divs ≤ 8 → w.cons ≤ 48 → Behind w x rows place kinds past columns
  caught-behind d c =
      let z = g.size in
      let n = g.stands.size in
      record {
        divs = d;
        cons = c;
        count = g.count;
        size = g.size;
        from = omega arith;
        upto = omega arith;
        stands = subst (λ (l : List Constraint). Stands w.divs l x rows place kinds past columns) (sym (take_all x.rows (conditions (basic_set_of w)) (omega arith))) g.stands;
      }

pub caught-holds : {w : Stored} {h : Standing} {rows : List (List ℤ)} {place kinds : List ℕ} {past : List (List ℤ)} {columns : List ℕ} → Caught w h rows place kinds past columns → Holds w.divs (basic_set_of w) h rows place kinds past columns
caught-holds g = record { divs = g.count; stands = g.stands }

pub caught-growing : {w : Stored} {h : Standing} {rows : List (List ℤ)} {place kinds : List ℕ} {past : List (List ℤ)} {columns : List ℕ} → Caught w h rows place kinds past columns → w.divs ≤ 8 → w.cons < 48 → Growing w.divs h rows place kinds past columns
caught-growing {w} g d c = let n = g.size in let z = g.stands.size in record { cs = conditions (basic_set_of w); stands = g.stands; less = omega arith }

-- ---- the test goes on, or stays

module _ {k : ℕ} {r : StoredConstraint} {p : Bool} {left : ℕ} {h : Standing} {rows : List (List ℤ)} {place kinds : List ℕ} {past : List (List ℤ)} {columns : List ℕ} where
  pub follow-none : p ≡ false → Followed k r p left h rows place kinds past columns h rows place kinds past columns
  follow-none e = record { stands = λ cs g. subst (λ (b : Bool). Stands k (followed b left r cs) h rows place kinds past columns) (sym e) g }

  pub follow-last : left ≡ 0 → Followed k r p left h rows place kinds past columns h rows place kinds past columns
  follow-last e = record { stands = λ cs g. subst (λ (l : List Constraint). Stands k l h rows place kinds past columns) (at p cs ∙ ap (λ (b : Bool). cond p (cond b cs (cs ++ (constraint_of r ∷ []))) cs) (sym (eq-eqb left 0 e))) g }
    where
      at : (b : Bool) (cs : List Constraint) → cs ≡ cond b cs cs
      at true cs = refl
      at false cs = refl

  pub follow-on : {h' : Standing} {rows' : List (List ℤ)} {place' kinds' : List ℕ} {past' : List (List ℤ)} {columns' : List ℕ} → p ≡ true → (left ≡ 0 → ⊥) → Grown k r h rows place kinds past columns h' rows' place' kinds' past' columns'
      → Followed k r p left h rows place kinds past columns h' rows' place' kinds' past' columns'
  follow-on {h'} {rows'} {place'} {kinds'} {past'} {columns'} e z d =
      record { stands = λ cs g. subst (λ (l : List Constraint). Stands k l h' rows' place' kinds' past' columns') (sym (ap₂ (λ (b q : Bool). cond b (cond q cs (cs ++ (constraint_of r ∷ []))) cs) e (ne_eqb left 0 z))) (d.grown cs g) }
