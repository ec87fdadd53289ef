-- The turns of a cut as it stores them, and the test of the working constraints after each.
use mathlib.Core.Path.{◌≡◌, refl, sym, ap, ap₂, ◌∙◌, subst}
use mathlib.Core.Bool.{Bool, true, false, ◌||◌, cond}
use mathlib.Core.List.{List, [], ◌∷◌, ◌++◌, map, append_assoc}
use Prim.Native.Nat.{ℕ, ◌+◌, ◌*◌, ◌≤◌, ◌<◌}
use native.Mathlib.Omega.{arith}
use borrow.Author.Tests.{ne_eqb}
use lib.Dec.{eqb}
use lib.IntN.{ℤ}
use lib.ListN.{length, take, set, length-append}
use lib.Seq.{take_all, take-append_seam}
use Rattle.integers.specs.Mach.{clash}
use Rattle.model.specs.Sets.{Division, Constraint, bounds, conditions}
use Rattle.model.specs.Values.{constraint_of, basic_set_of}
use Rattle.model.specs.declared.Constraint.{Constraint as StoredConstraint}
use Rattle.model.specs.declared.BasicSet.{BasicSet as Stored}
use Rattle.sharing.specs.declared.history.Standing.{Standing}
use Rattle.sharing.specs.Working.{Stands}
use Rattle.candidates.specs.declared.survivors.Survivors.{Survivors}
use Rattle.candidates.specs.Candidates.{Behind, Caught, Followed, followed, Keeping}
use Rattle.cutting.specs.declared.pieces.CutSteps.{CutSteps}
use Rattle.std.specs.Prelude.{Some}
use Rattle.joining.specs.declared.divisions.Joined.{Joined}
use Rattle.joining.specs.Joining.{Joining}
use Rattle.cutting.specs.Cutting.{Marked, Pair}
use Rattle.cutting.proofs.Steps.{bit-small, joined-stored}
use Rattle.cutting.proofs.Turns.{Turned, Opened}

-- ---- one constraint of the cutter, as the cut stores it

abbrev pub stepped : Stored → List ℕ → ℕ → CutSteps
stepped w steps count = record { working = w; steps = steps; count = count }

abbrev pub lengthened : Stored → StoredConstraint → ℕ → Stored
lengthened w r n = record { divisions = w.divisions; constraints = set w.constraints w.cons r; divs = w.divs; cons = w.cons + n }

pub turned : {w : Stored} {steps : List ℕ} {count : ℕ} {r : StoredConstraint} {k : Survivors} {m : ℕ} {steps' : List ℕ} → w.cons < length w.constraints → Keeping (basic_set_of w) (constraint_of r) k → Marked count w.cons k steps m steps'
    → (p : Bool) → p ≡ (k.above || k.below) → (n : ℕ) → n ≡ cond p 1 0 → Turned (stepped w steps count) r k (stepped (lengthened w r n) steps' m)
turned {w} {steps} {count} {r} {k} h g m p e n i =
    let j : n ≡ cond (k.above || k.below) 1 0 = i ∙ ap (λ (b : Bool). cond b 1 0) e in
    record {
      keeping = g;
      steps = m.steps_are;
      divisions = refl;
      constraints = ap (λ (o : ℕ). map constraint_of (take (w.cons + o) (set w.constraints w.cons r))) j ∙ joined-stored w.constraints w.cons r (k.above || k.below) h;
      divs = refl;
      cons = ap (λ (o : ℕ). w.cons + o) j;
      count = m.count;
    }

-- ---- the start of a cut

abbrev pub opening : Stored → Joined → Stored
opening a j = record { divisions = j.divisions; constraints = a.constraints; divs = j.divs; cons = a.cons }

pub opened : {a c : Stored} {j : Joined} {steps : List ℕ} → Pair a c → Joining (basic_set_of a).divisions (basic_set_of c).divisions c.divs (Some j) → length a.constraints ≡ 48 → length c.constraints ≡ 48
    → Opened a c j (stepped (opening a j) steps 0)
opened p j l m = record { pair = p; join = j; first = l; second = m; begun = record { divisions = refl; constraints = refl; divs = refl; cons = refl; count = refl } }

-- ---- once a constraint has joined, or has not

module _ {s : CutSteps} {r : StoredConstraint} {v : Survivors} {x : CutSteps} (t : Turned s r v x) {h : Standing} {rows : List (List ℤ)} {place kinds : List ℕ} {past : List (List ℤ)} {columns : List ℕ}
    (g : Caught s.working h rows place kinds past columns) (hd : s.working.divs ≤ 8) (hc : s.working.cons < 48) where
  abbrev b : Bool
  b = v.above || v.below

  abbrev C : List Constraint
  C = conditions (basic_set_of s.working)

  conditions-now : conditions (basic_set_of x.working) ≡ cond b (C ++ (constraint_of r ∷ [])) C
  conditions-now = ap₂ (λ (ds : List Division) (cs : List Constraint). bounds 0 ds ++ cs) t.divisions t.constraints ∙ at b
    where
      B : List Constraint
      B = bounds 0 (basic_set_of s.working).divisions

      W : List Constraint
      W = (basic_set_of s.working).constraints

      at : (p : Bool) → B ++ cond p (W ++ (constraint_of r ∷ [])) W ≡ cond p ((B ++ W) ++ (constraint_of r ∷ [])) (B ++ W)
      at true = sym (append_assoc B W (constraint_of r ∷ []))
      at false = refl

  longer : length (conditions (basic_set_of x.working)) ≡ length C + cond b 1 0
  longer = ap length conditions-now ∙ at b
    where
      at : (p : Bool) → length (cond p (C ++ (constraint_of r ∷ [])) C) ≡ length C + cond p 1 0
      at true = length-append C (constraint_of r ∷ [])
      at false = let z : length C ≡ length C + 0 = omega arith in z

  -- the test goes on with the constraint where more are to come
  module _ (p : Bool) (same : p ≡ b) (left : ℕ) {h' : Standing} {rows' : List (List ℤ)} {place' kinds' : List ℕ} {past' : List (List ℤ)} {columns' : List ℕ}
      (f : Followed s.working.divs r p left h rows place kinds past columns h' rows' place' kinds' past' columns') where
    abbrev D : List Constraint
    D = followed p left r C

    stands-now : Stands x.working.divs D h' rows' place' kinds' past' columns'
    stands-now = subst (λ k. Stands k D h' rows' place' kinds' past' columns') (sym t.divs) (f.stands C g.stands)

    first-now : take (length D) (conditions (basic_set_of x.working)) ≡ D
    first-now = ap (take (length D)) (conditions-now ∙ ap (λ q. cond q (C ++ (constraint_of r ∷ [])) C) (sym same)) ∙ at p (eqb left 0)
      where
        at : (p e : Bool) → take (length (cond p (cond e C (C ++ (constraint_of r ∷ []))) C)) (cond p (C ++ (constraint_of r ∷ [])) C) ≡ cond p (cond e C (C ++ (constraint_of r ∷ []))) C
        at true true = take-append_seam C (constraint_of r ∷ [])
        at true false = take_all (length (C ++ (constraint_of r ∷ []))) (C ++ (constraint_of r ∷ [])) (omega arith)
        at false e = take_all (length C) C (omega arith)

    sizes : (length C ≤ length D) × (length D ≤ length C + cond p 1 0) × (0 < left → length C + cond p 1 0 ≤ length D)
    sizes = at p (eqb left 0) (λ l. ne_eqb left 0 (λ z. omega arith))
      where
        at : (p e : Bool) → (0 < left → e ≡ false)
            → (length C ≤ length (cond p (cond e C (C ++ (constraint_of r ∷ []))) C)) × (length (cond p (cond e C (C ++ (constraint_of r ∷ []))) C) ≤ length C + cond p 1 0)
            × (0 < left → length C + cond p 1 0 ≤ length (cond p (cond e C (C ++ (constraint_of r ∷ []))) C))
        at true true k = (omega arith, omega arith, λ l. clash refl (k l))
        at true false k = let z = length-append C (constraint_of r ∷ []) in (omega arith, omega arith, λ l. omega arith)
        at false e k = (omega arith, omega arith, λ l. omega arith)

    pub behind-followed : Behind x.working h' rows' place' kinds' past' columns' × (0 < left → 2 * x.working.divs + x.working.cons ≤ h'.rows)
    behind-followed =
        let d = t.divs in
        let c = t.cons in
        let e = bit-small b in
        let l = longer in
        let z = g.stands.size in
        let n = g.size in
        let o : h'.rows ≡ length D = stands-now.size in
        let q : ◌≡◌ {A = ℕ} (cond p 1 0) (cond b 1 0) = ap (λ (y : Bool). cond y 1 0) same in
        let u = sizes.0 in
        let k = sizes.1 in (
          record {
            divs = omega arith;
            cons = omega arith;
            count = ap length t.divisions ∙ g.count ∙ sym t.divs;
            size = omega arith;
            from = omega arith;
            upto = omega arith;
            stands = subst (λ (m : List Constraint). Stands x.working.divs m h' rows' place' kinds' past' columns') (sym (ap (λ i. take i (conditions (basic_set_of x.working))) o ∙ first-now)) stands-now;
          },
          λ y. let w = sizes.2 y in omega arith,
        )
