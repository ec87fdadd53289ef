-- The rules of a box, laid axis by axis.
use mathlib.Core.Path.{◌≡◌, refl, sym, ap, ap₂, ◌∙◌}
use mathlib.Core.Bool.{true}
use mathlib.Core.List.{List, [], ◌∷◌, ◌++◌, map, append_assoc, append-nil}
use Prim.Native.Nat.{ℕ, suc, ◌+◌, ◌*◌, ◌≤◌, ◌<◌}
use native.Mathlib.Numerals.{add-one}
use native.Mathlib.Omega.{arith}
use lib.IntN.{ℤ, pos, neg_ℤ, ◌-ℤ◌}
use lib.ListN.{length, take, drop, get_or, set, length-set, length-take, drop_of_length-le}
use lib.Seq.{drop-cons, get_or-take}
use mir.Syntax.{w32}
use mir.Val.{SFits, to_z, of_z}
use Rattle.integers.specs.Z.{Within}
use Rattle.integers.specs.Lin.{abs, lin, lia-fits, lia-eq}
use Rattle.integers.specs.Mach.{b-of, b-lit, b-op}
use Rattle.model.specs.Sets.{Constraint}
use Rattle.model.specs.Values.{constraint_of}
use Rattle.model.specs.declared.Constraint.{Constraint as StoredConstraint}
use Rattle.model.specs.declared.Division.{Division as StoredDivision}
use Rattle.joining.proofs.Placing.{map-pushed, no_constraint}
use Rattle.query.proofs.Points.{point-within}
use Rattle.enumeration.specs.Search.{box_fits}
use Rattle.search.proofs.Searching.{low_fits}
use Rattle.boxes.specs.Box.{low_rule, high_rule, box_rules}
use Rattle.coverage.specs.Boxing.{BoxIs}

-- the rules of the first i axes stand in front
pub record Laying (n : ℕ) (low high : List ℤ) (rules : List StoredConstraint) (i : ℕ) : Type 0 where
  pub most : i ≤ n
  pub room : length rules ≡ 48
  pub done : map constraint_of (take (2 * i) rules) ++ box_rules i (drop i (take n low)) (drop i (take n high)) ≡ box_rules 0 (take n low) (take n high)

module _ (n : ℕ) (low high : List ℤ) where
  pub laying-start : (rules : List StoredConstraint) → length rules ≡ 48 → Laying n low high rules 0
  laying-start rules e = record { most = omega arith; room = e; done = refl }

  module _ (few : n ≤ 8) (l : length low ≡ 8) (h : length high ≡ 8) where
    -- two rules more
    pub laying-next : {rules : List StoredConstraint} {i : ℕ} → Laying n low high rules i → i < n → (a b : StoredConstraint)
        → constraint_of a ≡ low_rule i (get_or low i (pos 0)) → constraint_of b ≡ high_rule i (get_or high i (pos 0)) → Laying n low high (set (set rules (2 * i) a) (2 * i + 1) b) (i + 1)
    laying-next {rules} {i} x k a b p q =
        let j : ℕ = 2 * i in
        let v : j < length rules = omega (arith, x.room) in
        let w : j + 1 < length (set rules j a) = omega (arith, x.room, length-set rules j a) in
        let rest : List Constraint = box_rules (suc i) (drop (suc i) (take n low)) (drop (suc i) (take n high)) in
        let done : List Constraint = map constraint_of (take j rules) in
        let two : 2 * (i + 1) ≡ j + 1 + 1 = omega arith in
        let stores : map constraint_of (take (2 * (i + 1)) (set (set rules j a) (j + 1) b)) ≡ (done ++ (constraint_of a ∷ [])) ++ (constraint_of b ∷ []) =
        ap (λ (m : ℕ). map constraint_of (take m (set (set rules j a) (j + 1) b))) two
        ∙ map-pushed constraint_of no_constraint (set rules j a) (j + 1) b w
        ∙ ap (λ (y : List Constraint). y ++ (constraint_of b ∷ [])) (map-pushed constraint_of no_constraint rules j a v) in
        let ahead : box_rules i (drop i (take n low)) (drop i (take n high)) ≡ constraint_of a ∷ constraint_of b ∷ rest =
        ap₂ (box_rules i) (one low l) (one high h) ∙ ap₂ (λ (y z : Constraint). y ∷ z ∷ rest) (sym p) (sym q) in
        record {
          most = omega arith;
          room = length-set (set rules j a) (j + 1) b ∙ length-set rules j a ∙ x.room;
          done =
              ap₂ ◌++◌ stores (ap (λ (m : ℕ). box_rules m (drop m (take n low)) (drop m (take n high))) (add-one i))
              ∙ append_assoc (done ++ (constraint_of a ∷ [])) (constraint_of b ∷ []) rest
              ∙ append_assoc done (constraint_of a ∷ []) (constraint_of b ∷ rest)
              ∙ ap (λ (y : List Constraint). done ++ y) (sym ahead)
              ∙ x.done;
        }
      where
        one : (u : List ℤ) → length u ≡ 8 → drop i (take n u) ≡ get_or u i (pos 0) ∷ drop (suc i) (take n u)
        one u e =
            drop-cons (take n u) i (pos 0) (omega (arith, e, length-take n u))
            ∙ ap (λ (z : ℤ). z ∷ drop (suc i) (take n u)) (get_or-take n u i (pos 0) k)

    pub laying-end : {rules : List StoredConstraint} {i : ℕ} → Laying n low high rules i → n ≤ i → (ds : List StoredDivision)
        → BoxIs n low high (record { divisions = ds; constraints = rules; divs = 0; cons = 2 * n })
    laying-end {rules} {i} x k ds =
        let e : i ≡ n = omega (arith, x.most) in
        let none : drop i (take n low) ≡ [] = drop_of_length-le (take n low) {i = i} (omega (arith, length-take n low)) in
        record {
          is =
              ap (λ (r : List Constraint). record { divisions = []; constraints = r })
              (ap (λ (m : ℕ). map constraint_of (take (2 * m) rules)) (sym e)
              ∙ sym (append-nil (map constraint_of (take (2 * i) rules)))
              ∙ ap (λ (u : List ℤ). map constraint_of (take (2 * i) rules) ++ box_rules i u (drop i (take n high))) (sym none)
              ∙ x.done);
          divs = omega arith;
          cons = omega arith;
        }

-- ---- the constant of a low's rule
pub low-within : (n : ℕ) (low high : List ℤ) → box_fits n low high ≡ true → (i : ℕ) → Within 1048576 (get_or low i (pos 0))
low-within n low high e i = (point-within n low (low_fits n low high e)).at i

module _ (l : ℤ) (f : SFits w32 l) (w : Within 1048576 l) where
  opposite : SFits w32 (pos 0 -ℤ l)
  opposite = lia-fits (l ∷ []) (abs w ∷ []) (search lin depth 30) (omega arith)

  pub opposite-is : to_z w32 (of_z w32 (pos 0 -ℤ to_z w32 (of_z w32 l))) ≡ neg_ℤ l
  opposite-is = (b-op (b-lit w32 0 refl) (b-of f) ◌-ℤ◌ opposite).is ∙ lia-eq (l ∷ []) [] (search lin depth 30) (omega arith)
