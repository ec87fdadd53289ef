use Rattle.std.proofs.Common.{◌≡◌, ◌∙◌, sym, ap, ap₂, subst, ℕ, ◌/◌, ◌%◌, ◌<◌, Bool, cond, List, map, length, get_or, take, eq-eqb, ne_eqb, rules, arith}
use Rattle.std.proofs.Math.ListN.{length-map, get_or-map}
use Rattle.std.proofs.Math.Seq.{length-take-le, get_or-take}
use Rattle.model.specs.Sets as S
use Rattle.model.specs.Values.{constraint_of, basic_set_of}
use Rattle.model.specs.declared.BasicSet.{BasicSet as Stored}
use Rattle.codec.specs.Valid.{ValidConstraint}
use Rattle.algebra.specs.Cut as C
use Rattle.algebra.specs.Tighten as T
use Rattle.joining.proofs.Placing.{no_constraint, All-at}
use Rattle.candidates.specs.Candidates.{no_rule, with_last}
use Rattle.candidates.proofs.Catching.{below_of, above_of}
use Rattle.cutting.specs.Cutting.{Piece}
use Rattle.cutting.proofs.pieces.piece.Goals as goal

-- the working constraint of a step, as it is read
module _ (w : Stored) (v : ℕ) (p : Piece w v) (l : length w.constraints ≡ 48) where
  inside : v / 2 < w.cons
  inside =
      let f = p.sound.cons in
      let n : length (take w.cons w.constraints) ≡ w.cons = length-take-le w.cons w.constraints (omega arith) in
      omega (arith, p.step.inside, length-map (take w.cons w.constraints) constraint_of)

  read_is : get_or (basic_set_of w).constraints (v / 2) no_rule ≡ constraint_of (get_or w.constraints (v / 2) no_constraint)
  read_is = get_or-map constraint_of (take w.cons w.constraints) (v / 2) no_constraint ∙ ap constraint_of (get_or-take w.cons w.constraints (v / 2) no_constraint inside)

  valid_read : ValidConstraint p.sound.n (length (basic_set_of w).divisions) (constraint_of (get_or w.constraints (v / 2) no_constraint))
  valid_read =
      let V = ValidConstraint p.sound.n (length (basic_set_of w).divisions) in
      subst V read_is (All-at V (basic_set_of w).constraints (v / 2) no_rule p.step.inside p.sound.valid.constraints)

pub returns-then-v-eq1 : goal.returns-then-v-eq1
returns-then-v-eq1 c =
    let w = c.args.w in
    let v = c.args.v in
    let l : length w.constraints ≡ 48 = search rules in
    let o : T.tight (C.above (get_or (basic_set_of w).constraints (v / 2) no_rule)) ≡ constraint_of c.tight_above.result = ap (λ (x : S.Constraint). T.tight (C.above x)) (read_is w v c.requires l) ∙ sym c.tight_above.ensures in
    record {
      is = c.put.ensures.is ∙ sym (ap₂ (λ (b : Bool) (x : S.Constraint). with_last (basic_set_of w) (v / 2) (cond b x (T.tight (C.below (get_or (basic_set_of w).constraints (v / 2) no_rule))))) (eq-eqb (v % 2) 1 c.if-v-eq1.true) o);
      divs = c.put.ensures.divs;
      cons = let y = c.put.ensures.cons in let h = inside w v c.requires l in let f = c.requires.sound.cons in omega (arith, y, h, f);
    }

pub tight_below-requires : goal.tight_below-requires
tight_below-requires c =
    let l : length c.args.w.constraints ≡ 48 = search rules in
    below_of (valid_read c.args.w c.args.v c.requires l)

pub returns : goal.returns
returns c =
    let w = c.args.w in
    let v = c.args.v in
    let l : length w.constraints ≡ 48 = search rules in
    let o : T.tight (C.below (get_or (basic_set_of w).constraints (v / 2) no_rule)) ≡ constraint_of c.tight_below.result = ap (λ (x : S.Constraint). T.tight (C.below x)) (read_is w v c.requires l) ∙ sym c.tight_below.ensures in
    record {
      is = c.put-2.ensures.is ∙ sym (ap₂ (λ (b : Bool) (x : S.Constraint). with_last (basic_set_of w) (v / 2) (cond b (T.tight (C.above (get_or (basic_set_of w).constraints (v / 2) no_rule))) x)) (ne_eqb (v % 2) 1 c.if-v-eq1.false) o);
      divs = c.put-2.ensures.divs;
      cons = let y = c.put-2.ensures.cons in let h = inside w v c.requires l in let f = c.requires.sound.cons in omega (arith, y, h, f);
    }
