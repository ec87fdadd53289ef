use Rattle.std.proofs.Common.{◌≡◌, ◌∙◌, Bool, true, false, ◌&&◌, ap, sym}
use borrow.Author.Tests.{not-true, not-false}
use Rattle.model.specs.Values.{kind_is, constraint_of}
use Rattle.algebra.specs.Cut as C
use Rattle.algebra.specs.Tighten as T
use Rattle.algebra.proofs.Tightened.{tight-kind}
use Rattle.candidates.specs.Candidates.{candidate, is_equality}
use Rattle.candidates.proofs.Catching.{opposite-plain, shared_keeps}
use Rattle.candidates.proofs.survivors.kept.Goals as goal

-- the opposite below
pub candidate-tested-requires-clause-equality_value : goal.candidate-tested-requires-clause-equality_value
candidate-tested-requires-clause-equality_value c =
    let o = C.below (constraint_of c.args.r) in
    let l = c.opposite_below-lower in
    (opposite-plain l.result (T.tight o) l.ensures (tight-kind o), c.requires.opposed.1)

pub opposite_above-upper-requires : goal.opposite_above-upper-requires
opposite_above-upper-requires c =
    let p = c.requires.opposed.0 in
    let e = not-false _ c.if-not-r.false in (e, p.above (ap kind_is e), p.settled c.void-undivided.result c.void-undivided.ensures)

-- an inequality
pub returns-then-not-r : goal.returns-then-not-r
returns-then-not-r c =
    let eq : is_equality (constraint_of c.args.r).kind ≡ false = ap (λ (b : Bool). is_equality (kind_is b)) (not-true _ c.if-not-r.true) in
    let j = c.in_ok-below.ensures in
    record {
      is = λ b g. record {
        above = sym (ap (λ (a : Bool). a && C.keeps (candidate b (T.tight (C.above (constraint_of c.args.r))))) eq);
        below = j.0 ∙ shared_keeps c.candidate-tested.ensures c.requires.growing.less b g j.1 ∙ ap (λ o. C.keeps (candidate b o)) c.opposite_below-lower.ensures;
      };
    }

-- an equality
pub returns : goal.returns
returns c =
    let eq : is_equality (constraint_of c.args.r).kind ≡ true = ap (λ (b : Bool). is_equality (kind_is b)) (not-false _ c.if-not-r.false) in
    let j = c.in_ok-below.ensures in
    let i = c.in_ok-above.ensures in
    record {
      is = λ b g. record {
        above =
            i.0 ∙ shared_keeps c.candidate-tested-2.ensures c.requires.growing.less b g i.1 ∙ ap (λ o. C.keeps (candidate b o)) c.opposite_above-upper.ensures
            ∙ sym (ap (λ (a : Bool). a && C.keeps (candidate b (T.tight (C.above (constraint_of c.args.r))))) eq);
        below = j.0 ∙ shared_keeps c.candidate-tested.ensures c.requires.growing.less b g j.1 ∙ ap (λ o. C.keeps (candidate b o)) c.opposite_below-lower.ensures;
      };
    }
