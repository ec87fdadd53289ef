use Rattle.std.proofs.Common.{◌≡◌, ◌∙◌, Bool, true, false, ◌&&◌, ap, sym}
use borrow.Author.Tests.{not-true, not-false}
use Rattle.model.specs.Values.{kind_is, constraint_of, basic_set_of}
use Rattle.algebra.specs.Cut as C
use Rattle.algebra.specs.Tighten as T
use Rattle.candidates.specs.Candidates.{candidate, is_equality}
use Rattle.candidates.proofs.survivors.kept_alone.Goals as goal

-- an inequality
pub returns-then-not-r : goal.returns-then-not-r
returns-then-not-r c =
    let b = basic_set_of c.args.w in
    let eq : is_equality (constraint_of c.args.r).kind ≡ false = ap (λ (e : Bool). is_equality (kind_is e)) (not-true _ c.if-not-r.true) in
    record {
      above = sym (ap (λ (a : Bool). a && C.keeps (candidate b (T.tight (C.above (constraint_of c.args.r))))) eq);
      below = c.anew-below.ensures ∙ ap (λ o. C.keeps (candidate b o)) c.opposite_below.ensures;
    }

-- an equality
pub returns : goal.returns
returns c =
    let b = basic_set_of c.args.w in
    let eq : is_equality (constraint_of c.args.r).kind ≡ true = ap (λ (e : Bool). is_equality (kind_is e)) (not-false _ c.if-not-r.false) in
    record {
      above = c.anew-above.ensures ∙ ap (λ o. C.keeps (candidate b o)) c.opposite_above.ensures ∙ sym (ap (λ (a : Bool). a && C.keeps (candidate b (T.tight (C.above (constraint_of c.args.r))))) eq);
      below = c.anew-below.ensures ∙ ap (λ o. C.keeps (candidate b o)) c.opposite_below.ensures;
    }
