-- The first cut of a basic set: by what tightening makes of it, or nothing where one of its rules is void.
use mathlib.Core.Path.{◌≡◌, refl, sym, ap, ◌∙◌, subst}
use mathlib.Core.Bool.{Bool, true, false, cond}
use mathlib.Core.List.{List, [], ◌∷◌}
use Prim.Native.Nat.{ℕ, ◌≤◌}
use lib.ListN.{length}
use Rattle.model.specs.Lists.{any}
use Rattle.model.specs.Sets.{BasicSet, Set}
use Rattle.model.specs.Values.{basic_set_of}
use Rattle.model.specs.declared.BasicSet.{BasicSet as Stored}
use Rattle.codec.specs.Places.{set_from}
use Rattle.codec.specs.Valid.{Valid}
use Rattle.algebra.specs.Tighten.{divisible, tightened, solvable}
use Rattle.algebra.specs.Cut.{keeps, cut_all, cut_all_fits}
use Rattle.algebra.proofs.Tightened.{tight-solvable, tight-divisible}
use Rattle.algebra.proofs.Closed.{tightened-valid}
use Rattle.algebra.proofs.Levels.{void-cut, tightened-cut}
use Rattle.joining.specs.Joining.{Tightens}
use Rattle.std.specs.Prelude.{Some, None}
use Rattle.results.specs.declared.results.Done.{Done}
use Rattle.results.specs.Results.{Ready, Emits}
use Rattle.subtraction.specs.Subtraction.{Level}
use Rattle.results.proofs.Chained.{emits_none}
use Rattle.subtraction.proofs.Onward.{emits-as}

pub none-solvable : (w : Stored) → Tightens w None → solvable (basic_set_of w) ≡ []
none-solvable w e = ap (λ (b : Bool). cond b [] (tightened (basic_set_of w) ∷ [])) (sym e.void)

module _ (w t : Stored) (e : Tightens w (Some t)) where
  pub one-solvable : solvable (basic_set_of w) ≡ basic_set_of t ∷ []
  one-solvable = ap (λ (b : Bool). cond b [] (tightened (basic_set_of w) ∷ [])) (sym e.void) ∙ ap (λ (b : BasicSet). b ∷ []) (sym e.is)

  pub tight-over : (n : ℕ) → Valid n (basic_set_of w) → Valid n (basic_set_of t)
  tight-over n a = subst (Valid n) (sym e.is) (tightened-valid n (basic_set_of w) a)

  pub first-level : {left pos : ℕ} {b : List ℕ} → Level left w b pos → Level left t b pos
  first-level a = record { n = a.n; here = a.here; cutters = a.cutters; many = a.many; valid = tight-over a.n a.valid; divs = subst (λ (n : ℕ). n ≤ 8) (sym e.divs) a.divs; cons = subst (λ (n : ℕ). n ≤ 48) (sym e.cons) a.cons }

  pub divided-tight : any divisible (basic_set_of t).constraints ≡ false
  divided-tight = ap (λ (b : BasicSet). any divisible b.constraints) e.is ∙ tight-divisible (basic_set_of w).constraints

-- with no cutter left a set from a place on is empty
some-cutter : (P : Set → Type 0) → ((c : BasicSet) (cs : Set) → P (c ∷ cs)) → (l : Set) → (length l ≡ 0 → ⊥) → P l
some-cutter P f [] h = absurd (h refl)
some-cutter P f (c ∷ cs) h = f c cs

module _ {left : ℕ} {w : Stored} {b : List ℕ} (level : Level left w b 0) (some : left ≡ 0 → ⊥) where
  cutters : length (set_from b 0) ≡ 0 → ⊥
  cutters z = some (sym level.many ∙ z)

  pub divided-void : Tightens w None → (o : List ℕ) (s : Done) → Ready s → Emits (cut_all keeps (set_from b 0) (basic_set_of w)) (cut_all_fits keeps (set_from b 0) (basic_set_of w)) o s s o
  divided-void e o s r =
      some-cutter (λ (l : Set). Emits (cut_all keeps l (basic_set_of w)) (cut_all_fits keeps l (basic_set_of w)) o s s o)
      (λ c cs.
      let k = void-cut keeps c cs (basic_set_of w) (none-solvable w e) in
      emits-as k.0 k.1 (emits_none o s r))
      (set_from b 0) cutters

  pub divided-cut : {t : Stored} → Tightens w (Some t) → {o o' : List ℕ} {s r : Done} → Emits (cut_all keeps (set_from b 0) (basic_set_of t)) (cut_all_fits keeps (set_from b 0) (basic_set_of t)) o s r o'
      → Emits (cut_all keeps (set_from b 0) (basic_set_of w)) (cut_all_fits keeps (set_from b 0) (basic_set_of w)) o s r o'
  divided-cut {t} e {o} {o'} {s} {r} =
      some-cutter (λ (l : Set). Emits (cut_all keeps l (basic_set_of t)) (cut_all_fits keeps l (basic_set_of t)) o s r o' → Emits (cut_all keeps l (basic_set_of w)) (cut_all_fits keeps l (basic_set_of w)) o s r o')
      (λ c cs p.
      let k = tightened-cut keeps c cs (basic_set_of w) (basic_set_of t) (one-solvable w t e ∙ sym (tight-solvable (basic_set_of t) (divided-tight w t e))) in
      emits-as k.0 k.1 p)
      (set_from b 0) cutters
