-- The intersection: two basic sets in one, and the whole as one pair after the other.
use mathlib.Core.Path.{◌≡◌, refl, sym, ap, ap₂, ◌∙◌, subst}
use mathlib.Core.Bool.{Bool, true, false, ◌&&◌}
use mathlib.Core.List.{List, [], ◌∷◌, ◌++◌, append-nil}
use Prim.Native.Nat.{ℕ, ◌+◌, ◌≤◌}
use lib.Dec.{leb, leb→le}
use lib.ListN.{length}
use Rattle.model.specs.Lists.{all, any, concat_map, filter, cons_if}
use Rattle.model.specs.Sets.{BasicSet, Set}
use Rattle.model.specs.Values.{basic_set_of}
use Rattle.model.specs.declared.BasicSet.{BasicSet as Stored}
use Rattle.model.proofs.Count.{and_left, and_right, and-true, to-T}
use Rattle.codec.specs.Valid.{Valid}
use Rattle.algebra.specs.Cut.{keeps, both, join_fits, joined_divisions, both_fits, intersection, intersection_fits}
use Rattle.algebra.proofs.Closed.{both-valid}
use Rattle.algebra.proofs.Levels.{concat-concat, all-concat-is}
use Rattle.algebra.specs.Tighten.{divisible, solvable}
use Rattle.algebra.proofs.Tightened.{tight-solvable}
use Rattle.joining.specs.Joining.{Tightens}
use Rattle.std.specs.Prelude.{Some, None}
use Rattle.records.specs.Sound.{Sound}
use Rattle.cutting.specs.Cutting.{Pair, BothIs}
use Rattle.results.specs.declared.results.Done.{Done}
use Rattle.results.specs.Results.{Ready, Emits, Made}
use Rattle.operations.specs.Operations.{tested, admitted, meeting, meetings, meetings_fit, first_meetings, first_meetings_fit}
use Rattle.results.proofs.Chained.{emits_none, made_of}
use Rattle.subtraction.proofs.Along.{nothing}
use Rattle.subtraction.proofs.Firsts.{none-solvable, one-solvable, tight-over}

-- ---- a pair

pub record SoundOver (p : Stored) (n : ℕ) : Type 0 where
  pub valid : Valid n (basic_set_of p)
  pub divs : p.divs ≤ 8
  pub cons : p.cons ≤ 48

module _ {p v : Stored} (a : Pair p v) {c : Stored} (i : BothIs p v (Some c)) where
  fits : both_fits keeps (basic_set_of p) (basic_set_of v) ≡ true
  fits = sym i.fits

  pub meet-sound : Sound c
  meet-sound =
      let t = to-T (both_fits keeps (basic_set_of p) (basic_set_of v)) fits in
      let n = length (basic_set_of p).constraints + length (basic_set_of v).constraints in
      let few = leb→le (length (joined_divisions (basic_set_of p) (basic_set_of v))) 8 (and_left (join_fits keeps (basic_set_of p) (basic_set_of v)) (leb n 48) t) in
      record {
        n = a.n;
        valid = subst (Valid a.n) (sym i.is) (both-valid a.n (basic_set_of p) (basic_set_of v) a.first a.second few (leb→le n 48 (and_right (join_fits keeps (basic_set_of p) (basic_set_of v)) (leb n 48) t)));
        divs = i.divs;
        cons = i.cons;
      }

  -- what is admitted of the two in one
  pub meet-admitted : {o o' : List ℕ} {s r : Done} → Emits (admitted (basic_set_of c)) true o s r o' → Emits (meeting (basic_set_of p) (basic_set_of v)) (both_fits keeps (basic_set_of p) (basic_set_of v)) o s r o'
  meet-admitted {o} {o'} {s} {r} q = subst (λ (b : BasicSet). Emits (admitted b) (both_fits keeps (basic_set_of p) (basic_set_of v)) o s r o') i.is (subst (λ (f : Bool). Emits (admitted (basic_set_of c)) f o s r o') (sym fits) q)

-- ---- where the test keeps it

module _ (m : Stored) (k : Bool) (q : k ≡ keeps (basic_set_of m)) (o : List ℕ) (s : Done) where
  tested-is : (b : Bool) → k ≡ b → tested (basic_set_of m) ≡ cons_if b (basic_set_of m) []
  tested-is b z = ap (λ (x : Bool). cons_if x (basic_set_of m) []) (sym q ∙ z)

  pub tested-kept : k ≡ true → {r : Done} {o' : List ℕ} → Emits (basic_set_of m ∷ []) true o s r o' → Emits (tested (basic_set_of m)) true o s r o'
  tested-kept z {r} {o'} p = subst (λ (l : Set). Emits l true o s r o') (sym (tested-is true z)) p

  pub tested-dropped : k ≡ false → Ready s → Emits (tested (basic_set_of m)) true o s s o
  tested-dropped z y = subst (λ (l : Set). Emits l true o s s o) (sym (tested-is false z)) (emits_none o s y)

-- ---- tightened

-- a candidate that is tight as it is
pub admit-plain : (w : Stored) → any divisible (basic_set_of w).constraints ≡ false → {o o' : List ℕ} {s r : Done} → Emits (tested (basic_set_of w)) true o s r o' → Emits (admitted (basic_set_of w)) true o s r o'
admit-plain w e {o} {o'} {s} {r} p = subst (λ (l : Set). Emits (filter keeps l) true o s r o') (sym (tight-solvable (basic_set_of w) e)) p

first-as : (l : Set) (b p : BasicSet) → solvable b ≡ p ∷ [] → {o o' : List ℕ} {s r : Done} → Emits (meetings l p) (meetings_fit l p) o s r o' → Emits (first_meetings l b) (first_meetings_fit l b) o s r o'
first-as l b p u {o} {o'} {s} {r} e =
    subst (λ (m : Set). Emits (concat_map (meetings l) m) (all (meetings_fit l) m) o s r o') (sym u)
    (subst (λ (x : Set). Emits x (meetings_fit l p && true) o s r o') (sym (append-nil (meetings l p))) (subst (λ (x : Bool). Emits (meetings l p) x o s r o') (sym (and-true (meetings_fit l p))) e))

pub first_plain : (l : Set) (w : Stored) → any divisible (basic_set_of w).constraints ≡ false → {o o' : List ℕ} {s r : Done} → Emits (meetings l (basic_set_of w)) (meetings_fit l (basic_set_of w)) o s r o' → Emits (first_meetings l (basic_set_of w)) (first_meetings_fit l (basic_set_of w)) o s r o'
first_plain l w e = first-as l (basic_set_of w) (basic_set_of w) (tight-solvable (basic_set_of w) e)

module _ {w : Stored} (e : Tightens w None) (o : List ℕ) (s : Done) (y : Ready s) where
  pub admit-void : Emits (admitted (basic_set_of w)) true o s s o
  admit-void = subst (λ (l : Set). Emits (filter keeps l) true o s s o) (sym (none-solvable w e)) (emits_none o s y)

  -- a basic set of the first
  pub first-void : (l : Set) → Emits (first_meetings l (basic_set_of w)) (first_meetings_fit l (basic_set_of w)) o s s o
  first-void l = subst (λ (m : Set). Emits (concat_map (meetings l) m) (all (meetings_fit l) m) o s s o) (sym (none-solvable w e)) (emits_none o s y)

module _ {w t : Stored} (e : Tightens w (Some t)) where
  pub admit-sound : Sound w → Sound t
  admit-sound a = record { n = a.n; valid = tight-over w t e a.n a.valid; divs = subst (λ (n : ℕ). n ≤ 8) (sym e.divs) a.divs; cons = subst (λ (n : ℕ). n ≤ 48) (sym e.cons) a.cons }

  module _ (o : List ℕ) (s : Done) where
    pub admit-tested : {r : Done} {o' : List ℕ} → Emits (tested (basic_set_of t)) true o s r o' → Emits (admitted (basic_set_of w)) true o s r o'
    admit-tested {r} {o'} p = subst (λ (l : Set). Emits (filter keeps l) true o s r o') (sym (one-solvable w t e)) p

    pub first-emits : (l : Set) → {r : Done} {o' : List ℕ} → Emits (meetings l (basic_set_of t)) (meetings_fit l (basic_set_of t)) o s r o' → Emits (first_meetings l (basic_set_of w)) (first_meetings_fit l (basic_set_of w)) o s r o'
    first-emits l = first-as l (basic_set_of w) (basic_set_of t) (one-solvable w t e)

-- ---- all of them

module _ (k : BasicSet → Bool) where
  filter-both : (l m : Set) → filter k (l ++ m) ≡ filter k l ++ filter k m
  filter-both [] m = refl
  filter-both (b ∷ l) m = ap (cons_if (k b) b) (filter-both l m) ∙ more (k b)
    where
      more : (x : Bool) → cons_if x b (filter k l ++ filter k m) ≡ cons_if x b (filter k l) ++ filter k m
      more true = refl
      more false = refl

  filter-each : (g : BasicSet → Set) (t : Set) → filter k (concat_map g t) ≡ concat_map (λ (v : BasicSet). filter k (g v)) t
  filter-each g [] = refl
  filter-each g (v ∷ t) = filter-both (g v) (concat_map g t) ∙ ap (λ (l : Set). filter k (g v) ++ l) (filter-each g t)

meetings-each : (s t : Set) → filter keeps (concat_map (λ (a : BasicSet). concat_map (λ (b : BasicSet). solvable (both a b)) t) s) ≡ concat_map (meetings t) s
meetings-each [] t = refl
meetings-each (a ∷ s) t =
    filter-both keeps (concat_map (λ (b : BasicSet). solvable (both a b)) t) (concat_map (λ (a : BasicSet). concat_map (λ (b : BasicSet). solvable (both a b)) t) s)
    ∙ ap₂ (λ (l m : Set). l ++ m) (filter-each keeps (λ (b : BasicSet). solvable (both a b)) t) (meetings-each s t)

intersection-is : (s t : Set) → intersection keeps s t ≡ concat_map (first_meetings t) s
unfolding intersection
intersection-is s t = meetings-each (concat_map solvable s) t ∙ concat-concat (meetings t) solvable s

-- what the pairs have given is the intersection
pub intersection-made : (s t : Set) {o o' : List ℕ} {r : Done}
    → Emits (concat_map (first_meetings t) s) (all (first_meetings_fit t) s) o nothing r o'
    → Made (intersection_fits keeps s t) (intersection keeps s t) o r o'
intersection-made s t {o = o} {o' = o'} {r = r} p =
    subst (λ (f : Bool). Made (f && leb (length (intersection keeps s t)) 32) (intersection keeps s t) o r o') (sym (all-concat-is (meetings_fit t) solvable s))
    (subst (λ (l : Set). Made (all (first_meetings_fit t) s && leb (length l) 32) l o r o') (sym (intersection-is s t))
    (made_of (concat_map (first_meetings t) s) (all (first_meetings_fit t) s) o o' r p))
