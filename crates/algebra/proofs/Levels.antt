-- Depth first and level by level give the same difference and the same refusal; and the pieces of one basic set after the same cutter,
-- the first or a later one, share no point; and so from bytes.
use mathlib.Core.Path.{◌≡◌, refl, sym, ap, ap₂, ◌∙◌, subst}
use mathlib.Core.Bool.{Bool, true, false, ◌&&◌}
use mathlib.Core.List.{List, [], ◌∷◌, ◌++◌, append_assoc}
use Prim.Native.Nat.{ℕ, zero, suc, ◌<◌}
use lib.Dec.{T}
use lib.ListN.{length, get_or, take}
use Rattle.model.specs.Lists.{all, concat_map}
use Rattle.model.specs.Sets.{BasicSet, Set, well_formed}
use Rattle.algebra.specs.Tighten.{solvable}
use Rattle.codec.specs.Bytes.{gives, decode}
use Rattle.codec.proofs.Decoded.{Bytes, decode-formed}
use Rattle.algebra.specs.Cut.{keeps, cut_tight, cut, cut_all, cut_tight_fits, cut_fits, cut_all_fits, size_fits, difference, difference_fits, complement}
use Rattle.algebra.specs.Levels.{Disjoint, cut_each, cut_levels, cut_levels_fit, pieces_after, difference_by_levels, difference_by_levels_fits}
use Rattle.algebra.specs.Operations.{difference_bytes, complement_bytes}
use Rattle.model.proofs.Count.{and_left, and_right, and-make, all_append, all-at}
use Rattle.algebra.proofs.Kept.{pieces-disjoint}
use Rattle.algebra.proofs.Contracts.{difference-bytes, complement-bytes}

module _ {A B : Type 0} where
  concat-append : (f : A → List B) (l m : List A) → concat_map f (l ++ m) ≡ concat_map f l ++ concat_map f m
  concat-append f [] m = refl
  concat-append f (a ∷ l) m = ap (λ (k : List B). f a ++ k) (concat-append f l m) ∙ sym (append_assoc (f a) (concat_map f l) (concat_map f m))

  pub all-concat-is : (f : B → Bool) (g : A → List B) (l : List A) → all f (concat_map g l) ≡ all (λ (a : A). all f (g a)) l
  all-concat-is f g [] = refl
  all-concat-is f g (a ∷ l) = all_append f (g a) (concat_map g l) ∙ ap (λ (b : Bool). all f (g a) && b) (all-concat-is f g l)

all_both : {A : Type 0} (f g : A → Bool) (l : List A) → all (λ (a : A). f a && g a) l ≡ (all f l && all g l)
all_both f g [] = refl
all_both f g (a ∷ l) = ap (λ (b : Bool). f a && g a && b) (all_both f g l) ∙ swap (f a) (g a) (all f l) (all g l)
  where
    swap : (p q r s : Bool) → (p && q && (r && s)) ≡ (p && r && (q && s))
    swap true true r s = refl
    swap true false true s = refl
    swap true false false s = refl
    swap false q r s = refl

pub concat-concat : {A B C : Type 0} (f : B → List C) (g : A → List B) (l : List A) → concat_map f (concat_map g l) ≡ concat_map (λ (a : A). concat_map f (g a)) l
concat-concat f g [] = refl
concat-concat f g (a ∷ l) = concat-append f (g a) (concat_map g l) ∙ ap (λ k. concat_map f (g a) ++ k) (concat-concat f g l)

concat-single : {A : Type 0} (l : List A) → concat_map (λ (a : A). a ∷ []) l ≡ l
concat-single [] = refl
concat-single (a ∷ l) = ap (λ k. a ∷ k) (concat-single l)

-- a basic set is cut as what tightening makes of it
module _ (keep : BasicSet → Bool) (c : BasicSet) (cs : List BasicSet) (a : BasicSet) where
  pub void-cut : solvable a ≡ [] → (cut_all keep (c ∷ cs) a ≡ []) × (cut_all_fits keep (c ∷ cs) a ≡ true)
  unfolding cut_all cut
  void-cut e = (
    ap (concat_map (cut_all keep cs)) (ap (concat_map (λ (p : BasicSet). cut_tight keep p c)) e),
    ap₂ ◌&&◌ (ap (all (λ (p : BasicSet). cut_tight_fits keep p c)) e) (ap (all (cut_all_fits keep cs)) (ap (concat_map (λ (p : BasicSet). cut_tight keep p c)) e)),
  )

  pub tightened-cut : (p : BasicSet) → solvable a ≡ solvable p → (cut_all keep (c ∷ cs) a ≡ cut_all keep (c ∷ cs) p) × (cut_all_fits keep (c ∷ cs) a ≡ cut_all_fits keep (c ∷ cs) p)
  unfolding cut_all cut
  tightened-cut p e = (
    ap (concat_map (cut_all keep cs)) (ap (concat_map (λ (q : BasicSet). cut_tight keep q c)) e),
    ap₂ ◌&&◌ (ap (all (λ (q : BasicSet). cut_tight_fits keep q c)) e) (ap (all (cut_all_fits keep cs)) (ap (concat_map (λ (q : BasicSet). cut_tight keep q c)) e)),
  )

module _ (keep : BasicSet → Bool) where
  pub levels-pieces : (cs ps : List BasicSet) → cut_levels keep cs ps ≡ concat_map (cut_all keep cs) ps
  unfolding cut_levels cut_all
  levels-pieces [] ps = sym (concat-single ps)
  levels-pieces (c ∷ cs) ps = levels-pieces cs (cut_each keep c ps) ∙ concat-concat (cut_all keep cs) (λ (p : BasicSet). cut keep p c) ps

  levels-fit : (cs ps : List BasicSet) → cut_levels_fit keep cs ps ≡ all (cut_all_fits keep cs) ps
  unfolding cut_levels_fit
  levels-fit [] ps = sym (trivial ps)
    where
      trivial : (l : List BasicSet) → all (λ (a : BasicSet). true) l ≡ true
      trivial [] = refl
      trivial (a ∷ l) = trivial l
  levels-fit (c ∷ cs) ps =
      ap (λ (b : Bool). all (λ (p : BasicSet). cut_fits keep p c) ps && b) (levels-fit cs (cut_each keep c ps) ∙ all-concat-is (cut_all_fits keep cs) (λ (p : BasicSet). cut keep p c) ps)
      ∙ sym (all_both (λ (p : BasicSet). cut_fits keep p c) (λ (p : BasicSet). all (cut_all_fits keep cs) (cut keep p c)) ps)

  pub difference-levels : (s t : Set) → difference_by_levels keep s t ≡ difference keep s t
  unfolding difference_by_levels difference
  difference-levels s t = levels-pieces t s

  -- the same refusal 10
  pub difference-levels-fit : (s t : Set) → difference_by_levels_fits keep s t ≡ difference_fits keep s t
  unfolding difference_by_levels_fits
  difference-levels-fit s t = ap₂ (λ (a : Bool) (l : Set). a && size_fits keep l) (levels-fit t s) (difference-levels s t)

  -- after one cutter more, each piece is cut by it
  pub one-cutter-more : (cs : List BasicSet) (c : BasicSet) (ps : List BasicSet) → cut_levels keep (cs ++ (c ∷ [])) ps ≡ cut_each keep c (cut_levels keep cs ps)
  unfolding cut_levels
  one-cutter-more [] c ps = refl
  one-cutter-more (d ∷ cs) c ps = one-cutter-more cs c (cut_each keep d ps)

all_take : {A : Type 0} (f : A → Bool) (k : ℕ) (l : List A) → T (all f l) → T (all f (take k l))
all_take f zero l t = tt
all_take f (suc k) [] t = tt
all_take f (suc k) (a ∷ l) t = and-make (f a) (all f (take k l)) (and_left (f a) (all f l) t) (all_take f k l (and_right (f a) (all f l) t))

concat-one : (f : BasicSet → List BasicSet) (a : BasicSet) → concat_map f (a ∷ []) ≡ f a
concat-one f a = mathlib.Core.List.append-nil (f a)

-- the pieces of one basic set after the same cutter, the first or a later one, share no point
pub pieces-after : (k : ℕ) (t : Set) → T (all well_formed t) → (a : BasicSet) → T (well_formed a)
    → Disjoint (pieces_after keeps k t a)
pieces-after k t formed a ok =
    subst Disjoint (sym (levels-pieces keeps (take k t) (a ∷ []) ∙ concat-one (cut_all keeps (take k t)) a)) (pieces-disjoint (take k t) (all_take well_formed k t formed) a ok)

-- ---- from bytes

module _ (n : ℕ) (a b : List ℕ) (s t : Set) (first : decode n a ≡ gives s) (second : decode n b ≡ gives t)
    (i : ℕ) (d : BasicSet) (h : i < length s) where
  -- of basic set i of the first set, after any number of cutters of the second
  pub decoded-pieces : (k : ℕ) → Disjoint (pieces_after keeps k t (get_or s i d))
  decoded-pieces k = pieces-after k t (decode-formed n b t second) (get_or s i d) (all-at well_formed s i d h (decode-formed n a s first))

  -- and after all of them
  all-pieces : Disjoint (cut_all keeps t (get_or s i d))
  all-pieces = pieces-disjoint t (decode-formed n b t second) (get_or s i d) (all-at well_formed s i d h (decode-formed n a s first))

-- of a result: it is, basic set by basic set of the first set, what the second's cutters leave of it, and no point is in
-- two pieces of one
pub record Pieces (n : ℕ) (a b bs : List ℕ) : Type 0 where
  pub s : Set
  pub t : Set
  pub first : decode n a ≡ gives s
  pub second : decode n b ≡ gives t
  pub result : decode n bs ≡ gives (concat_map (cut_all keeps t) s)
  pub disjoint : (i : ℕ) (d : BasicSet) → i < length s → Disjoint (cut_all keeps t (get_or s i d))

pub difference-pieces : (n room : ℕ) (a b bs : List ℕ) → Bytes a → Bytes b → difference_bytes n room a b ≡ gives bs
    → Pieces n a b bs
unfolding difference
difference-pieces n room a b bs pa pb e =
    let o = difference-bytes n room a b bs pa pb e in
    record { s = o.s; t = o.t; first = o.first; second = o.second; result = o.result; disjoint = all-pieces n a b o.s o.t o.first o.second }

-- of a complement, which is cut from one basic set: no point is in two basic sets of the result
pub complement-pieces : (n room : ℕ) (a bs : List ℕ) → Bytes a → complement_bytes n room a ≡ gives bs
    → (s : Set) × (decode n bs ≡ gives s) × Disjoint s
unfolding difference complement
complement-pieces n room a bs pa e =
    let o = complement-bytes n room a bs pa e in
    let everything : BasicSet = record { divisions = []; constraints = [] } in (
      complement keeps o.s,
      o.result,
      subst Disjoint (sym (concat-one (cut_all keeps o.s) everything)) (pieces-disjoint o.s (decode-formed n a o.s o.first) everything tt),
    )
