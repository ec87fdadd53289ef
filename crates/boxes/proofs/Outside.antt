-- What is outside a set in a box: a point of the box is in it exactly when it is not in the set, no other point is; and its bytes decode.
use mathlib.Core.Path.{◌≡◌, refl, sym, ap, ap₂, ◌∙◌}
use mathlib.Core.Bool.{Bool, true, false, not, ◌&&◌, cond}
use mathlib.Core.List.{List, [], ◌∷◌}
use Prim.Native.Nat.{ℕ, suc, ◌≤◌}
use native.Mathlib.Omega.{arith}
use lib.Dec.{T, leb, ltb, lt→ltb, le→leb}
use lib.IntN.{ℤ}
use lib.ListN.{length, take}
use Rattle.model.specs.Lists.{all}
use Rattle.model.specs.Sets.{Constraint, Set, in_set, absent, well_formed}
use Rattle.model.proofs.Count.{and_left, and_right, and-make, to-T}
use Rattle.codec.specs.Bytes.{Answer, refused, gives, encode, decode, number}
use Rattle.codec.proofs.Decoded.{Bytes, decode-formed, no_way}
use Rattle.codec.proofs.Valid.{valid-decodes}
use Rattle.algebra.specs.Cut.{keeps, difference}
use Rattle.algebra.specs.Operations.{on_one, difference_bytes}
use Rattle.algebra.proofs.Kept.{difference-points}
use Rattle.algebra.proofs.Contracts.{difference-bytes}
use Rattle.algebra.proofs.Again.{encode-bytes}
use Rattle.query.specs.Member.{point_fits}
use Rattle.query.proofs.Answers.{axes-some, axes-most}
use Rattle.enumeration.specs.Search.{box_of, upright, corners_fit, box_fits}
use Rattle.enumeration.proofs.Walks.{In}
use Rattle.boxes.specs.Box.{box_rules, box_basic, outside, outside_result, outside_bytes}
use Rattle.boxes.proofs.Boxed.{in-many, box-holds, box-told, box-valid}

-- ---- the box has no divisions
rules-formed : (i : ℕ) (ls hs : List ℤ) → T (all (λ (r : Constraint). absent 0 r.divisions) (box_rules i ls hs))
rules-formed i [] hs = tt
rules-formed i (l ∷ ls) [] = tt
rules-formed i (l ∷ ls) (h ∷ hs) = rules-formed (suc i) ls hs

pub box-formed : (n : ℕ) (ls hs : List ℤ) → T (all well_formed (box_basic n ls hs ∷ []))
box-formed n ls hs = and-make (well_formed (box_basic n ls hs)) true (rules-formed 0 (take n ls) (take n hs)) tt

-- ---- a box that fits
module _ (n : ℕ) (ls hs : List ℤ) (fit : T (box_fits n ls hs)) where
  corners : T (corners_fit n ls hs)
  corners = and_left (corners_fit n ls hs) (upright (box_of ls hs)) fit

  pub lows-fit : T (point_fits n ls)
  lows-fit = and_left (point_fits n ls) (point_fits n hs) corners

  pub highs-fit : T (point_fits n hs)
  highs-fit = and_right (point_fits n ls) (point_fits n hs) corners

-- ---- its points
module _ (n : ℕ) (ls hs : List ℤ) (few : n ≤ 8) (l : length ls ≡ 8) (h : length hs ≡ 8) (s : Set) (formed : T (all well_formed s)) where
  pub outside-points : (x : List ℤ) → In x (take n (box_of ls hs)) → in_set x (outside n ls hs s) ≡ not (in_set x s)
  unfolding outside
  outside-points x i =
      difference-points x (let m = in-many n ls hs few l h x i in omega arith) (box_basic n ls hs ∷ []) s (box-formed n ls hs) formed
      ∙ ap (λ (b : Bool). b && not (in_set x s)) (box-holds n ls hs few l h x i)

  -- a point of n axes that is not in the box is not in it
  pub outside-beyond : (x : List ℤ) → length x ≡ n → ¬ In x (take n (box_of ls hs)) → in_set x (outside n ls hs s) ≡ false
  unfolding outside
  outside-beyond x m v =
      difference-points x (omega arith) (box_basic n ls hs ∷ []) s (box-formed n ls hs) formed
      ∙ ap (λ (b : Bool). b && not (in_set x s)) (no (in_set x (box_basic n ls hs ∷ [])) (λ t. v (box-told n ls hs few l h x m t)))
    where
      no : (b : Bool) → ¬ T b → b ≡ false
      no true f = absurd (f tt)
      no false f = refl

-- ---- from bytes
pub record Outside (n : ℕ) (ls hs : List ℤ) (a bs : List ℕ) : Type 0 where
  pub s : Set
  pub decoded : decode n a ≡ gives s
  pub box : T (box_fits n ls hs)
  pub result : decode n bs ≡ gives (outside n ls hs s)
  pub points : (x : List ℤ) → In x (take n (box_of ls hs)) → in_set x (outside n ls hs s) ≡ not (in_set x s)
  pub beyond : (x : List ℤ) → length x ≡ n → ¬ In x (take n (box_of ls hs)) → in_set x (outside n ls hs s) ≡ false

module _ (n room : ℕ) (ls hs : List ℤ) (a : List ℕ) (s : Set) (d : decode n a ≡ gives s) (fit : T (box_fits n ls hs)) where
  few : n ≤ 8
  few = axes-most n a (ap number d)

  box-decodes : decode n (encode (box_basic n ls hs ∷ [])) ≡ gives (box_basic n ls hs ∷ [])
  box-decodes =
      valid-decodes n (box_basic n ls hs ∷ []) (and-make (ltb 0 n) (leb n 8) (lt→ltb 0 n (axes-some n a (ap number d))) (le→leb n 8 few)) (omega arith)
      (box-valid n ls hs few (lows-fit n ls hs fit) (highs-fit n ls hs fit), tt)

  -- "the difference of the box and the set": of the box's bytes and the set's
  pub outside-difference : outside_result n room ls hs s ≡ difference_bytes n room (encode (box_basic n ls hs ∷ [])) a
  unfolding outside difference_bytes
  outside-difference = rw (box-decodes, d) refl

module _ (n room : ℕ) (ls hs : List ℤ) (l : length ls ≡ 8) (h : length hs ≡ 8) (a bs : List ℕ) (pa : Bytes a) where
  -- of a set that decodes, in a box that fits
  pub outside-given : (s : Set) → decode n a ≡ gives s → T (box_fits n ls hs) → outside_result n room ls hs s ≡ gives bs → Outside n ls hs a bs
  unfolding outside
  outside-given s d fit e =
      let k = few n room ls hs a s d fit in let f = decode-formed n a s d in
      let o = difference-bytes n room (encode (box_basic n ls hs ∷ [])) a bs (encode-bytes (box_basic n ls hs ∷ [])) pa (sym (outside-difference n room ls hs a s d fit) ∙ e) in
      record {
        s = s;
        decoded = d;
        box = fit;
        result = o.result ∙ ap₂ (λ (u v : Set). gives (difference keeps u v)) (same (sym o.first ∙ box-decodes n room ls hs a s d fit)) (same (sym o.second ∙ d));
        points = outside-points n ls hs k l h s f;
        beyond = outside-beyond n ls hs k l h s f;
      }
    where
      same : {u v : Set} → ◌≡◌ {A = Answer Set} (gives u) (gives v) → u ≡ v
      same e = cc

  pub outside-bytes : outside_bytes n room a ls hs ≡ gives bs → Outside n ls hs a bs
  unfolding outside_bytes
  outside-bytes e = by (decode n a) refl e
    where
      boxed : (s : Set) → decode n a ≡ gives s → (b : Bool) → box_fits n ls hs ≡ b → cond b (outside_result n room ls hs s) (refused 12) ≡ gives bs → Outside n ls hs a bs
      boxed s d true p g = outside-given s d (to-T (box_fits n ls hs) p) g
      boxed s d false p g = let z : ◌≡◌ {A = ℕ} 0 1 = cc in no_way z

      by : (x : Answer Set) → decode n a ≡ x → on_one (λ s. cond (box_fits n ls hs) (outside_result n room ls hs s) (refused 12)) x ≡ gives bs → Outside n ls hs a bs
      by (refused m) d g = let z : ◌≡◌ {A = ℕ} 0 1 = cc in no_way z
      by (gives s) d g = boxed s d (box_fits n ls hs) refl g
