-- The operations on bytes: what they give decodes to the set that the definition says, and that set has the points that it should.
use mathlib.Core.Path.{◌≡◌, refl, subst}
use mathlib.Core.Bool.{Bool, true, false, not, ◌&&◌, ◌||◌, cond}
use mathlib.Core.List.{List, [], ◌∷◌}
use Prim.Native.Nat.{ℕ, ◌≤◌, zero-le}
use lib.Dec.{T, leb, leb→le}
use lib.IntN.{ℤ}
use lib.ListN.{length}
use Rattle.model.specs.Lists.{all, concat_map, All}
use Rattle.model.specs.Sets.{BasicSet, Set, in_set, well_formed}
use Rattle.algebra.specs.Tighten.{solvable}
use Rattle.algebra.specs.Cut.{keeps, union, union_fits, both_fits, intersection, intersection_fits, cut_all_fits, difference, difference_fits, complement, complement_fits}
use Rattle.codec.specs.Bytes.{Answer, refused, gives, encode, axes_fit, decode}
use Rattle.algebra.specs.Operations.{result, on_one, on_two, union_bytes, intersection_bytes, difference_bytes, complement_bytes}
use Rattle.model.proofs.Count.{and_right}
use Rattle.codec.proofs.Decoded.{Bytes, decode-formed, no_way}
use Rattle.model.proofs.Lists.{all_app}
use Rattle.codec.specs.Valid.{Valid}
use Rattle.codec.proofs.Valid.{valid-decodes, decode-valid}
use Rattle.algebra.proofs.Closed.{difference-valid, difference-decodes, intersection-valid}
use Rattle.algebra.proofs.Kept.{difference-points, intersection-points, complement-points}
use Rattle.algebra.proofs.Cutting.{union-in}

decode-axes : (n : ℕ) (bs : List ℕ) (s : Set) → decode n bs ≡ gives s → T (axes_fit n)
unfolding difference decode encode difference_bytes
decode-axes n bs s e = at (axes_fit n) refl
  where
    at : (b : Bool) → axes_fit n ≡ b → T b
    at true q = tt
    at false q = let d : refused 1 ≡ gives s = rw (q, decode) at e in let z : ◌≡◌ {A = ℕ} 0 1 = cc in no_way z

-- ---- the operations, on bytes

-- two decoded sets s and t, and bytes that decode to op s t, whose points are those that f says
pub record Operation (op : Set → Set → Set) (f : Bool → Bool → Bool) (n : ℕ) (a b bs : List ℕ) : Type 0 where
  pub s : Set
  pub t : Set
  pub first : decode n a ≡ gives s
  pub second : decode n b ≡ gives t
  pub result : decode n bs ≡ gives (op s t)
  pub points : (x : List ℤ) → length x ≤ 8 → in_set x (op s t) ≡ f (in_set x s) (in_set x t)

given : (fits : Bool) (room : ℕ) (r : Set) (bs : List ℕ) → result fits room r ≡ gives bs → T fits × (encode r ≡ bs)
given true room r bs e = (tt, at (leb (length (encode r)) room) e)
  where
    at : (b : Bool) → cond b (gives (encode r)) (refused 11) ≡ gives bs → encode r ≡ bs
    at true e = cc
    at false e = let z : ◌≡◌ {A = ℕ} 0 1 = cc in no_way z
given false room r bs e = let z : ◌≡◌ {A = ℕ} 0 1 = cc in no_way z

module _ (op : Set → Set → Set) (fits : Set → Set → Bool) (f : Bool → Bool → Bool) (n : ℕ)
    (valid : (s t : Set) → All (Valid n) s → All (Valid n) t → T (fits s t) → All (Valid n) (op s t))
    (few : (s t : Set) → T (fits s t) → length (op s t) ≤ 32)
    (points : (s t : Set) → T (all well_formed s) → T (all well_formed t) → (x : List ℤ) → length x ≤ 8 → in_set x (op s t) ≡ f (in_set x s) (in_set x t)) where
  operation : (room : ℕ) (a b bs : List ℕ) → Bytes a → Bytes b → on_two (λ s t. result (fits s t) room (op s t)) (decode n a) (decode n b) ≡ gives bs → Operation op f n a b bs
  operation room a b bs pa pb e = at (decode n a) refl (decode n b) refl e
    where
      at : (x : Answer Set) → decode n a ≡ x → (y : Answer Set) → decode n b ≡ y → on_two (λ s t. result (fits s t) room (op s t)) x y ≡ gives bs → Operation op f n a b bs
      at (refused m) p y q e = let z : ◌≡◌ {A = ℕ} 0 1 = cc in no_way z
      at (gives s) p (refused m) q e = let z : ◌≡◌ {A = ℕ} 0 1 = cc in no_way z
      at (gives s) p (gives t) q e =
          let g = given (fits s t) room (op s t) bs e in
          record {
            s = s;
            t = t;
            first = p;
            second = q;
            result =
                subst (λ (l : List ℕ). decode n l ≡ gives (op s t)) g.1
                (valid-decodes n (op s t) (decode-axes n a s p) (few s t g.0) (valid s t (decode-valid n a s pa p).0 (decode-valid n b t pb q).0 g.0));
            points = points s t (decode-formed n a s p) (decode-formed n b t q);
          }

pub difference-bytes : (n room : ℕ) (a b bs : List ℕ) → Bytes a → Bytes b → difference_bytes n room a b ≡ gives bs → Operation (difference keeps) (λ p q. p && not q) n a b bs
unfolding difference_bytes
difference-bytes n room a b bs =
    operation (difference keeps) (difference_fits keeps) (λ p q. p && not q) n (difference-valid keeps n)
    (λ s t f. leb→le (length (difference keeps s t)) 32 (and_right (all (cut_all_fits keeps t) s) (leb (length (difference keeps s t)) 32) f))
    (λ s t ws wt x h. difference-points x h s t ws wt) room a b bs

pub intersection-bytes : (n room : ℕ) (a b bs : List ℕ) → Bytes a → Bytes b → intersection_bytes n room a b ≡ gives bs → Operation (intersection keeps) ◌&&◌ n a b bs
unfolding intersection_bytes
intersection-bytes n room a b bs =
    operation (intersection keeps) (intersection_fits keeps) ◌&&◌ n (intersection-valid keeps n)
    (λ s t f. leb→le (length (intersection keeps s t)) 32 (and_right (all (λ (a : BasicSet). all (both_fits keeps a) t) (concat_map solvable s)) (leb (length (intersection keeps s t)) 32) f))
    (λ s t ws wt x h. intersection-points x h s t ws wt) room a b bs

pub union-bytes : (n room : ℕ) (a b bs : List ℕ) → Bytes a → Bytes b → union_bytes n room a b ≡ gives bs → Operation union ◌||◌ n a b bs
unfolding union_bytes
union-bytes n room a b bs =
    operation union (union_fits keeps) ◌||◌ n (λ s t vs vt f. all_app (Valid n) s t vs vt) (λ s t f. leb→le (length (union s t)) 32 f) (λ s t ws wt x h. union-in x s t) room a b bs

-- the complement, of one set
pub record Complement (n : ℕ) (a bs : List ℕ) : Type 0 where
  pub s : Set
  pub first : decode n a ≡ gives s
  pub result : decode n bs ≡ gives (complement keeps s)
  pub points : (x : List ℤ) → length x ≤ 8 → in_set x (complement keeps s) ≡ not (in_set x s)

pub complement-bytes : (n room : ℕ) (a bs : List ℕ) → Bytes a → complement_bytes n room a ≡ gives bs → Complement n a bs
unfolding complement_bytes complement
complement-bytes n room a bs pa e = at (decode n a) refl e
  where
    at : (x : Answer Set) → decode n a ≡ x → on_one (λ s. result (complement_fits keeps s) room (complement keeps s)) x ≡ gives bs → Complement n a bs
    at (refused m) p e = let z : ◌≡◌ {A = ℕ} 0 1 = cc in no_way z
    at (gives s) p e =
        let everything : Set = record { divisions = []; constraints = [] } ∷ [] in
        let g = given (complement_fits keeps s) room (complement keeps s) bs e in
        record {
          s = s;
          first = p;
          result =
              subst (λ (l : List ℕ). decode n l ≡ gives (complement keeps s)) g.1
              (difference-decodes keeps n everything s (decode-axes n a s p) (record { few_divisions = zero-le; few_constraints = zero-le; divisions = tt; constraints = tt }, tt) (decode-valid n a s pa p).0 g.0);
          points = λ x h. complement-points x h s (decode-formed n a s p);
        }
