-- The public calls: refusals of the given sets, and the result of two sets or of one.
use mathlib.Core.Path.{◌≡◌, refl, sym, ap, ap₂, ◌∙◌, subst}
use mathlib.Core.Bool.{Bool, true, false}
use mathlib.Core.List.{List, [], ◌∷◌, ◌++◌}
use Prim.Native.Nat.{ℕ, ◌+◌, ◌≤◌, ◌<◌}
use native.Mathlib.Omega.{arith}
use borrow.Author.Tests.{le-leb, lt-leb}
use lib.ListN.{length, get_or, length-append}
use Rattle.integers.specs.Mach.{clash}
use Rattle.model.specs.Sets.{BasicSet, Set}
use Rattle.model.proofs.Count.{to-T}
use Rattle.codec.specs.Bytes.{Answer, refused, gives, encode, axes_fit, decode, number}
use Rattle.codec.specs.Places.{commands_of, built, set_from}
use Rattle.records.specs.Writing.{Emitted}
use Rattle.codec.proofs.Boundaries.{decode_is}
use Rattle.codec.proofs.Parsing.{decode-bad}
use Rattle.codec.proofs.Decoded.{encode-decode}
use Rattle.codec.proofs.Commands.{encode-more}
use Rattle.records.proofs.Emitting.{emitted-more}
use Rattle.codec.proofs.Valid.{bytes_of, valid-decodes}
use Rattle.algebra.specs.Cut.{keeps, union, union_fits, difference, difference_fits, complement, complement_fits}
use Rattle.algebra.specs.Operations.{result, on_one, on_two}
use Rattle.algebra.specs.Result.{Result}
use Rattle.results.specs.declared.results.Done.{Done}
use Rattle.results.specs.Outcome.{Outcome, outcome_is}
use Rattle.results.specs.Results.{Made, Finished}
use Rattle.subtraction.specs.Subtraction.{Sets}
use Rattle.operations.specs.Operations.{Checks}

refused-of : (x : Answer Set) (k : ℕ) → k ≡ number x → (k ≡ 0 → ⊥) → x ≡ refused k
refused-of (refused m) k e n = ap refused (sym e)
refused-of (gives s) k e n = absurd (n e)

abbrev whole : BasicSet
whole = record { divisions = []; constraints = [] }

whole_set : set_from (17 ∷ []) 0 ≡ whole ∷ []
unfolding built commands_of
whole_set = refl

module _ (n : ℕ) (a b : List ℕ) (f : Set → Set → Answer (List ℕ)) (k : ℕ) where
  -- the first set's refusal
  first-no : k ≡ number (decode n a) → (k ≡ 0 → ⊥) → on_two f (decode n a) (decode n b) ≡ refused k
  first-no e u = rw (refused-of (decode n a) k e u)

  -- the second set's, where the first has none
  second-no : number (decode n a) ≡ 0 → k ≡ number (decode n b) → (k ≡ 0 → ⊥) → on_two f (decode n a) (decode n b) ≡ refused k
  second-no z e u = rw (decode_is n a z, refused-of (decode n b) k e u)

-- what is asked of both sets first
pub checks-first : (n : ℕ) (a b : List ℕ) (k : ℕ) → k ≡ number (decode n a) → (k ≡ 0 → ⊥) → Checks n a b k
checks-first n a b k e u = record { good = λ z. absurd (u z); bad = λ v f. first-no n a b f k e u }

pub checks-second : (n : ℕ) (a b : List ℕ) (k : ℕ) → number (decode n a) ≡ 0 → k ≡ number (decode n b) → Checks n a b k
checks-second n a b k z e = record { good = λ y. (z, sym e ∙ y); bad = λ v f. second-no n a b f k z e v }

pub sets_of : (n : ℕ) (a b : List ℕ) (k : ℕ) → Checks n a b k → k ≡ 0 → Sets a b
sets_of n a b k c z = record { n = n; first = (c.good z).0; second = (c.good z).1 }

-- one of two sets is refused
pub two-refused : (n : ℕ) (a b : List ℕ) (f : Set → Set → Answer (List ℕ)) (k room : ℕ) (x : Answer ℕ) (o' : List ℕ) → Checks n a b k → (k ≡ 0 → ⊥) → Result room (refused k) x o' → Result room (on_two f (decode n a) (decode n b)) x o'
two-refused n a b f k room x o' c u r = subst (λ (y : Answer (List ℕ)). Result room y x o') (sym (c.bad u f)) r

-- the table's size is the same when the answer is given
finished-is : (f : Bool) (l : Set) (o m o' : List ℕ) (s : Done) (r : Outcome) → length m ≡ length o → Made f l o s m → Finished s m r o' → Result (length o) (result f (length o) l) (outcome_is r) o'
finished-is f l o m o' s r e made done = subst (λ (k : ℕ). Result k (result f k l) (outcome_is r) o') e (done.answers f l o (sym e) made)

-- the result of two sets that decode
pub two-given : (n : ℕ) (a b : List ℕ) (k : ℕ) (fits : Set → Set → Bool) (op : Set → Set → Set) (o m o' : List ℕ) (s : Done) (r : Outcome) → Checks n a b k → k ≡ 0 → length m ≡ length o
    → Made (fits (set_from a 0) (set_from b 0)) (op (set_from a 0) (set_from b 0)) o s m → Finished s m r o'
    → Result (length o) (on_two (λ s t. result (fits s t) (length o) (op s t)) (decode n a) (decode n b)) (outcome_is r) o'
two-given n a b k fits op o m o' s r c z l made done =
    rw (decode_is n a (c.good z).0, decode_is n b (c.good z).1) (finished-is (fits (set_from a 0) (set_from b 0)) (op (set_from a 0) (set_from b 0)) o m o' s r l made done)

-- ---- complement

module _ (n : ℕ) (a : List ℕ) where
  pub one-refused : (f : Set → Answer (List ℕ)) (k room : ℕ) (x : Answer ℕ) (o' : List ℕ) → k ≡ number (decode n a) → (k ≡ 0 → ⊥) → Result room (refused k) x o' → Result room (on_one f (decode n a)) x o'
  one-refused f k room x o' e u r = rw (refused-of (decode n a) k e u) r

  axes-fit : (s : List ℕ) → number (decode n s) ≡ 0 → axes_fit n ≡ true
  axes-fit s z = go (axes_fit n) refl
    where
      go : (b : Bool) → axes_fit n ≡ b → axes_fit n ≡ true
      go true e = e
      go false e = absurd (omega (arith, decode-bad n s e))

  -- the byte `11` is the rule-less basic set
  whole-decodes : axes_fit n ≡ true → decode n (17 ∷ []) ≡ gives (whole ∷ [])
  unfolding encode
  whole-decodes f = valid-decodes n (whole ∷ []) (to-T (axes_fit n) f) (omega arith) (record { few_divisions = omega arith; few_constraints = omega arith; divisions = tt; constraints = tt }, tt)

  pub whole-sets : number (decode n a) ≡ 0 → Sets (17 ∷ []) a
  whole-sets z = record { n = n; first = ap number (whole-decodes (axes-fit a z)); second = z }

  pub whole-given : (o m o' : List ℕ) (s : Done) (r : Outcome) → number (decode n a) ≡ 0 → length m ≡ length o
      → Made (difference_fits keeps (set_from (17 ∷ []) 0) (set_from a 0)) (difference keeps (set_from (17 ∷ []) 0) (set_from a 0)) o s m → Finished s m r o'
      → Result (length o) (on_one (λ s. result (complement_fits keeps s) (length o) (complement keeps s)) (decode n a)) (outcome_is r) o'
  unfolding complement
  whole-given o m o' s r z l made done =
      let e : set_from (17 ∷ []) 0 ≡ whole ∷ [] = whole_set in
      rw (decode_is n a z)
      (finished-is (complement_fits keeps (set_from a 0)) (complement keeps (set_from a 0)) o m o' s r l (subst (λ (w : Set). Made (difference_fits keeps w (set_from a 0)) (difference keeps w (set_from a 0)) o s m) e made) done)

-- ---- union

module _ (a b : List ℕ) (s : Sets a b) (n : ℕ) (p : n ≡ length (set_from a 0) + length (set_from b 0)) where
  count_is : length (union (set_from a 0) (set_from b 0)) ≡ n
  count_is = length-append (set_from a 0) (set_from b 0) ∙ sym p

  pub union-over : (o o' : List ℕ) (at count : ℕ) → 32 < n → Made (union_fits keeps (set_from a 0) (set_from b 0)) (union (set_from a 0) (set_from b 0)) o (record { at = at; count = count; fits = false }) o'
  union-over o o' at count h =
      record { fits = sym (lt-leb (length (union (set_from a 0) (set_from b 0))) 32 (subst (λ (k : ℕ). 32 < k) (sym count_is) h)); bytes = λ t. clash t refl }

  pub union-made : ((i : ℕ) → get_or a i 0 < 256) → ((i : ℕ) → get_or b i 0 < 256) → (o o₁ o₂ : List ℕ) (m e count : ℕ) → n ≤ 32 → Emitted a o 0 m o₁ → Emitted b o₁ m e o₂
      → Made (union_fits keeps (set_from a 0) (set_from b 0)) (union (set_from a 0) (set_from b 0)) o (record { at = e; count = count; fits = true }) o₂
  union-made ba bb o o₁ o₂ m e count h u v =
      let ea : encode (set_from a 0) ≡ a = encode-decode s.n a (set_from a 0) (bytes_of a ba) (decode_is s.n a s.first) in
      let eb : encode (set_from b 0) ≡ b = encode-decode s.n b (set_from b 0) (bytes_of b bb) (decode_is s.n b s.second) in
      record {
        fits = sym (le-leb (length (union (set_from a 0) (set_from b 0))) 32 (subst (λ (k : ℕ). k ≤ 32) (sym count_is) h));
        bytes = λ t. subst (λ (l : List ℕ). Emitted l o 0 e o₂) (sym (encode-more (set_from a 0) (set_from b 0) ∙ ap₂ (λ (i j : List ℕ). i ++ j) ea eb)) (emitted-more u v);
      }
