-- What `40` to `44` answer, and where the answer is kept.
use mathlib.Core.Path.{◌≡◌, refl, ap, ap₂, sym, subst, ◌∙◌}
use mathlib.Core.Bool.{Bool, true, cond}
use mathlib.Core.List.{List, ◌++◌}
use Prim.Native.Nat.{ℕ, ◌+◌, ◌-◌, ◌*◌, ◌≤◌, ◌<◌}
use native.Mathlib.Omega.{arith}
use borrow.Author.Tests.{le-leb, lt-leb}
use lib.ListN.{length, get_or, set, take, drop, replicate}
use lib.Seq.{take-append_seam}
use Rattle.model.specs.Sets.{Set}
use Rattle.codec.specs.Bytes.{Answer, refused, gives, decode, number}
use Rattle.algebra.specs.Operations.{union_bytes, intersection_bytes, difference_bytes, complement_bytes}
use Rattle.algebra.specs.Result.{table_of, Result}
use Rattle.session.specs.Script.{room, set_at, fixed_width, set_numbers, fitting, load_bytes}
use Rattle.listing.specs.Written.{put, Wrote}
use Rattle.session.specs.Turns.{Memory, state_in, table_at, keeps, is_assignment, answer_of}
use Rattle.commands.specs.Promises.{Holds}
use Rattle.session.proofs.Commands.{by-command, set-at}

pub one-operand : (b : ℕ) → is_assignment b ≡ true → 3 ≤ fixed_width b
one-operand = by-command (λ (b : ℕ). 3 ≤ fixed_width b) (omega arith) (omega arith) (omega arith) (omega arith) (omega arith)

pub two-numbers : (b : ℕ) → is_assignment b ≡ true → ¬ (b ≡ 0x40) → 2 ≤ set_numbers b
two-numbers = by-command (λ (b : ℕ). ¬ (b ≡ 0x40) → 2 ≤ set_numbers b) (λ n. absurd (n refl)) (λ n. omega arith) (λ n. omega arith) (λ n. omega arith) (λ n. omega arith)

pub three-numbers : (b : ℕ) → is_assignment b ≡ true → ¬ (b ≡ 0x40) → ¬ (b ≡ 0x44) → 3 ≤ set_numbers b
three-numbers = by-command (λ (b : ℕ). ¬ (b ≡ 0x40) → ¬ (b ≡ 0x44) → 3 ≤ set_numbers b) (λ n m. absurd (n refl)) (λ n m. omega arith) (λ n m. omega arith) (λ n m. omega arith) (λ n m. absurd (m refl))

pub is-difference : (b : ℕ) → is_assignment b ≡ true → ¬ (b ≡ 0x40) → ¬ (b ≡ 0x44) → ¬ (b ≡ 0x41) → ¬ (b ≡ 0x42) → b ≡ 0x43
is-difference = by-command (λ (b : ℕ). ¬ (b ≡ 0x40) → ¬ (b ≡ 0x44) → ¬ (b ≡ 0x41) → ¬ (b ≡ 0x42) → b ≡ 0x43)
    (λ a d u i. absurd (a refl)) (λ a d u i. absurd (u refl)) (λ a d u i. absurd (i refl)) (λ a d u i. refl) (λ a d u i. absurd (d refl))

pub result-same : {r r' : ℕ} {a a' : Answer (List ℕ)} {o : Answer ℕ} {t : List ℕ} → r ≡ r' → a ≡ a' → Result r a o t → Result r' a' o t
result-same {r} {r'} {a} {a'} {o} {t} p q x = subst (λ (i : ℕ). Result i a' o t) p (subst (λ (b : Answer (List ℕ)). Result r b o t) q x)

-- ---- answers

module _ (n : ℕ) (tables lengths : List ℕ) (b : ℕ) (s : List ℕ) where
  -- set m is operand i
  pub operand : (i m : ℕ) (x : List ℕ) → m ≡ get_or s i 0 → get_or s i 0 ≤ 3 → x ≡ table_at tables lengths m → x ≡ set_at (state_in n tables lengths) (get_or s i 0)
  operand i m x e h q = q ∙ ap (table_at tables lengths) e ∙ sym (set-at n tables lengths (get_or s i 0) h)

  pub answer-load : (x : List ℕ) → b ≡ 0x40 → x ≡ drop 3 s → load_bytes n x ≡ answer_of (state_in n tables lengths) b s
  unfolding answer_of
  answer-load x e q = ap (load_bytes n) q ∙ sym (ap (λ (c : ℕ). answer_of (state_in n tables lengths) c s) e)

  module _ (r m : ℕ) (x : List ℕ) (p : r ≡ room) (e : m ≡ get_or s 1 0) (h : get_or s 1 0 ≤ 3) (q : x ≡ table_at tables lengths m) where
    pub answer-complement : b ≡ 0x44 → complement_bytes n r x ≡ answer_of (state_in n tables lengths) b s
    unfolding answer_of
    answer-complement c = ap₂ (complement_bytes n) p (operand 1 m x e h q) ∙ sym (ap (λ (c : ℕ). answer_of (state_in n tables lengths) c s) c)

    module _ (m₂ : ℕ) (y : List ℕ) (e₂ : m₂ ≡ get_or s 2 0) (h₂ : get_or s 2 0 ≤ 3) (q₂ : y ≡ table_at tables lengths m₂) where
      both : (f : ℕ → List ℕ → List ℕ → Answer (List ℕ)) → f r x y ≡ f room (set_at (state_in n tables lengths) (get_or s 1 0)) (set_at (state_in n tables lengths) (get_or s 2 0))
      both f = ap (λ (i : ℕ). f i x y) p ∙ ap₂ (f room) (operand 1 m x e h q) (operand 2 m₂ y e₂ h₂ q₂)

      pub answer-union : b ≡ 0x41 → union_bytes n r x y ≡ answer_of (state_in n tables lengths) b s
      unfolding answer_of
      answer-union c = both (union_bytes n) ∙ sym (ap (λ (c : ℕ). answer_of (state_in n tables lengths) c s) c)

      pub answer-intersection : b ≡ 0x42 → intersection_bytes n r x y ≡ answer_of (state_in n tables lengths) b s
      unfolding answer_of
      answer-intersection c = both (intersection_bytes n) ∙ sym (ap (λ (c : ℕ). answer_of (state_in n tables lengths) c s) c)

      pub answer-difference : b ≡ 0x43 → difference_bytes n r x y ≡ answer_of (state_in n tables lengths) b s
      unfolding answer_of
      answer-difference c = both (difference_bytes n) ∙ sym (ap (λ (c : ℕ). answer_of (state_in n tables lengths) c s) c)

-- ---- loads

module _ (n : ℕ) (l : List ℕ) (k : ℕ) (e : k ≡ number (decode n l)) where
  pub load-refused : ¬ (k ≡ 0) → load_bytes n l ≡ refused k
  unfolding load_bytes
  load-refused h = by (decode n l) e
    where
      by : (a : Answer Set) → k ≡ number a → fitting l a ≡ refused k
      by (refused m) q = ap refused (sym q)
      by (gives t) q = absurd (h q)

  pub load-long : (a : Set) → decode n l ≡ gives a → room < length l → load_bytes n l ≡ refused 11
  unfolding load_bytes
  load-long a z h = ap (fitting l) z ∙ ap (λ (x : Bool). cond x (gives l) (refused 11)) (lt-leb (length l) room h)

  pub load_gives : (a : Set) → decode n l ≡ gives a → length l ≤ room → load_bytes n l ≡ gives l
  unfolding load_bytes
  load_gives a z h = ap (fitting l) z ∙ ap (λ (x : Bool). cond x (gives l) (refused 11)) (le-leb (length l) room h)

pub loaded-table : (l o o₁ : List ℕ) (e : ℕ) → length o ≡ room → length o₁ ≡ room → Wrote l o 0 e o₁ → take e o₁ ++ replicate (length o₁ - e) 0 ≡ table_of room (gives l)
unfolding put
loaded-table l o o₁ e h k w =
    let i : e ≡ length l = let j = w.end_is in omega arith in
    ap₂ (λ (x : List ℕ) (i : ℕ). x ++ replicate i 0)
    (ap₂ take i w.bytes ∙ take-append_seam l (drop (0 + length l) o))
    (ap₂ (λ (i j : ℕ). i - j) k i)

-- ---- outcomes

pub answered-refused : {r : ℕ} {a : Answer (List ℕ)} {t : List ℕ} (k : ℕ) → Result r a (refused k) t → a ≡ refused k
answered-refused {a = refused j} k x = ap refused (ap number (sym x.answer))
answered-refused {a = gives l} k x = let e = x.answer in let z : ◌≡◌ {A = ℕ} 0 1 = cc in absurd (omega arith)

pub record Given (a : Answer (List ℕ)) (n : ℕ) : Type 0 where
  pub bytes : List ℕ
  pub is : a ≡ gives bytes
  pub long : length bytes ≡ n

pub answered-gives : {r : ℕ} {a : Answer (List ℕ)} {t : List ℕ} (n : ℕ) → Result r a (gives n) t → Given a n
answered-gives {a = refused j} n x = let e = x.answer in let z : ◌≡◌ {A = ℕ} 0 1 = cc in absurd (omega arith)
answered-gives {a = gives l} n x = record { bytes = l; is = refl; long = let e = x.answer in cc }

module _ (y : Memory) (m : ℕ) (a : Answer (List ℕ)) where
  pub kept-refused : (k : ℕ) (t : List ℕ) → a ≡ refused k → t ≡ table_of room a → Holds (keeps y m a) y.tables y.lengths t
  kept-refused k t e q =
      subst (λ (x : Answer (List ℕ)). Holds (keeps y m x) y.tables y.lengths t) (sym e) (record { tables_are = refl; lengths_are = refl; result_is = q ∙ ap (table_of room) e })

  pub kept-given : (i n : ℕ) (t u v : List ℕ) → i ≡ m → Given a n → t ≡ table_of room a → u ≡ put (room * i) t y.tables → v ≡ set y.lengths i n → Holds (keeps y m a) u v t
  kept-given i n t u v j g q p w =
      let r : t ≡ table_of room (gives g.bytes) = q ∙ ap (table_of room) g.is in
      subst (λ (x : Answer (List ℕ)). Holds (keeps y m x) u v t) (sym g.is)
      (record {
        tables_are = p ∙ ap₂ (λ (i : ℕ) (l : List ℕ). put (room * i) l y.tables) j r;
        lengths_are = w ∙ ap₂ (λ (i k : ℕ). set y.lengths i k) j (sym g.long);
        result_is = r;
      })
