-- Basic sets put one behind the other, and what the whole result answers.
use mathlib.Core.Path.{◌≡◌, refl, sym, ap, ap₂, ◌∙◌, subst}
use mathlib.Core.Bool.{Bool, true, false, ◌&&◌}
use mathlib.Core.List.{List, [], ◌∷◌, ◌++◌}
use Prim.Native.Nat.{ℕ, ◌+◌, ◌-◌, ◌≤◌, ◌<◌}
use native.Mathlib.Nat.{add-zero, zero-add}
use native.Mathlib.Omega.{arith}
use borrow.Author.Tests.{le-leb, lt-leb, leb-false}
use lib.Dec.{leb}
use lib.ListN.{length, take, drop, replicate, length-append}
use lib.Seq.{take_at}
use Rattle.integers.specs.Mach.{clash}
use Rattle.model.specs.Sets.{BasicSet, Set}
use Rattle.codec.specs.Bytes.{Answer, refused, gives, encode}
use Rattle.records.specs.Writing.{Emitted, cleared}
use Rattle.codec.proofs.Commands.{encode-more}
use Rattle.records.proofs.Emitting.{emitted-none, emitted-more, put_whole}
use Rattle.codec.specs.Valid.{Valid}
use Rattle.algebra.specs.Operations.{result}
use Rattle.algebra.specs.Result.{Result}
use Rattle.results.specs.declared.results.Done.{Done}
use Rattle.results.specs.Results.{Ready, Emits, Made}
use Rattle.codec.proofs.RoundTrips.{valid-short}

-- ---- one behind the other

encode-none : encode [] ≡ []
unfolding encode
encode-none = refl

pub emits_none : (o : List ℕ) (s : Done) → Ready s → Emits [] true o s s o
emits_none o s r =
    record {
      fits = r.fits ∙ sym (le-leb (s.count + 0) 32 (let f = r.few in omega arith));
      ready = λ t. r;
      count = λ t. sym (add-zero s.count);
      bytes = λ t. subst (λ (l : List ℕ). Emitted l o s.at s.at o) (sym encode-none) (emitted-none o s.at);
    }

pub emits_one : (n : ℕ) (b : BasicSet) (o : List ℕ) (s : Done) (e : ℕ) (o' : List ℕ) → Valid n b → Ready s → s.count < 32 → Emitted (encode (b ∷ [])) o s.at e o'
    → Emits (b ∷ []) true o s (record { at = e; count = s.count + 1; fits = true }) o'
emits_one n b o s e o' v r h p =
    record {
      fits = sym (le-leb (s.count + 1) 32 (omega arith));
      ready = λ t. record { fits = refl; few = omega arith; near = let x = p.ends in let y = valid-short n b v in let z = r.near in omega arith };
      count = λ t. refl;
      bytes = λ t. p;
    }

pub emits-last : (b : BasicSet) (o : List ℕ) (s : Done) → s.count ≡ 32 → Emits (b ∷ []) true o s (record { at = s.at; count = s.count; fits = false }) o
emits-last b o s h =
    record {
      fits = sym (lt-leb (s.count + 1) 32 (omega arith));
      ready = λ t. clash t refl;
      count = λ t. clash t refl;
      bytes = λ t. clash t refl;
    }

-- where a limit is passed
pub emits-refused : (l : Set) (f : Bool) (o o' : List ℕ) (s : Done) (at count : ℕ) → f ≡ false → Emits l f o s (record { at = at; count = count; fits = false }) o'
emits-refused l f o o' s at count e =
    record {
      fits = sym (ap (λ (b : Bool). b && leb (s.count + length l) 32) e);
      ready = λ t. clash t refl;
      count = λ t. clash t refl;
      bytes = λ t. clash t refl;
    }

module _ (l m : Set) (f g : Bool) (o o₁ : List ℕ) (s t : Done) (p : Emits l f o s t o₁) where
  sum_is : s.count + length (l ++ m) ≡ s.count + length l + length m
  sum_is = let e = length-append l m in omega arith

  both_true : (a b : Bool) → (a && b) ≡ true → (a ≡ true) × (b ≡ true)
  both_true true true e = (refl, refl)
  both_true true false e = clash e refl
  both_true false b e = clash e refl

  pub emits-more : (o₂ : List ℕ) (r : Done) → t.fits ≡ true → Emits m g o₁ t r o₂ → Emits (l ++ m) (f && g) o s r o₂
  emits-more o₂ r e q =
      let c = p.count e in
      let b = both_true f (leb (s.count + length l) 32) (sym p.fits ∙ e) in
      let n : t.count + length m ≡ s.count + length (l ++ m) = sym (sum_is ∙ ap (λ (k : ℕ). k + length m) (sym c)) in
      record {
        fits = q.fits ∙ ap₂ (λ (x : Bool) (k : ℕ). (x && g) && leb k 32) (sym b.0) n;
        ready = q.ready;
        count = λ h. q.count h ∙ n;
        bytes = λ h. subst (λ (x : List ℕ). Emitted x o s.at r.at o₂) (sym (encode-more l m)) (emitted-more (p.bytes e) (q.bytes h));
      }

  -- what no longer fits fits with nothing behind it
  pub emits-stop : t.fits ≡ false → Emits (l ++ m) (f && g) o s t o₁
  emits-stop e =
      record {
        fits = e ∙ sym (stop f g (sym p.fits ∙ e));
        ready = λ h. clash h e;
        count = λ h. clash h e;
        bytes = λ h. clash h e;
      }
    where
      stop : (a b : Bool) → (a && leb (s.count + length l) 32) ≡ false → ((a && b) && leb (s.count + length (l ++ m)) 32) ≡ false
      stop false b h = refl
      stop true false h = refl
      stop true true h = let k = leb-false (s.count + length l) 32 h in let z = sum_is in lt-leb (s.count + length (l ++ m)) 32 (omega arith)

-- ---- the whole result

pub made_of : (l : Set) (f : Bool) (o o' : List ℕ) (r : Done) → Emits l f o (record { at = 0; count = 0; fits = true }) r o' → Made (f && leb (length l) 32) l o r o'
made_of l f o o' r p = record { fits = p.fits ∙ ap (λ (k : ℕ). f && leb k 32) (zero-add (length l)); bytes = p.bytes }

zeros-cleared : (o : List ℕ) → cleared 0 o ≡ replicate (length o) 0
zeros-cleared o = ap (λ (k : ℕ). replicate k 0) (sub-zero (length o))
  where
    sub-zero : (k : ℕ) → k - 0 ≡ k
    sub-zero k = omega arith

pub refused-is : (k : ℕ) (o o' : List ℕ) → o' ≡ cleared 0 o → Result (length o) (refused k) (refused k) o'
refused-is k o o' e = record { answer = refl; bytes = e ∙ zeros-cleared o }

module _ (s : Done) (o o' : List ℕ) where
  pub finish-over : (x : Answer ℕ) → s.fits ≡ false → Result (length o) (refused 10) x o' → (f : Bool) (l : Set) (o₀ : List ℕ) → length o₀ ≡ length o → Made f l o₀ s o → Result (length o) (result f (length o) l) x o'
  finish-over x e r f l o₀ h m = rw (sym m.fits ∙ e) r

  pub finish-long : (x : Answer ℕ) → s.fits ≡ true → length o < s.at → Result (length o) (refused 11) x o' → (f : Bool) (l : Set) (o₀ : List ℕ) → length o₀ ≡ length o → Made f l o₀ s o → Result (length o) (result f (length o) l) x o'
  finish-long x e k r f l o₀ h m =
      let b = m.bytes e in
      let z : length o < length (encode l) = let x = b.ends in let y = zero-add (length (encode l)) in omega arith in
      rw (sym m.fits ∙ e, lt-leb (length (encode l)) (length o) z) r

  pub finish-given : s.fits ≡ true → s.at ≤ length o → o' ≡ cleared s.at o → (f : Bool) (l : Set) (o₀ : List ℕ) → length o₀ ≡ length o → Made f l o₀ s o → Result (length o) (result f (length o) l) (gives s.at) o'
  finish-given e k c f l o₀ h m =
      let b = m.bytes e in
      let z : s.at ≡ length (encode l) = b.ends ∙ zero-add (length (encode l)) in
      let w : o ≡ encode l ++ drop (0 + length (encode l)) o₀ = b.bytes ∙ put_whole 0 (encode l) o₀ (let y = zero-add (length (encode l)) in omega arith) in
      let t : take s.at o ≡ encode l = ap (take s.at) w ∙ take_at (encode l) (drop (0 + length (encode l)) o₀) s.at (sym z) in
      rw (sym m.fits ∙ e, le-leb (length (encode l)) (length o) (omega arith)) record {
        answer = ap gives z;
        bytes = c ∙ ap₂ (λ (x : List ℕ) (n : ℕ). x ++ replicate (length o - n) 0) t z;
      }
