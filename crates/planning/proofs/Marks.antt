-- Marks (document 02, request 8), over any states: "Marking a used name moves it. Going back to a name .. forgets the marks made after it".
use mathlib.Core.Path.{◌≡◌, refl, sym, ap, ap₂, ◌∙◌, subst}
use mathlib.Core.Bool.{Bool, true, false, not, cond}
use mathlib.Core.List.{List, [], ◌∷◌, ◌++◌}
use mathlib.Core.Option.{Option, none, some}
use Prim.Native.Nat.{ℕ, zero, suc, ◌≤◌, ◌<◌}
use native.Mathlib.Nat.{not-suc-le-zero}
use native.Mathlib.Omega.{arith}
use lib.Dec.{T, eqb, eqb→eq, eqb_refl}
use lib.ListN.{length}
use Rattle.model.specs.Lists.{cons_if}
use Rattle.model.proofs.Count.{from-T}
use Rattle.feasibility.proofs.Verdicts.{true-false, some-none}
use Rattle.planning.specs.Desk.{Desk, without, marked, named, through, restored, gone_back}

-- ---- two names

same : (a b : ℕ) → eqb a b ≡ true → a ≡ b
same a b q = eqb→eq a b (subst T (sym q) tt)

other : (a b : ℕ) → eqb a b ≡ false → a ≡ b → ⊥
other a b q e = true-false (sym (from-T (eqb a b) (subst (λ (x : ℕ). T (eqb a x)) e (eqb_refl a))) ∙ q)

pub not_same : (a b : ℕ) → (a ≡ b → ⊥) → eqb a b ≡ false
not_same a b n = at (eqb a b) refl
  where
    at : (c : Bool) → eqb a b ≡ c → c ≡ false
    at true q = absurd (n (same a b q))
    at false q = refl

turned : (a b : ℕ) → eqb a b ≡ false → eqb b a ≡ false
turned a b q = not_same b a (λ e. other a b q (sym e))

self : (k : ℕ) → eqb k k ≡ true
self k = from-T (eqb k k) (eqb_refl k)

module _ {A : Type 0} where
  -- ---- the first mark and the rest

  named_here : (k : ℕ) (p : ℕ × A) (ms : List (ℕ × A)) → eqb p.0 k ≡ true → named k (p ∷ ms) ≡ some p.1
  named_here k p ms q = ap (λ (b : Bool). cond b (some p.1) (named k ms)) q

  named-there : (k : ℕ) (p : ℕ × A) (ms : List (ℕ × A)) → eqb p.0 k ≡ false → named k (p ∷ ms) ≡ named k ms
  named-there k p ms q = ap (λ (b : Bool). cond b (some p.1) (named k ms)) q

  unnamed : (k : ℕ) (p : ℕ × A) (ms : List (ℕ × A)) → named k (p ∷ ms) ≡ none → (eqb p.0 k ≡ false) × (named k ms ≡ none)
  unnamed k p ms e = at (eqb p.0 k) e
    where
      at : (b : Bool) → cond b (some p.1) (named k ms) ≡ none → (b ≡ false) × (named k ms ≡ none)
      at true e = some-none e
      at false e = (refl, e)

  pub through_here : (k : ℕ) (p : ℕ × A) (ms : List (ℕ × A)) → eqb p.0 k ≡ true → through k (p ∷ ms) ≡ p ∷ []
  through_here k p ms q = ap (λ (b : Bool). p ∷ cond b [] (through k ms)) q

  pub through-there : (k : ℕ) (p : ℕ × A) (ms : List (ℕ × A)) → eqb p.0 k ≡ false → through k (p ∷ ms) ≡ p ∷ through k ms
  through-there k p ms q = ap (λ (b : Bool). p ∷ cond b [] (through k ms)) q

  pub without-here : (k : ℕ) (p : ℕ × A) (ms : List (ℕ × A)) → eqb p.0 k ≡ true → without k (p ∷ ms) ≡ without k ms
  without-here k p ms q = ap (λ (b : Bool). cons_if (not b) p (without k ms)) q

  pub without-there : (k : ℕ) (p : ℕ × A) (ms : List (ℕ × A)) → eqb p.0 k ≡ false → without k (p ∷ ms) ≡ p ∷ without k ms
  without-there k p ms q = ap (λ (b : Bool). cons_if (not b) p (without k ms)) q

  -- ---- which names are marked

  named-append : (j : ℕ) (ms ns : List (ℕ × A)) → named j ms ≡ none → named j (ms ++ ns) ≡ named j ns
  named-append j [] ns e = refl
  named-append j (p ∷ ms) ns e = let h = unnamed j p ms e in named-there j p (ms ++ ns) h.0 ∙ named-append j ms ns h.1

  named-without : (k : ℕ) (ms : List (ℕ × A)) → named k (without k ms) ≡ none
  named-without k [] = refl
  named-without k (p ∷ ms) = at (eqb p.0 k) refl (named-without k ms)
    where
      at : (b : Bool) → eqb p.0 k ≡ b → named k (without k ms) ≡ none → named k (without k (p ∷ ms)) ≡ none
      at true q ih = ap (named k) (without-here k p ms q) ∙ ih
      at false q ih = ap (named k) (without-there k p ms q) ∙ named-there k p (without k ms) q ∙ ih

  -- another name is where it was, also with one mark more
  named_other : (j k : ℕ) (x : A) → eqb k j ≡ false → (ms : List (ℕ × A)) → named j (without k ms ++ ((k, x) ∷ [])) ≡ named j ms
  named_other j k x n [] = named-there j (k, x) [] n
  named_other j k x n (p ∷ ms) = at (eqb p.0 k) refl (named_other j k x n ms)
    where
      at : (b : Bool) → eqb p.0 k ≡ b → named j (without k ms ++ ((k, x) ∷ [])) ≡ named j ms → named j (without k (p ∷ ms) ++ ((k, x) ∷ [])) ≡ named j (p ∷ ms)
      at true q ih =
          ap (λ (l : List (ℕ × A)). named j (l ++ ((k, x) ∷ []))) (without-here k p ms q) ∙ ih
          ∙ sym (named-there j p ms (subst (λ (a : ℕ). eqb a j ≡ false) (sym (same p.0 k q)) n))
      at false q ih = ap (λ (l : List (ℕ × A)). named j (l ++ ((k, x) ∷ []))) (without-there k p ms q) ∙ ap (λ (o : Option A). cond (eqb p.0 j) (some p.1) o) ih

  none-without : (j k : ℕ) (ms : List (ℕ × A)) → named j ms ≡ none → named j (without k ms) ≡ none
  none-without j k [] e = refl
  none-without j k (p ∷ ms) e = let h = unnamed j p ms e in at (eqb p.0 k) refl h.0 (none-without j k ms h.1)
    where
      at : (b : Bool) → eqb p.0 k ≡ b → eqb p.0 j ≡ false → named j (without k ms) ≡ none → named j (without k (p ∷ ms)) ≡ none
      at true q n ih = ap (named j) (without-here k p ms q) ∙ ih
      at false q n ih = ap (named j) (without-there k p ms q) ∙ named-there j p (without k ms) n ∙ ih

  none-through : (j k : ℕ) (ms : List (ℕ × A)) → named j ms ≡ none → named j (through k ms) ≡ none
  none-through j k [] e = refl
  none-through j k (p ∷ ms) e = let h = unnamed j p ms e in at (eqb p.0 k) refl h.0 (none-through j k ms h.1)
    where
      at : (b : Bool) → eqb p.0 k ≡ b → eqb p.0 j ≡ false → named j (through k ms) ≡ none → named j (through k (p ∷ ms)) ≡ none
      at true q n ih = ap (named j) (through_here k p ms q) ∙ named-there j p [] n
      at false q n ih = ap (named j) (through-there k p ms q) ∙ named-there j p (through k ms) n ∙ ih

  -- ---- each name is marked once

  abbrev pub Once : List (ℕ × A) → Type 0
  Once [] = Unit {0}
  Once (p ∷ ms) = (named p.0 ms ≡ none) × Once ms

  pub once-without : (k : ℕ) (ms : List (ℕ × A)) → Once ms → Once (without k ms)
  once-without k [] o = tt
  once-without k (p ∷ ms) o = at (eqb p.0 k) refl (once-without k ms o.1)
    where
      at : (b : Bool) → eqb p.0 k ≡ b → Once (without k ms) → Once (without k (p ∷ ms))
      at true q ih = subst Once (sym (without-here k p ms q)) ih
      at false q ih = subst Once (sym (without-there k p ms q)) (none-without p.0 k ms o.0, ih)

  once-append : (k : ℕ) (x : A) (ms : List (ℕ × A)) → named k ms ≡ none → Once ms → Once (ms ++ ((k, x) ∷ []))
  once-append k x [] e o = (refl, tt)
  once-append k x (p ∷ ms) e o =
      let h = unnamed k p ms e in
      (named-append p.0 ms ((k, x) ∷ []) o.0 ∙ named-there p.0 (k, x) [] (turned p.0 k h.0), once-append k x ms h.1 o.1)

  pub once-marked : (k : ℕ) (d : Desk A) → Once d.marks → Once (marked k d).marks
  once-marked k d o = once-append k d.now (without k d.marks) (named-without k d.marks) (once-without k d.marks o)

  pub once-through : (k : ℕ) (ms : List (ℕ × A)) → Once ms → Once (through k ms)
  once-through k [] o = tt
  once-through k (p ∷ ms) o = at (eqb p.0 k) refl (once-through k ms o.1)
    where
      at : (b : Bool) → eqb p.0 k ≡ b → Once (through k ms) → Once (through k (p ∷ ms))
      at true q ih = subst Once (sym (through_here k p ms q)) (refl, tt)
      at false q ih = subst Once (sym (through-there k p ms q)) (none-through p.0 k ms o.0, ih)

  -- ---- names below n: at most n marks

  abbrev pub NamesBelow : ℕ → List (ℕ × A) → Type 0
  NamesBelow n [] = Unit {0}
  NamesBelow n (p ∷ ms) = (p.0 < n) × NamesBelow n ms

  pub names-without : (n k : ℕ) (ms : List (ℕ × A)) → NamesBelow n ms → NamesBelow n (without k ms)
  names-without n k [] h = tt
  names-without n k (p ∷ ms) h = at (eqb p.0 k) (names-without n k ms h.1)
    where
      at : (b : Bool) → NamesBelow n (without k ms) → NamesBelow n (cons_if (not b) p (without k ms))
      at true ih = ih
      at false ih = (h.0, ih)

  names-append : (n k : ℕ) (x : A) (ms : List (ℕ × A)) → k < n → NamesBelow n ms → NamesBelow n (ms ++ ((k, x) ∷ []))
  names-append n k x [] l h = (l, tt)
  names-append n k x (p ∷ ms) l h = (h.0, names-append n k x ms l h.1)

  pub names_marked : (n k : ℕ) (d : Desk A) → k < n → NamesBelow n d.marks → NamesBelow n (marked k d).marks
  names_marked n k d l h = names-append n k d.now (without k d.marks) l (names-without n k d.marks h)

  pub names-through : (n k : ℕ) (ms : List (ℕ × A)) → NamesBelow n ms → NamesBelow n (through k ms)
  names-through n k [] h = tt
  names-through n k (p ∷ ms) h = (h.0, at (eqb p.0 k) (names-through n k ms h.1))
    where
      at : (b : Bool) → NamesBelow n (through k ms) → NamesBelow n (cond b [] (through k ms))
      at true ih = tt
      at false ih = ih

  pub absent-stays : (k : ℕ) (ms : List (ℕ × A)) → named k ms ≡ none → without k ms ≡ ms
  absent-stays k [] e = refl
  absent-stays k (p ∷ ms) e = let h = unnamed k p ms e in without-there k p ms h.0 ∙ ap (λ (l : List (ℕ × A)). p ∷ l) (absent-stays k ms h.1)

  one_less : (k : ℕ) (ms : List (ℕ × A)) → Once ms → length ms ≤ suc (length (without k ms))
  one_less k [] o = omega arith
  one_less k (p ∷ ms) o = at (eqb p.0 k) refl (one_less k ms o.1)
    where
      at : (b : Bool) → eqb p.0 k ≡ b → length ms ≤ suc (length (without k ms)) → suc (length ms) ≤ suc (length (without k (p ∷ ms)))
      at true q ih =
          let e : length (without k (p ∷ ms)) ≡ length ms = ap length (without-here k p ms q ∙ absent-stays k ms (ap (λ (a : ℕ). named a ms) (sym (same p.0 k q)) ∙ o.0)) in
          omega arith
      at false q ih = let e : length (without k (p ∷ ms)) ≡ suc (length (without k ms)) = ap length (without-there k p ms q) in omega arith

  names-less : (n : ℕ) (ms : List (ℕ × A)) → NamesBelow (suc n) ms → NamesBelow n (without n ms)
  names-less n [] h = tt
  names-less n (p ∷ ms) h = at (eqb p.0 n) refl (names-less n ms h.1)
    where
      less : p.0 < suc n → (p.0 ≡ n → ⊥) → p.0 < n
      less h e = omega arith

      at : (b : Bool) → eqb p.0 n ≡ b → NamesBelow n (without n ms) → NamesBelow n (cons_if (not b) p (without n ms))
      at true q ih = ih
      at false q ih = (less h.0 (other p.0 n q), ih)

  pub marks-few : (n : ℕ) (ms : List (ℕ × A)) → Once ms → NamesBelow n ms → length ms ≤ n
  marks-few zero [] o h = omega arith
  marks-few zero (p ∷ ms) o h = absurd (not-suc-le-zero h.0)
  marks-few (suc n) ms o h = let x = marks-few n (without n ms) (once-without n ms o) (names-less n ms h) in let y = one_less n ms o in omega arith

  -- ---- marks in time

  -- older marks, none of name k; then that of k, with state s; then the newer ones
  pub data From (k : ℕ) (s : A) (newer : List (ℕ × A)) : List (ℕ × A) → Type 0 where
    here : From k s newer ((k, s) ∷ newer)
    older : {p : ℕ × A} {ms : List (ℕ × A)} → eqb p.0 k ≡ false → From k s newer ms → From k s newer (p ∷ ms)

  -- where a name is marked
  pub from_some : (k : ℕ) (s : A) (ms : List (ℕ × A)) → named k ms ≡ some s → (newer : List (ℕ × A)) × From k s newer ms
  from_some k s [] e = some-none (sym e)
  from_some k s (p ∷ ms) e = at (eqb p.0 k) refl e (from_some k s ms)
    where
      value : {x y : A} → some x ≡ some y → x ≡ y
      value e = cc

      at : (b : Bool) → eqb p.0 k ≡ b → cond b (some p.1) (named k ms) ≡ some s → (named k ms ≡ some s → (newer : List (ℕ × A)) × From k s newer ms) → (newer : List (ℕ × A)) × From k s newer (p ∷ ms)
      at true q e f = (ms, subst (λ (p' : ℕ × A). From k s ms (p' ∷ ms)) (sym (ap₂ (λ (a : ℕ) (x : A). (a, x)) (same p.0 k q) (value e))) here)
      at false q e f = let h = f e in (h.0, older q h.1)

  pub from_named : (k : ℕ) (s : A) (newer ms : List (ℕ × A)) → From k s newer ms → named k ms ≡ some s
  from_named k s newer _ here = named_here k (k, s) newer (self k)
  from_named k s newer _ (older {p} {ms} q f) = named-there k p ms q ∙ from_named k s newer ms f

  -- "forgets the marks made after it", and not its own
  pub from-through : (k : ℕ) (s : A) (newer ms : List (ℕ × A)) → From k s newer ms → From k s [] (through k ms)
  from-through k s newer _ here = subst (From k s []) (sym (through_here k (k, s) newer (self k))) here
  from-through k s newer _ (older {p} {ms} q f) = subst (From k s []) (sym (through-there k p ms q)) (older q (from-through k s newer ms f))

  -- "Marking a used name moves it": to the end
  from_end : (k : ℕ) (x : A) (ms : List (ℕ × A)) → named k ms ≡ none → From k x [] (ms ++ ((k, x) ∷ []))
  from_end k x [] e = here
  from_end k x (p ∷ ms) e = let h = unnamed k p ms e in older h.0 (from_end k x ms h.1)

  pub from-marked : (k : ℕ) (d : Desk A) → From k d.now [] (marked k d).marks
  from-marked k d = from_end k d.now (without k d.marks) (named-without k d.marks)

  -- another name moves, or is new: it is among the newer ones
  pub from-other : (j k : ℕ) (s x : A) (newer ms : List (ℕ × A)) → eqb k j ≡ false → From k s newer ms → From k s (without j newer ++ ((j, x) ∷ [])) (without j ms ++ ((j, x) ∷ []))
  from-other j k s x newer _ n here = subst (λ (l : List (ℕ × A)). From k s (without j newer ++ ((j, x) ∷ [])) (l ++ ((j, x) ∷ []))) (sym (without-there j (k, s) newer n)) here
  from-other j k s x newer _ n (older {p} {ms} q f) = at (eqb p.0 j) refl (from-other j k s x newer ms n f)
    where
      at : (b : Bool) → eqb p.0 j ≡ b → From k s (without j newer ++ ((j, x) ∷ [])) (without j ms ++ ((j, x) ∷ [])) → From k s (without j newer ++ ((j, x) ∷ [])) (without j (p ∷ ms) ++ ((j, x) ∷ []))
      at true c ih = subst (λ (l : List (ℕ × A)). From k s (without j newer ++ ((j, x) ∷ [])) (l ++ ((j, x) ∷ []))) (sym (without-here j p ms c)) ih
      at false c ih = subst (λ (l : List (ℕ × A)). From k s (without j newer ++ ((j, x) ∷ [])) (l ++ ((j, x) ∷ []))) (sym (without-there j p ms c)) (older q ih)

  -- the marks from k on
  abbrev pub since : ℕ → List (ℕ × A) → List (ℕ × A)
  since k [] = []
  since k (p ∷ ms) = cond (eqb p.0 k) (p ∷ ms) (since k ms)

  from-since : (k : ℕ) (s : A) (newer ms : List (ℕ × A)) → From k s newer ms → since k ms ≡ (k, s) ∷ newer
  from-since k s newer _ here = ap (λ (b : Bool). cond b ((k, s) ∷ newer) (since k newer)) (self k)
  from-since k s newer _ (older {p} {ms} q f) = ap (λ (b : Bool). cond b (p ∷ ms) (since k ms)) q ∙ from-since k s newer ms f

  newer-named : (j k : ℕ) (s x : A) (newer ms : List (ℕ × A)) → Once ms → From k s newer ms → named j ((k, s) ∷ newer) ≡ some x → named j ms ≡ some x
  newer-named j k s x newer _ o here e = e
  newer-named j k s x newer _ o (older {p} {ms} q f) e = at (eqb p.0 j) refl (newer-named j k s x newer ms o.1 f e)
    where
      at : (b : Bool) → eqb p.0 j ≡ b → named j ms ≡ some x → named j (p ∷ ms) ≡ some x
      at true c h = some-none (sym h ∙ ap (λ (a : ℕ). named a ms) (sym (same p.0 j c)) ∙ o.0)
      at false c h = named-there j p ms c ∙ h

  -- going back to one of them keeps k and what was newer up to it
  abbrev pub newer_through : ℕ → ℕ → List (ℕ × A) → List (ℕ × A)
  newer_through j k newer = cond (eqb k j) [] (through j newer)

  from_back : (j k : ℕ) (s x : A) (newer ms : List (ℕ × A)) → Once ms → From k s newer ms → named j ((k, s) ∷ newer) ≡ some x → From k s (newer_through j k newer) (through j ms)
  from_back j k s x newer _ o here e = here
  from_back j k s x newer _ o (older {p} {ms} q f) e = at (eqb p.0 j) refl (from_back j k s x newer ms o.1 f e)
    where
      at : (b : Bool) → eqb p.0 j ≡ b → From k s (newer_through j k newer) (through j ms) → From k s (newer_through j k newer) (through j (p ∷ ms))
      at true c h = some-none (sym (newer-named j k s x newer ms o.1 f e) ∙ ap (λ (a : ℕ). named a ms) (sym (same p.0 j c)) ∙ o.0)
      at false c h = subst (From k s (newer_through j k newer)) (sym (through-there j p ms c)) (older q h)

  -- a name found from k on
  pub record Later (j k : ℕ) (s x : A) (newer ms : List (ℕ × A)) : Type 0 where
    pub is : named j ms ≡ some x
    pub kept : From k s (newer_through j k newer) (through j ms)

  pub later : (j k : ℕ) (s x : A) (newer ms : List (ℕ × A)) → Once ms → From k s newer ms → named j ((k, s) ∷ newer) ≡ some x → Later j k s x newer ms
  later j k s x newer ms o f e = record { is = newer-named j k s x newer ms o f e; kept = from_back j k s x newer ms o f e }

  pub since-named : (j k : ℕ) (s : A) (newer ms : List (ℕ × A)) → From k s newer ms → named j (since k ms) ≡ named j ((k, s) ∷ newer)
  since-named j k s newer ms f = ap (named j) (from-since k s newer ms f)

  -- ---- what going back forgets, and what it leaves

  -- a mark made after k is forgotten
  pub forgets-later : (j k : ℕ) (s x : A) (newer ms : List (ℕ × A)) → Once ms → From k s newer ms → named j newer ≡ some x → named j (through k ms) ≡ none
  forgets-later j k s x newer _ o here e = at (eqb k j) refl
    where
      at : (b : Bool) → eqb k j ≡ b → named j (through k ((k, s) ∷ newer)) ≡ none
      at true c = some-none (sym e ∙ ap (λ (a : ℕ). named a newer) (sym (same k j c)) ∙ o.0)
      at false c = ap (named j) (through_here k (k, s) newer (self k)) ∙ named-there j (k, s) [] c
  forgets-later j k s x newer _ o (older {p} {ms} q f) e = at (eqb p.0 j) refl (newer-in ms f) (forgets-later j k s x newer ms o.1 f e)
    where
      newer-in : (ms : List (ℕ × A)) → From k s newer ms → named j ms ≡ none → ⊥
      newer-in _ here z = some-none (sym e ∙ (unnamed j (k, s) newer z).1)
      newer-in _ (older {p} {ms} q f) z = newer-in ms f (unnamed j p ms z).1

      at : (b : Bool) → eqb p.0 j ≡ b → (named j ms ≡ none → ⊥) → named j (through k ms) ≡ none → named j (through k (p ∷ ms)) ≡ none
      at true c n ih = absurd (n (ap (λ (a : ℕ). named a ms) (sym (same p.0 j c)) ∙ o.0))
      at false c n ih = ap (named j) (through-there k p ms q) ∙ named-there j p (through k ms) c ∙ ih

  -- every other stays
  pub keeps-others : (j k : ℕ) (s : A) (newer ms : List (ℕ × A)) → From k s newer ms → named j newer ≡ none → named j (through k ms) ≡ named j ms
  keeps-others j k s newer _ here e = ap (named j) (through_here k (k, s) newer (self k)) ∙ ap (λ (o : Option A). cond (eqb k j) (some s) o) (sym e)
  keeps-others j k s newer _ (older {p} {ms} q f) e = ap (named j) (through-there k p ms q) ∙ ap (λ (o : Option A). cond (eqb p.0 j) (some p.1) o) (keeps-others j k s newer ms f e)

  -- the mark gone back to stays
  pub mark-stays : (k : ℕ) (s : A) (ms : List (ℕ × A)) → named k ms ≡ some s → named k (through k ms) ≡ some s
  mark-stays k s ms e = let f = from_some k s ms e in from_named k s [] (through k ms) (from-through k s f.0 ms f.1)

  -- a name that is marked has the state of now, the others are as they were
  pub mark-moves : (k : ℕ) (d : Desk A) → (named k (marked k d).marks ≡ some d.now) × ((j : ℕ) → (k ≡ j → ⊥) → named j (marked k d).marks ≡ named j d.marks)
  mark-moves k d = (from_named k d.now [] (marked k d).marks (from-marked k d), λ j n. named_other j k d.now (not_same k j n) d.marks)

  -- and is the newest, wherever it was before: going back to any other forgets it
  pub moved-in-time : (j k : ℕ) (d e : Desk A) → Once d.marks → (j ≡ k → ⊥) → gone_back j (marked k d) ≡ some e → named k e.marks ≡ none
  moved-in-time j k d e o n q = at (named j d.marks) refl
    where
      ms : List (ℕ × A)
      ms = (marked k d).marks

      value : {x y : Desk A} → some x ≡ some y → x ≡ y
      value e = cc

      marks-of : (x : Option A) → restored j (marked k d) x ≡ some e → through j ms ≡ e.marks
      marks-of none q = some-none (sym q)
      marks-of (some s) q = ap (λ (d : Desk A). d.marks) (value q)

      is-other : named j ms ≡ named j d.marks
      is-other = (mark-moves k d).1 j (λ z. n (sym z))

      at : (x : Option A) → named j d.marks ≡ x → named k e.marks ≡ none
      at none c = some-none (sym q ∙ ap (restored j (marked k d)) (is-other ∙ c))
      at (some s) c =
          let f = from_some j s d.marks c in
          let newer : List (ℕ × A) = without k f.0 ++ ((k, d.now) ∷ []) in
          ap (named k) (sym (marks-of (named j ms) q))
          ∙ forgets-later k j s d.now newer ms (once-marked k d o) (from-other k j s d.now f.0 d.marks (not_same j k n) f.1)
          (from_named k d.now [] newer (from_end k d.now (without k f.0) (named-without k f.0)))
