-- Two desks with the same calls, one beside the other: where their states go together, they do so after every call that the second gives.
use mathlib.Core.Path.{◌≡◌, refl, ap, ◌∙◌, subst}
use mathlib.Core.Bool.{Bool, true, false, not, cond}
use mathlib.Core.List.{List, [], ◌∷◌, ◌++◌}
use mathlib.Core.Option.{Option, none, some}
use Prim.Native.Nat.{ℕ}
use lib.Dec.{eqb, leb}
use Rattle.model.specs.Lists.{cons_if}
use Rattle.model.specs.Sets.{Division, Constraint}
use Rattle.codec.specs.Bytes.{Answer, refused, gives}
use Rattle.planning.specs.Desk.{Desk, without, marked, named, through, restored, gone_back, Call, start, add, mark, back, fresh, renewed, or_refused, answer}
use Rattle.planning.proofs.Back.{no-gives, given}

module _ {A B : Type 0} (R : A → B → Type 0) where
  abbrev pub Alongside : List (ℕ × A) → List (ℕ × B) → Type 0
  Alongside [] [] = Unit {0}
  Alongside [] (q ∷ qs) = ⊥
  Alongside (p ∷ ps) [] = ⊥
  Alongside (p ∷ ps) (q ∷ qs) = (p.0 ≡ q.0) × R p.1 q.1 × Alongside ps qs

  pub record Together (b : Desk A) (d : Desk B) : Type 0 where
    pub now : R b.now d.now
    pub marks : Alongside b.marks d.marks

  along-without : (k : ℕ) (ps : List (ℕ × A)) (qs : List (ℕ × B)) → Alongside ps qs → Alongside (without k ps) (without k qs)
  along-without k [] [] h = tt
  along-without k [] (q ∷ qs) h = absurd h
  along-without k (p ∷ ps) [] h = absurd h
  along-without k (p ∷ ps) (q ∷ qs) h =
      subst (λ (a : ℕ). Alongside (cons_if (not (eqb p.0 k)) p (without k ps)) (cons_if (not (eqb a k)) q (without k qs))) h.0 (at (eqb p.0 k) (along-without k ps qs h.2))
    where
      at : (c : Bool) → Alongside (without k ps) (without k qs) → Alongside (cons_if (not c) p (without k ps)) (cons_if (not c) q (without k qs))
      at true ih = ih
      at false ih = (h.0, h.1, ih)

  along-append : (k : ℕ) (x : A) (s : B) (ps : List (ℕ × A)) (qs : List (ℕ × B)) → R x s → Alongside ps qs → Alongside (ps ++ ((k, x) ∷ [])) (qs ++ ((k, s) ∷ []))
  along-append k x s [] [] r h = (refl, r, tt)
  along-append k x s [] (q ∷ qs) r h = absurd h
  along-append k x s (p ∷ ps) [] r h = absurd h
  along-append k x s (p ∷ ps) (q ∷ qs) r h = (h.0, h.1, along-append k x s ps qs r h.2)

  along-through : (k : ℕ) (ps : List (ℕ × A)) (qs : List (ℕ × B)) → Alongside ps qs → Alongside (through k ps) (through k qs)
  along-through k [] [] h = tt
  along-through k [] (q ∷ qs) h = absurd h
  along-through k (p ∷ ps) [] h = absurd h
  along-through k (p ∷ ps) (q ∷ qs) h =
      (h.0, h.1, subst (λ (a : ℕ). Alongside (cond (eqb p.0 k) [] (through k ps)) (cond (eqb a k) [] (through k qs))) h.0 (at (eqb p.0 k) (along-through k ps qs h.2)))
    where
      at : (c : Bool) → Alongside (through k ps) (through k qs) → Alongside (cond c [] (through k ps)) (cond c [] (through k qs))
      at true ih = tt
      at false ih = ih

  -- a name is marked on both or on neither
  pub data Both : Option A → Option B → Type 0 where
    neither : Both none none
    both : {x : A} {s : B} → R x s → Both (some x) (some s)

  pub along-named : (k : ℕ) (ps : List (ℕ × A)) (qs : List (ℕ × B)) → Alongside ps qs → Both (named k ps) (named k qs)
  along-named k [] [] h = neither
  along-named k [] (q ∷ qs) h = absurd h
  along-named k (p ∷ ps) [] h = absurd h
  along-named k (p ∷ ps) (q ∷ qs) h =
      subst (λ (a : ℕ). Both (cond (eqb p.0 k) (some p.1) (named k ps)) (cond (eqb a k) (some q.1) (named k qs))) h.0 (at (eqb p.0 k) (along-named k ps qs h.2))
    where
      at : (c : Bool) → Both (named k ps) (named k qs) → Both (cond c (some p.1) (named k ps)) (cond c (some q.1) (named k qs))
      at true ih = both h.1
      at false ih = ih

  module _ (begins₁ : ℕ → List Division → Answer A) (adds₁ : Constraint → A → Answer A) (begins₂ : ℕ → List Division → Answer B) (adds₂ : Constraint → B → Answer B)
      (begin-follows : (n : ℕ) (ds : List Division) (s : B) → begins₂ n ds ≡ gives s → (x : A) × (begins₁ n ds ≡ gives x) × R x s)
      (add-follows : (r : Constraint) (x : A) (s s' : B) → R x s → adds₂ r s ≡ gives s' → (x' : A) × (adds₁ r x ≡ gives x') × R x' s') where
    -- what one desk gives the other gives, and they still go together
    abbrev pub Follows : Call → Desk A → Desk B → Type 0
    Follows c b e = (b' : Desk A) × (answer begins₁ adds₁ c b ≡ gives b') × Together b' e

    follow-start : (n : ℕ) (ds : List Division) (b : Desk A) (e : Desk B) (a : Answer B) → begins₂ n ds ≡ a → fresh a ≡ gives e → Follows (start n ds) b e
    follow-start n ds b e (refused m) p q = no-gives q
    follow-start n ds b e (gives s) p q =
        let f = begin-follows n ds s p in
        (record { now = f.0; marks = [] }, ap fresh f.1, subst (Together (record { now = f.0; marks = [] })) (given q) (record { now = f.2; marks = tt }))

    follow-add : (r : Constraint) (b : Desk A) (d e : Desk B) → Together b d → (a : Answer B) → adds₂ r d.now ≡ a → renewed a d ≡ gives e → Follows (add r) b e
    follow-add r b d e t (refused m) p q = no-gives q
    follow-add r b d e t (gives s) p q =
        let f = add-follows r b.now d.now s t.now p in
        (record { now = f.0; marks = b.marks }, ap (λ (a : Answer A). renewed a b) f.1, subst (Together (record { now = f.0; marks = b.marks })) (given q) (record { now = f.2; marks = t.marks }))

    follow-mark : (k : ℕ) (b : Desk A) (d e : Desk B) → Together b d → (c : Bool) → leb k 15 ≡ c → cond c (gives (marked k d)) (refused 18) ≡ gives e → Follows (mark k) b e
    follow-mark k b d e t false p q = no-gives q
    follow-mark k b d e t true p q = (
      marked k b,
      ap (λ (c : Bool). cond c (gives (marked k b)) (refused 18)) p,
      subst (Together (marked k b)) (given q) (record { now = t.now; marks = along-append k b.now d.now (without k b.marks) (without k d.marks) t.now (along-without k b.marks d.marks t.marks) }),
    )

    follow-back : (k : ℕ) (b : Desk A) (d e : Desk B) → Together b d → (c : Bool) → leb k 15 ≡ c → cond c (or_refused 18 (gone_back k d)) (refused 18) ≡ gives e → Follows (back k) b e
    follow-back k b d e t false p q = no-gives q
    follow-back k b d e t true p q = at (named k b.marks) (named k d.marks) (along-named k b.marks d.marks t.marks) refl q
      where
        at : (o : Option A) (u : Option B) → Both o u → named k b.marks ≡ o → or_refused 18 (restored k d u) ≡ gives e → Follows (back k) b e
        at _ _ neither z q = no-gives q
        at _ _ (both {x} {s} r) z q = (
          record { now = x; marks = through k b.marks },
          ap (λ (c : Bool). cond c (or_refused 18 (gone_back k b)) (refused 18)) p ∙ ap (λ (m : Option A). or_refused 18 (restored k b m)) z,
          subst (Together (record { now = x; marks = through k b.marks })) (given q) (record { now = r; marks = along-through k b.marks d.marks t.marks }),
        )

    pub follows : (c : Call) (b : Desk A) (d e : Desk B) → Together b d → answer begins₂ adds₂ c d ≡ gives e → Follows c b e
    follows (start n ds) b d e t q = follow-start n ds b e (begins₂ n ds) refl q
    follows (add r) b d e t q = follow-add r b d e t (adds₂ r d.now) refl q
    follows (mark k) b d e t q = follow-mark k b d e t (leb k 15) refl q
    follows (back k) b d e t q = follow-back k b d e t (leb k 15) refl q
