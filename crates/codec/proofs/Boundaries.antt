-- From one basic set of checked bytes to the next: what a loop over the basic sets of a set goes by.
use mathlib.Core.Path.{◌≡◌, refl, sym, ap, ◌∙◌, subst}
use mathlib.Core.Bool.{Bool, true, false, cond}
use mathlib.Core.List.{List, [], ◌∷◌}
use Prim.Native.Nat.{ℕ, zero, suc, ◌+◌, ◌≤◌, ◌<◌}
use native.Mathlib.Omega.{arith}
use lib.Dec.{ltb, eqb}
use lib.ListN.{length, drop, get_or}
use borrow.Author.Tests.{eqb-true, eqb-false, ltb-true, ltb-false}
use Rattle.model.specs.Sets as S
use Rattle.model.specs.Sets.{Set}
use Rattle.model.specs.Values.{basic_set_of}
use Rattle.model.specs.declared.BasicSet.{BasicSet}
use Rattle.codec.specs.Bytes.{refused, gives, Command, is_division, Counts, counted, width_of, Built, build, axes_fit, decode, number}
use Rattle.codec.specs.Places.{commands_of, built, basic_at, set_from, end_of, next_of, Checked, opened, Opened, Decoded, Boundary}
use Rattle.codec.proofs.Parsing.{start, read-opens, other-code, decode-bad, decode-good}
use Rattle.codec.proofs.Split.{unless, refusal_of, decode', decode-split}
use Rattle.codec.proofs.Decoded.{clean-start}
use Rattle.codec.proofs.Walking.{added, Head, head, built-end, checked-unrefused}
use Rattle.codec.proofs.Standing.{division-at, constraint-at, opens_at, known, end-here}

-- ---- the whole
module _ (n : ℕ) (s : List ℕ) (z : number (decode n s) ≡ 0) where
  fits : axes_fit n ≡ true
  fits = go (axes_fit n) refl
    where
      go : (b : Bool) → axes_fit n ≡ b → axes_fit n ≡ true
      go true e = e
      go false e = absurd (omega (arith, decode-bad n s e))

  pub boundary_start : Boundary n s 0
  unfolding built
  boundary_start =
      let h : Checked n s 0 start = record { inside = omega arith; accepted = sym (decode-good n s fits) ∙ z } in
      let c = clean-start n start (commands_of (length s) s) (checked-unrefused n s 0 start h) refl in
      record { k = start; here = h; no_divisions = c.0; no_constraints = c.1 }

  pub decode_is : decode n s ≡ gives (set_from s 0)
  unfolding decode' built
  decode_is =
      let e : decode n s ≡ unless (refusal_of n (length s) start s) (set_from s 0) = decode-split n s ∙ ap (λ (b : Bool). cond b (unless (refusal_of n (length s) start s) (build (commands_of (length s) s)).rest) (refused 1)) fits in
      e ∙ zeroed (refusal_of n (length s) start s) (set_from s 0) (ap number (sym e) ∙ z)
    where
      zeroed : (m : ℕ) (a : Set) → number (unless m a) ≡ 0 → unless m a ≡ gives a
      zeroed zero a q = refl
      zeroed (suc m) a q = absurd (omega arith)

pub boundary_end : (s : List ℕ) (at : ℕ) → length s ≤ at → set_from s at ≡ []
boundary_end s at h = ap (λ (b : Built). b.rest) (built-end s at h)

-- ---- past the divisions and constraints at a place
pub record Onward (n : ℕ) (s : List ℕ) (at : ℕ) : Type 0 where
  pub there : Boundary n s (end_of s at)
  pub rest : set_from s at ≡ set_from s (end_of s at)

module _ (n : ℕ) (s : List ℕ) where
  -- what adds nothing to the sets behind it
  past_of : (at next : ℕ) → end_of s next ≡ end_of s at → set_from s at ≡ set_from s next → Onward n s next → Onward n s at
  past_of at next e b p = record { there = subst (Boundary n s) e p.there; rest = b ∙ p.rest ∙ ap (set_from s) e }

  stays : (at : ℕ) (k : Counts) → Checked n s at k → (built (drop at s)).divisions ≡ [] → (built (drop at s)).constraints ≡ [] → Onward n s at
  stays at k c d r =
      let e : at ≡ end_of s at = sym (end-here s at d r) in
      record { there = subst (Boundary n s) e (record { k = k; here = c; no_divisions = d; no_constraints = r }); rest = ap (set_from s) e }

  ended : (at : ℕ) (k : Counts) → Checked n s at k → length s ≤ at → Onward n s at
  ended at k c l = let e = built-end s at l in stays at k c (ap (λ (x : Built). x.divisions) e) (ap (λ (x : Built). x.constraints) e)

  -- by the command at the place: what comes behind it is taken as given
  one : (at : ℕ) (k : Counts) → Checked n s at k → at < length s → ((next : ℕ) (c : Counts) → at < next → Checked n s next c → Onward n s next) → Onward n s at
  one at k c l more = byte (eqb (get_or s at 0) 0x11) refl (is_division (get_or s at 0)) refl
    where
      byte : (x : Bool) → eqb (get_or s at 0) 0x11 ≡ x → (y : Bool) → is_division (get_or s at 0) ≡ y → Onward n s at
      byte true e y g =
          let b = opens_at n s at k c (eqb-true (get_or s at 0) 0x11 e) in
          stays at k c (ap (λ (x : Built). x.divisions) b) (ap (λ (x : Built). x.constraints) b)
      byte false e true g =
          let h = division-at n s at k c g in let o = h.whole.known in
          past_of at (next_of s at) h.end (ap (λ (x : Built). x.rest) h.builds) (more (next_of s at) _ (omega arith) h.there)
      byte false e false g =
          let h = constraint-at n s at k c (other-code (get_or s at 0) (eqb-false (get_or s at 0) 0x11 e) g (known n s at k c l)) in let o = h.whole.known in
          past_of at (next_of s at) h.end (ap (λ (x : Built). x.rest) h.builds) (more (next_of s at) _ (omega arith) h.there)

  past_by : (f at : ℕ) (k : Counts) → length s ≤ at + f → Checked n s at k → Onward n s at
  past_by zero at k m c = ended at k c (omega arith)
  past_by (suc f) at k m c = inside (ltb at (length s)) refl (λ next k' h c'. past_by f next k' (omega arith) c')
    where
      inside : (x : Bool) → ltb at (length s) ≡ x → ((next : ℕ) (c : Counts) → at < next → Checked n s next c → Onward n s next) → Onward n s at
      inside true q more = one at k c (ltb-true at (length s) q) more
      inside false q more = ended at k c (ltb-false at (length s) q)

  pub past : (at : ℕ) (k : Counts) → Checked n s at k → Onward n s at
  past at k c = past_by (length s) at k (omega arith) c

-- ---- one turn of a loop over the basic sets

-- v is the basic set at the place, and the others start behind it
pub record Turn (n : ℕ) (s : List ℕ) (at : ℕ) (v : BasicSet) : Type 0 where
  pub there : Boundary n s (end_of s (at + 1))
  pub set : set_from s at ≡ basic_set_of v ∷ set_from s (end_of s (at + 1))

module _ (n : ℕ) (s : List ℕ) (at : ℕ) (b : Boundary n s at) (l : at < length s) where
  opens-here : get_or s at 0 ≡ 0x11
  opens-here = byte (eqb (get_or s at 0) 0x11) refl (is_division (get_or s at 0)) refl
    where
      no : {A : Type 0} {x : A} {l : List A} → x ∷ l ≡ [] → ⊥
      no e = let z : ◌≡◌ {A = ℕ} 0 1 = cc in omega arith

      byte : (x : Bool) → eqb (get_or s at 0) 0x11 ≡ x → (y : Bool) → is_division (get_or s at 0) ≡ y → get_or s at 0 ≡ 0x11
      byte true e y g = eqb-true (get_or s at 0) 0x11 e
      byte false e true g = absurd (no (ap (λ (x : Built). x.divisions) (sym (division-at n s at b.k b.here g).builds) ∙ b.no_divisions))
      byte false e false g =
          let h = constraint-at n s at b.k b.here (other-code (get_or s at 0) (eqb-false (get_or s at 0) 0x11 e) g (known n s at b.k b.here l)) in
          absurd (no (ap (λ (x : Built). x.constraints) (sym h.builds) ∙ b.no_constraints))

  opening : Head n s at b.k 1
  opening = head n s at b.k 1 b.here l (ap width_of opens-here)

  pub boundary-opened : Opened s (at + 1)
  boundary-opened =
      record {
        n = n;
        basics = b.k.basics + 1;
        here = subst (λ (y : Command). Checked n s (at + 1) (counted b.k y)) (read-opens (get_or s at 0) (drop (at + 1) s) opens-here) opening.there;
      }

  behind : Onward n s (at + 1)
  unfolding boundary-opened
  behind = past n s (at + 1) (opened (b.k.basics + 1)) boundary-opened.here

  -- the next place, and the basic set between the two
  pub boundary-next : Boundary n s (end_of s (at + 1))
  boundary-next = behind.there

  pub boundary-set : set_from s at ≡ basic_at s (at + 1) ∷ set_from s (end_of s (at + 1))
  boundary-set =
      ap (λ (x : Built). x.rest) (opening.builds ∙ ap (λ (y : Command). added y (built (drop (at + 1) s))) (read-opens (get_or s at 0) (drop (at + 1) s) opens-here))
      ∙ ap (λ (r : Set). basic_at s (at + 1) ∷ r) behind.rest

  pub turn : (v : BasicSet) → Decoded s (at + 1) v → Turn n s at v
  turn v d = record { there = boundary-next; set = boundary-set ∙ ap (λ (x : S.BasicSet). x ∷ set_from s (end_of s (at + 1))) (sym d.basic) }
