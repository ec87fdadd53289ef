-- At a place among the divisions and constraints of a basic set of checked bytes: what stands there, and what comes
-- after it.
use mathlib.Core.Path.{◌≡◌, refl, sym, ap, ◌∙◌, subst}
use mathlib.Core.Bool.{Bool, true, false, ◌&&◌, cond}
use mathlib.Core.List.{List, [], ◌∷◌}
use mathlib.Core.Logic.{◌⊎◌, inl, inr}
use Prim.Native.Nat.{ℕ, ◌+◌, ◌≤◌, ◌<◌}
use native.Mathlib.Omega.{arith}
use lib.Dec.{ltb, leb, eqb, ltb→lt}
use lib.ListN.{length, drop, get_or}
use borrow.Author.Tests.{eqb-true, eqb-false, ltb-true, ltb-false}
use Rattle.codec.specs.Bytes.{Command, opens, division, constraint, is_division, is_numbered, is_constraint, goes_on, head_of, division_body, constraint_body, Counts, tests_of, refusal, counted, width_of, is_misnumbered, Built}
use Rattle.codec.specs.Places.{built, body_at, division_at, constraint_at, next_of, division_width, bare_width, numbered_width, constraint_width, widths, end_of, Whole, Checked}
use Rattle.codec.proofs.Parsing.{all-passed, read-opens, read-division, read-constraint, width-division, width-constraint, width-bare, width-numbered, bare-code, well-numbered, headed-none, head-none, division-code, constraint-code, no_code, other-code, on-code, off_code, body-room}
use Rattle.codec.proofs.Walking.{added, head, ordered, inside_of, built-end}
use Rattle.model.proofs.Count.{and_left}

-- ---- what stands at a place
pub record DivisionAt (n : ℕ) (s : List ℕ) (at : ℕ) (k : Counts) : Type 0 where
  pub whole : Whole s at
  pub body : division_body ≤ length (body_at s at)
  pub few : k.divisions < 8
  pub divisor : 0 < (division_at s at).divisor
  pub there : Checked n s (next_of s at) (counted k (division (division_at s at)))
  pub builds : built (drop at s) ≡ added (division (division_at s at)) (built (drop (next_of s at) s))
  pub end : end_of s (next_of s at) ≡ end_of s at

pub record ConstraintAt (n : ℕ) (s : List ℕ) (at : ℕ) (k : Counts) : Type 0 where
  pub whole : Whole s at
  pub body : constraint_body ≤ length (body_at s at)
  pub few : k.constraints < 48
  pub there : Checked n s (next_of s at) (counted k (constraint (constraint_at s at)))
  pub builds : built (drop at s) ≡ added (constraint (constraint_at s at)) (built (drop (next_of s at) s))
  pub later : (built (drop (next_of s at) s)).divisions ≡ []
  pub end : end_of s (next_of s at) ≡ end_of s at

-- the widths of a command and of what it reads as
width-of-division : (b : ℕ) → is_division b ≡ true → width_of b ≡ 23
width-of-division b e = let q : b ≡ 0x12 = eqb-true b 0x12 e in ap width_of q

width-of-constraint : (b : ℕ) (s : List ℕ) → is_division b ≡ false → is_constraint b ≡ true → is_misnumbered b (head_of b s) ≡ false → width_of b ≡ cond (eqb (head_of b s) 0) bare_width numbered_width
width-of-constraint b s f e g = go (is_numbered b) refl
  where
    go : (x : Bool) → is_numbered b ≡ x → width_of b ≡ cond (eqb (head_of b s) 0) bare_width numbered_width
    go true q = width-numbered b q ∙ sym (ap (λ (x : Bool). cond x bare_width numbered_width) (sym (ap (λ (x : Bool). x && eqb (head_of b s) 0) q) ∙ g))
    go false q = width-bare b (bare-code b e q) ∙ sym (ap (λ (m : ℕ). cond (eqb m 0) bare_width numbered_width) (head-none b s (headed-none b f q)))

module _ (n : ℕ) (s : List ℕ) (at : ℕ) (k : Counts) (c : Checked n s at k) where
  pub division-at : is_division (get_or s at 0) ≡ true → DivisionAt n s at k
  division-at e =
      let i = division-code (get_or s at 0) e in
      let w = width-of-division (get_or s at 0) e in
      let h = head n s at k (width_of (get_or s at 0)) c (inside_of s at (get_or s at 0) refl i.some) refl in
      let r = read-division (get_or s at 0) (drop (at + 1) s) e in
      let d : ℕ = (division_at s at).divisor in
      let t = all-passed (tests_of n k (division (division_at s at))) tt (ap (refusal n k) (sym r) ∙ h.none) in
      let b : built (drop at s) ≡ added (division (division_at s at)) (built (drop (next_of s at) s)) = h.builds ∙ ap (λ (y : Command). added y (built (drop (next_of s at) s))) r in
      record {
        whole = record { known = h.wide; room = h.there.inside };
        body = body-room (get_or s at 0) s at division_body (width-division (get_or s at 0) e) h.there.inside;
        few = ltb→lt k.divisions 8 t.1.1.0;
        divisor = ltb→lt 0 d (and_left (ltb 0 d) (leb d 32767) t.1.1.1.0);
        there = subst (λ (y : Command). Checked n s (next_of s at) (counted k y)) r h.there;
        builds = b;
        end = omega (arith, ap (λ (x : Built). widths division_width x.divisions) b, ap (λ (x : Built). widths constraint_width x.constraints) b);
      }

  pub constraint-at : is_constraint (get_or s at 0) ≡ true → ConstraintAt n s at k
  constraint-at e =
      let i = constraint-code (get_or s at 0) e in
      let h = head n s at k (width_of (get_or s at 0)) c (inside_of s at (get_or s at 0) refl i.some) refl in
      let g = well-numbered n k (get_or s at 0) (drop (at + 1) s) i.not_opens i.not_division h.none in
      let w = width-of-constraint (get_or s at 0) (drop (at + 1) s) i.not_division e g in
      let r = read-constraint (get_or s at 0) (drop (at + 1) s) i.not_opens i.not_division g in
      let t = all-passed (tests_of n k (constraint (constraint_at s at))) tt (ap (refusal n k) (sym r) ∙ h.none) in
      let u : Checked n s (next_of s at) (counted k (constraint (constraint_at s at))) = subst (λ (y : Command). Checked n s (next_of s at) (counted k y)) r h.there in
      let b : built (drop at s) ≡ added (constraint (constraint_at s at)) (built (drop (next_of s at) s)) = h.builds ∙ ap (λ (y : Command). added y (built (drop (next_of s at) s))) r in
      record {
        whole = record { known = h.wide; room = h.there.inside };
        body = body-room (get_or s at 0) s at constraint_body (width-constraint (get_or s at 0) i.not_opens i.not_division e) h.there.inside;
        few = ltb→lt k.constraints 48 t.1.0;
        there = u;
        builds = b;
        later = ordered n s (next_of s at) _ u (omega arith);
        end = omega (arith, ap (λ (x : Built). widths division_width x.divisions) b, ap (λ (x : Built). widths constraint_width x.constraints) b);
      }

  pub opens_at : get_or s at 0 ≡ 0x11 → built (drop at s) ≡ added opens (built (drop (at + 1) s))
  opens_at e =
      let h = head n s at k 1 c (inside_of s at 0x11 e (omega arith)) (ap width_of e) in
      h.builds ∙ ap (λ (y : Command). added y (built (drop (at + 1) s))) (read-opens (get_or s at 0) (drop (at + 1) s) e)

  pub known : at < length s → width_of (get_or s at 0) ≡ 0 → ⊥
  known l e = let h = head n s at k 0 c l e in let w = h.wide in omega arith

  -- no division here: none in what is left of the basic set
  pub no-division : is_division (get_or s at 0) ≡ false → (built (drop at s)).divisions ≡ []
  no-division e = inside (ltb at (length s)) refl
    where
      byte : at < length s → (x : Bool) → eqb (get_or s at 0) 0x11 ≡ x → (y : Bool) → is_constraint (get_or s at 0) ≡ y → (built (drop at s)).divisions ≡ []
      byte l true p y q = ap (λ (b : Built). b.divisions) (opens_at (eqb-true (get_or s at 0) 0x11 p))
      byte l false p true q = let h = constraint-at q in ap (λ (b : Built). b.divisions) h.builds ∙ h.later
      byte l false p false q = absurd (known l (no_code (get_or s at 0) q (eqb-false (get_or s at 0) 0x11 p) e))

      inside : (x : Bool) → ltb at (length s) ≡ x → (built (drop at s)).divisions ≡ []
      inside false q = ap (λ (b : Built). b.divisions) (built-end s at (ltb-false at (length s) q))
      inside true q = byte (ltb-true at (length s) q) (eqb (get_or s at 0) 0x11) refl (is_constraint (get_or s at 0)) refl

  -- no constraint here, and no division left: the basic set is at its end
  pub no-constraint : (built (drop at s)).divisions ≡ [] → is_constraint (get_or s at 0) ≡ false → (built (drop at s)).constraints ≡ []
  no-constraint d e = inside (ltb at (length s)) refl
    where
      no : {A : Type 0} {x : A} {l : List A} → x ∷ l ≡ [] → ⊥
      no e = let z : ◌≡◌ {A = ℕ} 0 1 = cc in omega arith

      byte : at < length s → (x : Bool) → eqb (get_or s at 0) 0x11 ≡ x → (y : Bool) → is_division (get_or s at 0) ≡ y → (built (drop at s)).constraints ≡ []
      byte l true p y q = ap (λ (b : Built). b.constraints) (opens_at (eqb-true (get_or s at 0) 0x11 p))
      byte l false p true q = let h = division-at q in absurd (no (ap (λ (b : Built). b.divisions) (sym h.builds) ∙ d))
      byte l false p false q = absurd (known l (no_code (get_or s at 0) e (eqb-false (get_or s at 0) 0x11 p) q))

      inside : (x : Bool) → ltb at (length s) ≡ x → (built (drop at s)).constraints ≡ []
      inside false q = ap (λ (b : Built). b.constraints) (built-end s at (ltb-false at (length s) q))
      inside true q = byte (ltb-true at (length s) q) (eqb (get_or s at 0) 0x11) refl (is_division (get_or s at 0)) refl

  -- where the basic set goes on, a division or a constraint; where it does not, nothing is left of it
  pub goes-on-at : goes_on (get_or s at 0) ≡ true → (is_division (get_or s at 0) ≡ true) ⊎ (is_constraint (get_or s at 0) ≡ true)
  goes-on-at e = by (is_division (get_or s at 0)) refl
    where
      by : (x : Bool) → is_division (get_or s at 0) ≡ x → (is_division (get_or s at 0) ≡ true) ⊎ (is_constraint (get_or s at 0) ≡ true)
      by true q = inl q
      by false q = let o = on-code (get_or s at 0) e in inr (other-code (get_or s at 0) o.0 q (known (inside_of s at (get_or s at 0) refl o.1)))

  pub ended_at : goes_on (get_or s at 0) ≡ false → ((built (drop at s)).divisions ≡ []) × ((built (drop at s)).constraints ≡ [])
  ended_at e = let o = off_code (get_or s at 0) e in let d = no-division o.0 in (d, no-constraint d o.1)

-- where a basic set has nothing left, it ends
pub end-here : (s : List ℕ) (at : ℕ) → (built (drop at s)).divisions ≡ [] → (built (drop at s)).constraints ≡ [] → end_of s at ≡ at
end-here s at d r = omega (arith, ap (widths division_width) d, ap (widths constraint_width) r)
