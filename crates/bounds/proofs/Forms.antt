-- The forms of a basic set in checked bytes: their coefficients, and the one at a place.
use mathlib.Core.Path.{◌≡◌, refl, sym, ap, ap₂, ◌∙◌}
use mathlib.Core.Bool.{true, false, ◌&&◌}
use mathlib.Core.List.{List, [], ◌∷◌, ◌++◌, map}
use mathlib.Core.Logic.{⊎_elim}
use Prim.Native.Nat.{ℕ, zero, suc, ◌+◌, ◌≤◌, ◌<◌}
use native.Mathlib.Omega.{arith}
use lib.Dec.{T, ltb→lt}
use lib.IntN.{ℤ}
use lib.ListN.{length, drop, get_or, length-drop}
use lib.Seq.{get_or-drop, drop-drop}
use Rattle.model.specs.Lists.{all}
use Rattle.model.specs.Sets.{Division, Constraint}
use Rattle.model.proofs.Count.{and_left, and_right}
use Rattle.codec.specs.Bytes.{Command, opens, misnumbered, division, constraint, is_division, is_constraint, goes_on, division_body, axes_in, constant_fits, coefficient, Counts, tests_of, counted, Built, build, within}
use Rattle.codec.specs.Places.{commands_of, built, basic_at, body_at, division_at, constraint_at, next_of, Whole, Checked, opened, Opened}
use Rattle.codec.proofs.Parsing.{all-passed, no-misnumbered}
use Rattle.codec.proofs.Decoded.{Unrefused}
use Rattle.codec.proofs.Walking.{checked-unrefused}
use Rattle.codec.proofs.Standing.{division-at, constraint-at, goes-on-at, ended_at}
use Rattle.bounds.specs.Ends.{AllWithin}
use Rattle.bounds.specs.Rows.{forms_of, division_axes, constraint_axes}
use Rattle.bounds.proofs.Reading.{all_nil, all-mono, within_all}

-- ---- sizes
abbrev pub Small : List (List ℤ) → Type 0
Small l = (i : ℕ) → AllWithin 32768 (get_or l i [])

small-nil : Small []
small-nil zero = all_nil
small-nil (suc i) = all_nil

small-cons : (x : List ℤ) (l : List (List ℤ)) → AllWithin 32768 x → Small l → Small (x ∷ l)
small-cons x l h k zero = h
small-cons x l h k (suc i) = k i

small-append : (l m : List (List ℤ)) → Small l → Small m → Small (l ++ m)
small-append [] m h k = k
small-append (x ∷ l) m h k = small-cons x (l ++ m) (h 0) (small-append l m (λ i. h (suc i)) k)

small-axes : (l : List ℤ) → T (all coefficient l) → AllWithin 32768 l
small-axes l t = all-mono (omega arith) (within_all 32766 l t)

small-build : (n : ℕ) (k : Counts) (cs : List Command) → Unrefused n k cs → Small (map division_axes (build cs).divisions) × Small (map constraint_axes (build cs).constraints)
small-build n k [] u = (small-nil, small-nil)
small-build n k (opens ∷ cs) u = (small-nil, small-nil)
small-build n k (misnumbered ∷ cs) u = absurd (no-misnumbered n k u.0)
small-build n k (division e ∷ cs) u =
    let b = small-build n (counted k (division e)) cs u.1 in
    let t = all-passed (tests_of n k (division e)) tt u.0 in
    (small-cons e.axes (map division_axes (build cs).divisions) (small-axes e.axes (and_right (within (lib.IntN.negsuc 999999999) (lib.IntN.pos 1000000000) e.constant) (all coefficient e.axes) t.1.1.1.1.0)) b.0, b.1)
small-build n k (constraint r ∷ cs) u =
    let b = small-build n (counted k (constraint r)) cs u.1 in
    let t = all-passed (tests_of n k (constraint r)) tt u.0 in
    let a = and_right (constant_fits r.kind r.constant) (all coefficient r.axes && all coefficient r.divisions) t.1.1.0 in
    (b.0, small-cons r.axes (map constraint_axes (build cs).constraints) (small-axes r.axes (and_left (all coefficient r.axes) (all coefficient r.divisions) a)) b.1)

pub small-forms : (s : List ℕ) (at : ℕ) → Opened s at → Small (forms_of (basic_at s at).divisions (basic_at s at).constraints)
unfolding built
small-forms s at o =
    let b = small-build o.n (opened o.basics) (commands_of (length (drop at s)) (drop at s)) (checked-unrefused o.n s at (opened o.basics) o.here) in
    small-append (map division_axes (basic_at s at).divisions) (map constraint_axes (basic_at s at).constraints) b.0 b.1

-- ---- how many
few-build : (n : ℕ) (k : Counts) (cs : List Command) → Unrefused n k cs → k.divisions ≤ 8 → k.constraints ≤ 48 → (k.divisions + length (build cs).divisions ≤ 8) × (k.constraints + length (build cs).constraints ≤ 48)
few-build n k [] u d c = (omega arith, omega arith)
few-build n k (opens ∷ cs) u d c = (omega arith, omega arith)
few-build n k (misnumbered ∷ cs) u d c = absurd (no-misnumbered n k u.0)
few-build n k (division e ∷ cs) u d c =
    let l = ltb→lt k.divisions 8 (all-passed (tests_of n k (division e)) tt u.0).1.1.0 in
    let b = few-build n (counted k (division e)) cs u.1 (omega arith) c in let x = b.0 in (omega arith, b.1)
few-build n k (constraint r ∷ cs) u d c =
    let l = ltb→lt k.constraints 48 (all-passed (tests_of n k (constraint r)) tt u.0).1.0 in
    let b = few-build n (counted k (constraint r)) cs u.1 d (omega arith) in let x = b.1 in (b.0, omega arith)

forms-length : (es : List Division) (cs : List Constraint) → length (forms_of es cs) ≡ length es + length cs
forms-length [] [] = refl
forms-length [] (c ∷ cs) = let e = forms-length [] cs in omega arith
forms-length (d ∷ es) cs = let e = forms-length es cs in omega arith

-- ---- the form at a place
abbrev pub forms_from : List ℕ → ℕ → List (List ℤ)
forms_from s at = forms_of (built (drop at s)).divisions (built (drop at s)).constraints

pub few-forms : (s : List ℕ) (at : ℕ) → Opened s at → length (forms_from s at) ≤ 56
unfolding built
few-forms s at o =
    let b = few-build o.n (opened o.basics) (commands_of (length (drop at s)) (drop at s)) (checked-unrefused o.n s at (opened o.basics) o.here) (omega arith) (omega arith) in
    let x = b.0 in let y = b.1 in omega (arith, forms-length (built (drop at s)).divisions (built (drop at s)).constraints)

-- the head of what is left of a list
pub record Headed {A : Type 0} (l : List A) (i : ℕ) (d x : A) (m : List A) : Type 0 where
  pub inside : i < length l
  pub is : get_or l i d ≡ x
  pub more : drop (i + 1) l ≡ m

pub headed : {A : Type 0} (l : List A) (i : ℕ) (d x : A) (m : List A) → drop i l ≡ x ∷ m → Headed l i d x m
headed {A} l i d x m e =
    let z : i + 0 ≡ i = omega arith in
    record {
      inside = omega (arith, length-drop i l, ap length e);
      is = ap (λ (j : ℕ). get_or l j d) (sym z) ∙ sym (get_or-drop i l 0 d) ∙ ap (λ (y : List A). get_or y 0 d) e;
      more = sym (drop-drop 1 i l) ∙ ap (drop 1) e;
    }

pub record FormAt (n : ℕ) (s : List ℕ) (at : ℕ) (k : Counts) : Type 0 where
  pub k' : Counts
  pub whole : Whole s at
  pub body : division_body ≤ length (body_at s at)
  pub there : Checked n s (next_of s at) k'
  pub forms : forms_from s at ≡ axes_in (body_at s at) ∷ forms_from s (next_of s at)

module _ (n : ℕ) (s : List ℕ) (at : ℕ) (k : Counts) (c : Checked n s at k) where
  form-division : is_division (get_or s at 0) ≡ true → FormAt n s at k
  form-division e =
      let d = division-at n s at k c e in
      record { k' = counted k (division (division_at s at)); whole = d.whole; body = d.body; there = d.there; forms = ap (λ (u : Built). forms_of u.divisions u.constraints) d.builds }

  form-constraint : is_constraint (get_or s at 0) ≡ true → FormAt n s at k
  form-constraint e =
      let d = constraint-at n s at k c e in let b = d.body in
      let q : Constraint = constraint_at s at in
      record {
        k' = counted k (constraint q);
        whole = d.whole;
        body = omega arith;
        there = d.there;
        forms =
            ap (λ (u : Built). forms_of u.divisions u.constraints) d.builds
            ∙ ap (λ (es : List Division). forms_of es (q ∷ (built (drop (next_of s at) s)).constraints)) d.later
            ∙ ap (λ (es : List Division). q.axes ∷ forms_of es (built (drop (next_of s at) s)).constraints) (sym d.later);
      }

  -- where the basic set goes on: a division or a constraint
  pub form-at : goes_on (get_or s at 0) ≡ true → FormAt n s at k
  form-at h = ⊎_elim form-division form-constraint (goes-on-at n s at k c h)

  -- where it does not, no form is left
  pub form-end : goes_on (get_or s at 0) ≡ false → forms_from s at ≡ []
  form-end h = let z = ended_at n s at k c h in ap₂ forms_of z.0 z.1
