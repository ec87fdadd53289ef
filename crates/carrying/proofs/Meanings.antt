-- What the test's answer for a basic set of a set's bytes says (demand 3; document 01, "The test for fractions"): point, that
-- a point with fractions meets it; dropped, that none does; long, that 200 pivots were made; wide, that a row which the next
-- pivot touches has a number beyond the bound of 128 bits.
use mathlib.Core.Path.{◌≡◌, refl, sym, ap, ◌∙◌, subst}
use mathlib.Core.List.{List, [], ◌∷◌}
use mathlib.Core.Option.{Option, none, some}
use Prim.Native.Nat.{ℕ, zero, suc, ◌≤◌}
use lib.Dec.{T}
use lib.ListN.{length}
use Rattle.model.specs.Lists.{all, All}
use Rattle.model.specs.Sets.{Division, Constraint, BasicSet, Set, absent, over_axes, RationalPoint, meets_basic}
use Rattle.model.proofs.Count.{and-make}
use Rattle.codec.specs.Bytes.{Answer, refused, gives, decode}
use Rattle.codec.proofs.Decoded.{Bytes, no_way}
use Rattle.codec.specs.Valid.{ValidDivision, ValidConstraint, Valid}
use Rattle.codec.proofs.Valid.{decode-valid}
use Rattle.feasibility.specs.Tableau.{Verdict, point, dropped, long, wide, test, test_ends, pivots_made}
use Rattle.feasibility.proofs.Start.{dropped-sound}
use Rattle.feasibility.proofs.Points.{Witness, point-sound}
use Rattle.feasibility.proofs.Stops.{long-200, Wide, wide-128}
use Rattle.carrying.specs.Answers.{numbered, tested, test_in, test_bytes}

-- a valid basic set of n axes has no coefficient past the n-th
pub valid-over : (n : ℕ) (b : BasicSet) → Valid n b → T (over_axes n b)
valid-over n b v =
    and-make (all (λ (e : Division). absent n e.axes) b.divisions) (all (λ (r : Constraint). absent n r.axes) b.constraints)
    (divisions b.divisions v.divisions) (constraints (length b.divisions) b.constraints v.constraints)
  where
    divisions : (es : List Division) → All (ValidDivision n) es → T (all (λ (e : Division). absent n e.axes) es)
    divisions [] v = tt
    divisions (e ∷ es) v = and-make (absent n e.axes) (all (λ (e : Division). absent n e.axes) es) v.0.absents (divisions es v.1)

    constraints : (k : ℕ) (rs : List Constraint) → All (ValidConstraint n k) rs → T (all (λ (r : Constraint). absent n r.axes) rs)
    constraints k [] v = tt
    constraints k (r ∷ rs) v = and-make (absent n r.axes) (all (λ (r : Constraint). absent n r.axes) rs) v.0.axis_absents (constraints k rs v.1)

pub numbered-all : (P : BasicSet → Type 0) (s : Set) (k : ℕ) (b : BasicSet) → All P s → numbered s k ≡ some b → P b
numbered-all P s zero b v e = let z : ◌≡◌ {A = ℕ} 0 1 = cc in no_way z
numbered-all P [] (suc zero) b v e = let z : ◌≡◌ {A = ℕ} 0 1 = cc in no_way z
numbered-all P [] (suc (suc i)) b v e = let z : ◌≡◌ {A = ℕ} 0 1 = cc in no_way z
numbered-all P (c ∷ s) (suc zero) b v e = let q : c ≡ b = cc in subst P q v.0
numbered-all P (c ∷ s) (suc (suc i)) b v e = numbered-all P s (suc i) b v.1 e

-- what each answer says of a basic set of n axes, with the number of pivots made
abbrev pub Says : ℕ → BasicSet → Verdict → ℕ → Type 0
Says n b point m = Witness n b
Says n b dropped m =
    (p : RationalPoint) → length p.x ≤ 8 → length p.q ≤ length b.divisions → ¬ T (meets_basic p b)
Says n b long m = m ≡ 200
Says n b wide m = Wide 128 b (test_ends b)

pub record Judged (n : ℕ) (s : List ℕ) (k : ℕ) (v : Verdict) (m : ℕ) : Type 0 where
  pub set : Set
  pub decoded : decode n s ≡ gives set
  pub b : BasicSet
  pub named : numbered set k ≡ some b
  pub verdict : test b ≡ v
  pub pivots : pivots_made b ≡ m
  pub says : Says n b v m

module _ (n : ℕ) (s : List ℕ) (k : ℕ) (v : Verdict) (m : ℕ) (ps : Bytes s) where
  says_of : (b : BasicSet) → Valid n b → test b ≡ v → pivots_made b ≡ m → Says n b v m
  says_of b ok e q = at v e
    where
      at : (v : Verdict) → test b ≡ v → Says n b v m
      at point e = point-sound n b (valid-over n b ok) e
      at dropped e = dropped-sound b e
      at long e = sym q ∙ long-200 b e
      at wide e = wide-128 b e

  pub test-means : test_bytes n s k ≡ gives (some (v, m)) → Judged n s k v m
  unfolding test_bytes
  test-means e = by (decode n s) refl e
    where
      pair : {p q : Verdict × ℕ} → ◌≡◌ {A = Answer (Option (Verdict × ℕ))} (gives (some p)) (gives (some q)) → p ≡ q
      pair e = cc

      on : (set : Set) → decode n s ≡ gives set → (o : Option BasicSet) → numbered set k ≡ o → ◌≡◌ {A = Answer (Option (Verdict × ℕ))} (gives (tested o)) (gives (some (v, m))) → Judged n s k v m
      on set d none q g = let z : ◌≡◌ {A = ℕ} 0 1 = cc in no_way z
      on set d (some b) q g =
          let both : ◌≡◌ {A = Verdict × ℕ} (test b, pivots_made b) (v, m) = pair g in
          let ev : test b ≡ v = ap (λ (p : Verdict × ℕ). p.0) both in
          let em : pivots_made b ≡ m = ap (λ (p : Verdict × ℕ). p.1) both in
          record {
            set = set;
            decoded = d;
            b = b;
            named = q;
            verdict = ev;
            pivots = em;
            says = says_of b (numbered-all (Valid n) set k b (decode-valid n s set ps d).0 q) ev em;
          }

      by : (x : Answer Set) → decode n s ≡ x → test_in x k ≡ gives (some (v, m)) → Judged n s k v m
      by (refused r) d g = let z : ◌≡◌ {A = ℕ} 0 1 = cc in no_way z
      by (gives set) d g = on set d (numbered set k) refl g
