-- The loops of membership: the divisions' values, the constraints of one basic set, and the basic sets one after another.
use mathlib.Core.Path.{◌≡◌, refl, sym, ap, ap₂, ◌∙◌, subst}
use mathlib.Core.Bool.{Bool, true, false, ◌&&◌, cond}
use mathlib.Core.List.{List, [], ◌∷◌, ◌++◌, append_assoc, append-nil}
use Prim.Native.Nat.{ℕ, suc, ◌+◌, ◌≤◌, ◌<◌}
use native.Mathlib.Nat.{le_refl}
use native.Mathlib.Numerals.{add-one}
use native.Mathlib.Omega.{arith}
use lib.IntN.{ℤ, pos}
use lib.ListN.{length, take, drop, get_or, set, length-set}
use lib.Seq.{take-suc-set}
use Rattle.integers.specs.Z.{Within}
use Rattle.model.specs.Lists.{all}
use Rattle.model.specs.Sets.{Division, Constraint, quotient, quotients, holds, in_basic}
use Rattle.codec.specs.Bytes.{division, constraint, is_division, is_constraint, Counts, counted, Built}
use Rattle.codec.specs.Places.{built, set_from, division_at, constraint_at, next_of, end_of, Checked, opened, Opened, Accepted, Boundary, Tail}
use Rattle.codec.specs.declared.layout.Passed.{Passed}
use Rattle.codec.proofs.Boundaries.{boundary_start, boundary_end, boundary-next, boundary-set}
use Rattle.query.specs.declared.membership.Span.{Span}
use Rattle.std.proofs.Common.{Some, None}
use Rattle.query.specs.Holder.{first_holding, numbered}
use Rattle.query.specs.Holding.{AllWithin, Divided, Judging, Judged, Spanned}
use Rattle.bounds.proofs.Reading.{set-within}
use Rattle.codec.proofs.Standing.{DivisionAt, division-at, ConstraintAt, constraint-at, no-division, no-constraint, end-here}

-- ---- the values of the divisions
pub record Dividing (s : List ℕ) (start : ℕ) (x : List ℤ) (at d : ℕ) (q : List ℤ) : Type 0 where
  pub n : ℕ
  pub k : Counts
  pub here : Checked n s at k
  pub counts : k.divisions ≡ d
  pub few : d ≤ 8
  pub end : end_of s at ≡ end_of s start
  pub places : length q ≡ 8
  pub values : AllWithin 549755813888 q
  pub is : take d q ++ quotients (built (drop at s)).divisions x ≡ quotients (built (drop start s)).divisions x
  pub same : (built (drop at s)).constraints ≡ (built (drop start s)).constraints

pub dividing-start : (s : List ℕ) (start : ℕ) (x q : List ℤ) → Opened s start → length q ≡ 8 → AllWithin 549755813888 q → Dividing s start x start 0 q
dividing-start s start x q o l v =
    record { n = o.n; k = opened o.basics; here = o.here; counts = refl; few = omega arith; end = refl; places = l; values = v; is = refl; same = refl }

module _ (s : List ℕ) (start : ℕ) (x : List ℤ) (at d : ℕ) (q : List ℤ) (g : Dividing s start x at d q) where
  pub dividing-at : is_division (get_or s at 0) ≡ true → DivisionAt g.n s at g.k
  dividing-at e = division-at g.n s at g.k g.here e

  pub dividing-next : is_division (get_or s at 0) ≡ true → (v : ℤ) → v ≡ quotient x (division_at s at) → Within 549755813888 v → Dividing s start x (next_of s at) (d + 1) (set q d v)
  dividing-next e v p w =
      let h = dividing-at e in
      let f = h.few in let a = g.counts in let l = g.places in
      let j : d < length q = omega arith in
      let y : quotients (built (drop at s)).divisions x ≡ v ∷ quotients (built (drop (next_of s at) s)).divisions x =
      ap (λ (u : Built). quotients u.divisions x) h.builds ∙ ap (λ (z : ℤ). z ∷ quotients (built (drop (next_of s at) s)).divisions x) (sym p) in
      record {
        n = g.n;
        k = counted g.k (division (division_at s at));
        here = h.there;
        counts = ap (λ (m : ℕ). m + 1) a;
        few = omega arith;
        end = h.end ∙ g.end;
        places = length-set q d v ∙ l;
        values = set-within 549755813888 q d v g.values w j;
        is =
            ap (λ (m : ℕ). take m (set q d v) ++ quotients (built (drop (next_of s at) s)).divisions x) (add-one d)
            ∙ ap (λ (m : List ℤ). m ++ quotients (built (drop (next_of s at) s)).divisions x) (take-suc-set q d v j)
            ∙ append_assoc (take d q) (v ∷ []) (quotients (built (drop (next_of s at) s)).divisions x)
            ∙ ap (λ (m : List ℤ). take d q ++ m) (sym y) ∙ g.is;
        same = sym (ap (λ (u : Built). u.constraints) h.builds) ∙ g.same;
      }

  pub dividing-end : is_division (get_or s at 0) ≡ false → Divided s start x q (record { count = d; next = at })
  dividing-end e =
      let z = no-division g.n s at g.k g.here e in
      record {
        few = g.few;
        is = sym (append-nil (take d q)) ∙ ap (λ (l : List Division). take d q ++ quotients l x) (sym z) ∙ g.is;
        values = g.values;
        past = record { there = record { n = g.n; k = g.k; here = g.here; none = z }; same = g.same; end = g.end };
      }

-- ---- the constraints
and_assoc : (a b c : Bool) → ((a && b) && c) ≡ (a && (b && c))
and_assoc true b c = refl
and_assoc false b c = refl

and-true : (a : Bool) → (a && true) ≡ a
and-true true = refl
and-true false = refl

module _ (s : List ℕ) (start : ℕ) (ok : Constraint → Bool) (before : Bool) where
  pub judging-start : Tail s start → Judging s start ok before start before
  judging-start t = record { tail = t; past = le_refl start; is = refl; end = refl }

  pub judging-then : (a b : ℕ) (x y : Bool) → Judging s start ok before a x → Judging s a ok x b y → Judging s start ok before b y
  judging-then a b x y f g = let p = f.past in let q = g.past in record { tail = g.tail; past = omega arith; is = g.is ∙ f.is; end = g.end ∙ f.end }

-- the constraint at a place
module _ (s : List ℕ) (at : ℕ) (ok : Constraint → Bool) (t : Tail s at) (e : is_constraint (get_or s at 0) ≡ true) where
  pub judging-at : ConstraintAt t.n s at t.k
  judging-at = constraint-at t.n s at t.k t.here e

  pub judging-next : (so r : Bool) → r ≡ (so && ok (constraint_at s at)) → Judging s at ok so (next_of s at) r
  judging-next so r p =
      let h = judging-at in
      let c : Constraint = constraint_at s at in
      let w = h.whole.known in
      record {
        tail = record { n = t.n; k = counted t.k (constraint c); here = h.there; none = h.later };
        past = omega arith;
        is =
            ap (λ (b : Bool). b && all ok (built (drop (next_of s at) s)).constraints) p
            ∙ and_assoc so (ok c) (all ok (built (drop (next_of s at) s)).constraints)
            ∙ ap (λ (u : Built). so && all ok u.constraints) (sym h.builds);
        end = h.end;
      }

pub judging-end : (s : List ℕ) (start : ℕ) (ok : Constraint → Bool) (at : ℕ) (so : Bool) → Judging s start ok true at so → is_constraint (get_or s at 0) ≡ false → Judged s start ok (record { holds = so; next = at })
judging-end s start ok at so g e =
    let z = no-constraint g.tail.n s at g.tail.k g.tail.here g.tail.none e in
    record { is = sym (and-true so) ∙ ap (λ (l : List Constraint). so && all ok l) (sym z) ∙ g.is; next = sym (end-here s at g.tail.none z) ∙ g.end }

-- ---- one basic set
pub spanned-is : (s : List ℕ) (start : ℕ) (x q : List ℤ) (p : Passed) (r : Span) → Divided s start x q p → Judged s p.next (holds (pos 1) x (take p.count q)) r → Spanned s start (in_basic x) r
spanned-is s start x q p r v j =
    record { is = j.is ∙ ap₂ (λ (l : List ℤ) (m : List Constraint). all (holds (pos 1) x l) m) v.is v.past.same; next = j.next ∙ v.past.end }

-- ---- the basic sets
pub record Finding (s : List ℕ) (x : List ℤ) (at number : ℕ) : Type 0 where
  pub n : ℕ
  pub here : Boundary n s at
  pub few : number ≤ at
  pub is : first_holding (suc number) x (set_from s at) ≡ first_holding 1 x (set_from s 0)

pub finding-start : (s : List ℕ) (x : List ℤ) → Accepted s → Finding s x 0 0
finding-start s x a = record { n = a.n; here = boundary_start a.n s a.accepted; few = omega arith; is = refl }

module _ (s : List ℕ) (x : List ℤ) (at number : ℕ) (g : Finding s x at number) (l : at < length s) (r : Span) (v : Spanned s (at + 1) (in_basic x) r) where
  step : first_holding (suc number) x (set_from s at) ≡ cond r.holds (suc number) (first_holding (suc (suc number)) x (set_from s (end_of s (at + 1))))
  step = ap (first_holding (suc number) x) (boundary-set g.n s at g.here l) ∙ ap (λ (b : Bool). cond b (suc number) (first_holding (suc (suc number)) x (set_from s (end_of s (at + 1))))) (sym v.is)

  pub finding-yes : r.holds ≡ true → Some (number + 1) ≡ numbered (first_holding 1 x (set_from s 0))
  finding-yes e = ap (λ (k : ℕ). Some k) (add-one number) ∙ ap numbered (sym (ap (λ (b : Bool). cond b (suc number) (first_holding (suc (suc number)) x (set_from s (end_of s (at + 1))))) e) ∙ sym step ∙ g.is)

  pub finding-next : r.holds ≡ false → Finding s x r.next (number + 1)
  finding-next e =
      let f = g.few in let p = v.next in
      record {
        n = g.n;
        here = subst (Boundary g.n s) (sym p) (boundary-next g.n s at g.here l);
        few = omega arith;
        is =
            ap₂ (λ (i j : ℕ). first_holding (suc i) x (set_from s j)) (add-one number) p
            ∙ sym (ap (λ (b : Bool). cond b (suc number) (first_holding (suc (suc number)) x (set_from s (end_of s (at + 1))))) e) ∙ sym step ∙ g.is;
      }

pub finding-end : (s : List ℕ) (x : List ℤ) (at number : ℕ) → Finding s x at number → length s ≤ at → None ≡ numbered (first_holding 1 x (set_from s 0))
finding-end s x at number g h = ap numbered (sym (ap (first_holding (suc number) x) (boundary_end s at h)) ∙ g.is)
