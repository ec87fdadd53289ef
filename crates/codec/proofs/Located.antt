-- Where the basic sets of checked bytes stand.
use mathlib.Core.Path.{◌≡◌, refl, sym, ap, ap₂, ◌∙◌}
use mathlib.Core.Bool.{Bool, true, false, cond}
use mathlib.Core.List.{List, [], ◌∷◌, ◌++◌}
use mathlib.Core.Logic.{⊎_elim}
use Prim.Native.Nat.{ℕ, ◌+◌, ◌-◌, ◌≤◌, ◌<◌}
use native.Mathlib.Numerals.{add-one}
use native.Mathlib.Omega.{arith}
use lib.ListN.{length, take, drop, get_or, length-append, length-drop, drop_of_length-le}
use lib.Seq.{take_all, drop-cons, take-suc}
use borrow.Author.Tests.{lt-ltb, le-ltb}
use Rattle.model.specs.Sets.{BasicSet, Set}
use Rattle.codec.specs.Bytes.{Answer, refused, gives, goes_on, Counts, width_of, encode, decode, number}
use Rattle.codec.specs.Places.{basic_at, set_from, end_of, next_of, Checked, Accepted, Opened, opened, Boundary}
use Rattle.codec.specs.Parts.{nowhere, part_at, part_in, part_of, Started}
use Rattle.codec.proofs.Decoded.{Bytes}
use Rattle.codec.proofs.Standing.{division-at, constraint-at, goes-on-at, ended_at, end-here}
use Rattle.codec.proofs.Boundaries.{boundary_start, boundary_end, boundary-next, boundary-set, decode_is}
use Rattle.codec.proofs.RoundTrips.{basic-size}
use Rattle.codec.proofs.Commands.{encode-more}

-- ---- to the end of a basic set, command by command
pub record Ending (s : List ℕ) (first at : ℕ) : Type 0 where
  pub n : ℕ
  pub k : Counts
  pub here : Checked n s at k
  pub same : end_of s at ≡ end_of s first

pub ending-start : (s : List ℕ) (at : ℕ) → Opened s at → Ending s at at
ending-start s at o = record { n = o.n; k = opened o.basics; here = o.here; same = refl }

module _ (s : List ℕ) (first at : ℕ) (e : Ending s first at) where
  -- a division or a constraint: its width goes on
  pub ending-next : goes_on (get_or s at 0) ≡ true → Ending s first (next_of s at) × (0 < width_of (get_or s at 0))
  ending-next g =
      ⊎_elim
      (λ q. let h = division-at e.n s at e.k e.here q in (record { n = e.n; k = _; here = h.there; same = h.end ∙ e.same }, h.whole.known))
      (λ q. let h = constraint-at e.n s at e.k e.here q in (record { n = e.n; k = _; here = h.there; same = h.end ∙ e.same }, h.whole.known))
      (goes-on-at e.n s at e.k e.here g)

  -- another `11`, or the end
  pub ending-end : goes_on (get_or s at 0) ≡ false → at ≡ end_of s first
  ending-end g = let z = ended_at e.n s at e.k e.here g in sym (end-here s at z.0 z.1) ∙ e.same

-- ---- basic set number i
pub started-first : (s : List ℕ) → Accepted s → Started s 0 0
unfolding encode
started-first s a = record { n = a.n; there = boundary_start a.n s a.accepted; set = refl; place = refl }

module _ (s : List ℕ) (i at : ℕ) (p : Bytes s) (t : Started s i at) where
  pub started-next : at < length s → Started s (i + 1) (end_of s (at + 1))
  started-next h =
      let S : Set = set_from s 0 in
      let b = basic_at s (at + 1) in
      let e : drop i S ≡ b ∷ set_from s (end_of s (at + 1)) = sym t.set ∙ boundary-set t.n s at t.there h in
      let l : i < length S = let x = length-drop i S in let y = ap length e in omega arith in
      let c : drop i S ≡ get_or S i b ∷ drop (i + 1) S = drop-cons S i b l ∙ ap (λ (j : ℕ). get_or S i b ∷ drop j S) (sym (add-one i)) in
      let f : get_or S i b ∷ drop (i + 1) S ≡ b ∷ set_from s (end_of s (at + 1)) = sym c ∙ e in
      let g : get_or S i b ≡ b = cc in
      let k : take (i + 1) S ≡ take i S ++ b ∷ [] = ap (λ (j : ℕ). take j S) (add-one i) ∙ take-suc S i b l ∙ ap (λ (x : BasicSet). take i S ++ x ∷ []) g in
      let z = basic-size t.n s at p t.there h in let q = t.place in
      let m : length (encode (take (i + 1) S)) ≡ length (encode (take i S)) + length (encode (b ∷ [])) = ap (λ (r : Set). length (encode r)) k ∙ ap length (encode-more (take i S) (b ∷ [])) ∙ length-append (encode (take i S)) (encode (b ∷ [])) in
      record { n = t.n; there = boundary-next t.n s at t.there h; set = cc; place = omega arith }

  -- there are no more
  pub started-last : (j : ℕ) → length s ≤ at → i ≤ j → Started s j at
  started-last j h l =
      let S : Set = set_from s 0 in
      let e : drop i S ≡ [] = sym t.set ∙ boundary_end s at h in
      let n : length S ≤ i = let x = length-drop i S in let y = ap length e in omega arith in
      let m : length S ≤ j = omega arith in
      record {
        n = t.n;
        there = t.there;
        set = boundary_end s at h ∙ sym (drop_of_length-le S m);
        place = t.place ∙ ap (λ (r : Set). length (encode r)) (take_all i S n ∙ sym (take_all j S m));
      }

  pub started_none : (n : ℕ) → number (decode n s) ≡ 0 → length s ≤ at → part_of n s (i + 1) ≡ nowhere
  unfolding part_of
  started_none n z h =
      let S : Set = set_from s 0 in
      let e : drop i S ≡ [] = sym t.set ∙ boundary_end s at h in
      let l : length S ≤ i = let x = length-drop i S in let y = ap length e in omega arith in
      ap₂ part_in (decode_is n s z) (add-one i) ∙ ap (λ (b : Bool). cond b (part_at S i) nowhere) (le-ltb i (length S) l)

  pub started-part : (n : ℕ) → number (decode n s) ≡ 0 → at < length s → part_of n s (i + 1) ≡ record { place = at; size = end_of s (at + 1) - at }
  unfolding part_of
  started-part n z h =
      let S : Set = set_from s 0 in
      let b = basic_at s (at + 1) in
      let e : drop i S ≡ b ∷ set_from s (end_of s (at + 1)) = sym t.set ∙ boundary-set t.n s at t.there h in
      let l : i < length S = let x = length-drop i S in let y = ap length e in omega arith in
      let d : take 1 (drop i S) ≡ b ∷ [] = ap (take 1) e in
      ap₂ part_in (decode_is n s z) (add-one i) ∙ ap (λ (c : Bool). cond c (part_at S i) nowhere) (lt-ltb i (length S) l)
      ∙ ap₂ (λ (x y : ℕ). record { place = x; size = y }) (sym t.place) (ap (λ (r : Set). length (encode r)) d ∙ basic-size t.n s at p t.there h)

-- ---- the count
pub record Counting (s : List ℕ) (at k : ℕ) : Type 0 where
  pub n : ℕ
  pub there : Boundary n s at
  pub few : k ≤ at
  pub total : k + length (set_from s at) ≡ length (set_from s 0)

pub counting-start : (s : List ℕ) → Accepted s → Counting s 0 0
counting-start s a = record { n = a.n; there = boundary_start a.n s a.accepted; few = omega arith; total = omega arith }

pub counting-next : (s : List ℕ) (at k : ℕ) → Counting s at k → at < length s → Counting s (end_of s (at + 1)) (k + 1)
counting-next s at k c h =
    let e = ap length (boundary-set c.n s at c.there h) in let t = c.total in let f = c.few in
    record { n = c.n; there = boundary-next c.n s at c.there h; few = omega arith; total = omega arith }

pub part-refused : (n : ℕ) (s : List ℕ) (k : ℕ) → (number (decode n s) ≡ 0 → ⊥) → part_of n s k ≡ nowhere
unfolding part_of
part-refused n s k h = by (decode n s) refl
  where
    by : (a : Answer Set) → decode n s ≡ a → part_in (decode n s) k ≡ nowhere
    by (refused m) e = ap (λ (a : Answer Set). part_in a k) e
    by (gives t) e = absurd (h (ap number e))

pub part-zero : (n : ℕ) (s : List ℕ) → part_of n s 0 ≡ nowhere
unfolding part_of
part-zero n s = by (decode n s)
  where
    by : (a : Answer Set) → part_in a 0 ≡ nowhere
    by (refused m) = refl
    by (gives t) = refl
