-- The calls on a set and a box: their refusals in order, and the points outside.
use mathlib.Core.Path.{◌≡◌, refl, sym, ap, ap₂, ◌∙◌, subst}
use mathlib.Core.Bool.{Bool, true, false, ◌&&◌, cond}
use mathlib.Core.List.{List, [], ◌∷◌}
use Prim.Native.Nat.{ℕ, ◌≤◌}
use native.Mathlib.Omega.{arith}
use lib.IntN.{ℤ}
use lib.ListN.{length, take, length-take}
use Rattle.model.specs.Sets.{BasicSet, Set}
use Rattle.model.proofs.Count.{to-T}
use Rattle.codec.specs.Bytes.{Answer, refused, gives, decode, number}
use Rattle.codec.specs.Places.{set_from}
use Rattle.codec.proofs.Boundaries.{decode_is}
use Rattle.codec.proofs.Decoded.{Bytes}
use Rattle.algebra.specs.Cut.{keeps, difference, difference_fits}
use Rattle.algebra.specs.Result.{Result, length_of}
use Rattle.results.specs.declared.results.Done.{Done}
use Rattle.results.specs.Outcome.{Outcome, outcome_is}
use Rattle.results.specs.Results.{Made, Finished}
use Rattle.std.specs.Prelude.{Err}
use Rattle.model.specs.declared.refusal.Refusal.{Refusal}
use Rattle.model.specs.declared.refusal.Refusal.TheVariants.{BadPoint, BadLimit}
use Rattle.model.specs.Refused.{number_of}
use Rattle.codec.proofs.Refusing.{refused-by}
use Rattle.query.proofs.Answers.{axes-most}
use Rattle.enumeration.specs.Search.{box_fits, limit_fits}
use Rattle.search.specs.Sides.{Boxed}
use Rattle.boxes.specs.Box.{box_basic, outside, outside_fits, outside_result, outside_bytes}
use Rattle.boxes.specs.Range.{Reading, read, range_in, range_bytes}
use Rattle.boxes.proofs.Boxed.{box-valid}
use Rattle.boxes.proofs.Outside.{lows-fit, highs-fit, outside-given}
use Rattle.subtraction.specs.Subtraction.{From}
use Rattle.operations.proofs.Meanings.{given-bytes}
use Rattle.model.specs.declared.BasicSet.{BasicSet as Stored}
use Rattle.model.specs.Values.{basic_set_of}
use Rattle.coverage.specs.Boxing.{BoxIs}
use Rattle.coverage.specs.Calls.{Fitting, Limited, Taken}
use Rattle.codec.specs.Valid.{Valid}

-- ---- refusals
module _ (n : ℕ) (s : List ℕ) (ls hs : List ℤ) where
  -- of a set that decodes, whether the box fits and whether the limits do
  abbrev outside_as : ℕ → Bool → Answer (List ℕ)
  outside_as room b = cond b (outside_result n room ls hs (set_from s 0)) (refused 12)

  abbrev range_as : ℕ → ℕ → ℕ → Bool → Bool → Answer Reading
  range_as room i j b c = cond b (cond c (read (range_in n (set_from s 0) ls hs i j) (outside_result n room ls hs (set_from s 0))) (refused 13)) (refused 12)

  -- the set's
  pub fitting-set : (r : Refusal) → number_of r ≡ number (decode n s) → Fitting n s ls hs (Err r)
  unfolding outside_bytes range_bytes
  fitting-set r e = record { outsides = λ room. outside_no room d; ranges = λ room i j. range-no room i j d }
    where
      d : decode n s ≡ refused (number_of r)
      d = refused-by r (decode n s) e

      outside_no : (room : ℕ) → decode n s ≡ refused (number_of r) → outside_bytes n room s ls hs ≡ refused (number_of r)
      outside_no room d = rw (d, outside_bytes)

      range-no : (room i j : ℕ) → decode n s ≡ refused (number_of r) → range_bytes n room s ls hs i j ≡ refused (number_of r)
      range-no room i j d = rw (d, range_bytes)

  module _ (z : number (decode n s) ≡ 0) where
    pub outside-is : (room : ℕ) → outside_bytes n room s ls hs ≡ outside_as room (box_fits n ls hs)
    unfolding outside_bytes
    outside-is room = rw (decode_is n s z, outside_bytes) refl

    pub range-is : (room i j : ℕ) → range_bytes n room s ls hs i j ≡ range_as room i j (box_fits n ls hs) (limit_fits i && limit_fits j)
    unfolding range_bytes
    range-is room i j = rw (decode_is n s z, range_bytes) refl

    -- the box's
    pub fitting-box : box_fits n ls hs ≡ false → Fitting n s ls hs (Err BadPoint)
    fitting-box e =
        record {
          outsides = λ room. outside-is room ∙ ap (outside_as room) e;
          ranges = λ room i j. range-is room i j ∙ ap (λ (b : Bool). range_as room i j b (limit_fits i && limit_fits j)) e;
        }

  -- that of either limit
  pub limited-no : (i j : ℕ) → Boxed n s ls hs → (limit_fits i && limit_fits j) ≡ false → Limited n s ls hs i j (Err BadLimit)
  limited-no i j b e room = range-is b.accepted room i j ∙ ap₂ (range_as room i j) b.box e

-- the points outside of a checked set in a box that fits
pub outside-checked : (n : ℕ) (s : List ℕ) (ls hs : List ℤ) → Boxed n s ls hs → (room : ℕ) → outside_bytes n room s ls hs ≡ outside_result n room ls hs (set_from s 0)
outside-checked n s ls hs b room = outside-is n s ls hs b.accepted room ∙ ap (outside_as n s ls hs room) b.box

-- ---- the points outside
module _ (n : ℕ) (s : List ℕ) (ls hs : List ℤ) (b : Boxed n s ls hs) where
  few : n ≤ 8
  few = axes-most n s b.accepted

  pub axes-fit : (n ≤ 8) × (box_fits n ls hs ≡ true)
  axes-fit = (few, b.box)

  pub box-from : (p : Stored) → BoxIs n ls hs p → From p s
  box-from p x =
      let t = to-T (box_fits n ls hs) b.box in
      record { n = n; valid = subst (Valid n) (sym x.is) (box-valid n ls hs few (lows-fit n ls hs t) (highs-fit n ls hs t)); divs = x.divs; cons = x.cons; cutters = b.accepted }

  pub taken_is : (p : Stored) → BoxIs n ls hs p → (o m o' : List ℕ) (d : Done) (r : Outcome) → length m ≡ length o
      → Made (difference_fits keeps (basic_set_of p ∷ []) (set_from s 0)) (difference keeps (basic_set_of p ∷ []) (set_from s 0)) o d m → Finished d m r o'
      → Result (length o) (outside_result n (length o) ls hs (set_from s 0)) (outcome_is r) o'
  unfolding outside
  taken_is p x o m o' d r e made done =
      subst (λ (k : ℕ). Result k (outside_result n k ls hs (set_from s 0)) (outcome_is r) o') e
      (done.answers (outside_fits n ls hs (set_from s 0)) (difference keeps (box_basic n ls hs ∷ []) (set_from s 0)) o (sym e)
      (subst (λ (w : BasicSet). Made (difference_fits keeps (w ∷ []) (set_from s 0)) (difference keeps (w ∷ []) (set_from s 0)) o d m) x.is made))

-- ---- the bytes that a call gives are the first of its table
module _ (n : ℕ) (s : List ℕ) (ls hs : List ℤ) (b : Boxed n s ls hs) (room l : ℕ) (table : List ℕ) (r : Result room (outside_result n room ls hs (set_from s 0)) (gives l) table) where
  pub taken-bytes : outside_result n room ls hs (set_from s 0) ≡ gives (take l table)
  taken-bytes = given-bytes (outside_result n room ls hs (set_from s 0)) r

  pub taken-table : Bytes s → length ls ≡ 8 → length hs ≡ 8 → Taken n s ls hs table l
  taken-table ps ll lh =
      let d = decode_is n s b.accepted in
      let g = outside-given n room ls hs ll lh s (take l table) ps (set_from s 0) d (to-T (box_fits n ls hs) b.box) taken-bytes in
      record {
        inside = let e : l ≡ length (take l table) = told (r.answer ∙ ap length_of taken-bytes) in omega (arith, length-take l table);
        decoded = g.result ∙ ap (λ (u : Set). gives (outside n ls hs u)) (given (sym g.decoded ∙ d));
      }
    where
      given : {u v : Set} → ◌≡◌ {A = Answer Set} (gives u) (gives v) → u ≡ v
      given e = cc

      told : {i j : ℕ} → ◌≡◌ {A = Answer ℕ} (gives i) (gives j) → i ≡ j
      told e = cc
