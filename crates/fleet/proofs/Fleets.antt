-- What the bytes' answers are, from what the code has tested.
use mathlib.Core.Path.{◌≡◌, refl, sym, ap, ap₂, ◌∙◌, subst}
use mathlib.Core.Bool.{Bool, true, false, cond}
use mathlib.Core.List.{List}
use Prim.Native.Nat.{ℕ, ◌+◌, ◌*◌, ◌/◌, ◌%◌, ◌≤◌, ◌<◌}
use native.Mathlib.Nat.{mod-add-div, zero-add}
use lib.Dec.{T, leb}
use lib.IntN.{ℤ}
use lib.ListN.{length}
use borrow.Author.Tests.{eq-eqb, ne_eqb, le-leb, lt-leb}
use Rattle.model.specs.Lists.{all}
use Rattle.codec.specs.Bytes.{Answer, refused, gives, decode, number}
use Rattle.codec.specs.Places.{set_from}
use Rattle.codec.proofs.Parsing.{both, first-no, second-no}
use Rattle.codec.proofs.Boundaries.{decode_is}
use Rattle.bounds.proofs.Reading.{within_all}
use Rattle.query.specs.Member.{coordinate}
use Rattle.fleet.specs.Fleet.{points_of, list_fits, mask_of, Fleet, counted, holding, fleet_of, fleet_bytes}
use Rattle.fleet.specs.Looking.{Points}

pub list-points : (n : ℕ) (xs : List ℤ) → n ≤ 8 → length xs % n ≡ 0 → length xs / n ≤ 64 → all coordinate xs ≡ true → Points n (length xs / n) xs
list-points n xs a r f c = record {
  axes = a;
  few = f;
  size = sym (mod-add-div (length xs) n) ∙ ap (λ (m : ℕ). m + n * (length xs / n)) r ∙ zero-add (n * (length xs / n));
  range = within_all 1048575 xs (subst T (sym c) tt);
}

module _ (n : ℕ) (s : List ℕ) (xs : List ℤ) where
  pub fleet-refused : (m : ℕ) → decode n s ≡ refused m → refused m ≡ fleet_bytes n s xs
  unfolding fleet_bytes
  fleet-refused m e = rw (e, fleet_bytes)

  module _ (z : number (decode n s) ≡ 0) where
    abbrev tests : Bool → Bool → Answer Fleet
    tests b c = cond b (cond c (gives (fleet_of (set_from s 0) (points_of n (length xs / n) xs))) (refused 12)) (refused 16)

    tested : (b c : Bool) → list_fits n xs ≡ b → all coordinate xs ≡ c → tests b c ≡ fleet_bytes n s xs
    unfolding fleet_bytes
    tested b c e f = rw (decode_is n s z, fleet_bytes) (ap₂ tests (sym e) (sym f))

    -- a list that is no whole number of points, and one of more than 64 points, whatever its coordinates
    pub fleet-ragged : (length xs % n ≡ 0 → ⊥) → refused 16 ≡ fleet_bytes n s xs
    fleet-ragged h = tested false (all coordinate xs) (first-no (leb (length xs / n) 64) (ne_eqb (length xs % n) 0 h)) refl

    module _ (r : length xs % n ≡ 0) where
      pub fleet-many : 64 < length xs / n → refused 16 ≡ fleet_bytes n s xs
      fleet-many h = tested false (all coordinate xs) (second-no (eq-eqb (length xs % n) 0 r) (lt-leb (length xs / n) 64 h)) refl

      module _ (f : length xs / n ≤ 64) where
        list-fits : list_fits n xs ≡ true
        list-fits = both (eq-eqb (length xs % n) 0 r) (le-leb (length xs / n) 64 f)

        pub fleet-misfit : all coordinate xs ≡ false → refused 12 ≡ fleet_bytes n s xs
        fleet-misfit c = tested true false list-fits c

        pub fleet-gives : all coordinate xs ≡ true → (m : ℕ) → m ≡ mask_of (holding (set_from s 0)) (points_of n (length xs / n) xs)
            → gives (counted m) ≡ fleet_bytes n s xs
        fleet-gives c m e = ap (λ (k : ℕ). gives (counted k)) e ∙ tested true true list-fits c
