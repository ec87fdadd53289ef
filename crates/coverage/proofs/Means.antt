-- What a call that is not refused leaves: its answer is that of a reading (boxes, proofs/Truth, has what that means for the points of the
-- box), and as many first bytes of the table as the answer tells are the difference of the box and the set.
use mathlib.Core.Path.{◌≡◌, refl, sym, ap, ◌∙◌}
use mathlib.Core.List.{List}
use Prim.Native.Nat.{ℕ, ◌-◌}
use lib.IntN.{ℤ}
use lib.ListN.{length, take, replicate}
use lib.Seq.{take_at}
use Rattle.codec.specs.Bytes.{Answer, refused, gives}
use Rattle.boxes.specs.Range as R
use Rattle.boxes.specs.Range.{range_bytes}
use Rattle.boxes.proofs.Truth.{Asked, asked}
use Rattle.std.specs.Prelude.{Ok}
use Rattle.coverage.specs.declared.ranges.Reading.{Reading}
use Rattle.coverage.specs.Readings.{reading_of, RangeIs}

pub record Given (n room : ℕ) (s : List ℕ) (ls hs : List ℤ) (i j : ℕ) (r : Reading) (table : List ℕ) : Type 0 where
  pub reading : R.Reading
  pub asked : Asked n room s ls hs i j reading
  pub answer : r ≡ reading_of reading.range (length reading.bytes)
  pub bytes : take r.length table ≡ reading.bytes

pub range-given : (n room : ℕ) (s : List ℕ) (ls hs : List ℤ) (i j : ℕ) (r : Reading) (table : List ℕ) → RangeIs room (range_bytes n room s ls hs i j) (Ok r) table → Given n room s ls hs i j r table
range-given n room s ls hs i j r table c = by (range_bytes n room s ls hs i j) refl c
  where
    by : (a : Answer R.Reading) → range_bytes n room s ls hs i j ≡ a → RangeIs room a (Ok r) table → Given n room s ls hs i j r table
    by (refused k) e c = let z = c.answer in cc
    by (gives x) e c =
        let z : r ≡ reading_of x.range (length x.bytes) = given c.answer in
        record {
          reading = x;
          asked = asked n room s ls hs i j x e;
          answer = z;
          bytes = ap (take r.length) c.bytes ∙ take_at x.bytes (replicate (room - length x.bytes) 0) r.length (sym (ap (λ (y : Reading). y.length) z));
        }
      where
        given : {y w : Reading} → ◌≡◌ {A = Answer Reading} (gives y) (gives w) → y ≡ w
        given e = cc
