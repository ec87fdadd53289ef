-- Four tables as one memory. Assumes nothing.
use mathlib.Core.Path.{◌≡◌, refl, sym, subst}
use mathlib.Core.Bool.{Bool, true, false, ◌&&◌}
use mathlib.Core.List.{List}
use Prim.Native.Nat.{ℕ}
use borrow.Author.Tests.{eqb-true}
use lib.Dec.{T, eqb}
use lib.ListN.{length}
use Rattle.memory.specs.Memory.{Memory, memory, fitting, Fits}

pub memory-is : {r r' : List (List ℕ)} {p p' k k' h h' : List ℕ} → r ≡ r' → p ≡ p' → k ≡ k' → h ≡ h' → memory r p k h ≡ memory r' p' k' h'
memory-is a b c e = cc

pub fitting-fits : (y : Memory) → fitting y ≡ true → Fits y
fitting-fits y e = at (eqb (length y.rows) 1088) (eqb (length y.place) 1360) (eqb (length y.kinds) 1360) (eqb (length y.heads) 101) refl refl refl refl e
  where
    at : (a b c d : Bool) → eqb (length y.rows) 1088 ≡ a → eqb (length y.place) 1360 ≡ b → eqb (length y.kinds) 1360 ≡ c → eqb (length y.heads) 101 ≡ d
        → (a && (b && (c && d))) ≡ true → Fits y
    at true true true true p q r s e = record { rows = eqb-true _ _ p; place = eqb-true _ _ q; kinds = eqb-true _ _ r; heads = eqb-true _ _ s }
    at true true true false p q r s e = absurd (subst T (sym e) tt)
    at true true false d p q r s e = absurd (subst T (sym e) tt)
    at true false c d p q r s e = absurd (subst T (sym e) tt)
    at false b c d p q r s e = absurd (subst T (sym e) tt)
