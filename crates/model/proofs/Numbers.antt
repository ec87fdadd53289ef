-- "Numbers alter neither membership .." (document 02, request 6): a set and the same set without its rules' numbers hold the same
-- integer points, in FPL's meaning too, and the same points with fractions.
use mathlib.Core.Path.{◌≡◌, refl, sym, ap, ◌∙◌, subst}
use mathlib.Core.Bool.{Bool, ◌&&◌}
use mathlib.Core.List.{List, [], ◌∷◌, map}
use lib.Dec.{T}
use lib.IntN.{ℤ, pos}
use Rattle.model.specs.Lists.{all}
use Rattle.model.specs.Sets.{Constraint, BasicSet, Set, quotients, holds, in_basic, in_set, bounds, RationalPoint, meets_basic}
use Rattle.model.specs.Numbers.{plain_rule, plain_basic, plain_set}
use Rattle.model.specs.Existential.{Exists, ExistsIn, here, there}
use Rattle.model.proofs.Lists.{all-through, any-through}
use Rattle.model.proofs.Count.{all_append}

-- at any numerators over any denominator
rules-plain : (D : ℤ) (x q : List ℤ) (rs : List Constraint) → all (holds D x q) (map plain_rule rs) ≡ all (holds D x q) rs
rules-plain D x q rs = all-through plain_rule (holds D x q) (holds D x q) (λ r. refl) rs

-- ---- integer points
pub basic-plain : (x : List ℤ) (b : BasicSet) → in_basic x (plain_basic b) ≡ in_basic x b
basic-plain x b = rules-plain (pos 1) x (quotients b.divisions x) b.constraints

pub member-plain : (x : List ℤ) (s : Set) → in_set x (plain_set s) ≡ in_set x s
member-plain x s = any-through plain_basic (in_basic x) (in_basic x) (basic-plain x) s

-- so sets that differ in the numbers of rules alone have the same members
pub member-numbers : (x : List ℤ) (s t : Set) → plain_set s ≡ plain_set t → in_set x s ≡ in_set x t
member-numbers x s t e = sym (member-plain x s) ∙ ap (in_set x) e ∙ member-plain x t

-- ---- the same in FPL's meaning
exists-basic : (x : List ℤ) (b : BasicSet) → Exists x b → Exists x (plain_basic b)
exists-basic x b w = record { q = w.q; remainders = w.remainders; constraints = subst T (sym (rules-plain (pos 1) x w.q b.constraints)) w.constraints }

basic-exists : (x : List ℤ) (b : BasicSet) → Exists x (plain_basic b) → Exists x b
basic-exists x b w = record { q = w.q; remainders = w.remainders; constraints = subst T (rules-plain (pos 1) x w.q b.constraints) w.constraints }

pub exists-plain : (x : List ℤ) (s : Set) → ExistsIn x s → ExistsIn x (plain_set s)
exists-plain x [] h = elim h [ ]
exists-plain x (b ∷ s) (here w) = here (exists-basic x b w)
exists-plain x (b ∷ s) (there w) = there (exists-plain x s w)

pub plain-exists : (x : List ℤ) (s : Set) → ExistsIn x (plain_set s) → ExistsIn x s
plain-exists x [] h = elim h [ ]
plain-exists x (b ∷ s) (here w) = here (basic-exists x b w)
plain-exists x (b ∷ s) (there w) = there (plain-exists x s w)

-- ---- points with fractions
pub meets-plain : (p : RationalPoint) (b : BasicSet) → meets_basic p (plain_basic b) ≡ meets_basic p b
meets-plain p b =
    let f : Constraint → Bool = holds (pos p.denominator) p.x p.q in
    all_append f (bounds 0 b.divisions) (map plain_rule b.constraints)
    ∙ ap (λ (z : Bool). all f (bounds 0 b.divisions) && z) (rules-plain (pos p.denominator) p.x p.q b.constraints)
    ∙ sym (all_append f (bounds 0 b.divisions) b.constraints)
