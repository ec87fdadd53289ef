-- Linear arithmetic over ℤ, by `omega`. The facts and the goal are quoted over a list of atoms (`Ring.antt`), each is brought to its normal form,
-- a sum of monomials with integer coefficients, and read in ℕ: a monomial m counts as `ps m - ns m`, so each has two atoms for `omega`.
--     lia-le l ks (search lin depth 30) (omega arith) : a ≤ℤ b      and lia-lt, lia-eq, lia-no (⊥), lia-fits (SFits w z), lia-abs (Within n z)
-- with ks the facts, `le h ∷ lt h ∷ eq h ∷ fits h ∷ abs h ∷ []`. Assumes nothing.
use Rattle.std.specs.Prelude.{◌≡◌, List, [], ◌∷◌, ℕ, suc, ◌+◌, ◌*◌, ◌^◌, ◌≤◌, ◌<◌, ℤ, pos, negsuc, nat_abs, ◌+ℤ◌, ◌-ℤ◌, ◌*ℤ◌, ◌≤ℤ◌, ◌<ℤ◌}
use Rattle.std.proofs.Common.{sym, ap, ap₂, ◌∙◌, subst, subst₂, arith}
use Rattle.std.specs.Int.Signed.{mag}
use Rattle.std.specs.Int.{Width}
use mir.Val.{SFits, hbits}
use Rattle.integers.specs.Z.{Within, ps, ns, diff, parts, parts-diff, diff-add, diff-neg, diff-mul, diff-eq, diff-le, diff-lt, le_parts, lt-parts}
use Rattle.integers.specs.Ring.{add, neg, Poly, nil, term, eval_m, eval_p, norm, clean, simplified, Quote, quote}

-- ---- a polynomial as a difference
abbrev pub up : List ℤ → Poly → ℕ
up l nil = 0
up l (term (pos c) m p) = c * ps (eval_m l m) + up l p
up l (term (negsuc c) m p) = suc c * ns (eval_m l m) + up l p

abbrev pub dn : List ℤ → Poly → ℕ
dn l nil = 0
dn l (term (pos c) m p) = c * ns (eval_m l m) + dn l p
dn l (term (negsuc c) m p) = suc c * ps (eval_m l m) + dn l p

scaled : (c : ℕ) (z : ℤ) → pos c *ℤ z ≡ diff (c * ps z) (c * ns z)
scaled c z = ap₂ ◌*ℤ◌ (parts (pos c)) (parts z) ∙ diff-mul c 0 (ps z) (ns z) ∙ diff-eq (c * ps z + 0 * ns z) (c * ns z + 0 * ps z) (c * ps z) (c * ns z) (omega arith)

scaled-neg : (c : ℕ) (z : ℤ) → negsuc c *ℤ z ≡ diff (suc c * ns z) (suc c * ps z)
scaled-neg c z = ap₂ ◌*ℤ◌ (parts (negsuc c)) (parts z) ∙ diff-mul 0 (suc c) (ps z) (ns z) ∙ diff-eq (0 * ps z + suc c * ns z) (0 * ns z + suc c * ps z) (suc c * ns z) (suc c * ps z) (omega arith)

poly-diff : (l : List ℤ) (p : Poly) → eval_p l p ≡ diff (up l p) (dn l p)
poly-diff l nil = parts (pos 0)
poly-diff l (term (pos c) m p) = ap₂ ◌+ℤ◌ (scaled c (eval_m l m)) (poly-diff l p) ∙ diff-add (c * ps (eval_m l m)) (c * ns (eval_m l m)) (up l p) (dn l p)
poly-diff l (term (negsuc c) m p) = ap₂ ◌+ℤ◌ (scaled-neg c (eval_m l m)) (poly-diff l p) ∙ diff-add (suc c * ns (eval_m l m)) (suc c * ps (eval_m l m)) (up l p) (dn l p)

-- ---- a quoted term, normal
abbrev pub Up : {l : List ℤ} {a : ℤ} → Quote l a → ℕ
Up {l} x = up l (clean (norm x.e))

abbrev pub Dn : {l : List ℤ} {a : ℤ} → Quote l a → ℕ
Dn {l} x = dn l (clean (norm x.e))

is-diff : {l : List ℤ} {a : ℤ} (x : Quote l a) → a ≡ diff (Up x) (Dn x)
is-diff {l} x = sym x.is ∙ sym (simplified l x.e) ∙ poly-diff l (clean (norm x.e))

-- the two parts of a quoted term, against those of its normal form
meets : {l : List ℤ} {a : ℤ} (x : Quote l a) → ps a + Dn x ≡ Up x + ns a
meets {a} x = subst (λ (z : ℤ). ps z + Dn x ≡ Up x + ns z) (sym (is-diff x)) (parts-diff (Up x) (Dn x))

abbrev pub minus : {l : List ℤ} {a b : ℤ} → Quote l a → Quote l b → Quote l (a -ℤ b)
minus x y = record { e = add x.e (neg y.e); is = ap₂ (λ (u v : ℤ). u -ℤ v) x.is y.is }

-- b − a against the two
apart : {l : List ℤ} {a b : ℤ} (x : Quote l a) (y : Quote l b) → ps b + ns a + Dn (minus y x) ≡ ps a + ns b + Up (minus y x)
apart {l} {a} {b} x y =
    let d : ps (b -ℤ a) + Dn (minus y x) ≡ Up (minus y x) + ns (b -ℤ a) = meets (minus y x) in
    let e : ps (b -ℤ a) + (ns b + ps a) ≡ ps b + ns a + ns (b -ℤ a) = subst (λ (z : ℤ). ps z + (ns b + ps a) ≡ ps b + ns a + ns z) (sym (ap₂ (λ (u v : ℤ). u -ℤ v) (parts b) (parts a) ∙ ap (λ (v : ℤ). diff (ps b) (ns b) +ℤ v) (diff-neg (ps a) (ns a)) ∙ diff-add (ps b) (ns b) (ns a) (ps a))) (parts-diff (ps b + ns a) (ns b + ps a)) in
    omega arith

-- ---- the facts
pub data Known : Type 0 where
  le : {a b : ℤ} → a ≤ℤ b → Known
  lt : {a b : ℤ} → a <ℤ b → Known
  eq : {a b : ℤ} → a ≡ b → Known
  fits : {w : Width} {a : ℤ} → SFits w a → Known
  abs : {a : ℤ} {n : ℕ} → Within n a → Known

pub data Quoted (l : List ℤ) : List Known → Type 0 where
  k-nil : Quoted l []
  k-le : {a b : ℤ} {h : a ≤ℤ b} {ks : List Known} → Quote l a → Quote l b → Quoted l ks → Quoted l (le h ∷ ks)
  k_lt : {a b : ℤ} {h : a <ℤ b} {ks : List Known} → Quote l a → Quote l b → Quoted l ks → Quoted l (lt h ∷ ks)
  k-eq : {a b : ℤ} {h : a ≡ b} {ks : List Known} → Quote l a → Quote l b → Quoted l ks → Quoted l (eq h ∷ ks)
  k-fits : {w : Width} {a : ℤ} {h : SFits w a} {ks : List Known} → Quote l a → Quoted l ks → Quoted l (fits h ∷ ks)
  k-abs : {a : ℤ} {n : ℕ} {h : Within n a} {ks : List Known} → Quote l a → Quoted l ks → Quoted l (abs h ∷ ks)

-- what `omega` reads
abbrev pub Given : {l : List ℤ} {ks : List Known} → Quoted l ks → Type 0 → Type 0
Given k-nil G = G
Given (k-le x y r) G = Dn (minus y x) ≤ Up (minus y x) → Given r G
Given (k_lt x y r) G = Dn (minus y x) < Up (minus y x) → Given r G
Given (k-eq x y r) G = Dn (minus y x) ≡ Up (minus y x) → Given r G
Given (k-fits {w = w} x r) G = Up x < Dn x + 2 ^ hbits w → Dn x ≤ Up x + 2 ^ hbits w → Given r G
Given (k-abs {n = n} x r) G = Up x ≤ Dn x + n → Dn x ≤ Up x + n → Given r G

le_is : {l : List ℤ} {a b : ℤ} (x : Quote l a) (y : Quote l b) → a ≤ℤ b → Dn (minus y x) ≤ Up (minus y x)
le_is x y h = let d = apart x y in let e = le_parts h in omega arith

lt-is : {l : List ℤ} {a b : ℤ} (x : Quote l a) (y : Quote l b) → a <ℤ b → Dn (minus y x) < Up (minus y x)
lt-is x y h = let d = apart x y in let e = lt-parts h in omega arith

eq_is : {l : List ℤ} {a b : ℤ} (x : Quote l a) (y : Quote l b) → a ≡ b → Dn (minus y x) ≡ Up (minus y x)
eq_is {a} {b} x y h = let d = apart x y in let e = ap ps h in let f = ap ns h in omega arith

mag-parts : (H : ℕ) (a : ℤ) → mag a < H → (ps a < H) × (ns a ≤ H)
mag-parts H (pos n) h = omega arith
mag-parts H (negsuc n) h = omega arith

abs-parts : (H : ℕ) (a : ℤ) → nat_abs a ≤ H → (ps a ≤ H) × (ns a ≤ H)
abs-parts H (pos n) h = omega arith
abs-parts H (negsuc n) h = omega arith

fits-is : {l : List ℤ} {w : Width} {a : ℤ} (x : Quote l a) → SFits w a → (Up x < Dn x + 2 ^ hbits w) × (Dn x ≤ Up x + 2 ^ hbits w)
fits-is {w} {a} x h = let d = meets x in let e = mag-parts (2 ^ hbits w) a h.sfits in (omega arith, omega arith)

abs_is : {l : List ℤ} {a : ℤ} {n : ℕ} (x : Quote l a) → Within n a → (Up x ≤ Dn x + n) × (Dn x ≤ Up x + n)
abs_is {a} {n} x h = let d = meets x in let e = abs-parts n a h.size in (omega arith, omega arith)

use-all : {l : List ℤ} {ks : List Known} (q : Quoted l ks) (G : Type 0) → Given q G → G
use-all k-nil G g = g
use-all (k-le {h = h} x y r) G g = use-all r G (g (le_is x y h))
use-all (k_lt {h = h} x y r) G g = use-all r G (g (lt-is x y h))
use-all (k-eq {h = h} x y r) G g = use-all r G (g (eq_is x y h))
use-all (k-fits {h = h} x r) G g = let f = fits-is x h in use-all r G (g f.0 f.1)
use-all (k-abs {h = h} x r) G g = let f = abs_is x h in use-all r G (g f.0 f.1)

-- the facts with the goal's terms, by a lemma, so that `search` finds them among its first, cheap searches
pub record Of1 (l : List ℤ) (ks : List Known) (a : ℤ) : Type 0 where
  pub facts : Quoted l ks
  pub of : Quote l a

pub record Of2 (l : List ℤ) (ks : List Known) (a b : ℤ) : Type 0 where
  pub facts : Quoted l ks
  pub left : Quote l a
  pub right : Quote l b

abbrev pub of-1 : {l : List ℤ} {ks : List Known} {a : ℤ} → Quoted l ks → Quote l a → Of1 l ks a
of-1 q x = record { facts = q; of = x }

abbrev pub of-2 : {l : List ℤ} {ks : List Known} {a b : ℤ} → Quoted l ks → Quote l a → Quote l b → Of2 l ks a b
of-2 q x y = record { facts = q; left = x; right = y }

pub ruleset lin = (of-1, of-2, k-nil, k-le, k_lt, k-eq, k-fits, k-abs, quote)

-- ---- the goals
module _ (l : List ℤ) (ks : List Known) where
  pub lia-no : (q : Quoted l ks) → Given q ⊥ → ⊥
  lia-no q g = use-all q ⊥ g

  -- a fact of ℕ, or any other that the facts' readings give
  pub lia-nat : {G : Type 0} (q : Quoted l ks) → Given q G → G
  lia-nat {G} q g = use-all q G g

  pub lia-le : {a b : ℤ} (q : Of2 l ks a b) → Given q.facts (Dn (minus q.right q.left) ≤ Up (minus q.right q.left)) → a ≤ℤ b
  lia-le {a} {b} q g =
      let h = use-all q.facts (Dn (minus q.right q.left) ≤ Up (minus q.right q.left)) g in
      let d = apart q.left q.right in
      subst₂ (λ (x y : ℤ). x ≤ℤ y) (sym (parts a)) (sym (parts b)) (diff-le (ps a) (ns a) (ps b) (ns b) (omega arith))

  pub lia-lt : {a b : ℤ} (q : Of2 l ks a b) → Given q.facts (Dn (minus q.right q.left) < Up (minus q.right q.left)) → a <ℤ b
  lia-lt {a} {b} q g =
      let h = use-all q.facts (Dn (minus q.right q.left) < Up (minus q.right q.left)) g in
      let d = apart q.left q.right in
      subst₂ (λ (x y : ℤ). x <ℤ y) (sym (parts a)) (sym (parts b)) (diff-lt (ps a) (ns a) (ps b) (ns b) (omega arith))

  pub lia-eq : {a b : ℤ} (q : Of2 l ks a b) → Given q.facts (Dn (minus q.right q.left) ≡ Up (minus q.right q.left)) → a ≡ b
  lia-eq {a} {b} q g =
      let h = use-all q.facts (Dn (minus q.right q.left) ≡ Up (minus q.right q.left)) g in
      let d = apart q.left q.right in
      parts a ∙ diff-eq (ps a) (ns a) (ps b) (ns b) (omega arith) ∙ sym (parts b)

  mag_of : (H p n : ℕ) (z : ℤ) → ps z + n ≡ p + ns z → p < n + H → n ≤ p + H → mag z < H
  mag_of H p n (pos k) e f g = omega arith
  mag_of H p n (negsuc k) e f g = omega arith

  abs-of : (H p n : ℕ) (z : ℤ) → ps z + n ≡ p + ns z → p ≤ n + H → n ≤ p + H → nat_abs z ≤ H
  abs-of H p n (pos k) e f g = omega arith
  abs-of H p n (negsuc k) e f g = omega arith

  pub lia-fits : {w : Width} {z : ℤ} (q : Of1 l ks z) → Given q.facts ((Up q.of < Dn q.of + 2 ^ hbits w) × (Dn q.of ≤ Up q.of + 2 ^ hbits w)) → SFits w z
  lia-fits {w} {z} q g =
      let h = use-all q.facts ((Up q.of < Dn q.of + 2 ^ hbits w) × (Dn q.of ≤ Up q.of + 2 ^ hbits w)) g in
      record { sfits = mag_of (2 ^ hbits w) (Up q.of) (Dn q.of) z (meets q.of) h.0 h.1 }

  pub lia-abs : {z : ℤ} {n : ℕ} (q : Of1 l ks z) → Given q.facts ((Up q.of ≤ Dn q.of + n) × (Dn q.of ≤ Up q.of + n)) → Within n z
  lia-abs {z} {n} q g =
      let h = use-all q.facts ((Up q.of ≤ Dn q.of + n) × (Dn q.of ≤ Up q.of + n)) g in
      record { size = abs-of n (Up q.of) (Dn q.of) z (meets q.of) h.0 h.1 }
