-- Machine integers, on one page: what a need of a function with signed locals asks and is told, in terms of ℤ. A signed local holds bits: a value read is
-- `to_z w bits`, a result written is `of_z w z`, and a test is an equation of `lt_z` or `le_z`. `Examples.antt` has each lemma at work.
--   a need whose numbers lie in `Within`, `SFits` facts   rw (to_z_of_z ..) plain-fact; or ask _*ℤ_ (b-of fa) (b-of fb) plain-fact; or lia-fits .. (search mach depth 30)
--   a test                                                is_lt, is_ge, is_le, is_gt (b-of fx) (b-lit w64 0 refl) t; of_z-same for `==`
--   a cast                                                to_z-nat from unsigned, cast-nat to unsigned, rw (to_z_of_z f) (record { sfits = omega arith }) between signed types
--   a divisor, a call's result                            divisor-pos, result_is
-- `search mach` is `search lin` that quotes also `to_z w (of_z w z)` where z fits, `to_z w n` of a small unsigned n, and a local with a `Bits` fact. Assumes nothing.
use Rattle.std.specs.Prelude.{◌≡◌, refl, Bool, true, false, not, List, ◌∷◌, ℕ, ◌^◌, ◌≤◌, ◌<◌, T, leb, ℤ, pos, negsuc, nat_abs, ◌≤ℤ◌, ◌<ℤ◌}
use Rattle.std.proofs.Common.{sym, ap, ap₂, ◌∙◌, subst, subst₂, lt_of_lt_of_le, leb→le, ltb→lt}
use Rattle.std.specs.Int.Signed.{le_z, lt_z, lt_z_yes, le_z_yes, lt_z_no, mag, non_neg}
use Rattle.std.specs.Int.{Width}
use mir.Val.{SFits, Fits, hbits, bits, to_z, of_z}
use Rattle.std.proofs.Math.Dec as D
use mir.ValLaws as L
use Rattle.integers.specs.Ring.{Quote}
use Rattle.integers.specs.Lin.{lin}

-- ---- tests. The two numbers are explicit, since `lt_z` computes: where the goal does not show them, write them
pub lt_z-true : (a b : ℤ) → lt_z a b ≡ true → a <ℤ b
lt_z-true a b e = lt_z_yes (subst T (sym e) tt)

pub lt_z-false : (a b : ℤ) → lt_z a b ≡ false → b ≤ℤ a
lt_z-false a b e = lt_z_no (subst (λ (t : Bool). T (not t)) (sym e) tt)

pub le_z-true : (a b : ℤ) → le_z a b ≡ true → a ≤ℤ b
le_z-true a b e = le_z_yes (subst T (sym e) tt)

nle : (a b : ℤ) → T (not (le_z a b)) → b <ℤ a
nle (pos a) (pos b) t = record { lt = D.lt→ltb b a (D.nleb→lt a b t) }
nle (pos a) (negsuc b) t = record { lt = tt }
nle (negsuc a) (pos b) t = absurd t
nle (negsuc a) (negsuc b) t = record { lt = D.lt→ltb a b (D.nleb→lt b a t) }

pub le_z-false : (a b : ℤ) → le_z a b ≡ false → b <ℤ a
le_z-false a b e = nle a b (subst (λ (t : Bool). T (not t)) (sym e) tt)

-- ---- what a local's bits stand for
pub to_z_of_z : {w : Width} {z : ℤ} → SFits w z → to_z w (of_z w z) ≡ z
to_z_of_z {w} {z} h = L.to_z-of_z w z h

-- an unsigned number that is below a bound, cast to a signed type
pub to_z-nat : (w : Width) (n m : ℕ) → n < m → T (leb m (2 ^ hbits w)) → to_z w n ≡ pos n
to_z-nat w n m h t = L.to_z_pos w n (lt_of_lt_of_le h (leb→le m (2 ^ hbits w) t))

-- ---- quoting
abbrev pub q_back : {l : List ℤ} {w : Width} {z : ℤ} → SFits w z → Quote l z → Quote l (to_z w (of_z w z))
q_back h x = record { e = x.e; is = x.is ∙ sym (to_z_of_z h) }

abbrev pub q-cast : {l : List ℤ} (w : Width) (n m : ℕ) → n < m → T (leb m (2 ^ hbits w)) → Quote l (pos n) → Quote l (to_z w n)
q-cast w n m h t x = record { e = x.e; is = x.is ∙ sym (to_z-nat w n m h t) }

-- two naturals, compared as integers
pub lt-nat : {a b : ℕ} → pos a <ℤ pos b → a < b
lt-nat {a} {b} h = ltb→lt a b h.lt

-- a call's result, from the range that the call gives: `result-is w64 _ c.f.ok : to_z w64 (of_z w64 c.f.result) ≡ c.f.result`
pub result_is : (w : Width) (z : ℤ) → mag z < 2 ^ hbits w → to_z w (of_z w z) ≡ z
result_is w z h = to_z_of_z (record { sfits = h })

-- ---- a cast to an unsigned type, of what is known to be a natural number
pub cast-nat : (w : Width) (z : ℤ) (n : ℕ) → z ≡ pos n → n < 2 ^ bits w → T (non_neg z) × Fits w (nat_abs z)
cast-nat w z n e h = subst (λ (x : ℤ). T (non_neg x) × Fits w (nat_abs x)) (sym e) (tt, record { fits = h })

-- ---- a divisor
pub divisor-pos : (w : Width) {d : ℤ} → pos 0 <ℤ d → 0 < of_z w d
divisor-pos w {d = pos n} h = ltb→lt 0 n h.lt
divisor-pos w {d = negsuc n} h = absurd h.lt

-- the bits are 0 where the number is
pub to_z-zero : (w : Width) (n : ℕ) → Fits w n → to_z w n ≡ pos 0 → n ≡ 0
to_z-zero w n f e = sym (L.of_z-to_z w n f) ∙ ap (of_z w) e

-- a test that both passed and failed
pub clash {ℓ} : {X : Type ℓ} {t : Bool} → t ≡ true → t ≡ false → X
clash p q = absurd (subst T (sym p ∙ q) tt)

-- ---- the bits n stand for z
pub record Bits (w : Width) (n : ℕ) (z : ℤ) : Type 0 where
  pub is : to_z w n ≡ z

-- a parameter, an element, a call's result
pub b-of : {w : Width} {z : ℤ} → SFits w z → Bits w (of_z w z) z
b-of h = record { is = to_z_of_z h }

-- an unsigned number, cast
pub b-nat : (w : Width) (n m : ℕ) → n < m → T (leb m (2 ^ hbits w)) → Bits w n (pos n)
b-nat w n m h t = record { is = to_z-nat w n m h t }

-- a literal: `b-lit w64 0 refl`
pub b-lit : (w : Width) (n : ℕ) {z : ℤ} → to_z w n ≡ z → Bits w n z
b-lit w n e = record { is = e }

module _ {w : Width} {x y : ℕ} {a b : ℤ} (p : Bits w x a) (q : Bits w y b) where
  -- an operation f, `◌+ℤ◌`, `◌-ℤ◌`, `◌*ℤ◌`, `quot_z` or `rem_z`: what it asks, and what its result stands for
  pub ask : (f : ℤ → ℤ → ℤ) → SFits w (f a b) → SFits w (f (to_z w x) (to_z w y))
  ask f h = subst₂ (λ (u v : ℤ). SFits w (f u v)) (sym p.is) (sym q.is) h

  pub b-op : (f : ℤ → ℤ → ℤ) → SFits w (f a b) → Bits w (of_z w (f (to_z w x) (to_z w y))) (f a b)
  b-op f h = record { is = to_z_of_z (ask f h) ∙ ap₂ f p.is q.is }

  -- the tests `x < y` and `x <= y`, taken and left
  pub is_lt : lt_z (to_z w x) (to_z w y) ≡ true → a <ℤ b
  is_lt e = lt_z-true a b (ap₂ lt_z (sym p.is) (sym q.is) ∙ e)

  pub is_ge : lt_z (to_z w x) (to_z w y) ≡ false → b ≤ℤ a
  is_ge e = lt_z-false a b (ap₂ lt_z (sym p.is) (sym q.is) ∙ e)

  pub is_le : le_z (to_z w x) (to_z w y) ≡ true → a ≤ℤ b
  is_le e = le_z-true a b (ap₂ le_z (sym p.is) (sym q.is) ∙ e)

  pub is_gt : le_z (to_z w x) (to_z w y) ≡ false → b <ℤ a
  is_gt e = le_z-false a b (ap₂ le_z (sym p.is) (sym q.is) ∙ e)

-- the quoting of a local, by what its bits stand for
abbrev pub q-bits : {l : List ℤ} {w : Width} {n : ℕ} {z : ℤ} → Bits w n z → Quote l z → Quote l (to_z w n)
q-bits h x = record { e = x.e; is = x.is ∙ sym h.is }

-- `search mach` quotes what a need says of signed locals, where in reach are: `SFits w z` for each `to_z w (of_z w z)`, `n < m` for each `to_z w n` of a cast
-- natural number, and `Bits w n z` for each local n
pub ruleset mach = (lin, q_back, q-cast, q-bits)

-- two numbers with the same bits, as `x == y` tells
pub of_z-same : {w : Width} {a b : ℤ} → SFits w a → SFits w b → of_z w a ≡ of_z w b → a ≡ b
of_z-same {w} h k e = sym (to_z_of_z h) ∙ ap (to_z w) e ∙ to_z_of_z k

-- numbers passed on in a list: each is written and read again
pub passed : {w : Width} {z : ℤ} {l m : List ℤ} → SFits w z → l ≡ m → (to_z w (of_z w z) ∷ l) ≡ (z ∷ m)
passed f e = ap₂ ◌∷◌ (to_z_of_z f) e

-- `search coordinates` finds it for a list of numbers whose ranges are in reach
pub ruleset coordinates = (refl, passed)
