-- Of the rows that stop a move, the one that `soonest` finds: none stops it sooner, nor as soon with a lower number. Assumes nothing.
use mathlib.Core.Path.{◌≡◌, refl, sym, ap, ◌∙◌, subst}
use mathlib.Core.Bool.{Bool, true, false, not, ◌&&◌, ◌||◌, cond}
use mathlib.Core.Logic.{◌⊎◌, inl, inr, ⊎_elim}
use mathlib.Core.List.{List, [], ◌∷◌}
use mathlib.Core.Option.{Option, none, some}
use Prim.Native.Nat.{ℕ, zero, suc, ◌+◌, ◌≤◌, ◌<◌, suc-le-suc}
use native.Mathlib.Nat.{le_refl, le_trans, le_antisymm, le_of_suc-le-suc, not-suc-le-zero, zero-lt-suc, add-zero, add-suc, suc-add}
use native.Mathlib.Omega.{arith}
use lib.Dec.{T, ltb, ltb→lt, nltb→le}
use lib.IntN.{ℤ, pos, ◌*ℤ◌}
use lib.Signed.{◌≤ℤ◌, ◌<ℤ◌, lt_z, lt_z_yes, lt_z_no}
use lib.ListN.{length, get_or}
use Rattle.integers.specs.Lin.{le, lt, eq, lin, lia-le, lia-eq, lia-no}
use Rattle.integers.specs.Order.{≤ℤ-antisymm, mul-le-right, le-of-mul-le, mul-cancel, <ℤ-≤ℤ}
use Rattle.feasibility.specs.Tableau.{Row, no_row}
use Rattle.optimum.specs.Value.{Stop, sooner, earliest, with_stop, soonest}
use Rattle.feasibility.proofs.Verdicts.{true-false, some-none}

-- ---- which stop is sooner

abbrev pub NotAfter : Stop → Stop → Type 0
NotAfter a b = ((a.num *ℤ b.den) ≤ℤ (b.num *ℤ a.den)) × (a.num *ℤ b.den ≡ b.num *ℤ a.den → a.var ≤ b.var)

pub not-after-self : (a : Stop) → NotAfter a a
not-after-self a = (lia-le (a.num ∷ a.den ∷ []) [] (search lin depth 30) (omega arith), λ e. le_refl a.var)

pub not-after-trans : (a b c : Stop) → pos 0 <ℤ a.den → pos 0 <ℤ b.den → pos 0 <ℤ c.den → NotAfter a b → NotAfter b c → NotAfter a c
not-after-trans a b c ha hb hc h k = (
  le-of-mul-le hb (lia-le (a.num ∷ a.den ∷ b.num ∷ b.den ∷ c.num ∷ c.den ∷ []) (le p ∷ le q ∷ []) (search lin depth 30) (omega arith)),
  λ e. le_trans
      (h.1 (mul-cancel hc (lia-eq (a.num ∷ a.den ∷ b.num ∷ b.den ∷ c.num ∷ c.den ∷ []) (le p ∷ le q ∷ eq (ap (λ (v : ℤ). v *ℤ b.den) e) ∷ []) (search lin depth 30) (omega arith))))
      (k.1 (mul-cancel ha (lia-eq (a.num ∷ a.den ∷ b.num ∷ b.den ∷ c.num ∷ c.den ∷ []) (le p ∷ le q ∷ eq (ap (λ (v : ℤ). v *ℤ b.den) e) ∷ []) (search lin depth 30) (omega arith)))),
)
  where
    p : (a.num *ℤ b.den *ℤ c.den) ≤ℤ (b.num *ℤ a.den *ℤ c.den)
    p = mul-le-right (<ℤ-≤ℤ hc) h.0

    q : (b.num *ℤ c.den *ℤ a.den) ≤ℤ (c.num *ℤ b.den *ℤ a.den)
    q = mul-le-right (<ℤ-≤ℤ ha) k.0

-- the order is total on numbered stops: it decides the variable
pub not-after-unique : (a b : Stop) → NotAfter a b → NotAfter b a → a.var ≡ b.var
not-after-unique a b h k = let e = ≤ℤ-antisymm h.0 k.0 in le_antisymm (h.1 e) (k.1 (sym e))

before : (u v : ℤ) → T (lt_z u v) → (u ≤ℤ v) × (u ≡ v → ⊥)
before u v t = let h : u <ℤ v = lt_z_yes t in (<ℤ-≤ℤ h, λ e. lia-no (u ∷ v ∷ []) (lt h ∷ eq e ∷ []) (search lin depth 30) (omega arith))

-- after a shorter move, whatever the numbers
pub sooner-first : (a b : Stop) → lt_z (a.num *ℤ b.den) (b.num *ℤ a.den) ≡ true → NotAfter a b
sooner-first a b e = let h = before (a.num *ℤ b.den) (b.num *ℤ a.den) (subst T (sym e) tt) in (h.0, λ q. absurd (h.1 q))

-- after no longer a move, with a lower number
pub no_later : (a b : Stop) → lt_z (b.num *ℤ a.den) (a.num *ℤ b.den) ≡ false → a.var ≤ b.var → NotAfter a b
no_later a b e l = (lt_z_no (subst (λ (c : Bool). T (not c)) (sym e) tt), λ q. l)

or-true : (l m n : Bool) → (l || (not m && n)) ≡ true → (l ≡ true) ⊎ ((m ≡ false) × (n ≡ true))
or-true true m n e = inl refl
or-true false false n e = inr (refl, e)
or-true false true n e = true-false (sym e)

or-false : (l m n : Bool) → (l || (not m && n)) ≡ false → (l ≡ false) × ((m ≡ true) ⊎ (n ≡ false))
or-false true m n e = true-false e
or-false false true n e = (refl, inl refl)
or-false false false n e = (refl, inr e)

sooner-yes : (a b : Stop) → sooner a b ≡ true → NotAfter a b
sooner-yes a b e =
    ⊎_elim (sooner-first a b) (λ t. no_later a b t.0 (lower t.1))
    (or-true (lt_z (a.num *ℤ b.den) (b.num *ℤ a.den)) (lt_z (b.num *ℤ a.den) (a.num *ℤ b.den)) _ e)
  where
    lower : ltb a.var b.var ≡ true → a.var ≤ b.var
    lower q = let h : a.var < b.var = ltb→lt a.var b.var (subst T (sym q) tt) in omega arith

sooner-no : (a b : Stop) → sooner a b ≡ false → NotAfter b a
sooner-no a b e =
    let t = or-false (lt_z (a.num *ℤ b.den) (b.num *ℤ a.den)) (lt_z (b.num *ℤ a.den) (a.num *ℤ b.den)) _ e in
    ⊎_elim (sooner-first b a) (λ q. no_later b a t.0 (nltb→le a.var b.var (subst (λ (c : Bool). T (not c)) (sym q) tt))) t.1

-- ---- the soonest

module _ (f : Row → Option (ℤ × ℤ)) where
  abbrev pub made : Row → ℕ → ℤ × ℤ → Stop
  made r i q = record { place = i; var = r.var; num = q.0; den = q.1 }

  pub record Soonest (i : ℕ) (rs : List Row) (a : Stop) : Type 0 where
    pub m : ℕ
    pub inside : m < length rs
    pub place : a.place ≡ i + m
    pub var : a.var ≡ (get_or rs m no_row).var
    pub found : f (get_or rs m no_row) ≡ some (a.num, a.den)
    pub least : (n : ℕ) (q : ℤ × ℤ) → n < length rs → f (get_or rs n no_row) ≡ some q → NotAfter a (made (get_or rs n no_row) n q)

  pub soonest-none : (i : ℕ) (rs : List Row) → soonest f i rs ≡ none → (n : ℕ) (q : ℤ × ℤ) → n < length rs → f (get_or rs n no_row) ≡ some q → ⊥
  soonest-none i [] e n q h k = not-suc-le-zero h
  soonest-none i (r ∷ rs) e n q h k = at (f r) refl e n h k (soonest-none (suc i) rs)
    where
      earliest-some : (a : Stop) (o : Option Stop) → earliest a o ≡ none → ⊥
      earliest-some a none e = some-none e
      earliest-some a (some b) e = pick (sooner b a) e
        where
          pick : (c : Bool) → cond c (some b) (some a) ≡ none → ⊥
          pick true e = some-none e
          pick false e = some-none e

      at : (o : Option (ℤ × ℤ)) → f r ≡ o → with_stop o i r.var (soonest f (suc i) rs) ≡ none → (n : ℕ) → n < length (r ∷ rs) → f (get_or (r ∷ rs) n no_row) ≡ some q
          → (soonest f (suc i) rs ≡ none → (n : ℕ) (q : ℤ × ℤ) → n < length rs → f (get_or rs n no_row) ≡ some q → ⊥) → ⊥
      at none p e zero h k g = some-none (sym k ∙ p)
      at none p e (suc n) h k g = g e n q (le_of_suc-le-suc h) k
      at (some q₀) p e n h k g = earliest-some (made r i q₀) (soonest f (suc i) rs) e

  module _ (dens : (r : Row) (q : ℤ × ℤ) → f r ≡ some q → pos 0 <ℤ q.1) where
    pub soonest-some : (i : ℕ) (rs : List Row) (a : Stop) → soonest f i rs ≡ some a → Soonest i rs a
    soonest-some i [] a e = some-none (sym e)
    soonest-some i (r ∷ rs) a e = at (f r) refl e (λ b. soonest-some (suc i) rs b)
      where
        later : Soonest (suc i) rs a → ((q : ℤ × ℤ) → f r ≡ some q → NotAfter a (made r 0 q)) → Soonest i (r ∷ rs) a
        later s z =
            record {
              m = suc s.m;
              inside = suc-le-suc s.inside;
              place = s.place ∙ suc-add i s.m ∙ sym (add-suc i s.m);
              var = s.var;
              found = s.found;
              least = split z s.least;
            }
          where
            split : ((q : ℤ × ℤ) → f r ≡ some q → NotAfter a (made r 0 q)) → ((n : ℕ) (q : ℤ × ℤ) → n < length rs → f (get_or rs n no_row) ≡ some q → NotAfter a (made (get_or rs n no_row) n q))
                → (n : ℕ) (q : ℤ × ℤ) → n < length (r ∷ rs) → f (get_or (r ∷ rs) n no_row) ≡ some q → NotAfter a (made (get_or (r ∷ rs) n no_row) n q)
            split z l zero q h k = z q k
            split z l (suc n) q h k = l n q (le_of_suc-le-suc h) k

        same-pair : (q q₀ : ℤ × ℤ) → some q₀ ≡ some q → q₀ ≡ q
        same-pair q q₀ e = cc

        same_stop : (b c : Stop) → some b ≡ some c → b ≡ c
        same_stop b c e = cc

        first : (q₀ : ℤ × ℤ) → f r ≡ some q₀ → made r i q₀ ≡ a → ((n : ℕ) (q : ℤ × ℤ) → n < length rs → f (get_or rs n no_row) ≡ some q → NotAfter (made r i q₀) (made (get_or rs n no_row) n q)) → Soonest i (r ∷ rs) a
        first q₀ p e l =
            subst (λ (b : Stop). Soonest i (r ∷ rs) b) e
            (record { m = 0; inside = zero-lt-suc (length rs); place = sym (add-zero i); var = refl; found = p; least = split })
          where
            split : (n : ℕ) (q : ℤ × ℤ) → n < length (r ∷ rs) → f (get_or (r ∷ rs) n no_row) ≡ some q → NotAfter (made r i q₀) (made (get_or (r ∷ rs) n no_row) n q)
            split zero q h k = subst (λ (x : ℤ × ℤ). NotAfter (made r i q₀) (made r 0 x)) (same-pair q q₀ (sym p ∙ k)) (not-after-self (made r i q₀))
            split (suc n) q h k = l n q (le_of_suc-le-suc h) k

        pick : (q₀ : ℤ × ℤ) → f r ≡ some q₀ → (b : Stop) → Soonest (suc i) rs b → (c : Bool) → sooner b (made r i q₀) ≡ c → cond c (some b) (some (made r i q₀)) ≡ some a → Soonest i (r ∷ rs) a
        pick q₀ p b s true z e =
            let d : b ≡ a = same_stop b a e in
            later (subst (λ (x : Stop). Soonest (suc i) rs x) d s) (λ q k. subst (λ (x : ℤ × ℤ). NotAfter a (made r 0 x)) (same-pair q q₀ (sym p ∙ k)) (subst (λ (x : Stop). NotAfter x (made r 0 q₀)) d (sooner-yes b (made r i q₀) z)))
        pick q₀ p b s false z e =
            first q₀ p (same_stop (made r i q₀) a e)
            (λ n q h k. not-after-trans (made r i q₀) b (made (get_or rs n no_row) n q) (dens r q₀ p) (dens (get_or rs s.m no_row) (b.num, b.den) s.found) (dens (get_or rs n no_row) q k) (sooner-no b (made r i q₀) z) (s.least n q h k))

        with_rest : (q₀ : ℤ × ℤ) → f r ≡ some q₀ → (o : Option Stop) → soonest f (suc i) rs ≡ o → earliest (made r i q₀) o ≡ some a → ((b : Stop) → soonest f (suc i) rs ≡ some b → Soonest (suc i) rs b) → Soonest i (r ∷ rs) a
        with_rest q₀ p none z e g = first q₀ p (same_stop (made r i q₀) a e) (λ n q h k. absurd (soonest-none (suc i) rs z n q h k))
        with_rest q₀ p (some b) z e g = pick q₀ p b (g b z) (sooner b (made r i q₀)) refl e

        at : (o : Option (ℤ × ℤ)) → f r ≡ o → with_stop o i r.var (soonest f (suc i) rs) ≡ some a → ((b : Stop) → soonest f (suc i) rs ≡ some b → Soonest (suc i) rs b) → Soonest i (r ∷ rs) a
        at none p e g = later (g a e) (λ q k. some-none (sym k ∙ p))
        at (some q₀) p e g = with_rest q₀ p (soonest f (suc i) rs) refl e g
