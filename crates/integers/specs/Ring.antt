-- The ring solver of ℤ: `ring (a ∷ b ∷ c ∷ []) (search quote depth 30) tt : s ≡ t`, where the list has every atom of s and t, at most 24.
-- `search` quotes the two sides as expressions, their difference is brought to a normal form, and `tt` is taken where that is nothing. Otherwise the refusal
-- has `Differ ((c, x ∷ y ∷ []) ∷ ..)`: s − t is c·x·y + .. . An atom that the list lacks is refused as "no proof of `Quote ..`". Assumes nothing.
use Rattle.std.specs.Prelude.{◌≡◌, refl, List, [], ◌∷◌, Bool, true, false, cond, T, leb, ℤ, pos, negsuc, neg_ℤ, ◌+ℤ◌, ◌-ℤ◌, ◌*ℤ◌}
use Rattle.std.proofs.Common.{sym, ap, ap₂, ◌∙◌, add-one, eqb→eq}
use Prim.Native.Nat.{ℕ, zero, suc, ◌+◌, ◌*◌, compare, Ordering}
use Rattle.std.proofs.Math.Dec.{compare_is_eq}
use Rattle.std.proofs.Math.IntN.{+ℤ_idl, +ℤ_idr, +ℤ_assoc, -ℤ-+ℤ_cancel, neg_ℤ-+ℤ, zero-*ℤ, *ℤ-zero}
use Rattle.integers.specs.Z.{*ℤ-assoc, *ℤ-left-comm, *ℤ-+ℤ, +ℤ-*ℤ, negℤ-*ℤ, one-*ℤ, *ℤ-one', shuffle-mul, +ℤ-left-comm}

-- ---- expressions and their value
pub data Expr : Type 0 where
  var : ℕ → Expr
  con : ℤ → Expr
  add mul : Expr → Expr → Expr
  neg : Expr → Expr

abbrev pub atom : List ℤ → ℕ → ℤ
atom [] k = pos 0
atom (z ∷ l) zero = z
atom (z ∷ l) (suc k) = atom l k

abbrev pub eval : List ℤ → Expr → ℤ
eval l (var k) = atom l k
eval l (con z) = z
eval l (add a b) = eval l a +ℤ eval l b
eval l (mul a b) = eval l a *ℤ eval l b
eval l (neg a) = neg_ℤ (eval l a)

-- ---- polynomials: a sum of terms, each a coefficient and a sorted list of atoms' numbers
pub data Poly : Type 0 where
  nil : Poly
  term : ℤ → List ℕ → Poly → Poly

abbrev pub eval_m : List ℤ → List ℕ → ℤ
eval_m l [] = pos 1
eval_m l (x ∷ []) = atom l x
eval_m l (x ∷ y ∷ m) = atom l x *ℤ eval_m l (y ∷ m)

abbrev pub eval_p : List ℤ → Poly → ℤ
eval_p l nil = pos 0
eval_p l (term c m p) = c *ℤ eval_m l m +ℤ eval_p l p

-- ---- the normaliser
abbrev pub then : Ordering → Ordering → Ordering
then Ordering.lt o = Ordering.lt
then Ordering.eq o = o
then Ordering.gt o = Ordering.gt

abbrev pub cmp_m : List ℕ → List ℕ → Ordering
cmp_m [] [] = Ordering.eq
cmp_m [] (y ∷ ys) = Ordering.lt
cmp_m (x ∷ xs) [] = Ordering.gt
cmp_m (x ∷ xs) (y ∷ ys) = then (compare x y) (cmp_m xs ys)

abbrev pub ins_m : ℕ → List ℕ → List ℕ
ins_m x [] = x ∷ []
ins_m x (y ∷ ys) = cond (leb x y) (x ∷ y ∷ ys) (y ∷ ins_m x ys)

abbrev pub mul_m : List ℕ → List ℕ → List ℕ
mul_m [] ys = ys
mul_m (x ∷ xs) ys = ins_m x (mul_m xs ys)

abbrev pub place : Ordering → ℤ → List ℕ → ℤ → List ℕ → Poly → Poly → Poly
place Ordering.lt c m d k p r = term c m (term d k p)
place Ordering.eq c m d k p r = term (c +ℤ d) k p
place Ordering.gt c m d k p r = term d k r

abbrev pub ins : ℤ → List ℕ → Poly → Poly
ins c m nil = term c m nil
ins c m (term d k p) = let r = ins c m p in place (cmp_m m k) c m d k p r

abbrev pub add_p : Poly → Poly → Poly
add_p nil q = q
add_p (term c m p) q = ins c m (add_p p q)

abbrev pub mul_t : ℤ → List ℕ → Poly → Poly
mul_t c m nil = nil
mul_t c m (term d k p) = ins (c *ℤ d) (mul_m m k) (mul_t c m p)

abbrev pub mul_p : Poly → Poly → Poly
mul_p nil q = nil
mul_p (term c m p) q = add_p (mul_t c m q) (mul_p p q)

abbrev pub neg_p : Poly → Poly
neg_p nil = nil
neg_p (term c m p) = term (neg_ℤ c) m (neg_p p)

abbrev pub drop0 : ℤ → List ℕ → Poly → Poly
drop0 (pos zero) m p = p
drop0 (pos (suc n)) m p = term (pos (suc n)) m p
drop0 (negsuc n) m p = term (negsuc n) m p

abbrev pub clean : Poly → Poly
clean nil = nil
clean (term c m p) = drop0 c m (clean p)

abbrev pub norm : Expr → Poly
norm (var k) = term (pos 1) (k ∷ []) nil
norm (con z) = term z [] nil
norm (add a b) = add_p (norm a) (norm b)
norm (mul a b) = mul_p (norm a) (norm b)
norm (neg a) = neg_p (norm a)

-- ---- it is sound
module _ (l : List ℤ) where
  cons_m : (x : ℕ) (m : List ℕ) → eval_m l (x ∷ m) ≡ atom l x *ℤ eval_m l m
  cons_m x [] = sym (*ℤ-one' (atom l x))
  cons_m x (y ∷ m) = refl

  ins_m-go : (x y : ℕ) (ys : List ℕ) (b : Bool) → eval_m l (ins_m x ys) ≡ atom l x *ℤ eval_m l ys → eval_m l (cond b (x ∷ y ∷ ys) (y ∷ ins_m x ys)) ≡ atom l x *ℤ eval_m l (y ∷ ys)
  ins_m-go x y ys true ih = refl
  ins_m-go x y ys false ih = cons_m y (ins_m x ys) ∙ ap (λ (z : ℤ). atom l y *ℤ z) ih ∙ *ℤ-left-comm (atom l y) (atom l x) (eval_m l ys) ∙ ap (λ (z : ℤ). atom l x *ℤ z) (sym (cons_m y ys))

  ins_m-is : (x : ℕ) (m : List ℕ) → eval_m l (ins_m x m) ≡ atom l x *ℤ eval_m l m
  ins_m-is x [] = cons_m x []
  ins_m-is x (y ∷ ys) = ins_m-go x y ys (leb x y) (ins_m-is x ys)

  mul_m-is : (m k : List ℕ) → eval_m l (mul_m m k) ≡ eval_m l m *ℤ eval_m l k
  mul_m-is [] k = sym (one-*ℤ (eval_m l k))
  mul_m-is (x ∷ m) k =
      ins_m-is x (mul_m m k) ∙ ap (λ (z : ℤ). atom l x *ℤ z) (mul_m-is m k) ∙ sym (*ℤ-assoc (atom l x) (eval_m l m) (eval_m l k)) ∙ ap (λ (z : ℤ). z *ℤ eval_m l k) (sym (cons_m x m))

  then-eq : (x y : ℕ) (o : Ordering) (xs ys : List ℕ) → (T (compare_is_eq o) → xs ≡ ys) → T (compare_is_eq (then (compare x y) o)) → ◌≡◌ {A = List ℕ} (x ∷ xs) (y ∷ ys)
  then-eq x y o xs ys h t = go (compare x y) (λ q. eqb→eq x y q) t
    where
      go : (c : Ordering) → (T (compare_is_eq c) → x ≡ y) → T (compare_is_eq (then c o)) → ◌≡◌ {A = List ℕ} (x ∷ xs) (y ∷ ys)
      go Ordering.lt f t = absurd t
      go Ordering.eq f t = ap₂ {C = List ℕ} ◌∷◌ (f tt) (h t)
      go Ordering.gt f t = absurd t

  cmp_m-eq : (m k : List ℕ) → T (compare_is_eq (cmp_m m k)) → m ≡ k
  cmp_m-eq [] [] t = refl
  cmp_m-eq [] (y ∷ ys) t = absurd t
  cmp_m-eq (x ∷ xs) [] t = absurd t
  cmp_m-eq (x ∷ xs) (y ∷ ys) t = then-eq x y (cmp_m xs ys) xs ys (cmp_m-eq xs ys) t

  place_is : (o : Ordering) (c : ℤ) (m : List ℕ) (d : ℤ) (k : List ℕ) (p r : Poly) → (T (compare_is_eq o) → m ≡ k) → eval_p l r ≡ c *ℤ eval_m l m +ℤ eval_p l p
      → eval_p l (place o c m d k p r) ≡ c *ℤ eval_m l m +ℤ (d *ℤ eval_m l k +ℤ eval_p l p)
  place_is Ordering.lt c m d k p r f e = refl
  place_is Ordering.eq c m d k p r f e =
      ap (λ (z : ℤ). z +ℤ eval_p l p) (+ℤ-*ℤ c d (eval_m l k)) ∙ +ℤ_assoc (c *ℤ eval_m l k) (d *ℤ eval_m l k) (eval_p l p)
      ∙ ap (λ (z : List ℕ). c *ℤ eval_m l z +ℤ (d *ℤ eval_m l k +ℤ eval_p l p)) (sym (f tt))
  place_is Ordering.gt c m d k p r f e = ap (λ (z : ℤ). d *ℤ eval_m l k +ℤ z) e ∙ +ℤ-left-comm (d *ℤ eval_m l k) (c *ℤ eval_m l m) (eval_p l p)

  ins-is : (c : ℤ) (m : List ℕ) (p : Poly) → eval_p l (ins c m p) ≡ c *ℤ eval_m l m +ℤ eval_p l p
  ins-is c m nil = refl
  ins-is c m (term d k p) = place_is (cmp_m m k) c m d k p (ins c m p) (cmp_m-eq m k) (ins-is c m p)

  add_p-is : (p q : Poly) → eval_p l (add_p p q) ≡ eval_p l p +ℤ eval_p l q
  add_p-is nil q = sym (+ℤ_idl (eval_p l q))
  add_p-is (term c m p) q = ins-is c m (add_p p q) ∙ ap (λ (z : ℤ). c *ℤ eval_m l m +ℤ z) (add_p-is p q) ∙ sym (+ℤ_assoc (c *ℤ eval_m l m) (eval_p l p) (eval_p l q))

  mul_t-is : (c : ℤ) (m : List ℕ) (p : Poly) → eval_p l (mul_t c m p) ≡ (c *ℤ eval_m l m) *ℤ eval_p l p
  mul_t-is c m nil = sym (*ℤ-zero (c *ℤ eval_m l m))
  mul_t-is c m (term d k p) =
      ins-is (c *ℤ d) (mul_m m k) (mul_t c m p)
      ∙ ap₂ ◌+ℤ◌ (ap (λ (z : ℤ). (c *ℤ d) *ℤ z) (mul_m-is m k) ∙ shuffle-mul c d (eval_m l m) (eval_m l k)) (mul_t-is c m p)
      ∙ sym (*ℤ-+ℤ (c *ℤ eval_m l m) (d *ℤ eval_m l k) (eval_p l p))

  mul_p-is : (p q : Poly) → eval_p l (mul_p p q) ≡ eval_p l p *ℤ eval_p l q
  mul_p-is nil q = sym (zero-*ℤ (eval_p l q))
  mul_p-is (term c m p) q = add_p-is (mul_t c m q) (mul_p p q) ∙ ap₂ ◌+ℤ◌ (mul_t-is c m q) (mul_p-is p q) ∙ sym (+ℤ-*ℤ (c *ℤ eval_m l m) (eval_p l p) (eval_p l q))

  neg_p-is : (p : Poly) → eval_p l (neg_p p) ≡ neg_ℤ (eval_p l p)
  neg_p-is nil = refl
  neg_p-is (term c m p) = ap₂ ◌+ℤ◌ (negℤ-*ℤ c (eval_m l m)) (neg_p-is p) ∙ sym (neg_ℤ-+ℤ (c *ℤ eval_m l m) (eval_p l p))

  drop0-is : (c : ℤ) (m : List ℕ) (p : Poly) → eval_p l (drop0 c m p) ≡ c *ℤ eval_m l m +ℤ eval_p l p
  drop0-is (pos zero) m p = sym (ap (λ (z : ℤ). z +ℤ eval_p l p) (zero-*ℤ (eval_m l m)) ∙ +ℤ_idl (eval_p l p))
  drop0-is (pos (suc n)) m p = refl
  drop0-is (negsuc n) m p = refl

  clean_is : (p : Poly) → eval_p l (clean p) ≡ eval_p l p
  clean_is nil = refl
  clean_is (term c m p) = drop0-is c m (clean p) ∙ ap (λ (z : ℤ). c *ℤ eval_m l m +ℤ z) (clean_is p)

  pub norm-is : (e : Expr) → eval_p l (norm e) ≡ eval l e
  norm-is (var k) = +ℤ_idr (pos 1 *ℤ atom l k) ∙ one-*ℤ (atom l k)
  norm-is (con z) = +ℤ_idr (z *ℤ pos 1) ∙ *ℤ-one' z
  norm-is (add a b) = add_p-is (norm a) (norm b) ∙ ap₂ ◌+ℤ◌ (norm-is a) (norm-is b)
  norm-is (mul a b) = mul_p-is (norm a) (norm b) ∙ ap₂ ◌*ℤ◌ (norm-is a) (norm-is b)
  norm-is (neg a) = neg_p-is (norm a) ∙ ap neg_ℤ (norm-is a)

  pub simplified : (e : Expr) → eval_p l (clean (norm e)) ≡ eval l e
  simplified e = clean_is (norm e) ∙ norm-is e

-- ---- quoting: `search quote` finds the expression
pub record Quote (l : List ℤ) (z : ℤ) : Type 0 where
  pub e : Expr
  pub is : eval l e ≡ z

-- the atoms, by their places in the list: a rule for each, as one that walks along the list takes `search` past its bound at nine atoms
abbrev pub q0 : {z : ℤ} {l : List ℤ} → Quote (z ∷ l) z
q0 = record { e = var 0; is = refl }

abbrev pub q1 : {x0 z : ℤ} {l : List ℤ} → Quote (x0 ∷ z ∷ l) z
q1 = record { e = var 1; is = refl }

abbrev pub q2 : {x0 x1 z : ℤ} {l : List ℤ} → Quote (x0 ∷ x1 ∷ z ∷ l) z
q2 = record { e = var 2; is = refl }

abbrev pub q3 : {x0 x1 x2 z : ℤ} {l : List ℤ} → Quote (x0 ∷ x1 ∷ x2 ∷ z ∷ l) z
q3 = record { e = var 3; is = refl }

abbrev pub q4 : {x0 x1 x2 x3 z : ℤ} {l : List ℤ} → Quote (x0 ∷ x1 ∷ x2 ∷ x3 ∷ z ∷ l) z
q4 = record { e = var 4; is = refl }

abbrev pub q5 : {x0 x1 x2 x3 x4 z : ℤ} {l : List ℤ} → Quote (x0 ∷ x1 ∷ x2 ∷ x3 ∷ x4 ∷ z ∷ l) z
q5 = record { e = var 5; is = refl }

abbrev pub q6 : {x0 x1 x2 x3 x4 x5 z : ℤ} {l : List ℤ} → Quote (x0 ∷ x1 ∷ x2 ∷ x3 ∷ x4 ∷ x5 ∷ z ∷ l) z
q6 = record { e = var 6; is = refl }

abbrev pub q7 : {x0 x1 x2 x3 x4 x5 x6 z : ℤ} {l : List ℤ} → Quote (x0 ∷ x1 ∷ x2 ∷ x3 ∷ x4 ∷ x5 ∷ x6 ∷ z ∷ l) z
q7 = record { e = var 7; is = refl }

abbrev pub q8 : {x0 x1 x2 x3 x4 x5 x6 x7 z : ℤ} {l : List ℤ} → Quote (x0 ∷ x1 ∷ x2 ∷ x3 ∷ x4 ∷ x5 ∷ x6 ∷ x7 ∷ z ∷ l) z
q8 = record { e = var 8; is = refl }

abbrev pub q9 : {x0 x1 x2 x3 x4 x5 x6 x7 x8 z : ℤ} {l : List ℤ} → Quote (x0 ∷ x1 ∷ x2 ∷ x3 ∷ x4 ∷ x5 ∷ x6 ∷ x7 ∷ x8 ∷ z ∷ l) z
q9 = record { e = var 9; is = refl }

abbrev pub q10 : {x0 x1 x2 x3 x4 x5 x6 x7 x8 x9 z : ℤ} {l : List ℤ} → Quote (x0 ∷ x1 ∷ x2 ∷ x3 ∷ x4 ∷ x5 ∷ x6 ∷ x7 ∷ x8 ∷ x9 ∷ z ∷ l) z
q10 = record { e = var 10; is = refl }

abbrev pub q11 : {x0 x1 x2 x3 x4 x5 x6 x7 x8 x9 x10 z : ℤ} {l : List ℤ} → Quote (x0 ∷ x1 ∷ x2 ∷ x3 ∷ x4 ∷ x5 ∷ x6 ∷ x7 ∷ x8 ∷ x9 ∷ x10 ∷ z ∷ l) z
q11 = record { e = var 11; is = refl }

abbrev pub q12 : {x0 x1 x2 x3 x4 x5 x6 x7 x8 x9 x10 x11 z : ℤ} {l : List ℤ} → Quote (x0 ∷ x1 ∷ x2 ∷ x3 ∷ x4 ∷ x5 ∷ x6 ∷ x7 ∷ x8 ∷ x9 ∷ x10 ∷ x11 ∷ z ∷ l) z
q12 = record { e = var 12; is = refl }

abbrev pub q13 : {x0 x1 x2 x3 x4 x5 x6 x7 x8 x9 x10 x11 x12 z : ℤ} {l : List ℤ} → Quote (x0 ∷ x1 ∷ x2 ∷ x3 ∷ x4 ∷ x5 ∷ x6 ∷ x7 ∷ x8 ∷ x9 ∷ x10 ∷ x11 ∷ x12 ∷ z ∷ l) z
q13 = record { e = var 13; is = refl }

abbrev pub q14 : {x0 x1 x2 x3 x4 x5 x6 x7 x8 x9 x10 x11 x12 x13 z : ℤ} {l : List ℤ} → Quote (x0 ∷ x1 ∷ x2 ∷ x3 ∷ x4 ∷ x5 ∷ x6 ∷ x7 ∷ x8 ∷ x9 ∷ x10 ∷ x11 ∷ x12 ∷ x13 ∷ z ∷ l) z
q14 = record { e = var 14; is = refl }

abbrev pub q15 : {x0 x1 x2 x3 x4 x5 x6 x7 x8 x9 x10 x11 x12 x13 x14 z : ℤ} {l : List ℤ} → Quote (x0 ∷ x1 ∷ x2 ∷ x3 ∷ x4 ∷ x5 ∷ x6 ∷ x7 ∷ x8 ∷ x9 ∷ x10 ∷ x11 ∷ x12 ∷ x13 ∷ x14 ∷ z ∷ l) z
q15 = record { e = var 15; is = refl }

abbrev pub q16 : {x0 x1 x2 x3 x4 x5 x6 x7 x8 x9 x10 x11 x12 x13 x14 x15 z : ℤ} {l : List ℤ} → Quote (x0 ∷ x1 ∷ x2 ∷ x3 ∷ x4 ∷ x5 ∷ x6 ∷ x7 ∷ x8 ∷ x9 ∷ x10 ∷ x11 ∷ x12 ∷ x13 ∷ x14 ∷ x15 ∷ z ∷ l) z
q16 = record { e = var 16; is = refl }

abbrev pub q17 : {x0 x1 x2 x3 x4 x5 x6 x7 x8 x9 x10 x11 x12 x13 x14 x15 x16 z : ℤ} {l : List ℤ} → Quote (x0 ∷ x1 ∷ x2 ∷ x3 ∷ x4 ∷ x5 ∷ x6 ∷ x7 ∷ x8 ∷ x9 ∷ x10 ∷ x11 ∷ x12 ∷ x13 ∷ x14 ∷ x15 ∷ x16 ∷ z ∷ l) z
q17 = record { e = var 17; is = refl }

abbrev pub q18 : {x0 x1 x2 x3 x4 x5 x6 x7 x8 x9 x10 x11 x12 x13 x14 x15 x16 x17 z : ℤ} {l : List ℤ} → Quote (x0 ∷ x1 ∷ x2 ∷ x3 ∷ x4 ∷ x5 ∷ x6 ∷ x7 ∷ x8 ∷ x9 ∷ x10 ∷ x11 ∷ x12 ∷ x13 ∷ x14 ∷ x15 ∷ x16 ∷ x17 ∷ z ∷ l) z
q18 = record { e = var 18; is = refl }

abbrev pub q19 : {x0 x1 x2 x3 x4 x5 x6 x7 x8 x9 x10 x11 x12 x13 x14 x15 x16 x17 x18 z : ℤ} {l : List ℤ} → Quote (x0 ∷ x1 ∷ x2 ∷ x3 ∷ x4 ∷ x5 ∷ x6 ∷ x7 ∷ x8 ∷ x9 ∷ x10 ∷ x11 ∷ x12 ∷ x13 ∷ x14 ∷ x15 ∷ x16 ∷ x17 ∷ x18 ∷ z ∷ l) z
q19 = record { e = var 19; is = refl }

abbrev pub q20 : {x0 x1 x2 x3 x4 x5 x6 x7 x8 x9 x10 x11 x12 x13 x14 x15 x16 x17 x18 x19 z : ℤ} {l : List ℤ} → Quote (x0 ∷ x1 ∷ x2 ∷ x3 ∷ x4 ∷ x5 ∷ x6 ∷ x7 ∷ x8 ∷ x9 ∷ x10 ∷ x11 ∷ x12 ∷ x13 ∷ x14 ∷ x15 ∷ x16 ∷ x17 ∷ x18 ∷ x19 ∷ z ∷ l) z
q20 = record { e = var 20; is = refl }

abbrev pub q21 : {x0 x1 x2 x3 x4 x5 x6 x7 x8 x9 x10 x11 x12 x13 x14 x15 x16 x17 x18 x19 x20 z : ℤ} {l : List ℤ} → Quote (x0 ∷ x1 ∷ x2 ∷ x3 ∷ x4 ∷ x5 ∷ x6 ∷ x7 ∷ x8 ∷ x9 ∷ x10 ∷ x11 ∷ x12 ∷ x13 ∷ x14 ∷ x15 ∷ x16 ∷ x17 ∷ x18 ∷ x19 ∷ x20 ∷ z ∷ l) z
q21 = record { e = var 21; is = refl }

abbrev pub q22 : {x0 x1 x2 x3 x4 x5 x6 x7 x8 x9 x10 x11 x12 x13 x14 x15 x16 x17 x18 x19 x20 x21 z : ℤ} {l : List ℤ} → Quote (x0 ∷ x1 ∷ x2 ∷ x3 ∷ x4 ∷ x5 ∷ x6 ∷ x7 ∷ x8 ∷ x9 ∷ x10 ∷ x11 ∷ x12 ∷ x13 ∷ x14 ∷ x15 ∷ x16 ∷ x17 ∷ x18 ∷ x19 ∷ x20 ∷ x21 ∷ z ∷ l) z
q22 = record { e = var 22; is = refl }

abbrev pub q23 : {x0 x1 x2 x3 x4 x5 x6 x7 x8 x9 x10 x11 x12 x13 x14 x15 x16 x17 x18 x19 x20 x21 x22 z : ℤ} {l : List ℤ} → Quote (x0 ∷ x1 ∷ x2 ∷ x3 ∷ x4 ∷ x5 ∷ x6 ∷ x7 ∷ x8 ∷ x9 ∷ x10 ∷ x11 ∷ x12 ∷ x13 ∷ x14 ∷ x15 ∷ x16 ∷ x17 ∷ x18 ∷ x19 ∷ x20 ∷ x21 ∷ x22 ∷ z ∷ l) z
q23 = record { e = var 23; is = refl }

abbrev pub q-con : {l : List ℤ} (z : ℤ) → Quote l z
q-con z = record { e = con z; is = refl }

-- a literal: the test computes, and only there
abbrev pub q-pos : {l : List ℤ} (k : ℕ) → T (leb 0 k) → Quote l (pos k)
q-pos k t = q-con (pos k)

abbrev pub q-negsuc : {l : List ℤ} (k : ℕ) → T (leb 0 k) → Quote l (negsuc k)
q-negsuc k t = q-con (negsuc k)

abbrev pub q_add : {l : List ℤ} {a b : ℤ} → Quote l a → Quote l b → Quote l (a +ℤ b)
q_add x y = record { e = add x.e y.e; is = ap₂ ◌+ℤ◌ x.is y.is }

abbrev pub q-mul : {l : List ℤ} {a b : ℤ} → Quote l a → Quote l b → Quote l (a *ℤ b)
q-mul x y = record { e = mul x.e y.e; is = ap₂ ◌*ℤ◌ x.is y.is }

abbrev pub q-neg : {l : List ℤ} {a : ℤ} → Quote l a → Quote l (neg_ℤ a)
q-neg x = record { e = neg x.e; is = ap neg_ℤ x.is }

-- a natural number's sum and product, as an integer
abbrev pub q-nadd : {l : List ℤ} (a b : ℕ) → Quote l (pos a) → Quote l (pos b) → Quote l (pos (a + b))
q-nadd a b x y = record { e = add x.e y.e; is = ap₂ ◌+ℤ◌ x.is y.is }

abbrev pub q-nmul : {l : List ℤ} (a b : ℕ) → Quote l (pos a) → Quote l (pos b) → Quote l (pos (a * b))
q-nmul a b x y = record { e = mul x.e y.e; is = ap₂ ◌*ℤ◌ x.is y.is }

abbrev pub q-suc : {l : List ℤ} (n : ℕ) → Quote l (pos n) → Quote l (pos (suc n))
q-suc n x = record { e = add x.e (con (pos 1)); is = ap (λ (z : ℤ). z +ℤ pos 1) x.is ∙ ap pos (add-one n) }

abbrev pub q-below : {l : List ℤ} (n : ℕ) → Quote l (pos n) → Quote l (negsuc n)
q-below n x = record { e = neg (add x.e (con (pos 1))); is = ap neg_ℤ (q-suc n x).is }

-- two at once. A lemma makes it, so that `search` finds it among its first, cheap searches
pub record Pair (l : List ℤ) (a b : ℤ) : Type 0 where
  pub left : Quote l a
  pub right : Quote l b

abbrev pub pair : {l : List ℤ} {a b : ℤ} → Quote l a → Quote l b → Pair l a b
pair x y = record { left = x; right = y }

pub ruleset quote = (tt, pair, q-mul, q_add, q-neg, q0, q1, q2, q3, q4, q5, q6, q7, q8, q9, q10, q11, q12, q13, q14, q15, q16, q17, q18, q19, q20, q21, q22, q23, q-pos, q-negsuc, q-nadd, q-nmul, q-suc, q-below)

-- ---- the verdict
-- what is left of a difference: sums of a coefficient times atoms. Nothing proves it
pub record Differ (left : List (ℤ × List ℤ)) : Type 0 where
  pub never : ⊥

abbrev pub atoms : List ℤ → List ℕ → List ℤ
atoms l [] = []
atoms l (x ∷ m) = atom l x ∷ atoms l m

abbrev pub terms : List ℤ → Poly → List (ℤ × List ℤ)
terms l nil = []
terms l (term c m p) = (c, atoms l m) ∷ terms l p

abbrev pub Same : List ℤ → Poly → Type 0
Same l nil = Unit {0}
Same l (term c m p) = Differ (terms l (term c m p))

same-is : (l : List ℤ) (p : Poly) → Same l p → eval_p l p ≡ pos 0
same-is l nil t = refl
same-is l (term c m p) t = absurd t.never

cancel : (a b : ℤ) → a -ℤ b ≡ pos 0 → a ≡ b
cancel a b h = sym (-ℤ-+ℤ_cancel a b) ∙ ap (λ (z : ℤ). z +ℤ b) h ∙ +ℤ_idl b

pub ring : (l : List ℤ) {a b : ℤ} (q : Pair l a b) → Same l (clean (norm (add q.left.e (neg q.right.e)))) → a ≡ b
ring l {a} {b} q t =
    let d = add q.left.e (neg q.right.e) in
    cancel a b (ap₂ (λ (u v : ℤ). u -ℤ v) (sym q.left.is) (sym q.right.is) ∙ sym (simplified l d) ∙ same-is l (clean (norm d)) t)
