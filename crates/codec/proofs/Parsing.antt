-- Laws of the readers, of the tests of numbers, and of the parse from a place on.
use mathlib.Core.Path.{◌≡◌, refl, sym, ap, ap₂, ◌∙◌, subst}
use mathlib.Core.Bool.{Bool, true, false, not, ◌&&◌, ◌||◌, cond}
use mathlib.Core.List.{List, [], ◌∷◌}
use mathlib.Core.Logic.{⊎_elim}
use Rattle.std.proofs.lemmas.Bool.Decides.{eqb_tells}
use Prim.Native.Nat.{ℕ, zero, suc, ◌+◌, ◌-◌, ◌*◌, ◌≤◌, ◌<◌}
use native.Mathlib.Numerals.{add-one}
use native.Mathlib.Omega.{arith}
use borrow.Author.Tests.{ltb-true, lt-ltb, le-ltb, le-leb, lt-leb, ne_eqb, leb-true, eqb-true}
use lib.Dec.{T, ltb, leb, eqb}
use lib.IntN.{ℤ, negsuc}
use lib.Signed.{le_z}
use lib.ListN.{length, take, drop, get_or, drop_of_length-le, length-drop}
use lib.Seq.{drop-cons, drop-drop}
use lib.Dec.{ltb→lt}
use Rattle.integers.specs.LittleEndian.{signed-ind}
use Rattle.model.specs.Lists.{all}
use Rattle.model.specs.Sets.{Constraint, is_zero, absent, equality, inequality}
use Rattle.model.specs.Numbers.{numbered}
use Rattle.codec.specs.Bytes.{Answer, refused, gives, value_of, signed, signed_list, coefficient, constant_fits, constant_in, axes_in, divisions_in, Command, opens, division, constraint, is_opening, is_division, is_bare, is_numbered, is_constraint, is_equality, goes_on, has_head, misnumbered, body_of, head_of, division_body, constraint_body, kind_of, Counts, first_failing, tests_of, refusal, counted, width_of, read_division, read_constraint, body_in, is_misnumbered, read_rule, read_command, head_refusal, after, parse, set_of, axes_fit, decode, number}
use Rattle.codec.specs.Places.{bare_width, numbered_width, longest_constraint}

-- ---- lists of coefficients
pub all_more : (f : ℤ → Bool) (left p : ℕ) (s : List ℕ) → (left ≡ 0 → ⊥) → all f (signed_list left (drop p s)) ≡ (f (signed 2 (value_of (take 2 (drop p s)))) && all f (signed_list (left - 1) (drop (p + 2) s)))
all_more f zero p s h = absurd (h refl)
all_more f (suc m) p s h = let e : m ≡ suc m - 1 = omega arith in ap₂ (λ (j : ℕ) (l : List ℕ). f (signed 2 (value_of (take 2 (drop p s)))) && all f (signed_list j l)) e (drop-drop 2 p s)

absent-at : (n m p : ℕ) (s : List ℕ) → drop n (signed_list (n + m) (drop p s)) ≡ signed_list m (drop (p + 2 * n) s)
absent-at zero m p s = let a : 0 + m ≡ m = omega arith in let b : p ≡ p + 2 * 0 = omega arith in ap₂ (λ (i j : ℕ). signed_list i (drop j s)) a b
absent-at (suc n) m p s =
    let a : suc n + m ≡ suc (n + m) = omega arith in let b : p + 2 + 2 * n ≡ p + 2 * suc n = omega arith in
    ap (λ (i : ℕ). drop (suc n) (signed_list i (drop p s))) a
    ∙ ap (λ (l : List ℕ). drop n (signed_list (n + m) l)) (drop-drop 2 p s) ∙ absent-at n m (p + 2) s ∙ ap (λ (i : ℕ). signed_list m (drop i s)) b

pub absent-of : (n p : ℕ) (s : List ℕ) → n ≤ 8 → absent n (signed_list 8 (drop p s)) ≡ all is_zero (signed_list (8 - n) (drop (p + 2 * n) s))
absent-of n p s h = let e : 8 ≡ n + (8 - n) = omega arith in ap (λ (i : ℕ). all is_zero (drop n (signed_list i (drop p s)))) e ∙ ap (all is_zero) (absent-at n (8 - n) p s)

-- ---- tests of one number
by : (P : Bool → Type 0) (b : Bool) → (b ≡ true → P true) → (b ≡ false → P false) → P b
by P true f g = f refl
by P false f g = g refl

same-and-true : (b : Bool) → (b && true) ≡ b
same-and-true true = refl
same-and-true false = refl

pub coefficient-not : (v : ℕ) → v ≡ 32768 → coefficient (signed 2 v) ≡ false
coefficient-not v e = ap (λ (w : ℕ). coefficient (signed 2 w)) e

pub coefficient-yes : (v : ℕ) → v < 65536 → (v ≡ 32768 → ⊥) → coefficient (signed 2 v) ≡ true
coefficient-yes v h n = signed-ind 2 (λ (z : ℤ). coefficient z ≡ true) v
    (λ l. let k : v ≤ 32767 = omega arith in le-leb v 32767 k)
    (λ l. let k : 65536 - suc v ≤ 32766 = omega arith in same-and-true _ ∙ le-leb (65536 - suc v) 32766 k)

-- the bits of a number in range, and of 0
pub coefficient-is : (v : ℕ) → v < 65536 → not (eqb v 32768) ≡ coefficient (signed 2 v)
coefficient-is v h = ⊎_elim (λ e. ap not e.0 ∙ sym (coefficient-not v e.1)) (λ e. ap not e.0 ∙ sym (coefficient-yes v h e.1)) (eqb_tells v 32768)

pub zero-yes : (v : ℕ) → v ≡ 0 → is_zero (signed 2 v) ≡ true
zero-yes v e = ap (λ (w : ℕ). is_zero (signed 2 w)) e

pub zero-not : (v : ℕ) → v < 65536 → (v ≡ 0 → ⊥) → is_zero (signed 2 v) ≡ false
zero-not v h n = signed-ind 2 (λ (z : ℤ). is_zero z ≡ false) v (λ l. ne_eqb v 0 n) (λ l. refl)

pub zero-is : (v : ℕ) → v < 65536 → leb v 0 ≡ is_zero (signed 2 v)
zero-is v h = ⊎_elim (λ e. le-leb v 0 (omega (arith, e.1)) ∙ sym (zero-yes v e.1)) (λ e. lt-leb v 0 (omega (arith, e.1)) ∙ sym (zero-not v h e.1)) (eqb_tells v 0)

pub equality-yes : (v : ℕ) → v < 4294967296 → (v ≡ 2147483648 → ⊥) → constant_fits equality (signed 4 v) ≡ true
equality-yes v k h = signed-ind 4 (λ (z : ℤ). le_z (negsuc 2147483646) z ≡ true) v (λ l. refl) (λ l. le-leb (4294967296 - suc v) 2147483646 (omega arith))

-- ---- tests in a row
pub pos-ltb : (b : ℕ) → (b ≡ 0 → ⊥) → ltb 0 b ≡ true
pos-ltb b h = lt-ltb 0 b (omega arith)

pub both : {a b : Bool} → a ≡ true → b ≡ true → (a && b) ≡ true
both {a} {b} p q = ap₂ (λ (x y : Bool). x && y) p q

pub first-no : {a : Bool} (b : Bool) → a ≡ false → (a && b) ≡ false
first-no b p = ap (λ (x : Bool). x && b) p

pub second-no : {a b : Bool} → a ≡ true → b ≡ false → (a && b) ≡ false
second-no p q = ap₂ (λ (x y : Bool). x && y) p q

pub divisor-zero : (d v : ℕ) → d ≡ v → d ≡ 0 → (ltb 0 v && leb v 32767) ≡ false
divisor-zero d v e h = first-no (leb v 32767) (le-ltb 0 v (omega arith))

pub divisor-over : (d v : ℕ) → d ≡ v → 32767 < d → (ltb 0 v && leb v 32767) ≡ false
divisor-over d v e h = second-no (lt-ltb 0 v (omega arith)) (lt-leb v 32767 (omega arith))

pub divisor-in : (d v : ℕ) → d ≡ v → (d ≡ 0 → ⊥) → d ≤ 32767 → (ltb 0 v && leb v 32767) ≡ true
divisor-in d v e n h = both (pos-ltb v (λ z. n (e ∙ z))) (le-leb v 32767 (omega arith))

-- ---- the parse from a place on
abbrev pub start : Counts
start = record { basics = 0; divisions = 0; constraints = 0 }

-- the parse of what is left at a place, with fuel enough, has the number of the whole
pub record Left (n : ℕ) (s : List ℕ) (at : ℕ) (k : Counts) : Type 0 where
  pub inside : at ≤ length s
  pub basics : k.basics ≤ at
  pub divisions : k.divisions ≤ at
  pub constraints : k.constraints ≤ at
  pub few : k.divisions ≤ 8
  pub fuel : ℕ
  pub enough : length s ≤ at + fuel
  pub same : number (parse n fuel k (drop at s)) ≡ number (parse n (length s) start s)

pub left-start : (n : ℕ) (s : List ℕ) → Left n s 0 start
left-start n s = record { inside = omega arith; basics = omega arith; divisions = omega arith; constraints = omega arith; few = omega arith; fuel = length s; enough = omega arith; same = refl }

pub parse-nil : (n f : ℕ) (k : Counts) → parse n f k [] ≡ gives []
unfolding parse
parse-nil n zero k = refl
parse-nil n (suc f) k = refl

pub left_end : (n : ℕ) (s : List ℕ) (at : ℕ) (k : Counts) → Left n s at k → length s ≤ at → number (parse n (length s) start s) ≡ 0
left_end n s at k l h = sym l.same ∙ ap (λ (r : List ℕ). number (parse n l.fuel k r)) (drop_of_length-le s h) ∙ ap number (parse-nil n l.fuel k)

-- one command
pub parse-stop : (n f : ℕ) (k : Counts) (b : ℕ) (s : List ℕ) (m : ℕ) → head_refusal n k b s ≡ suc m → parse n (suc f) k (b ∷ s) ≡ refused (suc m)
unfolding parse
parse-stop n f k b s m e = rw (e, parse)

pub parse-next : (n f : ℕ) (k : Counts) (b : ℕ) (s : List ℕ) → head_refusal n k b s ≡ 0
    → parse n (suc f) k (b ∷ s) ≡ after (read_command b s) (parse n f (counted k (read_command b s)) (drop (width_of b - 1) s))
unfolding parse
parse-next n f k b s e = rw (e, parse)

pub number-after : (c : Command) (a : Answer (List Command)) → number (after c a) ≡ number a
number-after c (refused m) = refl
number-after c (gives cs) = refl

-- what a command that is not refused has
pub record Accepted (n : ℕ) (k : Counts) (b : ℕ) (s : List ℕ) : Type 0 where
  pub wide : 0 < width_of b
  pub whole : width_of b ≤ suc (length s)
  pub none : refusal n k (read_command b s) ≡ 0

pub accepted : (n : ℕ) (k : Counts) (b : ℕ) (s : List ℕ) → head_refusal n k b s ≡ 0 → Accepted n k b s
unfolding head_refusal
accepted n k b s e = at (ltb 0 (width_of b)) refl (leb (width_of b) (suc (length s))) refl (refusal n k (read_command b s)) refl e
  where
    at : (x : Bool) → ltb 0 (width_of b) ≡ x → (y : Bool) → leb (width_of b) (suc (length s)) ≡ y → (r : ℕ) → refusal n k (read_command b s) ≡ r
        → first_failing ((x, 2) ∷ (y, 3) ∷ (eqb r 0, r) ∷ []) ≡ 0 → Accepted n k b s
    at false p y q r u e = absurd (omega arith)
    at true p false q r u e = absurd (omega arith)
    at true p true q zero u e = record { wide = ltb-true _ _ p; whole = leb-true _ _ q; none = u }
    at true p true q (suc r) u e = let d : eqb (suc r) 0 ≡ false = ne_eqb (suc r) 0 (λ z. omega arith) in let e' : suc r ≡ 0 = rw d at e in absurd (omega arith)

-- ---- the head of what is left
pub head-unknown : (n : ℕ) (k : Counts) (b : ℕ) (s : List ℕ) → width_of b ≡ 0 → head_refusal n k b s ≡ 2
unfolding head_refusal
head-unknown n k b s e = let d : ltb 0 (width_of b) ≡ false = le-ltb 0 (width_of b) (omega arith) in rw d

zero_same : (r : ℕ) → cond (eqb r 0) 0 r ≡ r
zero_same zero = refl
zero_same (suc r) = let d : eqb (suc r) 0 ≡ false = ne_eqb (suc r) 0 (λ z. omega arith) in rw d

module _ (n : ℕ) (k : Counts) (b : ℕ) (s : List ℕ) (at w : ℕ) (h : at < length s) (e : w ≡ width_of b) (z : w ≡ 0 → ⊥) where
  length_rest : suc (length (drop (at + 1) s)) ≡ length s - at
  length_rest = omega (arith, length-drop (at + 1) s)

  pub head-cut : length s - at < w → head_refusal n k b (drop (at + 1) s) ≡ 3
  unfolding head_refusal
  head-cut l =
      let r = length_rest in
      let d : ltb 0 (width_of b) ≡ true = pos-ltb (width_of b) (λ y. z (e ∙ y)) in
      let f : leb (width_of b) (suc (length (drop (at + 1) s))) ≡ false = lt-leb (width_of b) (suc (length (drop (at + 1) s))) (omega arith) in
      simp (d, f)

  pub head_at : w ≤ length s - at → head_refusal n k b (drop (at + 1) s) ≡ refusal n k (read_command b (drop (at + 1) s))
  unfolding head_refusal
  head_at l =
      let r = length_rest in
      let d : ltb 0 (width_of b) ≡ true = pos-ltb (width_of b) (λ y. z (e ∙ y)) in
      let f : leb (width_of b) (suc (length (drop (at + 1) s))) ≡ true = le-leb (width_of b) (suc (length (drop (at + 1) s))) (omega arith) in
      ap₂ (λ (x y : Bool). cond x (cond y (cond (eqb (refusal n k (read_command b (drop (at + 1) s))) 0) 0 (refusal n k (read_command b (drop (at + 1) s)))) 3) 2) d f
      ∙ zero_same (refusal n k (read_command b (drop (at + 1) s)))

-- ---- the command by its first byte
pub read-opens : (b : ℕ) (s : List ℕ) → b ≡ 0x11 → read_command b s ≡ opens
read-opens b s e = rw e

pub read-division : (b : ℕ) (s : List ℕ) → is_division b ≡ true → read_command b s ≡ division (read_division (head_of b s) (body_in b s))
read-division b s e = let q : b ≡ 0x12 = eqb-true b 0x12 e in rw q

-- a rule, which is misnumbered or not
module _ (b : ℕ) (s : List ℕ) (p : b ≡ 0x11 → ⊥) (f : is_division b ≡ false) where
  abbrev numbered-rule : Constraint
  numbered-rule = numbered (head_of b s) (read_constraint (kind_of b) (body_in b s))

  pub read-rule : read_command b s ≡ read_rule b (head_of b s) (body_in b s)
  read-rule =
      ap (λ (x : Bool). cond x opens (cond (is_division b) (division (read_division (head_of b s) (body_in b s))) (read_rule b (head_of b s) (body_in b s)))) (ne_eqb b 0x11 p)
      ∙ ap (λ (x : Bool). cond x (division (read_division (head_of b s) (body_in b s))) (read_rule b (head_of b s) (body_in b s))) f

  read-misnumbered : is_misnumbered b (head_of b s) ≡ true → read_command b s ≡ misnumbered
  read-misnumbered g = read-rule ∙ ap (λ (x : Bool). cond x misnumbered (constraint numbered-rule)) g

  pub read-constraint : is_misnumbered b (head_of b s) ≡ false → read_command b s ≡ constraint numbered-rule
  read-constraint g = read-rule ∙ ap (λ (x : Bool). cond x misnumbered (constraint numbered-rule)) g

pub width-division : (b : ℕ) → is_division b ≡ true → width_of b ≡ body_of b + division_body
width-division b e = let q : b ≡ 0x12 = eqb-true b 0x12 e in rw q

pub width-constraint : (b : ℕ) → (b ≡ 0x11 → ⊥) → is_division b ≡ false → is_constraint b ≡ true → width_of b ≡ body_of b + constraint_body
width-constraint b p f e = let d : eqb b 0x11 ≡ false = ne_eqb b 0x11 p in simp (d, f, e)

-- a byte that is the command of a division, of a constraint, of neither
pub record IsDivision (b : ℕ) : Type 0 where
  pub not_opens : b ≡ 0x11 → ⊥
  pub some : 0 < b

pub division-code : (b : ℕ) → is_division b ≡ true → IsDivision b
division-code b e = let q : b ≡ 0x12 = eqb-true b 0x12 e in record { not_opens = λ z. omega arith; some = omega arith }

pub record IsConstraint (b : ℕ) : Type 0 where
  pub not_opens : b ≡ 0x11 → ⊥
  pub not_division : is_division b ≡ false
  pub some : 0 < b

-- a byte that is one of two
one_of : (P : ℕ → Type 0) (b c d : ℕ) → (eqb b c || eqb b d) ≡ true → P c → P d → P b
one_of P b c d e p q = go (eqb b c) refl (eqb b d) refl e
  where
    go : (x : Bool) → eqb b c ≡ x → (y : Bool) → eqb b d ≡ y → (x || y) ≡ true → P b
    go true f y g e = subst P (sym (eqb-true b c f)) p
    go false f true g e = subst P (sym (eqb-true b d g)) q
    go false f false g e = absurd (subst T (sym e) tt)

pub bare-code : (b : ℕ) → is_constraint b ≡ true → is_numbered b ≡ false → is_bare b ≡ true
bare-code b e f = go (is_bare b) (is_numbered b) e f
  where
    go : (x y : Bool) → (x || y) ≡ true → y ≡ false → x ≡ true
    go true y e f = refl
    go false y e f = sym f ∙ e

pub constraint-code : (b : ℕ) → is_constraint b ≡ true → IsConstraint b
constraint-code b e =
    let h : 0x12 < b = by (λ (x : Bool). is_numbered b ≡ x → 0x12 < b) (is_numbered b) (λ q z. one_of (λ (c : ℕ). 0x12 < c) b 0x16 0x17 z (omega arith) (omega arith))
    (λ q z. one_of (λ (c : ℕ). 0x12 < c) b 0x13 0x14 (bare-code b e z) (omega arith) (omega arith)) refl in
    record { not_opens = λ z. omega arith; not_division = ne_eqb b 0x12 (λ z. omega arith); some = omega arith }

pub width-bare : (b : ℕ) → is_bare b ≡ true → width_of b ≡ bare_width
width-bare b e = one_of (λ (c : ℕ). width_of c ≡ bare_width) b 0x13 0x14 e refl refl

pub width-numbered : (b : ℕ) → is_numbered b ≡ true → width_of b ≡ numbered_width
width-numbered b e = one_of (λ (c : ℕ). width_of c ≡ numbered_width) b 0x16 0x17 e refl refl

pub no_code : (b : ℕ) → is_constraint b ≡ false → (b ≡ 0x11 → ⊥) → is_division b ≡ false → width_of b ≡ 0
no_code b e p f = let d : eqb b 0x11 ≡ false = ne_eqb b 0x11 p in simp (d, f, e)

-- a command that neither opens nor is a division
pub other-code : (b : ℕ) → (b ≡ 0x11 → ⊥) → is_division b ≡ false → (width_of b ≡ 0 → ⊥) → is_constraint b ≡ true
other-code b p f z = by (λ (x : Bool). is_constraint b ≡ x → is_constraint b ≡ true) (is_constraint b) (λ q e. e) (λ q e. absurd (z (no_code b e p f))) refl

-- a byte at which a basic set goes on, or does not
pub on-code : (b : ℕ) → goes_on b ≡ true → (b ≡ 0x11 → ⊥) × (0 < b)
on-code b e = let l = ltb-true 0x11 b e in (λ z. omega arith, omega arith)

pub off_code : (b : ℕ) → goes_on b ≡ false → (is_division b ≡ false) × (is_constraint b ≡ false)
off_code b e =
    let l = borrow.Author.Tests.ltb-false 0x11 b e in
    let x : eqb b 0x13 ≡ false = ne_eqb b 0x13 (λ z. omega arith) in let y : eqb b 0x14 ≡ false = ne_eqb b 0x14 (λ z. omega arith) in
    let u : eqb b 0x16 ≡ false = ne_eqb b 0x16 (λ z. omega arith) in let v : eqb b 0x17 ≡ false = ne_eqb b 0x17 (λ z. omega arith) in
    (ne_eqb b 0x12 (λ z. omega arith), simp (x, y, u, v))

-- the width by the tests of the first byte: it opens, is a division, a constraint, has a number
abbrev width_by : Bool → Bool → Bool → Bool → ℕ
width_by x y z m = cond x 1 (cond y (cond (y || m) 3 1 + division_body) (cond z (cond (y || m) 3 1 + constraint_body) 0))

pub width-most : (b : ℕ) → width_of b ≤ longest_constraint
width-most b = go (is_opening b) (is_division b) (is_constraint b) (is_numbered b)
  where
    go : (x y z m : Bool) → width_by x y z m ≤ longest_constraint
    go true y z m = omega arith
    go false true z m = omega arith
    go false false true true = omega arith
    go false false true false = omega arith
    go false false false m = omega arith

pub kind-equality : (b : ℕ) → is_equality b ≡ true → kind_of b ≡ equality
kind-equality b e = ap (λ (x : Bool). cond x equality inequality) e

pub kind-inequality : (b : ℕ) → is_equality b ≡ false → kind_of b ≡ inequality
kind-inequality b e = ap (λ (x : Bool). cond x equality inequality) e

pub headed-none : (b : ℕ) → is_division b ≡ false → is_numbered b ≡ false → has_head b ≡ false
headed-none b e f = ap₂ (λ (x y : Bool). x || y) e f

pub head-none : (b : ℕ) (s : List ℕ) → has_head b ≡ false → head_of b s ≡ 0
head-none b s e = ap (λ (x : Bool). value_of (take (cond x 3 1 - 1) s)) e

-- the body of a command is behind its first byte, and as long as the command says
pub body-behind : (b : ℕ) → 0 < body_of b
body-behind b = by (λ (x : Bool). 0 < cond x 3 1) (has_head b) (λ q. omega arith) (λ q. omega arith)

pub body-drop : (b : ℕ) (s : List ℕ) (at : ℕ) → drop (at + body_of b) s ≡ body_in b (drop (at + 1) s)
body-drop b s at =
    let o = body-behind b in let i : at + 1 + (body_of b - 1) ≡ at + body_of b = omega arith in
    sym (drop-drop (body_of b - 1) (at + 1) s ∙ ap (λ (j : ℕ). drop j s) i)

pub body-room : (b : ℕ) (s : List ℕ) (at m : ℕ) → width_of b ≡ body_of b + m → at + width_of b ≤ length s → m ≤ length (body_in b (drop (at + 1) s))
body-room b s at m w h = let o = body-behind b in omega (arith, length-drop (body_of b - 1) (drop (at + 1) s), length-drop (at + 1) s)

-- ---- what the tests say where none fails
abbrev pub Passed : List (Bool × ℕ) → Type 0
Passed [] = Unit {0}
Passed (t ∷ ts) = T t.0 × Passed ts

pub all-passed : (ts : List (Bool × ℕ)) → T (all (λ (t : Bool × ℕ). ltb 0 t.1) ts) → first_failing ts ≡ 0 → Passed ts
all-passed [] p e = tt
all-passed (t ∷ ts) p e = at t.0 t.1 (ltb 0 t.1) refl p e (λ q. all-passed ts q)
  where
    at : (b : Bool) (m : ℕ) (x : Bool) → ltb 0 m ≡ x → T (x && all (λ (t : Bool × ℕ). ltb 0 t.1) ts) → cond b (first_failing ts) m ≡ 0 → (T (all (λ (t : Bool × ℕ). ltb 0 t.1) ts) → first_failing ts ≡ 0 → Passed ts) → T b × Passed ts
    at true m true q p e ih = (tt, ih p e)
    at false m true q p e ih = let l = ltb-true 0 m q in absurd (omega arith)
    at b m false q p e ih = absurd p

-- the tests of a rule in their order, also where it is misnumbered
abbrev pub rule_tests : ℕ → Counts → ℕ → ℕ → List ℕ → List (Bool × ℕ)
rule_tests n k b m t =
    (ltb 0 k.basics, 4)
    ∷ (ltb k.constraints 48, 9)
    ∷ (not (is_misnumbered b m), 17)
    ∷ (constant_fits (kind_of b) (constant_in t) && (all coefficient (axes_in t) && all coefficient (divisions_in t)), 7)
    ∷ (absent n (axes_in t) && absent k.divisions (divisions_in t), 8)
    ∷ []

pub rule-tests : (n : ℕ) (k : Counts) (b m : ℕ) (t : List ℕ) → refusal n k (read_rule b m t) ≡ first_failing (rule_tests n k b m t)
rule-tests n k b m t = by (λ (x : Bool). is_misnumbered b m ≡ x → refusal n k (read_rule b m t) ≡ first_failing (rule_tests n k b m t)) (is_misnumbered b m) (λ q e. simp e) (λ q e. simp e) refl

-- a misnumbered rule is refused, always
pub no-misnumbered : (n : ℕ) (k : Counts) → refusal n k misnumbered ≡ 0 → ⊥
no-misnumbered n k z = (all-passed (tests_of n k misnumbered) tt z).1.1.0

pub well-numbered : (n : ℕ) (k : Counts) (b : ℕ) (s : List ℕ) → (b ≡ 0x11 → ⊥) → is_division b ≡ false → refusal n k (read_command b s) ≡ 0 → is_misnumbered b (head_of b s) ≡ false
well-numbered n k b s p f z =
    by (λ (x : Bool). is_misnumbered b (head_of b s) ≡ x → is_misnumbered b (head_of b s) ≡ false) (is_misnumbered b (head_of b s))
    (λ q e. absurd (no-misnumbered n k (ap (refusal n k) (sym (read-misnumbered b s p f e)) ∙ z))) (λ q e. e) refl

pub few-next : (n : ℕ) (k : Counts) (c : Command) → refusal n k c ≡ 0 → k.divisions ≤ 8 → (counted k c).divisions ≤ 8
few-next n k opens z h = omega arith
few-next n k misnumbered z h = h
few-next n k (division e) z h = let t = all-passed (tests_of n k (division e)) tt z in let l = ltb→lt k.divisions 8 t.1.1.0 in omega arith
few-next n k (constraint r) z h = h

basics-next : (k : Counts) (c : Command) → (counted k c).basics ≤ k.basics + 1
basics-next k opens = omega arith
basics-next k misnumbered = omega arith
basics-next k (division e) = omega arith
basics-next k (constraint r) = omega arith

divisions-next : (k : Counts) (c : Command) → (counted k c).divisions ≤ k.divisions + 1
divisions-next k opens = omega arith
divisions-next k misnumbered = omega arith
divisions-next k (division e) = omega arith
divisions-next k (constraint r) = omega arith

constraints-next : (k : Counts) (c : Command) → (counted k c).constraints ≤ k.constraints + 1
constraints-next k opens = omega arith
constraints-next k misnumbered = omega arith
constraints-next k (division e) = omega arith
constraints-next k (constraint r) = omega arith

pub left-stop : (n : ℕ) (s : List ℕ) (at : ℕ) (k : Counts) (m : ℕ) → Left n s at k → at < length s → head_refusal n k (get_or s at 0) (drop (at + 1) s) ≡ m → (m ≡ 0 → ⊥) → number (parse n (length s) start s) ≡ m
left-stop n s at k zero l h e z = absurd (z refl)
left-stop n s at k (suc m) l h e z = sym l.same ∙ go l.fuel l.enough
  where
    go : (f : ℕ) → length s ≤ at + f → number (parse n f k (drop at s)) ≡ suc m
    go zero q = absurd (omega arith)
    go (suc f) q =
        ap (λ (r : List ℕ). number (parse n (suc f) k r)) (drop-cons s at 0 h ∙ ap (λ (i : ℕ). get_or s at 0 ∷ drop i s) (sym (add-one at)))
        ∙ ap number (parse-stop n f k (get_or s at 0) (drop (at + 1) s) m e)

pub left-next : (n : ℕ) (s : List ℕ) (at : ℕ) (k : Counts) → Left n s at k → at < length s → head_refusal n k (get_or s at 0) (drop (at + 1) s) ≡ 0
    → Left n s (at + width_of (get_or s at 0)) (counted k (read_command (get_or s at 0) (drop (at + 1) s)))
left-next n s at k l h e = go l.fuel l.enough l.same
  where
    go : (f : ℕ) → length s ≤ at + f → number (parse n f k (drop at s)) ≡ number (parse n (length s) start s) → Left n s (at + width_of (get_or s at 0)) (counted k (read_command (get_or s at 0) (drop (at + 1) s)))
    go zero q u = absurd (omega arith)
    go (suc f) q u =
        let a = accepted n k (get_or s at 0) (drop (at + 1) s) e in
        let w = a.wide in
        let i : at + 1 + (width_of (get_or s at 0) - 1) ≡ at + width_of (get_or s at 0) = omega arith in
        record {
          inside = let o = a.whole in omega (arith, length-drop (at + 1) s);
          basics = let o = basics-next k (read_command (get_or s at 0) (drop (at + 1) s)) in let v = l.basics in omega arith;
          divisions = let o = divisions-next k (read_command (get_or s at 0) (drop (at + 1) s)) in let v = l.divisions in omega arith;
          constraints = let o = constraints-next k (read_command (get_or s at 0) (drop (at + 1) s)) in let v = l.constraints in omega arith;
          few = few-next n k (read_command (get_or s at 0) (drop (at + 1) s)) a.none l.few;
          fuel = f;
          enough = omega arith;
          same =
              ap (λ (r : List ℕ). number (parse n f (counted k (read_command (get_or s at 0) (drop (at + 1) s))) r)) (sym (ap (λ (j : ℕ). drop j s) i) ∙ sym (drop-drop (width_of (get_or s at 0) - 1) (at + 1) s))
              ∙ sym (number-after (read_command (get_or s at 0) (drop (at + 1) s)) (parse n f (counted k (read_command (get_or s at 0) (drop (at + 1) s))) (drop (width_of (get_or s at 0) - 1) (drop (at + 1) s))))
              ∙ ap number (sym (parse-next n f k (get_or s at 0) (drop (at + 1) s) e))
              ∙ ap (λ (r : List ℕ). number (parse n (suc f) k r)) (sym (drop-cons s at 0 h ∙ ap (λ (i : ℕ). get_or s at 0 ∷ drop i s) (sym (add-one at))))
              ∙ u;
        }

number-set : (a : Answer (List Command)) → number (set_of a) ≡ number a
number-set (refused m) = refl
number-set (gives cs) = refl

pub decode-bad : (n : ℕ) (s : List ℕ) → axes_fit n ≡ false → number (decode n s) ≡ 1
unfolding decode
decode-bad n s e = rw e

pub decode-good : (n : ℕ) (s : List ℕ) → axes_fit n ≡ true → number (decode n s) ≡ number (parse n (length s) start s)
unfolding decode
decode-good n s e = rw e (number-set (parse n (length s) start s))

pub axes-zero : (n : ℕ) → n ≡ 0 → axes_fit n ≡ false
axes-zero n e = first-no (leb n 8) (le-ltb 0 n (omega arith))

pub axes-over : (n : ℕ) → 8 < n → axes_fit n ≡ false
axes-over n e = second-no (lt-ltb 0 n (omega arith)) (lt-leb n 8 e)

pub axes-in : (n : ℕ) → (n ≡ 0 → ⊥) → n ≤ 8 → axes_fit n ≡ true
axes-in n e h = both (pos-ltb n e) (le-leb n 8 h)

pub left-same : (n : ℕ) (s : List ℕ) (at v w : ℕ) (k l : Counts) → v ≡ w → k ≡ l → Left n s (at + w) l → Left n s (at + v) k
left-same n s at v w k l p q h = mathlib.Core.Path.subst₂ (λ (x : ℕ) (y : Counts). Left n s (at + x) y) (sym p) (sym q) h
