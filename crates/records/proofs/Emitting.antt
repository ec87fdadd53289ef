-- Laws of what is put into a table, and of the bytes that are put.
use mathlib.Core.Path.{◌≡◌, refl, sym, ap, ap₂, ◌∙◌, subst}
use mathlib.Core.List.{List, [], ◌∷◌, ◌++◌, map, append_assoc, append-nil}
use Prim.Native.Nat.{ℕ, zero, suc, ◌+◌, ◌-◌, ◌/◌, ◌%◌, ◌≤◌, ◌<◌}
use native.Mathlib.Numerals.{add-one}
use native.Mathlib.Nat.{add-zero}
use native.Mathlib.Omega.{arith}
use lib.ListN.{length, take, drop, get_or, set, replicate, length-append, length-replicate, drop_of_length-le}
use lib.Seq.{sets, sets-eq, length-sets, set_out, take-suc, take_at, length-take-le, take_all, drop-length, drop-drop}
use Rattle.model.specs.Lists.{concat_map}
use Rattle.model.specs.Sets as S
use Rattle.model.specs.Values.{division_of, constraint_of, basic_set_of}
use Rattle.model.specs.declared.Division.{Division}
use Rattle.model.specs.declared.Constraint.{Constraint}
use Rattle.model.specs.declared.BasicSet.{BasicSet}
use Rattle.codec.specs.Bytes.{bytes_of, Command, division, constraint, encode_command, encode}
use Rattle.codec.proofs.Commands.{concat-more, concat-map}
use Rattle.records.specs.Writing.{put, Emitted}

-- ---- put
put-sets : (at : ℕ) (l o : List ℕ) → put at l o ≡ sets o at l
unfolding put
put-sets at [] o = refl
put-sets at (b ∷ l) o = put-sets (suc at) l (set o at b)

pub put-none : (at : ℕ) (o : List ℕ) → put at [] o ≡ o
unfolding put
put-none at o = refl

pub put_one : (at b : ℕ) (o : List ℕ) → put at (b ∷ []) o ≡ set o at b
unfolding put
put_one at b o = refl

-- l, and then m behind it
pub put-more : (at : ℕ) (l m o : List ℕ) → put at (l ++ m) o ≡ put (at + length l) m (put at l o)
unfolding put
put-more at [] m o = rw add-zero
put-more at (b ∷ l) m o = let e : suc at + length l ≡ at + suc (length l) = omega arith in put-more (suc at) l m (set o at b) ∙ ap (λ (i : ℕ). put i m (put (suc at) l (set o at b))) e

pub put-length : (at : ℕ) (l o : List ℕ) → length (put at l o) ≡ length o
put-length at l o = ap length (put-sets at l o) ∙ length-sets o at l

-- with room for all of l
pub put_whole : (at : ℕ) (l o : List ℕ) → at + length l ≤ length o → put at l o ≡ take at o ++ (l ++ drop (at + length l) o)
put_whole at l o h = put-sets at l o ∙ sets-eq l o at h ∙ append_assoc (take at o) l (drop (at + length l) o)

-- as a part of the table that l is copied to
pub put-mid : (at n : ℕ) (l m o : List ℕ) → m ≡ l → n ≡ length l → at + length l ≤ length o → take at o ++ (m ++ drop n (drop at o)) ≡ put at l o
put-mid at n l m o e f h =
    ap₂ (λ (x : List ℕ) (i : ℕ). take at o ++ (x ++ drop i (drop at o))) e f
    ∙ ap (λ (t : List ℕ). take at o ++ (l ++ t)) (drop-drop (length l) at o) ∙ sym (put_whole at l o h)

-- with room for none
pub put-past : (at : ℕ) (l o : List ℕ) → length o ≤ at → put at l o ≡ o
unfolding put
put-past at [] o h = refl
put-past at (b ∷ l) o h = ap (put (suc at) l) (set_out o at b h) ∙ put-past (suc at) l o (omega arith)

-- one byte more of l
pub put_next : (at i : ℕ) (l o : List ℕ) → i < length l → set (put at (take i l) o) (at + i) (get_or l i 0) ≡ put at (take (i + 1) l) o
put_next at i l o h =
    let e : length (take i l) ≡ i = length-take-le i l (omega arith) in
    sym (put_one (at + i) (get_or l i 0) (put at (take i l) o))
    ∙ ap (λ (j : ℕ). put (at + j) (get_or l i 0 ∷ []) (put at (take i l) o)) (sym e)
    ∙ sym (put-more at (take i l) (get_or l i 0 ∷ []) o) ∙ ap (λ (m : List ℕ). put at m o) (sym (take-suc l i 0 h) ∙ ap (λ (j : ℕ). take j l) (sym (add-one i)))

-- what the table has no room for makes no difference
pub put-cut : (at i : ℕ) (l o : List ℕ) → i ≤ length l → (i < length l → length o ≤ at + i) → put at (take i l) o ≡ put at l o
put-cut at i l o h full = by (length l - i) i refl h full
  where
    by : (d i : ℕ) → length l - i ≡ d → i ≤ length l → (i < length l → length o ≤ at + i)
        → put at (take i l) o ≡ put at l o
    by zero i q h full = ap (λ (m : List ℕ). put at m o) (take_all i l (omega arith))
    by (suc d) i q h full =
        let k : length o ≤ at + i = full (omega arith) in
        sym (set_out (put at (take i l) o) (at + i) (get_or l i 0) (omega (arith, put-length at (take i l) o)))
        ∙ put_next at i l o (omega arith) ∙ by d (i + 1) (omega arith) (omega arith) (λ b. omega arith)

-- a table of its own that is filled whole
pub put-fresh : (l o : List ℕ) → length o ≡ length l → put 0 l o ≡ l
put-fresh l o e =
    let i : 0 + length l ≡ length o = omega arith in
    put_whole 0 l o (omega arith) ∙ ap (λ (j : ℕ). l ++ drop j o) i ∙ ap (λ (r : List ℕ). l ++ r) (drop-length o) ∙ append-nil l

-- a table of its own that begins with it
pub put_front : (l o : List ℕ) → length l ≤ length o → take (length l) (put 0 l o) ≡ l
put_front l o h = ap (take (length l)) (put_whole 0 l o (omega arith)) ∙ take_at l (drop (0 + length l) o) (length l) refl

-- ---- writers, one behind the other
pub emitted-none : (o : List ℕ) (at : ℕ) → Emitted [] o at at o
emitted-none o at = record { ends = omega arith; bytes = sym (put-none at o) }

pub emitted-more : {l m o o₁ o₂ : List ℕ} {at a e : ℕ} → Emitted l o at a o₁ → Emitted m o₁ a e o₂ → Emitted (l ++ m) o at e o₂
emitted-more {l} {m} {o} {o₁} {o₂} {at} {a} {e} p q =
    record {
      ends = let x = p.ends in let y = q.ends in omega (arith, length-append l m);
      bytes = q.bytes ∙ ap₂ (λ (i : ℕ) (r : List ℕ). put i m r) p.ends p.bytes ∙ sym (put-more at l m o);
    }

pub emitted-of : {l m o o' : List ℕ} {at e : ℕ} → l ≡ m → Emitted l o at e o' → Emitted m o at e o'
emitted-of {l} {m} {o} {o'} {at} {e} q p = subst (λ (x : List ℕ). Emitted x o at e o') q p

-- ---- the bytes of numbers, commands and basic sets
pub bytes_4 : (v : ℕ) → bytes_of 4 v ≡ bytes_of 2 v ++ bytes_of 2 (v / 65536)
bytes_4 v = let e : v / 256 / 256 ≡ v / 65536 = omega arith in ap (λ (x : ℕ). v % 256 ∷ v / 256 % 256 ∷ x % 256 ∷ x / 256 % 256 ∷ []) e

pub concat-one : {A B : Type 0} (f : A → List B) (l : List A) (a : A) → concat_map f (l ++ a ∷ []) ≡ concat_map f l ++ f a
concat-one f l a = concat-more f l (a ∷ []) ∙ ap (λ (r : List _). concat_map f l ++ r) (append-nil (f a))

-- behind q and what f makes of the first i elements comes what it makes of the next one
pub emitted-next : {A : Type 0} (f : A → List ℕ) (a : List A) (d : A) (i : ℕ) (q m : List ℕ) {o o₁ o₂ : List ℕ} {at p e : ℕ} → i < length a → m ≡ f (get_or a i d)
    → Emitted (q ++ concat_map f (take i a)) o at p o₁ → Emitted m o₁ p e o₂ → Emitted (q ++ concat_map f (take (i + 1) a)) o at e o₂
emitted-next f a d i q m {o} {o₁} {o₂} {at} {p} {e} h g x y =
    let s : (q ++ concat_map f (take i a)) ++ m ≡ q ++ concat_map f (take (i + 1) a) =
    append_assoc q (concat_map f (take i a)) m
    ∙ ap (λ (r : List ℕ). q ++ r) (ap (λ (r : List ℕ). concat_map f (take i a) ++ r) g ∙ sym (concat-one f (take i a) (get_or a i d)) ∙ ap (concat_map f) (sym (take-suc a i d h) ∙ ap (λ (j : ℕ). take j a) (sym (add-one i)))) in
    subst (λ (l : List ℕ). Emitted l o at e o₂) s (emitted-more x y)

-- the bytes of the code's divisions and constraints
abbrev pub division_bytes : Division → List ℕ
division_bytes e = encode_command (division (division_of e))

abbrev pub constraint_bytes : Constraint → List ℕ
constraint_bytes r = encode_command (constraint (constraint_of r))

pub encode-basic : (b : BasicSet) → encode (basic_set_of b ∷ []) ≡ ((17 ∷ []) ++ concat_map division_bytes (take b.divs b.divisions)) ++ concat_map constraint_bytes (take b.cons b.constraints)
unfolding encode
encode-basic b =
    let D : List Division = take b.divs b.divisions in let R : List Constraint = take b.cons b.constraints in
    let d : concat_map encode_command (map division (map division_of D)) ≡ concat_map division_bytes D = concat-map encode_command division (map division_of D) ∙ concat-map (λ (e : S.Division). encode_command (division e)) division_of D in
    let r : concat_map encode_command (map constraint (map constraint_of R)) ≡ concat_map constraint_bytes R = concat-map encode_command constraint (map constraint_of R) ∙ concat-map (λ (e : S.Constraint). encode_command (constraint e)) constraint_of R in
    ap (λ (l : List Command). 17 ∷ concat_map encode_command l) (append-nil (map division (map division_of D) ++ map constraint (map constraint_of R)))
    ∙ ap (λ (l : List ℕ). 17 ∷ l) (concat-more encode_command (map division (map division_of D)) (map constraint (map constraint_of R)) ∙ ap₂ (λ (x y : List ℕ). x ++ y) d r)
