-- What is decoded from checked bytes encodes to those bytes, and what is encoded decodes to what it was: for each basic set.
use mathlib.Core.Path.{◌≡◌, refl, sym, ap, ap₂, ◌∙◌, subst}
use mathlib.Core.Bool.{Bool, true, false, cond}
use mathlib.Core.List.{List, [], ◌∷◌, ◌++◌, map, append-nil}
use Prim.Native.Nat.{ℕ, ◌+◌, ◌-◌, ◌*◌, ◌≤◌, ◌<◌}
use native.Mathlib.Omega.{arith}
use lib.Dec.{T, eqb}
use lib.ListN.{length, take, drop, length-append}
use lib.Seq.{take_at}
use Rattle.integers.specs.LittleEndian.{bytes_drop}
use Rattle.model.specs.Lists.{concat_map, All}
use Rattle.model.specs.Sets.{Division, Constraint, BasicSet, Set}
use Rattle.codec.specs.Bytes.{gives, Command, division, constraint, constraint_body, opcode, numbered_opcode, rule_head, bytes_of, encode_command, commands, encode, signed_bytes, axes_fit, decode, number}
use Rattle.codec.specs.Places.{commands_of, built, basic_at, set_from, division_width, bare_width, numbered_width, constraint_width, widths, longest_division, longest_constraint, longest_basic, longest_set, end_of, Boundary}
use Rattle.codec.proofs.Decoded.{Bytes, bytes_back, commands-back, encode-decode}
use Rattle.codec.proofs.Walking.{accepted-parsed, checked-unrefused}
use Rattle.codec.proofs.Boundaries.{boundary_start, boundary-set, decode_is}
use Rattle.codec.specs.Valid.{ValidDivision, ValidConstraint, Valid}
use Rattle.codec.proofs.Valid.{valid-decodes, decode-valid, boundary-valid}
use Rattle.codec.proofs.Commands.{coefficients-length, concat-map, concat-more, encode-more}

-- ---- how long a basic set is
concat-size : {A : Type 0} (f : A → List ℕ) (P : A → Type 0) (w : A → ℕ) → ((a : A) → P a → length (f a) ≡ w a) → (l : List A) → All P l → length (concat_map f l) ≡ widths w l
concat-size f P w h [] p = refl
concat-size f P w h (a ∷ l) p = length-append (f a) (concat_map f l) ∙ ap₂ ◌+◌ (h a p.0) (concat-size f P w h l p.1)

division-size : (n : ℕ) (e : Division) → ValidDivision n e → length (encode_command (division e)) ≡ division_width e
division-size n e v = let l = v.places in let m = coefficients-length e.axes in omega arith

-- of a rule, the command with its number and the body
head-size : (r : Constraint) → length (rule_head r.kind r.number) + constraint_body ≡ constraint_width r
head-size r = by (eqb r.number 0)
  where
    by : (x : Bool) → length (cond x (opcode r.kind ∷ []) (numbered_opcode r.kind ∷ bytes_of 2 r.number)) + constraint_body ≡ cond x bare_width numbered_width
    by true = refl
    by false = refl

constraint-most : (r : Constraint) → constraint_width r ≤ longest_constraint
constraint-most r = by (eqb r.number 0)
  where
    by : (x : Bool) → cond x bare_width numbered_width ≤ longest_constraint
    by true = omega arith
    by false = omega arith

constraint-size : (n k : ℕ) (r : Constraint) → ValidConstraint n k r → length (encode_command (constraint r)) ≡ constraint_width r
constraint-size n k r v =
    let l = v.axis_places in let l' = v.division_places in let m = coefficients-length r.axes in let m' = coefficients-length r.divisions in
    let body : List ℕ = signed_bytes 4 r.constant ++ concat_map (signed_bytes 2) r.axes ++ concat_map (signed_bytes 2) r.divisions in
    let a = length-append (concat_map (signed_bytes 2) r.axes) (concat_map (signed_bytes 2) r.divisions) in
    let b = length-append (rule_head r.kind r.number) body in let h = head-size r in omega arith

pub valid-size : (n : ℕ) (b : BasicSet) → Valid n b → length (encode (b ∷ [])) ≡ 1 + (widths division_width b.divisions + widths constraint_width b.constraints)
unfolding encode
valid-size n b v =
    let D : List Command = map division b.divisions in let R : List Command = map constraint b.constraints in
    let s : concat_map encode_command (D ++ R ++ []) ≡ concat_map encode_command D ++ concat_map encode_command R = ap (concat_map encode_command) (append-nil (D ++ R)) ∙ concat-more encode_command D R in
    let d = concat-size (λ (e : Division). encode_command (division e)) (ValidDivision n) division_width (division-size n) b.divisions v.divisions in
    let r = concat-size (λ (e : Constraint). encode_command (constraint e)) (ValidConstraint n (length b.divisions)) constraint_width (constraint-size n (length b.divisions)) b.constraints v.constraints in
    let x = ap length (concat-map encode_command division b.divisions) in let y = ap length (concat-map encode_command constraint b.constraints) in
    let z = length-append (concat_map encode_command D) (concat_map encode_command R) in let w = ap length s in omega arith

-- no more than longest_basic
divisions-most : (l : List Division) → widths division_width l ≤ longest_division * length l
divisions-most [] = omega arith
divisions-most (e ∷ l) = let h = divisions-most l in omega arith

constraints-most : (l : List Constraint) → widths constraint_width l ≤ longest_constraint * length l
constraints-most [] = omega arith
constraints-most (r ∷ l) = let h = constraints-most l in let m = constraint-most r in omega arith

pub valid-short : (n : ℕ) (b : BasicSet) → Valid n b → length (encode (b ∷ [])) ≤ longest_basic
valid-short n b v =
    let z = valid-size n b v in let d = v.few_divisions in let r = v.few_constraints in
    let x = divisions-most b.divisions in let y = constraints-most b.constraints in omega arith

-- ---- decoded, then encoded: the same bytes
module _ (n : ℕ) (s : List ℕ) (at : ℕ) (p : Bytes s) (b : Boundary n s at) where
  pub boundary-encode : encode (set_from s at) ≡ drop at s
  unfolding encode built
  boundary-encode =
      let l : List ℕ = drop at s in
      let cs : List Command = commands_of (length l) l in
      let c = commands-back n b.k cs (checked-unrefused n s at b.k b.here) in
      let e : commands (set_from s at) ≡ cs =
      ap₂ (λ (x : List Division) (y : List Constraint). map division x ++ (map constraint y ++ commands (set_from s at))) (sym b.no_divisions) (sym b.no_constraints) ∙ c in
      ap (concat_map encode_command) e ∙ bytes_back n b.k l cs (accepted-parsed n b.k l b.here.accepted) (bytes_drop at s p)

  module _ (h : at < length s) where
    here-valid : Valid n (basic_at s (at + 1))
    here-valid = (subst (All (Valid n)) (boundary-set n s at b h) (boundary-valid n s at p b)).0

    pub basic-size : length (encode (basic_at s (at + 1) ∷ [])) ≡ end_of s (at + 1) - at
    basic-size = let z = valid-size n (basic_at s (at + 1)) here-valid in omega arith

    -- the bytes from the `11` to the next basic set
    pub basic-bytes : take (end_of s (at + 1) - at) (drop at s) ≡ encode (basic_at s (at + 1) ∷ [])
    basic-bytes =
        let e : drop at s ≡ encode (basic_at s (at + 1) ∷ []) ++ encode (set_from s (end_of s (at + 1))) = sym boundary-encode ∙ ap encode (boundary-set n s at b h) ∙ encode-more (basic_at s (at + 1) ∷ []) (set_from s (end_of s (at + 1))) in
        ap (take (end_of s (at + 1) - at)) e ∙ take_at (encode (basic_at s (at + 1) ∷ [])) (encode (set_from s (end_of s (at + 1)))) (end_of s (at + 1) - at) basic-size

-- ---- encoded, then decoded: the same basic set
pub encoded-decoded : (n : ℕ) (b : BasicSet) → T (axes_fit n) → Valid n b → basic_at (encode (b ∷ [])) 1 ≡ b
encoded-decoded n b a v =
    let s : List ℕ = encode (b ∷ []) in
    let e : decode n s ≡ gives (b ∷ []) = valid-decodes n (b ∷ []) a (omega arith) (v, tt) in
    let z : number (decode n s) ≡ 0 = ap number e in
    let f : gives (set_from s 0) ≡ gives (b ∷ []) = sym (decode_is n s z) ∙ e in
    let g : set_from s 0 ≡ b ∷ [] = cc in
    let l : 0 < length s = let y = valid-size n b v in omega arith in
    let k = boundary-set n s 0 (boundary_start n s z) l in
    cc

-- ---- how long checked bytes can be
encode-length : (n : ℕ) (s : Set) → All (Valid n) s → length (encode s) ≤ longest_basic * length s
unfolding encode
encode-length n [] v = omega arith
encode-length n (b ∷ s) v =
    let h = encode-length n s v.1 in let z = valid-short n b v.0 in
    let e = ap length (encode-more (b ∷ []) s) in let a = length-append (encode (b ∷ [])) (encode s) in omega arith

pub accepted-length : (n : ℕ) (s : List ℕ) → Bytes s → number (decode n s) ≡ 0 → length s ≤ longest_set
accepted-length n s p z =
    let e = decode_is n s z in
    let v = decode-valid n s (set_from s 0) p e in
    let b = ap length (encode-decode n s (set_from s 0) p e) in
    let l = encode-length n (set_from s 0) v.0 in let k = v.1 in omega arith
