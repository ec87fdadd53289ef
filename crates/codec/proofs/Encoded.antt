-- What is encoded decodes to itself.
use mathlib.Core.Path.{◌≡◌, refl, sym, ap, ap₂, ◌∙◌, subst}
use mathlib.Core.Bool.{Bool, true, false, cond}
use mathlib.Core.List.{List, [], ◌∷◌, ◌++◌, map, append_assoc}
use Prim.Native.Nat.{ℕ, zero, suc, ◌+◌, ◌*◌, ◌-◌, ◌≤◌, ◌<◌}
use native.Mathlib.Nat.{le_refl}
use native.Mathlib.Omega.{arith}
use lib.Dec.{T, leb, ltb, eqb, leb→le, le→leb, lt→ltb, eqb→eq}
use lib.IntN.{ℤ, pos, negsuc}
use lib.ListN.{length, drop, length-append}
use lib.Seq.{drop-drop, drop_at}
use Rattle.integers.specs.LittleEndian.{value-bytes, signed-bytes}
use Rattle.model.specs.Lists.{all, concat_map}
use Rattle.model.specs.Sets.{Division, Kind, equality, inequality, Constraint, Set}
use Rattle.model.specs.Numbers.{numbered}
use Rattle.codec.specs.Bytes.{refused, gives, bytes_of, value_of, signed, signed_bytes, Command, opens, misnumbered, division, constraint, opcode, numbered_opcode, encode_command, commands, encode, head_of, signed_list, body_in, read_division, read_constraint, Counts, coefficient, first_failing, refusal, counted, width_of, read_command, Built, build, after, parse, set_of, axes_fit, decode, head_refusal}
use Rattle.codec.specs.Valid.{Fits}
use Rattle.codec.proofs.Parsing.{parse-next}
use Rattle.model.proofs.Count.{and_left, and_right, from-T, suc_inj, no-suc}

-- ---- numbers, at any width

bytes_2 : (n : ℕ) → n < 65536 → value_of (bytes_of 2 n) ≡ n
bytes_2 = value-bytes 2

signed-2 : (z : ℤ) → Fits 32768 z → signed 2 (value_of (signed_bytes 2 z)) ≡ z
signed-2 = signed-bytes 2 32768 refl

signed-4 : (z : ℤ) → Fits 2147483648 z → signed 4 (value_of (signed_bytes 4 z)) ≡ z
signed-4 = signed-bytes 4 2147483648 refl

coefficient-fits : (z : ℤ) → T (coefficient z) → Fits 32768 z
coefficient-fits (pos n) t = let h = leb→le n 32767 t in omega arith
coefficient-fits (negsuc n) t = let h = leb→le n 32766 (and_left (leb n 32766) true t) in omega arith

-- ---- lists of coefficients

list_back : (cs : List ℤ) (t : List ℕ) → T (all coefficient cs) → signed_list (length cs) (concat_map (signed_bytes 2) cs ++ t) ≡ cs
list_back [] t h = refl
list_back (c ∷ cs) t h =
    ap₂ (λ (z : ℤ) (l : List ℤ). z ∷ l) (signed-2 c (coefficient-fits c (and_left (coefficient c) (all coefficient cs) h))) (list_back cs t (and_right (coefficient c) (all coefficient cs) h))

-- past 8 coefficients
past-8 : (cs : List ℤ) (t : List ℕ) → length cs ≡ 8 → drop 16 (concat_map (signed_bytes 2) cs ++ t) ≡ t
past-8 cs t e = go cs 8 e
  where
    twice : ℕ → ℕ
    twice zero = 0
    twice (suc m) = suc (suc (twice m))

    go : (cs : List ℤ) (m : ℕ) → length cs ≡ m → drop (twice m) (concat_map (signed_bytes 2) cs ++ t) ≡ t
    go [] zero e = refl
    go [] (suc m) e = no-suc (sym e)
    go (c ∷ cs) zero e = no-suc e
    go (c ∷ cs) (suc m) e = go cs m (suc_inj e)

length-coefs : (cs : List ℤ) (m : ℕ) (t : List ℕ) → length cs ≡ m → length (concat_map (signed_bytes 2) cs ++ t) ≡ 2 * m + length t
length-coefs [] zero t e = omega arith
length-coefs [] (suc m) t e = no-suc (sym e)
length-coefs (c ∷ cs) zero t e = no-suc e
length-coefs (c ∷ cs) (suc m) t e = let h = length-coefs cs m t (suc_inj e) in omega arith

-- ---- one command

-- what a command of a set has: 8 places, and numbers in range
pub record DivisionFits (e : Division) : Type 0 where
  pub places : length e.axes ≡ 8
  pub divisor : e.divisor < 65536
  pub constant : Fits 2147483648 e.constant
  pub axes : T (all coefficient e.axes)

pub record ConstraintFits (r : Constraint) : Type 0 where
  pub axis_places : length r.axes ≡ 8
  pub division_places : length r.divisions ≡ 8
  pub number : r.number < 65536
  pub constant : Fits 2147483648 r.constant
  pub axes : T (all coefficient r.axes)
  pub divisions : T (all coefficient r.divisions)

abbrev pub CommandFits : Command → Type 0
CommandFits opens = Unit {0}
CommandFits misnumbered = ⊥
CommandFits (division e) = DivisionFits e
CommandFits (constraint r) = ConstraintFits r

-- the bytes after the first
abbrev division_bytes : Division → List ℕ → List ℕ
division_bytes e t = bytes_of 2 e.divisor ++ (signed_bytes 4 e.constant ++ (concat_map (signed_bytes 2) e.axes ++ t))

abbrev rule_bytes : Constraint → List ℕ → List ℕ
rule_bytes r t = signed_bytes 4 r.constant ++ (concat_map (signed_bytes 2) r.axes ++ (concat_map (signed_bytes 2) r.divisions ++ t))

read-division : (e : Division) (t : List ℕ) → DivisionFits e → read_division (head_of 0x12 (division_bytes e t)) (body_in 0x12 (division_bytes e t)) ≡ e
read-division e t f =
    λ i. record {
      divisor = bytes_2 e.divisor f.divisor i;
      constant = signed-4 e.constant f.constant i;
      axes = (subst (λ (m : ℕ). signed_list m (concat_map (signed_bytes 2) e.axes ++ t) ≡ e.axes) f.places (list_back e.axes t f.axes)) i;
    }

read-constraint : (r : Constraint) (t : List ℕ) (m : ℕ) → m ≡ r.number → ConstraintFits r → numbered m (read_constraint r.kind (rule_bytes r t)) ≡ r
read-constraint r t m q f =
    let d : signed_list 8 (drop 16 (concat_map (signed_bytes 2) r.axes ++ (concat_map (signed_bytes 2) r.divisions ++ t))) ≡ r.divisions =
    ap (signed_list 8) (past-8 r.axes (concat_map (signed_bytes 2) r.divisions ++ t) f.axis_places)
    ∙ subst (λ (m : ℕ). signed_list m (concat_map (signed_bytes 2) r.divisions ++ t) ≡ r.divisions) f.division_places (list_back r.divisions t f.divisions) in
    λ i. record {
      kind = r.kind;
      number = q i;
      constant = signed-4 r.constant f.constant i;
      axes = (subst (λ (m : ℕ). signed_list m (concat_map (signed_bytes 2) r.axes ++ (concat_map (signed_bytes 2) r.divisions ++ t)) ≡ r.axes) f.axis_places (list_back r.axes (concat_map (signed_bytes 2) r.divisions ++ t) f.axes)) i;
      divisions = d i;
    }

-- ---- one step of the parse

step : (n f : ℕ) (k : Counts) (b : ℕ) (s : List ℕ) (c : Command) (t : List ℕ) → T (ltb 0 (width_of b)) → T (leb (width_of b) (suc (length s)))
    → read_command b s ≡ c → refusal n k c ≡ 0 → drop (width_of b - 1) s ≡ t → parse n (suc f) k (b ∷ s) ≡ after c (parse n f (counted k c) t)
unfolding head_refusal
step n f k b s c t w l q z d =
    let z' : refusal n k (read_command b s) ≡ 0 = ap (refusal n k) q ∙ z in
    let e : head_refusal n k b s ≡ 0 =
    ap₂ (λ (x y : Bool). first_failing ((x, 2) ∷ (y, 3) ∷ (eqb (refusal n k (read_command b s)) 0, refusal n k (read_command b s)) ∷ [])) (from-T (ltb 0 (width_of b)) w) (from-T (leb (width_of b) (suc (length s))) l)
    ∙ ap (λ (m : ℕ). first_failing ((eqb m 0, m) ∷ [])) z' in
    parse-next n f k b s e ∙ (ap₂ (λ (x : Command) (y : List ℕ). after x (parse n f (counted k x) y)) q d)

parse-command : (n f : ℕ) (k : Counts) (c : Command) (t : List ℕ) → CommandFits c → refusal n k c ≡ 0 → parse n (suc f) k (encode_command c ++ t) ≡ after c (parse n f (counted k c) t)
parse-command n f k opens t h z = step n f k 0x11 t opens t tt (le→leb 1 (suc (length t)) (omega arith)) refl z refl
parse-command n f k (division e) t h z =
    step n f k 0x12 (division_bytes e t) (division e) t tt
    (le→leb 23 (suc (length (division_bytes e t))) (let l = length-coefs e.axes 8 t h.places in omega arith))
    (ap division (read-division e t h)) z (past-8 e.axes t h.places)
parse-command n f k misnumbered t h z = absurd h
parse-command n f k (constraint r) t h z = by (eqb r.number 0) refl
  where
    s : List ℕ
    s = rule_bytes r t

    body : List ℕ
    body = signed_bytes 4 r.constant ++ concat_map (signed_bytes 2) r.axes ++ concat_map (signed_bytes 2) r.divisions

    joined : body ++ t ≡ s
    joined = ap (λ (l : List ℕ). signed_bytes 4 r.constant ++ l) (append_assoc (concat_map (signed_bytes 2) r.axes) (concat_map (signed_bytes 2) r.divisions) t)

    size : length s ≡ 36 + length t
    size = let a = length-coefs r.axes 8 (concat_map (signed_bytes 2) r.divisions ++ t) h.axis_places in let b = length-coefs r.divisions 8 t h.division_places in omega arith

    past : drop 36 s ≡ t
    past =
        sym (drop-drop 16 16 (concat_map (signed_bytes 2) r.axes ++ (concat_map (signed_bytes 2) r.divisions ++ t)))
        ∙ ap (drop 16) (past-8 r.axes (concat_map (signed_bytes 2) r.divisions ++ t) h.axis_places) ∙ past-8 r.divisions t h.division_places

    -- under the command b, with the head m before the body
    under : (b : ℕ) (m : List ℕ) → width_of b ≡ 37 + length m → read_command b (m ++ s) ≡ constraint r → parse n (suc f) k ((b ∷ m ++ body) ++ t) ≡ after (constraint r) (parse n f (counted k (constraint r)) t)
    under b m w q =
        let some : 0 < width_of b = omega arith in
        let room : width_of b ≤ suc (length (m ++ s)) = let l = size in omega (arith, length-append m s) in
        let behind : width_of b - 1 ≡ length m + 36 = omega arith in
        ap (λ (l : List ℕ). parse n (suc f) k (b ∷ l)) (append_assoc m body t ∙ ap (λ (l : List ℕ). m ++ l) joined)
        ∙ step n f k b (m ++ s) (constraint r) t (lt→ltb 0 (width_of b) some) (le→leb (width_of b) (suc (length (m ++ s))) room) q z
        (ap (λ (i : ℕ). drop i (m ++ s)) behind ∙ sym (drop-drop 36 (length m) (m ++ s)) ∙ ap (drop 36) (drop_at m s (length m) refl) ∙ past)

    -- `13` and `14`
    bare-width : (c : Kind) → width_of (opcode c) ≡ 37
    bare-width equality = refl
    bare-width inequality = refl

    read-bare : (c : Kind) → read_command (opcode c) s ≡ constraint (numbered 0 (read_constraint c s))
    read-bare equality = refl
    read-bare inequality = refl

    -- `16` and `17`
    m : List ℕ
    m = bytes_of 2 r.number

    numbered-width : (c : Kind) → width_of (numbered_opcode c) ≡ 39
    numbered-width equality = refl
    numbered-width inequality = refl

    read-numbered : (c : Kind) → read_command (numbered_opcode c) (m ++ s) ≡ cond (eqb (value_of m) 0) misnumbered (constraint (numbered (value_of m) (read_constraint c s)))
    read-numbered equality = refl
    read-numbered inequality = refl

    value : value_of m ≡ r.number
    value = bytes_2 r.number h.number

    by : (x : Bool) → eqb r.number 0 ≡ x → parse n (suc f) k (encode_command (constraint r) ++ t) ≡ after (constraint r) (parse n f (counted k (constraint r)) t)
    by true e =
        ap (λ (x : Bool). parse n (suc f) k ((cond x (opcode r.kind ∷ []) (numbered_opcode r.kind ∷ m) ++ body) ++ t)) e
        ∙ under (opcode r.kind) [] (bare-width r.kind) (read-bare r.kind ∙ ap constraint (read-constraint r t 0 (sym (eqb→eq r.number 0 (subst T (sym e) tt))) h))
    by false e =
        ap (λ (x : Bool). parse n (suc f) k ((cond x (opcode r.kind ∷ []) (numbered_opcode r.kind ∷ m) ++ body) ++ t)) e
        ∙ under (numbered_opcode r.kind) m (numbered-width r.kind) (read-numbered r.kind
        ∙ ap (λ (x : Bool). cond x misnumbered (constraint (numbered (value_of m) (read_constraint r.kind s)))) (ap (λ (v : ℕ). eqb v 0) value ∙ e) ∙ ap constraint (read-constraint r t (value_of m) value h))

-- ---- all commands

-- each fits, and none is refused where it stands
abbrev pub Accepted : ℕ → Counts → List Command → Type 0
Accepted n k [] = Unit {0}
Accepted n k (c ∷ cs) = CommandFits c × ((refusal n k c ≡ 0) × Accepted n (counted k c) cs)

encode-nonempty : (c : Command) (t : List ℕ) → 1 + length t ≤ length (encode_command c ++ t)
encode-nonempty opens t = omega arith
encode-nonempty (division e) t = omega (arith, more (concat_map (signed_bytes 2) e.axes) t)
  where
    more : (s t : List ℕ) → length t ≤ length (s ++ t)
    more s t = omega (arith, lib.ListN.length-append s t)
encode-nonempty misnumbered t = omega arith
encode-nonempty (constraint r) t = by (eqb r.number 0)
  where
    B : List ℕ
    B = signed_bytes 4 r.constant ++ concat_map (signed_bytes 2) r.axes ++ concat_map (signed_bytes 2) r.divisions

    more : (s t : List ℕ) → length t ≤ length (s ++ t)
    more s t = omega (arith, lib.ListN.length-append s t)

    by : (x : Bool) → 1 + length t ≤ length ((cond x (opcode r.kind ∷ []) (numbered_opcode r.kind ∷ bytes_of 2 r.number) ++ B) ++ t)
    by true = let m = more B t in omega arith
    by false = let m = more (bytes_of 2 r.number ++ B) t in omega arith

parse-all : (n : ℕ) (cs : List Command) (f : ℕ) (k : Counts) → length (concat_map encode_command cs) ≤ f → Accepted n k cs → parse n f k (concat_map encode_command cs) ≡ gives cs
unfolding decode parse encode
parse-all n [] zero k h a = refl
parse-all n [] (suc f) k h a = refl
parse-all n (c ∷ cs) zero k h a = absurd (clash (length (concat_map encode_command cs)) (length (encode_command c ++ concat_map encode_command cs)) (encode-nonempty c (concat_map encode_command cs)) h)
  where
    clash : (l m : ℕ) → 1 + l ≤ m → m ≤ 0 → ⊥
    clash l m p q = omega arith
parse-all n (c ∷ cs) (suc f) k h a =
    let m = encode-nonempty c (concat_map encode_command cs) in
    parse-command n f k c (concat_map encode_command cs) a.0 a.1.0
    ∙ ap (after c) (parse-all n cs f (counted k c) (omega arith) a.1.1)

build-constraints : (rs : List Constraint) (cs : List Command) → ((build cs).divisions ≡ []) → ((build cs).constraints ≡ []) → build (map constraint rs ++ cs) ≡ record { divisions = []; constraints = rs; rest = (build cs).rest }
build-constraints [] cs d e = λ i. record { divisions = d i; constraints = e i; rest = (build cs).rest }
build-constraints (r ∷ rs) cs d e = ap (λ (b : Built). record { divisions = b.divisions; constraints = r ∷ b.constraints; rest = b.rest }) (build-constraints rs cs d e)

build-divisions : (ds : List Division) (cs : List Command) → ((build cs).divisions ≡ []) → build (map division ds ++ cs) ≡ record { divisions = ds; constraints = (build cs).constraints; rest = (build cs).rest }
build-divisions [] cs d = λ i. record { divisions = d i; constraints = (build cs).constraints; rest = (build cs).rest }
build-divisions (e ∷ ds) cs d = ap (λ (b : Built). record { divisions = e ∷ b.divisions; constraints = b.constraints; rest = b.rest }) (build-divisions ds cs d)

-- the commands of a set give the set
build-set : (s : Set) → build (commands s) ≡ record { divisions = []; constraints = []; rest = s }
build-set [] = refl
build-set (b ∷ s) =
    let cs : List Command = commands s in
    let e = build-set s in
    let r : build (map constraint b.constraints ++ cs) ≡ record { divisions = []; constraints = b.constraints; rest = s } =
    build-constraints b.constraints cs (ap (λ (u : Built). u.divisions) e) (ap (λ (u : Built). u.constraints) e) ∙ ap (λ (u : Set). record { divisions = []; constraints = b.constraints; rest = u }) (ap (λ (u : Built). u.rest) e) in
    let d : build (map division b.divisions ++ (map constraint b.constraints ++ cs)) ≡ record { divisions = b.divisions; constraints = b.constraints; rest = s } =
    build-divisions b.divisions (map constraint b.constraints ++ cs) (ap (λ (u : Built). u.divisions) r) ∙ ap (λ (u : Built). record { divisions = b.divisions; constraints = u.constraints; rest = u.rest }) r in
    ap (λ (l : List Command). build (opens ∷ l)) (append_assoc (map division b.divisions) (map constraint b.constraints) cs)
    ∙ ap (λ (u : Built). record { divisions = []; constraints = []; rest = record { divisions = u.divisions; constraints = u.constraints } ∷ u.rest }) d

pub decode-encode : (n : ℕ) (s : Set) → T (axes_fit n) → Accepted n (record { basics = 0; divisions = 0; constraints = 0 }) (commands s) → decode n (encode s) ≡ gives s
unfolding decode parse encode
decode-encode n s h a =
    ap (λ (b : Bool). cond b (set_of (parse n (length (encode s)) (record { basics = 0; divisions = 0; constraints = 0 }) (encode s))) (refused 1)) (from-T (axes_fit n) h)
    ∙ ap set_of (parse-all n (commands s) (length (encode s)) (record { basics = 0; divisions = 0; constraints = 0 }) (le_refl (length (encode s))) a)
    ∙ ap (λ (u : Built). gives u.rest) (build-set s)
