-- What a decoded set has: every command accepted, well-formed basic sets, and the bytes it came from as its encoding.
use mathlib.Core.Path.{◌≡◌, refl, sym, ap, ap₂, ◌∙◌, subst}
use mathlib.Core.Bool.{Bool, true, false, cond}
use mathlib.Core.List.{List, [], ◌∷◌, ◌++◌, map, append_assoc}
use Prim.Native.Nat.{ℕ, zero, suc, ◌+◌, ◌-◌, ◌^◌, ◌≤◌, ◌<◌, zero-le, suc-le-suc}
use native.Mathlib.Nat.{le_of_suc-le-suc, not-suc-le-zero, le_refl}
use native.Mathlib.Omega.{arith}
use lib.Dec.{T, leb, ltb, eqb, leb→le, ltb→lt, eqb→eq}
use lib.ListN.{length, take, drop, take-append-drop}
use lib.Seq.{length-take-le}
pub use Rattle.integers.specs.LittleEndian.{Bytes}
use Rattle.integers.specs.LittleEndian.{bytes-value, value-small, unsigned_signed, bytes_take, bytes_drop}
use Rattle.model.specs.Lists.{all, concat_map}
use Rattle.model.specs.Sets.{Division, Kind, equality, inequality, Constraint, Set, absent, well_formed}
use Rattle.model.specs.Numbers.{numbered}
use Rattle.codec.specs.Bytes.{Answer, refused, gives, bytes_of, value_of, signed, signed_bytes, Command, opens, misnumbered, division, constraint, opcode, numbered_opcode, constant_in, axes_in, divisions_in, encode_command, commands, encode, signed_list, read_division, read_constraint, Counts, first_failing, tests_of, refusal, counted, width_of, read_command, Built, build, after, parse, set_of, axes_fit, decode, head_refusal}
use Rattle.codec.proofs.Parsing.{parse-next, parse-stop, all-passed, no-misnumbered}
use Rattle.model.proofs.Count.{and_left, and_right, and-make, to-T, no-suc}
use Rattle.model.proofs.Values.{divides, fits}

-- ---- the first failing test

pub no_way : {X : Type 0} → ◌≡◌ {A = ℕ} 0 1 → X
no_way z = absurd (clash z)
  where
    clash : ◌≡◌ {A = ℕ} 0 1 → ⊥
    clash z = omega arith

-- no test fails where the answer is 0 and the failing one's number is not
passed : (b : Bool) (m : ℕ) (ts : List (Bool × ℕ)) → first_failing ((b, suc m) ∷ ts) ≡ 0 → T b × (first_failing ts ≡ 0)
passed true m ts e = (tt, e)
passed false m ts e = no-suc e

-- ---- every parsed command is one that was read and not refused

pub data Parsed (n : ℕ) : Counts → List ℕ → List Command → Type 0 where
  done : {k : Counts} → Parsed n k [] []
  next : {k : Counts} {cs : List Command} (b : ℕ) (s : List ℕ) → T (ltb 0 (width_of b)) → T (leb (width_of b) (suc (length s))) → refusal n k (read_command b s) ≡ 0
      → Parsed n (counted k (read_command b s)) (drop (width_of b - 1) s) cs → Parsed n k (b ∷ s) (read_command b s ∷ cs)

after-gives : (c : Command) (a : Answer (List Command)) (cs : List Command) → after c a ≡ gives cs → (ds : List Command) × (a ≡ gives ds) × (c ∷ ds ≡ cs)
after-gives c (refused m) cs e = let z : ◌≡◌ {A = ℕ} 0 1 = cc in no_way z
after-gives c (gives ds) cs e = (ds, refl, cc)

pub parsed : (n f : ℕ) (k : Counts) (s : List ℕ) (cs : List Command) → length s ≤ f → parse n f k s ≡ gives cs → Parsed n k s cs
unfolding decode parse encode head_refusal
parsed n zero k [] cs h e = subst (λ (l : List Command). Parsed n k [] l) (cc) done
parsed n zero k (b ∷ s) cs h e = absurd (not-suc-le-zero h)
parsed n (suc f) k [] cs h e = subst (λ (l : List Command). Parsed n k [] l) (cc) done
parsed n (suc f) k (b ∷ s) cs h e = at (head_refusal n k b s) refl (λ ds. parsed n f (counted k (read_command b s)) (drop (width_of b - 1) s) ds)
  where
    at : (m : ℕ) → head_refusal n k b s ≡ m
        → ((ds : List Command) → length (drop (width_of b - 1) s) ≤ f → parse n f (counted k (read_command b s)) (drop (width_of b - 1) s) ≡ gives ds → Parsed n (counted k (read_command b s)) (drop (width_of b - 1) s) ds) → Parsed n k (b ∷ s) cs
    at (suc m) q ih = let d : refused (suc m) ≡ gives cs = sym (parse-stop n f k b s m q) ∙ e in let z : ◌≡◌ {A = ℕ} 0 1 = cc in no_way z
    at zero q ih =
        let d : after (read_command b s) (parse n f (counted k (read_command b s)) (drop (width_of b - 1) s)) ≡ gives cs = sym (parse-next n f k b s q) ∙ e in
        let g = after-gives (read_command b s) (parse n f (counted k (read_command b s)) (drop (width_of b - 1) s)) cs d in
        let t₁ = passed (ltb 0 (width_of b)) 1 ((leb (width_of b) (suc (length s)), 3) ∷ (eqb (refusal n k (read_command b s)) 0, refusal n k (read_command b s)) ∷ []) q in
        let t₂ = passed (leb (width_of b) (suc (length s))) 2 ((eqb (refusal n k (read_command b s)) 0, refusal n k (read_command b s)) ∷ []) t₁.1 in
        let z : refusal n k (read_command b s) ≡ 0 = zeroed (refusal n k (read_command b s)) t₂.1 in
        subst (λ (l : List Command). Parsed n k (b ∷ s) l) g.2
        (next b s t₁.0 t₂.0 z (ih g.0 (omega (arith, lib.ListN.length-drop (width_of b - 1) s)) g.1))
      where
        zeroed : (r : ℕ) → first_failing ((eqb r 0, r) ∷ []) ≡ 0 → r ≡ 0
        zeroed zero e = refl
        zeroed (suc r) e = e' (eqb (suc r) 0) refl e
          where
            e' : (b : Bool) → eqb (suc r) 0 ≡ b → cond b 0 (suc r) ≡ 0 → suc r ≡ 0
            e' true q e = eqb→eq (suc r) 0 (subst T (sym q) tt)
            e' false q e = e

-- ---- well-formed

pub record Formed (k : Counts) (b : Built) : Type 0 where
  pub positive : T (all divides b.divisions)
  pub absents : T (all (λ (r : Constraint). absent (k.divisions + length b.divisions) r.divisions) b.constraints)
  pub ordered : 0 < k.constraints → b.divisions ≡ []
  pub others : T (all well_formed b.rest)

refused-division : (n : ℕ) (k : Counts) (e : Division) → refusal n k (division e) ≡ 0 → (k.constraints ≡ 0) × T (divides e)
refused-division n k e z =
    let t = all-passed (tests_of n k (division e)) tt z in
    (eqb→eq k.constraints 0 t.1.0, and_left (ltb 0 e.divisor) (leb e.divisor 32767) t.1.1.1.0)

refused-constraint : (n : ℕ) (k : Counts) (r : Constraint) → refusal n k (constraint r) ≡ 0 → T (absent k.divisions r.divisions)
refused-constraint n k r z = let t = all-passed (tests_of n k (constraint r)) tt z in and_right (absent n r.axes) (absent k.divisions r.divisions) t.1.1.1.0

-- none of the commands is refused where it stands
abbrev pub Unrefused : ℕ → Counts → List Command → Type 0
Unrefused n k [] = Unit {0}
Unrefused n k (c ∷ cs) = (refusal n k c ≡ 0) × Unrefused n (counted k c) cs

pub unrefused : (n : ℕ) (k : Counts) (s : List ℕ) (cs : List Command) → Parsed n k s cs → Unrefused n k cs
unrefused n k _ _ done = tt
unrefused n k _ _ (next b s w l z p) = (z, unrefused n (counted k (read_command b s)) (drop (width_of b - 1) s) _ p)

pub formed : (n : ℕ) (k : Counts) (cs : List Command) → Unrefused n k cs → Formed k (build cs)
formed n k [] u = record { positive = tt; absents = tt; ordered = λ h. refl; others = tt }
formed n k (opens ∷ cs) u =
    let f = formed n (counted k opens) cs u.1 in
    let b : Built = build cs in
    record {
      positive = tt;
      absents = tt;
      ordered = λ h. refl;
      others =
          and-make (well_formed (record { divisions = b.divisions; constraints = b.constraints })) (all well_formed b.rest)
          (and-make (all divides b.divisions) (all (fits b.divisions) b.constraints) f.positive
          (subst (λ (m : ℕ). T (all (λ (r : Constraint). absent m r.divisions) b.constraints)) (native.Mathlib.Nat.zero-add (length b.divisions)) f.absents))
          f.others;
    }
formed n k (misnumbered ∷ cs) u = absurd (no-misnumbered n k u.0)
formed n k (division e ∷ cs) u =
    let f = formed n (counted k (division e)) cs u.1 in
    let b : Built = build cs in
    let d = refused-division n k e u.0 in
    record {
      positive = and-make (divides e) (all divides b.divisions) d.1 f.positive;
      absents = subst (λ (m : ℕ). T (all (λ (r : Constraint). absent m r.divisions) b.constraints)) (shuffle k.divisions (length b.divisions)) f.absents;
      ordered = λ h. absurd (clash k.constraints h d.0);
      others = f.others;
    }
  where
    shuffle : (a b : ℕ) → a + 1 + b ≡ a + suc b
    shuffle a b = omega arith

    clash : (a : ℕ) → 0 < a → a ≡ 0 → ⊥
    clash a h e = omega arith
formed n k (constraint r ∷ cs) u =
    let f = formed n (counted k (constraint r)) cs u.1 in
    let b : Built = build cs in
    let o : b.divisions ≡ [] = f.ordered (more k.constraints) in
    record {
      positive = f.positive;
      absents =
          and-make (absent (k.divisions + length b.divisions) r.divisions) (all (λ (r : Constraint). absent (k.divisions + length b.divisions) r.divisions) b.constraints)
          (subst (λ (m : ℕ). T (absent m r.divisions)) (same k.divisions (length b.divisions) (ap length o)) (refused-constraint n k r u.0)) f.absents;
      ordered = λ h. o;
      others = f.others;
    }
  where
    more : (a : ℕ) → 0 < a + 1
    more a = omega arith

    same : (a b : ℕ) → b ≡ 0 → a ≡ a + b
    same a b e = omega arith

set_gives : (a : Answer (List Command)) (s : Set) → set_of a ≡ gives s → (cs : List Command) × (a ≡ gives cs) × ((build cs).rest ≡ s)
set_gives (refused m) s e = let z : ◌≡◌ {A = ℕ} 0 1 = cc in no_way z
set_gives (gives cs) s e = (cs, refl, cc)

pub decoded : (n : ℕ) (bs : List ℕ) (s : Set) → decode n bs ≡ gives s → (cs : List Command) × Parsed n (record { basics = 0; divisions = 0; constraints = 0 }) bs cs × ((build cs).rest ≡ s)
unfolding decode parse encode
decoded n bs s e = at (axes_fit n) e
  where
    at : (b : Bool) → cond b (set_of (parse n (length bs) (record { basics = 0; divisions = 0; constraints = 0 }) bs)) (refused 1) ≡ gives s → (cs : List Command) × Parsed n (record { basics = 0; divisions = 0; constraints = 0 }) bs cs × ((build cs).rest ≡ s)
    at true e = let g = set_gives (parse n (length bs) (record { basics = 0; divisions = 0; constraints = 0 }) bs) s e in (g.0, parsed n (length bs) (record { basics = 0; divisions = 0; constraints = 0 }) bs g.0 (le_refl (length bs)) g.1, g.2)
    at false e = let z : ◌≡◌ {A = ℕ} 0 1 = cc in no_way z

-- a decoded set is well-formed
pub decode-formed : (n : ℕ) (bs : List ℕ) (s : Set) → decode n bs ≡ gives s → T (all well_formed s)
decode-formed n bs s e =
    let d = decoded n bs s e in
    subst (λ (t : Set). T (all well_formed t)) d.2 (formed n (record { basics = 0; divisions = 0; constraints = 0 }) d.0 (unrefused n (record { basics = 0; divisions = 0; constraints = 0 }) bs d.0 d.1)).others

-- ---- the bytes of the decoded set are the bytes

pub clean-start : (n : ℕ) (k : Counts) (cs : List Command) → Unrefused n k cs → k.basics ≡ 0 → ((build cs).divisions ≡ []) × ((build cs).constraints ≡ [])
clean-start n k [] u e = (refl, refl)
clean-start n k (opens ∷ cs) u e = (refl, refl)
clean-start n k (misnumbered ∷ cs) u e = absurd (no-misnumbered n k u.0)
clean-start n k (division d ∷ cs) u e = absurd (clash (ltb→lt 0 k.basics (all-passed (tests_of n k (division d)) tt u.0).0) e)
  where
    clash : 0 < k.basics → k.basics ≡ 0 → ⊥
    clash h e = omega arith
clean-start n k (constraint r ∷ cs) u e = absurd (clash (ltb→lt 0 k.basics (all-passed (tests_of n k (constraint r)) tt u.0).0) e)
  where
    clash : 0 < k.basics → k.basics ≡ 0 → ⊥
    clash h e = omega arith

-- the commands are those of what they build
pub commands-back : (n : ℕ) (k : Counts) (cs : List Command) → Unrefused n k cs → map division (build cs).divisions ++ (map constraint (build cs).constraints ++ commands (build cs).rest) ≡ cs
commands-back n k [] u = refl
commands-back n k (opens ∷ cs) u =
    ap (λ (l : List Command). opens ∷ l)
    (append_assoc (map division (build cs).divisions) (map constraint (build cs).constraints) (commands (build cs).rest) ∙ commands-back n (counted k opens) cs u.1)
commands-back n k (misnumbered ∷ cs) u = absurd (no-misnumbered n k u.0)
commands-back n k (division e ∷ cs) u = ap (λ (l : List Command). division e ∷ l) (commands-back n (counted k (division e)) cs u.1)
commands-back n k (constraint r ∷ cs) u =
    let o : (build cs).divisions ≡ [] = (formed n (counted k (constraint r)) cs u.1).ordered (more k.constraints) in
    ap (λ (l : List Division). map division l ++ (constraint r ∷ (map constraint (build cs).constraints ++ commands (build cs).rest))) o
    ∙ ap (λ (l : List Command). constraint r ∷ l) (ap (λ (l : List Division). map division l ++ (map constraint (build cs).constraints ++ commands (build cs).rest)) (sym o) ∙ commands-back n (counted k (constraint r)) cs u.1)
  where
    more : (a : ℕ) → 0 < a + 1
    more a = omega arith

-- k bytes as a number, and back
value-back : (k : ℕ) (s : List ℕ) → Bytes s → k ≤ length s → bytes_of k (value_of (take k s)) ++ drop k s ≡ s
value-back k s p h =
    let l : length (take k s) ≡ k = length-take-le k s h in
    ap (λ (j : ℕ). bytes_of j (value_of (take k s)) ++ drop k s) (sym l)
    ∙ ap (λ (t : List ℕ). t ++ drop k s) (bytes-value (take k s) (bytes_take k s p)) ∙ take-append-drop k s

signed_back : (k : ℕ) (s : List ℕ) → Bytes s → k ≤ length s → signed_bytes k (signed k (value_of (take k s))) ++ drop k s ≡ s
signed_back k s p h =
    let l : length (take k s) ≡ k = length-take-le k s h in
    let v : value_of (take k s) < 256 ^ k = subst (λ (j : ℕ). value_of (take k s) < 256 ^ j) l (value-small (take k s) (bytes_take k s p)) in
    ap (λ (n : ℕ). bytes_of k n ++ drop k s) (unsigned_signed k (value_of (take k s)) v) ∙ value-back k s p h

abbrev twice : ℕ → ℕ
twice zero = 0
twice (suc m) = suc (suc (twice m))

list_back : (m : ℕ) (s : List ℕ) → Bytes s → twice m ≤ length s → concat_map (signed_bytes 2) (signed_list m s) ++ drop (twice m) s ≡ s
list_back zero s p h = refl
list_back (suc m) [] p h = absurd (not-suc-le-zero h)
list_back (suc m) (a ∷ []) p h = absurd (not-suc-le-zero (le_of_suc-le-suc h))
list_back (suc m) (a ∷ b ∷ s) p h =
    append_assoc (signed_bytes 2 (signed 2 (value_of (a ∷ b ∷ [])))) (concat_map (signed_bytes 2) (signed_list m s)) (drop (twice m) s)
    ∙ ap (λ (l : List ℕ). signed_bytes 2 (signed 2 (value_of (a ∷ b ∷ []))) ++ l) (list_back m s p.1.1 (le_of_suc-le-suc (le_of_suc-le-suc h)))
    ∙ signed_back 2 (a ∷ b ∷ s) p (suc-le-suc (suc-le-suc zero-le))

body-12 : (s : List ℕ) → Bytes s → 22 ≤ length s → encode_command (division (read_division (value_of (take 2 s)) (drop 2 s))) ++ drop 22 s ≡ 0x12 ∷ s
body-12 s p h =
    let t : List ℕ = drop 2 s in
    let d₂ : 20 ≤ length t = omega (arith, lib.ListN.length-drop 2 s) in
    let d₄ : 16 ≤ length (drop 4 t) = omega (arith, lib.ListN.length-drop 4 t) in
    let c : List ℕ = signed_bytes 4 (signed 4 (value_of (take 4 t))) in
    let a : List ℕ = concat_map (signed_bytes 2) (signed_list 8 (drop 4 t)) in
    let e : drop 22 s ≡ drop 16 (drop 4 t) = sym (lib.Seq.drop-drop 16 6 s) ∙ ap (drop 16) (sym (lib.Seq.drop-drop 4 2 s)) in
    ap (λ (l : List ℕ). 0x12 ∷ l)
    (append_assoc (bytes_of 2 (value_of (take 2 s)) ++ c) a (drop 22 s)
    ∙ append_assoc (bytes_of 2 (value_of (take 2 s))) c (a ++ drop 22 s)
    ∙ ap (λ (l : List ℕ). bytes_of 2 (value_of (take 2 s)) ++ (c ++ l)) (ap (λ (l : List ℕ). a ++ l) e ∙ list_back 8 (drop 4 t) (bytes_drop 4 t (bytes_drop 2 s p)) d₄)
    ∙ ap (λ (l : List ℕ). bytes_of 2 (value_of (take 2 s)) ++ l) (signed_back 4 t (bytes_drop 2 s p) (omega arith))
    ∙ value-back 2 s p (omega arith))

-- the body of a rule, whatever stands before it
body-rule : (t : List ℕ) → Bytes t → 36 ≤ length t → (signed_bytes 4 (constant_in t) ++ concat_map (signed_bytes 2) (axes_in t) ++ concat_map (signed_bytes 2) (divisions_in t)) ++ drop 36 t ≡ t
body-rule s p h =
    let d₄ : 16 ≤ length (drop 4 s) = omega (arith, lib.ListN.length-drop 4 s) in
    let d₂₀ : 16 ≤ length (drop 20 s) = omega (arith, lib.ListN.length-drop 20 s) in
    append_assoc (signed_bytes 4 (constant_in s) ++ concat_map (signed_bytes 2) (axes_in s)) (concat_map (signed_bytes 2) (divisions_in s)) (drop 36 s)
    ∙ append_assoc (signed_bytes 4 (constant_in s)) (concat_map (signed_bytes 2) (axes_in s)) (concat_map (signed_bytes 2) (divisions_in s) ++ drop 36 s)
    ∙ ap (λ (l : List ℕ). signed_bytes 4 (constant_in s) ++ l)
    (ap (λ (l : List ℕ). concat_map (signed_bytes 2) (axes_in s) ++ l)
    (ap (λ (l : List ℕ). concat_map (signed_bytes 2) (divisions_in s) ++ l) (sym (lib.Seq.drop-drop 16 20 s)) ∙ list_back 8 (drop 20 s) (bytes_drop 20 s p) d₂₀ ∙ sym (lib.Seq.drop-drop 16 4 s))
    ∙ list_back 8 (drop 4 s) (bytes_drop 4 s p) d₄)
    ∙ signed_back 4 s p (omega arith)

body-short : (k : Kind) (s : List ℕ) → Bytes s → 36 ≤ length s → encode_command (constraint (numbered 0 (read_constraint k s))) ++ drop 36 s ≡ opcode k ∷ s
body-short k s p h = ap (λ (l : List ℕ). opcode k ∷ l) (body-rule s p h)

body-long : (k : Kind) (s : List ℕ) → Bytes s → 38 ≤ length s → eqb (value_of (take 2 s)) 0 ≡ false
    → encode_command (constraint (numbered (value_of (take 2 s)) (read_constraint k (drop 2 s)))) ++ drop 38 s ≡ numbered_opcode k ∷ s
body-long k s p h z =
    let t : List ℕ = drop 2 s in
    let m : ℕ = value_of (take 2 s) in
    let R : List ℕ = signed_bytes 4 (constant_in t) ++ concat_map (signed_bytes 2) (axes_in t) ++ concat_map (signed_bytes 2) (divisions_in t) in
    let l : 36 ≤ length t = omega (arith, lib.ListN.length-drop 2 s) in
    ap (λ (x : Bool). (cond x (opcode k ∷ []) (numbered_opcode k ∷ bytes_of 2 m) ++ R) ++ drop 38 s) z
    ∙ ap (λ (l : List ℕ). numbered_opcode k ∷ l)
    (append_assoc (bytes_of 2 m) R (drop 38 s) ∙ ap (λ (l : List ℕ). bytes_of 2 m ++ l) (ap (λ (l : List ℕ). R ++ l) (sym (lib.Seq.drop-drop 36 2 s)) ∙ body-rule t (bytes_drop 2 s p) l) ∙ value-back 2 s p (omega arith))

encode-read : (n : ℕ) (k : Counts) (b : ℕ) (s : List ℕ) → T (ltb 0 (width_of b)) → T (leb (width_of b) (suc (length s))) → refusal n k (read_command b s) ≡ 0 → Bytes s → encode_command (read_command b s) ++ drop (width_of b - 1) s ≡ b ∷ s
encode-read n k b s w l z p = at₁ (eqb b 0x11) refl
  where
    P : ℕ → Type 0
    P c = T (leb (width_of c) (suc (length s))) → refusal n k (read_command c s) ≡ 0 → encode_command (read_command c s) ++ drop (width_of c - 1) s ≡ c ∷ s

    is : (c : ℕ) → eqb b c ≡ true → P c → encode_command (read_command b s) ++ drop (width_of b - 1) s ≡ b ∷ s
    is c e h = subst P (sym (eqb→eq b c (to-T (eqb b c) e))) h l z

    -- a rule that is written with its number
    long : (q : Kind) → 39 ≤ suc (length s) → (x : Bool) → eqb (value_of (take 2 s)) 0 ≡ x → refusal n k (cond x misnumbered (constraint (numbered (value_of (take 2 s)) (read_constraint q (drop 2 s))))) ≡ 0
        → encode_command (cond x misnumbered (constraint (numbered (value_of (take 2 s)) (read_constraint q (drop 2 s))))) ++ drop 38 s ≡ numbered_opcode q ∷ s
    long q h true e z = absurd (no-misnumbered n k z)
    long q h false e z = body-long q s p (le_of_suc-le-suc h) e

    at₆ : (t : Bool) → eqb b 0x17 ≡ t → eqb b 0x16 ≡ false → eqb b 0x14 ≡ false → eqb b 0x13 ≡ false → eqb b 0x12 ≡ false → eqb b 0x11 ≡ false → encode_command (read_command b s) ++ drop (width_of b - 1) s ≡ b ∷ s
    at₆ true e v u z y x = is 0x17 e (λ m r. long inequality (leb→le 39 (suc (length s)) m) (eqb (value_of (take 2 s)) 0) refl r)
    at₆ false e v u z y x = absurd (subst T (ap (λ (m : ℕ). ltb 0 m) none) w)
      where
        none : width_of b ≡ 0
        none = simp (x, y, z, u, v, e)

    at₅ : (t : Bool) → eqb b 0x16 ≡ t → eqb b 0x14 ≡ false → eqb b 0x13 ≡ false → eqb b 0x12 ≡ false → eqb b 0x11 ≡ false → encode_command (read_command b s) ++ drop (width_of b - 1) s ≡ b ∷ s
    at₅ true e u z y x = is 0x16 e (λ m r. long equality (leb→le 39 (suc (length s)) m) (eqb (value_of (take 2 s)) 0) refl r)
    at₅ false e u z y x = at₆ (eqb b 0x17) refl e u z y x

    at₄ : (t : Bool) → eqb b 0x14 ≡ t → eqb b 0x13 ≡ false → eqb b 0x12 ≡ false → eqb b 0x11 ≡ false → encode_command (read_command b s) ++ drop (width_of b - 1) s ≡ b ∷ s
    at₄ true e z y x = is 0x14 e (λ m r. body-short inequality s p (le_of_suc-le-suc (leb→le 37 (suc (length s)) m)))
    at₄ false e z y x = at₅ (eqb b 0x16) refl e z y x

    at₃ : (t : Bool) → eqb b 0x13 ≡ t → eqb b 0x12 ≡ false → eqb b 0x11 ≡ false → encode_command (read_command b s) ++ drop (width_of b - 1) s ≡ b ∷ s
    at₃ true e y x = is 0x13 e (λ m r. body-short equality s p (le_of_suc-le-suc (leb→le 37 (suc (length s)) m)))
    at₃ false e y x = at₄ (eqb b 0x14) refl e y x

    at₂ : (t : Bool) → eqb b 0x12 ≡ t → eqb b 0x11 ≡ false → encode_command (read_command b s) ++ drop (width_of b - 1) s ≡ b ∷ s
    at₂ true e x = is 0x12 e (λ m r. body-12 s p (le_of_suc-le-suc (leb→le 23 (suc (length s)) m)))
    at₂ false e x = at₃ (eqb b 0x13) refl e x

    at₁ : (t : Bool) → eqb b 0x11 ≡ t → encode_command (read_command b s) ++ drop (width_of b - 1) s ≡ b ∷ s
    at₁ true e = is 0x11 e (λ m r. refl)
    at₁ false e = at₂ (eqb b 0x12) refl e

pub bytes_back : (n : ℕ) (k : Counts) (s : List ℕ) (cs : List Command) → Parsed n k s cs → Bytes s → concat_map encode_command cs ≡ s
bytes_back n k _ _ done p = refl
bytes_back n k _ _ (next b s w l z q) p =
    ap (λ (t : List ℕ). encode_command (read_command b s) ++ t) (bytes_back n (counted k (read_command b s)) (drop (width_of b - 1) s) _ q (bytes_drop (width_of b - 1) s p.1))
    ∙ encode-read n k b s w l z p.1

-- what is decoded encodes to its bytes
pub encode-decode : (n : ℕ) (bs : List ℕ) (s : Set) → Bytes bs → decode n bs ≡ gives s → encode s ≡ bs
unfolding decode parse encode
encode-decode n bs s p e =
    let k : Counts = record { basics = 0; divisions = 0; constraints = 0 } in
    let d = decoded n bs s e in
    let u = unrefused n k bs d.0 d.1 in
    let c = clean-start n k d.0 u refl in
    let same : commands s ≡ d.0 =
    ap commands (sym d.2)
    ∙ ap₂ (λ (x : List Division) (y : List Constraint). map division x ++ (map constraint y ++ commands (build d.0).rest)) (sym c.0) (sym c.1)
    ∙ commands-back n k d.0 u in
    ap (concat_map encode_command) same ∙ bytes_back n k bs d.0 d.1 p

-- so a set has one encoding, and each of its rules: bytes that decode to one set are the same
pub one-encoding : (n m : ℕ) (bs cs : List ℕ) (s : Set) → Bytes bs → Bytes cs → decode n bs ≡ gives s → decode m cs ≡ gives s → bs ≡ cs
one-encoding n m bs cs s p q d e = sym (encode-decode n bs s p d) ∙ encode-decode m cs s q e
