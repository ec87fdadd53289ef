-- What a decoded set is: valid basic sets over n axes, at most 32; and what is valid decodes from its encoding.
use mathlib.Core.Path.{◌≡◌, refl, sym, ap, ◌∙◌, subst}
use mathlib.Core.Bool.{Bool, true, false, ◌&&◌, cond}
use mathlib.Core.List.{List, [], ◌∷◌, ◌++◌, map, append_assoc}
use Prim.Native.Nat.{ℕ, zero, suc, ◌+◌, ◌-◌, ◌≤◌, ◌<◌, zero-le}
use native.Mathlib.Nat.{zero-add, add-zero}
use native.Mathlib.Omega.{arith}
use lib.Dec.{T, leb, ltb, leb→le, lt→ltb, ltb→lt, eqb→eq}
use lib.IntN.{ℤ, pos, negsuc}
use lib.ListN.{length, take, drop, get_or}
use Rattle.integers.specs.LittleEndian.{bytes_drop, signed-mag}
use Rattle.model.specs.Lists.{All, all}
use Rattle.model.specs.Sets.{Division, Constraint, Set, absent}
use Rattle.model.specs.Numbers.{numbered}
use Rattle.codec.specs.Bytes.{gives, value_of, signed_list, Command, opens, misnumbered, division, constraint, commands, encode, is_opening, has_head, is_misnumbered, is_division, body_of, head_of, body_in, kind_of, read_division, read_constraint, read_command, width_of, Counts, within, coefficient, constant_fits, tests_of, first_failing, refusal, counted, Built, build, axes_fit, decode}
use Rattle.codec.specs.Places.{commands_of, built, set_from, Boundary}
use Rattle.model.proofs.Count.{and_left, and_right, and-make, from-T}
use Rattle.codec.specs.Valid.{Fits, ValidDivision, ValidConstraint, Valid}
use Rattle.codec.proofs.Encoded.{DivisionFits, ConstraintFits, Accepted, decode-encode}
use Rattle.codec.proofs.Decoded.{Parsed, done, next, Bytes, decoded}
use Rattle.codec.proofs.Parsing.{all-passed, no-misnumbered}
use Rattle.codec.proofs.Walking.{accepted-parsed}

-- ---- a valid set's commands are accepted

big-fits : (z : ℤ) → T (within (negsuc 999999999) (pos 1000000000) z) → Fits 2147483648 z
big-fits (pos m) t = let h = leb→le m 1000000000 t in omega arith
big-fits (negsuc m) t = let h = leb→le m 999999999 (and_left (leb m 999999999) true t) in omega arith

division-fits : (n : ℕ) (e : Division) → ValidDivision n e → DivisionFits e
division-fits n e v =
    record {
      places = v.places;
      divisor = let h = leb→le e.divisor 32767 (and_right (ltb 0 e.divisor) (leb e.divisor 32767) v.divisor) in omega arith;
      constant = big-fits e.constant v.constant;
      axes = v.axes;
    }

constraint-fits : (n k : ℕ) (r : Constraint) → ValidConstraint n k r → ConstraintFits r
constraint-fits n k r v = record { axis_places = v.axis_places; division_places = v.division_places; number = v.number; constant = v.width; axes = v.axes; divisions = v.divisions }

-- no test of the list fails
abbrev Passes : List (Bool × ℕ) → Type 0
Passes [] = Unit {0}
Passes (t ∷ ts) = T t.0 × Passes ts

unfailing : (ts : List (Bool × ℕ)) → Passes ts → first_failing ts ≡ 0
unfailing [] p = refl
unfailing (t ∷ ts) p = ap (λ (b : Bool). cond b (first_failing ts) t.1) (from-T t.0 p.0) ∙ unfailing ts p.1

module _ (n : ℕ) where
  accept-constraints : (b d r : ℕ) (rs : List Constraint) (cs : List Command) → 0 < b → r + length rs ≤ 48 → All (ValidConstraint n d) rs
      → Accepted n (record { basics = b; divisions = d; constraints = r + length rs }) cs → Accepted n (record { basics = b; divisions = d; constraints = r }) (map constraint rs ++ cs)
  accept-constraints b d r [] cs hb h v a = subst (λ (m : ℕ). Accepted n (record { basics = b; divisions = d; constraints = m }) cs) (add-zero r) a
  accept-constraints b d r (q ∷ rs) cs hb h v a = (
    constraint-fits n d q v.0,
    (
      unfailing (tests_of n (record { basics = b; divisions = d; constraints = r }) (constraint q)) (
        lt→ltb 0 b hb,
        (
          lt→ltb r 48 (omega arith),
          (
            and-make (constant_fits q.kind q.constant) (all coefficient q.axes && all coefficient q.divisions) v.0.constant (and-make (all coefficient q.axes) (all coefficient q.divisions) v.0.axes v.0.divisions),
            (and-make (absent n q.axes) (absent d q.divisions) v.0.axis_absents v.0.division_absents, tt),
          ),
        ),
      ),
      accept-constraints b d (r + 1) rs cs hb (omega arith) v.1 (subst (λ (m : ℕ). Accepted n (record { basics = b; divisions = d; constraints = m }) cs) (shuffle r (length rs)) a),
    ),
  )
    where
      shuffle : (a c : ℕ) → a + suc c ≡ a + 1 + c
      shuffle a c = omega arith

  accept-divisions : (b d : ℕ) (ds : List Division) (cs : List Command) → 0 < b → d + length ds ≤ 8 → All (ValidDivision n) ds
      → Accepted n (record { basics = b; divisions = d + length ds; constraints = 0 }) cs → Accepted n (record { basics = b; divisions = d; constraints = 0 }) (map division ds ++ cs)
  accept-divisions b d [] cs hb h v a = subst (λ (m : ℕ). Accepted n (record { basics = b; divisions = m; constraints = 0 }) cs) (add-zero d) a
  accept-divisions b d (e ∷ ds) cs hb h v a = (
    division-fits n e v.0,
    (
      unfailing (tests_of n (record { basics = b; divisions = d; constraints = 0 }) (division e)) (
        lt→ltb 0 b hb,
        (
          tt,
          (
            lt→ltb d 8 (omega arith),
            (
              v.0.divisor,
              (
                and-make (within (negsuc 999999999) (pos 1000000000) e.constant) (all coefficient e.axes) v.0.constant v.0.axes,
                (v.0.absents, tt),
              ),
            ),
          ),
        ),
      ),
      accept-divisions b (d + 1) ds cs hb (omega arith) v.1 (subst (λ (m : ℕ). Accepted n (record { basics = b; divisions = m; constraints = 0 }) cs) (shuffle d (length ds)) a),
    ),
  )
    where
      shuffle : (a c : ℕ) → a + suc c ≡ a + 1 + c
      shuffle a c = omega arith

  accept-set : (s : Set) (k : Counts) → k.basics + length s ≤ 32 → All (Valid n) s → Accepted n k (commands s)
  accept-set [] k h v = tt
  accept-set (b ∷ s) k h v = (
    tt,
    (
      unfailing (tests_of n k opens) (lt→ltb k.basics 32 (omega arith), tt),
      subst (Accepted n (counted k opens)) (sym (append_assoc (map division b.divisions) (map constraint b.constraints) (commands s)))
          (accept-divisions (k.basics + 1) 0 b.divisions (map constraint b.constraints ++ commands s) (omega arith) (subst (λ (m : ℕ). m ≤ 8) (sym (zero-add (length b.divisions))) v.0.few_divisions) v.0.divisions
          (subst (λ (m : ℕ). Accepted n (record { basics = k.basics + 1; divisions = m; constraints = 0 }) (map constraint b.constraints ++ commands s)) (sym (zero-add (length b.divisions)))
          (accept-constraints (k.basics + 1) (length b.divisions) 0 b.constraints (commands s) (omega arith) (subst (λ (m : ℕ). m ≤ 48) (sym (zero-add (length b.constraints))) v.0.few_constraints) v.0.constraints
          (accept-set s (record { basics = k.basics + 1; divisions = length b.divisions; constraints = 0 + length b.constraints }) (omega arith) v.1)))),
    ),
  )

  -- a valid set decodes from its encoding
  pub valid-decodes : (s : Set) → T (axes_fit n) → length s ≤ 32 → All (Valid n) s → decode n (encode s) ≡ gives s
  valid-decodes s h l v = decode-encode n s h (accept-set s (record { basics = 0; divisions = 0; constraints = 0 }) (subst (λ (m : ℕ). m ≤ 32) (sym (zero-add (length s))) l) v)

-- ---- what was read has its places, and constants of 32 bits

value-4 : (s : List ℕ) → Bytes s → value_of (take 4 s) < 4294967296
value-4 [] p = omega arith
value-4 (a ∷ []) p = let x = p.0 in omega arith
value-4 (a ∷ b ∷ []) p = let x = p.0 in let y = p.1.0 in omega arith
value-4 (a ∷ b ∷ c ∷ []) p = let x = p.0 in let y = p.1.0 in let z = p.1.1.0 in omega arith
value-4 (a ∷ b ∷ c ∷ d ∷ s) p = let x = p.0 in let y = p.1.0 in let z = p.1.1.0 in let w = p.1.1.1.0 in omega arith

value-2 : (s : List ℕ) → Bytes s → value_of (take 2 s) < 65536
value-2 [] p = omega arith
value-2 (a ∷ []) p = let x = p.0 in omega arith
value-2 (a ∷ b ∷ s) p = let x = p.0 in let y = p.1.0 in omega arith

head_small : (b : ℕ) (s : List ℕ) → Bytes s → head_of b s < 65536
head_small b s p = by (has_head b)
  where
    by : (x : Bool) → value_of (take (cond x 3 1 - 1) s) < 65536
    by true = value-2 s p
    by false = omega arith

length-signed : (k : ℕ) (s : List ℕ) → length (signed_list k s) ≡ k
length-signed zero s = refl
length-signed (suc k) s = ap suc (length-signed k (drop 2 s))

abbrev Read : Command → Type 0
Read opens = Unit {0}
Read (division e) = length e.axes ≡ 8
Read misnumbered = Unit {0}
Read (constraint r) = (length r.axes ≡ 8) × (length r.divisions ≡ 8) × Fits 2147483648 r.constant × (r.number < 65536)

read-shape : (b : ℕ) (s : List ℕ) → Bytes s → Read (read_command b s)
read-shape b s p = at (is_opening b) (is_division b) (is_misnumbered b (head_of b s))
  where
    at : (x y z : Bool) → Read (cond x opens (cond y (division (read_division (head_of b s) (body_in b s))) (cond z misnumbered (constraint (numbered (head_of b s) (read_constraint (kind_of b) (body_in b s)))))))
    at true y z = tt
    at false true z = length-signed 8 (drop 4 (body_in b s))
    at false false true = tt
    at false false false = (
      length-signed 8 (drop 4 (body_in b s)),
      length-signed 8 (drop 20 (body_in b s)),
      signed-mag 4 2147483648 (value_of (take 4 (body_in b s))) refl (value-4 (body_in b s) (bytes_drop (body_of b - 1) s p)),
      head_small b s p,
    )

-- read, and not refused where it stands
abbrev Sound : ℕ → Counts → List Command → Type 0
Sound n k [] = Unit {0}
Sound n k (c ∷ cs) = Read c × (refusal n k c ≡ 0) × Sound n (counted k c) cs

sound : (n : ℕ) (k : Counts) (s : List ℕ) (cs : List Command) → Parsed n k s cs → Bytes s → Sound n k cs
sound n k _ _ done p = tt
sound n k _ _ (next b s w l z q) p = (read-shape b s p.1, z, sound n (counted k (read_command b s)) (drop (width_of b - 1) s) _ q (bytes_drop (width_of b - 1) s p.1))

record Made (n : ℕ) (k : Counts) (b : Built) : Type 0 where
  divisions : All (ValidDivision n) b.divisions
  constraints : All (ValidConstraint n (k.divisions + length b.divisions)) b.constraints
  few_divisions : k.divisions ≤ 8 → k.divisions + length b.divisions ≤ 8
  few_constraints : k.constraints ≤ 48 → k.constraints + length b.constraints ≤ 48
  ordered : 0 < k.constraints → b.divisions ≡ []
  rest : All (Valid n) b.rest
  few : k.basics ≤ 32 → k.basics + length b.rest ≤ 32

made : (n : ℕ) (k : Counts) (cs : List Command) → Sound n k cs → Made n k (build cs)
made n k [] u = record { divisions = tt; constraints = tt; few_divisions = λ h. omega arith; few_constraints = λ h. omega arith; ordered = λ h. refl; rest = tt; few = λ h. omega arith }
made n k (opens ∷ cs) u =
    let m = made n (counted k opens) cs u.2 in
    let b : Built = build cs in
    let t = all-passed (tests_of n k opens) tt u.1 in
    let l = ltb→lt k.basics 32 t.0 in
    record {
      divisions = tt;
      constraints = tt;
      few_divisions = λ h. omega arith;
      few_constraints = λ h. omega arith;
      ordered = λ h. refl;
      rest = (
        record {
          few_divisions = let x = m.few_divisions zero-le in omega arith;
          few_constraints = let x = m.few_constraints zero-le in omega arith;
          divisions = m.divisions;
          constraints = subst (λ (d : ℕ). All (ValidConstraint n d) b.constraints) (zero-add (length b.divisions)) m.constraints;
        },
        m.rest,
      );
      few = λ h. let x = m.few (omega arith) in omega arith;
    }
made n k (misnumbered ∷ cs) u = absurd (no-misnumbered n k u.1)
made n k (division e ∷ cs) u =
    let m = made n (counted k (division e)) cs u.2 in
    let b : Built = build cs in
    let t = all-passed (tests_of n k (division e)) tt u.1 in
    let r : k.constraints ≡ 0 = eqb→eq k.constraints 0 t.1.0 in
    let l = ltb→lt k.divisions 8 t.1.1.0 in
    record {
      divisions = (
        record {
          places = u.0;
          divisor = t.1.1.1.0;
          constant = and_left (within (negsuc 999999999) (pos 1000000000) e.constant) (all coefficient e.axes) t.1.1.1.1.0;
          axes = and_right (within (negsuc 999999999) (pos 1000000000) e.constant) (all coefficient e.axes) t.1.1.1.1.0;
          absents = t.1.1.1.1.1.0;
        },
        m.divisions,
      );
      constraints = subst (λ (d : ℕ). All (ValidConstraint n d) b.constraints) (shuffle k.divisions (length b.divisions)) m.constraints;
      few_divisions = λ h. let x = m.few_divisions (omega arith) in omega arith;
      few_constraints = m.few_constraints;
      ordered = λ h. absurd (clash k.constraints h r);
      rest = m.rest;
      few = m.few;
    }
  where
    shuffle : (a b : ℕ) → a + 1 + b ≡ a + suc b
    shuffle a b = omega arith

    clash : (a : ℕ) → 0 < a → a ≡ 0 → ⊥
    clash a h e = omega arith
made n k (constraint r ∷ cs) u =
    let m = made n (counted k (constraint r)) cs u.2 in
    let b : Built = build cs in
    let t = all-passed (tests_of n k (constraint r)) tt u.1 in
    let l = ltb→lt k.constraints 48 t.1.0 in
    let o : b.divisions ≡ [] = m.ordered (more k.constraints) in
    let c₇ = t.1.1.0 in
    let cs₇ = and_right (constant_fits r.kind r.constant) (all coefficient r.axes && all coefficient r.divisions) c₇ in
    let c₈ = t.1.1.1.0 in
    record {
      divisions = m.divisions;
      constraints = (
        record {
          axis_places = u.0.0;
          division_places = u.0.1;
          number = u.0.3;
          width = u.0.2;
          constant = and_left (constant_fits r.kind r.constant) (all coefficient r.axes && all coefficient r.divisions) c₇;
          axes = and_left (all coefficient r.axes) (all coefficient r.divisions) cs₇;
          divisions = and_right (all coefficient r.axes) (all coefficient r.divisions) cs₇;
          axis_absents = and_left (absent n r.axes) (absent k.divisions r.divisions) c₈;
          division_absents = subst (λ (d : ℕ). T (absent d r.divisions)) (same k.divisions (length b.divisions) (ap length o)) (and_right (absent n r.axes) (absent k.divisions r.divisions) c₈);
        },
        m.constraints,
      );
      few_divisions = m.few_divisions;
      few_constraints = λ h. let x = m.few_constraints (omega arith) in omega arith;
      ordered = λ h. o;
      rest = m.rest;
      few = m.few;
    }
  where
    more : (a : ℕ) → 0 < a + 1
    more a = omega arith

    same : (a b : ℕ) → b ≡ 0 → a ≡ a + b
    same a b e = omega arith

pub decode-valid : (n : ℕ) (bs : List ℕ) (s : Set) → Bytes bs → decode n bs ≡ gives s → All (Valid n) s × (length s ≤ 32)
decode-valid n bs s p e =
    let k : Counts = record { basics = 0; divisions = 0; constraints = 0 } in
    let d = decoded n bs s e in
    let m = made n k d.0 (sound n k bs d.0 d.1 p) in
    let x = m.few zero-le in
    (subst (All (Valid n)) d.2 m.rest, subst (λ (t : Set). length t ≤ 32) d.2 (omega arith))

-- the basic sets from a place on
pub boundary-valid : (n : ℕ) (s : List ℕ) (at : ℕ) → Bytes s → Boundary n s at → All (Valid n) (set_from s at)
unfolding built
boundary-valid n s at p b =
    let l : List ℕ = drop at s in
    (made n b.k (commands_of (length l) l) (sound n b.k l (commands_of (length l) l) (accepted-parsed n b.k l b.here.accepted) (bytes_drop at s p))).rest

-- the elements of a slice of bytes are bytes
pub bytes_of : (s : List ℕ) → ((i : ℕ) → get_or s i 0 < 256) → Bytes s
bytes_of [] h = tt
bytes_of (b ∷ s) h = (h 0, bytes_of s (λ i. h (suc i)))
