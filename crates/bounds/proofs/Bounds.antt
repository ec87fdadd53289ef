-- The ends of the values of divisions and constraints, and the loops over those of a basic set.
use mathlib.Core.Path.{◌≡◌, refl, sym, ap, ap₂, ◌∙◌, subst}
use mathlib.Core.Bool.{Bool, true, false, ◌&&◌}
use mathlib.Core.List.{List, [], ◌∷◌, ◌++◌, map, append_assoc, append-nil}
use Prim.Native.Nat.{ℕ, ◌+◌, ◌≤◌, ◌<◌}
use native.Mathlib.Numerals.{add-one}
use native.Mathlib.Omega.{arith}
use lib.Dec.{ltb→lt}
use lib.IntN.{ℤ, pos, negsuc, ◌+ℤ◌, +ℤ_assoc}
use lib.Signed.{non_neg, le_z, ◌<ℤ◌, ◌≤ℤ◌}
use lib.ListN.{length, take, drop, get_or, set, length-set, length-take}
use lib.Seq.{take-suc-set}
use Rattle.integers.specs.Z.{Within}
use Rattle.model.specs.Lists.{all}
use Rattle.model.specs.Sets.{Division, Kind, equality, inequality, Constraint, floor_div}
use Rattle.codec.specs.Bytes.{division, constraint, is_division, is_constraint, Counts, counted, Built}
use Rattle.codec.specs.Places.{built, division_at, constraint_at, next_of, end_of, Checked, opened, Opened, Tail, Past}
use Rattle.codec.proofs.Standing.{DivisionAt, ConstraintAt, division-at, constraint-at, no-division, no-constraint}
use Rattle.bounds.specs.Intervals.{Interval, only, plus, quotient_side, value_side, can_meet, box_of}
use Rattle.bounds.specs.Ends.{AllWithin}
use Rattle.bounds.specs.Ends.{side, best, gain, Ends, Bounded, meet_side}
use Rattle.bounds.specs.Rows.{forms_of, row_forms, Settled}
use Rattle.bounds.proofs.Reading.{set-within, all-mono}
use Rattle.bounds.proofs.Forms.{forms_from, few-forms, Headed, headed}
use Rattle.bounds.proofs.Sides.{from, to, settled-least, settled-greatest}
use Rattle.bounds.proofs.Extremes.{box-ends}

-- ---- ends
pub quotient-ends : (low high : List ℤ) (e : Division)
    → quotient_side (box_of low high) e ≡ side (floor_div (e.constant +ℤ best e.axes low high) e.divisor) (floor_div (e.constant +ℤ best e.axes high low) e.divisor)
quotient-ends low high e = ap (λ (i : Interval). side (floor_div (e.constant +ℤ i.low) e.divisor) (floor_div (e.constant +ℤ i.high) e.divisor)) (box-ends e.axes low high)

pub value-ends : (low high ql qh : List ℤ) (c : Constraint)
    → value_side (box_of low high) (box_of ql qh) c ≡ side (c.constant +ℤ best c.axes low high +ℤ best c.divisions ql qh) (c.constant +ℤ best c.axes high low +ℤ best c.divisions qh ql)
value-ends low high ql qh c =
    ap₂ (λ (i j : Interval). plus (only c.constant) (plus i j)) (box-ends c.axes low high) (box-ends c.divisions ql qh)
    ∙ ap₂ side (sym (+ℤ_assoc c.constant (best c.axes low high) (best c.divisions ql qh))) (sym (+ℤ_assoc c.constant (best c.axes high low) (best c.divisions qh ql)))

-- by the row of a box that differs in one axis
module _ (s : List ℕ) (k : ℕ) (low high r : List ℤ) (g : Settled s k low high r) (e : Ends low high 1048576) (i : ℕ) (h : i < 56) where
  abbrev F : ℤ
  F = from s k low high r g e

  abbrev G : ℤ
  G = to s k low high r g e

  least-is : (cs : List ℤ) → get_or (row_forms s r) i [] ≡ cs → get_or r i (pos 0) +ℤ gain k F G cs ≡ best cs low high
  least-is cs q = subst (λ (x : List ℤ). get_or r i (pos 0) +ℤ gain k F G x ≡ best x low high) q (settled-least s k low high r g e i h)

  greatest-is : (cs : List ℤ) → get_or (row_forms s r) i [] ≡ cs → get_or r (64 + i) (pos 0) +ℤ gain k G F cs ≡ best cs high low
  greatest-is cs q = subst (λ (x : List ℤ). get_or r (64 + i) (pos 0) +ℤ gain k G F x ≡ best x high low) q (settled-greatest s k low high r g e i h)

  pub settled-quotient : (d : Division) → get_or (row_forms s r) i [] ≡ d.axes
      → quotient_side (box_of low high) d ≡ side (floor_div (d.constant +ℤ (get_or r i (pos 0) +ℤ gain k F G d.axes)) d.divisor) (floor_div (d.constant +ℤ (get_or r (64 + i) (pos 0) +ℤ gain k G F d.axes)) d.divisor)
  settled-quotient d q = quotient-ends low high d ∙ ap₂ (λ (y z : ℤ). side (floor_div (d.constant +ℤ y) d.divisor) (floor_div (d.constant +ℤ z) d.divisor)) (sym (least-is d.axes q)) (sym (greatest-is d.axes q))

  pub settled-meets : (ql qh : List ℤ) (c : Constraint) → get_or (row_forms s r) i [] ≡ c.axes → meet_side k F G (get_or r i (pos 0)) (get_or r (64 + i) (pos 0)) ql qh c ≡ value_side (box_of low high) (box_of ql qh) c
  settled-meets ql qh c q =
      ap₂ (λ (y z : ℤ). side (c.constant +ℤ y +ℤ best c.divisions ql qh) (c.constant +ℤ z +ℤ best c.divisions qh ql)) (least-is c.axes q) (greatest-is c.axes q) ∙ sym (value-ends low high ql qh c)

and-false : (b : Bool) → (b && false) ≡ false
and-false true = refl
and-false false = refl

and-true : (b : Bool) → (b && true) ≡ b
and-true true = refl
and-true false = refl

pub meet-never : (k : Kind) (l h : ℤ) → non_neg h ≡ false → false ≡ can_meet k (side l h)
meet-never equality l h e = sym (ap (λ (b : Bool). le_z l (pos 0) && b) e ∙ and-false (le_z l (pos 0)))
meet-never inequality l h e = sym e

pub meet-equality : (l h : ℤ) → non_neg h ≡ true → le_z l (pos 0) ≡ can_meet equality (side l h)
meet-equality l h e = sym (ap (λ (b : Bool). le_z l (pos 0) && b) e ∙ and-true (le_z l (pos 0)))

pub negative : {z : ℤ} → z <ℤ pos 0 → non_neg z ≡ false
negative {z = pos n} h = absurd (omega (arith, ltb→lt n 0 h.lt))
negative {z = negsuc n} h = refl

pub positive : {z : ℤ} → pos 0 ≤ℤ z → non_neg z ≡ true
positive {z = pos n} h = refl
positive {z = negsuc n} h = absurd h.le

pub ends-mono : {u v : List ℤ} {m n : ℕ} → m ≤ n → Ends u v m → Ends u v n
ends-mono h e = record { few = e.few; same = e.same; lows = all-mono h e.lows; highs = all-mono h e.highs }

-- ---- the divisions
box-snoc : (p q : List ℤ) (l h : ℤ) → length p ≡ length q → box_of (p ++ l ∷ []) (q ++ h ∷ []) ≡ box_of p q ++ side l h ∷ []
box-snoc [] [] l h e = refl
box-snoc [] (y ∷ q) l h e = absurd (omega arith)
box-snoc (x ∷ p) [] l h e = absurd (omega arith)
box-snoc (x ∷ p) (y ∷ q) l h e = ap (λ (b : List Interval). side x y ∷ b) (box-snoc p q l h (omega arith))

pub record Bounding (s : List ℕ) (start : ℕ) (xs : List Interval) (at d : ℕ) (low high : List ℤ) : Type 0 where
  pub n : ℕ
  pub k : Counts
  pub here : Checked n s at k
  pub counts : k.divisions ≡ d
  pub few : d ≤ 8
  pub end : end_of s at ≡ end_of s start
  pub lows : length low ≡ 8
  pub highs : length high ≡ 8
  pub low_size : AllWithin 549755813888 low
  pub high_size : AllWithin 549755813888 high
  pub is : box_of (take d low) (take d high) ++ map (quotient_side xs) (built (drop at s)).divisions ≡ map (quotient_side xs) (built (drop start s)).divisions
  pub forms : drop d (forms_from s start) ≡ forms_from s at
  pub total : d + length (built (drop at s)).divisions ≡ length (built (drop start s)).divisions
  pub same : (built (drop at s)).constraints ≡ (built (drop start s)).constraints

pub bounding-start : (s : List ℕ) (start : ℕ) (xs : List Interval) (low high : List ℤ) → Opened s start → length low ≡ 8 → length high ≡ 8 → AllWithin 549755813888 low → AllWithin 549755813888 high → Bounding s start xs start 0 low high
bounding-start s start xs low high o l h v w =
    record {
      n = o.n;
      k = opened o.basics;
      here = o.here;
      counts = refl;
      few = omega arith;
      end = refl;
      lows = l;
      highs = h;
      low_size = v;
      high_size = w;
      is = refl;
      forms = refl;
      total = omega arith;
      same = refl;
    }

module _ (s : List ℕ) (start : ℕ) (xs : List Interval) (at d : ℕ) (low high : List ℤ) (g : Bounding s start xs at d low high) where
  pub bounding-at : is_division (get_or s at 0) ≡ true → DivisionAt g.n s at g.k
  bounding-at e = division-at g.n s at g.k g.here e

  bounding-head : is_division (get_or s at 0) ≡ true → Headed (forms_from s start) d [] (division_at s at).axes (forms_from s (next_of s at))
  bounding-head e = headed (forms_from s start) d [] _ _ (g.forms ∙ ap (λ (u : Built). forms_of u.divisions u.constraints) (bounding-at e).builds)

  pub bounding-form : is_division (get_or s at 0) ≡ true → get_or (forms_from s start) d [] ≡ (division_at s at).axes
  bounding-form e = (bounding-head e).is

  pub bounding-next : is_division (get_or s at 0) ≡ true → (l h : ℤ) → quotient_side xs (division_at s at) ≡ side l h → Within 549755813888 l → Within 549755813888 h
      → Bounding s start xs (next_of s at) (d + 1) (set low d l) (set high d h)
  bounding-next e l h p wl wh =
      let b = bounding-at e in
      let f = b.few in let a = g.counts in let ll = g.lows in let lh = g.highs in let t = g.total in
      let jl : d < length low = omega arith in let jh : d < length high = omega arith in
      let y : map (quotient_side xs) (built (drop at s)).divisions ≡ side l h ∷ map (quotient_side xs) (built (drop (next_of s at) s)).divisions =
      ap (λ (u : Built). map (quotient_side xs) u.divisions) b.builds ∙ ap (λ (i : Interval). i ∷ map (quotient_side xs) (built (drop (next_of s at) s)).divisions) p in
      let z : length (take d low) ≡ length (take d high) = omega (arith, length-take d low, length-take d high) in
      let rest : List Interval = map (quotient_side xs) (built (drop (next_of s at) s)).divisions in
      record {
        n = g.n;
        k = counted g.k (division (division_at s at));
        here = b.there;
        counts = ap (λ (m : ℕ). m + 1) a;
        few = omega arith;
        end = b.end ∙ g.end;
        lows = length-set low d l ∙ ll;
        highs = length-set high d h ∙ lh;
        low_size = set-within 549755813888 low d l g.low_size wl jl;
        high_size = set-within 549755813888 high d h g.high_size wh jh;
        is =
            ap (λ (m : ℕ). box_of (take m (set low d l)) (take m (set high d h)) ++ map (quotient_side xs) (built (drop (next_of s at) s)).divisions) (add-one d)
            ∙ ap₂ (λ (u v : List ℤ). box_of u v ++ map (quotient_side xs) (built (drop (next_of s at) s)).divisions) (take-suc-set low d l jl) (take-suc-set high d h jh)
            ∙ ap (λ (u : List Interval). u ++ map (quotient_side xs) (built (drop (next_of s at) s)).divisions) (box-snoc (take d low) (take d high) l h z)
            ∙ append_assoc (box_of (take d low) (take d high)) (side l h ∷ []) (map (quotient_side xs) (built (drop (next_of s at) s)).divisions)
            ∙ ap (λ (u : List Interval). box_of (take d low) (take d high) ++ u) (sym y) ∙ g.is;
        forms = (bounding-head e).more;
        total = omega (arith, ap (λ (u : Built). length u.divisions) b.builds);
        same = sym (ap (λ (u : Built). u.constraints) b.builds) ∙ g.same;
      }

  pub bounding-end : is_division (get_or s at 0) ≡ false → Bounded s start xs low high (record { count = d; next = at })
  bounding-end e =
      let z = no-division g.n s at g.k g.here e in
      let t = g.total in
      record {
        few = g.few;
        count = omega (arith, ap (λ (l : List Division). length l) z);
        is = sym (append-nil (box_of (take d low) (take d high))) ∙ ap (λ (l : List Division). box_of (take d low) (take d high) ++ map (quotient_side xs) l) (sym z) ∙ g.is;
        lows = g.lows;
        highs = g.highs;
        low_size = g.low_size;
        high_size = g.high_size;
        past = record { there = record { n = g.n; k = g.k; here = g.here; none = z }; same = g.same; end = g.end };
      }

-- ---- the constraints
pub record Opening (s : List ℕ) (start : ℕ) (ok : Constraint → Bool) (at i : ℕ) : Type 0 where
  pub tail : Tail s at
  pub few : length (forms_from s start) ≤ 56
  pub forms : drop i (forms_from s start) ≡ forms_from s at
  pub is : all ok (built (drop at s)).constraints ≡ all ok (built (drop start s)).constraints
  pub part : (p : Constraint → Bool) → all p (built (drop at s)).constraints ≡ false → all p (built (drop start s)).constraints ≡ false

forms-past : (es : List Division) (cs : List Constraint) → drop (length es) (forms_of es cs) ≡ forms_of [] cs
forms-past [] cs = refl
forms-past (e ∷ es) cs = forms-past es cs

pub opening-start : (s : List ℕ) (start next d : ℕ) (ok : Constraint → Bool) → Opened s start → Past s start next → d ≡ length (built (drop start s)).divisions → Opening s start ok next d
opening-start s start next d ok o p q =
    record {
      tail = p.there;
      few = few-forms s start o;
      forms =
          ap (λ (m : ℕ). drop m (forms_from s start)) q ∙ forms-past (built (drop start s)).divisions (built (drop start s)).constraints
          ∙ ap₂ forms_of (sym p.there.none) (sym p.same);
      is = ap (all ok) p.same;
      part = λ q e. ap (all q) (sym p.same) ∙ e;
    }

module _ (s : List ℕ) (start : ℕ) (ok : Constraint → Bool) (at i : ℕ) (g : Opening s start ok at i) where
  pub opening-at : is_constraint (get_or s at 0) ≡ true → ConstraintAt g.tail.n s at g.tail.k
  opening-at e = constraint-at g.tail.n s at g.tail.k g.tail.here e

  module _ (e : is_constraint (get_or s at 0) ≡ true) where
    abbrev c : Constraint
    c = constraint_at s at

    head : Headed (forms_from s start) i [] c.axes (forms_from s (next_of s at))
    head =
        let h = opening-at e in
        headed (forms_from s start) i [] _ _
        (g.forms ∙ ap (λ (u : Built). forms_of u.divisions u.constraints) h.builds ∙ ap (λ (es : List Division). forms_of es (c ∷ (built (drop (next_of s at) s)).constraints)) h.later
        ∙ ap (λ (es : List Division). c.axes ∷ forms_of es (built (drop (next_of s at) s)).constraints) (sym h.later))

    pub opening-form : get_or (forms_from s start) i [] ≡ c.axes
    opening-form = head.is

    pub opening-few : i < 56
    opening-few = let a = g.few in let b = head.inside in omega arith

    step : all ok (built (drop start s)).constraints ≡ (ok c && all ok (built (drop (next_of s at) s)).constraints)
    step = sym g.is ∙ ap (λ (u : Built). all ok u.constraints) (opening-at e).builds

    -- any test that it fails
    pub opening-falls : (p : Constraint → Bool) → p c ≡ false → all p (built (drop start s)).constraints ≡ false
    opening-falls p q = g.part p (ap (λ (u : Built). all p u.constraints) (opening-at e).builds ∙ ap (λ (b : Bool). b && all p (built (drop (next_of s at) s)).constraints) q)

    pub opening-next : ok c ≡ true → Opening s start ok (next_of s at) (i + 1)
    opening-next q =
        let h = opening-at e in
        record {
          tail = record { n = g.tail.n; k = counted g.tail.k (constraint c); here = h.there; none = h.later };
          few = g.few;
          forms = head.more;
          is = ap (λ (b : Bool). b && all ok (built (drop (next_of s at) s)).constraints) (sym q) ∙ sym step;
          part = λ p f. g.part p (ap (λ (u : Built). all p u.constraints) h.builds ∙ ap (λ (b : Bool). p c && b) f ∙ and-false (p c));
        }

  pub opening-end : is_constraint (get_or s at 0) ≡ false → true ≡ all ok (built (drop start s)).constraints
  opening-end e = ap (all ok) (sym (no-constraint g.tail.n s at g.tail.k g.tail.here g.tail.none e)) ∙ g.is
