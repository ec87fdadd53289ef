-- The first tableau of a basic set, and what `dropped` says of it.
use mathlib.Core.Path.{◌≡◌, refl, sym, ap, ap₂, ◌∙◌, subst}
use mathlib.Core.Bool.{Bool, true, false, not}
use mathlib.Core.List.{List, [], ◌∷◌, ◌++◌, map, append-nil, head-eq_of_cons-eq, tail-eq_of_cons-eq}
use mathlib.Core.Option.{none, some}
use Prim.Native.Nat.{ℕ, zero, suc, ◌+◌, ◌≤◌, zero-le}
use native.Mathlib.Nat.{le_of_suc-le-suc, not-suc-le-zero}
use lib.Dec.{T, lt→ltb}
use lib.IntN.{ℤ, pos, ◌+ℤ◌, ◌-ℤ◌, ◌*ℤ◌}
use lib.Signed.{◌<ℤ◌}
use lib.ListN.{length, get_or, length-append, length-map}
use lib.Seq.{get_or-append-add}
use Rattle.integers.specs.Ring.{ring, quote}
use Rattle.model.specs.Lists.{all}
use Rattle.model.specs.Sets.{dot, Constraint, BasicSet, value, holds, conditions, RationalPoint, meets_basic}
use Rattle.feasibility.specs.Tableau.{dropped, Tableau, sort_of, violates, run, pad, from, first_rows, start, test, ends_at, narrow, bound, sorts, begin}
use Rattle.model.proofs.Count.{and_left, and_right, suc_inj, no-suc}
use Rattle.model.proofs.Values.{dot-nil}
use Rattle.feasibility.proofs.Exchange.{Solves, Shaped}
use Rattle.feasibility.proofs.Sizes.{test-128}
use Rattle.feasibility.proofs.Verdicts.{Meets, run-dropped}

-- ---- lists

pub length-pad : (k : ℕ) (zs : List ℤ) → length (pad k zs) ≡ k
length-pad zero zs = refl
length-pad (suc k) [] = ap suc (length-pad k [])
length-pad (suc k) (z ∷ zs) = ap suc (length-pad k zs)

pub length_from : (v k : ℕ) → length (from v k) ≡ k
length_from v zero = refl
length_from v (suc k) = ap suc (length_from (suc v) k)

pub dot-pad : (k : ℕ) (cs xs : List ℤ) → length xs ≤ k → dot (pad k cs) (pad k xs) ≡ dot cs xs
dot-pad zero cs [] h = sym (dot-nil cs)
dot-pad zero cs (x ∷ xs) h = absurd (not-suc-le-zero h)
dot-pad (suc k) [] [] h = ap (λ (z : ℤ). pos 0 +ℤ z) (dot-pad k [] [] zero-le)
dot-pad (suc k) [] (x ∷ xs) h = ap (λ (z : ℤ). pos 0 *ℤ x +ℤ z) (dot-pad k [] xs (le_of_suc-le-suc h)) ∙ ring (x ∷ []) (search quote depth 30) tt
dot-pad (suc k) (c ∷ cs) [] h = ap (λ (z : ℤ). c *ℤ pos 0 +ℤ z) (dot-pad k cs [] zero-le ∙ dot-nil cs) ∙ ring (c ∷ []) (search quote depth 30) tt
dot-pad (suc k) (c ∷ cs) (x ∷ xs) h = ap (λ (z : ℤ). c *ℤ x +ℤ z) (dot-pad k cs xs (le_of_suc-le-suc h))

pub dot-append : (cs ds xs ys : List ℤ) → length cs ≡ length xs → dot (cs ++ ds) (xs ++ ys) ≡ dot cs xs +ℤ dot ds ys
dot-append [] ds [] ys e = ring (dot ds ys ∷ []) (search quote depth 30) tt
dot-append [] ds (x ∷ xs) ys e = no-suc (sym e)
dot-append (c ∷ cs) ds [] ys e = no-suc e
dot-append (c ∷ cs) ds (x ∷ xs) ys e =
    ap (λ (z : ℤ). c *ℤ x +ℤ z) (dot-append cs ds xs ys (suc_inj e)) ∙ ring (c ∷ x ∷ dot cs xs ∷ dot ds ys ∷ []) (search quote depth 30) tt

-- the values of the variables, from a list
abbrev pub read : List ℤ → ℕ → ℤ
read l v = get_or l v (pos 0)

pub shift : (w : ℕ → ℤ) (v k : ℕ) → map w (from (suc v) k) ≡ map (λ (u : ℕ). w (suc u)) (from v k)
shift w v zero = refl
shift w v (suc k) = ap (λ (l : List ℤ). w (suc v) ∷ l) (shift w (suc v) k)

pub read-front : (l m : List ℤ) → map (read (l ++ m)) (from 0 (length l)) ≡ l
read-front [] m = refl
read-front (z ∷ l) m = ap (λ (r : List ℤ). z ∷ r) (shift (read (z ∷ (l ++ m))) 0 (length l) ∙ read-front l m)

pub read_back : (l m : List ℤ) → map (read (l ++ m)) (from (length l) (length m)) ≡ m
read_back [] m = ap (λ (r : List ℤ). map (read r) (from 0 (length m))) (sym (append-nil m)) ∙ read-front m []
read_back (z ∷ l) m = shift (read (z ∷ (l ++ m))) (length l) (length m) ∙ read_back l m

-- ---- the first tableau

pub start-shaped : (k v : ℕ) (rs : List Constraint) → Shaped (length (from 0 (8 + k))) (first_rows k v rs)
start-shaped k v [] = tt
start-shaped k v (r ∷ rs) = (
  record {
    long = ap suc (length-append (pad 8 r.axes) (pad k r.divisions) ∙ ap₂ ◌+◌ (length-pad 8 r.axes) (length-pad k r.divisions) ∙ sym (length_from 0 (8 + k)));
    positive = record { lt = tt };
  },
  start-shaped k (suc v) rs,
)

module _ (D : ℤ) (x q : List ℤ) (k : ℕ) (xlen : length x ≤ 8) (qlen : length q ≤ k) where
  unfoldable pub free : List ℤ
  free = pad 8 x ++ pad k q

  free-length : length free ≡ 8 + k
  unfolding free
  free-length = length-append (pad 8 x) (pad k q) ∙ ap₂ ◌+◌ (length-pad 8 x) (length-pad k q)

  pub row-value : (r : Constraint) → dot (r.constant ∷ pad 8 r.axes ++ pad k r.divisions) (D ∷ free) ≡ value D x q r
  unfolding free
  row-value r =
      ap (λ (z : ℤ). r.constant *ℤ D +ℤ z)
      (dot-append (pad 8 r.axes) (pad k r.divisions) (pad 8 x) (pad k q) (length-pad 8 r.axes ∙ sym (length-pad 8 x))
      ∙ ap₂ ◌+ℤ◌ (dot-pad 8 r.axes x xlen) (dot-pad k r.divisions q qlen))

  rows-hold : (w : ℕ → ℤ) (cols : List ℕ) → map w cols ≡ free → (v : ℕ) (rs : List Constraint) → map w (from v (length rs)) ≡ map (value D x q) rs → Solves w D cols (first_rows k v rs)
  rows-hold w cols f v [] e = tt
  rows-hold w cols f v (r ∷ rs) e = (
    ap₂ (λ (a : ℤ) (l : List ℤ). pos 1 *ℤ a -ℤ dot (r.constant ∷ pad 8 r.axes ++ pad k r.divisions) (D ∷ l)) (head-eq_of_cons-eq e) f
        ∙ ap (λ (z : ℤ). pos 1 *ℤ value D x q r -ℤ z) (row-value r)
        ∙ ring (value D x q r ∷ []) (search quote depth 30) tt,
    rows-hold w cols f (suc v) rs (tail-eq_of_cons-eq e),
  )

  kinds-meet : (rs es : List Constraint) → T (all (holds D x q) rs) → (v : ℕ) → T (not (violates (get_or (map (λ (r : Constraint). some r.kind) rs) v none) (read (map (value D x q) (rs ++ es)) v)))
  kinds-meet [] es t v = tt
  kinds-meet (r ∷ rs) es t zero = twice (holds D x q r) (and_left (holds D x q r) (all (holds D x q) rs) t)
    where
      twice : (b : Bool) → T b → T (not (not b))
      twice true t = tt
      twice false t = t
  kinds-meet (r ∷ rs) es t (suc v) = kinds-meet rs es (and_right (holds D x q r) (all (holds D x q) rs) t) v

  all_meet : (rs es : List Constraint) → T (all (holds D x q) rs) → (m : ℕ) (l : List ℤ) → length l ≡ m → Meets (sort_of m rs) (read (l ++ map (value D x q) (rs ++ es)))
  all_meet rs es t zero [] e v = kinds-meet rs es t v
  all_meet rs es t zero (z ∷ l) e v = no-suc e
  all_meet rs es t (suc m) [] e v = no-suc (sym e)
  all_meet rs es t (suc m) (z ∷ l) e zero = tt
  all_meet rs es t (suc m) (z ∷ l) e (suc v) = all_meet rs es t m l (suc_inj e) v

  -- the variables' values at the point; nothing is asked of the values of es
  module _ (rs es : List Constraint) where
    abbrev pub start-values : ℕ → ℤ
    start-values = read (free ++ map (value D x q) (rs ++ es))

    pub start-meets : T (all (holds D x q) rs) → Meets (sort_of (8 + k) rs) start-values
    start-meets t = all_meet rs es t (8 + k) free free-length

    pub start-solves : Solves start-values D (from 0 (8 + k)) (first_rows k (8 + k) (rs ++ es))
    start-solves =
        rows-hold start-values (from 0 (8 + k)) (ap (λ (m : ℕ). map start-values (from 0 m)) (sym free-length) ∙ read-front free (map (value D x q) (rs ++ es))) (8 + k) (rs ++ es)
        (ap₂ (λ (m n : ℕ). map start-values (from m n)) (sym free-length) (sym (length-map (rs ++ es) (value D x q))) ∙ read_back free (map (value D x q) (rs ++ es)))

    -- the value of the one that follows rs
    pub start-at : (e : Constraint) → es ≡ e ∷ [] → start-values (8 + k + length rs) ≡ value D x q e
    start-at e h =
        ap (λ (m : ℕ). start-values (m + length rs)) (sym free-length) ∙ get_or-append-add free (map (value D x q) (rs ++ es)) (length rs) (pos 0)
        ∙ ap (λ (l : List Constraint). read (map (value D x q) (rs ++ l)) (length rs)) h ∙ last rs
      where
        last : (rs : List Constraint) → read (map (value D x q) (rs ++ (e ∷ []))) (length rs) ≡ value D x q e
        last [] = refl
        last (r ∷ rs) = last rs

    pub start-dropped : (fits : ℕ → Tableau → Bool) (n : ℕ) → pos 0 <ℤ D → T (all (holds D x q) rs) → run fits (sort_of (8 + k) rs) n (start k (rs ++ es)) ≡ dropped → ⊥
    start-dropped fits n hD t e = run-dropped (sort_of (8 + k) rs) start-values (start-meets t) D hD fits n (start k (rs ++ es)) (start-shaped k (8 + k) (rs ++ es)) start-solves e

-- dropped: no point with fractions meets the basic set
pub run-empty : (fits : ℕ → Tableau → Bool) (n : ℕ) (b : BasicSet) → run fits (sorts b) n (begin b) ≡ dropped
    → (p : RationalPoint) → length p.x ≤ 8 → length p.q ≤ length b.divisions → ¬ T (meets_basic p b)
run-empty fits n b e p xlen qlen t =
    start-dropped (pos p.denominator) p.x p.q (length b.divisions) xlen qlen (conditions b) [] fits n (record { lt = lt→ltb 0 p.denominator p.positive }) t
    (subst (λ (l : List Constraint). run fits (sorts b) n (start (length b.divisions) l) ≡ dropped) (sym (append-nil (conditions b))) e)

pub dropped-sound : (b : BasicSet) → test b ≡ dropped
    → (p : RationalPoint) → length p.x ≤ 8 → length p.q ≤ length b.divisions → ¬ T (meets_basic p b)
unfolding ends_at
dropped-sound b e = run-empty (narrow (bound 128)) 200 b (sym (test-128 b) ∙ e)
