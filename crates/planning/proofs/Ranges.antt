-- The numbers of a state: under step 4 at W bits every number of its tableau, and of a row on its way, reduced or not yet, stays within 2 ^ (W − 1) − 1.
use mathlib.Core.Path.{◌≡◌, refl, sym, subst}
use mathlib.Core.Bool.{Bool, true, false, cond}
use mathlib.Core.List.{List, [], ◌∷◌, ◌++◌, map, append_assoc}
use mathlib.Core.Option.{Option, none, some}
use Prim.Native.Nat.{ℕ, ◌+◌, ◌-◌, ◌^◌, ◌≤◌}
use lib.Dec.{T, leb→le}
use lib.IntN.{ℤ, pos, neg_ℤ, ◌*ℤ◌}
use lib.ListN.{length, get_or}
use Rattle.integers.specs.Z.{Within}
use Rattle.integers.specs.Div.{floor-within}
use Rattle.integers.specs.Size.{within-neg}
use Rattle.integers.proofs.BoundedProducts.{products}
use Rattle.model.specs.Sets.{Kind, Division, equality, Constraint, BasicSet, is_zero, floor_div, bounds, conditions}
use Rattle.model.specs.Lists.{All}
use Rattle.model.proofs.Lists.{all_app}
use Rattle.codec.specs.Valid.{Valid}
use Rattle.feasibility.specs.Tableau.{Verdict, point, dropped, long, wide, Row, Tableau, common_divisor, bound, narrow, pad, from, sorts, begin, ends_at}
use Rattle.termination.specs.Unlimited.{in_cols}
use Rattle.model.proofs.Count.{and_left, and_right}
use Rattle.feasibility.proofs.Reached.{reach-keeps}
use Rattle.feasibility.proofs.Verdicts.{some-none}
use Rattle.optimum.proofs.Ranges.{RowWithin, ConstraintWithin, all_set, zero-within, number-at, mapped, bounded-within, combine-within, exchange-within, pad-within, one-within, first-within}
use Rattle.optimum.proofs.Numbers.{conditions-within}
use Rattle.planning.specs.Draft.{Draft, coefficient_of, drafted, numbers_of, lowest_terms, put_in, substituted, row_for, numbers_within, both_within, settled}
use Rattle.planning.specs.State.{State, sort_by, without_rules, begun_at, with_row, with_kind, counted, grown, row_at, goes_on_at, added_at}
use Rattle.planning.specs.Desk.{Desk, Reached}
use Rattle.planning.proofs.Carried.{begun-128, added-128}
use Rattle.planning.proofs.Says.{ruled, Stands, stands-begun, stands-added}
use Rattle.planning.proofs.Reached.{reached-together}

parts : {A : Type 0} (P : A → Type 0) (l m : List A) → All P (l ++ m) → All P l × All P m
parts P [] m h = (tt, h)
parts P (a ∷ l) m h = let p = parts P l m h.1 in ((h.0, p.0), p.1)

module _ (W : ℕ) (two : 2 ≤ W) where
  abbrev pub limit : ℕ
  limit = 2 ^ (W - 1) - 1

  -- ---- a row on its way

  abbrev DraftWithin : Draft → Type 0
  DraftWithin d = All (Within limit) (numbers_of d)

  lowest-within : (d : Draft) → DraftWithin d → DraftWithin (lowest_terms d)
  lowest-within d h =
      let g : ℕ = common_divisor (numbers_of d) in
      let p = parts (Within limit) d.nums d.waiting h.1 in
      let f : (z : ℤ) → Within limit z → Within limit (floor_div z g) = λ z k. floor-within g k in (
        f d.den h.0,
        all_app (Within limit) (map (λ (z : ℤ). floor_div z g) d.nums) (map (λ (z : ℤ). floor_div z g) d.waiting) (mapped limit (λ (z : ℤ). floor_div z g) f d.nums p.0) (mapped limit (λ (z : ℤ). floor_div z g) f d.waiting p.1),
      )

  times-within : (p : ℤ) → Within (bound W) p → (zs : List ℤ) → All (Within (bound W)) zs → All (Within limit) (map (λ (z : ℤ). p *ℤ z) zs)
  times-within p hp [] h = tt
  times-within p hp (z ∷ zs) h = ((products W two hp h.0 hp h.0).left, times-within p hp zs h.1)

  -- a replacement before it is reduced
  pub put-within : (v : ℕ) (r : Row) (d : Draft) → T (both_within (bound W) d r) → DraftWithin (put_in v r d)
  put-within v r d t =
      let a : Bool = numbers_within (bound W) (numbers_of d) in
      let b : Bool = numbers_within (bound W) (r.den ∷ r.nums) in
      let n = bounded-within (bound W) (numbers_of d) (and_left a b t) in
      let k = bounded-within (bound W) (r.den ∷ r.nums) (and_right a b t) in
      let p = parts (Within (bound W)) d.nums d.waiting n.1 in (
        (products W two k.0 n.0 k.0 n.0).left,
        all_app (Within limit) (put_in v r d).nums (put_in v r d).waiting
            (combine-within W two r.den (neg_ℤ (get_or d.waiting v (pos 0))) d.nums r.nums k.0 (within-neg (number-at (bound W) d.waiting v p.1)) p.0 k.1)
            (all_set (Within limit) (map (λ (z : ℤ). r.den *ℤ z) d.waiting) v (pos 0) (times-within r.den k.0 d.waiting p.1) (zero-within limit)),
      )

  same_some : {A : Type 0} {a b : A} → some a ≡ some b → a ≡ b
  same_some e = cc

  settled-within : (rows : List Row) (vs : List ℕ) (d e : Draft) → DraftWithin d → settled (bound W) rows vs d ≡ some e → DraftWithin e
  unfolding settled
  settled-within rows [] d e h q = subst DraftWithin (same_some q) h
  settled-within rows (v ∷ vs) d e h q = at (is_zero (get_or d.waiting v (pos 0))) q (settled-within rows vs)
    where
      Rest : Type 0
      Rest = (c e : Draft) → DraftWithin c → settled (bound W) rows vs c ≡ some e → DraftWithin e

      next : Draft
      next = substituted v (row_for rows v) d

      on : (c : Bool) → both_within (bound W) d (row_for rows v) ≡ c → elim c as (λ (c : Bool). Option Draft) [ false ↦ none | true ↦ settled (bound W) rows vs next ] ≡ some e → Rest → DraftWithin e
      on false z q ih = some-none (sym q)
      on true z q ih = ih next e (lowest-within (put_in v (row_for rows v) d) (put-within v (row_for rows v) d (subst T (sym z) tt))) q

      at : (c : Bool) → elim c as (λ (c : Bool). Option Draft) [ true ↦ settled (bound W) rows vs d | false ↦ elim (both_within (bound W) d (row_for rows v)) as (λ (c : Bool). Option Draft) [ false ↦ none | true ↦ settled (bound W) rows vs next ] ] ≡ some e
          → Rest → DraftWithin e
      at true q ih = ih d e h q
      at false q ih = on (both_within (bound W) d (row_for rows v)) refl q ih

  drafted-within : (k : ℕ) (t : Tableau) (r : Constraint) → ConstraintWithin limit r → DraftWithin (drafted k t r)
  drafted-within k t r h = (one-within W two, (h.0, all_app (Within limit) (map (coefficient_of k r) t.cols) (drafted k t r).waiting (each t.cols) (masked (from 0 (8 + k)))))
    where
      own : (v : ℕ) → Within limit (coefficient_of k r v)
      own v =
          number-at limit (pad 8 r.axes ++ pad k r.divisions) v
          (all_app (Within limit) (pad 8 r.axes) (pad k r.divisions) (pad-within W two 8 r.axes h.1) (pad-within W two k r.divisions h.2))

      each : (vs : List ℕ) → All (Within limit) (map (coefficient_of k r) vs)
      each [] = tt
      each (v ∷ vs) = (own v, each vs)

      mask : (v : ℕ) (b : Bool) → Within limit (cond b (pos 0) (coefficient_of k r v))
      mask v true = zero-within limit
      mask v false = own v

      masked : (vs : List ℕ) → All (Within limit) (map (λ (v : ℕ). cond (in_cols t v) (pos 0) (coefficient_of k r v)) vs)
      masked [] = tt
      masked (v ∷ vs) = (mask v (in_cols t v), masked vs)

  -- ---- a state

  abbrev pub StateWithin : State → Type 0
  StateWithin s = All (RowWithin limit) s.tableau.rows

  reach-within : (sort : ℕ → Option Kind) (t : Tableau) → All (RowWithin limit) t.rows → All (RowWithin limit) (goes_on_at W sort t).tableau.rows
  reach-within sort t h = reach-keeps (narrow (bound W)) sort (λ t. All (RowWithin limit) t.rows) (λ i j t turn fits k. exchange-within W two i j t turn.pivots fits k) 200 t h

  pub begun-within : (n : ℕ) (ds : List Division) → All (ConstraintWithin limit) (conditions (without_rules ds)) → StateWithin (begun_at W n ds)
  unfolding begun_at ends_at
  begun-within n ds h = reach-within (sorts (without_rules ds)) (begin (without_rules ds)) (first-within W two (length ds) (8 + length ds) (conditions (without_rules ds)) h)

  pub added-within : (s : State) (r : Constraint) → ConstraintWithin limit r → StateWithin s → StateWithin (added_at W s r)
  unfolding added_at
  added-within s r k h = at s.says
    where
      on : (o : Option Draft) → row_at W s r ≡ o → StateWithin (grown (goes_on_at W) s r o)
      on none q = h
      on (some e) q =
          let f = settled-within s.tableau.rows (from 0 (8 + s.divisions)) (drafted s.divisions s.tableau r) e (drafted-within s.divisions s.tableau r k) q in
          reach-within (sort_by (with_kind s r)) (with_row s e) (all_app (RowWithin limit) s.tableau.rows _ h ((f.0, (parts (Within limit) e.nums e.waiting f.1).0), tt))

      at : (v : Verdict) → StateWithin (elim v as (λ (v : Verdict). State) [ point ↦ grown (goes_on_at W) s r (row_at W s r) | dropped ↦ counted s | long ↦ counted s | wide ↦ counted s ])
      at point = on (row_at W s r) refl
      at dropped = h
      at long = h
      at wide = h

-- ---- as it is, at 128 bits

pub two : 2 ≤ 128
two = leb→le 2 128 tt

stands-within : (b : BasicSet) (s : State) → Stands b s → All (ConstraintWithin (2 ^ 127 - 1)) (conditions b) → All (RowWithin (2 ^ 127 - 1)) s.tableau.rows
stands-within _ _ (stands-begun n ds) h = subst (StateWithin 128 two) (sym (begun-128 n ds)) (begun-within 128 two n ds h)
stands-within _ _ (stands-added {ds} {rs} {s} t r) h =
    let p = parts (ConstraintWithin (2 ^ 127 - 1)) (bounds 0 ds ++ rs) (r ∷ []) (subst (All (ConstraintWithin (2 ^ 127 - 1))) (sym (append_assoc (bounds 0 ds) rs (r ∷ []))) h) in
    subst (StateWithin 128 two) (sym (added-128 s r)) (added-within 128 two s r p.1.0 (stands-within (ruled ds rs) s t p.0))

-- "numbers of 128 bits", and not the least of them: of every state that is reached with rules and divisions of the widths that a set has
pub reached-within : {b : Desk BasicSet} {d : Desk State} → Reached b d → Valid d.now.axes b.now → All (RowWithin (2 ^ 127 - 1)) d.now.tableau.rows
reached-within {b} {d} h v =
    stands-within b.now d.now (reached-together h).now.stands
    (parts (ConstraintWithin (2 ^ 127 - 1)) (conditions b.now) (nothing ∷ [])
    (conditions-within d.now.axes b.now nothing v (leb→le 1 2147483648 tt) tt tt (2 ^ 127 - 1) (leb→le 2147483648 (2 ^ 127 - 1) tt))).0
  where
    nothing : Constraint
    nothing = record { kind = equality; number = 0; constant = pos 0; axes = []; divisions = [] }
