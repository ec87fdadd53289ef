-- The loop that moves each end of a row, and a row whose box follows another in one side.
use mathlib.Core.Path.{◌≡◌, refl, sym, ap, ap₂, ◌∙◌, subst}
use mathlib.Core.Bool.{Bool, true, false}
use mathlib.Core.List.{List, [], ◌∷◌}
use Prim.Native.Nat.{ℕ, zero, suc, ◌+◌, ◌≤◌, ◌<◌}
use native.Mathlib.Omega.{arith}
use lib.Dec.{ltb, eqb}
use lib.IntN.{ℤ, pos, nat_abs, ◌+ℤ◌, ◌-ℤ◌}
use lib.ListN.{length, take, drop, get_or, set, length-set, length-drop, get_or-eq_default}
use lib.Seq.{get_or-set_same, get_or-set_other}
use borrow.Author.Tests.{eqb-true, eqb-false, ltb-true, ltb-false}
use Rattle.integers.specs.Z.{Within}
use Rattle.integers.specs.Ring.{ring, quote}
use Rattle.codec.specs.Bytes.{goes_on, axes_in, Counts}
use Rattle.codec.specs.Places.{basic_at, body_at, next_of, Checked, opened, Opened}
use Rattle.bounds.specs.Ends.{best, gain}
use Rattle.bounds.specs.Rows.{start_of, row_forms, lows_of, highs_of, Loose, Row, Shifted}
use Rattle.bounds.proofs.Reading.{by}
use Rattle.bounds.proofs.Forms.{forms_from, few-forms, Headed, headed, FormAt, form-at, form-end}
use Rattle.bounds.proofs.Sides.{side-at, side-length, best-moved}

-- ---- the loop over the forms
pub record Shifting (s : List ℕ) (j : ℕ) (from to : ℤ) (r₀ r : List ℤ) (at i : ℕ) : Type 0 where
  pub n : ℕ
  pub k : Counts
  pub here : Checked n s at k
  pub few : length (row_forms s r₀) ≤ 56
  pub inside : i ≤ length (row_forms s r₀)
  pub forms : drop i (row_forms s r₀) ≡ forms_from s at
  pub is : Shifted (row_forms s r₀) j from to i r₀ r

pub shifting-start : (s : List ℕ) (j : ℕ) (from to : ℤ) (r : List ℤ) → Opened s (start_of r) → Shifting s j from to r r (start_of r) 0
shifting-start s j from to r o =
    record {
      n = o.n;
      k = opened o.basics;
      here = o.here;
      few = few-forms s (start_of r) o;
      inside = omega arith;
      forms = refl;
      is = record { places = refl; least = λ i h. absurd (omega arith); greatest = λ i h. absurd (omega arith); kept = λ x h k. refl };
    }

no-gain : (k : ℕ) (z f t : ℤ) → z ≡ z +ℤ gain k f t []
no-gain zero z f t = ring (z ∷ f ∷ []) (search quote depth 30) tt
no-gain (suc k) z f t = ring (z ∷ f ∷ []) (search quote depth 30) tt

module _ (s : List ℕ) (j : ℕ) (from to : ℤ) (r₀ r : List ℤ) (at i : ℕ) (g : Shifting s j from to r₀ r at i) where
  pub shifting-at : goes_on (get_or s at 0) ≡ true → FormAt g.n s at g.k
  shifting-at h = form-at g.n s at g.k g.here h

  shifting-head : (h : goes_on (get_or s at 0) ≡ true) → Headed (row_forms s r₀) i [] (axes_in (body_at s at)) (forms_from s (next_of s at))
  shifting-head h = headed (row_forms s r₀) i [] _ _ (g.forms ∙ (shifting-at h).forms)

  pub shifting-few : goes_on (get_or s at 0) ≡ true → i < 56
  shifting-few h = let f = g.few in let c = (shifting-head h).inside in omega arith

  -- the ends to be moved are those that the row came with
  pub shifting-sizes : Loose s r₀ → goes_on (get_or s at 0) ≡ true → Within 274877906944 (get_or r i (pos 0)) × Within 274877906944 (get_or r (64 + i) (pos 0))
  shifting-sizes o h =
      let f = shifting-few h in (
        subst (Within 274877906944) (sym (g.is.kept i (λ q. omega arith) (λ q. omega arith))) (o.least i f),
        subst (Within 274877906944) (sym (g.is.kept (64 + i) (λ q. omega arith) (λ q. omega arith))) (o.greatest i f),
      )

  module _ (h : goes_on (get_or s at 0) ≡ true) (l : length r ≡ 129) (a b : ℤ)
      (ea : a ≡ get_or r i (pos 0) +ℤ gain j from to (axes_in (body_at s at))) (eb : b ≡ get_or r (64 + i) (pos 0) +ℤ gain j to from (axes_in (body_at s at))) where
    abbrev next : List ℤ
    next = set (set r i a) (64 + i) b

    form : get_or (row_forms s r₀) i [] ≡ axes_in (body_at s at)
    form = (shifting-head h).is

    other : (x : ℕ) → (x ≡ i → ⊥) → (x ≡ 64 + i → ⊥) → get_or next x (pos 0) ≡ get_or r x (pos 0)
    other x u v = get_or-set_other (set r i a) (64 + i) x b (pos 0) v ∙ get_or-set_other r i x a (pos 0) u

    least-now : get_or next i (pos 0) ≡ get_or r₀ i (pos 0) +ℤ gain j from to (get_or (row_forms s r₀) i [])
    least-now =
        let f = shifting-few h in
        get_or-set_other (set r i a) (64 + i) i b (pos 0) (λ q. omega arith) ∙ get_or-set_same r i a (pos 0) (omega arith) ∙ ea
        ∙ ap₂ (λ (z : ℤ) (cs : List ℤ). z +ℤ gain j from to cs) (g.is.kept i (λ q. omega arith) (λ q. omega arith)) (sym form)

    greatest-now : get_or next (64 + i) (pos 0) ≡ get_or r₀ (64 + i) (pos 0) +ℤ gain j to from (get_or (row_forms s r₀) i [])
    greatest-now =
        let f = shifting-few h in
        get_or-set_same (set r i a) (64 + i) b (pos 0) (let z = length-set r i a in omega arith) ∙ eb
        ∙ ap₂ (λ (z : ℤ) (cs : List ℤ). z +ℤ gain j to from cs) (g.is.kept (64 + i) (λ q. omega arith) (λ q. omega arith)) (sym form)

    pub shifting-next : Shifting s j from to r₀ next (next_of s at) (i + 1)
    shifting-next =
        let f = shifting-at h in let m = shifting-few h in
        record {
          n = g.n;
          k = f.k';
          here = f.there;
          few = g.few;
          inside = let c = (shifting-head h).inside in omega arith;
          forms = (shifting-head h).more;
          is = record {
            places = length-set (set r i a) (64 + i) b ∙ length-set r i a ∙ g.is.places;
            least = λ x q. by (λ (y : Bool). get_or next x (pos 0) ≡ get_or r₀ x (pos 0) +ℤ gain j from to (get_or (row_forms s r₀) x [])) (eqb x i)
                (λ z. subst (λ (x : ℕ). get_or next x (pos 0) ≡ get_or r₀ x (pos 0) +ℤ gain j from to (get_or (row_forms s r₀) x [])) (sym (eqb-true x i z)) least-now)
                (λ z. let y = eqb-false x i z in other x y (λ o. omega arith) ∙ g.is.least x (below x i q y));
            greatest = λ x q. by (λ (y : Bool). get_or next (64 + x) (pos 0) ≡ get_or r₀ (64 + x) (pos 0) +ℤ gain j to from (get_or (row_forms s r₀) x [])) (eqb x i)
                (λ z. subst (λ (x : ℕ). get_or next (64 + x) (pos 0) ≡ get_or r₀ (64 + x) (pos 0) +ℤ gain j to from (get_or (row_forms s r₀) x [])) (sym (eqb-true x i z)) greatest-now)
                (λ z. let y = eqb-false x i z in other (64 + x) (λ o. omega arith) (λ o. y (omega arith)) ∙ g.is.greatest x (below x i q y));
            kept = λ x u v. other x (λ o. past x u v o) (λ o. past' x u v o) ∙ g.is.kept x (λ o. let a = u o in omega arith) (λ o. let a = v o in omega arith);
          };
        }
      where
        below : (x i : ℕ) → x < i + 1 → (x ≡ i → ⊥) → x < i
        below x i q y = by (λ (b : Bool). x < i) (ltb x i) (λ e. ltb-true x i e) (λ e. absurd (y (let l = ltb-false x i e in omega arith)))

        past : (x : ℕ) → (x < 64 → i + 1 ≤ x) → (64 ≤ x → 64 + (i + 1) ≤ x) → x ≡ i → ⊥
        past x u v o = let m = shifting-few h in let a = u (omega arith) in omega arith

        past' : (x : ℕ) → (x < 64 → i + 1 ≤ x) → (64 ≤ x → 64 + (i + 1) ≤ x) → x ≡ 64 + i → ⊥
        past' x u v o = let a = v (omega arith) in omega arith

  -- no form is left: those that are not there gain nothing
  pub shifting-end : goes_on (get_or s at 0) ≡ false → Shifted (row_forms s r₀) j from to 56 r₀ r
  shifting-end h = record {
    places = g.is.places;
    least = λ x q. by (λ (y : Bool). get_or r x (pos 0) ≡ get_or r₀ x (pos 0) +ℤ gain j from to (get_or (row_forms s r₀) x [])) (ltb x i)
        (λ z. g.is.least x (ltb-true x i z))
        (λ z. let y = ltb-false x i z in g.is.kept x (λ o. y) (λ o. absurd (omega arith)) ∙ no-gain j (get_or r₀ x (pos 0)) from to ∙ ap (λ (cs : List ℤ). get_or r₀ x (pos 0) +ℤ gain j from to cs) (sym (none x y)));
    greatest = λ x q. by (λ (y : Bool). get_or r (64 + x) (pos 0) ≡ get_or r₀ (64 + x) (pos 0) +ℤ gain j to from (get_or (row_forms s r₀) x [])) (ltb x i)
        (λ z. g.is.greatest x (ltb-true x i z))
        (λ z. let y = ltb-false x i z in g.is.kept (64 + x) (λ o. absurd (omega arith)) (λ o. omega arith) ∙ no-gain j (get_or r₀ (64 + x) (pos 0)) to from ∙ ap (λ (cs : List ℤ). get_or r₀ (64 + x) (pos 0) +ℤ gain j to from cs) (sym (none x y)));
    kept = λ x u v. g.is.kept x (λ o. let a = u o in most x a) (λ o. let a = v o in most' x a);
  }
    where
      most : (x : ℕ) → 56 ≤ x → i ≤ x
      most x a = let f = g.few in let c = g.inside in omega arith

      most' : (x : ℕ) → 64 + 56 ≤ x → 64 + i ≤ x
      most' x a = let f = g.few in let c = g.inside in omega arith

      long : length (row_forms s r₀) ≤ i
      long = omega (arith, length-drop i (row_forms s r₀), ap length (g.forms ∙ form-end g.n s at g.k g.here h))

      none : (x : ℕ) → i ≤ x → get_or (row_forms s r₀) x [] ≡ []
      none x y = let l = long in get_or-eq_default (row_forms s r₀) [] (let z : length (row_forms s r₀) ≤ x = omega arith in z)

-- ---- a row whose box moves in the side of axis j
module _ (s : List ℕ) (n j : ℕ) (f t : ℤ) (r₀ r : List ℤ) (g : Row s n r₀) (o : n ≤ 8) (h : j < n) (l : length r ≡ 129) (p : get_or r 128 (pos 0) ≡ get_or r₀ 128 (pos 0))
    (el : f ≡ get_or r (56 + j) (pos 0) -ℤ get_or r₀ (56 + j) (pos 0)) (eh : t ≡ get_or r (120 + j) (pos 0) -ℤ get_or r₀ (120 + j) (pos 0))
    (low_size : Within 1048576 (get_or r (56 + j) (pos 0))) (high_size : Within 1048576 (get_or r (120 + j) (pos 0)))
    (lows : (i : ℕ) → i < 8 → (i ≡ j → ⊥) → get_or r (56 + i) (pos 0) ≡ get_or r₀ (56 + i) (pos 0)) (highs : (i : ℕ) → i < 8 → (i ≡ j → ⊥) → get_or r (120 + i) (pos 0) ≡ get_or r₀ (120 + i) (pos 0))
    (least : (i : ℕ) → i < 56 → get_or r i (pos 0) ≡ get_or r₀ i (pos 0) +ℤ gain j f t (get_or (row_forms s r₀) i []))
    (greatest : (i : ℕ) → i < 56 → get_or r (64 + i) (pos 0) ≡ get_or r₀ (64 + i) (pos 0) +ℤ gain j t f (get_or (row_forms s r₀) i [])) where
  place_same : start_of r₀ ≡ start_of r
  place_same = ap nat_abs (sym p)

  forms-same : row_forms s r₀ ≡ row_forms s r
  forms-same = ap (λ (m : ℕ). Rattle.bounds.specs.Rows.forms_of (basic_at s m).divisions (basic_at s m).constraints) place_same

  sized : (q : ℕ) → Within 1048576 (get_or r (q + j) (pos 0)) → ((i : ℕ) → i < 8 → Within 1048576 (get_or r₀ (q + i) (pos 0))) → ((i : ℕ) → i < 8 → (i ≡ j → ⊥) → get_or r (q + i) (pos 0) ≡ get_or r₀ (q + i) (pos 0))
      → (i : ℕ) → i < 8 → Within 1048576 (get_or r (q + i) (pos 0))
  sized q w v e i k =
      by (λ (b : Bool). Within 1048576 (get_or r (q + i) (pos 0))) (eqb i j) (λ z. subst (λ (x : ℕ). Within 1048576 (get_or r (q + x) (pos 0))) (sym (eqb-true i j z)) w) (λ z. subst (Within 1048576) (sym (e i k (eqb-false i j z))) (v i k))

  -- the sides of the row before, as those after it
  back : (q : ℕ) → ((i : ℕ) → i < 8 → (i ≡ j → ⊥) → get_or r (q + i) (pos 0) ≡ get_or r₀ (q + i) (pos 0)) → (i : ℕ) → i < n → (i ≡ j → ⊥) → get_or r₀ (q + i) (pos 0) ≡ get_or (take n (drop q r)) i (pos 0)
  back q e i k z = sym (side-at n q r i k ∙ e i (omega arith) z)

  moved : (q : ℕ) (y : ℤ) → y ≡ get_or r (q + j) (pos 0) -ℤ get_or r₀ (q + j) (pos 0) → y ≡ get_or (take n (drop q r)) j (pos 0) -ℤ get_or r₀ (q + j) (pos 0)
  moved q y e = e ∙ ap (λ (z : ℤ). z -ℤ get_or r₀ (q + j) (pos 0)) (sym (side-at n q r j h))

  ends : (q u : ℕ) → q + 8 ≤ 129 → u + 8 ≤ 129 → (a b : ℤ) → a ≡ get_or r (q + j) (pos 0) -ℤ get_or r₀ (q + j) (pos 0) → b ≡ get_or r (u + j) (pos 0) -ℤ get_or r₀ (u + j) (pos 0)
      → ((i : ℕ) → i < 8 → (i ≡ j → ⊥) → get_or r (q + i) (pos 0) ≡ get_or r₀ (q + i) (pos 0)) → ((i : ℕ) → i < 8 → (i ≡ j → ⊥) → get_or r (u + i) (pos 0) ≡ get_or r₀ (u + i) (pos 0))
      → (cs : List ℤ) → best cs (take n (drop q r₀)) (take n (drop u r₀)) +ℤ gain j a b cs ≡ best cs (take n (drop q r)) (take n (drop u r))
  ends q u lq lu a b ea eb x y cs =
      let m = g.places in
      ap₂ (λ (v w : ℤ). best cs (take n (drop q r₀)) (take n (drop u r₀)) +ℤ gain j v w cs) (moved q a ea) (moved u b eb)
      ∙ best-moved n q u r₀ (take n (drop q r)) (take n (drop u r)) j cs (omega arith) (omega arith) (side-length n q r (omega arith)) (side-length n u r (omega arith)) h (back q x) (back u y)

  pub row_moved : Row s n r
  row_moved = record {
    places = l;
    place = p ∙ g.place ∙ ap pos place_same;
    opened = subst (Opened s) place_same g.opened;
    lows = sized 56 low_size g.lows lows;
    highs = sized 120 high_size g.highs highs;
    least = λ i k. least i k ∙ ap (λ (z : ℤ). z +ℤ gain j f t (get_or (row_forms s r₀) i [])) (g.least i k) ∙ ends 56 120 (omega arith) (omega arith) f t el eh lows highs (get_or (row_forms s r₀) i [])
        ∙ ap (λ (m : List (List ℤ)). best (get_or m i []) (lows_of n r) (highs_of n r)) forms-same;
    greatest = λ i k. greatest i k ∙ ap (λ (z : ℤ). z +ℤ gain j t f (get_or (row_forms s r₀) i [])) (g.greatest i k) ∙ ends 120 56 (omega arith) (omega arith) t f eh el highs lows (get_or (row_forms s r₀) i [])
        ∙ ap (λ (m : List (List ℤ)). best (get_or m i []) (highs_of n r) (lows_of n r)) forms-same;
  }
