-- One row more, numbered last: its test begins with the pivots of the others' test. Assumes nothing.
use mathlib.Core.Path.{◌≡◌, refl, sym, ap, ap₂, ◌∙◌, subst, subst₂}
use mathlib.Core.Bool.{Bool, true, false, cond}
use mathlib.Core.List.{List, [], ◌∷◌, ◌++◌, map}
use Prim.Native.Nat.{ℕ, zero, suc, ◌+◌, ◌-◌, ◌≤◌, ◌<◌}
use native.Mathlib.Nat.{add-zero, add-suc, suc-add}
use native.Mathlib.Omega.{arith}
use borrow.Author.Tests.{ltb-true, lt-ltb, leb-true, leb-false}
use lib.Dec.{T, leb, ltb}
use lib.ListN.{length, get_or, set, length-set, length-append, length-map, get_or-append}
use lib.Seq.{get_or-append_seam, set-append_left, get_or-set_same}
use lib.IntN.{ℤ, pos}
use Rattle.simplex.specs.declared.Verdict.{Verdict}
use Rattle.simplex.specs.declared.Verdict.TheVariants.{Point, Dropped, Long, Wide}
use Rattle.simplex.specs.declared.Move.TheVariants.{Stop, Pivot}
use Rattle.tableau.specs.Rows.{solve_row, exchange_rows, exchange_by, first, violated_by, violated_at, violated, helps_by, helps_at, helping, narrow_row, narrow_rows, narrow_rows_at}
use Rattle.simplex.specs.Table.{move_of, pivot_rows, pivot_place, Fine, Crossing}
use Rattle.simplex.proofs.Moves.{choose-point, choose-dropped, choose-long, choose-last, row-spot, crossing, pivot-fine, rows-length}
use Rattle.sharing.specs.Past.{put, through, brought}
use Rattle.sharing.specs.Trace.{Traced, prefixed, leaves, trace}
use Rattle.sharing.proofs.Going.{trace-stop, trace-more}

-- ---- the first of which p holds, with one more number to look at

first-ext : (p q : ℕ → Bool) (n v : ℕ) → ((k : ℕ) → k < v + n → p k ≡ q k) → first p n v ≡ first q n v
unfolding first
first-ext p q zero v h = refl
first-ext p q (suc n) v h = ap₂ (λ b r. cond b v r) (h v (omega arith)) (first-ext p q n (suc v) (λ k l. h k (omega arith)))

first-longer : (p : ℕ → Bool) (n v : ℕ) → first p n v < v + n → first p (suc n) v ≡ first p n v
unfolding first
first-longer p zero v h = absurd (omega arith)
first-longer p (suc n) v h = at (p v) (first-longer p n (suc v)) h
  where
    at : (b : Bool) → (first p n (suc v) < suc v + n → first p (suc n) (suc v) ≡ first p n (suc v)) → cond b v (first p n (suc v)) < v + suc n
        → cond b v (first p (suc n) (suc v)) ≡ cond b v (first p n (suc v))
    at true ih h = refl
    at false ih h = ih (omega arith)

first-none : (p : ℕ → Bool) (n v : ℕ) → v + n ≤ first p n v → p (v + n) ≡ false → v + suc n ≤ first p (suc n) v
unfolding first
first-none p zero v h e = subst (λ b. v + 1 ≤ cond b v (suc v)) (sym (ap p (sym (add-zero v)) ∙ e)) (omega arith)
first-none p (suc n) v h e = at (p v) (λ l. first-none p n (suc v) l (ap p (suc-add v n ∙ sym (add-suc v n)) ∙ e)) h
  where
    at : (b : Bool) → (suc v + n ≤ first p n (suc v) → suc v + suc n ≤ first p (suc n) (suc v)) → v + suc n ≤ cond b v (first p n (suc v)) → v + suc (suc n) ≤ cond b v (first p (suc n) (suc v))
    at true ih h = absurd (omega arith)
    at false ih h = let k = ih (omega arith) in omega arith

first-at : (p : ℕ → Bool) (n v : ℕ) → v + n ≤ first p n v → p (v + n) ≡ true → first p (suc n) v ≡ v + n
unfolding first
first-at p zero v h e = ap (λ b. cond b v (suc v)) (ap p (sym (add-zero v)) ∙ e) ∙ sym (add-zero v)
first-at p (suc n) v h e = at (p v) (λ l. first-at p n (suc v) l (ap p (suc-add v n ∙ sym (add-suc v n)) ∙ e)) h
  where
    at : (b : Bool) → (suc v + n ≤ first p n (suc v) → first p (suc n) (suc v) ≡ suc v + n) → v + suc n ≤ cond b v (first p n (suc v)) → cond b v (first p (suc n) (suc v)) ≡ v + suc n
    at true ih h = absurd (omega arith)
    at false ih h = let k = ih (omega arith) in omega arith

-- ---- lists with one more at the end

map_snoc : (f : List ℤ → List ℤ) (l : List (List ℤ)) (a : List ℤ) → map f (l ++ (a ∷ [])) ≡ map f l ++ (f a ∷ [])
map_snoc f [] a = refl
map_snoc f (x ∷ l) a = ap (λ (r : List (List ℤ)). f x ∷ r) (map_snoc f l a)

narrow-snoc : (j : ℕ) (t : List (List ℤ)) (s : List ℤ) → narrow_rows j (t ++ (s ∷ [])) ≡ cond (narrow_rows j t) (narrow_row j s) false
unfolding narrow_rows_at
narrow-snoc j [] s = at (narrow_row j s)
  where
    at : (b : Bool) → cond b true false ≡ b
    at true = refl
    at false = refl
narrow-snoc j (r ∷ t) s = ap (λ b. cond (narrow_row j r) b false) (narrow-snoc j t s) ∙ at (narrow_row j r)
  where
    at : (b : Bool) → cond b (cond (narrow_rows j t) (narrow_row j s) false) false ≡ cond (cond b (narrow_rows j t) false) (narrow_row j s) false
    at true = refl
    at false = refl

exchange-snoc : (t : List (List ℤ)) (s : List ℤ) (i j : ℕ) → i < length t → exchange_rows (t ++ (s ∷ [])) i j ≡ exchange_rows t i j ++ (put j (get_or (exchange_rows t i j) i []) s ∷ [])
unfolding exchange_rows
exchange-snoc t s i j h =
    let p : List ℤ = solve_row (get_or t i []) j in
    let f : List ℤ → List ℤ = put j p in
    let k : i < length (map f t) = subst (λ n. i < n) (sym (length-map t f)) h in
    ap (λ (r : List ℤ). exchange_by (solve_row r j) (t ++ (s ∷ [])) i j) (get_or-append t (s ∷ []) [] i h)
    ∙ ap (λ (l : List (List ℤ)). set l i p) (map_snoc f t s)
    ∙ set-append_left (map f t) (f s ∷ []) i p k
    ∙ ap (λ (q : List ℤ). set (map f t) i p ++ (put j q s ∷ [])) (sym (get_or-set_same (map f t) i p [] k))

module _ (m : ℕ) (t : List (List ℤ)) (place kinds : List ℕ) (s : List ℤ) (κ : ℕ) (f : Fine m t place kinds) (room : length t < 64) where
  abbrev t' : List (List ℤ)
  t' = t ++ (s ∷ [])

  abbrev place' : List ℕ
  place' = place ++ (length t ∷ [])

  abbrev kinds' : List ℕ
  kinds' = kinds ++ (κ ∷ [])

  more : length place' ≡ suc (length place)
  more = length-append place (length t ∷ []) ∙ one (length place)
    where
      one : (n : ℕ) → n + 1 ≡ suc n
      one n = omega arith

  place_at : (k : ℕ) → k < length place → get_or place' k 0 ≡ get_or place k 0
  place_at k h = get_or-append place (length t ∷ []) 0 k h

  kinds-at : (k : ℕ) → k < length place → get_or kinds' k 0 ≡ get_or kinds k 0
  kinds-at k h = get_or-append kinds (κ ∷ []) 0 k (subst (λ n. k < n) (sym f.same) h)

  violated-agree : (k : ℕ) → k < length place → violated_at t' place' kinds' k ≡ violated_at t place kinds k
  unfolding violated_at
  violated-agree k h =
      ap₂ (λ x c. cond (ltb x 64) (violated_by c (get_or (get_or t' x []) 1 (pos 0))) false) (place_at k h) (kinds-at k h)
      ∙ at (ltb (get_or place k 0) 64) (λ e. get_or-append t (s ∷ []) [] (get_or place k 0) (f.spot k h (ltb-true (get_or place k 0) 64 e)))
    where
      x : ℕ
      x = get_or place k 0

      c : ℕ
      c = get_or kinds k 0

      at : (b : Bool) → (b ≡ true → get_or t' x [] ≡ get_or t x []) → cond b (violated_by c (get_or (get_or t' x []) 1 (pos 0))) false ≡ cond b (violated_by c (get_or (get_or t x []) 1 (pos 0))) false
      at true e = ap (λ (r : List ℤ). violated_by c (get_or r 1 (pos 0))) (e refl)
      at false e = refl

  violated-same : violated t place kinds < length place → violated t' place' kinds' ≡ violated t place kinds
  unfolding violated
  violated-same h =
      let p' = violated_at t' place' kinds' in
      let x : first p' (length place) 0 ≡ first (violated_at t place kinds) (length place) 0 = first-ext p' (violated_at t place kinds) (length place) 0 (λ k l. violated-agree k (omega arith)) in
      ap (λ n. first p' n 0) more ∙ first-longer p' (length place) 0 (subst (λ m. m < 0 + length place) (sym x) (omega arith)) ∙ x

  module _ (r : List ℤ) where
    helps-agree : (k : ℕ) → k < length place → helps_at r place' kinds' k ≡ helps_at r place kinds k
    unfolding helps_at
    helps-agree k h = ap₂ (λ x c. cond (ltb x 64) false (helps_by c (get_or r 1 (pos 0)) (get_or r (x - 64 + 2) (pos 0)))) (place_at k h) (kinds-at k h)

    helps-last : helps_at r place' kinds' (0 + length place) ≡ false
    unfolding helps_at
    helps-last =
        ap (λ x. cond (ltb x 64) false (helps_by (get_or kinds' (0 + length place) 0) (get_or r 1 (pos 0)) (get_or r (x - 64 + 2) (pos 0)))) (ap (λ n. get_or place' n 0) {x = 0 + length place} {y = length place} (omega arith) ∙ get_or-append_seam place (length t) [] 0)
        ∙ ap (λ b. cond b false (helps_by (get_or kinds' (0 + length place) 0) (get_or r 1 (pos 0)) (get_or r (length t - 64 + 2) (pos 0)))) (lt-ltb (length t) 64 room)

    same_first : first (helps_at r place' kinds') (length place) 0 ≡ first (helps_at r place kinds) (length place) 0
    same_first = first-ext (helps_at r place' kinds') (helps_at r place kinds) (length place) 0 (λ k l. helps-agree k (omega arith))

    helping-same : helping r place kinds < length place → helping r place' kinds' ≡ helping r place kinds
    unfolding helping
    helping-same h = ap (λ n. first (helps_at r place' kinds') n 0) more ∙ first-longer (helps_at r place' kinds') (length place) 0 (subst (λ m. m < 0 + length place) (sym same_first) (omega arith)) ∙ same_first

    helping-none : length place ≤ helping r place kinds → length place' ≤ helping r place' kinds'
    unfolding helping
    helping-none h =
        let k = first-none (helps_at r place' kinds') (length place) 0 (subst (λ m. 0 + length place ≤ m) (sym same_first) (omega arith)) helps-last in
        subst (λ n. n ≤ first (helps_at r place' kinds') n 0) (sym more) (omega (arith, k))

  -- while one of the others is violated, the row changes neither the row nor the column of the pivot
  module _ (left : ℕ) (h : violated t place kinds < length place) where
    abbrev v : ℕ
    v = violated t place kinds

    abbrev r : List ℤ
    r = get_or t (get_or place v 0) []

    abbrev w : ℕ
    w = helping r place kinds

    abbrev j : ℕ
    j = get_or place w 0 - 64

    row_same : get_or t' (get_or place' v 0) [] ≡ r
    row_same = ap (λ n. get_or t' n []) (place_at v h) ∙ get_or-append t (s ∷ []) [] (get_or place v 0) (row-spot m t place kinds v f refl h)

    v-less : v < length place'
    v-less = subst (λ n. v < n) (sym more) (omega arith)

    chosen-dropped : length place ≤ w → move_of t' place' kinds' left ≡ Stop Dropped
    chosen-dropped k =
        sym (choose-dropped t' place' kinds' left v (sym (violated-same h)) v-less (helping r place' kinds') (ap (λ q. helping q place' kinds') (sym row_same)) (helping-none r k))

    module _ (k : w < length place) where
      w-less : w < length place'
      w-less = subst (λ n. w < n) (sym more) (omega arith)

      w-is : w ≡ helping (get_or t' (get_or place' v 0) []) place' kinds'
      w-is = sym (helping-same r k) ∙ ap (λ q. helping q place' kinds') (sym row_same)

      chosen-long : left ≡ 0 → move_of t' place' kinds' left ≡ Stop Long
      chosen-long z = sym (choose-long t' place' kinds' left v (sym (violated-same h)) v-less w w-is w-less z)

      chosen_last : (b : Bool) → (left ≡ 0 → ⊥) → cond (narrow_rows j t) (narrow_row j s) false ≡ b → move_of t' place' kinds' left ≡ cond b (Pivot v w) (Stop Wide)
      chosen_last b z n =
          sym (choose-last t' place' kinds' left v (sym (violated-same h)) v-less w w-is b w-less z (ap (λ x. narrow_rows (x - 64) t') (place_at w k) ∙ narrow-snoc j t s ∙ n))

  place-snoc : (v w : ℕ) → v < length place → w < length place → pivot_place place' v w ≡ pivot_place place v w ++ (length t ∷ [])
  unfolding pivot_place
  place-snoc v w hv hw =
      ap₂ (λ a b. set (set place' v a) w b) (place_at w hw) (place_at v hv)
      ∙ ap (λ (l : List ℕ). set l w (get_or place v 0)) (set-append_left place (length t ∷ []) v (get_or place w 0) hv)
      ∙ set-append_left (set place v (get_or place w 0)) (length t ∷ []) w (get_or place v 0) (subst (λ n. w < n) (sym (length-set place v (get_or place w 0))) hw)

  rows_snoc : (v w : ℕ) → Crossing m t place v w → pivot_rows t' place' v w ≡ pivot_rows t place v w ++ (put (get_or place w 0 - 64) (leaves t place v w) s ∷ [])
  unfolding pivot_rows
  rows_snoc v w c =
      ap₂ (λ a b. exchange_rows t' a (b - 64)) (place_at v c.named) (place_at w c.other)
      ∙ exchange-snoc t s (get_or place v 0) (get_or place w 0 - 64) c.ready.row

  -- the row that the pivot leaves is the same
  left-same : (v w : ℕ) → Crossing m t place v w → leaves t' place' v w ≡ leaves t place v w
  left-same v w c =
      ap₂ (λ (a : List (List ℤ)) (i : ℕ). get_or a i []) (rows_snoc v w c) (place_at v c.named)
      ∙ get_or-append (pivot_rows t place v w) (put (get_or place w 0 - 64) (leaves t place v w) s ∷ []) [] (get_or place v 0) (subst (λ n. get_or place v 0 < n) (sym (rows-length t place v w)) c.ready.row)

  -- ---- where no other row is violated

  module _ (calm : length place ≤ violated t place kinds) where
    last-violated : violated_at t' place' kinds' (0 + length place) ≡ violated_by κ (get_or s 1 (pos 0))
    unfolding violated_at
    last-violated =
        let e : get_or place' (0 + length place) 0 ≡ length t = ap (λ n. get_or place' n 0) {x = 0 + length place} {y = length place} (omega arith) ∙ get_or-append_seam place (length t) [] 0 in
        let k : get_or kinds' (0 + length place) 0 ≡ κ = ap (λ n. get_or kinds' n 0) {x = 0 + length place} {y = length kinds} (let z = f.same in omega arith) ∙ get_or-append_seam kinds κ [] 0 in
        ap₂ (λ x c. cond (ltb x 64) (violated_by c (get_or (get_or t' x []) 1 (pos 0))) false) e k
        ∙ ap₂ (λ b (r : List ℤ). cond b (violated_by κ (get_or r 1 (pos 0))) false) (lt-ltb (length t) 64 room) (get_or-append_seam t s [] [])

    none_first : 0 + length place ≤ first (violated_at t' place' kinds') (length place) 0
    unfolding violated
    none_first =
        subst (λ n. 0 + length place ≤ n) (sym (first-ext (violated_at t' place' kinds') (violated_at t place kinds) (length place) 0 (λ k l. violated-agree k (omega arith)))) (omega (arith, calm))

    pub calm-point : (left : ℕ) → violated_by κ (get_or s 1 (pos 0)) ≡ false → move_of t' place' kinds' left ≡ Stop Point
    unfolding violated
    calm-point left e = sym (choose-point t' place' kinds' left (violated t' place' kinds') refl none)
      where
        none : length place' ≤ violated t' place' kinds'
        none =
            let k = first-none (violated_at t' place' kinds') (length place) 0 none_first (last-violated ∙ e) in
            subst (λ n. n ≤ first (violated_at t' place' kinds') n 0) (sym more) (omega (arith, k))

    pub calm-last : violated_by κ (get_or s 1 (pos 0)) ≡ true → violated t' place' kinds' ≡ length place
    unfolding violated
    calm-last e = ap (λ n. first (violated_at t' place' kinds') n 0) more ∙ first-at (violated_at t' place' kinds') (length place) 0 none_first (last-violated ∙ e) ∙ plain
      where
        plain : 0 + length place ≡ length place
        plain = omega arith

    pub calm-dropped : (left : ℕ) → violated_by κ (get_or s 1 (pos 0)) ≡ true → length place ≤ helping s place kinds → move_of t' place' kinds' left ≡ Stop Dropped
    calm-dropped left e h =
        let v = sym (calm-last e) in
        let row : get_or t' (get_or place' (length place) 0) [] ≡ s = ap (λ n. get_or t' n []) (get_or-append_seam place (length t) [] 0) ∙ get_or-append_seam t s [] [] in
        sym (choose-dropped t' place' kinds' left (length place) v (subst (λ n. length place < n) (sym more) (omega arith)) (helping s place' kinds') (ap (λ q. helping q place' kinds') (sym row)) (helping-none s h))

-- ---- the theorem

pub clash-dropped : Dropped ≡ Point → ⊥
clash-dropped e = let z : ◌≡◌ {A = ℕ} 0 1 = cc in omega arith

pub clash-long : Long ≡ Point → ⊥
clash-long e = let z : ◌≡◌ {A = ℕ} 0 1 = cc in omega arith

pub clash-wide : Wide ≡ Point → ⊥
clash-wide e = let z : ◌≡◌ {A = ℕ} 0 1 = cc in omega arith

module _ (m : ℕ) (kinds : List ℕ) (κ : ℕ) where
  abbrev pub ks : List ℕ
  ks = kinds ++ (κ ∷ [])

  -- y is the run x with the row s at the end: too wide at one of x's pivots, or ended as x is, or going on from x's point
  pub record Extends (n : ℕ) (x y : Traced) (s : List ℤ) : Type 0 where
    pub wide : through x.kept x.columns s ≡ false → y.verdict ≡ Wide
    pub same : through x.kept x.columns s ≡ true → (x.verdict ≡ Point → ⊥) → (y.verdict ≡ x.verdict) × (y.kept ≡ x.kept) × (y.columns ≡ x.columns)
    pub on : through x.kept x.columns s ≡ true → x.verdict ≡ Point
        → y ≡ prefixed x.kept x.columns (trace ks (n - length x.kept) (x.rows ++ (brought x.kept x.columns s ∷ [])) (x.place ++ (length x.rows ∷ [])))

  pub no : true ≡ false → ⊥
  no e = subst T e tt

  module _ (n : ℕ) (t : List (List ℤ)) (place : List ℕ) (s : List ℤ) where
    abbrev base : Traced
    base = trace kinds n t place

    abbrev more_of : Traced
    more_of = trace ks n (t ++ (s ∷ [])) (place ++ (length t ∷ []))

    ended : (x : Verdict) → move_of t place kinds n ≡ Stop x → move_of (t ++ (s ∷ [])) (place ++ (length t ∷ [])) ks n ≡ Stop x → (x ≡ Point → ⊥) → Extends n base more_of s
    unfolding through brought
    ended x e e' z =
        subst₂ (λ a b. Extends n a b s) (sym (trace-stop kinds n t place x e)) (sym (trace-stop ks n (t ++ (s ∷ [])) (place ++ (length t ∷ [])) x e'))
        (record { wide = λ q. absurd (no q); same = λ q p. (refl, refl, refl); on = λ q p. absurd (z p) })

    pointed : move_of t place kinds n ≡ Stop Point → Extends n base more_of s
    unfolding through brought
    pointed e =
        subst (λ a. Extends n a more_of s) (sym (trace-stop kinds n t place Point e))
        (record { wide = λ q. absurd (no q); same = λ q p. absurd (p refl); on = λ q p. ap (λ k. trace ks k (t ++ (s ∷ [])) (place ++ (length t ∷ []))) {x = n} {y = n - 0} (omega arith) })

  module _ (n : ℕ) (q : List ℤ) (j : ℕ) (x : Traced) (s : List ℤ) where
    turned-wide : (y : Traced) → narrow_row j s ≡ false → y.verdict ≡ Wide → Extends (suc n) (prefixed (q ∷ []) (j ∷ []) x) y s
    unfolding through
    turned-wide y e w =
        let z : cond (narrow_row j s) (through x.kept x.columns (put j q s)) false ≡ false = ap (λ b. cond b (through x.kept x.columns (put j q s)) false) e in
        record { wide = λ h. w; same = λ h p. absurd (no (sym h ∙ z)); on = λ h p. absurd (no (sym h ∙ z)) }

    turned_on : (y : Traced) → narrow_row j s ≡ true → Extends n x y (put j q s) → Extends (suc n) (prefixed (q ∷ []) (j ∷ []) x) (prefixed (q ∷ []) (j ∷ []) y) s
    unfolding through brought
    turned_on y e h =
        let s₁ : List ℤ = put j q s in
        let z : cond (narrow_row j s) (through x.kept x.columns s₁) false ≡ through x.kept x.columns s₁ = ap (λ b. cond b (through x.kept x.columns s₁) false) e in
        let r : brought x.kept x.columns s₁ ≡ cond (narrow_row j s) (brought x.kept x.columns s₁) s = sym (ap (λ b. cond b (brought x.kept x.columns s₁) s) e) in
        let l : n - length x.kept ≡ suc n - suc (length x.kept) = omega arith in
        record {
          wide = λ p. h.wide (sym z ∙ p);
          same = λ p v. let w = h.same (sym z ∙ p) v in (w.0, ap (λ (a : List (List ℤ)). q ∷ a) w.1, ap (λ (a : List ℕ). j ∷ a) w.2);
          on = λ p v.
              ap (prefixed (q ∷ []) (j ∷ [])) (h.on (sym z ∙ p) v)
              ∙ ap₂ (λ k u. prefixed (q ∷ x.kept) (j ∷ x.columns) (trace ks k (x.rows ++ (u ∷ [])) (x.place ++ (length x.rows ∷ [])))) l r;
        }

  -- the test of one row more, numbered last
  pub share : (n : ℕ) (t : List (List ℤ)) (place : List ℕ) (s : List ℤ) → Fine m t place kinds → length t < 64 → Extends n (trace kinds n t place) (trace ks n (t ++ (s ∷ [])) (place ++ (length t ∷ []))) s
  share zero t place s f room = at (leb (length place) v) refl
    where
      v : ℕ
      v = violated t place kinds

      Goal : Type 0
      Goal = Extends 0 (trace kinds 0 t place) (trace ks 0 (t ++ (s ∷ [])) (place ++ (length t ∷ []))) s

      at : (a : Bool) → leb (length place) v ≡ a → Goal
      at true q = pointed 0 t place s (sym (choose-point t place kinds 0 v refl (leb-true (length place) v q)))
      at false q = on (leb (length place) w) refl
        where
          h : v < length place
          h = leb-false (length place) v q

          w : ℕ
          w = helping (get_or t (get_or place v 0) []) place kinds

          on : (b : Bool) → leb (length place) w ≡ b → Goal
          on true p =
              let k = leb-true (length place) w p in
              ended 0 t place s Dropped (sym (choose-dropped t place kinds 0 v refl h w refl k)) (chosen-dropped m t place kinds s κ f room 0 h k) (λ z. clash-dropped z)
          on false p =
              let k = leb-false (length place) w p in
              ended 0 t place s Long (sym (choose-long t place kinds 0 v refl h w refl k refl)) (chosen-long m t place kinds s κ f room 0 h k refl) (λ z. clash-long z)
  share (suc n) t place s f room = at (leb (length place) v) refl (λ t₁ place₁ s₁. share n t₁ place₁ s₁)
    where
      v : ℕ
      v = violated t place kinds

      Goal : Type 0
      Goal = Extends (suc n) (trace kinds (suc n) t place) (trace ks (suc n) (t ++ (s ∷ [])) (place ++ (length t ∷ []))) s

      Next : Type 0
      Next = (t₁ : List (List ℤ)) (place₁ : List ℕ) (s₁ : List ℤ) → Fine m t₁ place₁ kinds → length t₁ < 64 → Extends n (trace kinds n t₁ place₁) (trace ks n (t₁ ++ (s₁ ∷ [])) (place₁ ++ (length t₁ ∷ []))) s₁

      not-zero : suc n ≡ 0 → ⊥
      not-zero e = omega arith

      at : (a : Bool) → leb (length place) v ≡ a → Next → Goal
      at true q ih = pointed (suc n) t place s (sym (choose-point t place kinds (suc n) v refl (leb-true (length place) v q)))
      at false q ih = on (leb (length place) w) refl
        where
          h : v < length place
          h = leb-false (length place) v q

          w : ℕ
          w = helping (get_or t (get_or place v 0) []) place kinds

          j : ℕ
          j = get_or place w 0 - 64

          on : (b : Bool) → leb (length place) w ≡ b → Goal
          on true p =
              let k = leb-true (length place) w p in
              ended (suc n) t place s Dropped (sym (choose-dropped t place kinds (suc n) v refl h w refl k)) (chosen-dropped m t place kinds s κ f room (suc n) h k) (λ z. clash-dropped z)
          on false p = by (narrow_rows j t) refl (narrow_row j s) refl
            where
              k : w < length place
              k = leb-false (length place) w p

              both-are : (d e : Bool) → narrow_rows j t ≡ d → narrow_row j s ≡ e → cond (narrow_rows j t) (narrow_row j s) false ≡ cond d e false
              both-are d e x y = ap₂ (λ a b. cond a b false) x y

              by : (d : Bool) → narrow_rows j t ≡ d → (e : Bool) → narrow_row j s ≡ e → Goal
              by false x e y =
                  ended (suc n) t place s Wide (sym (choose-last t place kinds (suc n) v refl h w refl false k not-zero x)) (chosen_last m t place kinds s κ f room (suc n) h k false not-zero (both-are false e x y)) (λ z. clash-wide z)
              by true x false y =
                  let c = sym (choose-last t place kinds (suc n) v refl h w refl true k not-zero x) in
                  let c' = chosen_last m t place kinds s κ f room (suc n) h k false not-zero (both-are true false x y) in
                  subst (λ (a : Traced). Extends (suc n) a (trace ks (suc n) (t ++ (s ∷ [])) (place ++ (length t ∷ []))) s) (sym (trace-more kinds n t place v w c))
                  (turned-wide n (leaves t place v w) j (trace kinds n (pivot_rows t place v w) (pivot_place place v w)) s (trace ks (suc n) (t ++ (s ∷ [])) (place ++ (length t ∷ []))) y
                  (ap (λ (o : Traced). o.verdict) (trace-stop ks (suc n) (t ++ (s ∷ [])) (place ++ (length t ∷ [])) Wide c')))
              by true x true y =
                  let c = sym (choose-last t place kinds (suc n) v refl h w refl true k not-zero x) in
                  let c' = chosen_last m t place kinds s κ f room (suc n) h k true not-zero (both-are true true x y) in
                  let cr = crossing m t place kinds (suc n) v w f c in
                  let q₁ : List ℤ = leaves t place v w in
                  let t₁ : List (List ℤ) = pivot_rows t place v w in
                  let place₁ : List ℕ = pivot_place place v w in
                  let s₁ : List ℤ = put j q₁ s in
                  let len = rows-length t place v w in
                  let e : trace ks (suc n) (t ++ (s ∷ [])) (place ++ (length t ∷ [])) ≡ prefixed (q₁ ∷ []) (j ∷ []) (trace ks n (t₁ ++ (s₁ ∷ [])) (place₁ ++ (length t₁ ∷ []))) =
                  trace-more ks n (t ++ (s ∷ [])) (place ++ (length t ∷ [])) v w c'
                  ∙ ap₂ (λ (a : List ℤ) (i : ℕ). prefixed (a ∷ []) (i ∷ []) (trace ks n (pivot_rows (t ++ (s ∷ [])) (place ++ (length t ∷ [])) v w) (pivot_place (place ++ (length t ∷ [])) v w))) (left-same m t place kinds s κ f room v w cr) (ap (λ i. i - 64) (place_at m t place kinds s κ f room w cr.other))
                  ∙ ap₂ (λ (a : List (List ℤ)) (b : List ℕ). prefixed (q₁ ∷ []) (j ∷ []) (trace ks n a b)) (rows_snoc m t place kinds s κ f room v w cr) (place-snoc m t place kinds s κ f room v w cr.named cr.other ∙ ap (λ i. place₁ ++ (i ∷ [])) (sym len)) in
                  subst₂ (λ (a b : Traced). Extends (suc n) a b s) (sym (trace-more kinds n t place v w c)) (sym e)
                  (turned_on n q₁ j (trace kinds n t₁ place₁) s (trace ks n (t₁ ++ (s₁ ∷ [])) (place₁ ++ (length t₁ ∷ []))) y (ih t₁ place₁ s₁ (pivot-fine m t place kinds v w f cr) (subst (λ i. i < 64) (sym len) room)))
