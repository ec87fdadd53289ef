-- An exchange of a row and a column has the same solutions, and keeps the rows' shape.
use mathlib.Core.Path.{◌≡◌, refl, sym, ap, ap₂, ◌∙◌, subst}
use mathlib.Core.Bool.{Bool, true, false, cond}
use mathlib.Core.List.{List, [], ◌∷◌, map}
use mathlib.Core.Logic.{◌↔◌}
use Prim.Native.Nat.{ℕ, zero, suc, ◌<◌, suc-le-suc}
use native.Mathlib.Nat.{le_of_suc-le-suc, not-suc-le-zero}
use lib.Dec.{T}
use lib.IntN.{ℤ, pos, neg_ℤ, ◌+ℤ◌, ◌-ℤ◌, ◌*ℤ◌, *ℤ-zero, neg_ℤ-neg_ℤ}
use lib.Signed.{◌<ℤ◌, <ℤ_irrefl}
use lib.ListN.{length, get_or, set, length-set, length-map}
use lib.Seq.{set-get_or}
use Rattle.integers.specs.Ring.{ring, quote}
use Rattle.model.specs.Sets.{dot, is_zero}
use Rattle.feasibility.specs.Tableau.{Row, Tableau, entry, combine, reduced, solved, replaced, exchange, no_row}
use Rattle.model.proofs.Lists.{map_get, map-set}
use Rattle.model.proofs.Values.{is_zero→}
use Rattle.feasibility.proofs.Rows.{rest, dot-set, solved-rest, replaced-rest, length-combine}
use Rattle.feasibility.proofs.Reduce.{Like, reduced-like, cancel-zero}

-- ---- solutions: w gives each variable its numerator over the denominator D

abbrev pub Holds : (ℕ → ℤ) → ℤ → List ℕ → Row → Type 0
Holds w D cols r = rest r.den r.nums (w r.var) (D ∷ map w cols) ≡ pos 0

abbrev pub Solves : (ℕ → ℤ) → ℤ → List ℕ → List Row → Type 0
Solves w D cols [] = Unit {0}
Solves w D cols (r ∷ rs) = Holds w D cols r × Solves w D cols rs

-- an entry for each column, over a positive denominator
pub record Shape (n : ℕ) (r : Row) : Type 0 where
  pub long : length r.nums ≡ suc n
  pub positive : pos 0 <ℤ r.den

abbrev pub Shaped : ℕ → List Row → Type 0
Shaped n [] = Unit {0}
Shaped n (r ∷ rs) = Shape n r × Shaped n rs

neg-zero : (z : ℤ) → neg_ℤ z ≡ pos 0 → z ≡ pos 0
neg-zero z e = sym (neg_ℤ-neg_ℤ z) ∙ ap neg_ℤ e

not-zero : {d : ℤ} → pos 0 <ℤ d → d ≡ pos 0 → ⊥
not-zero {d} h e = <ℤ_irrefl (subst (λ (z : ℤ). pos 0 <ℤ z) e h)

module _ (j : ℕ) (cols : List ℕ) (jin : j < length cols) (r : Row) (shape : Shape (length cols) r) (pivot : entry r j ≡ pos 0 → ⊥) where
  abbrev cols' : List ℕ
  cols' = set cols j r.var

  raw : Row
  raw = record { var = get_or cols j 0; den = entry r j; nums = set (map neg_ℤ r.nums) (suc j) r.den }

  like : Like raw (solved r j (get_or cols j 0))
  unfolding raw
  like = reduced-like raw pivot

  module _ (w : ℕ → ℤ) (D : ℤ) where
    ws : List ℤ
    ws = D ∷ map w cols

    inside : suc j < length ws
    unfolding ws
    inside = subst (λ (n : ℕ). suc j < suc n) (sym (length-map cols w)) (suc-le-suc jin)

    fits : length r.nums ≡ length ws
    unfolding ws
    fits = shape.long ∙ ap suc (sym (length-map cols w))

    moved : D ∷ map w cols' ≡ set ws (suc j) (w r.var)
    unfolding ws
    moved = ap (λ (l : List ℤ). D ∷ l) (map-set w cols j r.var)

    raw-rest : rest raw.den raw.nums (w (get_or cols j 0)) (set ws (suc j) (w r.var)) ≡ neg_ℤ (rest r.den r.nums (w r.var) ws)
    unfolding raw ws
    raw-rest =
        ap (λ (v : ℤ). rest (entry r j) (set (map neg_ℤ r.nums) (suc j) r.den) v (set ws (suc j) (w r.var))) (sym (map_get w cols j 0 (pos 0) jin))
        ∙ solved-rest j ws inside r.den r.nums (w r.var) fits

    solved-holds : Holds w D cols r → Holds w D cols' (solved r j (get_or cols j 0))
    unfolding ws raw
    solved-holds h =
        ap (λ (l : List ℤ). rest (solved r j (get_or cols j 0)).den (solved r j (get_or cols j 0)).nums (w (get_or cols j 0)) l) moved
        ∙ cancel-zero like.factor _ like.nonzero (like.times (w (get_or cols j 0)) (set ws (suc j) (w r.var)) ∙ raw-rest ∙ ap neg_ℤ h)

    solved-back : Holds w D cols' (solved r j (get_or cols j 0)) → Holds w D cols r
    unfolding ws raw
    solved-back h =
        neg-zero (rest r.den r.nums (w r.var) ws)
        (sym raw-rest
        ∙ sym (like.times (w (get_or cols j 0)) (set ws (suc j) (w r.var)))
        ∙ ap (λ (z : ℤ). like.factor *ℤ z) (ap (λ (l : List ℤ). rest (solved r j (get_or cols j 0)).den (solved r j (get_or cols j 0)).nums (w (get_or cols j 0)) l) (sym moved) ∙ h)
        ∙ *ℤ-zero like.factor)

    -- another row s, its entry in the column a
    module _ (s : Row) (sshape : Shape (length cols) s) where
      untouched : is_zero (entry s j) ≡ true → rest s.den s.nums (w s.var) (set ws (suc j) (w r.var)) ≡ rest s.den s.nums (w s.var) ws
      unfolding ws
      untouched e =
          let z : entry s j ≡ pos 0 = is_zero→ (entry s j) (subst T (sym e) tt) in
          ap (λ (d : ℤ). s.den *ℤ w s.var -ℤ d)
          (ap (λ (l : List ℤ). dot l (set ws (suc j) (w r.var))) (sym (set-get_or s.nums (suc j) (pos 0)))
          ∙ dot-set s.nums ws (suc j) (entry s j) (w r.var) (subst (λ (n : ℕ). suc j < n) (sym sshape.long) (suc-le-suc jin)) inside
          ∙ ap (λ (a : ℤ). dot s.nums ws +ℤ (a *ℤ w r.var -ℤ a *ℤ get_or ws (suc j) (pos 0))) z
          ∙ ring (dot s.nums ws ∷ w r.var ∷ get_or ws (suc j) (pos 0) ∷ []) {b = dot s.nums ws} (search quote depth 30) tt)

      raw_s : Row
      raw_s = record { var = s.var; den = entry r j *ℤ s.den; nums = set (combine (entry r j) (entry s j) s.nums r.nums) (suc j) (entry s j *ℤ r.den) }

      like_s : Like raw_s (reduced raw_s)
      unfolding raw_s
      like_s = reduced-like raw_s (λ e. not-zero sshape.positive (cancel-zero (entry r j) s.den pivot e))

      touched-rest : rest raw_s.den raw_s.nums (w s.var) (set ws (suc j) (w r.var)) ≡ entry r j *ℤ rest s.den s.nums (w s.var) ws -ℤ entry s j *ℤ rest r.den r.nums (w r.var) ws
      unfolding raw_s
      touched-rest = replaced-rest j ws inside r.den r.nums (w r.var) fits s.den s.nums (w s.var) (sshape.long ∙ sym shape.long)

      -- given that r's equation holds, s's does if and only if the new one does
      abbrev At : Row → Type 0
      At u = rest u.den u.nums (w u.var) (set ws (suc j) (w r.var)) ≡ pos 0

      choose : (b : Bool) → is_zero (entry s j) ≡ b → Holds w D cols r → Holds w D cols s ↔ At (cond b s (reduced raw_s))
      unfolding ws raw_s
      choose true e h = (λ k. untouched e ∙ k, λ k. sym (untouched e) ∙ k)
      choose false e h = (
        (λ k. cancel-zero like_s.factor _ like_s.nonzero (like_s.times (w s.var) (set ws (suc j) (w r.var)) ∙ touched-rest ∙ ap₂ (λ (a b : ℤ). entry r j *ℤ a -ℤ entry s j *ℤ b) k h ∙ ring (entry r j ∷ entry s j ∷ []) (search quote depth 30) tt)),
        (λ k.
            cancel-zero (entry r j) _ pivot
            (ring (entry r j ∷ rest s.den s.nums (w s.var) ws ∷ entry s j ∷ []) {b = entry r j *ℤ rest s.den s.nums (w s.var) ws -ℤ entry s j *ℤ pos 0} (search quote depth 30) tt
            ∙ ap (λ (b : ℤ). entry r j *ℤ rest s.den s.nums (w s.var) ws -ℤ entry s j *ℤ b) (sym h)
            ∙ sym touched-rest
            ∙ sym (like_s.times (w s.var) (set ws (suc j) (w r.var)))
            ∙ ap (λ (z : ℤ). like_s.factor *ℤ z) k
            ∙ *ℤ-zero like_s.factor)),
      )

      replaced-iff : Holds w D cols r → Holds w D cols s ↔ Holds w D cols' (replaced r j s)
      unfolding raw_s
      replaced-iff h =
          subst (λ (l : List ℤ). Holds w D cols s ↔ (rest (replaced r j s).den (replaced r j s).nums (w (replaced r j s).var) l ≡ pos 0)) (sym moved) (choose (is_zero (entry s j)) refl h)

    rows_on : Holds w D cols r → (rs : List Row) → Shaped (length cols) rs → Solves w D cols rs → Solves w D cols' (map (replaced r j) rs)
    rows_on h [] sh k = tt
    rows_on h (s ∷ rs) sh k = ((replaced-iff s sh.0 h).0 k.0, rows_on h rs sh.1 k.1)

    rows_back : Holds w D cols r → (rs : List Row) → Shaped (length cols) rs → Solves w D cols' (map (replaced r j) rs) → Solves w D cols rs
    rows_back h [] sh k = tt
    rows_back h (s ∷ rs) sh k = ((replaced-iff s sh.0 h).1 k.0, rows_back h rs sh.1 k.1)

  shape-solved : Shape (length cols) (solved r j (get_or cols j 0))
  unfolding raw
  shape-solved = record { long = like.long ∙ length-set (map neg_ℤ r.nums) (suc j) r.den ∙ length-map r.nums neg_ℤ ∙ shape.long; positive = like.positive }

  pub shape-replaced : (s : Row) → Shape (length cols) s → Shape (length cols) (replaced r j s)
  shape-replaced s sh = at (is_zero (entry s j))
    where
      raw' : Row
      raw' = record { var = s.var; den = entry r j *ℤ s.den; nums = set (combine (entry r j) (entry s j) s.nums r.nums) (suc j) (entry s j *ℤ r.den) }

      like' : Like raw' (reduced raw')
      like' = reduced-like raw' (λ e. not-zero sh.positive (cancel-zero (entry r j) s.den pivot e))

      at : (b : Bool) → Shape (length cols) (cond b s (reduced raw'))
      at true = sh
      at false =
          record {
            long = like'.long ∙ length-set (combine (entry r j) (entry s j) s.nums r.nums) (suc j) (entry s j *ℤ r.den) ∙ length-combine (entry r j) (entry s j) s.nums r.nums (sh.long ∙ sym shape.long) ∙ sh.long;
            positive = like'.positive;
          }

  shape-map : (rs : List Row) → Shaped (length cols) rs → Shaped (length cols) (map (replaced r j) rs)
  shape-map [] sh = tt
  shape-map (s ∷ rs) sh = (shape-replaced s sh.0, shape-map rs sh.1)

-- ---- by places

shape-set : (n : ℕ) (rs : List Row) (i : ℕ) (u : Row) → Shaped n rs → Shape n u → Shaped n (set rs i u)
shape-set n [] i u sh k = tt
shape-set n (r ∷ rs) zero u sh k = (k, sh.1)
shape-set n (r ∷ rs) (suc i) u sh k = (sh.0, shape-set n rs i u sh.1 k)

pub shape_at : (n : ℕ) (rs : List Row) (i : ℕ) → i < length rs → Shaped n rs → Shape n (get_or rs i no_row)
shape_at n [] i h sh = absurd (not-suc-le-zero h)
shape_at n (r ∷ rs) zero h sh = sh.0
shape_at n (r ∷ rs) (suc i) h sh = shape_at n rs i (le_of_suc-le-suc h) sh.1

module _ (w : ℕ → ℤ) (D : ℤ) where
  pub solves-at : (cols : List ℕ) (rs : List Row) (i : ℕ) → i < length rs → Solves w D cols rs → Holds w D cols (get_or rs i no_row)
  solves-at cols [] i h k = absurd (not-suc-le-zero h)
  solves-at cols (r ∷ rs) zero h k = k.0
  solves-at cols (r ∷ rs) (suc i) h k = solves-at cols rs i (le_of_suc-le-suc h) k.1

  solves-set : (cols : List ℕ) (rs : List Row) (i : ℕ) (u : Row) → Solves w D cols rs → Holds w D cols u → Solves w D cols (set rs i u)
  solves-set cols [] i u k h = tt
  solves-set cols (r ∷ rs) zero u k h = (h, k.1)
  solves-set cols (r ∷ rs) (suc i) u k h = (k.0, solves-set cols rs i u k.1 h)

-- the pivot: a row and a column that are there, with a nonzero entry
pub record Pivot (i j : ℕ) (t : Tableau) : Type 0 where
  pub row : i < length t.rows
  pub col : j < length t.cols
  pub entry : entry (get_or t.rows i no_row) j ≡ pos 0 → ⊥

module _ (i j : ℕ) (t : Tableau) (p : Pivot i j t) (sh : Shaped (length t.cols) t.rows) where
  abbrev r : Row
  r = get_or t.rows i no_row

  at-r : Shape (length t.cols) r
  at-r = shape_at (length t.cols) t.rows i p.row sh

  pub exchange-shaped : Shaped (length (exchange i j t).cols) (exchange i j t).rows
  unfolding exchange
  exchange-shaped =
      subst (λ (n : ℕ). Shaped n (exchange i j t).rows) (sym (length-set t.cols j r.var))
      (shape-set (length t.cols) (map (replaced r j) t.rows) i (solved r j (get_or t.cols j 0))
      (shape-map j t.cols p.col r at-r p.entry t.rows sh)
      (shape-solved j t.cols p.col r at-r p.entry))

  module _ (w : ℕ → ℤ) (D : ℤ) where
    -- a solution stays one
    pub exchange-on : Solves w D t.cols t.rows → Solves w D (exchange i j t).cols (exchange i j t).rows
    unfolding exchange
    exchange-on k =
        let h : Holds w D t.cols r = solves-at w D t.cols t.rows i p.row k in
        solves-set w D (exchange i j t).cols (map (replaced r j) t.rows) i (solved r j (get_or t.cols j 0))
        (rows_on j t.cols p.col r at-r p.entry w D h t.rows sh k)
        (solved-holds j t.cols p.col r at-r p.entry w D h)

    back : Holds w D t.cols r → (rs : List Row) (n : ℕ) → get_or rs n no_row ≡ r → Shaped (length t.cols) rs
        → Solves w D (exchange i j t).cols (set (map (replaced r j) rs) n (solved r j (get_or t.cols j 0))) → Solves w D t.cols rs
    unfolding exchange
    back h [] n e sh k = tt
    back h (s ∷ rs) zero e sh k = (subst (λ (u : Row). Holds w D t.cols u) (sym e) h, rows_back j t.cols p.col r at-r p.entry w D h rs sh.1 k.1)
    back h (s ∷ rs) (suc n) e sh k = ((replaced-iff j t.cols p.col r at-r p.entry w D s sh.0 h).1 k.0, back h rs n e sh.1 k.1)

    solved-at : (rs : List Row) (n : ℕ) (u : Row) (cols : List ℕ) → n < length rs → Solves w D cols (set (map (replaced r j) rs) n u) → Holds w D cols u
    solved-at [] n u cols h k = absurd (not-suc-le-zero h)
    solved-at (s ∷ rs) zero u cols h k = k.0
    solved-at (s ∷ rs) (suc n) u cols h k = solved-at rs n u cols (le_of_suc-le-suc h) k.1

    -- and a solution after the exchange was one before it
    pub exchange-back : Solves w D (exchange i j t).cols (exchange i j t).rows → Solves w D t.cols t.rows
    unfolding exchange
    exchange-back k =
        back (solved-back j t.cols p.col r at-r p.entry w D (solved-at t.rows i (solved r j (get_or t.cols j 0)) (exchange i j t).cols p.row k)) t.rows i refl sh k
