-- Lists of eight coefficients, divisions that are sought and joined one at a time, and coefficients that are moved one at a time.
use mathlib.Core.Path.{◌≡◌, refl, sym, ap, ap₂, ◌∙◌, subst}
use mathlib.Core.Bool.{Bool, true, false, not, ◌&&◌, ◌||◌, cond}
use mathlib.Core.List.{List, [], ◌∷◌, ◌++◌, map, append_assoc, append-nil}
use mathlib.Core.Option.{Option as PlainOption, none, some}
use Rattle.std.specs.Prelude.{Option, Some, None}
use Rattle.std.proofs.Common.{int_eq}
use Rattle.std.proofs.lemmas.Bool.{false≢true}
use Rattle.std.proofs.lemmas.Bool.Decides.{Decides-int_eq}
use Rattle.std.specs.Cmp.Lexicographic.{pointwise}
use Prim.Native.Nat.{ℕ, zero, suc, ◌+◌, ◌≤◌, ◌<◌}
use native.Mathlib.Nat.{le_of_suc-le-suc, not-suc-le-zero, le_refl}
use native.Mathlib.Numerals.{add-one}
use native.Mathlib.Omega.{arith}
use borrow.Author.Tests.{lt-leb}
use lib.Dec.{T, leb, eqb, leb→le}
use lib.IntN.{ℤ, pos, negsuc, neg_ℤ, ◌+ℤ◌, ◌-ℤ◌, +ℤ_idr}
use lib.ListN.{length, take, drop, get_or, set, replicate, length-append, length-map, length-set, get_or-map, drop_of_length-le}
use lib.Seq.{drop-cons, take-suc-set, length-take-le, get_or-take, get_or-set_same, get_or-set_other, drop-length}
use mir.Syntax.{w16, w32}
use mir.Val.{SFits}
use Rattle.integers.specs.Ring.{ring, quote}
use Rattle.integers.specs.Lin.{fits, le, lin, lia-fits}
use lib.Signed.{◌≤ℤ◌, le_z_yes}
use Rattle.model.specs.Lists.{any, All}
use Rattle.model.specs.Sets.{Division, equality, is_zero}
use Rattle.model.specs.Values.{division_of}
use Rattle.model.specs.declared.Division.{Division as Stored}
use Rattle.model.specs.declared.Constraint.{Constraint as StoredConstraint}
use Rattle.codec.specs.Bytes.{coefficient, constant_fits}
use Rattle.algebra.specs.Cut.{sameℤ, same_list, same_division, seek, Joined, placed, join_from, join, add_at, move}
use Rattle.joining.specs.Joining.{Seeking, Joining, Placed}
use Rattle.model.proofs.Lists.{map-append}
use Rattle.algebra.proofs.Joined.{same→, joined}
use Rattle.algebra.proofs.Closed.{Apart, spread, get_or-move, all-below}

-- what an array of structs gives past its end
abbrev pub no_division : Stored
no_division = record { divisor = 0; constant = pos 0; axes = [] }

abbrev pub no_constraint : StoredConstraint
no_constraint = record { equality = false; number = 0; constant = pos 0; axes = []; divisions = [] }

-- ---- every element

module _ {A : Type 0} where
  pub All-at : (P : A → Type 0) (l : List A) (i : ℕ) (d : A) → i < length l → All P l → P (get_or l i d)
  All-at P [] i d h t = absurd (not-suc-le-zero h)
  All-at P (a ∷ l) zero d h t = t.0
  All-at P (a ∷ l) (suc i) d h t = All-at P l i d (le_of_suc-le-suc h) t.1

  pub All-drop : (P : A → Type 0) (k : ℕ) (l : List A) → All P l → All P (drop k l)
  All-drop P zero l p = p
  All-drop P (suc k) [] p = p
  All-drop P (suc k) (a ∷ l) p = All-drop P k l p.1

module _ {A B : Type 0} (f : A → B) (d : A) where
  -- a store behind the first n
  pub map-pushed : (l : List A) (n : ℕ) (a : A) → n < length l → map f (take (n + 1) (set l n a)) ≡ map f (take n l) ++ (f a ∷ [])
  map-pushed l n a h = rw (add-one) (ap (map f) (take-suc-set l n a h) ∙ map-append f (take n l) (a ∷ []))

pub and-true : (b : Bool) → b && true ≡ b
and-true true = refl
and-true false = refl

pub and-false : (b : Bool) → b && false ≡ false
and-false true = refl
and-false false = refl

-- ---- opposites: the constants fit

pub minus_is : (z : ℤ) → pos 0 -ℤ z ≡ neg_ℤ z
minus_is z = ring (z ∷ []) (search quote depth 30) tt

pub minus-fits : (z : ℤ) → T (coefficient z) → SFits w16 (pos 0 -ℤ z)
minus-fits z t = subst (SFits w16) (sym (minus_is z)) (at z t)
  where
    at : (z : ℤ) → T (coefficient z) → SFits w16 (neg_ℤ z)
    at (pos zero) t = record { sfits = omega arith }
    at (pos (suc m)) t = let h = leb→le (suc m) 32767 t in record { sfits = omega arith }
    at (negsuc m) t = let h = leb→le m 32766 (subst T (and-true (leb m 32766)) t) in record { sfits = omega arith }

pub below-is : (z : ℤ) → negsuc 0 -ℤ z ≡ neg_ℤ z -ℤ pos 1
below-is z = ring (z ∷ []) (search quote depth 30) tt

pub below-fits : (z : ℤ) → SFits w32 z → SFits w32 (negsuc 0 -ℤ z)
below-fits z h = lia-fits (z ∷ []) (fits h ∷ []) (search lin depth 30) (omega arith)

pub above-room : (z : ℤ) → SFits w32 z → T (constant_fits equality z) → SFits w32 (z -ℤ pos 1)
above-room z h t = let g : negsuc 2147483646 ≤ℤ z = le_z_yes t in lia-fits (z ∷ []) (fits h ∷ le g ∷ []) (search lin depth 30) (omega arith)

-- ---- coefficients moved one at a time

length-add_at : (i : ℕ) (c : ℤ) (cs : List ℤ) → i < length cs → length (add_at i c cs) ≡ length cs
length-add_at i c [] h = absurd (not-suc-le-zero h)
length-add_at zero c (z ∷ cs) h = refl
length-add_at (suc i) c (z ∷ cs) h = ap suc (length-add_at i c cs (le_of_suc-le-suc h))

length-move : (is : List ℕ) (cs : List ℤ) → All (λ (p : ℕ). p < 8) is → length (move is cs) ≡ 8
length-move [] cs l = refl
length-move (p ∷ is) [] l = refl
length-move (p ∷ is) (c ∷ cs) l = length-add_at p c (move is cs) (subst (λ (m : ℕ). p < m) (sym (length-move is cs l.1)) l.0) ∙ length-move is cs l.1

add_at-set : (i : ℕ) (c : ℤ) (cs : List ℤ) → i < length cs → get_or cs i (pos 0) ≡ pos 0 → add_at i c cs ≡ set cs i c
add_at-set i c [] h e = absurd (not-suc-le-zero h)
add_at-set zero c (z ∷ cs) h e = ap (λ (y : ℤ). y ∷ cs) (ap (λ (y : ℤ). c +ℤ y) e ∙ +ℤ_idr c)
add_at-set (suc i) c (z ∷ cs) h e = ap (λ (l : List ℤ). z ∷ l) (add_at-set i c cs (le_of_suc-le-suc h) e)

apart-drop : (k : ℕ) (is : List ℕ) → Apart is → Apart (drop k is)
apart-drop zero is a = a
apart-drop (suc k) [] a = a
apart-drop (suc k) (p ∷ is) a = apart-drop k is a.1

pub placed-apart : (is : List ℕ) → Placed is → Apart is
placed-apart is p = subst Apart (sym p.places) (spread p.ds [] p.ds p.es (le_refl (length p.ds))).apart

pub placed_below : (is : List ℕ) → Placed is → All (λ (p : ℕ). p < 8) is
placed_below is p = subst (All (λ (p : ℕ). p < 8)) (sym p.places) (all-below (length (join p.ds p.es).all) (join p.ds p.es).places p.few (joined [] p.ds p.es).inside)

pub move_start : (n : ℕ) (places : List ℕ) (cs : List ℤ) → n ≤ length places → move (drop n (take n places)) cs ≡ replicate 8 (pos 0)
move_start n places cs h = ap (λ (l : List ℕ). move l cs) (ap (λ (k : ℕ). drop k (take n places)) (sym (length-take-le n places h)) ∙ drop-length (take n places))

-- the coefficient at place k, put where it goes
pub move-next : (is : List ℕ) (cs : List ℤ) (k : ℕ) → Placed is → k < length is → k < length cs
    → set (move (drop (suc k) is) (drop (suc k) cs)) (get_or is k 0) (get_or cs k (pos 0)) ≡ move (drop k is) (drop k cs)
move-next is cs k p h g =
    let a : Apart (drop k is) = apart-drop k is (placed-apart is p) in
    let b : All (λ (p : ℕ). p < 8) (drop k is) = All-drop (λ (p : ℕ). p < 8) k is (placed_below is p) in
    let e : drop k is ≡ get_or is k 0 ∷ drop (suc k) is = drop-cons is k 0 h in
    let a' : Apart (get_or is k 0 ∷ drop (suc k) is) = subst Apart e a in
    let b' : All (λ (p : ℕ). p < 8) (get_or is k 0 ∷ drop (suc k) is) = subst (All (λ (p : ℕ). p < 8)) e b in
    let m : List ℤ = move (drop (suc k) is) (drop (suc k) cs) in
    let l : get_or is k 0 < length m = subst (λ (n : ℕ). get_or is k 0 < n) (sym (length-move (drop (suc k) is) (drop (suc k) cs) b'.1)) b'.0 in
    sym (add_at-set (get_or is k 0) (get_or cs k (pos 0)) m l (get_or-move (get_or is k 0) (drop (suc k) is) (drop (suc k) cs) a'.0))
    ∙ ap₂ move (sym e) (sym (drop-cons cs k (pos 0) g))

module _ (places : List ℕ) (from : List ℤ) (n k : ℕ) (p : Placed (take n places)) (l : n ≤ length places) (h : k < n) where
  shown-at : get_or (take n places) k 0 ≡ get_or places k 0
  shown-at = get_or-take n places k 0 h

  inside_first : k < length (take n places)
  inside_first = let w = length-take-le n places l in omega arith

  pub place-fits : get_or places k 0 < 8
  place-fits = subst (λ (q : ℕ). q < 8) shown-at (All-at (λ (q : ℕ). q < 8) (take n places) k 0 inside_first (placed_below (take n places) p))

  pub move-back : k < length from → set (move (drop (k + 1) (take n places)) (drop (k + 1) from)) (get_or places k 0) (get_or from k (pos 0)) ≡ move (drop k (take n places)) (drop k from)
  move-back g = rw (add-one, sym shown-at) (move-next (take n places) from k p inside_first g)

-- ---- equal divisions

pub same-yes : (a b : ℤ) → a ≡ b → sameℤ a b ≡ true
same-yes a b e = let z : a -ℤ a ≡ pos 0 = ring (a ∷ []) (search quote depth 30) tt in ap (λ (z : ℤ). is_zero (a -ℤ z)) (sym e) ∙ ap is_zero z

no_flag : (b : Bool) → (T b → ⊥) → b ≡ false
no_flag true n = absurd (n tt)
no_flag false n = refl

pub same-no : (a b : ℤ) → (a ≡ b → ⊥) → sameℤ a b ≡ false
same-no a b n = no_flag (sameℤ a b) (λ t. n (same→ a b t))

int_same : (a b : ℤ) → int_eq a b ≡ sameℤ a b
int_same a b = at (int_eq a b) refl
  where
    at : (r : Bool) → int_eq a b ≡ r → r ≡ sameℤ a b
    at true e = sym (same-yes a b ((Decides-int_eq a b).0 e))
    at false e = sym (same-no a b (λ p. absurd (false≢true (sym e ∙ (Decides-int_eq a b).1 p))))

-- the array's own test
pub pointwise_same : (x y : List ℤ) → pointwise int_eq x y ≡ same_list x y
pointwise_same [] [] = refl
pointwise_same [] (b ∷ y) = refl
pointwise_same (a ∷ x) [] = refl
pointwise_same (a ∷ x) (b ∷ y) = ap₂ ◌&&◌ (int_same a b) (pointwise_same x y)

-- ---- the first equal division that is not taken

module _ (e f : Division) (taken : List ℕ) (ds : List Division) (i : ℕ) (here : drop i ds ≡ f ∷ drop (i + 1) ds) where
  seek-step : seek e taken i (drop i ds) ≡ cond (same_division e f && not (any (eqb i) taken)) (some i) (seek e taken (i + 1) (drop (i + 1) ds))
  seek-step = ap (seek e taken i) here ∙ rw (add-one) refl

  pub seek-hit : same_division e f ≡ true → any (eqb i) taken ≡ false → seek e taken i (drop i ds) ≡ some i
  seek-hit s t = seek-step ∙ ap₂ (λ (x y : Bool). cond (x && not y) (some i) (seek e taken (i + 1) (drop (i + 1) ds))) s t

  pub seek-other : same_division e f ≡ false → seek e taken i (drop i ds) ≡ seek e taken (i + 1) (drop (i + 1) ds)
  seek-other s = seek-step ∙ ap (λ (x : Bool). cond (x && not (any (eqb i) taken)) (some i) (seek e taken (i + 1) (drop (i + 1) ds))) s

  pub seek-taken : any (eqb i) taken ≡ true → seek e taken i (drop i ds) ≡ seek e taken (i + 1) (drop (i + 1) ds)
  seek-taken t =
      seek-step ∙ ap (λ (y : Bool). cond (same_division e f && not y) (some i) (seek e taken (i + 1) (drop (i + 1) ds))) t
      ∙ ap (λ (x : Bool). cond x (some i) (seek e taken (i + 1) (drop (i + 1) ds))) (and-false (same_division e f))

pub seek-end : (e : Division) (taken : List ℕ) (ds : List Division) (n : ℕ) → length ds ≡ n → seek e taken n (drop n ds) ≡ none
seek-end e taken ds n p = ap (λ (l : List Division). seek e taken n l) (ap (λ (k : ℕ). drop k ds) (sym p) ∙ drop-length ds)

-- ---- divisions joined one at a time

pub join-longer : (ds : List Division) (taken : List ℕ) (js es : List Division) → length js ≤ length (join_from ds taken js es).all
join-longer ds taken js [] = le_refl (length js)
join-longer ds taken js (e ∷ es) = go (seek e taken 0 ds) refl (λ i. join-longer ds (i ∷ taken) js es) (join-longer ds taken (js ++ (e ∷ [])) es)
  where
    go : (o : PlainOption ℕ) → seek e taken 0 ds ≡ o → ((i : ℕ) → length js ≤ length (join_from ds (i ∷ taken) js es).all)
        → length (js ++ (e ∷ [])) ≤ length (join_from ds taken (js ++ (e ∷ [])) es).all → length js ≤ length (join_from ds taken js (e ∷ es)).all
    go (some i) q f g = rw (q, join_from) (f i)
    go none q f g = rw (q, join_from) (let l = length-append js (e ∷ []) in omega arith)

-- the first k of E's divisions are joined: js so far, at places is; the flags show which of D's are taken
pub record Halfway (D E : List Division) (n k : ℕ) (js : List Division) (flags : List Bool) (is : List ℕ) : Type 0 where
  pub taken : List ℕ
  pub shown : (i : ℕ) → i < n → get_or flags i false ≡ any (eqb i) taken
  pub all : (join D E).all ≡ (join_from D taken js (drop k E)).all
  pub places : (join D E).places ≡ is ++ (join_from D taken js (drop k E)).places

pub halfway-start : (D E : List Division) (n : ℕ) (flags : List Bool) → ((i : ℕ) → get_or flags i false ≡ false) → Halfway D E n 0 D flags []
halfway-start D E n flags f = record { taken = []; shown = λ i h. f i; all = refl; places = refl }

-- the first k and e are joined: e is a division of D
pub halfway-found : {D E : List Division} {n k r : ℕ} {js : List Division} {flags : List Bool} {is : List ℕ} {e : Division} → Halfway D E n k js flags is → drop k E ≡ e ∷ drop (k + 1) E
    → Seeking e D n flags (Some r) → length flags ≡ 8 → n ≤ 8 → Halfway D E n (k + 1) js (set flags r true) (is ++ (r ∷ []))
halfway-found {D} {E} {n} {k} {r} {js} {flags} {is} {e} h here s w m =
    let z : seek e h.taken 0 D ≡ some r = s.found h.taken h.shown in
    let j : join_from D h.taken js (drop k E) ≡ placed r (join_from D (r ∷ h.taken) js (drop (k + 1) E)) = ap (join_from D h.taken js) here ∙ rw (z, join_from) refl in
    record {
      taken = r ∷ h.taken;
      shown = λ i q. at i q;
      all = h.all ∙ ap (λ (j : Joined). j.all) j;
      places = h.places ∙ ap (λ (j : Joined). is ++ j.places) j ∙ sym (append_assoc is (r ∷ []) (join_from D (r ∷ h.taken) js (drop (k + 1) E)).places);
    }
  where
    at : (i : ℕ) → i < n → get_or (set flags r true) i false ≡ eqb i r || any (eqb i) h.taken
    at i q = go (eqb i r) refl
      where
        go : (b : Bool) → eqb i r ≡ b → get_or (set flags r true) i false ≡ b || any (eqb i) h.taken
        go true e = let same : i ≡ r = borrow.Author.Tests.eqb-true i r e in ap (λ (m : ℕ). get_or (set flags r true) m false) same ∙ get_or-set_same flags r true false (let g = s.within in omega arith)
        go false e = get_or-set_other flags r i true false (borrow.Author.Tests.eqb-false i r e) ∙ h.shown i q

-- or comes behind
pub halfway-new : {D E : List Division} {n k : ℕ} {js : List Division} {flags : List Bool} {is : List ℕ} {e : Division} → Halfway D E n k js flags is → drop k E ≡ e ∷ drop (k + 1) E
    → Seeking e D n flags None → Halfway D E n (k + 1) (js ++ (e ∷ [])) flags (is ++ (length js ∷ []))
halfway-new {D} {E} {n} {k} {js} {flags} {is} {e} h here s =
    let z : seek e h.taken 0 D ≡ none = s.found h.taken h.shown in
    let j : join_from D h.taken js (drop k E) ≡ placed (length js) (join_from D h.taken (js ++ (e ∷ [])) (drop (k + 1) E)) = ap (join_from D h.taken js) here ∙ rw (z, join_from) refl in
    record {
      taken = h.taken;
      shown = h.shown;
      all = h.all ∙ ap (λ (j : Joined). j.all) j;
      places = h.places ∙ ap (λ (j : Joined). is ++ j.places) j ∙ sym (append_assoc is (length js ∷ []) (join_from D h.taken (js ++ (e ∷ [])) (drop (k + 1) E)).places);
    }

-- a ninth division
pub halfway-full : {D E : List Division} {n k : ℕ} {js : List Division} {flags : List Bool} {is : List ℕ} {e : Division} → Halfway D E n k js flags is → drop k E ≡ e ∷ drop (k + 1) E
    → Seeking e D n flags None → length js ≡ 8 → leb (length (join D E).all) 8 ≡ false
halfway-full {D} {E} {n} {k} {js} {flags} {is} {e} h here s w =
    let q = halfway-new h here s in
    let a = join-longer D q.taken (js ++ (e ∷ [])) (drop (k + 1) E) in
    let b = length-append js (e ∷ []) in
    let c : length (join D E).all ≡ length (join_from D q.taken (js ++ (e ∷ [])) (drop (k + 1) E)).all = ap length q.all in
    lt-leb (length (join D E).all) 8 (omega arith)

-- the division at place k, of the first n
pub division_here : (ds : List Stored) (n k : ℕ) → n ≤ length ds → k < n → drop k (map division_of (take n ds)) ≡ division_of (get_or ds k no_division) ∷ drop (k + 1) (map division_of (take n ds))
division_here ds n k l h =
    let D = map division_of (take n ds) in
    let w : length (take n ds) ≡ n = length-take-le n ds l in
    let g : k < length D = omega (arith, length-map (take n ds) division_of) in
    let e : get_or D k (division_of no_division) ≡ division_of (get_or ds k no_division) = get_or-map division_of (take n ds) k no_division ∙ ap division_of (get_or-take n ds k no_division h) in
    rw (add-one, sym e) (drop-cons D k (division_of no_division) g)

-- the same, as the code holds it
pub record Joins (ds : List Stored) (n : ℕ) (es : List Stored) (m k : ℕ) (divisions : List Stored) (divs : ℕ) (taken : List Bool) (places : List ℕ) : Type 0 where
  pub least : n ≤ divs
  pub few : divs ≤ 8
  pub wide : length divisions ≡ 8
  pub flags : length taken ≡ 8
  pub room : length places ≡ 8
  pub half : Halfway (map division_of (take n ds)) (map division_of (take m es)) n k (map division_of (take divs divisions)) taken (take k places)

pub halfway-end : (D E : List Division) (n k : ℕ) (js : List Division) (flags : List Bool) (is : List ℕ) → Halfway D E n k js flags is → length E ≤ k → ((join D E).all ≡ js) × ((join D E).places ≡ is)
halfway-end D E n k js flags is h l =
    let e : drop k E ≡ [] = drop_of_length-le E l in
    (h.all ∙ ap (λ (m : List Division). (join_from D h.taken js m).all) e, h.places ∙ ap (λ (m : List Division). is ++ (join_from D h.taken js m).places) e ∙ append-nil is)

module _ {ds es divisions : List Stored} {n m k divs : ℕ} {taken : List Bool} {places : List ℕ} (p : Joins ds n es m k divisions divs taken places) where
  joined-long : length (map division_of (take divs divisions)) ≡ divs
  joined-long = length-map (take divs divisions) division_of ∙ length-take-le divs divisions (let w = p.wide in let f = p.few in omega arith)

  module _ (l : m ≤ length es) (h : k < m) where
    here : drop k (map division_of (take m es)) ≡ division_of (get_or es k no_division) ∷ drop (k + 1) (map division_of (take m es))
    here = division_here es m k l h

    abbrev Sought : Option ℕ → Type 0
    Sought r = Seeking (division_of (get_or es k no_division)) (map division_of (take n ds)) n taken r

    pub joins_found : {r : ℕ} → Sought (Some r) → m ≤ 8 → Joins ds n es m (k + 1) divisions divs (set taken r true) (set places k r)
    joins_found {r} s b =
        record {
          least = p.least;
          few = p.few;
          wide = p.wide;
          flags = length-set taken r true ∙ p.flags;
          room = length-set places k r ∙ p.room;
          half =
              let q : take (k + 1) (set places k r) ≡ take k places ++ (r ∷ []) = rw (add-one) (take-suc-set places k r (let w = p.room in omega arith)) in
              rw q (halfway-found p.half here s p.flags (let w = p.least in let f = p.few in omega arith));
        }

    pub joins_new : Sought None → (divs ≡ 8 → ⊥) → m ≤ 8 → Joins ds n es m (k + 1) (set divisions divs (get_or es k no_division)) (divs + 1) taken (set places k divs)
    joins_new s v b =
        record {
          least = let w = p.least in omega arith;
          few = let w = p.few in omega arith;
          wide = length-set divisions divs (get_or es k no_division) ∙ p.wide;
          flags = p.flags;
          room = length-set places k divs ∙ p.room;
          half =
              let q : take (k + 1) (set places k divs) ≡ take k places ++ (length (map division_of (take divs divisions)) ∷ []) = rw (add-one, joined-long) (take-suc-set places k divs (let w = p.room in omega arith)) in
              let t = map-pushed division_of no_division divisions divs (get_or es k no_division) (let w = p.wide in let f = p.few in omega arith) in
              rw (q, t) (halfway-new p.half here s);
        }

    pub joins_full : Sought None → divs ≡ 8 → Joining (map division_of (take n ds)) (map division_of (take m es)) m None
    joins_full s v = record { fits = sym (halfway-full p.half here s (joined-long ∙ v)); few = tt; all = tt; places = tt }
