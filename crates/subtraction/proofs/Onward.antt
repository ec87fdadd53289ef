-- Basic sets one after the other, each cut by all cutters: what is made of those that are left makes the result whole.
use mathlib.Core.Path.{◌≡◌, refl, sym, ap, ap₂, ◌∙◌, subst, subst₂}
use mathlib.Core.Bool.{Bool, true, false, ◌&&◌}
use mathlib.Core.List.{List, [], ◌∷◌, map}
use Prim.Native.Nat.{ℕ, ◌+◌, ◌-◌, ◌≤◌, ◌<◌}
use native.Mathlib.Numerals.{add-one}
use native.Mathlib.Omega.{arith}
use borrow.Author.Tests.{ltb-true, ltb-false}
use lib.Dec.{ltb}
use lib.ListN.{length, take, drop, get_or, length-map, drop_of_length-le, get_or-map}
use lib.Seq.{drop-cons, get_or-take, length-take-le}
use Rattle.model.specs.Lists.{all, any, concat_map, All}
use Rattle.model.specs.Sets.{BasicSet, Set}
use Rattle.model.specs.Values.{basic_set_of}
use Rattle.model.specs.declared.BasicSet.{BasicSet as Stored}
use Rattle.model.proofs.Count.{to-T}
use Rattle.codec.specs.Places.{set_from, Boundary, Opened, Decoded, end_of}
use Rattle.codec.proofs.Boundaries.{Turn, turn, boundary_end, boundary-opened}
use Rattle.codec.specs.Valid.{Valid}
use Rattle.algebra.specs.Cut.{keeps, cut, cut_fits, cut_all, cut_all_fits}
use Rattle.algebra.specs.Tighten.{divisible}
use Rattle.algebra.proofs.Closed.{Tight, cut-valid, pieces-tight}
use Rattle.std.specs.Prelude.{Some, None}
use Rattle.cutting.specs.declared.pieces.CutSteps.{CutSteps}
use Rattle.records.specs.Sound.{Sound}
use Rattle.cutting.specs.Cutting.{Step, piece_of, Pair, CutTightIs, CutIs, Piece, PieceIs}
use Rattle.cutting.proofs.Turns.{cut-is}
use Rattle.joining.proofs.Placing.{All-at}
use Rattle.results.specs.declared.results.Done.{Done}
use Rattle.results.specs.Results.{Ready, Emits}
use Rattle.subtraction.specs.Subtraction.{Level, TightAt}
use Rattle.results.proofs.Chained.{emits_none, emits-refused, emits-more, emits-stop}

pub emits-as : {l m : Set} {f g : Bool} {o o' : List ℕ} {s r : Done} → l ≡ m → f ≡ g → Emits m g o s r o' → Emits l f o s r o'
emits-as {o = o} {o' = o'} {s = s} {r = r} p q e = subst₂ (λ (x : Set) (y : Bool). Emits x y o s r o') (sym p) (sym q) e

-- ---- one basic set after the other

-- f of all basic sets l comes behind what s has in o, once f of those that are left comes behind what t has in o'
pub record Onward (f : BasicSet → Set) (g : BasicSet → Bool) (l left : Set) (o : List ℕ) (s : Done) (o' : List ℕ) (t : Done) : Type 0 where
  pub ready : Ready t
  pub whole : (r : Done) (o'' : List ℕ) → Emits (concat_map f left) (all g left) o' t r o'' → Emits (concat_map f l) (all g l) o s r o''

module _ {f : BasicSet → Set} {g : BasicSet → Bool} {l : Set} {o : List ℕ} {s : Done} where
  pub onward-start : Ready s → Onward f g l l o s o s
  onward-start r = record { ready = r; whole = λ r o' e. e }

  pub onward-end : {left : Set} {o' : List ℕ} {t : Done} → left ≡ [] → Onward f g l left o s o' t → Emits (concat_map f l) (all g l) o s t o'
  onward-end {o' = o'} {t = t} e w = (subst (λ (m : Set). Onward f g l m o s o' t) e w).whole t o' (emits_none o' t w.ready)

  module _ {b : BasicSet} {left left' : Set} {o₁ o₂ : List ℕ} {t r : Done} (split : left ≡ b ∷ left') (w : Onward f g l left o s o₁ t) (e : Emits (f b) (g b) o₁ t r o₂) where
    here : Onward f g l (b ∷ left') o s o₁ t
    here = subst (λ (m : Set). Onward f g l m o s o₁ t) split w

    pub onward-next : r.fits ≡ true → Onward f g l left' o s o₂ r
    onward-next h = record { ready = e.ready h; whole = λ r' o₃ e'. here.whole r' o₃ (emits-more (f b) (concat_map f left') (g b) (all g left') o₁ o₂ t r e o₃ r' h e') }

    pub onward-stop : r.fits ≡ false → Emits (concat_map f l) (all g l) o s r o₂
    onward-stop h = here.whole r o₂ (emits-stop (f b) (concat_map f left') (g b) (all g left') o₁ o₂ t r e h)

-- ---- one level

module _ {left : ℕ} {p : Stored} {b : List ℕ} {pos : ℕ} (level : Level left p b pos) where
  pub level-sound : Sound p
  level-sound = record { n = level.n; valid = level.valid; divs = level.divs; cons = level.cons }

  -- no cutter is left: p stays as it is
  pub level-last : left ≡ 0 → {o o' : List ℕ} {s r : Done} → Emits (basic_set_of p ∷ []) true o s r o' → Emits (cut_all keeps (set_from b pos) (basic_set_of p)) (cut_all_fits keeps (set_from b pos) (basic_set_of p)) o s r o'
  unfolding cut_all
  level-last z e = emits-as (ap (λ (cs : Set). cut_all keeps cs (basic_set_of p)) none) (ap (λ (cs : Set). cut_all_fits keeps cs (basic_set_of p)) none) e
    where
      empty : (l : Set) → length l ≡ 0 → l ≡ []
      empty [] h = refl
      empty (c ∷ l) h = absurd (omega arith)

      none : set_from b pos ≡ []
      none = empty (set_from b pos) (level.many ∙ z)

  module _ (some : left ≡ 0 → ⊥) where
    pub level-inside : pos < length b
    level-inside = at (ltb pos (length b)) refl
      where
        at : (x : Bool) → ltb pos (length b) ≡ x → pos < length b
        at true e = ltb-true pos (length b) e
        at false e = absurd (some (sym level.many ∙ ap length (boundary_end b pos (ltb-false pos (length b) e))))

    pub level-opened : Opened b (pos + 1)
    level-opened = boundary-opened level.n b pos level.here level-inside

    module _ {v : Stored} (d : Decoded b (pos + 1) v) where
      pub level-turn : Turn level.n b pos v
      level-turn = turn level.n b pos level.here level-inside v d

      pub level-cutters : All (Valid level.n) (basic_set_of v ∷ set_from b (end_of b (pos + 1)))
      level-cutters = subst (All (Valid level.n)) level-turn.set level.cutters

      pub level-pair : Pair p v
      level-pair = record { n = level.n; first = level.valid; second = level-cutters.0; divs = level.divs; cons = level.cons; divs' = d.divs; cons' = d.cons }

      pub level-over : TightAt left p → CutTightIs p v None → (o o' : List ℕ) (s : Done) (at count : ℕ)
          → Emits (cut_all keeps (set_from b pos) (basic_set_of p)) (cut_all_fits keeps (set_from b pos) (basic_set_of p)) o s (record { at = at; count = count; fits = false }) o'
      level-over t i o o' s at count =
          let k = cut-is p v (t some) None i in
          emits-refused (cut_all keeps (set_from b pos) (basic_set_of p)) (cut_all_fits keeps (set_from b pos) (basic_set_of p)) o o' s at count
          (ap (λ (cs : Set). cut_all_fits keeps cs (basic_set_of p)) level-turn.set
          ∙ ap (λ (x : Bool). x && all (cut_all_fits keeps (set_from b (end_of b (pos + 1)))) (cut keeps (basic_set_of p) (basic_set_of v))) (sym k.fits))

-- p, cut by the first cutter v: the steps of c are the pieces
pub record Pieced (left : ℕ) (p : Stored) (b : List ℕ) (pos : ℕ) (v : Stored) (next : ℕ) (c : CutSteps) : Type 0 where
  pub level : Level left p b pos
  pub some : left ≡ 0 → ⊥
  pub decoded : Decoded b (pos + 1) v
  pub ends : next ≡ end_of b (pos + 1)
  pub cuts : TightAt left p
  pub tight : CutTightIs p v (Some c)
  pub long : length c.steps ≡ 96

abbrev pub pieces_of : CutSteps → Set
pieces_of c = map (piece_of (basic_set_of c.working)) (take c.count c.steps)

module _ {left : ℕ} {p : Stored} {b : List ℕ} {pos : ℕ} {v : Stored} {next : ℕ} {c : CutSteps} (x : Pieced left p b pos v next c) where
  is_cut : CutIs p v (Some c)
  is_cut = cut-is p v (x.cuts x.some) (Some c) x.tight

  here-turn : Turn x.level.n b pos v
  here-turn = level-turn x.level x.some x.decoded

  set : set_from b pos ≡ basic_set_of v ∷ set_from b next
  set = here-turn.set ∙ ap (λ (m : ℕ). basic_set_of v ∷ set_from b m) (sym x.ends)

  valid : All (Valid x.level.n) (basic_set_of v ∷ set_from b next)
  valid = subst (All (Valid x.level.n)) set x.level.cutters

  -- the remaining cutters on each piece
  pub pieced-whole : {o o' : List ℕ} {s r : Done}
      → Emits (concat_map (cut_all keeps (set_from b next)) (pieces_of c)) (all (cut_all_fits keeps (set_from b next)) (pieces_of c)) o s r o'
      → Emits (cut_all keeps (set_from b pos) (basic_set_of p)) (cut_all_fits keeps (set_from b pos) (basic_set_of p)) o s r o'
  unfolding cut_all
  pieced-whole e =
      let k = sym (is_cut.pieces) in
      emits-as
      (ap (λ (cs : Set). cut_all keeps cs (basic_set_of p)) set ∙ ap (concat_map (cut_all keeps (set_from b next))) k)
      (ap (λ (cs : Set). cut_all_fits keeps cs (basic_set_of p)) set ∙ ap₂ (λ (y : Bool) (l : Set). y && all (cut_all_fits keeps (set_from b next)) l) (sym is_cut.fits) k)
      e

  pub steps-long : length (take c.count c.steps) ≡ c.count
  steps-long = length-take-le c.count c.steps (let h = is_cut.count in let l = x.long in omega arith)

  pieces-long : length (pieces_of c) ≡ c.count
  pieces-long = length-map (take c.count c.steps) (piece_of (basic_set_of c.working)) ∙ steps-long

  pub pieced-end : (i : ℕ) → c.count ≤ i → drop i (pieces_of c) ≡ []
  pieced-end i h = drop_of_length-le (pieces_of c) (subst (λ (m : ℕ). m ≤ i) (sym pieces-long) h)

  module _ {i : ℕ} (h : i < c.count) where
    pub pieced-step : Piece c.working (get_or c.steps i 0)
    pieced-step =
        record {
          sound = record { n = x.level.n; valid = is_cut.valid x.level.n x.level.valid valid.0; divs = is_cut.divs; cons = is_cut.cons };
          step =
              subst (Step (basic_set_of c.working).constraints) (get_or-take c.count c.steps i 0 h)
              (All-at (Step (basic_set_of c.working).constraints) (take c.count c.steps) i 0 (subst (λ (m : ℕ). i < m) (sym steps-long) h) (is_cut.steps));
        }

    module _ {q : Stored} (is : PieceIs c.working (get_or c.steps i 0) q) where
      inside : i < length (pieces_of c)
      inside = subst (λ (m : ℕ). i < m) (sym pieces-long) h

      piece-at : get_or (pieces_of c) i (piece_of (basic_set_of c.working) 0) ≡ basic_set_of q
      piece-at = get_or-map (piece_of (basic_set_of c.working)) (take c.count c.steps) i 0 ∙ ap (piece_of (basic_set_of c.working)) (get_or-take c.count c.steps i 0 h) ∙ sym is.is

      pub pieced-next : drop i (pieces_of c) ≡ basic_set_of q ∷ drop (i + 1) (pieces_of c)
      pieced-next =
          drop-cons (pieces_of c) i (piece_of (basic_set_of c.working) 0) inside
          ∙ ap₂ (λ (y : BasicSet) (j : ℕ). y ∷ drop j (pieces_of c)) piece-at (sym (add-one i))

      -- the next level has one cutter less
      pub pieced-level : Level (left - 1) q b next
      pieced-level =
          let n = x.level.n in
          let f = to-T (cut_fits keeps (basic_set_of p) (basic_set_of v)) (sym is_cut.fits) in
          let every = subst (All (Valid n)) (sym (is_cut.pieces)) (cut-valid keeps n (basic_set_of p) (basic_set_of v) x.level.valid valid.0 f) in
          record {
            n = n;
            here = subst (Boundary n b) (sym x.ends) here-turn.there;
            cutters = valid.1;
            many = let e = ap length set in let m = x.level.many in omega arith;
            valid = subst (Valid n) piece-at (All-at (Valid n) (pieces_of c) i (piece_of (basic_set_of c.working) 0) inside every);
            divs = let e = is.divs in let l = is_cut.divs in omega arith;
            cons = is.cons;
          }

      -- and its piece is tight
      pub pieced-tight : any divisible (basic_set_of q).constraints ≡ false
      pieced-tight =
          let every = subst (All Tight) (sym (x.tight.pieces)) (pieces-tight keeps x.level.n (basic_set_of p) (basic_set_of v) (x.cuts x.some)) in
          subst Tight piece-at (All-at Tight (pieces_of c) i (piece_of (basic_set_of c.working) 0) inside every)
