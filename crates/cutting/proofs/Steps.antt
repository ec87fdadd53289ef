-- A cut step by step: the constraints that joined, and the steps from which its pieces are made.
use mathlib.Core.Path.{◌≡◌, refl, sym, ap, ap₂, ◌∙◌, subst}
use mathlib.Core.Bool.{Bool, true, false, not, ◌&&◌, ◌||◌, cond}
use mathlib.Core.List.{List, [], ◌∷◌, ◌++◌, map, append_assoc, append-nil}
use Prim.Native.Nat.{ℕ, zero, suc, ◌+◌, ◌/◌, ◌%◌, ◌≤◌, ◌<◌}
use native.Mathlib.Nat.{le_refl, add-zero}
use native.Mathlib.Numerals.{add-one}
use native.Mathlib.Omega.{arith}
use borrow.Author.Tests.{eq-eqb, ne_eqb, le-leb, lt-leb}
use lib.Dec.{eqb}
use lib.ListN.{length, take, drop, get_or, set, length-append, length-set, drop_of_length-le, get_or-append}
use lib.Seq.{drop-cons, take-append-le, take-append_seam, get_or-append_seam, take-suc-set, take-set-le}
use Rattle.model.specs.Lists.{cons_if, is_nil, All}
use Rattle.model.specs.Sets.{Division, Kind, equality, inequality, Constraint, BasicSet}
use Rattle.model.specs.Values.{constraint_of}
use Rattle.model.specs.declared.Constraint.{Constraint as StoredConstraint}
use Rattle.model.proofs.Lists.{all_app}
use Rattle.codec.specs.Valid.{ValidConstraint}
use Rattle.integers.specs.Mach.{clash}
use Rattle.algebra.specs.Tighten.{void, tight}
use Rattle.algebra.specs.Cut.{above, below, opposites, opposites_at, ends, kept, cut_by, candidates_fit}
use Rattle.joining.specs.Joining.{reduced_of}
use Rattle.candidates.specs.Candidates.{with_last, candidate, is_equality, no_rule}
use Rattle.cutting.specs.Cutting.{piece_of, Step, steps_at}
use Rattle.joining.proofs.Placing.{map-pushed, no_constraint}
use Rattle.joining.proofs.Dividing.{reduced-kind, reduced-below, reduced-above, reduced-tight, reduced-valid}

-- ---- what a turn stores

pub bit-small : (b : Bool) → cond b 1 0 ≤ 1
bit-small true = omega arith
bit-small false = omega arith

-- the next constraint is a later one, at most the end
pub passed_on : (b : Bool) (k n m : ℕ) → k < n → m ≡ cond b n (k + 1) → (k < m) × (m ≤ n)
passed_on true k n m h e = (omega arith, omega arith)
passed_on false k n m h e = (omega arith, omega arith)

-- one step each for those that are kept
pub steps-stored : (l : List ℕ) (n u v : ℕ) (a b : Bool) → n + 1 < length l → take (n + cond a 1 0 + cond b 1 0) (set (set l n u) (n + cond a 1 0) v) ≡ take n l ++ (cond a (u ∷ []) [] ++ cond b (v ∷ []) [])
steps-stored l n u v true true h =
    let g : n < length l = omega arith in
    let k : n + 1 < length (set l n u) = rw (length-set) h in
    let e : take (n + 1 + 1) (set (set l n u) (n + 1) v) ≡ take (n + 1) (set l n u) ++ (v ∷ []) = rw (add-one (n + 1)) (take-suc-set (set l n u) (n + 1) v k) in
    let f : take (n + 1) (set l n u) ≡ take n l ++ (u ∷ []) = rw (add-one) (take-suc-set l n u g) in
    e ∙ ap (λ (x : List ℕ). x ++ (v ∷ [])) f ∙ append_assoc (take n l) (u ∷ []) (v ∷ [])
steps-stored l n u v true false h =
    let g : n < length l = omega arith in
    let f : take (n + 1) (set l n u) ≡ take n l ++ (u ∷ []) = rw (add-one) (take-suc-set l n u g) in
    ap (λ (k : ℕ). take k (set (set l n u) (n + 1) v)) (add-zero (n + 1)) ∙ take-set-le (n + 1) (set l n u) (n + 1) v (le_refl (n + 1)) ∙ f
steps-stored l n u v false true h =
    let k : n < length (set l n u) = rw (length-set) (omega arith) in
    let e : take (n + 1) (set (set l n u) n v) ≡ take n (set l n u) ++ (v ∷ []) = rw (add-one) (take-suc-set (set l n u) n v k) in
    ap (λ (j : ℕ). take (j + 1) (set (set l n u) j v)) (add-zero n) ∙ e ∙ ap (λ (x : List ℕ). x ++ (v ∷ [])) (take-set-le n l n u (le_refl n))
steps-stored l n u v false false h =
    ap (λ (j : ℕ). take j (set (set l n u) (n + 0) v)) (add-zero (n + 0)) ∙ ap (λ (j : ℕ). take j (set (set l n u) j v)) (add-zero n)
    ∙ take-set-le n (set l n u) n v (le_refl n) ∙ take-set-le n l n u (le_refl n) ∙ sym (append-nil (take n l))

pub joined-stored : (cs : List StoredConstraint) (n : ℕ) (r : StoredConstraint) (b : Bool) → n < length cs
    → map constraint_of (take (n + cond b 1 0) (set cs n r)) ≡ cond b (map constraint_of (take n cs) ++ (constraint_of r ∷ [])) (map constraint_of (take n cs))
joined-stored cs n r true h = map-pushed constraint_of no_constraint cs n r h
joined-stored cs n r false h = rw (add-zero) (ap (map constraint_of) (take-set-le n cs n r (le_refl n)))

-- ---- one constraint of the cutter

module _ (ds : List Division) where
  abbrev over : List Constraint → BasicSet
  over w = record { divisions = ds; constraints = w }

  abbrev two : Bool → Bool → BasicSet → BasicSet → List BasicSet
  two a b x y = cond a (x ∷ []) [] ++ cond b (y ∷ []) []

  -- the kept candidates, from what is kept of each
  module _ (keep : BasicSet → Bool) (w : List Constraint) (r : Constraint) (a b : Bool)
      (p : a ≡ is_equality r.kind && keep (candidate (over w) (tight (above r)))) (q : b ≡ keep (candidate (over w) (tight (below r)))) where
    pub kept-is : kept keep ds w (opposites r) ≡ two a b (candidate (over w) (tight (above r))) (candidate (over w) (tight (below r)))
    kept-is = at r.kind p
      where
        ends : (c : Bool) (y : BasicSet) → cons_if c y [] ≡ cond c (y ∷ []) []
        ends true y = refl
        ends false y = refl

        then : (c : Bool) (x : BasicSet) (l : List BasicSet) → cons_if c x l ≡ cond c (x ∷ []) [] ++ l
        then true x l = refl
        then false x l = refl

        at : (k : Kind) → a ≡ is_equality k && keep (candidate (over w) (tight (above r))) → kept keep ds w (opposites_at k r) ≡ two a b (candidate (over w) (tight (above r))) (candidate (over w) (tight (below r)))
        at equality p =
            then (keep (candidate (over w) (tight (above r)))) (candidate (over w) (tight (above r))) (cons_if (keep (candidate (over w) (tight (below r)))) (candidate (over w) (tight (below r))) [])
            ∙ ap₂ (λ (c : Bool) (l : List BasicSet). cond c (candidate (over w) (tight (above r)) ∷ []) [] ++ l) (sym p) (ends (keep (candidate (over w) (tight (below r)))) (candidate (over w) (tight (below r))) ∙ ap (λ (c : Bool). cond c (candidate (over w) (tight (below r)) ∷ []) []) (sym q))
        at inequality p =
            ends (keep (candidate (over w) (tight (below r)))) (candidate (over w) (tight (below r)))
            ∙ ap₂ (λ (c d : Bool). cond c (candidate (over w) (tight (above r)) ∷ []) [] ++ cond d (candidate (over w) (tight (below r)) ∷ []) []) (sym p) (sym q)

    nil-two : (c d : Bool) (x y : BasicSet) (u v : List Constraint) → cond (is_nil (two c d x y)) u v ≡ cond (c || d) v u
    nil-two true d x y u v = refl
    nil-two false true x y u v = refl
    nil-two false false x y u v = refl

    pub working-is : cond (is_nil (kept keep ds w (opposites r))) w (w ++ (tight r ∷ [])) ≡ cond (a || b) (w ++ (tight r ∷ [])) w
    working-is = ap (λ (l : List BasicSet). cond (is_nil l) w (w ++ (tight r ∷ []))) kept-is ∙ nil-two a b (candidate (over w) (tight (above r))) (candidate (over w) (tight (below r))) w (w ++ (tight r ∷ []))

    some-two : (c d : Bool) (x y : BasicSet) → not (is_nil (two c d x y)) ≡ (c || d)
    some-two true d x y = refl
    some-two false true x y = refl
    some-two false false x y = refl

    -- whether it ends the cut
    pub ends_is : ends (kept keep ds w (opposites r)) r ≡ ((a || b) && void r)
    ends_is = ap (λ (c : Bool). c && void r) (ap (λ (l : List BasicSet). not (is_nil l)) kept-is ∙ some-two a b (candidate (over w) (tight (above r))) (candidate (over w) (tight (below r))))

    pub above_equal : a ≡ true → r.kind ≡ equality
    above_equal t = at r.kind refl p
      where
        at : (k : Kind) → r.kind ≡ k → a ≡ is_equality k && keep (candidate (over w) (tight (above r))) → r.kind ≡ equality
        at equality e p = e
        at inequality e p = clash t p

  -- the steps at a constraint's place make these candidates
  module _ (w : List Constraint) (r : Constraint) where
    full : List Constraint
    full = w ++ (r ∷ [])

    seam : (v : ℕ) → v / 2 ≡ length w → (o : Constraint → Constraint → Constraint)
        → with_last (over (w ++ (r ∷ []))) (v / 2) (o (get_or (w ++ (r ∷ [])) (v / 2) no_rule) (get_or (w ++ (r ∷ [])) (v / 2) no_rule)) ≡ candidate (over w) (o r r)
    seam v e o =
        ap (λ (k : ℕ). with_last (over (w ++ (r ∷ []))) k (o (get_or (w ++ (r ∷ [])) k no_rule) (get_or (w ++ (r ∷ [])) k no_rule))) e
        ∙ ap₂ (λ (l : List Constraint) (x : Constraint). record { divisions = ds; constraints = l ++ (o x x ∷ []) }) (take-append_seam w (r ∷ [])) (get_or-append_seam w r [] no_rule)

    odd-piece : piece_of (over (w ++ (r ∷ []))) (length w + length w + 1) ≡ candidate (over w) (tight (above r))
    odd-piece =
        let h : (length w + length w + 1) / 2 ≡ length w = omega arith in
        let m : (length w + length w + 1) % 2 ≡ 1 = omega arith in
        seam (length w + length w + 1) h (λ x y. cond (eqb ((length w + length w + 1) % 2) 1) (tight (above x)) (tight (below y)))
        ∙ ap (λ (c : Bool). candidate (over w) (cond c (tight (above r)) (tight (below r)))) (eq-eqb ((length w + length w + 1) % 2) 1 m)

    even-piece : piece_of (over (w ++ (r ∷ []))) (length w + length w + 0) ≡ candidate (over w) (tight (below r))
    even-piece =
        let h : (length w + length w + 0) / 2 ≡ length w = omega arith in
        let m : (length w + length w + 0) % 2 ≡ 1 → ⊥ = λ e. omega arith in
        seam (length w + length w + 0) h (λ x y. cond (eqb ((length w + length w + 0) % 2) 1) (tight (above x)) (tight (below y)))
        ∙ ap (λ (c : Bool). candidate (over w) (cond c (tight (above r)) (tight (below r)))) (ne_eqb ((length w + length w + 0) % 2) 1 m)

    new_pieces : (a b : Bool) → map (piece_of (over (cond (a || b) (w ++ (r ∷ [])) w))) (steps_at (length w) a b) ≡ two a b (candidate (over w) (tight (above r))) (candidate (over w) (tight (below r)))
    new_pieces true true = ap₂ (λ (x y : BasicSet). x ∷ y ∷ []) odd-piece even-piece
    new_pieces true false = ap (λ (x : BasicSet). x ∷ []) odd-piece
    new_pieces false true = ap (λ (x : BasicSet). x ∷ []) even-piece
    new_pieces false false = refl

    old-piece : (v : ℕ) → v / 2 < length w → piece_of (over (w ++ (r ∷ []))) v ≡ piece_of (over w) v
    old-piece v h =
        ap₂ (λ (l : List Constraint) (x : Constraint). record { divisions = ds; constraints = l ++ (cond (eqb (v % 2) 1) (tight (above x)) (tight (below x)) ∷ []) })
        (take-append-le (v / 2) w (r ∷ []) (omega arith)) (get_or-append w (r ∷ []) no_rule (v / 2) h)

    old-pieces : (vs : List ℕ) → All (Step w) vs → map (piece_of (over (w ++ (r ∷ [])))) vs ≡ map (piece_of (over w)) vs
    old-pieces [] s = refl
    old-pieces (v ∷ vs) s = ap₂ (λ (x : BasicSet) (l : List BasicSet). x ∷ l) (old-piece v s.0.inside) (old-pieces vs s.1)

    kept_pieces : (c : Bool) (vs : List ℕ) → All (Step w) vs → map (piece_of (over (cond c (w ++ (r ∷ [])) w))) vs ≡ map (piece_of (over w)) vs
    kept_pieces true vs s = old-pieces vs s
    kept_pieces false vs s = refl

-- ---- steps stay steps

step-more : (w : List Constraint) (r : Constraint) (v : ℕ) → Step w v → Step (w ++ (r ∷ [])) v
step-more w r v s =
    record {
      inside = let e = length-append w (r ∷ []) in let h = s.inside in omega arith;
      equal = λ m. ap (λ (x : Constraint). x.kind) (get_or-append w (r ∷ []) no_rule (v / 2) s.inside) ∙ s.equal m;
    }

steps-more : (c : Bool) (w : List Constraint) (r : Constraint) (vs : List ℕ) → All (Step w) vs → All (Step (cond c (w ++ (r ∷ [])) w)) vs
steps-more false w r vs s = s
steps-more true w r [] s = tt
steps-more true w r (v ∷ vs) s = (step-more w r v s.0, steps-more true w r vs s.1)

steps-new : (w : List Constraint) (r : Constraint) (a b : Bool) → (a ≡ true → r.kind ≡ equality) → All (Step (cond (a || b) (w ++ (r ∷ [])) w)) (steps_at (length w) a b)
steps-new w r a b q = at a b q
  where
    odd : r.kind ≡ equality → Step (w ++ (r ∷ [])) (length w + length w + 1)
    odd e =
        let h : (length w + length w + 1) / 2 ≡ length w = omega arith in
        record {
          inside = let l = length-append w (r ∷ []) in omega arith;
          equal = λ m. ap (λ (k : ℕ). (get_or (w ++ (r ∷ [])) k no_rule).kind) h ∙ ap (λ (x : Constraint). x.kind) (get_or-append_seam w r [] no_rule) ∙ e;
        }

    even : Step (w ++ (r ∷ [])) (length w + length w + 0)
    even =
        record {
          inside = let l = length-append w (r ∷ []) in omega arith;
          equal = λ m. absurd (no m);
        }
      where
        no : (length w + length w + 0) % 2 ≡ 1 → ⊥
        no m = omega arith

    at : (a b : Bool) → (a ≡ true → r.kind ≡ equality) → All (Step (cond (a || b) (w ++ (r ∷ [])) w)) (steps_at (length w) a b)
    at true true q = (odd (q refl), (even, tt))
    at true false q = (odd (q refl), tt)
    at false true q = (even, tt)
    at false false q = tt

-- ---- the cut so far: k constraints of the cutter done, w joined, the pieces made from the steps

pub record Carved (keep : BasicSet → Bool) (ds : List Division) (w₀ rs : List Constraint) (k : ℕ) (w : List Constraint) (vs : List ℕ) : Type 0 where
  pub pieces : map (piece_of (over ds w)) vs ++ cut_by keep ds w (drop k rs) ≡ cut_by keep ds w₀ rs
  pub fits : candidates_fit keep ds w (drop k rs) ≡ candidates_fit keep ds w₀ rs
  pub steps : All (Step w) vs
  pub every : (n d : ℕ) → All (ValidConstraint n d) w₀ → All (ValidConstraint n d) rs → All (ValidConstraint n d) w

pub carved-start : (keep : BasicSet → Bool) (ds : List Division) (w rs : List Constraint) → Carved keep ds w rs 0 w []
carved-start keep ds w rs = record { pieces = refl; fits = refl; steps = tt; every = λ n d p q. p }

module _ (keep : BasicSet → Bool) (ds : List Division) (w₀ rs : List Constraint) (k : ℕ) (w : List Constraint) (vs : List ℕ) (c : Carved keep ds w₀ rs k w vs) where
  -- a candidate over 48
  pub carved-full : k < length rs → 48 ≤ length w → candidates_fit keep ds w₀ rs ≡ false
  carved-full h g =
      let l : 48 < length w + 1 = omega arith in
      sym c.fits ∙ ap (candidates_fit keep ds w) (drop-cons rs k no_rule h)
      ∙ ap (λ (b : Bool). b && cond (ends (kept keep ds w (opposites (get_or rs k no_rule))) (get_or rs k no_rule)) true (candidates_fit keep ds (cond (is_nil (kept keep ds w (opposites (get_or rs k no_rule)))) w (w ++ (tight (get_or rs k no_rule) ∷ []))) (drop (suc k) rs))) (lt-leb (length w + 1) 48 l)

  -- the next constraint r of the cutter, stored as it joins, with a and b what is kept of the stored one's opposites
  module _ (h : k < length rs) (room : length w < 48) (r s : Constraint) (is : get_or rs k no_rule ≡ r) (joining-rule : s ≡ reduced_of r) (a b : Bool)
      (p : a ≡ is_equality s.kind && keep (candidate (over ds w) (tight (above s)))) (q : b ≡ keep (candidate (over ds w) (tight (below s)))) where
    here : drop k rs ≡ r ∷ drop (k + 1) rs
    here = rw (add-one) (drop-cons rs k no_rule h ∙ ap (λ (x : Constraint). x ∷ drop (suc k) rs) is)

    kind-is : s.kind ≡ r.kind
    kind-is = ap (λ (x : Constraint). x.kind) joining-rule ∙ reduced-kind r

    below-is : tight (below s) ≡ tight (below r)
    below-is = ap (λ (x : Constraint). tight (below x)) joining-rule ∙ reduced-below r

    above-is : r.kind ≡ equality → tight (above s) ≡ tight (above r)
    above-is e = ap (λ (x : Constraint). tight (above x)) joining-rule ∙ reduced-above r e

    p-raw : a ≡ is_equality r.kind && keep (candidate (over ds w) (tight (above r)))
    p-raw = p ∙ ap (λ (k : Kind). is_equality k && keep (candidate (over ds w) (tight (above s)))) kind-is ∙ at r.kind above-is
      where
        at : (k : Kind) → (k ≡ equality → tight (above s) ≡ tight (above r)) → (is_equality k && keep (candidate (over ds w) (tight (above s)))) ≡ (is_equality k && keep (candidate (over ds w) (tight (above r))))
        at equality f = ap (λ (x : Constraint). keep (candidate (over ds w) x)) (f refl)
        at inequality f = refl

    q-raw : b ≡ keep (candidate (over ds w) (tight (below r)))
    q-raw = q ∙ ap (λ (x : Constraint). keep (candidate (over ds w) x)) below-is

    equal : a ≡ true → r.kind ≡ equality
    equal = above_equal ds keep w r a b p-raw q-raw

    -- the pieces made from the stored constraint are the candidates
    same-two : two ds a b (candidate (over ds w) (tight (above s))) (candidate (over ds w) (tight (below s))) ≡ two ds a b (candidate (over ds w) (tight (above r))) (candidate (over ds w) (tight (below r)))
    same-two = at a equal ∙ ap (λ (x : Constraint). two ds a b (candidate (over ds w) (tight (above r))) (candidate (over ds w) x)) below-is
      where
        at : (c : Bool) → (c ≡ true → r.kind ≡ equality) → two ds c b (candidate (over ds w) (tight (above s))) (candidate (over ds w) (tight (below s))) ≡ two ds c b (candidate (over ds w) (tight (above r))) (candidate (over ds w) (tight (below s)))
        at true f = ap (λ (x : Constraint). two ds true b (candidate (over ds w) x) (candidate (over ds w) (tight (below s)))) (above-is (f refl))
        at false f = refl

    module _ (k' : ℕ) (to : k' ≡ cond ((a || b) && void r) (length rs) (k + 1)) where
      -- a function of the working constraints and the constraints left, where none are left
      left_is : {X : Type 0} (f : List Constraint → List Constraint → X) (x : X) → ((l : List Constraint) → f l [] ≡ x)
          → f (cond (a || b) (w ++ (s ∷ [])) w) (drop k' rs) ≡ cond (ends (kept keep ds w (opposites r)) r) x (f (cond (is_nil (kept keep ds w (opposites r))) w (w ++ (tight r ∷ []))) (drop (k + 1) rs))
      left_is f x z =
          ap (λ (n : ℕ). f (cond (a || b) (w ++ (s ∷ [])) w) (drop n rs)) to ∙ at (a || b) (void r) refl
          ∙ sym (ap₂ (λ (c : Bool) (l : List Constraint). cond c x (f l (drop (k + 1) rs))) (ends_is ds keep w r a b p-raw q-raw) (working-is ds keep w r a b p-raw q-raw))
        where
          at : (c d : Bool) → void r ≡ d → f (cond c (w ++ (s ∷ [])) w) (drop (cond (c && d) (length rs) (k + 1)) rs) ≡ cond (c && d) x (f (cond c (w ++ (tight r ∷ [])) w) (drop (k + 1) rs))
          at true true e = ap (f (w ++ (s ∷ []))) (drop_of_length-le rs (le_refl (length rs))) ∙ z (w ++ (s ∷ []))
          at true false e = ap (λ (y : Constraint). f (w ++ (y ∷ [])) (drop (k + 1) rs)) (joining-rule ∙ reduced-tight r e)
          at false d e = refl

      pub carved-next : Carved keep ds w₀ rs k' (cond (a || b) (w ++ (s ∷ [])) w) (vs ++ steps_at (length w) a b)
      carved-next =
          let w' : List Constraint = cond (a || b) (w ++ (s ∷ [])) w in
          let l : length w + 1 ≤ 48 = omega arith in
          let K : List BasicSet = two ds a b (candidate (over ds w) (tight (above r))) (candidate (over ds w) (tight (below r))) in
          record {
            pieces =
                ap (λ (x : List BasicSet). x ++ cut_by keep ds w' (drop k' rs))
                (map_both (piece_of (over ds w')) vs (steps_at (length w) a b) ∙ ap₂ (λ (x y : List BasicSet). x ++ y) (kept_pieces ds w s (a || b) vs c.steps) (new_pieces ds w s a b ∙ same-two))
                ∙ append_assoc (map (piece_of (over ds w)) vs) K (cut_by keep ds w' (drop k' rs))
                ∙ ap (λ (x : List BasicSet). map (piece_of (over ds w)) vs ++ x)
                (ap₂ (λ (x y : List BasicSet). x ++ y) (sym (kept-is ds keep w r a b p-raw q-raw)) (left_is (cut_by keep ds) [] (λ l. refl))
                ∙ ap (cut_by keep ds w) (sym here))
                ∙ c.pieces;
            fits =
                left_is (candidates_fit keep ds) true (λ l. refl)
                ∙ sym (ap (λ (x : Bool). x && cond (ends (kept keep ds w (opposites r)) r) true (candidates_fit keep ds (cond (is_nil (kept keep ds w (opposites r))) w (w ++ (tight r ∷ []))) (drop (k + 1) rs))) (le-leb (length w + 1) 48 l))
                ∙ ap (candidates_fit keep ds w) (sym here)
                ∙ c.fits;
            steps = all_app (Step w') vs (steps_at (length w) a b) (steps-more (a || b) w s vs c.steps) (steps-new w s a b (λ t. kind-is ∙ equal t));
            every = λ n d x y. every_more n d (c.every n d x y) y (a || b);
          }
        where
          map_both : (f : ℕ → BasicSet) (l m : List ℕ) → map f (l ++ m) ≡ map f l ++ map f m
          map_both f [] m = refl
          map_both f (x ∷ l) m = ap (λ (z : List BasicSet). f x ∷ z) (map_both f l m)

          last : (P : Constraint → Type 0) (j : ℕ) (l : List Constraint) → All P l → All P (drop j l)
          last P zero l p = p
          last P (suc j) [] p = p
          last P (suc j) (x ∷ l) p = last P j l p.1

          every_more : (n d : ℕ) → All (ValidConstraint n d) w → All (ValidConstraint n d) rs → (t : Bool) → All (ValidConstraint n d) (cond t (w ++ (s ∷ [])) w)
          every_more n d x y false = x
          every_more n d x y true = all_app (ValidConstraint n d) w (s ∷ []) x (subst (ValidConstraint n d) (sym joining-rule) (reduced-valid n d r (subst (All (ValidConstraint n d)) here (last (ValidConstraint n d) k rs y)).0), tt)

  pub carved-end : length rs ≤ k → (map (piece_of (over ds w)) vs ≡ cut_by keep ds w₀ rs) × (candidates_fit keep ds w₀ rs ≡ true)
  carved-end h =
      let e : drop k rs ≡ [] = drop_of_length-le rs h in (
        sym (ap (λ (l : List Constraint). map (piece_of (over ds w)) vs ++ cut_by keep ds w l) e ∙ append-nil (map (piece_of (over ds w)) vs)) ∙ c.pieces,
        sym c.fits ∙ ap (candidates_fit keep ds w) e,
      )
