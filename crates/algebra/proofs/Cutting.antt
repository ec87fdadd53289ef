-- The points of a cut, a difference, an intersection, a union and a complement, for every test that keeps each well-formed candidate
-- with an integer point.
use mathlib.Core.Path.{◌≡◌, refl, sym, ap, ap₂, ◌∙◌, subst}
use mathlib.Core.Bool.{Bool, true, false, not, ◌&&◌, ◌||◌, cond}
use mathlib.Core.List.{List, [], ◌∷◌, ◌++◌, map}
use Prim.Native.Nat.{ℕ, zero, suc, ◌+◌, ◌<◌}
use native.Mathlib.Nat.{le_of_suc-le-suc, not-suc-le-zero}
use native.Mathlib.Omega.{arith}
use lib.Dec.{T, ltb, ltb→lt}
use lib.IntN.{ℤ, pos, negsuc, neg_ℤ, ◌+ℤ◌, ◌*ℤ◌}
use lib.ListN.{length, drop, replicate, length-append}
use Rattle.model.specs.Lists.{all, any, concat_map, filter, is_nil}
use Rattle.model.specs.Sets.{dot, Division, Kind, equality, inequality, Constraint, BasicSet, Set, is_zero, holds, meets, quotient, quotients, in_constraints, in_basic, in_set, absent, well_formed}
use Rattle.algebra.specs.Tighten.{void, tight, solvable}
use Rattle.algebra.specs.Cut.{above, below, opposites, opposites_at, add_at, move, move_constraint, join, union, joined_divisions, moved_constraints, both, ends, kept, cut_by, cut_tight, cut, cut_all, difference, intersection, complement}
use Rattle.model.proofs.Count.{ind, count, and_left, and_right, and-make, and-true, to-T, from-T, all_append, count-append, count-filter, all_filter, any-count, count-concat, all-concat}
use Rattle.model.proofs.Values.{divides, dot-absent, fits}
use Rattle.algebra.proofs.Joined.{opposites-count, joined, moved_value, map-append, Good}
use Rattle.algebra.proofs.Tightened.{inequality-solvable, tight-holds, void-none, solvable-count, solvable-in, tight-fit, solvable-formed}

-- ---- well-formed rules

pub absent-neg : (n : ℕ) (cs : List ℤ) → T (absent n cs) → T (absent n (map neg_ℤ cs))
absent-neg zero [] t = tt
absent-neg zero (c ∷ cs) t = and-make (is_zero (neg_ℤ c)) (all is_zero (map neg_ℤ cs)) (negated c (and_left (is_zero c) (all is_zero cs) t)) (absent-neg zero cs (and_right (is_zero c) (all is_zero cs) t))
  where
    negated : (c : ℤ) → T (is_zero c) → T (is_zero (neg_ℤ c))
    negated (pos zero) t = tt
    negated (pos (suc n)) t = tt' n (lib.Dec.eqb→eq (suc n) 0 t)
      where
        tt' : (n : ℕ) → suc n ≡ 0 → T (is_zero (neg_ℤ (pos (suc n))))
        tt' n e = absurd (clash n e)
          where
            clash : (n : ℕ) → suc n ≡ 0 → ⊥
            clash n e = omega arith
    negated (negsuc n) t = absurd t
absent-neg (suc n) [] t = tt
absent-neg (suc n) (c ∷ cs) t = absent-neg n cs t

pub absent_more : (n k : ℕ) (cs : List ℤ) → T (absent n cs) → T (absent (n + k) cs)
absent_more n k cs t = subst (λ (l : List ℤ). T (all is_zero l)) (lib.Seq.drop-drop k n cs) (all_drop k (drop n cs) t)
  where
    all_drop : (k : ℕ) (l : List ℤ) → T (all is_zero l) → T (all is_zero (drop k l))
    all_drop zero l t = t
    all_drop (suc k) [] t = t
    all_drop (suc k) (z ∷ l) t = all_drop k l (and_right (is_zero z) (all is_zero l) t)

absent-add_at : (n i : ℕ) (c : ℤ) (cs : List ℤ) → i < n → T (absent n cs) → T (absent n (add_at i c cs))
absent-add_at zero i c cs h t = absurd (not-suc-le-zero h)
absent-add_at (suc n) zero c [] h t = nil n
  where
    nil : (n : ℕ) → T (absent n [])
    nil zero = tt
    nil (suc n) = tt
absent-add_at (suc n) zero c (z ∷ cs) h t = t
absent-add_at (suc n) (suc i) c [] h t = absent-add_at n i c [] (le_of_suc-le-suc h) (nil n)
  where
    nil : (n : ℕ) → T (absent n [])
    nil zero = tt
    nil (suc n) = tt
absent-add_at (suc n) (suc i) c (z ∷ cs) h t = absent-add_at n i c cs (le_of_suc-le-suc h) t

absent-zeros : (n k : ℕ) → T (absent n (replicate k (pos 0)))
absent-zeros zero zero = tt
absent-zeros zero (suc k) = absent-zeros zero k
absent-zeros (suc n) zero = tt
absent-zeros (suc n) (suc k) = absent-zeros n k

pub absent-move : (n : ℕ) (is : List ℕ) (cs : List ℤ) → T (all (λ (p : ℕ). ltb p n) is) → T (absent n (move is cs))
absent-move n [] cs t = absent-zeros n 8
absent-move n (i ∷ is) [] t = absent-zeros n 8
absent-move n (i ∷ is) (c ∷ cs) t =
    absent-add_at n i c (move is cs) (ltb→lt i n (and_left (ltb i n) (all (λ (p : ℕ). ltb p n) is) t)) (absent-move n is cs (and_right (ltb i n) (all (λ (p : ℕ). ltb p n) is) t))

opposites-fit : (ds : List Division) (r : Constraint) → T (fits ds r) → T (all (fits ds) (opposites r))
opposites-fit ds r t = at r.kind
  where
    at : (k : Kind) → T (all (fits ds) (opposites_at k r))
    at equality = and-make (fits ds r) (fits ds (below r) && true) t (and-make (fits ds (below r)) true (absent-neg (length ds) r.divisions t) tt)
    at inequality = and-make (fits ds (below r)) true (absent-neg (length ds) r.divisions t) tt

-- tightened, an opposite holds where it held
opposites-tight : (x q : List ℤ) (r : Constraint) → count (λ (o : Constraint). holds (pos 1) x q (tight o)) (opposites r) ≡ ind (not (holds (pos 1) x q r))
opposites-tight x q r = at r.kind ∙ opposites-count x q r
  where
    at : (k : Kind) → count (λ (o : Constraint). holds (pos 1) x q (tight o)) (opposites_at k r) ≡ count (holds (pos 1) x q) (opposites_at k r)
    at equality = ap₂ (λ (a b : Bool). ind a + (ind b + 0)) (tight-holds x q (above r) (inequality-solvable (above r) refl)) (tight-holds x q (below r) (inequality-solvable (below r) refl))
    at inequality = ap (λ (b : Bool). ind b + 0) (tight-holds x q (below r) (inequality-solvable (below r) refl))

all_snoc : {A : Type 0} (f : A → Bool) (l : List A) (a : A) → T (all f l) → T (f a) → T (all f (l ++ (a ∷ [])))
all_snoc f l a s t = to-T (all f (l ++ (a ∷ []))) (all_append f l (a ∷ []) ∙ from-T (all f l && (f a && true)) (and-make (all f l) (f a && true) s (and-make (f a) true t tt)))

count_map : {A B : Type 0} (f : B → Bool) (g : A → B) (l : List A) → count f (map g l) ≡ count (λ (a : A). f (g a)) l
count_map f g [] = refl
count_map f g (a ∷ l) = ap (λ (n : ℕ). ind (f (g a)) + n) (count_map f g l)

all_map : {A B : Type 0} (f : B → Bool) (g : A → B) (h : A → Bool) → ((a : A) → T (h a) → T (f (g a))) → (l : List A) → T (all h l) → T (all f (map g l))
all_map f g h e [] t = tt
all_map f g h e (a ∷ l) t = and-make (f (g a)) (all f (map g l)) (e a (and_left (h a) (all h l) t)) (all_map f g h e l (and_right (h a) (all h l) t))

-- ---- Booleans

count-and : {A : Type 0} (f g : A → Bool) (b : Bool) → ((a : A) → f a ≡ (b && g a)) → (l : List A) (n : Bool) → count g l ≡ ind n → count f l ≡ ind (b && n)
count-and f g true e l n h = same l ∙ h
  where
    same : (l : List _) → count f l ≡ count g l
    same [] = refl
    same (a ∷ l) = ap₂ (λ (c : Bool) (k : ℕ). ind c + k) (e a) (same l)
count-and f g false e l n h = zeros l
  where
    zeros : (l : List _) → count f l ≡ 0
    zeros [] = refl
    zeros (a ∷ l) = ap₂ (λ (c : Bool) (k : ℕ). ind c + k) (e a) (zeros l)

no-count : (w h : Bool) → ◌≡◌ {A = ℕ} 0 (ind (w && not h)) → w ≡ (w && h)
no-count true true e = refl
no-count true false e = absurd (clash e)
  where
    clash : ◌≡◌ {A = ℕ} 0 1 → ⊥
    clash e = omega arith
no-count false h e = refl

none : (w : Bool) → ◌≡◌ {A = ℕ} 0 (ind (w && false))
none true = refl
none false = refl

split : (w h r : Bool) → ind (w && not h) + ind (w && h && not r) ≡ ind (w && not (h && r))
split true true true = refl
split true true false = refl
split true false r = refl
split false h r = refl

-- ---- one cut

module _ (keep : BasicSet → Bool) (x : List ℤ) (sound : (b : BasicSet) → T (well_formed b) → T (in_basic x b) → T (keep b)) where
  module _ (ds : List Division) (dok : T (all divides ds)) where
    with-opposite : List Constraint → Constraint → BasicSet
    with-opposite w o = record { divisions = ds; constraints = w ++ (tight o ∷ []) }

    with-formed : (w : List Constraint) → T (all (fits ds) w) → (o : Constraint) → T (fits ds o) → T (well_formed (with-opposite w o))
    unfolding with-opposite
    with-formed w wok o t = and-make (all divides ds) (all (fits ds) (w ++ (tight o ∷ []))) dok (all_snoc (fits ds) w (tight o) wok (tight-fit ds o t))

    in-candidate : (w : List Constraint) (o : Constraint) → in_constraints x ds (w ++ (o ∷ [])) ≡ (in_constraints x ds w && holds (pos 1) x (quotients ds x) o)
    in-candidate w o = all_append (holds (pos 1) x (quotients ds x)) w (o ∷ []) ∙ ap (λ (b : Bool). in_constraints x ds w && b) (and-true (holds (pos 1) x (quotients ds x) o))

    kept-count : (w : List Constraint) → T (all (fits ds) w) → (r : Constraint) → T (fits ds r)
        → count (in_basic x) (kept keep ds w (opposites r)) ≡ ind (in_constraints x ds w && not (holds (pos 1) x (quotients ds x) r))
    unfolding with-opposite
    kept-count w wok r rok =
        count-filter (in_basic x) keep well_formed sound (map (with-opposite w) (opposites r))
        (all_map well_formed (with-opposite w) (fits ds) (with-formed w wok) (opposites r) (opposites-fit ds r rok))
        ∙ count_map (in_basic x) (with-opposite w) (opposites r)
        ∙ count-and (λ (o : Constraint). in_basic x (with-opposite w o)) (λ (o : Constraint). holds (pos 1) x (quotients ds x) (tight o)) (in_constraints x ds w) (λ o. in-candidate w (tight o)) (opposites r) (not (holds (pos 1) x (quotients ds x) r)) (opposites-tight x (quotients ds x) r)

    -- the working rules after a rule that does not end the cut: semantically they have it, whether or not it joined them
    next-constraints : (w : List Constraint) (r : Constraint) (k : List BasicSet) → ends k r ≡ false → count (in_basic x) k ≡ ind (in_constraints x ds w && not (holds (pos 1) x (quotients ds x) r))
        → in_constraints x ds (cond (is_nil k) w (w ++ (tight r ∷ []))) ≡ (in_constraints x ds w && holds (pos 1) x (quotients ds x) r)
    next-constraints w r [] z e = no-count (in_constraints x ds w) (holds (pos 1) x (quotients ds x) r) e
    next-constraints w r (b ∷ k) z e = in-candidate w (tight r) ∙ ap (λ (t : Bool). in_constraints x ds w && t) (tight-holds x (quotients ds x) r z)

    next-fit : (w : List Constraint) (r : Constraint) (k : List BasicSet) → T (all (fits ds) w) → T (fits ds r) → T (all (fits ds) (cond (is_nil k) w (w ++ (tight r ∷ []))))
    next-fit w r [] s t = s
    next-fit w r (b ∷ k) s t = all_snoc (fits ds) w (tight r) s (tight-fit ds r t)

    cut_by-formed : (rs w : List Constraint) → T (all (fits ds) w) → T (all (fits ds) rs) → T (all well_formed (cut_by keep ds w rs))
    unfolding with-opposite
    cut_by-formed [] w wok rok = tt
    cut_by-formed (r ∷ rs) w wok rok =
        let k : List BasicSet = kept keep ds w (opposites r) in
        let w' : List Constraint = cond (is_nil k) w (w ++ (tight r ∷ [])) in
        let l : List BasicSet = cond (ends k r) [] (cut_by keep ds w' rs) in
        let ok : T (fits ds r) = and_left (fits ds r) (all (fits ds) rs) rok in
        to-T (all well_formed (k ++ l))
        (all_append well_formed k l
        ∙ from-T (all well_formed k && all well_formed l)
        (and-make (all well_formed k) (all well_formed l)
        (all_filter well_formed keep (map (with-opposite w) (opposites r))
        (all_map well_formed (with-opposite w) (fits ds) (with-formed w wok) (opposites r) (opposites-fit ds r ok)))
        (ended (ends k r) (cut_by keep ds w' rs) (cut_by-formed rs w' (next-fit w r k wok ok) (and_right (fits ds r) (all (fits ds) rs) rok)))))
      where
        ended : (b : Bool) (l : List BasicSet) → T (all well_formed l) → T (all well_formed (cond b [] l))
        ended true l t = tt
        ended false l t = t

    pub cut_by-count : (rs w : List Constraint) → T (all (fits ds) w) → T (all (fits ds) rs)
        → count (in_basic x) (cut_by keep ds w rs) ≡ ind (in_constraints x ds w && not (in_constraints x ds rs))
    cut_by-count [] w wok rok = none (in_constraints x ds w)
    cut_by-count (r ∷ rs) w wok rok =
        let k : List BasicSet = kept keep ds w (opposites r) in
        let w' : List Constraint = cond (is_nil k) w (w ++ (tight r ∷ [])) in
        let ok : T (fits ds r) = and_left (fits ds r) (all (fits ds) rs) rok in
        let e : count (in_basic x) k ≡ ind (in_constraints x ds w && not (holds (pos 1) x (quotients ds x) r)) = kept-count w wok r ok in
        count-append (in_basic x) k (cond (ends k r) [] (cut_by keep ds w' rs))
        ∙ ap (λ (n : ℕ). n + count (in_basic x) (cond (ends k r) [] (cut_by keep ds w' rs))) e
        ∙ at k e (ends k r) refl (cut_by-count rs w' (next-fit w r k wok ok) (and_right (fits ds r) (all (fits ds) rs) rok))
      where
        h : Bool
        h = holds (pos 1) x (quotients ds x) r

        void-of : (k : List BasicSet) → ends k r ≡ true → void r ≡ true
        void-of [] z = let y : ◌≡◌ {A = ℕ} 0 1 = cc in absurd (omega arith)
        void-of (b ∷ k) z = z

        whole : (w h r : Bool) → h ≡ false → ind (w && not h) + 0 ≡ ind (w && not (h && r))
        whole true true r e = let y : ◌≡◌ {A = ℕ} 0 1 = cc in absurd (omega arith)
        whole true false r e = refl
        whole false h r e = refl

        at : (k : List BasicSet) → count (in_basic x) k ≡ ind (in_constraints x ds w && not h) → (b : Bool) → ends k r ≡ b
            → count (in_basic x) (cut_by keep ds (cond (is_nil k) w (w ++ (tight r ∷ []))) rs) ≡ ind (in_constraints x ds (cond (is_nil k) w (w ++ (tight r ∷ []))) && not (in_constraints x ds rs))
            → ind (in_constraints x ds w && not h) + count (in_basic x) (cond b [] (cut_by keep ds (cond (is_nil k) w (w ++ (tight r ∷ []))) rs)) ≡ ind (in_constraints x ds w && not (h && in_constraints x ds rs))
        at k e true z c = whole (in_constraints x ds w) h (in_constraints x ds rs) (void-none x (quotients ds x) r (void-of k z))
        at k e false z c =
            ap (λ (n : ℕ). ind (in_constraints x ds w && not h) + n) (c ∙ ap (λ (b : Bool). ind (b && not (in_constraints x ds rs))) (next-constraints w r k z e))
            ∙ split (in_constraints x ds w) h (in_constraints x ds rs)

-- ---- joined: A's rules and the moved rules of B say what they said

module _ (x : List ℤ) (a b : BasicSet) (aok : T (well_formed a)) where
  good : Good x a.divisions b.divisions (join a.divisions b.divisions)
  good = joined x a.divisions b.divisions

  more-divisions : quotients (joined_divisions a b) x ≡ quotients a.divisions x ++ quotients good.extra x
  more-divisions = ap (λ (ds : List Division). quotients ds x) good.extends ∙ map-append x a.divisions good.extra

  pub first-in : in_constraints x (joined_divisions a b) a.constraints ≡ in_basic x a
  first-in = go a.constraints (and_right (all divides a.divisions) (all (fits a.divisions) a.constraints) aok)
    where
      same : (r : Constraint) → T (fits a.divisions r) → holds (pos 1) x (quotients (joined_divisions a b) x) r ≡ holds (pos 1) x (quotients a.divisions x) r
      same r t =
          ap (λ (z : ℤ). meets r.kind (r.constant *ℤ pos 1 +ℤ (dot r.axes x +ℤ z)))
          (ap (dot r.divisions) more-divisions
          ∙ dot-absent r.divisions (quotients a.divisions x) (quotients good.extra x) (subst (λ (n : ℕ). T (absent n r.divisions)) (sym (lib.ListN.length-map a.divisions (quotient x))) t))

      go : (rs : List Constraint) → T (all (fits a.divisions) rs) → in_constraints x (joined_divisions a b) rs ≡ in_constraints x a.divisions rs
      go [] t = refl
      go (r ∷ rs) t = ap₂ ◌&&◌ (same r (and_left (fits a.divisions r) (all (fits a.divisions) rs) t)) (go rs (and_right (fits a.divisions r) (all (fits a.divisions) rs) t))

  pub second-in : in_constraints x (joined_divisions a b) (moved_constraints a b) ≡ in_basic x b
  second-in = go b.constraints
    where
      go : (rs : List Constraint) → in_constraints x (joined_divisions a b) (map (move_constraint (join a.divisions b.divisions).places) rs) ≡ in_constraints x b.divisions rs
      go [] = refl
      go (r ∷ rs) = ap₂ (λ (z : ℤ) (t : Bool). meets r.kind z && t) (moved_value x a.divisions b.divisions r) (go rs)

  pub joined-positive : T (all divides b.divisions) → T (all divides (joined_divisions a b))
  joined-positive t = good.positive (and_left (all divides a.divisions) (all (fits a.divisions) a.constraints) aok) t

  pub first-fit : T (all (fits (joined_divisions a b)) a.constraints)
  first-fit = go a.constraints (and_right (all divides a.divisions) (all (fits a.divisions) a.constraints) aok)
    where
      longer : length (joined_divisions a b) ≡ length a.divisions + length good.extra
      longer = ap length good.extends ∙ length-append a.divisions good.extra

      go : (rs : List Constraint) → T (all (fits a.divisions) rs) → T (all (fits (joined_divisions a b)) rs)
      go [] t = tt
      go (r ∷ rs) t =
          and-make (fits (joined_divisions a b) r) (all (fits (joined_divisions a b)) rs)
          (subst (λ (n : ℕ). T (absent n r.divisions)) (sym longer) (absent_more (length a.divisions) (length good.extra) r.divisions (and_left (fits a.divisions r) (all (fits a.divisions) rs) t)))
          (go rs (and_right (fits a.divisions r) (all (fits a.divisions) rs) t))

  pub second-fit : T (all (fits (joined_divisions a b)) (moved_constraints a b))
  second-fit = go b.constraints
    where
      is : List ℕ
      is = (join a.divisions b.divisions).places

      go : (rs : List Constraint) → T (all (fits (joined_divisions a b)) (map (move_constraint is) rs))
      go [] = tt
      go (r ∷ rs) =
          and-make (fits (joined_divisions a b) (move_constraint is r)) (all (fits (joined_divisions a b)) (map (move_constraint is) rs))
          (absent-move (length (joined_divisions a b)) is r.divisions good.inside) (go rs)

divisors-of : (b : BasicSet) → T (well_formed b) → T (all divides b.divisions)
divisors-of b t = and_left (all divides b.divisions) (all (fits b.divisions) b.constraints) t

-- ---- the operations

module _ (keep : BasicSet → Bool) (x : List ℤ) (sound : (b : BasicSet) → T (well_formed b) → T (in_basic x b) → T (keep b)) where
  cut_tight-count : (a c : BasicSet) → T (well_formed a) → T (well_formed c) → count (in_basic x) (cut_tight keep a c) ≡ ind (in_basic x a && not (in_basic x c))
  unfolding cut_tight
  cut_tight-count a c aok cok =
      cut_by-count keep x sound (joined_divisions a c) (joined-positive x a c aok (divisors-of c cok)) (moved_constraints a c) a.constraints (first-fit x a c aok) (second-fit x a c aok)
      ∙ ap₂ (λ (p q : Bool). ind (p && not q)) (first-in x a c aok) (second-in x a c aok)

  cut_tight-formed : (a c : BasicSet) → T (well_formed a) → T (well_formed c) → T (all well_formed (cut_tight keep a c))
  unfolding cut_tight
  cut_tight-formed a c aok cok =
      cut_by-formed keep x sound (joined_divisions a c) (joined-positive x a c aok (divisors-of c cok)) (moved_constraints a c) a.constraints (first-fit x a c aok) (second-fit x a c aok)

  -- the pieces that one cutter leaves: a point of a that is not in c is in exactly one, any other in none
  pub cut-count : (a c : BasicSet) → T (well_formed a) → T (well_formed c) → count (in_basic x) (cut keep a c) ≡ ind (in_basic x a && not (in_basic x c))
  unfolding cut
  cut-count a c aok cok =
      count-concat (in_basic x) (λ (p : BasicSet). cut_tight keep p c) (in_basic x) well_formed (not (in_basic x c)) (λ p ok. cut_tight-count p c ok cok) (solvable a) (solvable-formed a aok)
      ∙ ap (λ (n : ℕ). cond (not (in_basic x c)) n 0) (solvable-count x a)
      ∙ one (in_basic x a) (in_basic x c)
    where
      one : (p q : Bool) → cond (not q) (ind p) 0 ≡ ind (p && not q)
      one true true = refl
      one true false = refl
      one false true = refl
      one false false = refl

  cut-formed : (a c : BasicSet) → T (well_formed a) → T (well_formed c) → T (all well_formed (cut keep a c))
  unfolding cut
  cut-formed a c aok cok = all-concat well_formed well_formed (λ (p : BasicSet). cut_tight keep p c) (λ p ok. cut_tight-formed p c ok cok) (solvable a) (solvable-formed a aok)

  -- and after every further cutter
  pub cut_all-count : (cs : List BasicSet) → T (all well_formed cs) → (a : BasicSet) → T (well_formed a) → count (in_basic x) (cut_all keep cs a) ≡ ind (in_basic x a && not (in_set x cs))
  unfolding difference intersection complement cut_all cut
  cut_all-count [] t a aok = single (in_basic x a)
    where
      single : (p : Bool) → ind p + 0 ≡ ind (p && true)
      single true = refl
      single false = refl
  cut_all-count (c ∷ cs) t a aok =
      let cok = and_left (well_formed c) (all well_formed cs) t in
      count-concat (in_basic x) (cut_all keep cs) (in_basic x) well_formed (not (in_set x cs)) (λ p ok. cut_all-count cs (and_right (well_formed c) (all well_formed cs) t) p ok) (cut keep a c) (cut-formed a c aok cok)
      ∙ ap (λ (n : ℕ). cond (not (in_set x cs)) n 0) (cut-count a c aok cok)
      ∙ both-not (in_basic x a) (in_basic x c) (in_set x cs)
    where
      both-not : (p q r : Bool) → cond (not r) (ind (p && not q)) 0 ≡ ind (p && not (q || r))
      both-not true true true = refl
      both-not true true false = refl
      both-not true false true = refl
      both-not true false false = refl
      both-not false true true = refl
      both-not false true false = refl
      both-not false false true = refl
      both-not false false false = refl

  pub difference-count : (s t : Set) → T (all well_formed s) → T (all well_formed t) → count (in_basic x) (difference keep s t) ≡ cond (not (in_set x t)) (count (in_basic x) s) 0
  unfolding difference intersection complement cut_all cut
  difference-count s t sok tok = count-concat (in_basic x) (cut_all keep t) (in_basic x) well_formed (not (in_set x t)) (cut_all-count t tok) s sok

  pub difference-in : (s t : Set) → T (all well_formed s) → T (all well_formed t) → in_set x (difference keep s t) ≡ (in_set x s && not (in_set x t))
  difference-in s t sok tok =
      any-count (in_basic x) (difference keep s t)
      ∙ ap (ltb 0) (difference-count s t sok tok)
      ∙ at (in_set x t) (count (in_basic x) s) (in_set x s) (any-count (in_basic x) s)
    where
      at : (q : Bool) (n : ℕ) (p : Bool) → p ≡ ltb 0 n → ltb 0 (cond (not q) n 0) ≡ (p && not q)
      at true n true e = refl
      at true n false e = refl
      at false n true e = sym e
      at false n false e = sym e

  pub complement-in : (s : Set) → T (all well_formed s) → in_set x (complement keep s) ≡ not (in_set x s)
  unfolding difference intersection complement cut_all cut
  complement-in s sok = difference-in (record { divisions = []; constraints = [] } ∷ []) s tt sok

  both-in : (a b : BasicSet) → T (well_formed a) → in_basic x (both a b) ≡ (in_basic x a && in_basic x b)
  both-in a b aok = all_append (holds (pos 1) x (quotients (joined_divisions a b) x)) a.constraints (moved_constraints a b) ∙ ap₂ ◌&&◌ (first-in x a b aok) (second-in x a b aok)

  both-formed : (a b : BasicSet) → T (well_formed a) → T (well_formed b) → T (well_formed (both a b))
  both-formed a b aok bok =
      let ds : List Division = joined_divisions a b in
      and-make (all divides ds) (all (fits ds) (a.constraints ++ moved_constraints a b)) (joined-positive x a b aok (divisors-of b bok))
      (to-T (all (fits ds) (a.constraints ++ moved_constraints a b)) (all_append (fits ds) a.constraints (moved_constraints a b) ∙ from-T (all (fits ds) a.constraints && all (fits ds) (moved_constraints a b)) (and-make (all (fits ds) a.constraints) (all (fits ds) (moved_constraints a b)) (first-fit x a b aok) (second-fit x a b aok))))

pub union-in : (x : List ℤ) (s t : Set) → in_set x (union s t) ≡ (in_set x s || in_set x t)
union-in x [] t = refl
union-in x (b ∷ s) t = ap (λ (p : Bool). in_basic x b || p) (union-in x s t) ∙ or_assoc (in_basic x b) (in_set x s) (in_set x t)
  where
    or_assoc : (a b c : Bool) → (a || (b || c)) ≡ (a || b || c)
    or_assoc true b c = refl
    or_assoc false b c = refl

any_append : {A : Type 0} (f : A → Bool) (l m : List A) → any f (l ++ m) ≡ (any f l || any f m)
any_append f [] m = refl
any_append f (a ∷ l) m = ap (λ (p : Bool). f a || p) (any_append f l m) ∙ or_assoc (f a) (any f l) (any f m)
  where
    or_assoc : (a b c : Bool) → (a || (b || c)) ≡ (a || b || c)
    or_assoc true b c = refl
    or_assoc false b c = refl

-- a set whose basic sets, one by one, have the points of another's
concat-in : (x : List ℤ) (g : BasicSet → List BasicSet) (h : BasicSet → Bool) (ok : BasicSet → Bool) → ((a : BasicSet) → T (ok a) → in_set x (g a) ≡ h a) → (l : List BasicSet) → T (all ok l) → in_set x (concat_map g l) ≡ any h l
concat-in x g h ok e [] t = refl
concat-in x g h ok e (a ∷ l) t = any_append (in_basic x) (g a) (concat_map g l) ∙ ap₂ ◌||◌ (e a (and_left (ok a) (all ok l) t)) (concat-in x g h ok e l (and_right (ok a) (all ok l) t))

any-and : {A : Type 0} (f : A → Bool) (p : Bool) (l : List A) → any (λ (a : A). p && f a) l ≡ (p && any f l)
any-and f true l = refl
any-and f false [] = refl
any-and f false (a ∷ l) = any-and f false l

any-both : {A : Type 0} (f : A → Bool) (p : Bool) (l : List A) → any (λ (a : A). f a && p) l ≡ (any f l && p)
any-both f p [] = refl
any-both f p (a ∷ l) = ap (λ (b : Bool). f a && p || b) (any-both f p l) ∙ distrib (f a) (any f l) p
  where
    distrib : (p q r : Bool) → (p && r || q && r) ≡ ((p || q) && r)
    distrib true true true = refl
    distrib true true false = refl
    distrib true false true = refl
    distrib true false false = refl
    distrib false q r = refl

module _ (keep : BasicSet → Bool) (x : List ℤ) (sound : (b : BasicSet) → T (well_formed b) → T (in_basic x b) → T (keep b)) where
  pairs-in : (a : BasicSet) → T (well_formed a) → (t : Set) → T (all well_formed t) → in_set x (concat_map (λ (b : BasicSet). solvable (both a b)) t) ≡ (in_basic x a && in_set x t)
  pairs-in a aok t tok =
      concat-in x (λ (b : BasicSet). solvable (both a b)) (λ (b : BasicSet). in_basic x a && in_basic x b) well_formed (λ b bok. solvable-in x (both a b) ∙ both-in keep x sound a b aok) t tok
      ∙ any-and (in_basic x) (in_basic x a) t

  pairs-formed : (a : BasicSet) → T (well_formed a) → (t : Set) → T (all well_formed t) → T (all well_formed (concat_map (λ (b : BasicSet). solvable (both a b)) t))
  pairs-formed a aok t tok = all-concat well_formed well_formed (λ (b : BasicSet). solvable (both a b)) (λ b bok. solvable-formed (both a b) (both-formed keep x sound a b aok bok)) t tok

  pub intersection-in : (s t : Set) → T (all well_formed s) → T (all well_formed t) → in_set x (intersection keep s t) ≡ (in_set x s && in_set x t)
  unfolding intersection
  intersection-in s t sok tok =
      let pairs : BasicSet → List BasicSet = λ (a : BasicSet). concat_map (λ (b : BasicSet). solvable (both a b)) t in
      let first : List BasicSet = concat_map solvable s in
      let l : List BasicSet = concat_map pairs first in
      let fok : T (all well_formed first) = all-concat well_formed well_formed solvable solvable-formed s sok in
      any-count (in_basic x) (filter keep l)
      ∙ ap (ltb 0) (count-filter (in_basic x) keep well_formed sound l (all-concat well_formed well_formed pairs (λ a aok. pairs-formed a aok t tok) first fok))
      ∙ sym (any-count (in_basic x) l)
      ∙ concat-in x pairs (λ (a : BasicSet). in_basic x a && in_set x t) well_formed (λ a aok. pairs-in a aok t tok) first fok
      ∙ any-both (in_basic x) (in_set x t) first
      ∙ ap (λ (p : Bool). p && in_set x t) (concat-in x solvable (in_basic x) well_formed (λ a aok. solvable-in x a) s sok)
