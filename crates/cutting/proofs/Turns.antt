-- The loop of a cut: what holds between two constraints of the cutter.
use mathlib.Core.Path.{◌≡◌, refl, sym, ap, ap₂, ◌∙◌, subst}
use mathlib.Core.Bool.{Bool, true, false, ◌&&◌, ◌||◌, cond}
use mathlib.Core.List.{List, [], ◌∷◌, ◌++◌, map, append_assoc, append-nil}
use Prim.Native.Nat.{ℕ, ◌+◌, ◌≤◌, ◌<◌, zero-le}
use native.Mathlib.Nat.{add-zero}
use native.Mathlib.Omega.{arith}
use native.Mathlib.Numerals.{add-one}
use lib.Dec.{leb}
use lib.IntN.{ℤ}
use lib.ListN.{length, take, get_or, set, length-map, length-append, length-set}
use lib.Seq.{length-take-le, get_or-take, take-suc, take_all}
use borrow.Author.Tests.{leb-true, le-leb, lt-leb}
use Rattle.model.specs.Lists.{all, concat_map, All}
use Rattle.model.proofs.Lists.{map_get}
use Rattle.model.proofs.Count.{and-true}
use Rattle.model.specs.Sets.{Division, Constraint, BasicSet}
use Rattle.model.specs.Values.{division_of, constraint_of, basic_set_of}
use Rattle.model.specs.declared.Division.{Division as StoredDivision}
use Rattle.model.specs.declared.Constraint.{Constraint as StoredConstraint}
use Rattle.model.specs.declared.BasicSet.{BasicSet as Stored}
use Rattle.codec.specs.Valid.{ValidDivision, ValidConstraint, Valid}
use Rattle.integers.specs.Mach.{clash}
use Rattle.algebra.specs.Tighten.{void, tight}
use Rattle.algebra.proofs.Tightened.{tight-solvable}
use Rattle.algebra.specs.Cut.{above, below, cut_by, joined_divisions, moved_constraints, move_constraint, keeps, cut_tight, cut, cut_tight_fits, candidates_fit}
use Rattle.cutting.specs.declared.pieces.CutSteps.{CutSteps}
use Rattle.joining.specs.declared.divisions.Joined.{Joined}
use Rattle.candidates.specs.declared.survivors.Survivors.{Survivors}
use Rattle.joining.specs.Joining.{Joining, Placed, reduced_of, Settled}
use Rattle.candidates.specs.Candidates.{no_rule, candidate, is_equality, Keeping}
use Rattle.std.specs.Prelude.{Option, Some, None}
use Rattle.std.proofs.lemmas.Option.{IfSome_then}
use Rattle.cutting.specs.Cutting.{piece_of, steps_at, Extending, Pair, CutIs, CutTightIs, BothIs}
use Rattle.joining.proofs.Placing.{no_constraint, All-at, map-pushed}
use Rattle.joining.proofs.Dividing.{void-reduced, reduced-valid, reduced-settled}
use Rattle.algebra.proofs.Closed.{Tight, joined-valid, first-valid, second-valid}
use Rattle.cutting.proofs.Steps.{bit-small, Carved, carved-start, carved-full, carved-next, carved-end}

-- the cutter's constraints, moved
abbrev pub moved_to : List ℕ → Stored → List Constraint
moved_to is c = map (move_constraint is) (basic_set_of c).constraints

-- k of the cutter's constraints stand behind the first ones
pub record Gathered (w rs : List Constraint) (cons k : ℕ) (cs : List StoredConstraint) : Type 0 where
  pub long : length cs ≡ 48
  pub is : map constraint_of (take (cons + k) cs) ≡ w ++ take k rs

pub gathered_next : (w rs : List Constraint) (cons k : ℕ) (cs : List StoredConstraint) → Gathered w rs cons k cs → cons + k < 48 → k < length rs → (r : StoredConstraint) → get_or rs k no_rule ≡ constraint_of r
    → Gathered w rs cons (k + 1) (set cs (cons + k) r)
gathered_next w rs cons k cs g h l r e =
    let n : cons + k < length cs = let z = g.long in omega arith in
    let s : cons + (k + 1) ≡ cons + k + 1 = omega arith in
    let t : take (k + 1) rs ≡ take k rs ++ (constraint_of r ∷ []) = rw (add-one) (take-suc rs k no_rule l ∙ ap (λ (x : Constraint). take k rs ++ (x ∷ [])) e) in
    record {
      long = length-set cs (cons + k) r ∙ g.long;
      is =
          ap (λ (m : ℕ). map constraint_of (take m (set cs (cons + k) r))) s ∙ map-pushed constraint_of no_constraint cs (cons + k) r n
          ∙ ap (λ (x : List Constraint). x ++ (constraint_of r ∷ [])) g.is ∙ append_assoc w (take k rs) (constraint_of r ∷ []) ∙ ap (λ (x : List Constraint). w ++ x) (sym t);
    }

-- a constraint of the cutter may follow the working ones
pub record Turning (s : CutSteps) (r : StoredConstraint) : Type 0 where
  pub extending : Extending s.working r
  pub count : s.count ≤ s.working.cons + s.working.cons
  pub settled : (v : Bool) → v ≡ void (constraint_of r) → Settled (constraint_of r) v

-- its kept candidates are told, and it has joined unless there is none
pub record Turned (s : CutSteps) (r : StoredConstraint) (kept : Survivors) (x : CutSteps) : Type 0 where
  pub keeping : Keeping (basic_set_of s.working) (constraint_of r) kept
  pub steps : take x.count x.steps ≡ take s.count s.steps ++ steps_at s.working.cons kept.above kept.below
  pub divisions : map division_of (take x.working.divs x.working.divisions) ≡ map division_of (take s.working.divs s.working.divisions)
  pub constraints :
      map constraint_of (take x.working.cons x.working.constraints)
      ≡ cond (kept.above || kept.below) (map constraint_of (take s.working.cons s.working.constraints) ++ (constraint_of r ∷ [])) (map constraint_of (take s.working.cons s.working.constraints))
  pub divs : x.working.divs ≡ s.working.divs
  pub cons : x.working.cons ≡ s.working.cons + cond (kept.above || kept.below) 1 0
  pub count : x.count ≡ s.count + (cond kept.above 1 0 + cond kept.below 1 0)

-- none is done
pub record Begun (a : Stored) (ds : List StoredDivision) (n : ℕ) (r : CutSteps) : Type 0 where
  pub divisions : r.working.divisions ≡ ds
  pub constraints : r.working.constraints ≡ a.constraints
  pub divs : r.working.divs ≡ n
  pub cons : r.working.cons ≡ a.cons
  pub count : r.count ≡ 0

-- k constraints of the cutter are done
pub record Going (rows₀ : List (List ℤ)) (place₀ kinds₀ : List ℕ) (c : Stored) (m : ℕ) (places : List ℕ) (s₀ : CutSteps)
    (rows : List (List ℤ)) (place kinds : List ℕ) (s : CutSteps) (k : ℕ) : Type 0 where
  pub high : length rows ≡ length rows₀
  pub long : length place ≡ length place₀
  pub wide : length kinds ≡ length kinds₀
  pub within : k ≤ c.cons
  pub carved :
      Carved keeps (basic_set_of s₀.working).divisions (basic_set_of s₀.working).constraints (moved_to (take m places) c) k (basic_set_of s.working).constraints (take s.count s.steps)
  pub divisions : (basic_set_of s.working).divisions ≡ (basic_set_of s₀.working).divisions
  pub divs : s.working.divs ≡ s₀.working.divs
  pub cons : s.working.cons ≤ 48
  pub size : length (basic_set_of s.working).constraints ≡ s.working.cons
  pub count : s.count ≤ s.working.cons + s.working.cons

pub sized : (b : Stored) → length b.constraints ≡ 48 → b.cons ≤ 48 → length (basic_set_of b).constraints ≡ b.cons
sized b l h = length-map (take b.cons b.constraints) constraint_of ∙ length-take-le b.cons b.constraints (omega arith)

-- ---- over 8 divisions

module _ {a c : Stored} {m : ℕ} (jn : Joining (basic_set_of a).divisions (basic_set_of c).divisions m None) where
  pub both-unjoined : BothIs a c None
  both-unjoined =
      record {
        fits = sym (ap (λ (b : Bool). b && leb (length (basic_set_of a).constraints + length (basic_set_of c).constraints) 48) (sym jn.fits));
        is = tt;
        divs = tt;
        cons = tt;
      }

  pub unjoined : CutTightIs a c None
  unjoined =
      let A : BasicSet = basic_set_of a in
      let C : BasicSet = basic_set_of c in
      record {
        fits = sym (ap (λ (b : Bool). b && candidates_fit keeps (joined_divisions A C) A.constraints (moved_constraints A C)) (sym jn.fits));
        pieces = tt;
        steps = tt;
        valid = tt;
        divs = tt;
        cons = tt;
        count = tt;
      }

-- ---- once joined

module _ (a c : Stored) (j : Joined) (pair : Pair a c) (jn : Joining (basic_set_of a).divisions (basic_set_of c).divisions c.divs (Some j)) (la : length a.constraints ≡ 48) (lc : length c.constraints ≡ 48) where
  abbrev A : BasicSet
  A = basic_set_of a

  abbrev C : BasicSet
  C = basic_set_of c

  few : length (joined_divisions A C) ≤ 8
  few = leb-true (length (joined_divisions A C)) 8 (sym jn.fits)

  rs-is : moved_to (take c.divs j.places) c ≡ moved_constraints A C
  rs-is = ap (λ (is : List ℕ). moved_to is c) (jn.places)

  long-rs : length (moved_to (take c.divs j.places) c) ≡ c.cons
  long-rs = length-map C.constraints (move_constraint (take c.divs j.places)) ∙ sized c lc pair.cons'

  pub placed-is : Placed (take c.divs j.places)
  placed-is = record { ds = A.divisions; es = C.divisions; places = jn.places; few = few }

  -- a constraint of the cutter, as it is read and moved
  moved_at : (k : ℕ) → k < c.cons → get_or (moved_to (take c.divs j.places) c) k no_rule ≡ move_constraint (take c.divs j.places) (constraint_of (get_or c.constraints k no_constraint))
  moved_at k h =
      let l : k < length (take c.cons c.constraints) = omega (arith, length-take-le c.cons c.constraints (let z = pair.cons' in omega arith)) in
      let m : k < length C.constraints = omega (arith, sized c lc pair.cons') in
      map_get (move_constraint (take c.divs j.places)) C.constraints k no_rule no_rule m
      ∙ ap (move_constraint (take c.divs j.places)) (map_get constraint_of (take c.cons c.constraints) k no_constraint no_rule l ∙ ap constraint_of (get_or-take c.cons c.constraints k no_constraint h))

  pub moved-read : (k : ℕ) → k < c.cons → (r : StoredConstraint) → constraint_of r ≡ move_constraint (take c.divs j.places) (constraint_of (get_or c.constraints k no_constraint))
      → get_or (moved_to (take c.divs j.places) c) k no_rule ≡ constraint_of r
  moved-read k h r is = moved_at k h ∙ sym is

  pub gathered-start : Gathered A.constraints (moved_to (take c.divs j.places) c) a.cons 0 a.constraints
  gathered-start = record { long = la; is = ap (λ (m : ℕ). map constraint_of (take m a.constraints)) (add-zero a.cons) ∙ sym (append-nil A.constraints) }

  pub gathered-more : (k : ℕ) (cs : List StoredConstraint) → Gathered A.constraints (moved_to (take c.divs j.places) c) a.cons k cs → k < c.cons → a.cons + c.cons ≤ 48
      → (r : StoredConstraint) → constraint_of r ≡ move_constraint (take c.divs j.places) (constraint_of (get_or c.constraints k no_constraint))
      → Gathered A.constraints (moved_to (take c.divs j.places) c) a.cons (k + 1) (set cs (a.cons + k) r)
  gathered-more k cs g h m r is = gathered_next A.constraints (moved_to (take c.divs j.places) c) a.cons k cs g (omega arith) (subst (λ (n : ℕ). k < n) (sym long-rs) h) r (moved-read k h r is)

  sizes : length A.constraints + length C.constraints ≡ a.cons + c.cons
  sizes = ap₂ ◌+◌ (sized a la pair.cons) (sized c lc pair.cons')

  pub both-over : 48 < a.cons + c.cons → BothIs a c None
  both-over h =
      record {
        fits = sym (ap₂ (λ (x y : Bool). x && y) (sym jn.fits) (lt-leb (length A.constraints + length C.constraints) 48 (subst (λ (n : ℕ). 48 < n) (sym sizes) h)));
        is = tt;
        divs = tt;
        cons = tt;
      }

  pub both_end : (k : ℕ) (cs : List StoredConstraint) → Gathered A.constraints (moved_to (take c.divs j.places) c) a.cons k cs → k ≡ c.cons → a.cons + c.cons ≤ 48
      → BothIs a c (Some (record { divisions = j.divisions; constraints = cs; divs = j.divs; cons = a.cons + c.cons }))
  both_end k cs g e h =
      let rs : List Constraint = moved_to (take c.divs j.places) c in
      let q : take k rs ≡ rs = take_all k rs (let z = long-rs in omega arith) in
      let p : map constraint_of (take (a.cons + c.cons) cs) ≡ A.constraints ++ moved_constraints A C =
      ap (λ (n : ℕ). map constraint_of (take (a.cons + n) cs)) (sym e) ∙ g.is ∙ ap (λ (l : List Constraint). A.constraints ++ l) (q ∙ rs-is) in
      record {
        fits = sym (ap₂ (λ (x y : Bool). x && y) (sym jn.fits) (le-leb (length A.constraints + length C.constraints) 48 (subst (λ (n : ℕ). n ≤ 48) (sym sizes) h)));
        is = λ i. record { divisions = jn.all i; constraints = p i };
        divs = jn.few;
        cons = h;
      }

  -- ---- the cut of a by c

  module _ (s₀ : CutSteps) (bg : Begun a j.divisions j.divs s₀) where
    ds-is : (basic_set_of s₀.working).divisions ≡ joined_divisions A C
    ds-is = ap₂ (λ (n : ℕ) (l : List StoredDivision). map division_of (take n l)) bg.divs bg.divisions ∙ jn.all

    w-is : (basic_set_of s₀.working).constraints ≡ A.constraints
    w-is = ap₂ (λ (n : ℕ) (l : List StoredConstraint). map constraint_of (take n l)) bg.cons bg.constraints

    module _ (rows₀ : List (List ℤ)) (place₀ kinds₀ : List ℕ) where
      abbrev Goes : List (List ℤ) → List ℕ → List ℕ → CutSteps → ℕ → Type 0
      Goes rows place kinds s k = Going rows₀ place₀ kinds₀ c c.divs j.places s₀ rows place kinds s k

      pub going_start : Goes rows₀ place₀ kinds₀ s₀ 0
      going_start =
          record {
            high = refl;
            long = refl;
            wide = refl;
            within = zero-le;
            carved =
                subst (λ (n : ℕ). Carved keeps (basic_set_of s₀.working).divisions (basic_set_of s₀.working).constraints (moved_to (take c.divs j.places) c) 0 (basic_set_of s₀.working).constraints (take n s₀.steps))
                (sym bg.count) (carved-start keeps (basic_set_of s₀.working).divisions (basic_set_of s₀.working).constraints (moved_to (take c.divs j.places) c));
            divisions = refl;
            divs = refl;
            cons = let e = bg.cons in let h = pair.cons in omega arith;
            size = ap length w-is ∙ sized a la pair.cons ∙ sym bg.cons;
            count = let e = bg.count in omega arith;
          }

      module _ (rows : List (List ℤ)) (place kinds : List ℕ) (s : CutSteps) (k : ℕ) (g : Goes rows place kinds s k) where
        valid-working : (n : ℕ) → Valid n A → Valid n C → Valid n (basic_set_of s.working)
        valid-working n va vc =
            let d : (basic_set_of s.working).divisions ≡ joined_divisions A C = g.divisions ∙ ds-is in
            record {
              few_divisions = subst (λ (l : List Division). length l ≤ 8) (sym d) few;
              few_constraints = let e = g.size in let h = g.cons in omega arith;
              divisions = subst (All (ValidDivision n)) (sym d) (joined-valid n A C va vc few);
              constraints =
                  subst (λ (l : List Division). All (ValidConstraint n (length l)) (basic_set_of s.working).constraints) (sym d)
                  (g.carved.every n (length (joined_divisions A C)) (subst (All (ValidConstraint n (length (joined_divisions A C)))) (sym w-is) (first-valid n A C va vc few)) (subst (All (ValidConstraint n (length (joined_divisions A C)))) (sym rs-is) (second-valid n A C va vc few)));
            }

        few-divs : s.working.divs ≤ 8
        few-divs = let e = g.divs in let h = bg.divs in let l = jn.few in omega arith

        same-fits : candidates_fit keeps (basic_set_of s₀.working).divisions (basic_set_of s₀.working).constraints (moved_to (take c.divs j.places) c) ≡ cut_tight_fits keeps A C
        same-fits =
            (λ i. candidates_fit keeps (ds-is i) (w-is i) (rs-is i))
            ∙ sym (ap (λ (b : Bool). b && candidates_fit keeps (joined_divisions A C) A.constraints (moved_constraints A C)) (sym jn.fits))

        -- a candidate over 48
        pub going-full : k < c.cons → s.working.cons ≡ 48 → CutTightIs a c None
        going-full h e =
            record {
              fits = sym (sym same-fits ∙ carved-full keeps _ _ _ k _ _ g.carved (subst (λ (n : ℕ). k < n) (sym long-rs) h) (let z = g.size in omega arith));
              pieces = tt;
              steps = tt;
              valid = tt;
              divs = tt;
              cons = tt;
              count = tt;
            }

        pub going_end : c.cons ≤ k → CutTightIs a c (Some s)
        unfolding cut_tight
        going_end h =
            let e = carved-end keeps _ _ _ k _ _ g.carved (subst (λ (n : ℕ). n ≤ k) (sym long-rs) h) in
            record {
              fits = sym (sym same-fits ∙ e.1);
              pieces = ap (λ (d : List Division). map (piece_of (record { divisions = d; constraints = (basic_set_of s.working).constraints })) (take s.count s.steps)) g.divisions ∙ e.0 ∙ (λ i. cut_by keeps (ds-is i) (w-is i) (rs-is i));
              steps = g.carved.steps;
              valid = λ n va vc. valid-working n va vc;
              divs = few-divs;
              cons = g.cons;
              count = let z = g.count in let y = g.cons in omega arith;
            }

        module _ (h : k < c.cons) (u : s.working.cons ≡ 48 → ⊥) (r : StoredConstraint) (is : constraint_of r ≡ reduced_of (move_constraint (take c.divs j.places) (constraint_of (get_or c.constraints k no_constraint)))) where
          room : s.working.cons < 48
          room = let z = g.cons in omega arith

          -- the constraint of the cutter, moved, before it is tightened
          raw : Constraint
          raw = move_constraint (take c.divs j.places) (constraint_of (get_or c.constraints k no_constraint))

          read_is : get_or (moved_to (take c.divs j.places) c) k no_rule ≡ raw
          unfolding raw
          read_is = moved_at k h

          reduced-is : constraint_of r ≡ reduced_of raw
          unfolding raw
          reduced-is = is

          pub going-turning : Turning s r
          going-turning =
              let n : ℕ = pair.n in
              let d : (basic_set_of s.working).divisions ≡ joined_divisions A C = g.divisions ∙ ds-is in
              record {
                extending =
                    record {
                      n = n;
                      valid = valid-working n pair.first pair.second;
                      new =
                          subst (λ (l : List Division). ValidConstraint n (length l) (constraint_of r)) (sym d)
                          (subst (ValidConstraint n (length (joined_divisions A C))) (sym reduced-is) (reduced-valid n (length (joined_divisions A C)) raw (subst (ValidConstraint n (length (joined_divisions A C))) read_is
                          (All-at (ValidConstraint n (length (joined_divisions A C))) (moved_to (take c.divs j.places) c) k no_rule (subst (λ (n : ℕ). k < n) (sym long-rs) h)
                          (subst (All (ValidConstraint n (length (joined_divisions A C)))) (sym rs-is) (second-valid n A C pair.first pair.second few))))));
                      divs = few-divs;
                      cons = room;
                    };
                settled = reduced-settled raw (constraint_of r) reduced-is;
                count = g.count;
              }

          pub going_next : (o : Survivors) (x : CutSteps) → Turned s r o x → (k' : ℕ) → k' ≡ cond ((o.above || o.below) && void (constraint_of r)) c.cons (k + 1) → (rows' : List (List ℤ)) (place' kinds' : List ℕ) → length rows' ≡ length rows → length place' ≡ length place → length kinds' ≡ length kinds → Goes rows' place' kinds' x k'
          going_next o x t k' to rows' place' kinds' p q v =
              let ka : Bool = o.above in
              let kb : Bool = o.below in
              let d₀ : List Division = (basic_set_of s₀.working).divisions in
              let w : List Constraint = (basic_set_of s.working).constraints in
              let b : BasicSet = record { divisions = d₀; constraints = w } in
              let e : basic_set_of s.working ≡ b = λ i. record { divisions = g.divisions i; constraints = w } in
              let next =
              carved-next keeps d₀ (basic_set_of s₀.working).constraints (moved_to (take c.divs j.places) c) k w (take s.count s.steps) g.carved (subst (λ (n : ℕ). k < n) (sym long-rs) h) (let z = g.size in let y = room in omega arith) raw (constraint_of r) read_is reduced-is ka kb
              (t.keeping.above ∙ ap (λ (y : BasicSet). is_equality (constraint_of r).kind && keeps (candidate y (tight (above (constraint_of r))))) e)
              (t.keeping.below ∙ ap (λ (y : BasicSet). keeps (candidate y (tight (below (constraint_of r))))) e)
              k' (to ∙ ap₂ (λ (v : Bool) (n : ℕ). cond ((ka || kb) && v) n (k + 1)) (ap void reduced-is ∙ void-reduced raw) (sym long-rs)) in
              let st : take s.count s.steps ++ steps_at (length w) ka kb ≡ take x.count x.steps = ap (λ (n : ℕ). take s.count s.steps ++ steps_at n ka kb) g.size ∙ sym t.steps in
              record {
                high = p ∙ g.high;
                long = q ∙ g.long;
                wide = v ∙ g.wide;
                within = inside ((ka || kb) && void (constraint_of r)) to;
                carved = subst (λ (vs : List ℕ). Carved keeps d₀ (basic_set_of s₀.working).constraints (moved_to (take c.divs j.places) c) k' (basic_set_of x.working).constraints vs) st
                    (subst (λ (l : List Constraint). Carved keeps d₀ (basic_set_of s₀.working).constraints (moved_to (take c.divs j.places) c) k' l (take s.count s.steps ++ steps_at (length w) ka kb)) (sym t.constraints) next);
                divisions = t.divisions ∙ g.divisions;
                divs = t.divs ∙ g.divs;
                cons = let y = t.cons in let z = bit-small (ka || kb) in let l = room in omega arith;
                size = ap length t.constraints ∙ longer (ka || kb) w (constraint_of r) ∙ ap (λ (n : ℕ). n + cond (ka || kb) 1 0) g.size ∙ sym t.cons;
                count = let y = t.cons in let z = t.count in let l = g.count in more ka kb s.count x.count s.working.cons x.working.cons l z y;
              }
            where
              inside : (b : Bool) → k' ≡ cond b c.cons (k + 1) → k' ≤ c.cons
              inside true e = omega arith
              inside false e = omega arith

              longer : (b : Bool) (l : List Constraint) (y : Constraint) → length (cond b (l ++ (y ∷ [])) l) ≡ length l + cond b 1 0
              longer true l y = length-append l (y ∷ [])
              longer false l y = sym (add-zero (length l))

              more : (p q : Bool) (n n' w w' : ℕ) → n ≤ w + w → n' ≡ n + (cond p 1 0 + cond q 1 0) → w' ≡ w + cond (p || q) 1 0 → n' ≤ w' + w'
              more true true n n' w w' h e f = omega arith
              more true false n n' w w' h e f = omega arith
              more false true n n' w w' h e f = omega arith
              more false false n n' w w' h e f = omega arith

-- ---- the same, from the facts once joined

pub record Opened (a c : Stored) (j : Joined) (s₀ : CutSteps) : Type 0 where
  pub pair : Pair a c
  pub join : Joining (basic_set_of a).divisions (basic_set_of c).divisions c.divs (Some j)
  pub first : length a.constraints ≡ 48
  pub second : length c.constraints ≡ 48
  pub begun : Begun a j.divisions j.divs s₀

module _ {a c : Stored} {j : Joined} {s₀ : CutSteps} (o : Opened a c j s₀) where
  pub opened-placed : Placed (take c.divs j.places)
  opened-placed = placed-is a c j o.pair o.join o.first o.second

  pub opened-start : (rows : List (List ℤ)) (place kinds : List ℕ) → Going rows place kinds c c.divs j.places s₀ rows place kinds s₀ 0
  opened-start = going_start a c j o.pair o.join o.first o.second s₀ o.begun

  module _ {rows₀ : List (List ℤ)} {place₀ kinds₀ : List ℕ} {rows : List (List ℤ)} {place kinds : List ℕ} {s : CutSteps} {k : ℕ} (g : Going rows₀ place₀ kinds₀ c c.divs j.places s₀ rows place kinds s k) where
    pub opened-full : k < c.cons → s.working.cons ≡ 48 → CutTightIs a c None
    opened-full = going-full a c j o.pair o.join o.first o.second s₀ o.begun rows₀ place₀ kinds₀ rows place kinds s k g

    pub opened-end : c.cons ≤ k → CutTightIs a c (Some s)
    opened-end = going_end a c j o.pair o.join o.first o.second s₀ o.begun rows₀ place₀ kinds₀ rows place kinds s k g

    module _ (h : k < c.cons) (u : s.working.cons ≡ 48 → ⊥) {r : StoredConstraint} (is : constraint_of r ≡ reduced_of (move_constraint (take c.divs j.places) (constraint_of (get_or c.constraints k no_constraint)))) where
      pub opened-turning : Turning s r
      opened-turning = going-turning a c j o.pair o.join o.first o.second s₀ o.begun rows₀ place₀ kinds₀ rows place kinds s k g h u r is

      pub opened-next : {v : Survivors} {x : CutSteps} → Turned s r v x → (k' : ℕ) → k' ≡ cond ((v.above || v.below) && void (constraint_of r)) c.cons (k + 1) → (rows' : List (List ℤ)) (place' kinds' : List ℕ) → length rows' ≡ length rows → length place' ≡ length place → length kinds' ≡ length kinds
          → Going rows₀ place₀ kinds₀ c c.divs j.places s₀ rows' place' kinds' x k'
      opened-next {v} {x} = going_next a c j o.pair o.join o.first o.second s₀ o.begun rows₀ place₀ kinds₀ rows place kinds s k g h u r is v x

-- ---- a cut of a tight basic set is a cut

pub cut-is : (a c : Stored) → Tight (basic_set_of a) → (s : Option CutSteps) → CutTightIs a c s → CutIs a c s
unfolding cut
cut-is a c e s i =
    let A : BasicSet = basic_set_of a in
    let C : BasicSet = basic_set_of c in
    let u = tight-solvable A e in
    record {
      fits = i.fits ∙ sym (ap (all (λ (p : BasicSet). cut_tight_fits keeps p C)) u ∙ and-true (cut_tight_fits keeps A C));
      pieces = IfSome_then s i.pieces (λ x z. z ∙ sym (ap (concat_map (λ (p : BasicSet). cut_tight keeps p C)) u ∙ append-nil (cut_tight keeps A C)));
      steps = i.steps;
      valid = i.valid;
      divs = i.divs;
      cons = i.cons;
      count = i.count;
    }
