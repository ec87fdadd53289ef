-- "This is claimed of states reached from a start by these calls alone" (document 02, request 8): what they say is sound of their rules and the
-- divisions' bounds; they and the marked ones fit 16 columns, 64 rows and 80 variables, and there are at most 16 marks.
use mathlib.Core.Path.{◌≡◌, refl, sym, ap, ◌∙◌, subst}
use mathlib.Core.Bool.{Bool, true, false, ◌&&◌, cond}
use mathlib.Core.List.{List, [], ◌∷◌, ◌++◌}
use mathlib.Core.Option.{Option, none, some}
use Prim.Native.Nat.{ℕ, zero, suc, ◌+◌, ◌*◌, ◌≤◌, ◌<◌}
use native.Mathlib.Nat.{zero-add}
use native.Mathlib.Omega.{arith}
use lib.Dec.{T, leb, ltb→lt}
use lib.ListN.{length, length-append}
use Rattle.model.specs.Lists.{all}
use Rattle.model.specs.Sets.{Division, Constraint, BasicSet, absent, over_axes, bounds}
use Rattle.codec.specs.Bytes.{Answer, refused, gives, Counts, division, tests_of, refusal, axes_fit}
use Rattle.feasibility.specs.Tableau.{Verdict, point, dropped, long, wide}
use Rattle.termination.specs.Unlimited.{NoPoint}
use Rattle.model.proofs.Count.{no-suc, and_left, and_right, and-make, all_append}
use Rattle.codec.proofs.Parsing.{all-passed}
use Rattle.feasibility.proofs.Verdicts.{some-none}
use Rattle.feasibility.proofs.Points.{Witness}
use Rattle.planning.specs.Draft.{Draft}
use Rattle.planning.specs.State.{State, without_rules, begun, counted, grown, new_row, goes_on, added, unless, start_refusal, divisions_refusal, rule_tests, rule_refusal, begins, adds}
use Rattle.planning.specs.Desk.{Desk, marked, named, through, Call, fresh, left, after_all, call_answer, set_begins, set_adds, Reached, reached-start, reached-call}
use Rattle.planning.proofs.Proper.{Proper, kinds-length, proper-begun, proper-added}
use Rattle.planning.proofs.Says.{ruled, Stands, stands-begun, stands-added, account, empty-sound, point-sound}
use Rattle.planning.proofs.Marks.{Once, once-marked, once-through, NamesBelow, names_marked, names-through, marks-few}
use Rattle.planning.proofs.Back.{no-gives, given, marks-after, KeepsAll, Restored, back-restores}
use Rattle.planning.proofs.Beside.{Together, Both, neither, both, along-named, follows}

-- ---- what is given was not refused

unless-gives : {C : Type 0} (n : ℕ) (a c : C) → unless n a ≡ gives c → (n ≡ 0) × (a ≡ c)
unless-gives zero a c q = (refl, cc)
unless-gives (suc n) a c q = no-gives q

abbrev within : ℕ → List Division → Bool
within n ds = all (λ (e : Division). absent n e.axes) ds

-- the divisions from number i on: at most 8 in all, over n axes
divisions-pass : (n i : ℕ) (ds : List Division) → i ≤ 8 → divisions_refusal n i ds ≡ 0 → (i + length ds ≤ 8) × T (within n ds)
divisions-pass n i [] h e = (omega arith, tt)
divisions-pass n i (x ∷ ds) h e = at (refusal n k (division x)) refl e (divisions-pass n (suc i) ds)
  where
    k : Counts
    k = record { basics = 1; divisions = i; constraints = 0 }

    moved : suc i + length ds ≤ 8 → i + suc (length ds) ≤ 8
    moved h = omega arith

    at : (m : ℕ) → refusal n k (division x) ≡ m → ◌≡◌ {A = ℕ} (elim m [ zero ↦ divisions_refusal n (suc i) ds | suc m ↦ suc m ]) 0
        → (suc i ≤ 8 → divisions_refusal n (suc i) ds ≡ 0 → (suc i + length ds ≤ 8) × T (within n ds)) → (i + suc (length ds) ≤ 8) × T (within n (x ∷ ds))
    at zero p e ih =
        let t = all-passed (tests_of n k (division x)) tt p in
        let y = ih (ltb→lt i 8 t.1.1.0) e in
        (moved y.0, and-make (absent n x.axes) (within n ds) t.1.1.1.1.1.0 y.1)
    at (suc m) p e ih = no-suc e

first_of : (b : Bool) (n k : ℕ) → cond b n (suc k) ≡ 0 → n ≡ 0
first_of true n k e = e
first_of false n k e = no-suc e

-- ---- the basic set of a state

-- at most 8 divisions and 48 rules, over its axes
pub record Belongs (b : BasicSet) (s : State) : Type 0 where
  pub stands : Stands b s
  pub few_divisions : length b.divisions ≤ 8
  pub few_rules : length b.constraints ≤ 48
  pub over : T (over_axes s.axes b)

begin-follows : (n : ℕ) (ds : List Division) (s : State) → begins n ds ≡ gives s → (x : BasicSet) × (set_begins n ds ≡ gives x) × Belongs x s
unfolding begun
begin-follows n ds s q =
    let u = unless-gives (start_refusal n ds) (begun n ds) s q in
    let f = divisions-pass n 0 ds (omega arith) (first_of (axes_fit n) (divisions_refusal n 0 ds) 0 u.0) in (
      without_rules ds,
      refl,
      subst (Belongs (without_rules ds)) u.1
          (record { stands = stands-begun n ds; few_divisions = subst (λ (k : ℕ). k ≤ 8) (zero-add (length ds)) f.0; few_rules = omega arith; over = and-make (within n ds) true f.1 tt }),
    )

-- an addition leaves the axes
added-axes : (s : State) (r : Constraint) → (added s r).axes ≡ s.axes
unfolding added
added-axes s r = at s.says
  where
    on : (o : Option Draft) → (grown goes_on s r o).axes ≡ s.axes
    on none = refl
    on (some d) = refl

    at : (v : Verdict) → (elim v as (λ (v : Verdict). State) [ point ↦ grown goes_on s r (new_row s r) | dropped ↦ counted s | long ↦ counted s | wide ↦ counted s ]).axes ≡ s.axes
    at point = on (new_row s r)
    at dropped = refl
    at long = refl
    at wide = refl

add-follows : (r : Constraint) (b : BasicSet) (s s' : State) → Belongs b s → adds r s ≡ gives s' → (b' : BasicSet) × (set_adds r b ≡ gives b') × Belongs b' s'
add-follows r b s s' h q =
    let u = unless-gives (rule_refusal s r) (added s r) s' q in
    let t = all-passed (rule_tests s.axes s.divisions s.rules r) tt u.0 in
    let l : s.rules < 48 = ltb→lt s.rules 48 t.1.1.0 in
    let e : s.rules ≡ length b.constraints = (account b s h.stands).counts in
    let k = length-append b.constraints (r ∷ []) in
    let axes = and_left (absent s.axes r.axes) (absent s.divisions r.divisions) t.1.0 in (
      ruled b.divisions (b.constraints ++ (r ∷ [])),
      refl,
      subst (Belongs (ruled b.divisions (b.constraints ++ (r ∷ [])))) u.1
          (record {
            stands = stands-added h.stands r;
            few_divisions = h.few_divisions;
            few_rules = omega arith;
            over = subst (λ (n : ℕ). T (over_axes n (ruled b.divisions (b.constraints ++ (r ∷ []))))) (sym (added-axes s r)) (over-more s.axes axes h.over);
          }),
    )
  where
    over-more : (n : ℕ) → T (absent n r.axes) → T (over_axes n b) → T (over_axes n (ruled b.divisions (b.constraints ++ (r ∷ []))))
    over-more n a o =
        let f : Constraint → Bool = λ r. absent n r.axes in
        and-make (within n b.divisions) (all f (b.constraints ++ (r ∷ []))) (and_left (within n b.divisions) (all f b.constraints) o)
        (subst T (sym (all_append f b.constraints (r ∷ [])))
        (and-make (all f b.constraints) (f r && true) (and_right (within n b.divisions) (all f b.constraints) o) (and-make (f r) true a tt)))

-- ---- of a desk that is reached

pub reached-together : {b : Desk BasicSet} {d : Desk State} → Reached b d → Together Belongs b d
reached-together (reached-start n ds {d} q) = on (begins n ds) refl q
  where
    on : (a : Answer State) → begins n ds ≡ a → fresh a ≡ gives d → Together Belongs (record { now = without_rules ds; marks = [] }) d
    on (refused k) p q = no-gives q
    on (gives s) p q =
        let f = begin-follows n ds s p in
        subst (Together Belongs (record { now = without_rules ds; marks = [] })) (given q) (record { now = subst (λ (b : BasicSet). Belongs b s) (sym (given f.1)) f.2; marks = tt })
reached-together (reached-call {b} {c} {d} {e} h a q p) =
    let f = follows Belongs set_begins set_adds begins adds begin-follows add-follows a b d e (reached-together h) q in
    subst (λ (x : Desk BasicSet). Together Belongs x e) (given (sym f.1 ∙ p)) f.2

-- every call that is not refused leads on, and so do any calls
pub reached-on : {b : Desk BasicSet} {d e : Desk State} → Reached b d → (c : Call) → call_answer c d ≡ gives e → (b' : Desk BasicSet) × Reached b' e
reached-on {b} {d} {e} h c q =
    let f = follows Belongs set_begins set_adds begins adds begin-follows add-follows c b d e (reached-together h) q in
    (f.0, reached-call h c q f.1)

pub reached-all : {b : Desk BasicSet} {d : Desk State} → Reached b d → (cs : List Call) → (b' : Desk BasicSet) × Reached b' (after_all begins adds cs d)
reached-all {b} {d} h [] = (b, h)
reached-all {b} {d} h (c ∷ cs) = let r = on (call_answer c d) refl in reached-all {b = r.0} r.1 cs
  where
    on : (a : Answer (Desk State)) → call_answer c d ≡ a → (b' : Desk BasicSet) × Reached b' (left a d)
    on (refused m) q = (b, h)
    on (gives e) q = reached-on h c q

-- "Empty is said only when no point with fractions meets the rules and the divisions' bounds, point only when one does"
pub reached-empty : {b : Desk BasicSet} {d : Desk State} → Reached b d → d.now.says ≡ dropped → NoPoint b.now
reached-empty {b} {d} h q = empty-sound b.now d.now (reached-together h).now.stands q

pub reached-point : {b : Desk BasicSet} {d : Desk State} → Reached b d → d.now.says ≡ point → Witness d.now.axes b.now
reached-point {b} {d} h q = let k = (reached-together h).now in point-sound b.now d.now k.stands q d.now.axes k.over

-- ---- marks

module _ (P : List (ℕ × State) → Type 0) (empty : P []) (marks : (k : ℕ) (d : Desk State) → k < 16 → P d.marks → P (marked k d).marks) (backs : (k : ℕ) (ms : List (ℕ × State)) → P ms → P (through k ms)) where
  reached-marks : {b : Desk BasicSet} {d : Desk State} → Reached b d → P d.marks
  reached-marks (reached-start n ds {d} q) = on (begins n ds) q
    where
      on : (a : Answer State) → fresh a ≡ gives d → P d.marks
      on (refused k) q = no-gives q
      on (gives s) q = subst (λ (x : Desk State). P x.marks) (given q) empty
  reached-marks (reached-call {b} {c} {d} {e} h a q p) =
      subst (λ (x : Desk State). P x.marks) (ap (λ (a : Answer (Desk State)). left a d) q) (marks-after begins adds P empty marks backs a d (reached-marks h))

pub reached-once : {b : Desk BasicSet} {d : Desk State} → Reached b d → Once d.marks
reached-once h = reached-marks Once tt (λ k d l o. once-marked k d o) once-through h

reached-names : {b : Desk BasicSet} {d : Desk State} → Reached b d → NamesBelow 16 d.marks
reached-names h = reached-marks (NamesBelow 16) tt (λ k d l n. names_marked 16 k d l n) (names-through 16) h

-- "Going back to a name restores ..": whatever calls follow the mark that keep it
pub reached-back : {b : Desk BasicSet} {d : Desk State} → Reached b d → (k : ℕ) (cs : List Call) → T (leb k 15) → KeepsAll begins adds k cs (marked k d) → Restored begins adds k d cs
reached-back {b} {d} h k cs t z = back-restores begins adds k d cs t (reached-once h) z

-- ---- sizes

stands-proper : (b : BasicSet) (s : State) → Stands b s → Proper s
stands-proper _ _ (stands-begun n ds) = proper-begun n ds
stands-proper _ _ (stands-added {ds} {rs} {s} h r) = proper-added s r (stands-proper (ruled ds rs) s h)

-- a state's tableau is complete, of at most 16 columns, 64 rows and 80 variables
pub record Sized (s : State) : Type 0 where
  pub proper : Proper s
  pub cols : length s.tableau.cols ≤ 16
  pub rows : length s.tableau.rows ≤ 64
  pub kinds : length s.kinds ≤ 80

bounds-many : (i : ℕ) (ds : List Division) → length (bounds i ds) ≡ 2 * length ds
bounds-many i [] = refl
bounds-many i (e ∷ ds) = let h = bounds-many (suc i) ds in omega arith

belongs-sized : (b : BasicSet) (s : State) → Belongs b s → Sized s
belongs-sized b s h =
    let x = account b s h.stands in
    let p = stands-proper b s h.stands in
    let e : length b.constraints ≡ length x.entered + length x.later = ap length (sym x.together) ∙ length-append x.entered x.later in
    let f : length (bounds 0 b.divisions ++ x.entered) ≡ length (bounds 0 b.divisions) + length x.entered = length-append (bounds 0 b.divisions) x.entered in
    let g = bounds-many 0 b.divisions in
    let n : length s.kinds ≡ 8 + length b.divisions + length (bounds 0 b.divisions ++ x.entered) = ap length x.kinds ∙ kinds-length (ruled b.divisions x.entered) in
    let o = x.over in
    let c = p.square in
    let r = p.many in
    let d = h.few_divisions in
    let w = h.few_rules in
    record { proper = p; cols = omega arith; rows = omega arith; kinds = omega arith }

-- and a desk has at most 16 marks, of such states
pub record Fits (d : Desk State) : Type 0 where
  pub now : Sized d.now
  pub few : length d.marks ≤ 16
  pub marks : (k : ℕ) (s : State) → named k d.marks ≡ some s → Sized s

pub reached-fits : {b : Desk BasicSet} {d : Desk State} → Reached b d → Fits d
reached-fits {b} {d} h =
    let t = reached-together h in
    record {
      now = belongs-sized b.now d.now t.now;
      few = marks-few 16 d.marks (reached-once h) (reached-names h);
      marks = λ k s q. on k s (named k b.marks) (named k d.marks) (along-named Belongs k b.marks d.marks t.marks) q;
    }
  where
    on : (k : ℕ) (s : State) (o : Option BasicSet) (u : Option State) → Both Belongs o u → u ≡ some s → Sized s
    on k s _ _ neither q = some-none (sym q)
    on k s _ _ (both {x} {s = y} r) q = let z : y ≡ s = cc in subst Sized z (belongs-sized x y r)
