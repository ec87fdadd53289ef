-- A memory's ranks are the names' places in time among the marks: marking and going back change them as the marks. Assumes nothing.
use mathlib.Core.Path.{◌≡◌, refl, sym, ap, ap₂, ◌∙◌, subst}
use mathlib.Core.Bool.{Bool, true, false, cond}
use mathlib.Core.List.{List, [], ◌∷◌, ◌++◌, map}
use mathlib.Core.Option.{none, some}
use mathlib.Core.Logic.{⊎_elim}
use Prim.Native.Nat.{ℕ, zero, suc, ◌+◌, ◌-◌, ◌≤◌, ◌<◌}
use native.Mathlib.Nat.{not-suc-le-zero, le_of_suc-le-suc, zero-add}
use native.Mathlib.Omega.{arith}
use borrow.Author.Tests.{eq-eqb, ne_eqb, eqb-true, eqb-false, lt-ltb, le-ltb}
use lib.Dec.{eqb}
use lib.ListN.{length, get_or, set, length-set, length-map}
use lib.Seq.{get_or-set_same, get_or-set_other, ext_get_or}
use Rattle.integers.specs.Part.{lt-or-le}
use Rattle.model.proofs.Lists.{map_get}
use Rattle.feasibility.proofs.Verdicts.{some-none}
use Rattle.simplex.specs.Table.{tabulate}
use Rattle.simplex.proofs.Columns.{tabulate-at}
use Rattle.planning.specs.State.{State}
use Rattle.planning.specs.Desk.{Desk, named, without, marked, through}
use Rattle.planning.proofs.Marks.{through_here, through-there, without-here, without-there, Once, once-without, NamesBelow, names-without, absent-stays}
use Rattle.memory.specs.Memory.{fallen, forgotten, marks, last, newest}
use Rattle.reaching.specs.Shows.{later, rank_in}

-- ---- two names

abbrev Marks : Type 0
Marks = List (ℕ × State)

rank-here : (p : ℕ × State) (ms : Marks) (k : ℕ) → p.0 ≡ k → rank_in (p ∷ ms) k ≡ 1
rank-here p ms k e = ap (λ b. cond b 1 (later (rank_in ms k))) (eq-eqb p.0 k e)

rank-there : (p : ℕ × State) (ms : Marks) (k : ℕ) → (p.0 ≡ k → ⊥) → rank_in (p ∷ ms) k ≡ later (rank_in ms k)
rank-there p ms k n = ap (λ b. cond b 1 (later (rank_in ms k))) (ne_eqb p.0 k n)

-- a mark, or the rest
by_name : {P : Type 0} (a k : ℕ) → (a ≡ k → P) → ((a ≡ k → ⊥) → P) → P
by_name {P} a k f g = at (eqb a k) refl
  where
    at : (b : Bool) → eqb a k ≡ b → P
    at true q = f (eqb-true a k q)
    at false q = g (eqb-false a k q)

-- ---- marked or not

later-none : (n : ℕ) → later n ≡ 0 → n ≡ 0
later-none zero e = refl
later-none (suc n) e = absurd (omega arith)

pub rank-none : (k : ℕ) (ms : Marks) → rank_in ms k ≡ 0 → named k ms ≡ none
rank-none k [] e = refl
rank-none k (p ∷ ms) e = at (eqb p.0 k) e (rank-none k ms)
  where
    at : (b : Bool) → cond b 1 (later (rank_in ms k)) ≡ 0 → (rank_in ms k ≡ 0 → named k ms ≡ none) → cond b (some p.1) (named k ms) ≡ none
    at true e ih = absurd (omega arith)
    at false e ih = ih (later-none (rank_in ms k) e)

pub none-rank : (k : ℕ) (ms : Marks) → named k ms ≡ none → rank_in ms k ≡ 0
none-rank k [] e = refl
none-rank k (p ∷ ms) e = at (eqb p.0 k) e (none-rank k ms)
  where
    at : (b : Bool) → cond b (some p.1) (named k ms) ≡ none → (named k ms ≡ none → rank_in ms k ≡ 0) → cond b 1 (later (rank_in ms k)) ≡ 0
    at true e ih = some-none e
    at false e ih = ap later (ih e)

-- ---- one mark more, the newest

rank-other : (j k : ℕ) (x : State) (ms : Marks) → (k ≡ j → ⊥) → rank_in (ms ++ ((k, x) ∷ [])) j ≡ rank_in ms j
rank-other j k x [] n = rank-there (k, x) [] j n
rank-other j k x (p ∷ ms) n = ap (λ m. cond (eqb p.0 j) 1 (later m)) (rank-other j k x ms n)

later-suc : (n : ℕ) → later (n + 1) ≡ suc n + 1
later-suc n = ap later (native.Mathlib.Numerals.add-one n) ∙ sym (native.Mathlib.Numerals.add-one (suc n))

rank-newest : (k : ℕ) (x : State) (ms : Marks) → rank_in ms k ≡ 0 → rank_in (ms ++ ((k, x) ∷ [])) k ≡ length ms + 1
rank-newest k x [] e = rank-here (k, x) [] k refl
rank-newest k x (p ∷ ms) e =
    by_name p.0 k (λ q. absurd (let z : rank_in (p ∷ ms) k ≡ 1 = rank-here p ms k q in omega arith))
    (λ n. rank-there p (ms ++ ((k, x) ∷ [])) k n ∙ ap later (rank-newest k x ms (later-none (rank_in ms k) (sym (rank-there p ms k n) ∙ e))) ∙ later-suc (length ms))

-- ---- without a mark

same-both : (b : Bool) (x : ℕ) → cond b x x ≡ x
same-both true x = refl
same-both false x = refl

fallen-under : (o x : ℕ) → x ≤ o → fallen o x ≡ x
fallen-under o x h = ap (λ c. cond (eqb o 0) x (cond c (x - 1) x)) (le-ltb o x h) ∙ same-both (eqb o 0) x

fallen-over : (o x : ℕ) → (o ≡ 0 → ⊥) → o < x → fallen o x ≡ x - 1
fallen-over o x n h = ap₂ (λ b c. cond b x (cond c (x - 1) x)) (ne_eqb o 0 n) (lt-ltb o x h)

fall-later : (o x : ℕ) → later (fallen o x) ≡ fallen (later o) (later x)
fall-later zero x = refl
fall-later (suc o) zero = ap later (fallen-under (suc o) 0 (omega arith)) ∙ sym (fallen-under (suc (suc o)) 0 (omega arith))
fall-later (suc o) (suc x) =
    ⊎_elim (λ h. ap later (fallen-over (suc o) (suc x) (λ e. omega arith) h) ∙ less x h ∙ sym (fallen-over (suc (suc o)) (suc (suc x)) (λ e. omega arith) (omega arith)))
    (λ h. ap later (fallen-under (suc o) (suc x) h) ∙ sym (fallen-under (suc (suc o)) (suc (suc x)) (omega arith))) (lt-or-le (suc o) (suc x))
  where
    less : (x : ℕ) → suc o < suc x → later (suc x - 1) ≡ suc (suc x) - 1
    less zero h = absurd (omega arith)
    less (suc x) h = let p : suc (suc x) - 1 ≡ suc x = omega arith in let q : suc (suc (suc x)) - 1 ≡ suc (suc x) = omega arith in ap later p ∙ sym q

fall-first : (o : ℕ) → fallen (later o) 1 ≡ 1
fall-first zero = refl
fall-first (suc o) = fallen-under (suc (suc o)) 1 (omega arith)

fall-oldest : (x : ℕ) → fallen 1 (later x) ≡ x
fall-oldest zero = refl
fall-oldest (suc x) = let p : suc (suc x) - 1 ≡ suc x = omega arith in ap (λ b. cond b (suc (suc x) - 1) (suc (suc x))) (lt-ltb 1 (suc (suc x)) (omega arith)) ∙ p

rank-without : (j k : ℕ) (ms : Marks) → Once ms → (j ≡ k → ⊥) → rank_in (without k ms) j ≡ fallen (rank_in ms k) (rank_in ms j)
rank-without j k [] o n = refl
rank-without j k (p ∷ ms) o n = by_name p.0 k here (there (rank-without j k ms o.1 n))
  where
    here : p.0 ≡ k → rank_in (without k (p ∷ ms)) j ≡ fallen (rank_in (p ∷ ms) k) (rank_in (p ∷ ms) j)
    here q =
        ap (λ l. rank_in l j) (without-here k p ms (eq-eqb p.0 k q) ∙ absent-stays k ms (ap (λ a. named a ms) (sym q) ∙ o.0))
        ∙ sym (fall-oldest (rank_in ms j))
        ∙ ap₂ fallen (sym (rank-here p ms k q)) (sym (rank-there p ms j (λ e. n (sym e ∙ q))))

    there : rank_in (without k ms) j ≡ fallen (rank_in ms k) (rank_in ms j) → (p.0 ≡ k → ⊥) → rank_in (without k (p ∷ ms)) j ≡ fallen (rank_in (p ∷ ms) k) (rank_in (p ∷ ms) j)
    there ih m =
        ap (λ l. rank_in l j) (without-there k p ms (ne_eqb p.0 k m))
        ∙ by_name p.0 j
        (λ q. rank-here p (without k ms) j q ∙ sym (ap₂ fallen (rank-there p ms k m) (rank-here p ms j q) ∙ fall-first (rank_in ms k)))
        (λ q. rank-there p (without k ms) j q ∙ ap later ih ∙ fall-later (rank_in ms k) (rank_in ms j) ∙ ap₂ fallen (sym (rank-there p ms k m)) (sym (rank-there p ms j q)))

rank-gone : (k : ℕ) (ms : Marks) → rank_in (without k ms) k ≡ 0
rank-gone k [] = refl
rank-gone k (p ∷ ms) =
    by_name p.0 k (λ q. ap (λ l. rank_in l k) (without-here k p ms (eq-eqb p.0 k q)) ∙ rank-gone k ms)
    (λ n. ap (λ l. rank_in l k) (without-there k p ms (ne_eqb p.0 k n)) ∙ rank-there p (without k ms) k n ∙ ap later (rank-gone k ms))

-- ---- the marks up to one

forgotten-under : (o x : ℕ) → x ≤ o → forgotten o x ≡ x
forgotten-under o x h = ap (λ c. cond c 0 x) (le-ltb o x h)

forgotten-over : (o x : ℕ) → o < x → forgotten o x ≡ 0
forgotten-over o x h = ap (λ c. cond c 0 x) (lt-ltb o x h)

forget-later : (o x : ℕ) → (o ≡ 0 → ⊥) → later (forgotten o x) ≡ forgotten (later o) (later x)
forget-later zero x n = absurd (n refl)
forget-later (suc o) zero n = ap later (forgotten-under (suc o) 0 (omega arith)) ∙ sym (forgotten-under (suc (suc o)) 0 (omega arith))
forget-later (suc o) (suc x) n =
    ⊎_elim (λ h. ap later (forgotten-over (suc o) (suc x) h) ∙ sym (forgotten-over (suc (suc o)) (suc (suc x)) (omega arith)))
    (λ h. ap later (forgotten-under (suc o) (suc x) h) ∙ sym (forgotten-under (suc (suc o)) (suc (suc x)) (omega arith))) (lt-or-le (suc o) (suc x))

forget-first : (o : ℕ) → (o ≡ 0 → ⊥) → forgotten (later o) 1 ≡ 1
forget-first zero n = absurd (n refl)
forget-first (suc o) n = forgotten-under (suc (suc o)) 1 (omega arith)

forget-rest : (x : ℕ) → forgotten 1 (later x) ≡ 0
forget-rest zero = refl
forget-rest (suc x) = forgotten-over 1 (suc (suc x)) (omega arith)

pub rank-through : (j k : ℕ) (ms : Marks) → (rank_in ms k ≡ 0 → ⊥) → rank_in (through k ms) j ≡ forgotten (rank_in ms k) (rank_in ms j)
rank-through j k [] z = absurd (z refl)
rank-through j k (p ∷ ms) z = by_name p.0 k here (there (rank-through j k ms))
  where
    here : p.0 ≡ k → rank_in (through k (p ∷ ms)) j ≡ forgotten (rank_in (p ∷ ms) k) (rank_in (p ∷ ms) j)
    here q =
        ap (λ l. rank_in l j) (through_here k p ms (eq-eqb p.0 k q))
        ∙ by_name p.0 j
        (λ e. rank-here p [] j e ∙ sym (ap₂ forgotten (rank-here p ms k q) (rank-here p ms j e)))
        (λ n. rank-there p [] j n ∙ sym (ap₂ forgotten (rank-here p ms k q) (rank-there p ms j n) ∙ forget-rest (rank_in ms j)))

    there : ((rank_in ms k ≡ 0 → ⊥) → rank_in (through k ms) j ≡ forgotten (rank_in ms k) (rank_in ms j)) → (p.0 ≡ k → ⊥) → rank_in (through k (p ∷ ms)) j ≡ forgotten (rank_in (p ∷ ms) k) (rank_in (p ∷ ms) j)
    there ih m =
        let y : rank_in ms k ≡ 0 → ⊥ = λ e. z (rank-there p ms k m ∙ ap later e) in
        ap (λ l. rank_in l j) (through-there k p ms (ne_eqb p.0 k m))
        ∙ by_name p.0 j
        (λ q. rank-here p (through k ms) j q ∙ sym (ap₂ forgotten (rank-there p ms k m) (rank-here p ms j q) ∙ forget-first (rank_in ms k) y))
        (λ q. rank-there p (through k ms) j q ∙ ap later (ih y) ∙ forget-later (rank_in ms k) (rank_in ms j) y ∙ ap₂ forgotten (sym (rank-there p ms k m)) (sym (rank-there p ms j q)))

-- ---- how many names have a rank

abbrev one : ℕ → ℕ
one x = cond (eqb x 0) 0 1

one_later : (x : ℕ) → one (later x) ≡ one x
one_later zero = refl
one_later (suc x) = ap (λ b. cond b 0 1) (ne_eqb (suc (suc x)) 0 (λ e. omega arith)) ∙ sym (ap (λ b. cond b 0 1) (ne_eqb (suc x) 0 (λ e. omega arith)))

marks-same : (n : ℕ) (f g : ℕ → ℕ) → ((j : ℕ) → j < n → one (f j) ≡ one (g j)) → marks (tabulate n f) ≡ marks (tabulate n g)
unfolding marks
marks-same zero f g h = refl
marks-same (suc n) f g h = ap₂ ◌+◌ (h 0 (omega arith)) (marks-same n (λ i. f (suc i)) (λ i. g (suc i)) (λ j l. h (suc j) (omega arith)))

-- one name more has one
marks-one : (n a : ℕ) (f g : ℕ → ℕ) → a < n → one (f a) ≡ 1 → one (g a) ≡ 0 → ((j : ℕ) → j < n → (j ≡ a → ⊥) → one (f j) ≡ one (g j)) → marks (tabulate n f) ≡ suc (marks (tabulate n g))
unfolding marks
marks-one zero a f g l p q h = absurd (not-suc-le-zero l)
marks-one (suc n) zero f g l p q h =
    let e = marks-same n (λ i. f (suc i)) (λ i. g (suc i)) (λ j b. h (suc j) (omega arith) (λ z. omega arith)) in
    omega arith
marks-one (suc n) (suc a) f g l p q h =
    let e = marks-one n a (λ i. f (suc i)) (λ i. g (suc i)) (le_of_suc-le-suc l) p q (λ j b z. h (suc j) (omega arith) (λ w. z (omega arith))) in
    let x = h 0 (omega arith) (λ z. omega arith) in
    omega arith

marks-none : (n : ℕ) → marks (tabulate n (λ j. 0)) ≡ 0
unfolding marks
marks-none zero = refl
marks-none (suc n) = zero-add (marks (tabulate n (λ j. 0))) ∙ marks-none n

ranks-count : (n : ℕ) (ms : Marks) → Once ms → NamesBelow n ms → marks (tabulate n (rank_in ms)) ≡ length ms
ranks-count n [] o b = marks-none n
ranks-count n (p ∷ ms) o b =
    marks-one n p.0 (rank_in (p ∷ ms)) (rank_in ms) b.0 (ap one (rank-here p ms p.0 refl)) (ap one (none-rank p.0 ms o.0))
    (λ j l z. ap one (rank-there p ms j (λ e. z (sym e))) ∙ one_later (rank_in ms j))
    ∙ ap suc (ranks-count n ms o.1 b.1)

-- ---- the memory's changes of them

abbrev pub ranks : Marks → List ℕ
ranks ms = tabulate 16 (rank_in ms)

rank-at : (ms : Marks) (j : ℕ) → j < 16 → get_or (ranks ms) j 0 ≡ rank_in ms j
rank-at ms j h = tabulate-at 16 (rank_in ms) j 0 h

-- without name k: its own 0, what is above it one less
ranks-without : (k : ℕ) (ms : Marks) → Once ms → k < 16 → map (fallen (get_or (ranks ms) k 0)) (set (ranks ms) k 0) ≡ ranks (without k ms)
ranks-without k ms o h =
    ap (λ x. map (fallen x) (set (ranks ms) k 0)) (rank-at ms k h)
    ∙ ext_get_or 0 (map (fallen (rank_in ms k)) (set (ranks ms) k 0)) (ranks (without k ms)) (length-map (set (ranks ms) k 0) (fallen (rank_in ms k)) ∙ long) each
  where
    long : length (set (ranks ms) k 0) ≡ 16
    long = length-set (ranks ms) k 0

    each : (j : ℕ) → j < length (map (fallen (rank_in ms k)) (set (ranks ms) k 0)) → get_or (map (fallen (rank_in ms k)) (set (ranks ms) k 0)) j 0 ≡ get_or (ranks (without k ms)) j 0
    each j l =
        let q = length-map (set (ranks ms) k 0) (fallen (rank_in ms k)) in
        let r = long in
        let w : j < 16 = omega arith in
        map_get (fallen (rank_in ms k)) (set (ranks ms) k 0) j 0 0 (omega arith)
        ∙ by_name j k
        (λ e. ap (fallen (rank_in ms k)) (ap (λ i. get_or (set (ranks ms) k 0) i 0) e ∙ get_or-set_same (ranks ms) k 0 0 h) ∙ fallen-under (rank_in ms k) 0 (omega arith) ∙ sym (rank-gone k ms) ∙ ap (rank_in (without k ms)) (sym e))
        (λ n. ap (fallen (rank_in ms k)) (get_or-set_other (ranks ms) k j 0 0 n ∙ rank-at ms j w) ∙ sym (rank-without j k ms o n))
        ∙ sym (rank-at (without k ms) j w)

-- "Marking a used name moves it"
pub ranks-marked : (k : ℕ) (d : Desk State) → Once d.marks → NamesBelow 16 d.marks → k < 16 → newest k (ranks d.marks) ≡ ranks (marked k d).marks
unfolding newest
ranks-marked k d o b h =
    ap (last k) (ranks-without k d.marks o h)
    ∙ ap (λ n. set (ranks rest) k (n + 1)) (ranks-count 16 rest (once-without k d.marks o) (names-without 16 k d.marks b))
    ∙ ext_get_or 0 (set (ranks rest) k (length rest + 1)) (ranks (marked k d).marks) (length-set (ranks rest) k (length rest + 1)) each
  where
    rest : Marks
    rest = without k d.marks

    each : (j : ℕ) → j < length (set (ranks rest) k (length rest + 1)) → get_or (set (ranks rest) k (length rest + 1)) j 0 ≡ get_or (ranks (marked k d).marks) j 0
    each j l =
        let w : j < 16 = subst (λ n. j < n) (length-set (ranks rest) k (length rest + 1)) l in
        by_name j k
        (λ e. ap (λ i. get_or (set (ranks rest) k (length rest + 1)) i 0) e ∙ get_or-set_same (ranks rest) k (length rest + 1) 0 h ∙ sym (rank-newest k d.now rest (rank-gone k d.marks)) ∙ ap (rank_in (marked k d).marks) (sym e))
        (λ n. get_or-set_other (ranks rest) k j (length rest + 1) 0 n ∙ rank-at rest j w ∙ sym (rank-other j k d.now rest (λ e. n (sym e))))
        ∙ sym (rank-at (marked k d).marks j w)

forget-each : (f g : ℕ → ℕ) (r : ℕ) → ((j : ℕ) → g j ≡ forgotten r (f j)) → (n : ℕ) → map (forgotten r) (tabulate n f) ≡ tabulate n g
forget-each f g r h zero = refl
forget-each f g r h (suc n) = ap₂ ◌∷◌ (sym (h 0)) (forget-each (λ i. f (suc i)) (λ i. g (suc i)) r (λ j. h (suc j)) n)

-- "forgets the marks made after it"
pub ranks-through : (k : ℕ) (ms : Marks) → (rank_in ms k ≡ 0 → ⊥) → map (forgotten (rank_in ms k)) (ranks ms) ≡ ranks (through k ms)
ranks-through k ms z = forget-each (rank_in ms) (rank_in (through k ms)) (rank_in ms k) (λ j. rank-through j k ms z) 16

-- "without marks", whatever the ranks were
forget-all : (x : ℕ) → forgotten 0 x ≡ 0
forget-all zero = refl
forget-all (suc x) = forgotten-over 0 (suc x) (omega arith)

pub ranks-none : (r : List ℕ) → length r ≡ 16 → map (forgotten 0) r ≡ tabulate 16 (rank_in [])
ranks-none r e = zeros 16 r e
  where
    zeros : (n : ℕ) (r : List ℕ) → length r ≡ n → map (forgotten 0) r ≡ tabulate n (rank_in [])
    zeros zero [] e = refl
    zeros zero (x ∷ r) e = absurd (omega arith)
    zeros (suc n) [] e = absurd (omega arith)
    zeros (suc n) (x ∷ r) e = ap₂ ◌∷◌ (forget-all x) (zeros n r (omega arith))
