-- The script is decided command by command (document 01, "The script program"): whatever follows a whole command changes neither what it
-- does nor where the next one starts, so the output does not depend on how the input is split into reads; and what follows the end of
-- the script is ignored.
use mathlib.Core.Path.{◌≡◌, refl, sym, ap, ap₂, ◌∙◌, subst}
use mathlib.Core.Bool.{Bool, true, false, not, cond}
use mathlib.Core.List.{List, [], ◌∷◌, ◌++◌}
use Prim.Native.Nat.{ℕ, zero, suc, ◌+◌, ◌-◌, ◌≤◌, ◌<◌}
use native.Mathlib.Nat.{not-suc-le-zero, le_of_suc-le-suc}
use native.Mathlib.Omega.{arith}
use lib.Dec.{T, leb, ltb, eqb, leb→le, le→leb, ltb→lt, eqb→eq}
use lib.ListN.{length, take, drop, length-append, length-drop}
use lib.Seq.{take-append-le, drop-append-le}
use Rattle.codec.specs.Bytes.{first_failing}
use Rattle.model.proofs.Count.{to-T, no-suc}
use Rattle.session.specs.Script.{State, empty, fixed_width, load_length, command_width, in_place, ending, Done, execute, run, script}

-- ---- a whole command: known, in its place, and all its bytes there

pub record Whole (axes : ℕ) (s : List ℕ) : Type 0 where
  pub known : 0 < command_width s
  pub there : command_width s ≤ length s

-- the three tests of `ending`
three : (a b c : Bool) → first_failing ((a, 2) ∷ (b, 15) ∷ (c, 3) ∷ []) ≡ 0 → T a × T b × T c
three true true true e = (tt, tt, tt)
three true true false e = no-suc e
three true false c e = no-suc e
three false b c e = no-suc e

pub whole : (axes : ℕ) (s : List ℕ) → ending axes s ≡ 0 → Whole axes s
unfolding ending
whole axes [] e = no-suc e
whole axes (b ∷ s) e =
    let t = three (ltb 0 (fixed_width b)) (in_place axes b) (leb (command_width (b ∷ s)) (suc (length s))) e in
    let w : 0 < fixed_width b = ltb→lt 0 (fixed_width b) t.0 in
    record { known = more (fixed_width b) (cond (eqb b 0x40) (load_length (b ∷ s)) 0) w; there = leb→le (command_width (b ∷ s)) (suc (length s)) t.2 }
  where
    more : (m n : ℕ) → 0 < m → 0 < m + n
    more m n h = omega arith

-- ---- bytes behind it

pub load-known : (b : ℕ) (s t : List ℕ) → 3 ≤ length s → load_length (b ∷ (s ++ t)) ≡ load_length (b ∷ s)
load-known b [] t h = absurd (not-suc-le-zero h)
load-known b (x ∷ []) t h = absurd (not-suc-le-zero (le_of_suc-le-suc h))
load-known b (x ∷ y ∷ []) t h = absurd (not-suc-le-zero (le_of_suc-le-suc (le_of_suc-le-suc h)))
load-known b (x ∷ y ∷ z ∷ s) t h = refl

-- how long a command is shows in its first four bytes, or in its first
pub width-known : (b : ℕ) (s t : List ℕ) → command_width (b ∷ s) ≤ suc (length s) → command_width (b ∷ (s ++ t)) ≡ command_width (b ∷ s)
width-known b s t h = by (eqb b 0x40) refl
  where
    load : (b : ℕ) → b ≡ 0x40 → command_width (b ∷ s) ≤ suc (length s) → 3 ≤ length s
    load b e h = long (load_length (0x40 ∷ s)) (length s) (subst (λ (c : ℕ). command_width (c ∷ s) ≤ suc (length s)) e h)
      where
        long : (m n : ℕ) → 4 + m ≤ suc n → 3 ≤ n
        long m n h = omega arith

    by : (c : Bool) → eqb b 0x40 ≡ c → command_width (b ∷ (s ++ t)) ≡ command_width (b ∷ s)
    by true e = ap (λ (l : ℕ). fixed_width b + cond (eqb b 0x40) l 0) (load-known b s t (load b (eqb→eq b 0x40 (to-T (eqb b 0x40) e)) h))
    by false e =
        ap (λ (c : Bool). fixed_width b + cond c (load_length (b ∷ (s ++ t))) 0) e ∙ sym (ap (λ (c : Bool). fixed_width b + cond c (load_length (b ∷ s)) 0) e)

-- 2 and 15 show in the first byte
pub ending-first : (axes b : ℕ) (s t : List ℕ) → ¬ (ending axes (b ∷ s) ≡ 0) → ¬ (ending axes (b ∷ s) ≡ 3) → ending axes (b ∷ t) ≡ ending axes (b ∷ s)
unfolding ending
ending-first axes b s t =
    by (ltb 0 (fixed_width b)) (in_place axes b) (leb (command_width (b ∷ s)) (suc (length s))) (leb (command_width (b ∷ t)) (suc (length t)))
  where
    by : (p q c d : Bool) → ¬ (first_failing ((p, 2) ∷ (q, 15) ∷ (c, 3) ∷ []) ≡ 0) → ¬ (first_failing ((p, 2) ∷ (q, 15) ∷ (c, 3) ∷ []) ≡ 3)
        → first_failing ((p, 2) ∷ (q, 15) ∷ (d, 3) ∷ []) ≡ first_failing ((p, 2) ∷ (q, 15) ∷ (c, 3) ∷ [])
    by true true true d m n = absurd (m refl)
    by true true false d m n = absurd (n refl)
    by true false c d m n = refl
    by false q c d m n = refl

-- with bytes t behind a whole command: it is the same command, and t stands behind the rest
pub record Followed (axes : ℕ) (s t : List ℕ) : Type 0 where
  pub end : ending axes (s ++ t) ≡ 0
  pub width : command_width (s ++ t) ≡ command_width s
  pub bytes : take (command_width (s ++ t)) (s ++ t) ≡ take (command_width s) s
  pub rest : drop (command_width (s ++ t)) (s ++ t) ≡ drop (command_width s) s ++ t

pub followed : (axes : ℕ) (s t : List ℕ) → ending axes s ≡ 0 → Followed axes s t
unfolding ending
followed axes [] t e = no-suc e
followed axes (b ∷ s) t e =
    let h : command_width (b ∷ s) ≤ suc (length s) = (whole axes (b ∷ s) e).there in
    let w : command_width (b ∷ (s ++ t)) ≡ command_width (b ∷ s) = width-known b s t h in
    let u = three (ltb 0 (fixed_width b)) (in_place axes b) (leb (command_width (b ∷ s)) (suc (length s))) e in
    record {
      end = again (ltb 0 (fixed_width b)) (in_place axes b) (leb (command_width (b ∷ (s ++ t))) (suc (length (s ++ t)))) u.0 u.1 (le→leb (command_width (b ∷ (s ++ t))) (suc (length (s ++ t))) (longer w h));
      width = w;
      bytes = ap (λ (m : ℕ). take m (b ∷ (s ++ t))) w ∙ take-append-le (command_width (b ∷ s)) (b ∷ s) t h;
      rest = ap (λ (m : ℕ). drop m (b ∷ (s ++ t))) w ∙ drop-append-le (command_width (b ∷ s)) (b ∷ s) t h;
    }
  where
    longer : command_width (b ∷ (s ++ t)) ≡ command_width (b ∷ s) → command_width (b ∷ s) ≤ suc (length s) → command_width (b ∷ (s ++ t)) ≤ suc (length (s ++ t))
    longer w h = omega (arith, length-append s t)

    again : (p q c : Bool) → T p → T q → T c → first_failing ((p, 2) ∷ (q, 15) ∷ (c, 3) ∷ []) ≡ 0
    again true true true x y z = refl
    again true true false x y z = absurd z
    again true false c x y z = absurd y
    again false q c x y z = absurd x

-- ---- the run

shorter : (axes : ℕ) (s : List ℕ) → ending axes s ≡ 0 → (f : ℕ) → length s < suc f → length (drop (command_width s) s) < f
shorter axes s e f h =
    let w = whole axes s e in
    subst (λ (m : ℕ). m < f) (sym (length-drop (command_width s) s)) (less (length s) (command_width s) f w.known w.there h)
  where
    less : (l w f : ℕ) → 0 < w → w ≤ l → l < suc f → l - w < f
    less l w f a b c = omega arith

-- enough steps are enough
pub run-fuel : (f g : ℕ) (st : State) (s : List ℕ) → length s < f → length s < g → run f st s ≡ run g st s
unfolding run
run-fuel zero g st s h k = absurd (not-suc-le-zero h)
run-fuel (suc f) zero st s h k = absurd (not-suc-le-zero k)
run-fuel (suc f) (suc g) st s h k = by (ending st.axes s) refl (λ st' s'. run-fuel f g st' s')
  where
    by : (m : ℕ) → ending st.axes s ≡ m → ((st' : State) (s' : List ℕ) → length s' < f → length s' < g → run f st' s' ≡ run g st' s') → run (suc f) st s ≡ run (suc g) st s
    by (suc m) e ih = rw (e, run)
    by zero e ih =
        let d : Done = execute st (take (command_width s) s) in
        let same : run f d.state (drop (command_width s) s) ≡ run g d.state (drop (command_width s) s) = ih d.state (drop (command_width s) s) (shorter st.axes s e f h) (shorter st.axes s e g k) in
        rw (e, run) (ap (λ (l : List ℕ). d.text ++ l) (on d.goes same))
      where
        on : (b : Bool) {x y : List ℕ} → x ≡ y → ◌≡◌ {A = List ℕ} (elim b [ false ↦ [] | true ↦ x ]) (elim b [ false ↦ [] | true ↦ y ])
        on false p = refl
        on true p = p

-- the script has ended before its bytes do: by `00`, 1, 2 or 15
unfoldable pub ended : ℕ → State → List ℕ → Bool
ended zero st s = false
ended (suc f) st s =
    elim (ending st.axes s) [
      | suc k ↦ not (eqb (suc k) 3)
      | zero ↦ elim (execute st (take (command_width s) s)).goes [ false ↦ true | true ↦ ended f (execute st (take (command_width s) s)).state (drop (command_width s) s) ]
    ]

-- the command c and then the script from r on
abbrev onward : ℕ → State → List ℕ → List ℕ → List ℕ
onward f st c r = (execute st c).text ++ elim (execute st c).goes [ false ↦ [] | true ↦ run f (execute st c).state r ]

-- "later bytes are ignored"
pub run-later : (f g : ℕ) (st : State) (s t : List ℕ) → T (ended f st s) → length (s ++ t) < g → run g st (s ++ t) ≡ run f st s
unfolding run ended ending
run-later zero g st s t h l = absurd h
run-later (suc f) zero st s t h l = absurd (not-suc-le-zero l)
run-later (suc f) (suc g) st s t h l = by (ending st.axes s) refl (λ st' s'. run-later f g st' s' t)
  where
    cut : (s : List ℕ) (k : ℕ) → ending st.axes s ≡ suc k → T (not (eqb (suc k) 3)) → ending st.axes (s ++ t) ≡ suc k
    cut [] k e n = absurd (subst (λ (m : ℕ). T (not (eqb m 3))) (sym e) n)
    cut (b ∷ s) k e n = ending-first st.axes b s (s ++ t) (λ z. no-suc (sym e ∙ z)) (λ z. subst (λ (m : ℕ). T (not (eqb m 3))) (sym e ∙ z) n) ∙ e

    by : (m : ℕ) → ending st.axes s ≡ m → ((st' : State) (s' : List ℕ) → T (ended f st' s') → length (s' ++ t) < g → run g st' (s' ++ t) ≡ run f st' s')
        → run (suc g) st (s ++ t) ≡ run (suc f) st s
    by (suc m) e ih =
        let c : ending st.axes (s ++ t) ≡ suc m = cut s m e (rw (e, ended) at h) in
        rw (e, c, run)
    by zero e ih =
        let w = followed st.axes s t e in
        let n : ending st.axes (s ++ t) ≡ 0 = w.end in
        let k : length (drop (command_width s) s ++ t) < g = subst (λ (r : List ℕ). length r < g) w.rest (shorter st.axes (s ++ t) n g l) in
        let c : List ℕ = take (command_width s) s in
        let at_first : run (suc g) st (s ++ t) ≡ onward g st (take (command_width (s ++ t)) (s ++ t)) (drop (command_width (s ++ t)) (s ++ t)) = rw (n, run) in
        let at_last : run (suc f) st s ≡ onward f st c (drop (command_width s) s) = rw (e, run) in
        at_first ∙ ap₂ (onward g st) w.bytes w.rest ∙ ap (λ (l : List ℕ). (execute st c).text ++ l) (on (execute st c).goes (rw (e, ended) at h) k) ∙ sym at_last
      where
        on : (b : Bool)
            → T (elim b [ false ↦ true | true ↦ ended f (execute st (take (command_width s) s)).state (drop (command_width s) s) ]) → length (drop (command_width s) s ++ t) < g
            → ◌≡◌ {A = List ℕ} (elim b [ false ↦ [] | true ↦ run g (execute st (take (command_width s) s)).state (drop (command_width s) s ++ t) ]) (elim b [ false ↦ [] | true ↦ run f (execute st (take (command_width s) s)).state (drop (command_width s) s) ])
        on false u k = refl
        on true u k = ih (execute st (take (command_width s) s)).state (drop (command_width s) s) u k

pub script-later : (s t : List ℕ) → T (ended (suc (length s)) empty s) → script (s ++ t) ≡ script s
unfolding script
script-later s t h = run-later (suc (length s)) (suc (length (s ++ t))) empty s t h (long (length (s ++ t)))
  where
    long : (m : ℕ) → m < suc m
    long m = omega arith
