-- One row more in the tables. Assumes nothing.
use mathlib.Core.Path.{◌≡◌, refl, sym, ap, ◌∙◌, subst}
use mathlib.Core.Bool.{true, false}
use mathlib.Core.List.{List, [], ◌∷◌, ◌++◌, append-nil}
use Prim.Native.Nat.{ℕ, zero, suc, ◌+◌, ◌-◌, ◌≤◌, ◌<◌, suc-le-suc}
use native.Mathlib.Nat.{not-suc-le-zero, le_of_suc-le-suc, zero-lt-suc, add-zero}
use native.Mathlib.Numerals.{add-one}
use native.Mathlib.Omega.{arith}
use lib.ListN.{length, get_or, set, take, drop, length-set, length-append, take-append-drop}
use lib.Seq.{take-suc-set, take-append_seam, length-take-le}
use lib.IntN.{ℤ, pos}
use lib.Signed.{◌<ℤ◌}
use Rattle.simplex.specs.declared.Verdict.TheVariants.{Point, Dropped}
use Rattle.simplex.specs.declared.Move.TheVariants.{Stop}
use Rattle.tableau.specs.Rows.{den, violated_by, violated, helping, Line, Whole}
use Rattle.simplex.specs.Table.{move_of, run_table, Fine}
use Rattle.sharing.specs.declared.history.Standing.{Standing}
use Rattle.sharing.specs.Trace.{Traced, trace, Went}
use Rattle.sharing.specs.Working.{Calm, Appended, onward}
use Rattle.sharing.proofs.Going.{trace-stop, trace-run}
use Rattle.sharing.proofs.Share.{calm-point, calm-last, calm-dropped}

module _ {A : Type 0} where
  snoc-all : (P : A → Type 0) (d : A) (l : List A) (a : A) → ((k : ℕ) → k < length l → P (get_or l k d)) → P a → (k : ℕ) → k < length (l ++ (a ∷ [])) → P (get_or (l ++ (a ∷ [])) k d)
  snoc-all P d [] a h p zero l = p
  snoc-all P d [] a h p (suc k) l = absurd (not-suc-le-zero (le_of_suc-le-suc l))
  snoc-all P d (x ∷ xs) a h p zero l = h 0 (zero-lt-suc (length xs))
  snoc-all P d (x ∷ xs) a h p (suc k) l = snoc-all P d xs a (λ i q. h (suc i) (suc-le-suc q)) p k (le_of_suc-le-suc l)

  pub stored : (l : List A) (n : ℕ) (a : A) → n < length l → take (n + 1) (set l n a) ≡ take n l ++ (a ∷ [])
  stored l n a h = rw add-one (take-suc-set l n a h)

  pub seam : (n : ℕ) (xs ys : List A) → length xs ≡ n → take n (xs ++ ys) ≡ xs
  seam n xs ys e = ap (λ k. take k (xs ++ ys)) (sym e) ∙ take-append_seam xs ys

  pub rejoined : (n : ℕ) (xs l : List A) → length xs ≡ length (take n l) → length (xs ++ drop n l) ≡ length l
  rejoined n xs l e = length-append xs (drop n l) ∙ ap (λ k. k + length (drop n l)) e ∙ sym (length-append (take n l) (drop n l)) ∙ ap length (take-append-drop n l)

  pub set-count : (l : List A) (n : ℕ) (a : A) → n < length l → (n + 1 ≤ length (set l n a)) × (length (take (n + 1) (set l n a)) ≡ n + 1)
  set-count l n a h =
      let e = length-set l n a in
      let k : n + 1 ≤ length (set l n a) = omega arith in
      (k, length-take-le (n + 1) (set l n a) k)

fine-snoc : (n : ℕ) (t : List (List ℤ)) (place kinds : List ℕ) (κ : ℕ) (s : List ℤ) → Fine n t place kinds → length t < 64 → length place < 80 → Whole n s → Fine n (t ++ (s ∷ [])) (place ++ (length t ∷ [])) (kinds ++ (κ ∷ []))
fine-snoc n t place kinds κ s f h l w =
    let a = length-append t (s ∷ []) in
    let b = length-append place (length t ∷ []) in
    let c = length-append kinds (κ ∷ []) in
    let e = f.same in
    record {
      count = omega arith;
      names = omega arith;
      same = omega arith;
      line = snoc-all (Line n) [] t s f.line w.line;
      dens = snoc-all (λ r. pos 0 <ℤ den r) [] t s f.dens w.over;
      near = snoc-all (λ n. n < 80) 0 place (length t) f.near (omega arith);
      spot = snoc-all (λ n. n < 64 → n < length (t ++ (s ∷ []))) 0 place (length t) (λ k q z. let y = f.spot k q z in omega arith) (λ z. omega arith);
    }

module _ {n m v : ℕ} {r : List ℤ} {rows : List (List ℤ)} {place kinds : List ℕ} (c : Calm n m v r rows place kinds) where
  abbrev t : List (List ℤ)
  t = take m rows

  abbrev p : List ℕ
  p = take v place

  abbrev s : List ℕ
  s = take v kinds

  lt : length t ≡ m
  lt = let h = c.high in let f = c.few in length-take-le m rows (omega arith)

  pub lp : length p ≡ v
  lp = let h = c.long in let f = c.names in length-take-le v place (omega arith)

  pub ls : length s ≡ v
  ls = let h = c.wide in let f = c.names in length-take-le v kinds (omega arith)

  room : length t < 64
  room = let e = lt in let f = c.few in omega arith

  calm-here : length p ≤ violated t p s
  calm-here = subst (λ i. i ≤ violated t p s) (sym lp) c.calm

  module _ (κ : ℕ) where
    abbrev T : List (List ℤ)
    T = t ++ (r ∷ [])

    abbrev P : List ℕ
    P = p ++ (m ∷ [])

    abbrev S : List ℕ
    S = s ++ (κ ∷ [])

    pub fine_more : Fine n T P S
    fine_more = subst (λ i. Fine n T (p ++ (i ∷ [])) S) lt (fine-snoc n t p s κ r c.base room (let e = lp in let f = c.names in omega arith) c.whole)

    pub point-more : (left : ℕ) → violated_by κ (get_or r 1 (pos 0)) ≡ false → (trace S left T P).verdict ≡ Point
    point-more left e = ap (λ (y : Traced). y.verdict) (trace-stop S left T P Point (stops left e))
      where
        stops : (left : ℕ) → violated_by κ (get_or r 1 (pos 0)) ≡ false → move_of T P S left ≡ Stop Point
        stops left e = subst (λ i. move_of T (p ++ (i ∷ [])) S left ≡ Stop Point) lt (calm-point n t p s r κ c.base room calm-here left e)

    pub dropped-more : (left : ℕ) → violated_by κ (get_or r 1 (pos 0)) ≡ true → v ≤ helping r p s → (trace S left T P).verdict ≡ Dropped
    dropped-more left e h =
        ap (λ (y : Traced). y.verdict)
        (trace-stop S left T P Dropped (subst (λ i. move_of T (p ++ (i ∷ [])) S left ≡ Stop Dropped) lt (calm-dropped n t p s r κ c.base room calm-here left e (subst (λ i. i ≤ helping r p s) (sym lp) h))))

    -- the new row's variable is the violated one
    pub last_more : violated_by κ (get_or r 1 (pos 0)) ≡ true → (v ≡ violated T P S) × (v < length P)
    last_more e =
        let x : violated T P S ≡ length p = subst (λ i. violated T (p ++ (i ∷ [])) S ≡ length p) lt (calm-last n t p s r κ c.base room calm-here e) in
        let l = length-append p (m ∷ []) in
        let h = lp in
        (sym (x ∙ lp), omega arith)

    -- the tables
    pub rows-count : (m + 1 ≤ length (set rows m r)) × (length (take (m + 1) (set rows m r)) ≡ m + 1)
    rows-count = let h = c.high in let f = c.few in set-count rows m r (omega arith)

    pub place-count : (v + 1 ≤ length (set place v m)) × (length (take (v + 1) (set place v m)) ≡ v + 1)
    place-count = let h = c.long in let f = c.names in set-count place v m (omega arith)

    pub kinds-count : (v + 1 ≤ length (set kinds v κ)) × (length (take (v + 1) (set kinds v κ)) ≡ v + 1)
    kinds-count = let h = c.wide in let f = c.names in set-count kinds v κ (omega arith)

    pub rows_more : take (m + 1) (set rows m r) ≡ T
    rows_more = let h = c.high in let f = c.few in stored rows m r (omega arith)

    pub place-more : take (v + 1) (set place v m) ≡ P
    place-more = let h = c.long in let f = c.names in stored place v m (omega arith)

    pub kinds-more : take (v + 1) (set kinds v κ) ≡ S
    kinds-more = let h = c.wide in let f = c.names in stored kinds v κ (omega arith)

    module _ (made : ℕ) (past : List (List ℤ)) (columns : List ℕ) where
      pub appended-still : violated_by κ (get_or r 1 (pos 0)) ≡ false
          → Appended m v made κ r rows place kinds past columns (record { rows = m + 1; pivots = made; verdict = Point }) (set rows m r) (set place v m) (set kinds v κ) past columns
      appended-still e =
          let q : trace S (200 - made) T P ≡ record { verdict = Point; rows = T; place = P; kept = []; columns = [] } =
          trace-stop S (200 - made) T P Point (subst (λ i. move_of T (p ++ (i ∷ [])) S (200 - made) ≡ Stop Point) lt (calm-point n t p s r κ c.base room calm-here (200 - made) e)) in
          record {
            size = refl;
            verdict_is = sym (ap (λ (y : Traced). y.verdict) q);
            rows_are = rows_more ∙ sym (ap (λ (y : Traced). y.rows) q);
            place_is = place-more ∙ sym (ap (λ (y : Traced). y.place) q);
            kinds_are = kinds-more;
            count = sym (add-zero made) ∙ sym (ap (λ (y : Traced). made + length y.kept) q);
            past_is = sym (append-nil (take made past)) ∙ sym (ap (λ (y : Traced). take made past ++ y.kept) q);
            columns_are = sym (append-nil (take made columns)) ∙ sym (ap (λ (y : Traced). take made columns ++ y.columns) q);
          }

      pub appended-went : (x : Standing) (t' : List (List ℤ)) (p' : List ℕ) (past' : List (List ℤ)) (columns' : List ℕ) → Went (take (v + 1) (set kinds v κ)) made (take (m + 1) (set rows m r)) (take (v + 1) (set place v m)) past columns x t' p' past' columns'
          → (rows' : List (List ℤ)) (place' : List ℕ) → take (m + 1) rows' ≡ t' → take (v + 1) place' ≡ p' → Appended m v made κ r rows place kinds past columns x rows' place' (set kinds v κ) past' columns'
      appended-went x t' p' past' columns' w rows' place' er ep =
          let g : Went S made T P past columns x t' p' past' columns' =
          subst (λ a. Went a made T P past columns x t' p' past' columns') kinds-more
          (subst (λ a. Went (take (v + 1) (set kinds v κ)) made T a past columns x t' p' past' columns') place-more
          (subst (λ a. Went (take (v + 1) (set kinds v κ)) made a (take (v + 1) (set place v m)) past columns x t' p' past' columns') rows_more w)) in
          let l : length T ≡ m + 1 = length-append t (r ∷ []) ∙ ap (λ i. i + 1) lt in
          record {
            size = g.size ∙ l;
            verdict_is = g.verdict_is;
            rows_are = er ∙ g.rows_are;
            place_is = ep ∙ g.place_is;
            kinds_are = kinds-more;
            count = g.count;
            past_is = g.past_is;
            columns_are = g.columns_are;
          }

    -- the copies
    pub finish-is : (left : ℕ) (spare : List (List ℤ)) (seats sorts : List ℕ) → length spare ≡ 64 → length seats ≡ 80 → length sorts ≡ 80 → take m spare ≡ t → take v seats ≡ p → take v sorts ≡ s
        → (take (m + 1) (set spare m r) ≡ T) × (take (v + 1) (set seats v m) ≡ P) × (take (v + 1) (set sorts v κ) ≡ S)
    finish-is left spare seats sorts a b d e f g =
        let h = c.few in
        let k = c.names in
        (stored spare m r (omega arith) ∙ ap (λ (l : List (List ℤ)). l ++ (r ∷ [])) e, stored seats v m (omega arith) ∙ ap (λ (l : List ℕ). l ++ (m ∷ [])) f, stored sorts v κ (omega arith) ∙ ap (λ (l : List ℕ). l ++ (κ ∷ [])) g)

    copied : {xs : List (List ℤ)} {us fs : List ℕ} (ys : List (List ℤ)) (ws gs : List ℕ) → xs ≡ t → us ≡ p → fs ≡ s → length (xs ++ ys) ≡ 64 → length (us ++ ws) ≡ 80 → length (fs ++ gs) ≡ 80
        → (take (m + 1) (set (xs ++ ys) m r) ≡ T) × (take (v + 1) (set (us ++ ws) v m) ≡ P) × (take (v + 1) (set (fs ++ gs) v κ) ≡ S)
    copied {xs} {us} {fs} ys ws gs ex eu ef lx lu lf =
        finish-is 0 (xs ++ ys) (us ++ ws) (fs ++ gs) lx lu lf (seam m xs ys (ap length ex ∙ lt) ∙ ex) (seam v us ws (ap length eu ∙ lp) ∙ eu) (seam v fs gs (ap length ef ∙ ls) ∙ ef)

    pub finish-fine : {xs : List (List ℤ)} {us fs : List ℕ} (ys : List (List ℤ)) (ws gs : List ℕ) → xs ≡ t → us ≡ p → fs ≡ s → length (xs ++ ys) ≡ 64 → length (us ++ ws) ≡ 80 → length (fs ++ gs) ≡ 80
        → Fine n (take (m + 1) (set (xs ++ ys) m r)) (take (v + 1) (set (us ++ ws) v m)) (take (v + 1) (set (fs ++ gs) v κ))
    finish-fine ys ws gs ex eu ef lx lu lf = let e = copied ys ws gs ex eu ef lx lu lf in rw (e.0, e.1, e.2) fine_more

    pub finish-run : {xs : List (List ℤ)} {us fs : List ℕ} (ys : List (List ℤ)) (ws gs : List ℕ) → xs ≡ t → us ≡ p → fs ≡ s → length (xs ++ ys) ≡ 64 → length (us ++ ws) ≡ 80 → length (fs ++ gs) ≡ 80
        → (left : ℕ) → (run_table (take (v + 1) (set (fs ++ gs) v κ)) left (take (m + 1) (set (xs ++ ys) m r)) (take (v + 1) (set (us ++ ws) v m))).verdict ≡ (onward left m v κ r rows place kinds).verdict
    finish-run ys ws gs ex eu ef lx lu lf left = let e = copied ys ws gs ex eu ef lx lu lf in rw (e.0, e.1, e.2) (sym (trace-run S left T P))
