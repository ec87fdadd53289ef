-- The test of the working constraints, one constraint more. Assumes nothing.
use mathlib.Core.Path.{◌≡◌, refl, sym, ap, ap₂, ◌∙◌, subst}
use mathlib.Core.Bool.{Bool, true, false}
use mathlib.Core.List.{List, [], ◌∷◌, ◌++◌}
use Prim.Native.Nat.{ℕ, ◌+◌, ◌-◌, ◌≤◌, ◌<◌}
use native.Mathlib.Nat.{not-suc-le-zero}
use native.Mathlib.Omega.{arith}
use lib.ListN.{length, take, length-append}
use lib.Seq.{length-take-le}
use lib.IntN.{ℤ}
use Rattle.model.specs.Sets.{Constraint}
use Rattle.simplex.specs.declared.Verdict.{Verdict}
use Rattle.simplex.specs.declared.Verdict.TheVariants.{Point, Dropped, Long, Wide}
use Rattle.simplex.specs.Table.{start_row, kind_number, Fine}
use Rattle.tableau.specs.Rows.{Whole}
use Rattle.simplex.proofs.Filled.{row-whole}
use Rattle.sharing.specs.declared.history.Standing.{Standing}
use Rattle.sharing.specs.Past.{through, brought, Kept}
use Rattle.sharing.specs.Trace.{Traced, prefixed, trace}
use Rattle.sharing.specs.Working.{kind_of, first_table, first_place, first_kinds, trace_of, Stands, Calm, Appended, onward}
use Rattle.sharing.proofs.Going.{Good, trace-good, kept_append}
use Rattle.sharing.proofs.Passes.{brought-whole}
use Rattle.sharing.proofs.Share.{Extends, share, clash-wide}
use Rattle.sharing.proofs.Firsts.{table-long, place-long, kinds-snoc, first_fine, trace-snoc}
use Rattle.sharing.proofs.Appending.{fine_more}

clash-point : Point ≡ Wide → ⊥
clash-point e = clash-wide (sym e)

module _ {k : ℕ} {cs : List Constraint} {h : Standing} {rows : List (List ℤ)} {place kinds : List ℕ} {past : List (List ℤ)} {columns : List ℕ} (g : Stands k cs h rows place kinds past columns) where
  abbrev m : ℕ
  m = h.rows

  abbrev made : ℕ
  made = h.pivots

  abbrev v : ℕ
  v = 8 + k + m

  abbrev qs : List (List ℤ)
  qs = take made past

  abbrev js : List ℕ
  js = take made columns

  abbrev x : Traced
  x = trace_of k cs

  good : Good (k + 10) (first_kinds k cs) 200 (first_table k cs) (first_place k (length cs)) x
  unfolding trace_of
  good = trace-good (k + 10) (first_kinds k cs) 200 (first_table k cs) (first_place k (length cs)) (first_fine k cs g.few g.room)

  pub fits-past : (made ≤ length past) × (made ≤ length columns)
  fits-past = let a = g.many in let b = g.many' in let d = g.most in (omega arith, omega arith)

  long-past : length qs ≡ made
  long-past = length-take-le made past fits-past.0

  module _ (less : m < 64) (c : Constraint) where
    abbrev κ : ℕ
    κ = kind_number (kind_of c)

    abbrev y : Traced
    y = trace_of k (cs ++ (c ∷ []))

    abbrev s : List ℤ
    s = start_row k c

    extends : Extends (k + 10) (first_kinds k cs) κ 200 x y s
    unfolding trace_of
    extends =
        let l = table-long k cs in
        let e = g.size in
        subst (λ z. Extends (k + 10) (first_kinds k cs) κ 200 (trace (first_kinds k cs) 200 (first_table k cs) (first_place k (length cs))) z s) (sym (trace-snoc k cs c))
        (share (k + 10) (first_kinds k cs) κ 200 (first_table k cs) (first_place k (length cs)) s (first_fine k cs g.few g.room) (omega arith))

    -- a wide test stays wide
    pub wide-stays : h.verdict ≡ Wide → y.verdict ≡ Wide
    wide-stays e = at (through x.kept x.columns s) refl
      where
        w : x.verdict ≡ Wide
        w = sym g.verdict_is ∙ e

        at : (b : Bool) → through x.kept x.columns s ≡ b → y.verdict ≡ Wide
        at true q = (extends.same q (λ z. clash-wide (sym w ∙ z))).0 ∙ w
        at false q = extends.wide q

    module _ (live : h.verdict ≡ Wide → ⊥) where
      kept-is : qs ≡ x.kept
      kept-is = g.past_is live

      columns-is : js ≡ x.columns
      columns-is = g.columns_are live

      through-is : through x.kept x.columns s ≡ through qs js s
      through-is = ap₂ (λ a b. through a b s) (sym kept-is) (sym columns-is)

      pub wide-now : through qs js s ≡ false → y.verdict ≡ Wide
      wide-now e = extends.wide (through-is ∙ e)

      pub ended-now : through qs js s ≡ true → (h.verdict ≡ Point → ⊥) → (y.verdict ≡ h.verdict) × (y.kept ≡ qs) × (y.columns ≡ js)
      ended-now e n =
          let a = extends.same (through-is ∙ e) (λ z. n (g.verdict_is ∙ z)) in (a.0 ∙ sym g.verdict_is, a.1 ∙ sym kept-is, a.2 ∙ sym columns-is)

    pub wide-any : through qs js s ≡ false → y.verdict ≡ Wide
    wide-any e = at h.verdict refl
      where
        at : (u : Verdict) → h.verdict ≡ u → y.verdict ≡ Wide
        at Point q = wide-now (λ z. clash-point (sym q ∙ z)) e
        at Dropped q = wide-now (λ z. let w : ◌≡◌ {A = ℕ} 0 1 = cc in omega arith) e
        at Long q = wide-now (λ z. let w : ◌≡◌ {A = ℕ} 0 1 = cc in omega arith) e
        at Wide q = wide-stays q

    -- a test that ended stays as it ended
    pub stays : through qs js s ≡ true → (h.verdict ≡ Point → ⊥) → y.verdict ≡ h.verdict
    stays e n = at h.verdict refl
      where
        at : (u : Verdict) → h.verdict ≡ u → y.verdict ≡ h.verdict
        at Point q = absurd (n q)
        at Dropped q = (ended-now (λ z. let c : Dropped ≡ Wide = sym q ∙ z in let w : ◌≡◌ {A = ℕ} 0 1 = cc in omega arith) e n).0
        at Long q = (ended-now (λ z. let c : Long ≡ Wide = sym q ∙ z in let w : ◌≡◌ {A = ℕ} 0 1 = cc in omega arith) e n).0
        at Wide q = wide-stays q ∙ sym q

    size-more : m + 1 ≡ length (cs ++ (c ∷ []))
    size-more = let e = g.size in let l = length-append cs (c ∷ []) in omega arith

    pub grown-wide : y.verdict ≡ Wide → Stands k (cs ++ (c ∷ [])) (record { rows = m + 1; pivots = 0; verdict = Wide }) rows place kinds past columns
    grown-wide e =
        record {
          few = g.few;
          high = g.high;
          long = g.long;
          wide = g.wide;
          many = g.many;
          many' = g.many';
          room = let l = size-more in omega arith;
          size = size-more;
          most = omega arith;
          kept = record { same = refl; columns = λ i z. absurd (not-suc-le-zero z); rows = λ i z. absurd (not-suc-le-zero z) };
          verdict_is = sym e;
          past_is = λ z. absurd (z refl);
          columns_are = λ z. absurd (z refl);
          rows_are = λ z. absurd (clash-wide z);
          place_is = λ z. absurd (clash-wide z);
          kinds_are = λ z. absurd (clash-wide z);
        }

    pub grown-ended : (u : Verdict) → h.verdict ≡ u → (u ≡ Wide → ⊥) → (u ≡ Point → ⊥) → through qs js s ≡ true → Stands k (cs ++ (c ∷ [])) (record { rows = m + 1; pivots = made; verdict = u }) rows place kinds past columns
    grown-ended u q nw np e =
        let a = ended-now (λ z. nw (sym q ∙ z)) e (λ z. np (sym q ∙ z)) in
        record {
          few = g.few;
          high = g.high;
          long = g.long;
          wide = g.wide;
          many = g.many;
          many' = g.many';
          room = let l = size-more in omega arith;
          size = size-more;
          most = g.most;
          kept = g.kept;
          verdict_is = sym (a.0 ∙ q);
          past_is = λ z. sym a.1;
          columns_are = λ z. sym a.2;
          rows_are = λ z. absurd (np z);
          place_is = λ z. absurd (np z);
          kinds_are = λ z. absurd (np z);
        }

    -- ---- from a point the test goes on

    module _ (point : h.verdict ≡ Point) (r : List ℤ) (is : r ≡ brought qs js s) where
      open-point : h.verdict ≡ Wide → ⊥
      open-point z = clash-point (sym point ∙ z)

      rows_is : take m rows ≡ x.rows
      rows_is = g.rows_are point

      place_is : take v place ≡ x.place
      place_is = g.place_is point

      kinds-is : take v kinds ≡ first_kinds k cs
      kinds-is = g.kinds_are point

      pub calm-now : Calm (k + 10) m v r rows place kinds
      calm-now =
          let f = g.few in
          let e = g.size in
          let b : length x.place ≡ v = good.long ∙ place-long k (length cs) ∙ ap (λ i. 8 + k + i) (sym e) in
          record {
            few = less;
            names = omega arith;
            high = g.high;
            long = g.long;
            wide = g.wide;
            base = λ-fine;
            whole = subst (Whole (k + 10)) (sym is) (brought-whole (k + 10) qs js s g.kept.rows (row-whole k g.few c));
            calm = subst (λ i. i ≤ Rattle.tableau.specs.Rows.violated (take m rows) (take v place) (take v kinds)) b calm-place;
          }
        where
          λ-fine : Fine (k + 10) (take m rows) (take v place) (take v kinds)
          λ-fine = subst (λ a. Fine (k + 10) a (take v place) (take v kinds)) (sym rows_is) (subst (λ a. Fine (k + 10) x.rows a (take v kinds)) (sym place_is) (subst (Fine (k + 10) x.rows x.place) (sym kinds-is) good.fine))

          calm-place : length x.place ≤ Rattle.tableau.specs.Rows.violated (take m rows) (take v place) (take v kinds)
          calm-place = subst (λ n. length x.place ≤ n) (λ i. Rattle.tableau.specs.Rows.violated (sym rows_is i) (sym place_is i) (sym kinds-is i)) (good.calm (sym g.verdict_is ∙ point))

      abbrev z : Traced
      z = onward (200 - made) m v κ r rows place kinds

      pub onward-is : through qs js s ≡ true → y ≡ prefixed qs js z
      onward-is e =
          let a = extends.on (through-is open-point ∙ e) (sym g.verdict_is ∙ point) in
          let n : length x.kept ≡ made = ap length (sym (kept-is open-point)) ∙ long-past in
          let b : brought x.kept x.columns s ≡ r = ap₂ (λ p q. brought p q s) (sym (kept-is open-point)) (sym (columns-is open-point)) ∙ sym is in
          let l : length x.rows ≡ m = good.high ∙ table-long k cs ∙ sym g.size in
          a ∙ (λ i. prefixed (sym (kept-is open-point) i) (sym (columns-is open-point) i) (trace (sym kinds-is i ++ (κ ∷ [])) (200 - n i) (sym rows_is i ++ (b i ∷ [])) (sym place_is i ++ (l i ∷ []))))

      pub grown-on : through qs js s ≡ true → (w : Standing) (rows' : List (List ℤ)) (place' kinds' : List ℕ) (past' : List (List ℤ)) (columns' : List ℕ)
          → length rows' ≡ length rows → length place' ≡ length place → length kinds' ≡ length kinds → length past' ≡ length past → length columns' ≡ length columns
          → Appended m v made κ r rows place kinds past columns w rows' place' kinds' past' columns' → Stands k (cs ++ (c ∷ [])) w rows' place' kinds' past' columns'
      grown-on e w rows' place' kinds' past' columns' lr lp lk la lc a =
          let o = onward-is e in
          let t = trace-good (k + 10) (take v kinds ++ (κ ∷ [])) (200 - made) (take m rows ++ (r ∷ [])) (take v place ++ (m ∷ [])) (fine_more calm-now κ) in
          let q = a.count in
          let b = t.most in
          let d = g.most in
          let f : v + 1 ≡ 8 + k + (m + 1) = omega arith in
          let u : 8 + k + w.rows ≡ v + 1 = ap (λ i. 8 + k + i) a.size ∙ sym f in
          record {
            few = g.few;
            high = lr ∙ g.high;
            long = lp ∙ g.long;
            wide = lk ∙ g.wide;
            many = la ∙ g.many;
            many' = lc ∙ g.many';
            room = let l = size-more in omega arith;
            size = a.size ∙ size-more;
            most = omega arith;
            kept = subst (λ i. Kept (k + 10) i (take w.pivots columns')) (sym a.past_is) (subst (Kept (k + 10) (qs ++ z.kept)) (sym a.columns_are) (kept_append (k + 10) qs z.kept js z.columns g.kept t.kept));
            verdict_is = a.verdict_is ∙ sym (ap (λ (i : Traced). i.verdict) o);
            past_is = λ n. a.past_is ∙ sym (ap (λ (i : Traced). i.kept) o);
            columns_are = λ n. a.columns_are ∙ sym (ap (λ (i : Traced). i.columns) o);
            rows_are = λ n. ap (λ i. take i rows') a.size ∙ a.rows_are ∙ sym (ap (λ (i : Traced). i.rows) o);
            place_is = λ n. ap (λ i. take i place') u ∙ a.place_is ∙ sym (ap (λ (i : Traced). i.place) o);
            kinds_are = λ n. ap (λ i. take i kinds') u ∙ a.kinds_are ∙ ap (λ (i : List ℕ). i ++ (κ ∷ [])) kinds-is ∙ sym (kinds-snoc k cs c);
          }

-- ---- the bounds alone

pub begun : (k : ℕ) (cs : List Constraint) (x : Standing) (rows : List (List ℤ)) (place kinds : List ℕ) (past₀ : List (List ℤ)) (columns₀ : List ℕ) (past : List (List ℤ)) (columns : List ℕ) → k ≤ 8 → length cs ≤ 64
    → length rows ≡ 64 → length place ≡ 80 → length kinds ≡ 80 → length past ≡ 200 → length columns ≡ 200 → (t' : List (List ℤ)) (p' : List ℕ)
    → Rattle.sharing.specs.Trace.Went (first_kinds k cs) 0 (first_table k cs) (first_place k (length cs)) past₀ columns₀ x t' p' past columns
    → take (length cs) rows ≡ t' → take (8 + k + length cs) place ≡ p' → take (8 + k + length cs) kinds ≡ first_kinds k cs → Stands k cs x rows place kinds past columns
unfolding trace_of
begun k cs x rows place kinds past₀ columns₀ past columns few room lr lp lk la lc t' p' w er ep ek =
    let y : Traced = trace (first_kinds k cs) 200 (first_table k cs) (first_place k (length cs)) in
    let t = trace-good (k + 10) (first_kinds k cs) 200 (first_table k cs) (first_place k (length cs)) (first_fine k cs few room) in
    let n : x.rows ≡ length cs = w.size ∙ table-long k cs in
    let q = w.count in
    let b = t.most in
    record {
      few = few;
      high = lr;
      long = lp;
      wide = lk;
      many = la;
      many' = lc;
      room = room;
      size = n;
      most = omega arith;
      kept = subst (λ i. Kept (k + 10) i (take x.pivots columns)) (sym w.past_is) (subst (Kept (k + 10) y.kept) (sym w.columns_are) t.kept);
      verdict_is = w.verdict_is;
      past_is = λ z. w.past_is;
      columns_are = λ z. w.columns_are;
      rows_are = λ z. ap (λ i. take i rows) n ∙ er ∙ w.rows_are;
      place_is = λ z. ap (λ i. take (8 + k + i) place) n ∙ ep ∙ w.place_is;
      kinds_are = λ z. ap (λ i. take (8 + k + i) kinds) n ∙ ek;
    }
