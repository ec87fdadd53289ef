-- Request 9's last sentence, "The named states use the same carry, for a new rule's row too": 64 bits and then, where that is not enough, 128 is 128 bits
-- alone, for a row on its way, a state, each call and the words of any calls. Assumes nothing.
use mathlib.Core.Path.{◌≡◌, refl, sym, ap, ap₂, ◌∙◌, subst}
use mathlib.Core.Bool.{Bool, true, false}
use mathlib.Core.List.{List, [], ◌∷◌, map}
use mathlib.Core.Option.{Option, none, some}
use Prim.Native.Nat.{ℕ, ◌+◌, ◌≤◌}
use native.Mathlib.Nat.{le_trans}
use lib.Dec.{T, leb, leb→le, le→leb}
use lib.IntN.{ℤ, pos, nat_abs}
use lib.ListN.{get_or}
use Rattle.model.specs.Sets.{Kind, Division, Constraint, is_zero}
use Rattle.codec.specs.Bytes.{Answer, refused, gives}
use Rattle.feasibility.specs.Tableau.{Row, Tableau, Ending, narrow, bound, from}
use Rattle.model.proofs.Count.{and_left, and_right, and-make, from-T}
use Rattle.feasibility.proofs.Sizes.{carried-run, narrow-more, carried-is}
use Rattle.planning.specs.Draft.{Draft, drafted, numbers_of, numbers_within, both_within, substituted, row_for, settled, settled_on}
use Rattle.planning.specs.State.{State, opened, begun, begun_at, with_row, with_kind, sort_by, grown, while_point, row_at, goes_on_at, added_at, new_row, goes_on, added, unless, start_refusal, rule_refusal, begins, adds, begins_at, adds_at}
use Rattle.planning.specs.Desk.{Desk, Call, start, add, mark, back, fresh, renewed, left, shown, replies, word_of, words_from, start_answer, call_answer, words, start_at, call_at, words_at}

-- ---- a row

module _ (m m' : ℕ) (more : m ≤ m') where
  numbers_more : (zs : List ℤ) → T (numbers_within m zs) → T (numbers_within m' zs)
  numbers_more [] t = tt
  numbers_more (z ∷ zs) t =
      and-make (leb (nat_abs z) m') (numbers_within m' zs) (le→leb (nat_abs z) m' (le_trans (leb→le (nat_abs z) m (and_left (leb (nat_abs z) m) (numbers_within m zs) t)) more))
      (numbers_more zs (and_right (leb (nat_abs z) m) (numbers_within m zs) t))

  both-more : (d : Draft) (r : Row) → T (both_within m d r) → T (both_within m' d r)
  both-more d r t =
      let a : Bool = numbers_within m (numbers_of d) in
      let b : Bool = numbers_within m (r.den ∷ r.nums) in
      and-make (numbers_within m' (numbers_of d)) (numbers_within m' (r.den ∷ r.nums)) (numbers_more (numbers_of d) (and_left a b t)) (numbers_more (r.den ∷ r.nums) (and_right a b t))

  pub draft-carried : (rows : List Row) (vs : List ℕ) (d : Draft) → settled_on m m' rows vs d ≡ settled m' rows vs d
  unfolding settled_on settled
  draft-carried rows [] d = refl
  draft-carried rows (v ∷ vs) d = at (is_zero (get_or d.waiting v (pos 0))) refl (draft-carried rows vs)
    where
      next : Draft
      next = substituted v (row_for rows v) d

      at : (c : Bool) → is_zero (get_or d.waiting v (pos 0)) ≡ c → ((c : Draft) → settled_on m m' rows vs c ≡ settled m' rows vs c) → settled_on m m' rows (v ∷ vs) d ≡ settled m' rows (v ∷ vs) d
      at true z ih = rw (z, settled_on, settled) (ih d)
      at false z ih = rw (z, settled_on) (on (both_within m d (row_for rows v)) refl)
        where
          step : both_within m' d (row_for rows v) ≡ true → settled m' rows (v ∷ vs) d ≡ settled m' rows vs next
          step q = rw (z, settled) (ap (λ (b : Bool). elim b as (λ (b : Bool). Option Draft) [ false ↦ none | true ↦ settled m' rows vs next ]) q)

          on : (b : Bool) → both_within m d (row_for rows v) ≡ b → elim b as (λ (b : Bool). Option Draft) [ false ↦ settled m' rows (v ∷ vs) d | true ↦ settled_on m m' rows vs next ] ≡ settled m' rows (v ∷ vs) d
          on false q = refl
          on true q = ih next ∙ sym (step (from-T (both_within m' d (row_for rows v)) (both-more d (row_for rows v) (subst T (sym q) tt))))

-- ---- a state

wider : bound 64 ≤ bound 128
wider = leb→le (bound 64) (bound 128) tt

pub begun-128 : (n : ℕ) (ds : List Division) → begun n ds ≡ begun_at 128 n ds
unfolding begun begun_at
begun-128 n ds = ap (opened n ds) (carried-is _)

pub row-128 : (s : State) (r : Constraint) → new_row s r ≡ row_at 128 s r
row-128 s r = draft-carried (bound 64) (bound 128) wider s.tableau.rows (from 0 (8 + s.divisions)) (drafted s.divisions s.tableau r)

test-128 : (sort : ℕ → Option Kind) (t : Tableau) → goes_on sort t ≡ goes_on_at 128 sort t
test-128 sort t = carried-run (narrow (bound 64)) (narrow (bound 128)) (narrow-more (bound 64) (bound 128) wider) sort 200 t

pub added-128 : (s : State) (r : Constraint) → added s r ≡ added_at 128 s r
unfolding added added_at
added-128 s r = ap (while_point s) (ap (grown goes_on s r) (row-128 s r) ∙ grows (row_at 128 s r))
  where
    grows : (o : Option Draft) → grown goes_on s r o ≡ grown (goes_on_at 128) s r o
    grows none = refl
    grows (some d) = ap (λ (e : Ending). grown (λ sort t. e) s r (some d)) (test-128 (sort_by (with_kind s r)) (with_row s d))

-- ---- the calls

begins-128 : (n : ℕ) (ds : List Division) → begins n ds ≡ begins_at 128 n ds
begins-128 n ds = ap (unless (start_refusal n ds)) (begun-128 n ds)

adds-128 : (r : Constraint) (s : State) → adds r s ≡ adds_at 128 r s
adds-128 r s = ap (unless (rule_refusal s r)) (added-128 s r)

pub start-128 : (n : ℕ) (ds : List Division) → start_answer n ds ≡ start_at 128 n ds
start-128 n ds = ap fresh (begins-128 n ds)

pub call-128 : (c : Call) (d : Desk State) → call_answer c d ≡ call_at 128 c d
call-128 (start n ds) d = start-128 n ds
call-128 (add r) d = ap (λ (a : Answer State). renewed a d) (adds-128 r d.now)
call-128 (mark k) d = refl
call-128 (back k) d = refl

replies-128 : (cs : List Call) (d : Desk State) → replies begins adds cs d ≡ replies (begins_at 128) (adds_at 128) cs d
replies-128 [] d = refl
replies-128 (c ∷ cs) d =
    ap₂ (λ (a : Answer State) (l : List (Answer State)). a ∷ l) (ap shown (call-128 c d))
    (replies-128 cs (left (call_answer c d) d) ∙ ap (λ (a : Answer (Desk State)). replies (begins_at 128) (adds_at 128) cs (left a d)) (call-128 c d))

pub words-128 : (n : ℕ) (ds : List Division) (cs : List Call) → words n ds cs ≡ words_at 128 n ds cs
words-128 n ds cs = on (start_answer n ds) ∙ ap (λ (a : Answer (Desk State)). words_from (begins_at 128) (adds_at 128) a cs) (start-128 n ds)
  where
    on : (a : Answer (Desk State)) → words_from begins adds a cs ≡ words_from (begins_at 128) (adds_at 128) a cs
    on (refused k) = refl
    on (gives d) = ap (λ (l : List (Answer State)). gives d.now.says ∷ map word_of l) (replies-128 cs d)
