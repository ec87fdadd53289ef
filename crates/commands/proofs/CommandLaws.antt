-- What the commands of a script print, by the tests that the code makes.
use mathlib.Core.Path.{◌≡◌, refl, ap, ap₂, sym, subst, ◌∙◌}
use mathlib.Core.Bool.{Bool, true, false, ◌&&◌, ◌||◌, cond}
use mathlib.Core.List.{List, [], ◌∷◌, ◌++◌}
use Prim.Native.Nat.{ℕ, suc, ◌+◌, ◌≤◌, ◌<◌}
use native.Mathlib.Omega.{arith}
use borrow.Author.Tests.{ltb-true, ne_eqb}
use lib.Dec.{ltb, leb, eqb}
use lib.IntN.{ℤ, pos}
use lib.ListN.{length, get_or, take, drop}
use lib.Seq.{drop-cons, drop-drop, length-take-le, get_or-take}
use native.Mathlib.Numerals.{add-one}
use Rattle.std.proofs.Common.{Option, Some, None}
use Rattle.model.specs.Lists.{all}
use Rattle.model.specs.Sets.{Set}
use Rattle.codec.specs.Bytes.{Answer, refused, gives, decode, number, first_failing, axes_fit, value_of, signed}
use Rattle.query.specs.Member.{member_bytes}
use Rattle.enumeration.specs.Search.{Tallied, search_bytes}
use Rattle.listing.specs.Text as T
use Rattle.session.specs.declared.Cursor.{Cursor}
use Rattle.session.specs.Script.{State, Done, set_at, is_binary, fixed_width, set_numbers, command_width, in_place, ending, says, ends, refused_line, opened, stored, told, member_line, search_line, coordinates, perform, execute}
use Rattle.listing.specs.Written.{Wrote, Writes}
use Rattle.session.specs.Turns.{Memory, state_in, table_at, keeps, Effect, none, listed, is_assignment, answer_of, performs, effect_of, shown, listing_of, memory_of, header_line, start_of}
use Rattle.commands.specs.Promises.{tells, done_line, first_line, Single, Told, CommandIs, Holds, saying}
use Rattle.commands.specs.declared.commands.CommandDone.{CommandDone}
use Rattle.session.proofs.Commands.{perform-assign, performs-assign, perform-list, performs-list, perform-member, perform-search, performs-quiet, execute-end, execute-open, execute-bad, execute-good, effect-end, effect-open, effect-bad, effect-good, perform-goes, perform-axes}
use Rattle.commands.proofs.Answers.{operand}
use Rattle.listing.proofs.Writing.{writes-same}
use Rattle.listing.proofs.LineTexts.{one_number}
use Rattle.session.proofs.Commands.{width-least}

pub told_text : {A : Type 0} (st : State) (f : A → List ℕ) (a : Answer A) → (told st f a).text ≡ tells f a
told_text st f (refused k) = refl
told_text st f (gives x) = refl

pub stored-text : (st : State) (m : ℕ) (a : Answer (List ℕ)) → (stored st m a).text ≡ tells done_line a
stored-text st m (refused k) = refl
stored-text st m (gives l) = refl

-- the first line of a listing
pub first-shown : (st : State) (n m : ℕ) (a : Answer Set) → tells (first_line m) a ≡ shown (told st (T.listing n m) a).text (listed m a)
first-shown st n m (refused k) = refl
first-shown st n m (gives t) = refl

pub shown-quiet : (st : State) (b : ℕ) (s l : List ℕ) → ¬ (b ≡ 0x45) → shown l (performs st b s) ≡ l
shown-quiet st b s l n = performs-quiet st b s (λ (e : Effect). shown l e ≡ l) refl (λ m a. refl) n

-- a known command that is not one of the others assigns
pub assignment-left : (b : ℕ) → 0 < fixed_width b → eqb b 0x00 ≡ false → eqb b 0x10 ≡ false → ¬ (b ≡ 0x45) → ¬ (b ≡ 0x46) → ¬ (b ≡ 0x47) → is_assignment b ≡ true
assignment-left b h e0 e1 n5 n6 n7 = go (eqb b 0x40) (is_binary b) (eqb b 0x44) (subst (λ (m : ℕ). 0 < m) width h)
  where
    width : fixed_width b ≡ cond (eqb b 0x40 || is_binary b) 4 (cond (eqb b 0x44) 3 0)
    width = simp (e0, e1, ne_eqb b 0x45 n5, ne_eqb b 0x46 n6, ne_eqb b 0x47 n7)

    go : (p q y : Bool) → 0 < cond (p || q) 4 (cond y 3 0) → (p || (q || y)) ≡ true
    go true q y h = refl
    go false true y h = refl
    go false false true h = refl
    go false false false h = absurd (omega arith)

-- `10`, whatever the sets
pub opened-same : (st su : State) (n : ℕ) → st.axes ≡ su.axes → ((opened st n).text ≡ (opened su n).text) × ((opened st n).state.axes ≡ (opened su n).state.axes) × ((opened st n).goes ≡ axes_fit n)
opened-same st su n e = at (axes_fit n)
  where
    at : (x : Bool) → (let f : State → Done = λ st. cond x (says (record { axes = n; sets = st.sets }) (T.line "axes" (pos n ∷ []))) (ends st (refused_line 1)) in ((f st).text ≡ (f su).text) × ((f st).state.axes ≡ (f su).state.axes) × ((f st).goes ≡ x))
    at true = (refl, refl, refl)
    at false = (refl, e, refl)

pub split-first : (c : List ℕ) → 0 < length c → c ≡ get_or c 0 0 ∷ drop 1 c
split-first [] h = absurd (omega arith)
split-first (b ∷ s) h = refl

-- ---- what the code's answers say

pub told-by : {l : List ℕ} {n : ℕ} {g : Bool} {c : Option Cursor} {r : CommandDone} {out out' : List ℕ} {t n' : ℕ} {g' : Bool} {c' : Option Cursor}
    → r ≡ record { text = t; axes = n'; goes = g'; listing = c' } → n' ≡ n → g' ≡ g → c' ≡ c → Wrote l out 0 t out' → Told l n g c r out out'
told-by {l} {n} {g} {c} {r} {out} {out'} e p q x w =
    record {
      text = subst (λ (i : ℕ). Wrote l out 0 i out') (ap (λ (d : CommandDone). d.text) (sym e)) w;
      axes = ap (λ (d : CommandDone). d.axes) e ∙ p;
      goes = ap (λ (d : CommandDone). d.goes) e ∙ q;
      listing = ap (λ (d : CommandDone). d.listing) e ∙ x;
    }

told_same : {l l' : List ℕ} {n n' : ℕ} {g g' : Bool} {c c' : Option Cursor} {r : CommandDone} {out out' : List ℕ} → l ≡ l' → n ≡ n' → g ≡ g' → c ≡ c' → Told l n g c r out out' → Told l' n' g' c' r out out'
told_same {l} {l'} {n} {n'} {g} {g'} {c} {c'} {r} {out} {out'} p q x y w =
    record {
      text = subst (λ (i : List ℕ). Wrote i out 0 r.text out') p w.text;
      axes = w.axes ∙ q;
      goes = w.goes ∙ x;
      listing = w.listing ∙ y;
    }

module _ (axes m : ℕ) (s : List ℕ) where
  abbrev Listed : Answer Set → CommandDone → List ℕ → List ℕ → Type 0
  Listed a r out out' = Told (tells (first_line m) a) axes true (listing_of (listed m a)) r out out'

  pub told-listed : (x : Set) → decode axes s ≡ gives x → (k : ℕ) → k ≡ length x → {t : ℕ} {out out' : List ℕ} → Writes 50 (T.codes "set" ++ (T.number (pos m) ++ T.line " has" (pos k ∷ []))) out 0 t out'
      → Told (tells (first_line m) (decode axes s)) axes true (listing_of (listed m (decode axes s))) (record { text = t; axes = axes; goes = true; listing = Some (start_of m) }) out out'
  told-listed x e k q {t} {out} {out'} w =
      subst (λ (a : Answer Set). Listed a (record { text = t; axes = axes; goes = true; listing = Some (start_of m) }) out out') (sym e)
      (told-by refl refl refl refl (writes-same {j = 50} (omega arith) (ap (λ (i : ℕ). header_line m i) q) w).wrote)

-- ---- coordinates

module _ (s : List ℕ) where
  abbrev value : ℕ → ℤ
  value p = signed 4 (value_of (take 4 (drop p s)))

  more : (k p q : ℕ) {z : ℤ} {l : List ℤ} → p + 4 ≡ q → z ≡ value p → l ≡ coordinates k (drop q s) → z ∷ l ≡ coordinates (suc k) (drop p s)
  more k p q e x y =
      ap₂ (λ (z : ℤ) (l : List ℤ). z ∷ l) x (y ∙ ap (λ (i : ℕ). coordinates k (drop i s)) (sym e) ∙ ap (coordinates k) (sym (drop-drop 4 p s)))

  pub eight : (p : ℕ) {a b c d e f g h : ℤ} → a ≡ value p → b ≡ value (p + 4) → c ≡ value (p + 8) → d ≡ value (p + 12) → e ≡ value (p + 16) → f ≡ value (p + 20) → g ≡ value (p + 24) → h ≡ value (p + 28)
      → (a ∷ b ∷ c ∷ d ∷ e ∷ f ∷ g ∷ h ∷ []) ≡ coordinates 8 (drop p s)
  eight p a b c d e f g h =
      more 7 p (p + 4) refl a
      (more 6 (p + 4) (p + 8) (omega arith) b
      (more 5 (p + 8) (p + 12) (omega arith) c
      (more 4 (p + 12) (p + 16) (omega arith) d
      (more 3 (p + 16) (p + 20) (omega arith) e (more 2 (p + 20) (p + 24) (omega arith) f (more 1 (p + 24) (p + 28) (omega arith) g (more 0 (p + 28) (p + 32) (omega arith) h refl)))))))

-- ---- set numbers

-- ---- texts and memory of the performed commands

module _ (n : ℕ) (tables lengths : List ℕ) (b : ℕ) (s : List ℕ) (m : ℕ) (x : List ℕ) (e : m ≡ get_or s 0 0) (h : get_or s 0 0 ≤ 3) (q : x ≡ table_at tables lengths m) where
  pub first-set : x ≡ set_at (state_in n tables lengths) (get_or s 0 0)
  first-set = operand n tables lengths b s 0 m x e h q

  pub member-text : b ≡ 0x46 → tells member_line (member_bytes n x (coordinates 8 (drop 1 s))) ≡ (perform (state_in n tables lengths) b s).text
  member-text c =
      let a : Answer Bool = member_bytes n (set_at (state_in n tables lengths) (get_or s 0 0)) (coordinates 8 (drop 1 s)) in
      ap (λ (y : List ℕ). tells member_line (member_bytes n y (coordinates 8 (drop 1 s)))) first-set
      ∙ sym (ap (λ (d : Done). d.text) (perform-member (state_in n tables lengths) b s c) ∙ told_text (state_in n tables lengths) member_line a)

  pub search-text : b ≡ 0x47 → tells search_line (search_bytes n x (coordinates 8 (drop 5 s)) (coordinates 8 (drop 37 s)) (value_of (take 4 (drop 1 s)))) ≡ (perform (state_in n tables lengths) b s).text
  search-text c =
      let a : Answer Tallied = search_bytes n (set_at (state_in n tables lengths) (get_or s 0 0)) (coordinates 8 (drop 5 s)) (coordinates 8 (drop 37 s)) (value_of (take 4 (drop 1 s))) in
      ap (λ (y : List ℕ). tells search_line (search_bytes n y (coordinates 8 (drop 5 s)) (coordinates 8 (drop 37 s)) (value_of (take 4 (drop 1 s))))) first-set
      ∙ sym (ap (λ (d : Done). d.text) (perform-search (state_in n tables lengths) b s c) ∙ told_text (state_in n tables lengths) search_line a)

  pub list-told : {r : CommandDone} {out out' : List ℕ} → b ≡ 0x45 → Told (tells (first_line m) (decode n x)) n true (listing_of (listed m (decode n x))) r out out'
      → Told (shown (perform (state_in n tables lengths) b s).text (performs (state_in n tables lengths) b s)) n true (listing_of (performs (state_in n tables lengths) b s)) r out out'
  list-told c t =
      let st : State = state_in n tables lengths in
      let a : Answer Set = decode n (set_at st (get_or s 0 0)) in
      let d : decode n x ≡ a = ap (decode n) first-set in
      told_same
      (ap₂ (λ (i : ℕ) (y : Answer Set). tells (first_line i) y) e d ∙ first-shown st n (get_or s 0 0) a
      ∙ sym (ap₂ (λ (y : Done) (z : Effect). shown y.text z) (perform-list st b s c) (performs-list st b s c)))
      refl refl (ap₂ (λ (i : ℕ) (y : Answer Set). listing_of (listed i y)) e d ∙ sym (ap listing_of (performs-list st b s c))) t

pub none_kept : (y : Memory) (e : Effect) → e ≡ none → Holds (memory_of y e) y.tables y.lengths y.result
none_kept y e q = subst (λ (x : Effect). Holds (memory_of y x) y.tables y.lengths y.result) (sym q) (record { tables_are = refl; lengths_are = refl; result_is = refl })

pub list-kept : (y : Memory) (e : Effect) (m : ℕ) (a : Answer Set) → e ≡ listed m a → Holds (memory_of y e) y.tables y.lengths y.result
list-kept y e m (refused k) q = none_kept y e q
list-kept y e m (gives t) q = subst (λ (x : Effect). Holds (memory_of y x) y.tables y.lengths y.result) (sym q) (record { tables_are = refl; lengths_are = refl; result_is = refl })

pub member-effect : (st : State) (b : ℕ) (s : List ℕ) → b ≡ 0x46 → performs st b s ≡ none
unfolding performs
member-effect st b s e = ap (λ (c : ℕ). performs st c s) e

pub search-effect : (st : State) (b : ℕ) (s : List ℕ) → b ≡ 0x47 → performs st b s ≡ none
unfolding performs
search-effect st b s e = ap (λ (c : ℕ). performs st c s) e

pub assign-text : (st : State) (b : ℕ) (s : List ℕ) → is_assignment b ≡ true → tells done_line (answer_of st b s) ≡ (perform st b s).text
assign-text st b s e = sym (ap (λ (d : Done). d.text) (perform-assign st b s e) ∙ stored-text st (get_or s 0 0) (answer_of st b s))

pub assign-kept : (st : State) (b : ℕ) (s : List ℕ) → is_assignment b ≡ true → (y : Memory) {t l r : List ℕ} → Holds (keeps y (get_or s 0 0) (answer_of st b s)) t l r → Holds (memory_of y (performs st b s)) t l r
assign-kept st b s e y {t} {l} {r} h = subst (λ (x : Effect). Holds (memory_of y x) t l r) (sym (performs-assign st b s e)) h

-- ---- the whole command

module _ (axes : ℕ) (tables lengths : List ℕ) (c : List ℕ) (r : CommandDone) (out out' : List ℕ) where
  by-definition : (d : Done) (e : Effect) → execute (state_in axes tables lengths) c ≡ d → effect_of (state_in axes tables lengths) c ≡ e
      → Told (shown d.text e) d.state.axes d.goes (listing_of e) r out out' → CommandIs (execute (state_in axes tables lengths) c) (effect_of (state_in axes tables lengths) c) r out out'
  by-definition d e p q t =
      record {
        is =
            told_same (ap₂ (λ (d : Done) (e : Effect). shown d.text e) (sym p) (sym q)) (ap (λ (d : Done). d.state.axes) (sym p)) (ap (λ (d : Done). d.goes) (sym p)) (ap listing_of (sym q)) t;
      }

  module _ (b : ℕ) (s : List ℕ) (h : c ≡ b ∷ s) where
    st : State
    st = state_in axes tables lengths

    pub command-end : b ≡ 0x00 → {t : ℕ} → r ≡ saying t axes false → Writes 4 (T.line "end" []) out 0 t out' → CommandIs (execute (state_in axes tables lengths) c) (effect_of (state_in axes tables lengths) c) r out out'
    unfolding st
    command-end e q w =
        by-definition (ends st (T.line "end" [])) none (ap (execute st) h ∙ execute-end st b s e) (ap (effect_of st) h ∙ effect-end st b s e) (told-by q refl refl refl w.wrote)

    pub command-open : b ≡ 0x10 → (n : ℕ) → n ≡ get_or s 0 0 → Told (opened (state_in axes [] []) n).text (opened (state_in axes [] []) n).state.axes (axes_fit n) None r out out'
        → CommandIs (execute (state_in axes tables lengths) c) (effect_of (state_in axes tables lengths) c) r out out'
    unfolding st
    command-open e n q t =
        let o = opened-same (state_in axes [] []) st n refl in
        by-definition (opened st n) none (ap (execute st) h ∙ execute-open st b s e ∙ ap (opened st) (sym q)) (ap (effect_of st) h ∙ effect-open st b s e)
        (told_same o.0 o.1 (sym (opened-same st st n refl).2) refl t)

    module _ (n0 : ¬ (b ≡ 0x00)) (n1 : ¬ (b ≡ 0x10)) where
      pub command-bad : all (λ (m : ℕ). leb m 3) (take (set_numbers b) s) ≡ false → {t : ℕ} → r ≡ saying t axes true → Writes 30 (refused_line 14) out 0 t out'
          → CommandIs (execute (state_in axes tables lengths) c) (effect_of (state_in axes tables lengths) c) r out out'
      unfolding st
      command-bad e q w =
          by-definition (says st (refused_line 14)) none (ap (execute st) h ∙ execute-bad st b s n0 n1 e) (ap (effect_of st) h ∙ effect-bad st b s e) (told-by q refl refl refl w.wrote)

      pub command-good : all (λ (m : ℕ). leb m 3) (take (set_numbers b) s) ≡ true
          → Told (shown (perform (state_in axes tables lengths) b s).text (performs (state_in axes tables lengths) b s)) axes true (listing_of (performs (state_in axes tables lengths) b s)) r out out'
          → CommandIs (execute (state_in axes tables lengths) c) (effect_of (state_in axes tables lengths) c) r out out'
      unfolding st
      command-good e t =
          by-definition (perform st b s) (performs st b s) (ap (execute st) h ∙ execute-good st b s n0 n1 e) (ap (effect_of st) h ∙ effect-good st b s e)
          (told_same refl (sym (perform-axes st b s)) (sym (perform-goes st b s)) refl t)

pub none-command : (y : Memory) (st : State) (c : List ℕ) (b : ℕ) (s : List ℕ) → c ≡ b ∷ s → effect_of st (b ∷ s) ≡ none → Holds (memory_of y (effect_of st c)) y.tables y.lengths y.result
none-command y st c b s h e = none_kept y (effect_of st c) (ap (effect_of st) h ∙ e)

pub good-command : (y : Memory) (st : State) (c : List ℕ) (b : ℕ) (s : List ℕ) → c ≡ b ∷ s → all (λ (m : ℕ). leb m 3) (take (set_numbers b) s) ≡ true → {t l r : List ℕ}
    → Holds (memory_of y (performs st b s)) t l r → Holds (memory_of y (effect_of st c)) t l r
good-command y st c b s h e {t} {l} {r} x = subst (λ (f : Effect). Holds (memory_of y f) t l r) (sym (ap (effect_of st) h ∙ effect-good st b s e)) x

-- what a whole command has
pub record Begun (axes : ℕ) (c : List ℕ) : Type 0 where
  pub some : 0 < length c
  pub known : 0 < fixed_width (get_or c 0 0)
  pub enough : fixed_width (get_or c 0 0) ≤ length c

pub begun : (axes : ℕ) (c : List ℕ) → Single axes c → Begun axes c
unfolding ending
begun axes [] s = let e = s.begins in absurd (omega arith)
begun axes (b ∷ c) s =
    let k = known b (in_place axes b) (leb (command_width (b ∷ c)) (suc (length c))) s.begins in
    let w : fixed_width b ≤ command_width (b ∷ c) = width-least (b ∷ c) (fixed_width b) (λ z. omega arith) refl in
    let l = s.all_there in
    record { some = omega arith; known = k; enough = omega arith }
  where
    known : (b : ℕ) (q r : Bool) → first_failing ((ltb 0 (fixed_width b), 2) ∷ (q, 15) ∷ (r, 3) ∷ []) ≡ 0 → 0 < fixed_width b
    known b q r e = at (ltb 0 (fixed_width b)) refl e
      where
        at : (p : Bool) → ltb 0 (fixed_width b) ≡ p → first_failing ((p, 2) ∷ (q, 15) ∷ (r, 3) ∷ []) ≡ 0 → 0 < fixed_width b
        at true x e = ltb-true 0 (fixed_width b) x
        at false x e = absurd (omega arith)
