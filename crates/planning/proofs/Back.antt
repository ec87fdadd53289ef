-- Going back (document 02, request 8), over any states: it "restores every number of the state .., so whatever rule is added next is answered as it was
-- or would have been then"; "A refused call leaves state and marks as they were"; a name "never marked or forgotten" is 18.
use mathlib.Core.Path.{◌≡◌, refl, sym, ap, ap₂, ◌∙◌, subst}
use mathlib.Core.Bool.{Bool, true, false, cond}
use mathlib.Core.Logic.{◌⊎◌, inl, inr}
use mathlib.Core.List.{List, [], ◌∷◌, ◌++◌, map}
use mathlib.Core.Option.{Option, none, some}
use Prim.Native.Nat.{ℕ, ◌<◌}
use native.Mathlib.Omega.{arith}
use lib.Dec.{T, leb, leb→le, eqb, eqb→eq}
use Rattle.model.specs.Sets.{Division, Constraint}
use Rattle.codec.specs.Bytes.{Answer, refused, gives}
use Rattle.model.proofs.Count.{from-T}
use Rattle.feasibility.proofs.Verdicts.{true-false}
use Rattle.planning.specs.Desk.{Desk, without, marked, named, through, restored, gone_back, Call, start, add, mark, back, fresh, renewed, or_refused, left, shown, answer, after, after_all, replies}
use Rattle.planning.proofs.Marks.{not_same, Once, once-marked, once-through, From, from_named, from-through, from-marked, from-other, since, newer_through, later, since-named, forgets-later}

pub no-gives : {C X : Type 0} {c : C} {n : ℕ} → refused n ≡ gives c → X
no-gives {C} q = absurd (subst is q tt)
  where
    is : Answer C → Type 0
    is (refused m) = Unit {0}
    is (gives a) = ⊥

pub given : {C : Type 0} {a c : C} → gives a ≡ gives c → a ≡ c
given q = cc

module _ {A : Type 0} where
  -- two desks that are alike from mark k on
  pub record Alike (k : ℕ) (d e : Desk A) : Type 0 where
    pub now : d.now ≡ e.now
    pub state : A
    pub newer : List (ℕ × A)
    pub from_d : From k state newer d.marks
    pub from_e : From k state newer e.marks
    pub once_d : Once d.marks
    pub once_e : Once e.marks

  -- the same refusal, or desks alike
  pub data AlikeAnswers (k : ℕ) : Answer (Desk A) → Answer (Desk A) → Type 0 where
    both-refused : (n : ℕ) → AlikeAnswers k (refused n) (refused n)
    both-give : {d e : Desk A} → Alike k d e → AlikeAnswers k (gives d) (gives e)

module _ {A : Type 0} (begins : ℕ → List Division → Answer A) (adds : Constraint → A → Answer A) where
  abbrev pub Refuses : Call → Desk A → Type 0
  Refuses c d = (m : ℕ) × (answer begins adds c d ≡ refused m)

  -- name j is marked, and not before k
  abbrev pub Since : ℕ → ℕ → Desk A → Type 0
  Since k j d = (x : A) × (named j (since k d.marks) ≡ some x)

  -- the call neither starts anew, nor marks k anew, nor goes back before it
  abbrev pub Keeps : ℕ → Call → Desk A → Type 0
  Keeps k (start n ds) d = Refuses (start n ds) d
  Keeps k (add r) d = Unit {0}
  Keeps k (mark j) d = k ≡ j → ⊥
  Keeps k (back j) d = Refuses (back j) d ⊎ Since k j d

  abbrev pub KeepsAll : ℕ → List Call → Desk A → Type 0
  KeepsAll k [] d = Unit {0}
  KeepsAll k (c ∷ cs) d = Keeps k c d × KeepsAll k cs (after begins adds c d)

  -- it does not look at the marks before k: it may mark k anew, and goes back to k or a later mark
  abbrev pub Stays : ℕ → Call → Desk A → Type 0
  Stays k (start n ds) d = Refuses (start n ds) d
  Stays k (add r) d = Unit {0}
  Stays k (mark j) d = Unit {0}
  Stays k (back j) d = (leb j 15 ≡ false) ⊎ Since k j d

  abbrev pub StaysAll : ℕ → List Call → Desk A → Type 0
  StaysAll k [] d = Unit {0}
  StaysAll k (c ∷ cs) d = Stays k c d × StaysAll k cs (after begins adds c d)

  -- ---- refusals

  pub refused-leaves : (c : Call) (d : Desk A) (n : ℕ) → answer begins adds c d ≡ refused n → after begins adds c d ≡ d
  refused-leaves c d n q = ap (λ (a : Answer (Desk A)). left a d) q

  pub unknown-18 : (k : ℕ) (d : Desk A) → named k d.marks ≡ none → answer begins adds (back k) d ≡ refused 18
  unknown-18 k d e = at (leb k 15)
    where
      at : (b : Bool) → cond b (or_refused 18 (gone_back k d)) (refused 18) ≡ refused 18
      at true = ap (λ (o : Option A). or_refused 18 (restored k d o)) e
      at false = refl

  -- a mark made after k is 18 once it has gone back to k
  pub forgotten-18 : (j k : ℕ) (d e : Desk A) (s x : A) (newer : List (ℕ × A)) → Once d.marks → From k s newer d.marks → named j newer ≡ some x → answer begins adds (back k) d ≡ gives e → answer begins adds (back j) e ≡ refused 18
  forgotten-18 j k d e s x newer o f z q = unknown-18 j e (ap (named j) (sym (at (leb k 15) q)) ∙ forgets-later j k s x newer d.marks o f z)
    where
      on : (m : Option A) → or_refused 18 (restored k d m) ≡ gives e → through k d.marks ≡ e.marks
      on none q = no-gives q
      on (some y) q = ap (λ (d : Desk A). d.marks) (given q)

      at : (b : Bool) → cond b (or_refused 18 (gone_back k d)) (refused 18) ≡ gives e → through k d.marks ≡ e.marks
      at true q = on (named k d.marks) q
      at false q = no-gives q

  -- ---- what no marks have, and marking and going back keep, marks have after every call

  module _ (P : List (ℕ × A) → Type 0) (empty : P []) (marks : (k : ℕ) (d : Desk A) → k < 16 → P d.marks → P (marked k d).marks) (backs : (k : ℕ) (ms : List (ℕ × A)) → P ms → P (through k ms)) where
    pub marks-after : (c : Call) (d : Desk A) → P d.marks → P (after begins adds c d).marks
    marks-after (start n ds) d p = at (begins n ds)
      where
        at : (a : Answer A) → P (left (fresh a) d).marks
        at (refused m) = p
        at (gives s) = empty
    marks-after (add r) d p = at (adds r d.now)
      where
        at : (a : Answer A) → P (left (renewed a d) d).marks
        at (refused m) = p
        at (gives s) = p
    marks-after (mark k) d p = at (leb k 15) refl
      where
        at : (b : Bool) → leb k 15 ≡ b → P (left (cond b (gives (marked k d)) (refused 18)) d).marks
        at true q = let l = leb→le k 15 (subst T (sym q) tt) in marks k d (omega arith) p
        at false q = p
    marks-after (back k) d p = at (leb k 15)
      where
        on : (x : Option A) → P (left (or_refused 18 (restored k d x)) d).marks
        on none = p
        on (some s) = backs k d.marks p

        at : (b : Bool) → P (left (cond b (or_refused 18 (gone_back k d)) (refused 18)) d).marks
        at true = on (named k d.marks)
        at false = p

  once_after : (c : Call) (d : Desk A) → Once d.marks → Once (after begins adds c d).marks
  once_after = marks-after Once tt (λ k d l o. once-marked k d o) once-through

  -- ---- alike desks answer alike

  alike-add : (k : ℕ) (r : Constraint) (d e : Desk A) → Alike k d e → AlikeAnswers k (renewed (adds r d.now) d) (renewed (adds r e.now) e)
  alike-add k r d e h = subst (λ (x : A). AlikeAnswers k (renewed (adds r d.now) d) (renewed (adds r x) e)) h.now (at (adds r d.now))
    where
      at : (a : Answer A) → AlikeAnswers k (renewed a d) (renewed a e)
      at (refused n) = both-refused n
      at (gives s) = both-give (record { now = refl; state = h.state; newer = h.newer; from_d = h.from_d; from_e = h.from_e; once_d = h.once_d; once_e = h.once_e })

  alike-mark : (j k : ℕ) (d e : Desk A) → Alike k d e → Alike k (marked j d) (marked j e)
  alike-mark j k d e h = at (eqb k j) refl
    where
      at : (b : Bool) → eqb k j ≡ b → Alike k (marked j d) (marked j e)
      at true q =
          let z : k ≡ j = eqb→eq k j (subst T (sym q) tt) in
          record {
            now = h.now;
            state = d.now;
            newer = [];
            from_d = subst (λ (i : ℕ). From i d.now [] (marked j d).marks) (sym z) (from-marked j d);
            from_e = subst (λ (i : ℕ). From i d.now [] (marked j e).marks) (sym z) (subst (λ (x : A). From j x [] (marked j e).marks) (sym h.now) (from-marked j e));
            once_d = once-marked j d h.once_d;
            once_e = once-marked j e h.once_e;
          }
      at false q =
          record {
            now = h.now;
            state = h.state;
            newer = without j h.newer ++ ((j, d.now) ∷ []);
            from_d = from-other j k h.state d.now h.newer d.marks q h.from_d;
            from_e =
                subst (λ (x : A). From k h.state (without j h.newer ++ ((j, x) ∷ [])) (without j e.marks ++ ((j, e.now) ∷ []))) (sym h.now)
                (from-other j k h.state e.now h.newer e.marks q h.from_e);
            once_d = once-marked j d h.once_d;
            once_e = once-marked j e h.once_e;
          }

  alike-back : (j k : ℕ) (d e : Desk A) → Alike k d e → (x : A) → named j (since k d.marks) ≡ some x → AlikeAnswers k (or_refused 18 (gone_back j d)) (or_refused 18 (gone_back j e))
  alike-back j k d e h x q =
      let y : named j ((k, h.state) ∷ h.newer) ≡ some x = sym (since-named j k h.state h.newer d.marks h.from_d) ∙ q in
      let ld = later j k h.state x h.newer d.marks h.once_d h.from_d y in
      let le = later j k h.state x h.newer e.marks h.once_e h.from_e y in
      subst (λ (o : Option A). AlikeAnswers k (or_refused 18 (restored j d o)) (or_refused 18 (gone_back j e))) (sym ld.is)
      (subst (λ (o : Option A). AlikeAnswers k (gives (record { now = x; marks = through j d.marks })) (or_refused 18 (restored j e o))) (sym le.is)
      (both-give
      (record {
        now = refl;
        state = h.state;
        newer = newer_through j k h.newer;
        from_d = ld.kept;
        from_e = le.kept;
        once_d = once-through j d.marks h.once_d;
        once_e = once-through j e.marks h.once_e;
      })))

  alike-answers : (k : ℕ) (c : Call) (d e : Desk A) → Alike k d e → Stays k c d → AlikeAnswers k (answer begins adds c d) (answer begins adds c e)
  alike-answers k (start n ds) d e h s = subst (λ (a : Answer (Desk A)). AlikeAnswers k a a) (sym s.1) (both-refused s.0)
  alike-answers k (add r) d e h s = alike-add k r d e h
  alike-answers k (mark j) d e h s = at (leb j 15)
    where
      at : (b : Bool) → AlikeAnswers k (cond b (gives (marked j d)) (refused 18)) (cond b (gives (marked j e)) (refused 18))
      at true = both-give (alike-mark j k d e h)
      at false = both-refused 18
  alike-answers k (back j) d e h s = at (leb j 15) refl s
    where
      at : (b : Bool) → leb j 15 ≡ b → Stays k (back j) d → AlikeAnswers k (cond b (or_refused 18 (gone_back j d)) (refused 18)) (cond b (or_refused 18 (gone_back j e)) (refused 18))
      at true q (inl n) = true-false (sym q ∙ n)
      at true q (inr x) = alike-back j k d e h x.0 x.1
      at false q s = both-refused 18

  shown-alike : (k : ℕ) (a b : Answer (Desk A)) → AlikeAnswers k a b → shown a ≡ shown b
  shown-alike k _ _ (both-refused n) = refl
  shown-alike k _ _ (both-give h) = ap gives h.now

  left-alike : (k : ℕ) (a b : Answer (Desk A)) (d e : Desk A) → Alike k d e → AlikeAnswers k a b → Alike k (left a d) (left b e)
  left-alike k _ _ d e h (both-refused n) = h
  left-alike k _ _ d e h (both-give g) = g

  -- and go on doing so, over any calls that do not go back before mark k
  alike-replies : (k : ℕ) (cs : List Call) (d e : Desk A) → Alike k d e → StaysAll k cs d → replies begins adds cs d ≡ replies begins adds cs e
  alike-replies k [] d e h s = refl
  alike-replies k (c ∷ cs) d e h s =
      let a = alike-answers k c d e h s.0 in
      ap₂ (λ (x : Answer A) (l : List (Answer A)). x ∷ l) (shown-alike k (answer begins adds c d) (answer begins adds c e) a)
      (alike-replies k cs (after begins adds c d) (after begins adds c e) (left-alike k (answer begins adds c d) (answer begins adds c e) d e h a) s.1)

  -- what is added is answered by the state of now alone
  pub rules-by-state : (rs : List Constraint) (d e : Desk A) → d.now ≡ e.now → replies begins adds (map add rs) d ≡ replies begins adds (map add rs) e
  rules-by-state [] d e q = refl
  rules-by-state (r ∷ rs) d e q = subst (λ (x : A). P (adds r d.now) (adds r x)) q (at (adds r d.now) (rules-by-state rs))
    where
      P : Answer A → Answer A → Type 0
      P a b = shown (renewed a d) ∷ replies begins adds (map add rs) (left (renewed a d) d) ≡ shown (renewed b e) ∷ replies begins adds (map add rs) (left (renewed b e) e)

      at : (a : Answer A) → ((d e : Desk A) → d.now ≡ e.now → replies begins adds (map add rs) d ≡ replies begins adds (map add rs) e) → P a a
      at (refused n) ih = ap (λ (l : List (Answer A)). refused n ∷ l) (ih d e q)
      at (gives s) ih = ap (λ (l : List (Answer A)). gives s ∷ l) (ih (record { now = s; marks = d.marks }) (record { now = s; marks = e.marks }) refl)

  -- ---- a mark is kept

  from-after : (k : ℕ) (s : A) (c : Call) (d : Desk A) (newer : List (ℕ × A)) → Once d.marks → From k s newer d.marks → Keeps k c d → (newer' : List (ℕ × A)) × From k s newer' (after begins adds c d).marks
  from-after k s (start n ds) d newer o f z = (newer, subst (λ (e : Desk A). From k s newer e.marks) (sym (refused-leaves (start n ds) d z.0 z.1)) f)
  from-after k s (add r) d newer o f z = (newer, at (adds r d.now))
    where
      at : (a : Answer A) → From k s newer (left (renewed a d) d).marks
      at (refused m) = f
      at (gives x) = f
  from-after k s (mark j) d newer o f z = at (leb j 15)
    where
      at : (b : Bool) → (newer' : List (ℕ × A)) × From k s newer' (left (cond b (gives (marked j d)) (refused 18)) d).marks
      at true = (without j newer ++ ((j, d.now) ∷ []), from-other j k s d.now newer d.marks (not_same k j z) f)
      at false = (newer, f)
  from-after k s (back j) d newer o f (inl z) = (newer, subst (λ (e : Desk A). From k s newer e.marks) (sym (refused-leaves (back j) d z.0 z.1)) f)
  from-after k s (back j) d newer o f (inr x) = at (leb j 15)
    where
      at : (b : Bool) → (newer' : List (ℕ × A)) × From k s newer' (left (cond b (or_refused 18 (gone_back j d)) (refused 18)) d).marks
      at true =
          let l = later j k s x.0 newer d.marks o f (sym (since-named j k s newer d.marks f) ∙ x.1) in
          (newer_through j k newer, subst (λ (m : Option A). From k s (newer_through j k newer) (left (or_refused 18 (restored j d m)) d).marks) (sym l.is) l.kept)
      at false = (newer, f)

  from-after_all : (k : ℕ) (s : A) (cs : List Call) (d : Desk A) (newer : List (ℕ × A)) → Once d.marks → From k s newer d.marks → KeepsAll k cs d
      → (newer' : List (ℕ × A)) × From k s newer' (after_all begins adds cs d).marks × Once (after_all begins adds cs d).marks
  from-after_all k s [] d newer o f z = (newer, f, o)
  from-after_all k s (c ∷ cs) d newer o f z =
      let g = from-after k s c d newer o f z.0 in
      from-after_all k s cs (after begins adds c d) g.0 (once_after c d o) g.1 z.1

  -- ---- going back

  -- the mark is made, any calls follow that keep it, and going back gives the state of then
  pub record Restored (k : ℕ) (d : Desk A) (cs : List Call) : Type 0 where
    pub desk : Desk A
    pub gives_it : answer begins adds (back k) (after_all begins adds cs (marked k d)) ≡ gives desk
    pub state : desk.now ≡ d.now
    -- "so whatever rule is added next is answered as it was or would have been then"
    pub rules : (rs : List Constraint) → replies begins adds (map add rs) desk ≡ replies begins adds (map add rs) d
    -- and so is any other call that does not go back before it
    pub again : (next : List Call) → StaysAll k next (marked k d) → replies begins adds next desk ≡ replies begins adds next (marked k d)

  pub back-restores : (k : ℕ) (d : Desk A) (cs : List Call) → T (leb k 15) → Once d.marks → KeepsAll k cs (marked k d) → Restored k d cs
  back-restores k d cs t o z =
      let g = from-after_all k d.now cs (marked k d) [] (once-marked k d o) (from-marked k d) z in
      let e : Desk A = after_all begins adds cs (marked k d) in
      let there : Desk A = record { now = d.now; marks = through k e.marks } in
      record {
        desk = there;
        gives_it =
            ap (λ (b : Bool). cond b (or_refused 18 (gone_back k e)) (refused 18)) (from-T (leb k 15) t)
            ∙ ap (λ (m : Option A). or_refused 18 (restored k e m)) (from_named k d.now g.0 e.marks g.1);
        state = refl;
        rules = λ rs. rules-by-state rs there d refl;
        again = λ next s.
            sym (alike-replies k next (marked k d) there
            (record { now = refl; state = d.now; newer = []; from_d = from-marked k d; from_e = from-through k d.now g.0 e.marks g.1; once_d = once-marked k d o; once_e = once-through k e.marks g.2 }) s);
      }
