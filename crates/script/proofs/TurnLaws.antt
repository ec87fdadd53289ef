-- Turns, by the tests that the code makes.
use mathlib.Core.Path.{◌≡◌, refl, ap, ap₂, sym, subst, ◌∙◌}
use mathlib.Core.Bool.{Bool, true, false, not, ◌&&◌, cond}
use mathlib.Core.List.{List, [], ◌∷◌}
use Prim.Native.Nat.{ℕ, zero, suc, ◌+◌, ◌≤◌, ◌<◌}
use native.Mathlib.Numerals.{add-one}
use native.Mathlib.Omega.{arith}
use borrow.Author.Tests.{ltb-true, le-leb, eqb-true, leb-true}
use lib.Dec.{ltb, leb, eqb}
use lib.ListN.{length, get_or, take, drop, take-append-drop}
use lib.Seq.{drop-cons, length-take-le}
use Rattle.model.specs.Lists.{all}
use Rattle.std.proofs.Common.{Option, Some, None}
use Rattle.codec.specs.Bytes.{Answer, refused, gives, is_opening, is_division, width_of, first_failing}
use Rattle.session.specs.Script.{room, fixed_width, load_length, command_width, in_place, ending, refused_line, execute}
use Rattle.listing.specs.Written.{Wrote, Writes}
use Rattle.session.specs.Turns.{Memory, memory, state_of, effect_of, shown, memory_of, goes_on, Turned, quiet, state_at, line_of, past, there, line_turn, command_turn, front_turn, front_of, cursor_in, cursor_fits, usable}
use Rattle.commands.specs.Promises.{CommandIs, Holds, Single, Usable}
use Rattle.script.specs.Promises.{Says, TurnIs, CursorIn, silent_turn, after_turn}
use Rattle.commands.specs.declared.commands.CommandDone.{CommandDone}
use Rattle.session.specs.declared.Cursor.{Cursor}
use Rattle.session.specs.declared.State.{State}
use Rattle.script.specs.declared.turns.Turn.{Turn}
use Rattle.session.specs.declared.Next.{Next}
use Rattle.session.specs.declared.Next.TheVariants.{Goes, Ends}
use Rattle.session.proofs.Turning.{and_left, and_right, all_fit}
use Rattle.listing.proofs.Writing.{wrote_none}
use Rattle.session.proofs.Steps.{load-known}

pub says-quiet : (st : State) (y : Memory) (x : Next) {r : Turn} (out : List ℕ) → r ≡ silent_turn st x → Says (quiet st y x) r out out
says-quiet st y x {r} out e =
    record {
      text = subst (λ (i : ℕ). Wrote [] out 0 i out) (ap (λ (t : Turn). t.text) (sym e)) (wrote_none out 0 (omega arith));
      used = ap (λ (t : Turn). t.used) e;
      state = ap (λ (t : Turn). t.state) e;
      next = ap (λ (t : Turn). t.next) e;
    }

pub says_same : {e e' : Turned} {r : Turn} {out out' : List ℕ} → e ≡ e' → Says e r out out' → Says e' r out out'
says_same {r = r} {out} {out'} q s = subst (λ (x : Turned). Says x r out out') q s

pub cursor-in : (c : Cursor) (lengths : List ℕ) → cursor_in lengths c ≡ true → CursorIn c lengths
cursor-in c lengths e =
    let a = and_right (leb c.set 3) (leb c.place (get_or lengths c.set 0) && (leb c.basics room && leb c.divisions 8)) e in
    let b = and_right (leb c.place (get_or lengths c.set 0)) (leb c.basics room && leb c.divisions 8) a in
    record {
      set_is = leb-true c.set 3 (and_left (leb c.set 3) (leb c.place (get_or lengths c.set 0) && (leb c.basics room && leb c.divisions 8)) e);
      place_in = leb-true c.place (get_or lengths c.set 0) (and_left (leb c.place (get_or lengths c.set 0)) (leb c.basics room && leb c.divisions 8) a);
      few_basics = leb-true c.basics room (and_left (leb c.basics room) (leb c.divisions 8) b);
      few_divisions = leb-true c.divisions 8 (and_right (leb c.basics room) (leb c.divisions 8) b);
    }

-- what a usable state and memory are
pub record Lent (st : State) (y : Memory) (out : List ℕ) : Type 0 where
  pub usable_is : Usable st.axes y.tables y.lengths y.result out
  pub cursor : cursor_fits y.lengths st.listing ≡ true

pub lent : (st : State) (y : Memory) (out : List ℕ) → usable st y (length out) ≡ true → Lent st y out
unfolding usable
lent st y out e =
    let p1 : Bool = eqb (length y.tables) 32000 in let p2 : Bool = eqb (length y.lengths) 4 in let p3 : Bool = all (λ (l : ℕ). leb l room) y.lengths in
    let p4 : Bool = eqb (length y.result) room in let p5 : Bool = leb 512 (length out) in let p6 : Bool = leb st.axes 8 in let p7 : Bool = cursor_fits y.lengths st.listing in
    let e1 = and_right p1 (p2 && (p3 && (p4 && (p5 && (p6 && p7))))) e in
    let e2 = and_right p2 (p3 && (p4 && (p5 && (p6 && p7)))) e1 in
    let e3 = and_right p3 (p4 && (p5 && (p6 && p7))) e2 in
    let e4 = and_right p4 (p5 && (p6 && p7)) e3 in
    let e5 = and_right p5 (p6 && p7) e4 in
    record {
      usable_is =
          record {
            axes = leb-true st.axes 8 (and_left p6 p7 e5);
            fitted =
                record {
                  tables_long = eqb-true (length y.tables) 32000 (and_left p1 (p2 && (p3 && (p4 && (p5 && (p6 && p7))))) e);
                  lengths_long = eqb-true (length y.lengths) 4 (and_left p2 (p3 && (p4 && (p5 && (p6 && p7)))) e1);
                  fit = all_fit y.lengths (and_left p3 (p4 && (p5 && (p6 && p7))) e2);
                };
            result_long = eqb-true (length y.result) room (and_left p4 (p5 && (p6 && p7)) e3);
            line_long = leb-true 512 (length out) (and_left p5 (p6 && p7) e4);
          };
      cursor = and_right p6 p7 e5;
    }

pub unchanged : (y : Memory) → Holds y y.tables y.lengths y.result
unchanged y = record { tables_are = refl; lengths_are = refl; result_is = refl }

pub turn-same : {e e' : Turned} {r : Turn} {out out' t l u : List ℕ} → e ≡ e' → TurnIs e r out out' t l u → TurnIs e' r out out' t l u
turn-same {r = r} {out} {out'} {t} {l} {u} q x = subst (λ (z : Turned). TurnIs z r out out' t l u) q x

-- a listing's line does not touch the memory
pub line-memory : (n : ℕ) (y : Memory) (c : Cursor) (l : List ℕ) {r : Turn} {out out' : List ℕ} → Says (line_turn n (memory [] [] []) c l) r out out' → TurnIs (line_turn n y c l) r out out' y.tables y.lengths y.result
line-memory n y c [] s = record { says = record { text = s.text; used = s.used; state = s.state; next = s.next }; holds = unchanged y }
line-memory n y c (b ∷ t) {r} {out} {out'} s = at (there (b ∷ t)) s
  where
    at : (x : Bool) → Says (cond x (record { text = line_of n c b t; used = 0; state = state_at n (Some (past c b)); next = Goes; memory = memory [] [] [] }) (quiet (state_at n None) (memory [] [] []) Goes)) r out out'
        → TurnIs (cond x (record { text = line_of n c b t; used = 0; state = state_at n (Some (past c b)); next = Goes; memory = y }) (quiet (state_at n None) y Goes)) r out out' y.tables y.lengths y.result
    at true s = record { says = record { text = s.text; used = s.used; state = s.state; next = s.next }; holds = unchanged y }
    at false s = record { says = record { text = s.text; used = s.used; state = s.state; next = s.next }; holds = unchanged y }

pub record Fronted (axes w : ℕ) (s : List ℕ) : Type 0 where
  pub inside : w ≤ length s
  pub single : Single axes (take w s)

pub fronted : (axes : ℕ) (e : Bool) (s : List ℕ) (w : ℕ) → front_of axes e s ≡ gives (Some w) → Fronted axes w s
unfolding front_of ending
fronted axes e [] w q = absurd (cut e q)
  where
    cut : (e : Bool) → cond (not e) (gives None) (refused 3) ≡ gives (Some w) → ⊥
    cut true q = let z : ◌≡◌ {A = ℕ} 0 1 = cc in omega arith
    cut false q = let z : ◌≡◌ {A = ℕ} 0 1 = cc in omega arith
fronted axes e (b ∷ s) w q =
    at (ltb 0 (fixed_width b)) refl (in_place axes b) refl (leb (command_width (b ∷ s)) (suc (length s))) refl q
  where
    stop : (k : ℕ) (x : Bool) → cond x (gives None) (refused k) ≡ gives (Some w) → ⊥
    stop k true q = let z : ◌≡◌ {A = ℕ} 0 1 = cc in omega arith
    stop k false q = let z : ◌≡◌ {A = ℕ} 0 1 = cc in omega arith

    width : (v : ℕ) → command_width (b ∷ s) ≡ suc v → v ≤ length s → 0 < fixed_width b → command_width (b ∷ take v s) ≡ command_width (b ∷ s)
    width v e l f = by (eqb b 0x40) refl
      where
        by : (x : Bool) → eqb b 0x40 ≡ x → command_width (b ∷ take v s) ≡ command_width (b ∷ s)
        by false z = ap (λ (x : Bool). fixed_width b + cond x (load_length (b ∷ take v s)) 0) z ∙ sym (ap (λ (x : Bool). fixed_width b + cond x (load_length (b ∷ s)) 0) z)
        by true z =
            let g : fixed_width b ≡ 4 = ap fixed_width (eqb-true b 0x40 z) in
            let u : command_width (b ∷ s) ≡ fixed_width b + load_length (b ∷ s) = ap (λ (x : Bool). fixed_width b + cond x (load_length (b ∷ s)) 0) z in
            let k : 3 ≤ length (take v s) = omega (arith, length-take-le v s l) in
            ap (λ (i : ℕ). fixed_width b + cond (eqb b 0x40) i 0) (sym (load-known b (take v s) (drop v s) k) ∙ ap (λ (l : List ℕ). load_length (b ∷ l)) (take-append-drop v s))

    done : (v : ℕ) → command_width (b ∷ s) ≡ v → ltb 0 (fixed_width b) ≡ true → in_place axes b ≡ true → leb (command_width (b ∷ s)) (suc (length s)) ≡ true → v ≡ w → Fronted axes w (b ∷ s)
    done zero e x y z q = let f = ltb-true 0 (fixed_width b) x in let g : fixed_width b ≤ fixed_width b + cond (eqb b 0x40) (load_length (b ∷ s)) 0 = omega arith in absurd (omega arith)
    done (suc v) e x y z q =
        let l : command_width (b ∷ s) ≤ suc (length s) = leb-true (command_width (b ∷ s)) (suc (length s)) z in
        let k : v ≤ length s = omega arith in
        let u : command_width (b ∷ take v s) ≡ command_width (b ∷ s) = width v e k (ltb-true 0 (fixed_width b) x) in
        let n : length (take v s) ≡ v = length-take-le v s k in
        let m : command_width (b ∷ take v s) ≤ suc (length (take v s)) = omega arith in
        let g = le-leb (command_width (b ∷ take v s)) (suc (length (take v s))) m in
        subst (λ (i : ℕ). Fronted axes i (b ∷ s)) q
        (record {
          inside = omega arith;
          single = record { begins = ap₂ (λ (p r : Bool). first_failing ((p, 2) ∷ (r, 15) ∷ (leb (command_width (b ∷ take v s)) (suc (length (take v s))), 3) ∷ [])) x y ∙ ap (λ (r : Bool). first_failing ((true, 2) ∷ (true, 15) ∷ (r, 3) ∷ [])) g; all_there = omega arith };
        })

    at : (p : Bool) → ltb 0 (fixed_width b) ≡ p → (r : Bool) → in_place axes b ≡ r → (z : Bool) → leb (command_width (b ∷ s)) (suc (length s)) ≡ z
        → elim (first_failing ((p, 2) ∷ (r, 15) ∷ (z, 3) ∷ [])) [ zero ↦ gives (Some (command_width (b ∷ s))) | suc k ↦ cond (eqb (suc k) 3 && not e) (gives None) (refused (suc k)) ] ≡ gives (Some w) → Fronted axes w (b ∷ s)
    at true x true y true z q = done (command_width (b ∷ s)) refl x y z (let i : command_width (b ∷ s) ≡ w = cc in i)
    at true x true y false z q = absurd (stop 3 (not e) q)
    at true x false y z u q = absurd (stop 15 false q)
    at false x r y z u q = absurd (stop 2 false q)

-- the turn of a whole command
pub command-turn : (st : State) (y : Memory) (c : List ℕ) (w : ℕ) {r : Turn} {d : CommandDone} {out out' t l u : List ℕ} → w ≡ length c → r ≡ after_turn d w
    → CommandIs (execute (state_of st.axes y) c) (effect_of (state_of st.axes y) c) d out out' → Holds (memory_of y (effect_of (state_of st.axes y) c)) t l u → TurnIs (command_turn st y c) r out out' t l u
command-turn st y c w {r} {d} {out} {out'} e q i h =
    record {
      says =
          record {
            text = subst (λ (k : ℕ). Wrote (shown (execute (state_of st.axes y) c).text (effect_of (state_of st.axes y) c)) out 0 k out') (ap (λ (x : Turn). x.text) (sym q)) i.is.text;
            used = ap (λ (x : Turn). x.used) q ∙ e;
            state = ap (λ (x : Turn). x.state) q ∙ ap₂ state_at i.is.axes i.is.listing;
            next = ap (λ (x : Turn). x.next) q ∙ ap goes_on i.is.goes;
          };
      holds = h;
    }

pub quiet-turn : (st : State) (y : Memory) (x : Next) {r : Turn} (out : List ℕ) → r ≡ silent_turn st x → TurnIs (quiet st y x) r out out y.tables y.lengths y.result
quiet-turn st y x out e = record { says = says-quiet st y x out e; holds = unchanged y }
