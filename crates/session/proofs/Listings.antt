-- A listing is printed line by line: one line for each command of the set's bytes.
use mathlib.Core.Path.{◌≡◌, refl, ap, ap₂, sym, ◌∙◌}
use mathlib.Core.Bool.{Bool, true, false, cond}
use mathlib.Core.List.{List, [], ◌∷◌, ◌++◌, append_assoc}
use Prim.Native.Nat.{ℕ, suc, ◌+◌, ◌≤◌, ◌<◌}
use native.Mathlib.Numerals.{add-one}
use native.Mathlib.Omega.{arith}
use borrow.Author.Tests.{eqb-true, eqb-false}
use lib.Dec.{ltb→lt}
use lib.IntN.{pos}
use lib.ListN.{length, get_or, drop}
use Rattle.model.specs.Lists.{concat_map}
use Rattle.model.specs.Sets.{Division, Constraint}
use Rattle.model.specs.Numbers.{numbered}
use Rattle.codec.specs.Bytes.{decode, Command, opens, misnumbered, division, constraint, Counts, tests_of, refusal, counted, is_opening, is_division, head_of, body_in, width_of, read_command, read_division, read_constraint, kind_of, Built, number, axes_fit}
use Rattle.codec.specs.Places.{built, set_from, Checked}
use Rattle.codec.proofs.Parsing.{all-passed, few-next, start, decode-bad, decode-good, read-opens, read-division, read-constraint, well-numbered}
use Rattle.codec.proofs.Walking.{added, Head, head, built-end, ordered}
use Rattle.codec.proofs.Boundaries.{boundary_start}
use Rattle.listing.specs.Text.{line, division_line, constraint_line, basics_from, listing}
use Rattle.session.specs.Turns.{line_of, past, header_line, start_of}
use Rattle.session.specs.declared.Cursor.{Cursor}
use Rattle.session.proofs.Turning.{line-opening, line-division, line-constraint}

-- the lines that are left: of the basic set that is open, then of those behind it
abbrev pub lines_left : ℕ → Cursor → Built → List ℕ
lines_left n c b =
    concat_map (division_line n) b.divisions ++ (concat_map (constraint_line n (c.divisions + length b.divisions)) b.constraints ++ basics_from n (suc c.basics) b.rest)

-- the cursor stands at a command of checked bytes, after the commands that it counts
pub record Stands (n : ℕ) (s : List ℕ) (c : Cursor) : Type 0 where
  pub k : Counts
  pub here : Checked n s c.place k
  pub basics : k.basics ≡ c.basics
  pub divisions : k.divisions ≡ c.divisions
  pub most : k.basics ≤ 32
  pub few : k.divisions ≤ 8

most-next : (n : ℕ) (k : Counts) (c : Command) → refusal n k c ≡ 0 → k.basics ≤ 32 → (counted k c).basics ≤ 32
most-next n k opens z h = let t = all-passed (tests_of n k opens) tt z in let l = ltb→lt k.basics 32 t.0 in omega arith
most-next n k misnumbered z h = h
most-next n k (division e) z h = h
most-next n k (constraint r) z h = h

module _ (n : ℕ) (s : List ℕ) (c : Cursor) (d : Stands n s c) (l : c.place < length s) where
  b : ℕ
  b = get_or s c.place 0

  t : List ℕ
  t = drop (c.place + 1) s

  h : Head n s c.place d.k (width_of (get_or s c.place 0))
  h = head n s c.place d.k (width_of (get_or s c.place 0)) d.here l refl

  pub record Next : Type 0 where
    pub text : lines_left n c (built (drop c.place s)) ≡ line_of n c (get_or s c.place 0) (drop (c.place + 1) s) ++ lines_left n (past c (get_or s c.place 0)) (built (drop (past c (get_or s c.place 0)).place s))
    pub stands : Stands n s (past c (get_or s c.place 0))

  rest : Built
  rest = built (drop (c.place + width_of (get_or s c.place 0)) s)

  pub listing-next : Next
  unfolding b t h rest
  listing-next = by (is_opening b) refl (is_division b) refl
    where
      by : (x : Bool) → is_opening b ≡ x → (y : Bool) → is_division b ≡ y → Next
      by true e y f =
          let r = read-opens b t (eqb-true b _ e) in
          let q : built (drop c.place s) ≡ added opens rest = h.builds ∙ ap (λ (z : Command). added z rest) r in
          let u : past c b ≡ record { set = c.set; place = c.place + width_of b; basics = c.basics + 1; divisions = 0 } = ap₂ (λ (x y : Bool). record { set = c.set; place = c.place + width_of b; basics = cond x (c.basics + 1) c.basics; divisions = cond x 0 (cond y (c.divisions + 1) c.divisions) }) e f in
          record {
            text =
                ap (lines_left n c) q
                ∙ ap₂ (λ (w : ℕ) (z : ℕ). (line "basic" (pos w ∷ []) ++ (concat_map (division_line n) rest.divisions ++ concat_map (constraint_line n (length rest.divisions)) rest.constraints)) ++ basics_from n z rest.rest) (sym (add-one c.basics)) (let o : suc (suc c.basics) ≡ suc (c.basics + 1) = omega arith in o)
                ∙ append_assoc (line "basic" (pos (c.basics + 1) ∷ [])) (concat_map (division_line n) rest.divisions ++ concat_map (constraint_line n (length rest.divisions)) rest.constraints) (basics_from n (suc (c.basics + 1)) rest.rest)
                ∙ ap (λ (z : List ℕ). line "basic" (pos (c.basics + 1) ∷ []) ++ z) (append_assoc (concat_map (division_line n) rest.divisions) (concat_map (constraint_line n (length rest.divisions)) rest.constraints) (basics_from n (suc (c.basics + 1)) rest.rest))
                ∙ ap (λ (z : ℕ). line "basic" (pos (c.basics + 1) ∷ []) ++ (concat_map (division_line n) rest.divisions ++ (concat_map (constraint_line n z) rest.constraints ++ basics_from n (suc (c.basics + 1)) rest.rest))) (let o : length rest.divisions ≡ 0 + length rest.divisions = omega arith in o)
                ∙ ap₂ (λ (x : List ℕ) (z : Cursor). x ++ lines_left n z rest) (line-opening n c b t e) (sym u);
            stands =
                record {
                  k = counted d.k (read_command b t);
                  here = h.there;
                  basics = ap (λ (z : Command). (counted d.k z).basics) r ∙ ap (λ (z : ℕ). z + 1) d.basics ∙ sym (ap (λ (z : Cursor). z.basics) u);
                  divisions = ap (λ (z : Command). (counted d.k z).divisions) r ∙ sym (ap (λ (z : Cursor). z.divisions) u);
                  most = most-next n d.k (read_command b t) h.none d.most;
                  few = few-next n d.k (read_command b t) h.none d.few;
                };
          }
      by false e true f =
          let r = read-division b t f in
          let q : built (drop c.place s) ≡ added (division (read_division (head_of b t) (body_in b t))) rest = h.builds ∙ ap (λ (z : Command). added z rest) r in
          let u : past c b ≡ record { set = c.set; place = c.place + width_of b; basics = c.basics; divisions = c.divisions + 1 } = ap₂ (λ (x y : Bool). record { set = c.set; place = c.place + width_of b; basics = cond x (c.basics + 1) c.basics; divisions = cond x 0 (cond y (c.divisions + 1) c.divisions) }) e f in
          let o : c.divisions + suc (length rest.divisions) ≡ c.divisions + 1 + length rest.divisions = omega arith in
          record {
            text =
                ap (lines_left n c) q
                ∙ append_assoc (division_line n (read_division (head_of b t) (body_in b t))) (concat_map (division_line n) rest.divisions) (concat_map (constraint_line n (c.divisions + suc (length rest.divisions))) rest.constraints ++ basics_from n (suc c.basics) rest.rest)
                ∙ ap (λ (z : ℕ). division_line n (read_division (head_of b t) (body_in b t)) ++ (concat_map (division_line n) rest.divisions ++ (concat_map (constraint_line n z) rest.constraints ++ basics_from n (suc c.basics) rest.rest))) o
                ∙ ap₂ (λ (x : List ℕ) (z : Cursor). x ++ lines_left n z rest) (line-division n c b t e f) (sym u);
            stands =
                record {
                  k = counted d.k (read_command b t);
                  here = h.there;
                  basics = ap (λ (z : Command). (counted d.k z).basics) r ∙ d.basics ∙ sym (ap (λ (z : Cursor). z.basics) u);
                  divisions = ap (λ (z : Command). (counted d.k z).divisions) r ∙ ap (λ (z : ℕ). z + 1) d.divisions ∙ sym (ap (λ (z : Cursor). z.divisions) u);
                  most = most-next n d.k (read_command b t) h.none d.most;
                  few = few-next n d.k (read_command b t) h.none d.few;
                };
          }
      by false e false f =
          let r = read-constraint b t (eqb-false b _ e) f (well-numbered n d.k b t (eqb-false b _ e) f h.none) in
          let x : Constraint = numbered (head_of b t) (read_constraint (kind_of b) (body_in b t)) in
          let q : built (drop c.place s) ≡ added (constraint x) rest = h.builds ∙ ap (λ (z : Command). added z rest) r in
          let u : past c b ≡ record { set = c.set; place = c.place + width_of b; basics = c.basics; divisions = c.divisions } = ap₂ (λ (x y : Bool). record { set = c.set; place = c.place + width_of b; basics = cond x (c.basics + 1) c.basics; divisions = cond x 0 (cond y (c.divisions + 1) c.divisions) }) e f in
          let p : 0 < (counted d.k (read_command b t)).constraints = omega (arith, ap (λ (z : Command). (counted d.k z).constraints) r) in
          let none : rest.divisions ≡ [] = ordered n s (c.place + width_of b) (counted d.k (read_command b t)) h.there p in
          let o : c.divisions + 0 ≡ c.divisions = omega arith in
          record {
            text =
                ap (lines_left n c) q
                ∙ ap (λ (z : List Division). concat_map (division_line n) z ++ ((constraint_line n (c.divisions + length z) x ++ concat_map (constraint_line n (c.divisions + length z)) rest.constraints) ++ basics_from n (suc c.basics) rest.rest)) none
                ∙ append_assoc (constraint_line n (c.divisions + 0) x) (concat_map (constraint_line n (c.divisions + 0)) rest.constraints) (basics_from n (suc c.basics) rest.rest)
                ∙ ap (λ (z : ℕ). constraint_line n z x ++ (concat_map (constraint_line n (c.divisions + 0)) rest.constraints ++ basics_from n (suc c.basics) rest.rest)) o
                ∙ ap (λ (z : List Division). constraint_line n c.divisions x ++ (concat_map (division_line n) z ++ (concat_map (constraint_line n (c.divisions + length z)) rest.constraints ++ basics_from n (suc c.basics) rest.rest))) (sym none)
                ∙ ap₂ (λ (x : List ℕ) (z : Cursor). x ++ lines_left n z rest) (line-constraint n c b t e f) (sym u);
            stands =
                record {
                  k = counted d.k (read_command b t);
                  here = h.there;
                  basics = ap (λ (z : Command). (counted d.k z).basics) r ∙ d.basics ∙ sym (ap (λ (z : Cursor). z.basics) u);
                  divisions = ap (λ (z : Command). (counted d.k z).divisions) r ∙ d.divisions ∙ sym (ap (λ (z : Cursor). z.divisions) u);
                  most = most-next n d.k (read_command b t) h.none d.most;
                  few = few-next n d.k (read_command b t) h.none d.few;
                };
          }

-- nothing is left at the end
pub listing-end : (n : ℕ) (s : List ℕ) (c : Cursor) → length s ≤ c.place → lines_left n c (built (drop c.place s)) ≡ []
listing-end n s c h = ap (lines_left n c) (built-end s c.place h)

-- the first line, and then those that are left from the start
module _ (n m : ℕ) (s : List ℕ) (z : number (decode n s) ≡ 0) where
  pub listing_start : listing n m (set_from s 0) ≡ header_line m (length (set_from s 0)) ++ lines_left n (start_of m) (built (drop 0 s))
  listing_start =
      let e = boundary_start n s z in
      sym (ap (λ (x : List ℕ). header_line m (length (set_from s 0)) ++ x)
      (ap₂ (λ (x : List Division) (y : List Constraint). concat_map (division_line n) x ++ (concat_map (constraint_line n (0 + length x)) y ++ basics_from n 1 (set_from s 0))) e.no_divisions e.no_constraints))

  fits : axes_fit n ≡ true
  fits = go (axes_fit n) refl
    where
      go : (b : Bool) → axes_fit n ≡ b → axes_fit n ≡ true
      go true e = e
      go false e = absurd (omega (arith, decode-bad n s e))

  pub stands-start : Stands n s (start_of m)
  stands-start = record { k = start; here = record { inside = omega arith; accepted = sym (decode-good n s fits) ∙ z }; basics = refl; divisions = refl; most = omega arith; few = omega arith }
