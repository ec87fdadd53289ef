-- From place to place of bytes that are accepted by the way: what one command that is not refused adds.
use mathlib.Core.Path.{◌≡◌, refl, sym, ap, ap₂, ◌∙◌, subst}
use mathlib.Core.Bool.{Bool, true}
use mathlib.Core.List.{List, ◌∷◌}
use Prim.Native.Nat.{ℕ, suc, ◌+◌, ◌-◌, ◌≤◌, ◌<◌}
use native.Mathlib.Numerals.{add-one}
use native.Mathlib.Nat.{le_refl}
use native.Mathlib.Omega.{arith}
use borrow.Author.Tests.{lt-ltb}
use lib.Dec.{T, leb, lt→ltb, le→leb}
use lib.IntN.{ℤ}
use lib.ListN.{length, drop, get_or, drop_of_length-le, length-drop}
use lib.Seq.{drop-cons, drop-drop}
use Rattle.std.specs.Prelude.{Some}
use Rattle.model.specs.Lists.{all}
use Rattle.model.specs.Sets.{absent}
use Rattle.codec.specs.Bytes.{signed_list, coefficient, constant_fits, Command, opens, misnumbered, division, constraint, is_division, body_of, constant_in, Counts, refusal, counted, width_of, kind_of, read_command, Built, parse, number}
use Rattle.codec.specs.Places.{commands_of, built, set_from, body_at, division_at, constraint_at, Checked, opened}
use Rattle.codec.specs.Accepting.{Over, Upto, InRange, DivisionThere, ConstraintThere, Leads, in_basic, Under, DivisionsTo, Joined, Further, ConstraintsTo, Ends, Accepts}
use Rattle.codec.specs.declared.accepting.ConstraintRun.{ConstraintRun}
use Rattle.codec.proofs.Parsing.{start, both, pos-ltb, body-behind, body-drop, constraint-code, width-constraint, read-opens, read-division, read-constraint, parse-nil, axes-in, decode-good}
use Rattle.codec.proofs.Decoded.{Parsed, next}
use Rattle.codec.proofs.Walking.{added, built-more, built-end, accepted-parsed, parsed-accepted}
use Rattle.codec.proofs.Ranges.{coefficients-in, absents-in, under_more, range-more}

-- ---- from place to place
module _ (n : ℕ) (s : List ℕ) where
  pub leads-none : (at : ℕ) (k : Counts) → Leads n s at k at k
  leads-none at k = record { accepts = λ c. c; counts = refl }

  pub leads-then : (a b c : ℕ) (i j k : Counts) → Leads n s a i b j → Leads n s b j c k → Leads n s a i c k
  leads-then a b c i j k x y = record { accepts = λ q. x.accepts (y.accepts q); counts = x.counts ∙ y.counts }

  -- ---- one command
  added-length : (k : Counts) (c : Command) (x : Built) → k.basics + length (added c x).rest ≡ (counted k c).basics + length x.rest
  added-length k opens x = omega arith
  added-length k misnumbered x = refl
  added-length k (division e) x = refl
  added-length k (constraint r) x = refl

  module _ (at w : ℕ) (k : Counts) (c : Command) (e : read_command (get_or s at 0) (drop (at + 1) s) ≡ c) (q : width_of (get_or s at 0) ≡ w) (h : 0 < w) (l : at + w ≤ length s) (z : refusal n k c ≡ 0) where
    split : drop at s ≡ get_or s at 0 ∷ drop (at + 1) s
    split = let b : at < length s = omega arith in rw (add-one, drop-cons s at 0 b)

    over : drop (width_of (get_or s at 0) - 1) (drop (at + 1) s) ≡ drop (at + w) s
    over = let i : at + 1 + (width_of (get_or s at 0) - 1) ≡ at + w = omega arith in drop-drop (width_of (get_or s at 0) - 1) (at + 1) s ∙ ap (λ (j : ℕ). drop j s) i

    behind : Checked n s (at + w) (counted k c) → Parsed n (counted k (read_command (get_or s at 0) (drop (at + 1) s))) (drop (width_of (get_or s at 0) - 1) (drop (at + 1) s)) (commands_of (length (drop (at + w) s)) (drop (at + w) s))
    behind x =
        subst (λ (d : Command). Parsed n (counted k d) (drop (width_of (get_or s at 0) - 1) (drop (at + 1) s)) (commands_of (length (drop (at + w) s)) (drop (at + w) s))) (sym e)
        (subst (λ (t : List ℕ). Parsed n (counted k c) t (commands_of (length (drop (at + w) s)) (drop (at + w) s))) (sym over) (accepted-parsed n (counted k c) (drop (at + w) s) x.accepted))

    whole : T (leb (width_of (get_or s at 0)) (suc (length (drop (at + 1) s))))
    whole = le→leb (width_of (get_or s at 0)) (suc (length (drop (at + 1) s))) (omega (arith, length-drop (at + 1) s))

    pub leads-next : Leads n s at k (at + w) (counted k c)
    leads-next =
        record {
          accepts = λ x. record {
            inside = omega arith;
            accepted =
                ap (λ (t : List ℕ). number (parse n (length t) k t)) split
                ∙ parsed-accepted n (length (get_or s at 0 ∷ drop (at + 1) s)) k (get_or s at 0 ∷ drop (at + 1) s) (read_command (get_or s at 0) (drop (at + 1) s) ∷ commands_of (length (drop (at + w) s)) (drop (at + w) s)) (le_refl _)
                (next (get_or s at 0) (drop (at + 1) s) (lt→ltb 0 (width_of (get_or s at 0)) (omega arith)) whole (ap (refusal n k) e ∙ z) (behind x));
          };
          counts =
              ap (λ (x : Built). k.basics + length x.rest) (ap built split ∙ built-more (get_or s at 0) (drop (at + 1) s) ∙ ap₂ (λ (d : Command) (t : List ℕ). added d (built t)) e over)
              ∙ added-length k c (built (drop (at + w) s));
        }

  -- ---- each command
  pub leads-opens : (at : ℕ) (k : Counts) → at < length s → get_or s at 0 ≡ 0x11 → k.basics < 32 → Leads n s at k (at + 1) (opened (k.basics + 1))
  leads-opens at k l e f = let x = lt-ltb k.basics 32 f in leads-next at 1 k opens (read-opens (get_or s at 0) (drop (at + 1) s) e) (ap width_of e) (omega arith) (omega arith) (rw x)

  -- the eight coefficients at a place inside a body
  inner : (f : List ℤ → Bool) (at p q : ℕ) → at + body_of (get_or s at 0) + p ≡ q → f (signed_list 8 (drop q s)) ≡ true → f (signed_list 8 (drop p (body_at s at))) ≡ true
  inner f at p q e x =
      let o = body-behind (get_or s at 0) in
      let i : at + 1 + (body_of (get_or s at 0) - 1) + p ≡ q = omega arith in
      ap (λ (t : List ℕ). f (signed_list 8 t)) (ap (drop p) (drop-drop (body_of (get_or s at 0) - 1) (at + 1) s) ∙ drop-drop p (at + 1 + (body_of (get_or s at 0) - 1)) s ∙ ap (λ (j : ℕ). drop j s) i) ∙ x

  module _ (at b d : ℕ) (m : n ≤ 8) (g : 0 < b) (low high : List ℤ) (r : InRange n low high) where
    pub leads-division : DivisionThere s at → d < 8 → Over low s (at + 7) → Upto high s (at + 7) → Leads n s at (in_basic b d 0) (at + 23) (in_basic b (d + 1) 0)
    leads-division v f o u =
        let i : body_of (get_or s at 0) ≡ 3 = ap body_of v.command in
        let x₁ = pos-ltb b (λ y. omega arith) in
        let x₂ = lt-ltb d 8 f in
        let x₃ = v.divisor in
        let x₄ = both v.constant (inner (all coefficient) at 4 (at + 7) (omega arith) (coefficients-in n (at + 7) s low high m r o u)) in
        let x₅ = inner (absent n) at 4 (at + 7) (omega arith) (absents-in n (at + 7) s low high m r o u) in
        leads-next at 23 (in_basic b d 0) (division (division_at s at)) (read-division (get_or s at 0) (drop (at + 1) s) (ap is_division v.command)) (ap width_of v.command) (omega arith) v.inside (simp (x₁, x₂, x₃, x₄, x₅))

    pub leads-constraint : (c p : ℕ) (below above : List ℤ) → d ≤ 8 → InRange d below above → ConstraintThere s at p → c < 48 → Over low s (p + 4) → Upto high s (p + 4) → Over below s (p + 20) → Upto above s (p + 20)
        → Leads n s at (in_basic b d c) (p + 36) (in_basic b d (c + 1))
    leads-constraint c p below above w a v f o u x y =
        let i = constraint-code (get_or s at 0) v.command in
        let q = v.body in
        let l = v.inside in
        let x₁ = pos-ltb b (λ z. omega arith) in
        let x₂ = lt-ltb c 48 f in
        let x₃ = both constant (both (inner (all coefficient) at 4 (p + 4) (omega arith) (coefficients-in n (p + 4) s low high m r o u)) (inner (all coefficient) at 20 (p + 20) (omega arith) (coefficients-in d (p + 20) s below above w a x y))) in
        let x₄ = both (inner (absent n) at 4 (p + 4) (omega arith) (absents-in n (p + 4) s low high m r o u)) (inner (absent d) at 20 (p + 20) (omega arith) (absents-in d (p + 20) s below above w a x y)) in
        let end : at + (body_of (get_or s at 0) + 36) ≡ p + 36 = omega arith in
        subst (λ (e : ℕ). Leads n s at (in_basic b d c) e (in_basic b d (c + 1))) end
        (leads-next at (body_of (get_or s at 0) + 36) (in_basic b d c) (constraint (constraint_at s at)) (read-constraint (get_or s at 0) (drop (at + 1) s) i.not_opens i.not_division v.named)
        (width-constraint (get_or s at 0) i.not_opens i.not_division v.command) (omega arith) (omega arith) (simp (x₁, x₂, x₃, x₄)))
      where
        constant : constant_fits (kind_of (get_or s at 0)) (constant_in (body_at s at)) ≡ true
        constant = ap (λ (t : List ℕ). constant_fits (kind_of (get_or s at 0)) (constant_in t)) (sym (ap (λ (j : ℕ). drop j s) v.body ∙ body-drop (get_or s at 0) s at)) ∙ v.constant

-- ---- a run of divisions, and of constraints
module _ (s : List ℕ) (start : ℕ) where
  module _ (at : ℕ) (low high low' high' : List ℤ) (u : Under low' low) (v : Under high high') where
    pub divisions-next : (count : ℕ) → DivisionsTo s start at count low high → DivisionThere s at → Over low' s (at + 7) → Upto high' s (at + 7) → DivisionsTo s start (at + 23) (count + 1) low' high'
    divisions-next count x y o p =
        let q = x.place in
        record {
          place = omega arith;
          inside = y.inside;
          leads = λ n b m g f r.
              leads-then n s start at (at + 23) (opened b) (in_basic b count 0) (in_basic b (count + 1) 0)
              (x.leads n b m g (omega arith) (range-more n low high low' high' r u v))
              (leads-division n s at b count m g low' high' r y (omega arith) o p);
        }

module _ (s : List ℕ) where
  pub further_then : (a b c : ConstraintRun) → Further s a b → Further s b c → Further s a c
  further_then a b c x y =
      let i = x.past in let j = y.past in let p = x.counted in let q = y.counted in let u = x.more in let v = y.more in
      record {
        inside = y.inside;
        past = omega arith;
        counted = omega arith;
        more = omega arith;
        low = under_more c.axes.low b.axes.low a.axes.low y.low x.low;
        high = under_more a.axes.high b.axes.high c.axes.high x.high y.high;
        below = under_more c.divisions.low b.divisions.low a.divisions.low y.below x.below;
        above = under_more a.divisions.high b.divisions.high c.divisions.high x.above y.above;
        leads = λ n d e m k g f r t.
            leads-then n s a.at b.at c.at (in_basic e d a.count) (in_basic e d b.count) (in_basic e d c.count)
            (x.leads n d e m k g (omega arith) (range-more n b.axes.low b.axes.high c.axes.low c.axes.high r y.low y.high) (range-more d b.divisions.low b.divisions.high c.divisions.low c.divisions.high t y.below y.above))
            (y.leads n d e m k g f r t);
      }

  -- one more
  pub further-next : (c r : ConstraintRun) (p : ℕ) → ConstraintThere s c.at p → Joined s c p r → Further s c r
  further-next c r p t j =
      let e = t.body in let l = t.inside in let i = j.at in let k = j.count in let o = body-behind (get_or s c.at 0) in
      record {
        inside = omega arith;
        past = omega arith;
        counted = omega arith;
        more = omega arith;
        low = j.low.0;
        high = j.high.0;
        below = j.below.0;
        above = j.above.0;
        leads = λ n d b m q g f u a.
            subst (λ (x : ℕ). Leads n s c.at (in_basic b d c.count) r.at (in_basic b d x)) (sym j.count)
            (subst (λ (x : ℕ). Leads n s c.at (in_basic b d c.count) x (in_basic b d (c.count + 1))) (sym j.at)
            (leads-constraint n s c.at b d m g r.axes.low r.axes.high u c.count p r.divisions.low r.divisions.high q a t (omega arith) j.low.1 j.high.1 j.below.1 j.above.1));
      }

-- a basic set: its divisions, and then its constraints
pub ends_of : (n : ℕ) (s : List ℕ) (start p d : ℕ) (low high : List ℤ) (c : ConstraintRun) → n ≤ 8 → DivisionsTo s start p d low high → d ≤ 8
    → ConstraintsTo s p low high c → c.count ≤ 48 → InRange n c.axes.low c.axes.high → InRange d c.divisions.low c.divisions.high → Ends n s start c.at
ends_of n s start p d low high c m x f y g r a =
    let i = x.place in let e = y.at in let o = y.run.past in let z = y.run.counted in
    record {
      divisions = d;
      constraints = c.count;
      past = omega arith;
      inside = y.run.inside;
      leads = λ b k.
          leads-then n s start p c.at (opened b) (in_basic b d 0) (in_basic b d c.count)
          (x.leads n b m k f (range-more n low high c.axes.low c.axes.high r
          (subst (Under c.axes.low) y.low y.run.low) (subst (λ (l : List ℤ). Under l c.axes.high) y.high y.run.high)))
          (subst (λ (j : ℕ). Leads n s p (in_basic b d j) c.at (in_basic b d c.count)) y.count
          (subst (λ (j : ℕ). Leads n s j (in_basic b d y.none.count) c.at (in_basic b d c.count)) y.at (y.run.leads n d b m f k g r a)));
    }

-- ---- the whole set: at a place after so many basic sets
pub record Walked (n : ℕ) (s : List ℕ) (at basics : ℕ) : Type 0 where
  pub k : Counts
  pub is : k.basics ≡ basics
  pub inside : at ≤ length s
  pub few : basics ≤ 32
  pub leads : Leads n s 0 start at k

pub walked_start : (n : ℕ) (s : List ℕ) → Walked n s 0 0
walked_start n s = record { k = start; is = refl; inside = omega arith; few = omega arith; leads = leads-none n s 0 start }

pub walked_next : (n : ℕ) (s : List ℕ) (at basics end : ℕ) → Walked n s at basics → at < length s → get_or s at 0 ≡ 0x11 → basics < 32 → Ends n s (at + 1) end → Walked n s end (basics + 1)
walked_next n s at basics end w l e f x =
    let q = w.is in
    let k : ℕ = w.k.basics + 1 in
    record {
      k = in_basic k x.divisions x.constraints;
      is = omega arith;
      inside = x.inside;
      few = omega arith;
      leads =
          leads-then n s 0 at end start w.k (in_basic k x.divisions x.constraints) w.leads
          (leads-then n s at (at + 1) end w.k (opened k) (in_basic k x.divisions x.constraints) (leads-opens n s at w.k l e (omega arith)) (x.leads k (omega arith)));
    }

-- at the end
module _ (n : ℕ) (s : List ℕ) (at basics : ℕ) (w : Walked n s at basics) (h : length s ≤ at) where
  ended : Checked n s at w.k
  ended = record { inside = w.inside; accepted = ap (λ (t : List ℕ). number (parse n (length t) w.k t)) (drop_of_length-le s h) ∙ ap number (parse-nil n 0 w.k) }

  pub walked_all : (n ≡ 0 → ⊥) → n ≤ 8 → Accepts n s (Some basics)
  walked_all p q =
      record {
        none = decode-good n s (axes-in n p q) ∙ (w.leads.accepts ended).accepted;
        basics = let e = w.leads.counts in let f : length (set_from s at) ≡ 0 = ap (λ (b : Built). length b.rest) (built-end s at h) in let g = w.is in omega arith;
      }
