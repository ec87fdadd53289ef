-- Checked bytes, command by command: what is known at a place, and what it builds.
use mathlib.Core.Path.{◌≡◌, refl, sym, ap, ap₂, ◌∙◌, subst}
use mathlib.Core.Bool.{Bool, true, false}
use mathlib.Core.List.{List, [], ◌∷◌}
use Prim.Native.Nat.{ℕ, zero, suc, ◌+◌, ◌-◌, ◌≤◌, ◌<◌}
use native.Mathlib.Numerals.{add-one}
use native.Mathlib.Omega.{arith}
use lib.Dec.{T, ltb, leb, ltb→lt, leb→le}
use lib.ListN.{length, drop, get_or, drop_of_length-le, length-drop, get_or-eq_default}
use lib.Seq.{drop-cons, drop-drop}
use borrow.Author.Tests.{ltb-true, ltb-false}
use Rattle.codec.specs.Bytes.{gives, Command, opens, misnumbered, division, constraint, Counts, refusal, counted, width_of, read_command, head_refusal, Built, build, parse, number}
use Rattle.codec.specs.Places.{commands_of, built, Checked}
use Rattle.codec.proofs.Parsing.{parse-next, number-after}
use Rattle.codec.proofs.Split.{unless, refusal_of, parse-split, commands-fuel}
use Rattle.codec.proofs.Decoded.{Parsed, done, next, parsed, Unrefused, unrefused, formed}

-- ---- what the bytes build, command by command
abbrev pub added : Command → Built → Built
added opens b = record { divisions = []; constraints = []; rest = record { divisions = b.divisions; constraints = b.constraints } ∷ b.rest }
added misnumbered b = b
added (division e) b = record { divisions = e ∷ b.divisions; constraints = b.constraints; rest = b.rest }
added (constraint r) b = record { divisions = b.divisions; constraints = r ∷ b.constraints; rest = b.rest }

build-added : (c : Command) (cs : List Command) → build (c ∷ cs) ≡ added c (build cs)
build-added opens cs = refl
build-added misnumbered cs = refl
build-added (division e) cs = refl
build-added (constraint r) cs = refl

pub built-none : built [] ≡ record { divisions = []; constraints = []; rest = [] }
unfolding built commands_of
built-none = refl

pub built-more : (b : ℕ) (s : List ℕ) → built (b ∷ s) ≡ added (read_command b s) (built (drop (width_of b - 1) s))
unfolding built commands_of
built-more b s =
    let l : List ℕ = drop (width_of b - 1) s in
    build-added (read_command b s) (commands_of (length s) l)
    ∙ ap (λ (cs : List Command). added (read_command b s) (build cs)) (commands-fuel (length s) (length l) l (omega (arith, length-drop (width_of b - 1) s)) (omega arith))

-- ---- accepted bytes are parsed, and the other way round
number-unless : {A : Type 0} (m : ℕ) (a : A) → number (unless m a) ≡ 0 → unless m a ≡ gives a
number-unless zero a e = refl
number-unless (suc m) a e = absurd (omega arith)

pub accepted-parsed : (n : ℕ) (k : Counts) (s : List ℕ) → number (parse n (length s) k s) ≡ 0 → Parsed n k s (commands_of (length s) s)
accepted-parsed n k s e =
    let m : ℕ = refusal_of n (length s) k s in
    let p = parse-split n (length s) k s in
    parsed n (length s) k s (commands_of (length s) s) (omega arith) (p ∙ number-unless m (commands_of (length s) s) (ap number (sym p) ∙ e))

head-none : (n : ℕ) (k : Counts) (b : ℕ) (s : List ℕ) → T (ltb 0 (width_of b)) → T (leb (width_of b) (suc (length s))) → refusal n k (read_command b s) ≡ 0 → head_refusal n k b s ≡ 0
unfolding head_refusal
head-none n k b s w l z = let x = Rattle.model.proofs.Count.from-T (ltb 0 (width_of b)) w in let y = Rattle.model.proofs.Count.from-T (leb (width_of b) (suc (length s))) l in simp (x, y, z)

pub parsed-accepted : (n f : ℕ) (k : Counts) (s : List ℕ) (cs : List Command) → length s ≤ f → Parsed n k s cs → number (parse n f k s) ≡ 0
unfolding parse
parsed-accepted n zero k [] (_ ∷ cs) h x7 = elim x7 [ ]
parsed-accepted n zero k (_ ∷ _) [] h _ = elim h [ ]
parsed-accepted n (suc f) k [] (_ ∷ cs) h x6 = elim x6 [ ]
parsed-accepted n (suc f) k (_ ∷ _) [] h x8 = elim x8 [ ]
parsed-accepted n zero k [] [] h done = refl
parsed-accepted n (suc f) k [] [] h done = refl
parsed-accepted n zero k (_ ∷ _) (_ ∷ cs) h (next b s w l z q) = absurd (omega arith)
parsed-accepted n (suc f) k (_ ∷ _) (_ ∷ cs) h (next b s w l z q) =
    ap number (parse-next n f k b s (head-none n k b s w l z))
    ∙ number-after (read_command b s) (parse n f (counted k (read_command b s)) (drop (width_of b - 1) s))
    ∙ parsed-accepted n f (counted k (read_command b s)) (drop (width_of b - 1) s) cs (omega (arith, length-drop (width_of b - 1) s)) q

pub checked-unrefused : (n : ℕ) (s : List ℕ) (at : ℕ) (k : Counts) → Checked n s at k → Unrefused n k (commands_of (length (drop at s)) (drop at s))
checked-unrefused n s at k c = unrefused n k (drop at s) (commands_of (length (drop at s)) (drop at s)) (accepted-parsed n k (drop at s) c.accepted)

-- no division comes after a constraint
pub ordered : (n : ℕ) (s : List ℕ) (at : ℕ) (k : Counts) → Checked n s at k → 0 < k.constraints → (built (drop at s)).divisions ≡ []
unfolding built
ordered n s at k c h = (formed n k (commands_of (length (drop at s)) (drop at s)) (checked-unrefused n s at k c)).ordered h

-- ---- the command at a place
pub record Head (n : ℕ) (s : List ℕ) (at : ℕ) (k : Counts) (w : ℕ) : Type 0 where
  pub wide : 0 < w
  pub none : refusal n k (read_command (get_or s at 0) (drop (at + 1) s)) ≡ 0
  pub there : Checked n s (at + w) (counted k (read_command (get_or s at 0) (drop (at + 1) s)))
  pub builds : built (drop at s) ≡ added (read_command (get_or s at 0) (drop (at + 1) s)) (built (drop (at + w) s))

module _ (n : ℕ) (s : List ℕ) (at : ℕ) (k : Counts) (w : ℕ) where
  pub head : Checked n s at k → at < length s → width_of (get_or s at 0) ≡ w → Head n s at k w
  head c l e = go (drop at s) (commands_of (length (drop at s)) (drop at s)) refl (accepted-parsed n k (drop at s) c.accepted)
    where
      split : drop at s ≡ get_or s at 0 ∷ drop (at + 1) s
      split = rw (add-one, drop-cons s at 0 l)

      over : 0 < width_of (get_or s at 0) → drop (width_of (get_or s at 0) - 1) (drop (at + 1) s) ≡ drop (at + w) s
      over h = let i : at + 1 + (width_of (get_or s at 0) - 1) ≡ at + w = omega arith in drop-drop (width_of (get_or s at 0) - 1) (at + 1) s ∙ ap (λ (j : ℕ). drop j s) i

      made : (b : ℕ) (t : List ℕ) (cs : List Command) → get_or s at 0 ≡ b → drop (at + 1) s ≡ t → T (ltb 0 (width_of b)) → T (leb (width_of b) (suc (length t))) → refusal n k (read_command b t) ≡ 0
          → Parsed n (counted k (read_command b t)) (drop (width_of b - 1) t) cs → Head n s at k w
      made b t cs p q x y z r =
          let h = ltb→lt 0 (width_of b) x in let g = leb→le (width_of b) (suc (length t)) y in
          let pw : width_of (get_or s at 0) ≡ width_of b = ap width_of p in
          let c' : read_command (get_or s at 0) (drop (at + 1) s) ≡ read_command b t = ap₂ read_command p q in
          let d : drop (width_of b - 1) t ≡ drop (at + w) s = ap₂ (λ (m : ℕ) (u : List ℕ). drop (m - 1) u) (sym pw) (sym q) ∙ over (omega arith) in
          let u : length t ≡ length s - (at + 1) = ap length (sym q) ∙ length-drop (at + 1) s in
          record {
            wide = omega arith;
            none = ap (refusal n k) c' ∙ z;
            there =
                subst (λ (v : Command). Checked n s (at + w) (counted k v)) (sym c')
                (record { inside = omega arith; accepted = parsed-accepted n (length (drop (at + w) s)) (counted k (read_command b t)) (drop (at + w) s) cs (omega arith) (subst (λ (v : List ℕ). Parsed n (counted k (read_command b t)) v cs) d r) });
            builds = ap built split ∙ built-more (get_or s at 0) (drop (at + 1) s) ∙ ap (λ (v : List ℕ). added (read_command (get_or s at 0) (drop (at + 1) s)) (built v)) (over (omega arith));
          }

      go : (l : List ℕ) (cs : List Command) → drop at s ≡ l → Parsed n k l cs → Head n s at k w
      go [] [] q done = absurd (omega (arith, length-drop at s, ap length q))
      go [] (_ ∷ cs) q h = elim h [ ]
      go (_ ∷ _) [] q h = elim h [ ]
      go (_ ∷ _) (_ ∷ cs) q (next b t x y z r) =
          let f : get_or s at 0 ∷ drop (at + 1) s ≡ b ∷ t = sym split ∙ q in
          made b t cs (cc) (cc) x y z r

-- a byte that is not 0 is inside
pub inside_of : (s : List ℕ) (at b : ℕ) → get_or s at 0 ≡ b → 0 < b → at < length s
inside_of s at b e h = go (ltb at (length s)) refl
  where
    go : (x : Bool) → ltb at (length s) ≡ x → at < length s
    go true q = ltb-true at (length s) q
    go false q = let l = ltb-false at (length s) q in let z = get_or-eq_default s 0 l in absurd (omega arith)

-- past the end nothing is built
pub built-end : (s : List ℕ) (at : ℕ) → length s ≤ at → built (drop at s) ≡ record { divisions = []; constraints = []; rest = [] }
built-end s at h = ap built (drop_of_length-le s h) ∙ built-none
