-- Another shape of the definition: the refusal and the commands apart. `decode` is the two together.
use mathlib.Core.Path.{◌≡◌, refl, sym, ap, ◌∙◌}
use mathlib.Core.Bool.{cond}
use mathlib.Core.List.{List, [], ◌∷◌}
use Prim.Native.Nat.{ℕ, zero, suc, ◌-◌, ◌≤◌}
use native.Mathlib.Omega.{arith}
use lib.ListN.{length, drop, length-drop}
use Rattle.model.specs.Sets.{Set}
use Rattle.codec.specs.Bytes.{Answer, refused, gives, Command, Counts, counted, width_of, read_command, head_refusal, build, after, parse, set_of, axes_fit, decode}
use Rattle.codec.specs.Places.{commands_of}
use Rattle.codec.proofs.Parsing.{start, parse-next, parse-stop}

-- the number of the first command that is refused, 0 for none
unfoldable pub refusal_of : ℕ → ℕ → Counts → List ℕ → ℕ
refusal_of n zero k s = 0
refusal_of n (suc f) k [] = 0
refusal_of n (suc f) k (b ∷ s) =
    elim (head_refusal n k b s) [
      | zero ↦ refusal_of n f (counted k (read_command b s)) (drop (width_of b - 1) s)
      | suc m ↦ suc m
    ]

-- 0 gives the result, another number refuses
abbrev pub unless : {A : Type 0} → ℕ → A → Answer A
unless zero a = gives a
unless (suc m) a = refused (suc m)

unfoldable pub decode' : ℕ → List ℕ → Answer Set
decode' n s = cond (axes_fit n) (unless (refusal_of n (length s) start s) (build (commands_of (length s) s)).rest) (refused 1)

-- ---- the two are one
after-unless : (c : Command) (m : ℕ) (cs : List Command) → after c (unless m cs) ≡ unless m (c ∷ cs)
after-unless c zero cs = refl
after-unless c (suc m) cs = refl

set-unless : (m : ℕ) (cs : List Command) → set_of (unless m cs) ≡ unless m (build cs).rest
set-unless zero cs = refl
set-unless (suc m) cs = refl

refusal-next : (n f : ℕ) (k : Counts) (b : ℕ) (s : List ℕ) → head_refusal n k b s ≡ 0 → refusal_of n (suc f) k (b ∷ s) ≡ refusal_of n f (counted k (read_command b s)) (drop (width_of b - 1) s)
unfolding refusal_of
refusal-next n f k b s e = rw (e, refusal_of)

refusal-stop : (n f : ℕ) (k : Counts) (b : ℕ) (s : List ℕ) (m : ℕ) → head_refusal n k b s ≡ suc m → refusal_of n (suc f) k (b ∷ s) ≡ suc m
unfolding refusal_of
refusal-stop n f k b s m e = rw (e, refusal_of)

pub parse-split : (n f : ℕ) (k : Counts) (s : List ℕ) → parse n f k s ≡ unless (refusal_of n f k s) (commands_of f s)
unfolding parse refusal_of commands_of
parse-split n zero k s = refl
parse-split n (suc f) k [] = refl
parse-split n (suc f) k (b ∷ s) = at (head_refusal n k b s) refl (parse-split n f (counted k (read_command b s)) (drop (width_of b - 1) s))
  where
    at : (m : ℕ) → head_refusal n k b s ≡ m
        → parse n f (counted k (read_command b s)) (drop (width_of b - 1) s) ≡ unless (refusal_of n f (counted k (read_command b s)) (drop (width_of b - 1) s)) (commands_of f (drop (width_of b - 1) s))
        → parse n (suc f) k (b ∷ s) ≡ unless (refusal_of n (suc f) k (b ∷ s)) (commands_of (suc f) (b ∷ s))
    at zero e ih =
        parse-next n f k b s e ∙ ap (after (read_command b s)) ih ∙ after-unless (read_command b s) (refusal_of n f (counted k (read_command b s)) (drop (width_of b - 1) s)) (commands_of f (drop (width_of b - 1) s))
        ∙ ap (λ (m : ℕ). unless m (commands_of (suc f) (b ∷ s))) (sym (refusal-next n f k b s e))
    at (suc m) e ih = parse-stop n f k b s m e ∙ ap (λ (r : ℕ). unless r (commands_of (suc f) (b ∷ s))) (sym (refusal-stop n f k b s m e))

pub decode-split : (n : ℕ) (s : List ℕ) → decode n s ≡ decode' n s
unfolding decode decode'
decode-split n s = ap (λ (a : Answer Set). cond (axes_fit n) a (refused 1)) (ap set_of (parse-split n (length s) start s) ∙ set-unless (refusal_of n (length s) start s) (commands_of (length s) s))

-- ---- the commands do not depend on the fuel, nor on n and the counts
pub commands-fuel : (f g : ℕ) (s : List ℕ) → length s ≤ f → length s ≤ g → commands_of f s ≡ commands_of g s
unfolding commands_of
commands-fuel zero zero [] h k = refl
commands-fuel zero (suc g) [] h k = refl
commands-fuel (suc f) zero [] h k = refl
commands-fuel (suc f) (suc g) [] h k = refl
commands-fuel zero g (b ∷ s) h k = absurd (omega arith)
commands-fuel (suc f) zero (b ∷ s) h k = absurd (omega arith)
commands-fuel (suc f) (suc g) (b ∷ s) h k =
    ap (λ (l : List Command). read_command b s ∷ l) (commands-fuel f g (drop (width_of b - 1) s) (omega (arith, length-drop (width_of b - 1) s)) (omega (arith, length-drop (width_of b - 1) s)))

given : (m : ℕ) (cs ds : List Command) → unless m cs ≡ gives ds → ds ≡ cs
given zero cs ds e = cc
given (suc m) cs ds e = let z : ◌≡◌ {A = ℕ} 0 1 = cc in absurd (omega arith)
