-- A run as far as it has come: its memory is always fit for the next turn, and what it has printed is what the script
-- prints for what it has read.
use mathlib.Core.Path.{◌≡◌, refl, ap, sym, subst, ◌∙◌}
use mathlib.Core.Bool.{Bool, true}
use mathlib.Core.List.{List, [], ◌∷◌, ◌++◌, append_assoc, append-nil}
use Prim.Native.Nat.{ℕ, suc, ◌≤◌}
use lib.ListN.{length, drop}
use Rattle.std.proofs.Common.{None}
use Rattle.session.specs.Script.{script, run}
use Rattle.session.specs.Turns.{Memory, Turned, state_in, state_at, turn_of, usable}
use Rattle.session.specs.Session.{Reached, begins, goes, reads}
use Rattle.session.specs.declared.State.{State}
use Rattle.session.specs.declared.Next.TheVariants.{Ends, Misused}
use Rattle.session.proofs.Turning.{turn-next}
use Rattle.session.proofs.Sessions.{Fine, rest, turned}
use Rattle.session.proofs.Ending.{Kept, usable-kept, onward, fresh_kept}

-- what holds wherever a run stands; f is what is still to be read
record Stands (w : ℕ) (st : State) (y : Memory) (e : Bool) (s i o : List ℕ) : Type 0 where
  kept : Kept st.axes y st.listing
  fine : Fine st.axes y st.listing
  prints : (f : List ℕ) → (e ≡ true → f ≡ []) → script (i ++ f) ≡ o ++ rest st y (s ++ f)

start-prints : (y : Memory) → y.lengths ≡ 0 ∷ 0 ∷ 0 ∷ 0 ∷ [] → (f : List ℕ) → script f ≡ rest (state_at 0 None) y f
unfolding script
start-prints y e f = sym (ap (λ (x : List ℕ). run (suc (length f)) (state_in 0 y.tables x) f) e)

stands : (w : ℕ) → 512 ≤ w → (st : State) (y : Memory) (e : Bool) (s i o : List ℕ) → Reached w st y e s i o → Stands w st y e s i o
stands w h _ y _ _ _ _ (begins f) = record { kept = fresh_kept y f; fine = tt; prints = λ g z. start-prints y f.empty g }
stands w h _ _ _ _ _ _ (goes {st} {y} {e} {s} {i} {o} r g) =
    let k = stands w h st y e s i o r in
    let u = usable-kept w st y h k.kept k.fine in
    record {
      kept = (onward w st y e s u k.kept k.fine).kept g;
      fine = ((turned st y w e s [] u k.fine (λ z. refl)).on g).0;
      prints = λ f z. k.prints f z ∙ ap (λ (x : List ℕ). o ++ x) ((turned st y w e s f u k.fine z).on g).1 ∙ sym (append_assoc o (turn_of st y w e s).text _);
    }
stands w h _ _ _ _ _ _ (reads {st} {y} {e} {s} {i} {o} r g p e' q) =
    let k = stands w h st y e s i o r in
    let u = usable-kept w st y h k.kept k.fine in
    let a = (turned st y w e s [] u k.fine (λ z. refl)).waits g in
    subst (λ (t : Turned). Stands w t.state t.memory e' (drop t.used s ++ p) (i ++ p) (o ++ t.text)) (sym a) (
    record {
      kept = k.kept;
      fine = k.fine;
      prints = λ f z.
          ap script (append_assoc i p f) ∙ k.prints (p ++ f) (λ d. absurd ((turn-next st y w e s u).1 d g))
          ∙ ap (λ (x : List ℕ). o ++ rest st y x) (sym (append_assoc s p f)) ∙ ap (λ (x : List ℕ). x ++ rest st y ((s ++ p) ++ f)) (sym (append-nil o));
    }
    )

module _ {w : ℕ} {st : State} {y : Memory} {e : Bool} {s i o : List ℕ} (h : 512 ≤ w) (r : Reached w st y e s i o) where
  -- the memory and the state are what the next turn asks for
  pub reached-usable : usable st y w ≡ true
  reached-usable = let k = stands w h st y e s i o r in usable-kept w st y h k.kept k.fine

  -- so no turn finds memory that no turn leaves
  pub never-misused : ¬ ((turn_of st y w e s).next ≡ Misused)
  never-misused = (turn-next st y w e s reached-usable).0

  -- Where a turn ends the script, all that was printed, with its text, is what the script prints for what was read,
  -- whatever comes behind it.
  pub ended-prints : (turn_of st y w e s).next ≡ Ends → (f : List ℕ) → (e ≡ true → f ≡ []) → o ++ (turn_of st y w e s).text ≡ script (i ++ f)
  ended-prints g f z =
      let k = stands w h st y e s i o r in
      sym (k.prints f z ∙ ap (λ (x : List ℕ). o ++ x) ((turned st y w e s f reached-usable k.fine z).last g))
