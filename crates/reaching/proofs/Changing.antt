-- A memory of which the first slot alone has changed. Assumes nothing.
use mathlib.Core.Path.{◌≡◌, refl, sym, ap, ◌∙◌, subst}
use mathlib.Core.List.{List, ◌++◌}
use Prim.Native.Nat.{ℕ, suc, ◌+◌, ◌-◌, ◌*◌, ◌≤◌, ◌<◌}
use native.Mathlib.Omega.{arith}
use lib.ListN.{length, set, take, drop, length-set, length-drop, length-append}
use lib.Seq.{drop-append-add, drop-drop, drop-set-lt}
use Rattle.planning.specs.State.{State}
use Rattle.simplex.specs.declared.Verdict.{Verdict}
use Rattle.simplex.specs.declared.Verdict.TheVariants.{Point, Dropped, Long, Wide}
use Rattle.simplex.specs.Answers.{verdict_of}
use Rattle.planning.specs.Desk.{Desk}
use Rattle.memory.specs.Memory.{Memory, Fits}
use Rattle.states.specs.Calls.{word_number}
use Rattle.reaching.specs.Shows.{slot_of, word_for, ShowsState, Shows}
use Rattle.reaching.proofs.Windows.{slot_is}

-- two lists that are the same from place n on
pub record SameFrom {A : Type 0} (n : ℕ) (l m : List A) : Type 0 where
  pub long : length l ≡ length m
  pub rest : (i : ℕ) → n ≤ i → drop i l ≡ drop i m

pub same-all : {A : Type 0} (n : ℕ) (l : List A) → SameFrom n l l
same-all n l = record { long = refl; rest = λ i h. refl }

pub same_set : {A : Type 0} (n : ℕ) (l m : List A) (i : ℕ) (a : A) → i < n → SameFrom n l m → SameFrom n (set l i a) m
same_set n l m i a h s = record { long = length-set l i a ∙ s.long; rest = λ j k. drop-set-lt j l i a (omega arith) ∙ s.rest j k }

pub same-front : {A : Type 0} (n j : ℕ) (p l : List A) → length p ≡ j → j ≤ n → j ≤ length l → SameFrom n (p ++ drop j l) l
same-front n j p l e h k =
    record {
      long = let a = length-append p (drop j l) in let b = length-drop j l in omega arith;
      rest = λ i b. let q : i ≡ length p + (i - j) = omega arith in let r : j + (i - j) ≡ i = omega arith in
          ap (λ x. drop x (p ++ drop j l)) q ∙ drop-append-add p (drop j l) (i - j) ∙ drop-drop (i - j) j l ∙ ap (λ x. drop x l) r;
    }

pub record Changed (y z : Memory) : Type 0 where
  pub rows : SameFrom 64 z.rows y.rows
  pub place : SameFrom 80 z.place y.place
  pub kinds : SameFrom 80 z.kinds y.kinds
  pub heads : SameFrom 5 z.heads y.heads

pub changed-fits : (y z : Memory) → Changed y z → Fits y → Fits z
changed-fits y z c f = record { rows = c.rows.long ∙ f.rows; place = c.place.long ∙ f.place; kinds = c.kinds.long ∙ f.kinds; heads = c.heads.long ∙ f.heads }

-- the marked states and the ranks are as they were
pub changed-slots : (y z : Memory) → Changed y z → (k : ℕ) → slot_of (suc k) z ≡ slot_of (suc k) y
changed-slots y z c k =
    slot_is (ap (take 64) (c.rows.rest (64 * suc k) (omega arith))) (ap (take 80) (c.place.rest (80 * suc k) (omega arith)))
    (ap (take 80) (c.kinds.rest (80 * suc k) (omega arith))) (ap (take 5) (c.heads.rest (5 * suc k) (omega arith)))

pub changed-shows : (y z : Memory) → Changed y z → (d : Desk State) → Shows d y → (s : State) → ShowsState s (slot_of 0 z) → Shows (record { now = s; marks = d.marks }) z
changed-shows y z c d h s n =
    record {
      fits = changed-fits y z c h.fits;
      now = n;
      marks = λ k u e. subst (ShowsState u) (sym (changed-slots y z c k)) (h.marks k u e);
      ranks = c.heads.rest 85 (omega arith) ∙ h.ranks;
    }

-- the code's word for the test's answer
pub word_number_lem : (v : Verdict) → word_number v ≡ word_for (verdict_of v)
word_number_lem Point = refl
word_number_lem Dropped = refl
word_number_lem Long = refl
word_number_lem Wide = refl
