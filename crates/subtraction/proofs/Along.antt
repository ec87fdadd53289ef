-- A loop over the basic sets of checked bytes, each of which gives basic sets of the result.
use mathlib.Core.Path.{◌≡◌, refl, sym, ap, ◌∙◌, subst}
use mathlib.Core.Bool.{Bool, true, false}
use mathlib.Core.List.{List, [], ◌∷◌, append-nil}
use Prim.Native.Nat.{ℕ, ◌+◌, ◌≤◌, ◌<◌}
use native.Mathlib.Omega.{arith}
use lib.IntN.{ℤ}
use lib.ListN.{length}
use Rattle.model.specs.Lists.{all, concat_map, All}
use Rattle.model.specs.Sets.{BasicSet, Set}
use Rattle.model.specs.Values.{basic_set_of}
use Rattle.model.proofs.Count.{and-true}
use Rattle.model.specs.declared.BasicSet.{BasicSet as Stored}
use Rattle.codec.specs.Bytes.{decode, number}
use Rattle.codec.specs.Places.{set_from, Boundary, Opened, Decoded, end_of}
use Rattle.codec.proofs.Boundaries.{Turn, turn, boundary_start, boundary_end, boundary-opened}
use Rattle.codec.proofs.Decoded.{Bytes}
use Rattle.codec.specs.Valid.{Valid}
use Rattle.codec.proofs.Valid.{boundary-valid}
use Rattle.algebra.specs.Cut.{keeps, cut_all, cut_all_fits, difference, difference_fits}
use Rattle.candidates.specs.Candidates.{Tables}
use Rattle.candidates.proofs.Catching.{tables-kept}
use Rattle.results.specs.declared.results.Done.{Done}
use Rattle.results.specs.Results.{Ready, Emits, Made}
use Rattle.subtraction.specs.Subtraction.{Level}
use Rattle.results.proofs.Chained.{made_of}
use Rattle.subtraction.proofs.Onward.{emits-as, Onward, onward-start, onward-end, onward-next, onward-stop}

-- the basic sets of a up to a place are done: f of each, unless g of it is false; K is known of the number of axes
pub record Along (K : ℕ → Type 0) (f : BasicSet → Set) (g : BasicSet → Bool) (a o : List ℕ) (s : Done) (rows : List (List ℤ)) (place kinds o' : List ℕ) (t : Done) (pos : ℕ) : Type 0 where
  pub n : ℕ
  pub known : K n
  pub here : Boundary n a pos
  pub tables : Tables rows place kinds
  pub same : length o' ≡ length o
  pub onward : Onward f g (set_from a 0) (set_from a pos) o s o' t

module _ {K : ℕ → Type 0} {f : BasicSet → Set} {g : BasicSet → Bool} {a o : List ℕ} {s : Done} where
  pub along-start : {n : ℕ} {rows : List (List ℤ)} {place kinds : List ℕ} → K n → Boundary n a 0 → Tables rows place kinds → Ready s → Along K f g a o s rows place kinds o s 0
  along-start {n = n} k b t r = record { n = n; known = k; here = b; tables = t; same = refl; onward = onward-start r }

  module _ {rows : List (List ℤ)} {place kinds o' : List ℕ} {t : Done} {pos : ℕ} (x : Along K f g a o s rows place kinds o' t pos) where
    pub along-end : length a ≤ pos → Emits (concat_map f (set_from a 0)) (all g (set_from a 0)) o s t o'
    along-end h = onward-end (boundary_end a pos h) x.onward

    module _ (h : pos < length a) where
      pub along-opened : Opened a (pos + 1)
      along-opened = boundary-opened x.n a pos x.here h

      module _ {v : Stored} (d : Decoded a (pos + 1) v) where
        along-turn : Turn x.n a pos v
        along-turn = turn x.n a pos x.here h v d

        pub along-valid : Bytes a → Valid x.n (basic_set_of v)
        along-valid y = (subst (All (Valid x.n)) along-turn.set (boundary-valid x.n a pos y x.here)).0

        module _ {r : Done} {o'' : List ℕ} (e : Emits (f (basic_set_of v)) (g (basic_set_of v)) o' t r o'') where
          pub along-stop : r.fits ≡ false → Emits (concat_map f (set_from a 0)) (all g (set_from a 0)) o s r o''
          along-stop q = onward-stop along-turn.set x.onward e q

          pub along-next : (next : ℕ) → next ≡ end_of a (pos + 1) → {rows' : List (List ℤ)} {place' kinds' : List ℕ} → length o'' ≡ length o' → length rows' ≡ length rows → length place' ≡ length place → length kinds' ≡ length kinds → r.fits ≡ true
              → Along K f g a o s rows' place' kinds' o'' r next
          along-next next z l i j k q =
              let set = along-turn.set ∙ ap (λ (m : ℕ). basic_set_of v ∷ set_from a m) (sym z) in
              record { n = x.n; known = x.known; here = subst (Boundary x.n a) (sym z) along-turn.there; tables = tables-kept x.tables i j k; same = l ∙ x.same; onward = onward-next set x.onward e q }

-- ---- each with all of b

abbrev pub nothing : Done
nothing = record { at = 0; count = 0; fits = true }

pub nothing-ready : Ready nothing
nothing-ready = record { fits = refl; few = omega arith; near = omega arith }

pub record Decodes (b : List ℕ) (n : ℕ) : Type 0 where
  pub zero : number (decode n b) ≡ 0

pub level-start : {n left : ℕ} {b : List ℕ} {p : Stored} → Bytes b → Decodes b n → Valid n (basic_set_of p) → p.divs ≤ 8 → p.cons ≤ 48 → left ≡ length (set_from b 0) → Level left p b 0
level-start {n = n} {b = b} y z v d c many = let s = boundary_start n b z.zero in record { n = n; here = s; cutters = boundary-valid n b 0 y s; many = sym many; valid = v; divs = d; cons = c }

pub difference-made : (s t : Set) {o o' : List ℕ} {r : Done} → Emits (concat_map (cut_all keeps t) s) (all (cut_all_fits keeps t) s) o nothing r o' → Made (difference_fits keeps s t) (difference keeps s t) o r o'
unfolding difference
difference-made s t {o = o} {o' = o'} {r = r} e = made_of (concat_map (cut_all keeps t) s) (all (cut_all_fits keeps t) s) o o' r e

-- of one basic set
pub one-made : (b : BasicSet) (t : Set) {o o' : List ℕ} {r : Done} → Emits (cut_all keeps t b) (cut_all_fits keeps t b) o nothing r o' → Made (difference_fits keeps (b ∷ []) t) (difference keeps (b ∷ []) t) o r o'
one-made b t e = difference-made (b ∷ []) t (emits-as (append-nil (cut_all keeps t b)) (and-true (cut_all_fits keeps t b)) e)
