use Rattle.std.proofs.Common.{◌≡◌, refl, sym, ℕ, zero, suc, false, length, get_or, replicate, rules, arith}
use Rattle.std.proofs.lemmas.Bool.{le-leb}
use Rattle.std.proofs.lemmas.List.{length-map, length-take}
use Rattle.joining.proofs.Placing.{halfway-start, halfway-end, joins_found, joins_new, joins_full}
use Rattle.joining.proofs.divisions.join.Goals as goal
use Rattle.joining.proofs.divisions.join.Goals.{in-Some, in-None+else-divs-eq-DIVISIONS}

-- no division is taken at first
unset : (n i : ℕ) → get_or (replicate n false) i false ≡ false
unset zero i = refl
unset (suc n) zero = refl
unset (suc n) (suc i) = unset n i

pub loop-k-init : goal.loop-k-init
loop-k-init c =
    let l : length c.args.ds ≡ 8 = search rules in
    record {
      least = omega arith;
      few = c.requires.0;
      wide = l;
      flags = refl;
      room = refl;
      half = halfway-start _ _ _ _ (unset 8);
    }

pub returns-then-divs-eq-DIVISIONS : goal.returns-then-divs-eq-DIVISIONS
returns-then-divs-eq-DIVISIONS c =
    let l : length c.args.es ≡ 8 = search rules in
    joins_full c.loop-k.invariant (omega arith) c.loop-k-test.true c.in-None.ensures c.if-divs-eq-DIVISIONS.true

pub loop-k-preserved : goal.loop-k-preserved
loop-k-preserved c =
    let l : length c.args.es ≡ 8 = search rules in
    elim c.match-seek.branch [
      | in-Some w ↦ rw (w.divisions-is, w.divs-is, w.taken-is, w.places-is) (joins_found c.loop-k.invariant (omega arith) c.loop-k-test.true w.in-Some.ensures (omega arith))
      | in-None+else-divs-eq-DIVISIONS w ↦ rw (w.divisions-is, w.divs-is, w.taken-is, w.places-is) (joins_new c.loop-k.invariant (omega arith) c.loop-k-test.true w.in-None.ensures w.if-divs-eq-DIVISIONS.false (omega arith))
    ]

pub returns : goal.returns
returns c =
    let l : length c.args.es ≡ 8 = search rules in
    let p = c.loop-k.invariant in
    let e = halfway-end _ _ _ _ _ _ _ p.half (simp (length-map, length-take) (omega arith)) in
    let m : c.loop-k.k ≡ c.args.m = omega arith in
    record {
      fits = rw e.0 (sym (le-leb _ 8 (simp (length-map, length-take) (omega arith))));
      few = p.few;
      all = sym e.0;
      places = rw m at (sym e.1);
    }
