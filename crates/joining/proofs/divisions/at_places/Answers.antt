use Rattle.std.proofs.Common.{◌≡◌, ◌∙◌, sym, ap, ℕ, ◌+◌, ◌-◌, length, get_or, take, drop, pos, SFits, w16, rules, arith}
use Rattle.std.proofs.lemmas.Int.{to_z-of_z}
use Rattle.algebra.specs.Cut.{move}
use Rattle.joining.proofs.Placing.{move_start, place-fits, move-back}
use Rattle.joining.proofs.divisions.at_places.Goals as goal

pub loop-k-init : goal.loop-k-init
loop-k-init c =
    let l : length c.args.places ≡ 8 = search rules in
    sym (move_start c.args.n c.args.places (drop c.args.n c.args.from) (omega arith))

pub bounds-to-places : goal.bounds-to-places
bounds-to-places c =
    let l : length c.args.places ≡ 8 = search rules in
    place-fits c.args.places c.args.from c.args.n (c.loop-k.k - 1) c.requires.1 (omega arith) (omega arith)

pub offset_bounds-to-places : goal.offset_bounds-to-places
offset_bounds-to-places c = let h = bounds-to-places c in omega arith

pub loop-k-preserved : goal.loop-k-preserved
loop-k-preserved c =
    let l : length c.args.places ≡ 8 = search rules in
    let m : length c.args.from ≡ 8 = search rules in
    let f : SFits w16 (get_or c.args.from (c.loop-k.k - 1) (pos 0)) = search rules in
    let s : c.loop-k.k ≡ c.loop-k.k - 1 + 1 = omega arith in
    let e : c.loop-k.to ≡ move (drop (c.loop-k.k - 1 + 1) (take c.args.n c.args.places)) (drop (c.loop-k.k - 1 + 1) c.args.from) = c.loop-k.invariant ∙ ap (λ (j : ℕ). move (drop j (take c.args.n c.args.places)) (drop j c.args.from)) s in
    let b = move-back c.args.places c.args.from c.args.n (c.loop-k.k - 1) c.requires.1 (omega arith) (omega arith) (omega arith) in
    rw (e, to_z-of_z w16 _ f) b
