use Rattle.std.proofs.Common.{◌≡◌, ◌++◌, ℤ, pos, length, get_or, drop, ap, to_z, of_z, w64, ◌+ℤ◌, ◌∙◌}
use Rattle.std.proofs.lemmas.List.{get_or_append_left}
use Rattle.runs.proofs.Upward.{raised-is, up_is}
use Rattle.runs.proofs.lasting.raised.Goals as goal

pub returns-clause-is : goal.returns-clause-is
returns-clause-is c =
    let high = c.args.high.now in let e = c.copy_from_slice.ensures.after in let rest = drop (length high) c.no_values-w.result in
    let z : get_or (c.copy_from_slice.new.self ++ rest) c.args.k (pos 0) ≡ get_or high c.args.k (pos 0) =
    rw e (get_or_append_left high rest (pos 0) c.args.k c.requires.1) in
    raised-is high rest c.copy_from_slice.new.self c.args.k c.args.up _ c.requires.1 e
    (ap (λ (x : ℤ). to_z w64 (of_z w64 (to_z w64 (of_z w64 x) +ℤ to_z w64 c.args.up))) z ∙ up_is (get_or high c.args.k (pos 0)) c.args.up (c.requires.2.at c.args.k) c.requires.3)
