use Rattle.std.proofs.Common.{◌≡◌, refl, length, rules, arith}
use Rattle.model.specs.Values.{basic_set_of}
use Rattle.candidates.proofs.Catching.{put_is}
use Rattle.candidates.proofs.alone.put.Goals as goal

pub returns : goal.returns
returns c =
    let l : length c.args.w.constraints ≡ 48 = search rules in
    let e = put_is c.args.w.constraints c.args.w.cons c.args.at c.args.r c.requires.0 (omega arith) in
    record { is = λ i. record { divisions = (basic_set_of c.args.w).divisions; constraints = e i }; divs = refl; cons = refl }
