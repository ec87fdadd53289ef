use Rattle.std.proofs.Common.{ℕ, List, ℤ, take, drop, refl, ap, ap₂, ◌∙◌, arith}
use Rattle.codec.specs.Bytes.{value_of}
use Rattle.enumeration.specs.Search.{search_bytes}
use Rattle.search.specs.Sides.{answer_of}
use Rattle.session.specs.Script.{search_line, coordinates}
use Rattle.listing.proofs.Writing.{writes-same}
use Rattle.commands.specs.Promises.{tells}
use Rattle.commands.specs.Found.{found_is}
use Rattle.commands.proofs.Found.{found-is}
use Rattle.commands.proofs.commands.search.Goals as goal

pub returns-in-Ok : goal.returns-in-Ok
returns-in-Ok c =
    let n = c.args.axes in let a = c.args.set.now in let s = c.args.s.now in
    writes-same (omega arith)
    (ap (tells search_line)
    (ap (found_is n)
    (c.in-Ok.ensures ∙ ap₂ (λ (x y : List ℤ). answer_of (search_bytes n a x y c.u32_at-most.result)) c.point.ensures c.point-2.ensures
    ∙ ap (λ (k : ℕ). answer_of (search_bytes n a (coordinates 8 (drop 5 s)) (coordinates 8 (drop 37 s)) k)) c.u32_at-most.ensures.is)
    ∙ found-is n a (coordinates 8 (drop 5 s)) (coordinates 8 (drop 37 s)) (value_of (take 4 (drop 1 s))) refl refl))
    c.found_line.ensures

pub returns-in-Err : goal.returns-in-Err
returns-in-Err c =
    let n = c.args.axes in let a = c.args.set.now in let s = c.args.s.now in
    writes-same (omega arith)
    (ap (tells search_line)
    (ap (found_is n)
    (c.in-Err.ensures ∙ ap₂ (λ (x y : List ℤ). answer_of (search_bytes n a x y c.u32_at-most.result)) c.point.ensures c.point-2.ensures
    ∙ ap (λ (k : ℕ). answer_of (search_bytes n a (coordinates 8 (drop 5 s)) (coordinates 8 (drop 37 s)) k)) c.u32_at-most.ensures.is)
    ∙ found-is n a (coordinates 8 (drop 5 s)) (coordinates 8 (drop 37 s)) (value_of (take 4 (drop 1 s))) refl refl))
    c.refused_line.ensures
