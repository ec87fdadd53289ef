use Rattle.std.proofs.Common.{ℕ, List, ◌++◌, pos, ap, arith}
use Rattle.listing.specs.Text.{codes, number}
use Rattle.listing.proofs.Writing.{writes_more, writes-same}
use Rattle.listing.proofs.LineTexts.{one_number}
use Rattle.listing.proofs.lines.header.Goals as goal

pub returns : goal.returns
returns c =
    writes-same (omega arith) (ap (λ (x : List ℕ). codes "set" ++ (number (pos c.args.m) ++ x)) (one_number (codes " has") c.args.count))
    (writes_more c.word-at.ensures (writes_more c.natural-at.ensures (writes_more c.word-at-2.ensures (writes_more c.natural-at-2.ensures c.word.ensures))))
