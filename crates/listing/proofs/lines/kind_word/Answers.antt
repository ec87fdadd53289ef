use Rattle.std.proofs.Common.{ap, sym, ◌∙◌, arith, Bool, cond}
use Rattle.model.specs.Sets.{equality, inequality}
use Rattle.listing.specs.Text.{codes, word}
use Rattle.listing.proofs.Writing.{writes-same}
use Rattle.listing.proofs.lines.kind_word.Goals as goal
use Rattle.listing.proofs.lines.kind_word.Goals.{then-is_equality, else-is_equality}

pub returns : goal.returns
returns c =
    elim c.if-is_equality.branch [
      | then-is_equality w ↦
          writes-same (omega arith) (ap (λ (x : Bool). codes (word (cond x equality inequality))) (sym w.if-is_equality.true ∙ c.is_equality.ensures))
          (rw w.word-is at c.word.ensures)
      | else-is_equality w ↦
          writes-same (omega arith) (ap (λ (x : Bool). codes (word (cond x equality inequality))) (sym w.if-is_equality.false ∙ c.is_equality.ensures))
          (rw w.word-is at c.word.ensures)
    ]
