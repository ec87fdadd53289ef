use Rattle.std.proofs.Common.{ℕ, ap₂, ◌∙◌}
use Rattle.codec.specs.Places.{set_from}
use Rattle.enumeration.specs.Search.{Walk, walk}
use Rattle.search.specs.Sides.{limited, trail_of}
use Rattle.search.proofs.Searching.{begun-is}
use Rattle.search.proofs.first.walked.Goals as goal

pub returns : goal.returns
returns c =
    let b = c.begin-all.ensures in
    c.tallied.ensures ∙ ap₂ (λ (l : ℕ) (w : Walk). trail_of (limited l 0 w)) b.limit_is (begun-is b (walk (set_from c.args.s.now 0)))
