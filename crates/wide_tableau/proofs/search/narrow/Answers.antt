use Rattle.std.proofs.Common.{ℕ, sym, ◌∙◌, subst, List, [], rules}
use Rattle.wide_tableau.specs.Cells.{cells, rows_of, Sheet}
use Rattle.integers.specs.Size.{bound}
use Rattle.std.proofs.Common.{tests}
use Rattle.std.proofs.lemmas.List.{get_or_default}
use Rattle.std.proofs.lemmas.Iterator.{YieldsList-from_slice}
use Rattle.std.proofs.lemmas.Iterator.Search.{all_from_yields_List}
use Rattle.std.proofs.lemmas.Iterator.Adapters.{serves_from_places}
use Rattle.tableau.proofs.Searches.{narrow-all}
use Rattle.wide_tableau.proofs.Sheets.{all-through}
use Rattle.tableau.specs.Rows as R
use Rattle.wide_tableau.proofs.search.narrow.Goals as goal

pub all-requires-clause-callable : goal.all-requires-clause-callable
all-requires-clause-callable c =
    serves_from_places (YieldsList-from_slice c.args.t.now cc) (λ x q e. search rules)
    (λ x k lt e.
    let d = e ∙ get_or_default c.args.t.now k x.now [] lt in
    let h : R.Line c.args.n (cells x.now) = subst (λ (r : List ℕ). R.Line c.args.n (cells r)) (sym d) (c.requires.2 k lt) in
    let s : Sheet x.now = subst Sheet (sym d) (c.requires.0.at k lt) in
    search rules)

pub returns : goal.returns
returns c =
    all_from_yields_List (λ r. R.narrow_row_at (bound 128) c.args.j (cells r)) _ _ _ c.all.ensures.ran (YieldsList-from_slice c.args.t.now cc) (λ x b q k. search (rules, tests))
    ∙ sym (all-through cells (R.narrow_row_at (bound 128) c.args.j) c.args.t.now) ∙ narrow-all (bound 128) c.args.j (rows_of c.args.t.now)
