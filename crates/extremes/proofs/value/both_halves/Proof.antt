-- `extremes::value::both_halves` meets its contract. Assumes nothing.
use mathlib.Core.Path.{◌∙◌}
use borrow.Author.Rules.{rules}
use Rattle.simplex.specs.declared.Verdict.TheVariants.{Dropped, Long, Wide}
use Rattle.extremes.proofs.Outcomes.{reached-posed, halves-after, climbed-over, halves-point}
use Rattle.extremes.proofs.value.both_halves.Statement.{statement}
use Rattle.extremes.proofs.value.both_halves.Tie as tie

-- where the function began, from where the first half is made; where that is, from where its verdict is looked at
abbrev start : tie.After-reach-e → tie.Start
start c = c.before.before.before.before.before.before

abbrev reaching : tie.After-slice_known-2-1 → tie.After-reach-e
reaching c = c.before.before.before

-- where the second half is made
abbrev climbing : tie.After-slice_known-in-Point-1 → tie.After-climb-x
climbing c = c.before.before.before

abbrev between : tie.After-climb-x → tie.In-Point
between c = c.before.before.before.before

reach-requires : tie.Need-reach-e-requires
reach-requires c κs = c.before.before.before.before.before.requires

enum_told : tie.Need-enum_told-1
enum_told c = search rules

sub-climb : tie.Need-overflow_sub-pivots
sub-climb c = search rules

climb-requires : tie.Need-climb-x-requires
climb-requires c κs =
    let r = reaching c.before.before.before.before in
    let e = r.reach-e.ensures in
    (e.rows_are.sheets, e.goal_is.sheet, reached-posed (start r).requires.2 e)

ended-requires : tie.Need-ended-requires
ended-requires c κs =
    let l = climbing c in
    let r = reaching (between l).before in
    let e = l.climb-x.ensures in
    (e.goal_is.sheet, climbed-over (start r).requires.2 r.reach-e.ensures _ e)

enum-told-2 : tie.Need-enum_told-in-Dropped
enum-told-2 c = search rules

enum-told-3 : tie.Need-enum_told-in-Long
enum-told-3 c = search rules

enum-told-4 : tie.Need-enum_told-in-Wide
enum-told-4 c = search rules

same_length : tie.Need-shape_of-t-in-Point
same_length c = search rules

same-length-2 : tie.Need-shape_of-place-in-Point
same-length-2 c = search rules

returns : tie.Need-returns-in-Point
returns c =
    let l = climbing c.before in
    let t = between l in
    let r = reaching t.before in
    c.ended.ensures ∙ halves-point (start r).requires.2 r.reach-e.ensures _ l.climb-x.ensures t.in-Point.is

same-length-3 : tie.Need-shape_of-t-in-Dropped
same-length-3 c = search rules

same-length-4 : tie.Need-shape_of-place-in-Dropped
same-length-4 c = search rules

returns-2 : tie.Need-returns-in-Dropped
returns-2 c = let r = reaching c.before in halves-after (start r).requires.2 r.reach-e.ensures _ Dropped c.in-Dropped.is

same-length-5 : tie.Need-shape_of-t-in-Long
same-length-5 c = search rules

same-length-6 : tie.Need-shape_of-place-in-Long
same-length-6 c = search rules

returns-3 : tie.Need-returns-in-Long
returns-3 c = let r = reaching c.before in halves-after (start r).requires.2 r.reach-e.ensures _ Long c.in-Long.is

same-length-7 : tie.Need-shape_of-t-in-Wide
same-length-7 c = search rules

same-length-8 : tie.Need-shape_of-place-in-Wide
same-length-8 c = search rules

returns-4 : tie.Need-returns-in-Wide
returns-4 c = let r = reaching c.before in halves-after (start r).requires.2 r.reach-e.ensures _ Wide c.in-Wide.is

pub both_halves_spec : {M : Type 1} → statement M
both_halves_spec =
    tie.close
    (tie.spec
    reach-requires
    enum_told
    sub-climb
    climb-requires
    ended-requires
    enum-told-2
    enum-told-3
    enum-told-4
    same_length
    same-length-2
    returns
    same-length-3
    same-length-4
    returns-2
    same-length-5
    same-length-6
    returns-3
    same-length-7
    same-length-8
    returns-4)
