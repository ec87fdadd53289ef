-- `states::opening::lay` meets its contract. Assumes nothing.
use Prim.Native.Nat.{ℕ, ◌*◌, ◌<◌}
use Rattle.model.specs.Sets as S
use Rattle.model.specs.Values.{division_of}
use Rattle.states.proofs.Tables.{named-place, named-kinds, rows_long, first_fine}
use Rattle.wide_tableau.specs.Cells.{Turns}
use lib.IntN.{ℤ}
use lib.ListN.{length, get_or, take, length-map}
use lib.Seq.{length-take-le}
use mathlib.Core.List.{List, [], map}
use mathlib.Core.Path.{◌≡◌, sym, ap, ◌∙◌, subst}
use native.Mathlib.Omega.{arith}
use borrow.Author.Rules.{rules}
use Rattle.states.proofs.opening.lay.Statement.{statement}
use Rattle.states.proofs.opening.lay.Tie as tie

abbrev start : tie.After-fill_bounds → tie.Start
start c = c.before.before.before.before

-- the divisions
abbrev divisions : tie.Start → List S.Division
divisions s = map division_of (take s.args.k s.args.ds)

divisions-are : (s : tie.Start) → length (divisions s) ≡ s.args.k
divisions-are s = let h = s.requires.divisions in let f = s.requires.few in length-map (take s.args.k s.args.ds) division_of ∙ length-take-le s.args.k s.args.ds (omega arith)

-- the rows filled
abbrev filled : (c : tie.After-fill_bounds) → List (List ℤ)
filled c = take (2 * (start c).args.k) c.fill_bounds.new.rows

filled-long : (c : tie.After-fill_bounds) → length (filled c) ≡ 2 * (start c).args.k
filled-long c = let s = start c in ap length c.fill_bounds.ensures.firsts ∙ rows_long s.args.k (divisions s) s.requires.few (divisions-are s)

each_long : (c : tie.After-fill_bounds) (i : ℕ) → i < length (filled c) → length (get_or (filled c) i []) ≡ 18
each_long c i h =
    let s = start c in let e = c.fill_bounds.ensures.firsts in
    ap (λ t. length (get_or t i [])) e ∙ ((first_fine s.args.k (divisions s) s.requires.few (divisions-are s)).line i (subst (λ t. i < length t) e h)).long

mul-m : tie.Need-overflow_mul-m
mul-m c = search rules

slice-aggregate-fill-bounds : tie.Need-slice_bounds-fill_bounds-end
slice-aggregate-fill-bounds c = search rules

fill-bounds-requires : tie.Need-fill_bounds-requires
fill-bounds-requires c κs = search rules

array-share-prefix-first : tie.Need-slice_bounds-first-end
array-share-prefix-first c = search rules

slice-aggregate-carry : tie.Need-slice_bounds-carry-end
slice-aggregate-carry c = sym (filled-long c.before.before)

carry-requires : tie.Need-carry-requires
carry-requires c κs = let f = c.before.before.before in ((start f).requires.rows ∙ sym (filled-long f), each_long f)

add-name-variables : tie.Need-overflow_add-k
add-name-variables c = search rules

add-name-variables-2 : tie.Need-overflow_add-k-2
add-name-variables-2 c = search rules

name-variables-requires : tie.Need-name_variables-requires
name-variables-requires c κs = search rules

same_length : tie.Need-shape_of-t
same_length c = search rules

same-length-2 : tie.Need-shape_of-place
same-length-2 c = search rules

same-length-3 : tie.Need-shape_of-kinds
same-length-3 c = search rules

returns : tie.Need-returns
returns c =
    let v = c.before.before.before.before in let a = v.before.before.before.before in let f = a.before.before.before.before in let s = start f in
    record { rows = subst (Turns _) f.fill_bounds.ensures.firsts a.carry.ensures; place_is = named-place v.name_variables.ensures s.requires.names; kinds_are = named-kinds v.name_variables.ensures s.requires.sames }

pub lay_spec : {M : Type 1} → statement M
lay_spec =
    tie.close
    (tie.spec
    mul-m
    slice-aggregate-fill-bounds
    fill-bounds-requires
    array-share-prefix-first
    slice-aggregate-carry
    carry-requires
    add-name-variables
    add-name-variables-2
    name-variables-requires
    same_length
    same-length-2
    same-length-3
    returns)
