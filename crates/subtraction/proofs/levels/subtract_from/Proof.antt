use mathlib.Core.Path.{refl}
use borrow.Author.Rules.{rules}
use Rattle.model.specs.Values.{basic_set_of}
use Rattle.codec.specs.Places.{set_from}
use Rattle.codec.proofs.Valid.{bytes_of}
use Rattle.subtraction.proofs.Along.{nothing-ready, level-start, one-made}
use Rattle.subtraction.proofs.levels.subtract_from.Statement.{statement}
use Rattle.subtraction.proofs.levels.subtract_from.Tie as tie

abbrev counted : tie.After-spare-1 → tie.After-count-left
counted c = c.before.before.before.before.before.before

abbrev begun : tie.After-count-left → tie.Start
begun c = c.before.before.before

count-requires : tie.Need-count-left-requires
count-requires c κs = search rules

slice-aggregate-cut-first : tie.Need-slice_bounds-cut_first-end
slice-aggregate-cut-first c = search rules

slice-aggregate-cut-first-2 : tie.Need-slice_bounds-cut_first-end-2
slice-aggregate-cut-first-2 c = search rules

slice-aggregate-cut-first-3 : tie.Need-slice_bounds-cut_first-end-3
slice-aggregate-cut-first-3 c = search rules

slice-aggregate-cut-first-4 : tie.Need-slice_bounds-cut_first-end-4
slice-aggregate-cut-first-4 c = search rules

slice-aggregate-cut-first-5 : tie.Need-slice_bounds-cut_first-end-5
slice-aggregate-cut-first-5 c = search rules

cut-first-requires : tie.Need-cut_first-requires
cut-first-requires c κs =
    let k = counted c in let st = begun k in let f = st.requires in (
      level-start (bytes_of st.args.b.now (λ i. (k.before.before.shared_slice_known-1.given i).fits)) (record { zero = f.cutters }) f.valid f.divs f.cons k.count-left.ensures,
      nothing-ready,
      record { high = refl; long = refl; wide = refl },
      record { many = refl; high = refl },
    )

same_length : tie.Need-shape_of-out
same_length c = search rules

returns : tie.Need-returns
returns c =
    let x = c.before.before.before.before.before.before.before in let a = (begun (counted x.before)).args in
    one-made (basic_set_of a.p) (set_from a.b.now 0) x.cut_first.ensures

pub subtract_from_spec : {M : Type 1} → statement M
subtract_from_spec =
    tie.close
    (tie.spec
    count-requires
    slice-aggregate-cut-first
    slice-aggregate-cut-first-2
    slice-aggregate-cut-first-3
    slice-aggregate-cut-first-4
    slice-aggregate-cut-first-5
    cut-first-requires
    same_length
    returns)
