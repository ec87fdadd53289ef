-- `states::opening::set_up` meets its contract. Assumes nothing.
use Prim.Native.Nat.{◌+◌, ◌*◌}
use Rattle.memory.specs.Memory.{memory}
use Rattle.model.specs.Sets as S
use Rattle.states.proofs.Stepping.{opens-is, head-long}
use Rattle.states.specs.Calls.{start_end}
use Rattle.states.specs.Parts.{Ran}
use lib.ListN.{length, take}
use lib.Seq.{length-take-le}
use mathlib.Core.List.{List}
use mathlib.Core.Path.{◌≡◌, sym, ap, ◌∙◌, subst}
use native.Mathlib.Omega.{arith}
use borrow.Author.Rules.{rules}
use Rattle.states.proofs.opening.set_up.Statement.{statement}
use Rattle.states.proofs.opening.set_up.Tie as tie

abbrev start : tie.After-divisions_of-ds → tie.Start
start c = c.before.before.before.before

rows_taken : (s : tie.Start) → length (take (2 * s.args.k) s.args.rows.now) ≡ 2 * s.args.k
rows_taken s = let f = s.requires.1.few in let r = s.requires.0.rows in length-take-le (2 * s.args.k) s.args.rows.now (omega arith)

place-taken : (s : tie.Start) → let n = 8 + s.args.k + 2 * s.args.k in length (take n s.args.place.now) ≡ n
place-taken s = let f = s.requires.1.few in let r = s.requires.0.place in length-take-le (8 + s.args.k + 2 * s.args.k) s.args.place.now (omega arith)

kinds-taken : (s : tie.Start) → let n = 8 + s.args.k + 2 * s.args.k in length (take n s.args.kinds.now) ≡ n
kinds-taken s = let f = s.requires.1.few in let r = s.requires.0.kinds in length-take-le (8 + s.args.k + 2 * s.args.k) s.args.kinds.now (omega arith)

mul-m : tie.Need-overflow_mul-m
mul-m c = search rules

add-names : tie.Need-overflow_add-names
add-names c = search rules

add-names-2 : tie.Need-overflow_add-names-2
add-names-2 c = search rules

divisions-of-requires : tie.Need-divisions_of-ds-requires
divisions-of-requires c κs = search rules

slice-relend-prefix-tested : tie.Need-slice_bounds-tested-end
slice-relend-prefix-tested c = search rules

slice-aggregate-tested : tie.Need-slice_bounds-tested-end-2
slice-aggregate-tested c = sym (rows_taken (start c.before))

slice-relend-prefix-tested-2 : tie.Need-slice_bounds-tested-end-3
slice-relend-prefix-tested-2 c = search rules

slice-aggregate-tested-2 : tie.Need-slice_bounds-tested-end-4
slice-aggregate-tested-2 c = sym (place-taken (start c.before.before))

slice-relend-prefix-tested-3 : tie.Need-slice_bounds-tested-end-5
slice-relend-prefix-tested-3 c = search rules

slice-aggregate-tested-3 : tie.Need-slice_bounds-tested-end-6
slice-aggregate-tested-3 c = sym (kinds-taken (start c.before.before.before))

tested-requires : tie.Need-tested-w-requires
tested-requires c κs =
    let d = c.before.before.before in let s = start d in
    record { few = s.requires.1.few; divisions = d.divisions_of-ds.ensures.long; rows = rows_taken s; names = place-taken s; sames = kinds-taken s }

write-head-requires : tie.Need-write_head-requires
write-head-requires c κs = let s = start c.before.before.before.before.before.before.before.before.before.before in let h = s.requires.0.heads in (omega arith, s.requires.1.few)

forget-after-requires : tie.Need-forget_after-requires
forget-after-requires c κs =
    let w = c.before.before.before in let t = w.before.before.before.before.before.before.before in let s = start t.before.before.before.before in
    ap length w.write_head.ensures ∙ head-long s.args.n s.args.k t.tested-w.result s.args.heads.now s.requires.0.heads

said-of-requires : tie.Need-said_of-requires
said-of-requires c κs = search rules

same_length : tie.Need-shape_of-rows
same_length c = search rules

same-length-2 : tie.Need-shape_of-place
same-length-2 c = search rules

same-length-3 : tie.Need-shape_of-kinds
same-length-3 c = search rules

same-length-4 : tie.Need-shape_of-heads
same-length-4 c = search rules

returns : tie.Need-returns
returns c =
    let f = c.before.before.before in let w = f.before.before.before.before in let t = w.before.before.before.before.before.before.before in
    let d = t.before.before.before.before in let s = start d in
    let r = subst (λ (ds : List S.Division). Ran (start_end s.args.k ds) t.tested-w.result t.tested-w.new.t t.tested-w.new.place) d.divisions_of-ds.ensures.are t.tested-w.ensures.0 in
    opens-is s.args.n s.args.k (memory s.args.rows.now s.args.place.now s.args.kinds.now s.args.heads.now) r t.tested-w.ensures.1 w.write_head.ensures f.forget_after.ensures c.said_of.ensures

pub set_up_spec : {M : Type 1} → statement M
set_up_spec =
    tie.close
    (tie.spec
    mul-m
    add-names
    add-names-2
    divisions-of-requires
    slice-relend-prefix-tested
    slice-aggregate-tested
    slice-relend-prefix-tested-2
    slice-aggregate-tested-2
    slice-relend-prefix-tested-3
    slice-aggregate-tested-3
    tested-requires
    write-head-requires
    forget-after-requires
    said-of-requires
    same_length
    same-length-2
    same-length-3
    same-length-4
    returns)
