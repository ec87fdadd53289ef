-- `states::marking::back` meets its contract. Assumes nothing.
use Prim.Native.Nat.{◌+◌}
use Rattle.memory.proofs.Copies.{fitting-fits}
use Rattle.memory.specs.Memory.{Memory, memory, fitting, forgotten, Fits}
use Rattle.states.proofs.Stepping.{back-over, back-unfit, back-never, back_none, back_done, ranked-is, heads-copied}
use borrow.Author.Tests.{not-true, not-false}
use lib.ListN.{length}
use mathlib.Core.Bool.{true}
use mathlib.Core.List.{map}
use mathlib.Core.Path.{◌≡◌, refl, sym, ap, ◌∙◌}
use native.Mathlib.Omega.{arith}
use borrow.Author.Rules.{rules}
use Rattle.states.proofs.marking.back.Statement.{statement}
use Rattle.states.proofs.marking.back.Tie as tie

-- where it began, and where the name is one of the 16
abbrev begun : tie.Else-name-gt-NAME → tie.Start
begun c = c.before.before.before.before

abbrev tried : tie.After-fits → tie.Else-name-gt-NAME
tried c = c.before

-- the memory at first
abbrev first : tie.Start → Memory
first s = memory s.args.rows.now s.args.place.now s.args.kinds.now s.args.heads.now

fit : (c : tie.Else-not-fits) → fitting (first (begun (tried c.before))) ≡ true
fit c = sym c.before.fits.ensures ∙ not-false _ c.if-not-fits.false-raw

fits : (c : tie.Else-not-fits) → Fits (first (begun (tried c.before)))
fits c = fitting-fits _ (fit c)

-- where the name is marked, and where its slot has a state, before it is copied
abbrev marked : tie.Else-not-is_word → tie.Else-rank-eq0
marked c = c.before.before.before

abbrev stated : tie.After-copy_slot → tie.Else-not-is_word
stated c = c.before.before.before.before.before

abbrev fitted : tie.Else-rank-eq0 → tie.Else-not-fits
fitted c = c.before.before

abbrev copying : tie.After-forget_after → tie.After-copy_slot
copying c = c.before.before.before.before.before.before.before.before.before

returns : tie.Need-returns-then-name-gt-NAME
returns c = back-over _ _ c.if-name-gt-NAME.true

fits-requires : tie.Need-fits-requires
fits-requires c κs = search rules

same_length : tie.Need-shape_of-rows-then-not-fits
same_length c = search rules

same-length-2 : tie.Need-shape_of-place-then-not-fits
same-length-2 c = search rules

same-length-3 : tie.Need-shape_of-kinds-then-not-fits
same-length-3 c = search rules

same-length-4 : tie.Need-shape_of-heads-then-not-fits
same-length-4 c = search rules

returns-2 : tie.Need-returns-then-not-fits
returns-2 c = back-unfit _ _ (tried c.before).if-name-gt-NAME.false (sym c.before.fits.ensures ∙ not-true _ c.if-not-fits.true-raw)

add-rank : tie.Need-overflow_add-rank
add-rank c = record { fits = let h = (tried c.before).if-name-gt-NAME.false in omega arith }

mul-rank : tie.Need-offset_bounds-heads-name
mul-rank c = search rules

slice-read-rank : tie.Need-bounds-heads-name
slice-read-rank c = let e = c.before in let f = fits e in let h = (tried e.before).if-name-gt-NAME.false in omega (arith, f.heads)

same-length-5 : tie.Need-shape_of-rows-then-rank-eq0
same-length-5 c = search rules

same-length-6 : tie.Need-shape_of-place-then-rank-eq0
same-length-6 c = search rules

same-length-7 : tie.Need-shape_of-kinds-then-rank-eq0
same-length-7 c = search rules

same-length-8 : tie.Need-shape_of-heads-then-rank-eq0
same-length-8 c = search rules

returns-3 : tie.Need-returns-then-rank-eq0
returns-3 c = let e = c.before.before in back-never _ _ (tried e.before).if-name-gt-NAME.false (fit e) _ refl c.if-rank-eq0.true

add-w : tie.Need-overflow_add-w
add-w c = search rules

mul-w : tie.Need-overflow_mul-w
mul-w c = search rules

add-w-2 : tie.Need-overflow_add-w-2
add-w-2 c = search rules

mul-w-2 : tie.Need-offset_bounds-heads-name-2
mul-w-2 c = search rules

slice-read-w : tie.Need-bounds-heads-name-2
slice-read-w c = let e = fitted c.before in let f = fits e in let h = (tried e.before).if-name-gt-NAME.false in omega (arith, f.heads)

is-word-requires : tie.Need-is_word-requires
is-word-requires c κs = search rules

same-length-9 : tie.Need-shape_of-rows-then-not-is_word
same-length-9 c = search rules

same-length-10 : tie.Need-shape_of-place-then-not-is_word
same-length-10 c = search rules

same-length-11 : tie.Need-shape_of-kinds-then-not-is_word
same-length-11 c = search rules

same-length-12 : tie.Need-shape_of-heads-then-not-is_word
same-length-12 c = search rules

returns-4 : tie.Need-returns-then-not-is_word
returns-4 c =
    let w = c.before in let d = w.before.before in let e = fitted d in
    back_none _ _ (tried e.before).if-name-gt-NAME.false (fit e) _ refl d.if-rank-eq0.false (sym w.is_word.ensures ∙ not-true _ c.if-not-is_word.true-raw)

add-copy-slot : tie.Need-overflow_add-name
add-copy-slot c = search rules

copy-slot-requires : tie.Need-copy_slot-requires
copy-slot-requires c κs = let e = fitted (marked c.before.before.before.before) in let h = (tried e.before).if-name-gt-NAME.false in (fits e, omega arith, omega arith, λ z. omega arith)

forget-after-requires : tie.Need-forget_after-requires
forget-after-requires c κs =
    let s = c.before.before.before.before.before.before.before.before in let e = fitted (marked (stated s)) in let h = (tried e.before).if-name-gt-NAME.false in
    ap (λ (y : Memory). length y.heads) s.copy_slot.ensures ∙ heads-copied ((begun (tried e.before)).args.name + 1) 0 (first (begun (tried e.before))) (fits e) (omega arith) (omega arith)

said-of-requires : tie.Need-said_of-requires
said-of-requires c κs = search rules

same-length-13 : tie.Need-shape_of-rows
same-length-13 c = search rules

same-length-14 : tie.Need-shape_of-place
same-length-14 c = search rules

same-length-15 : tie.Need-shape_of-kinds
same-length-15 c = search rules

same-length-16 : tie.Need-shape_of-heads
same-length-16 c = search rules

returns-5 : tie.Need-returns
returns-5 c =
    let a = c.before.before.before in let s = copying a in let w = stated s in let d = marked w in let e = fitted d in
    back_done _ _ (tried e.before).if-name-gt-NAME.false (fit e) _ refl d.if-rank-eq0.false (sym w.before.is_word.ensures ∙ not-false _ w.if-not-is_word.false-raw) c.said_of.ensures
    (ranked-is (map (forgotten _)) s.copy_slot.ensures a.forget_after.ensures)

pub back_spec : {M : Type 1} → statement M
back_spec =
    tie.close
    (tie.spec
    returns
    fits-requires
    same_length
    same-length-2
    same-length-3
    same-length-4
    returns-2
    add-rank
    mul-rank
    slice-read-rank
    same-length-5
    same-length-6
    same-length-7
    same-length-8
    returns-3
    add-w
    mul-w
    add-w-2
    mul-w-2
    slice-read-w
    is-word-requires
    same-length-9
    same-length-10
    same-length-11
    same-length-12
    returns-4
    add-copy-slot
    copy-slot-requires
    forget-after-requires
    said-of-requires
    same-length-13
    same-length-14
    same-length-15
    same-length-16
    returns-5)
