-- `states::marking::mark` meets its contract. Assumes nothing.
use Prim.Native.Nat.{◌+◌}
use Rattle.memory.proofs.Copies.{fitting-fits}
use Rattle.memory.specs.Memory.{Memory, memory, fitting, newest, Fits}
use Rattle.states.proofs.Stepping.{mark-over, mark-unfit, mark-none, mark-done, ranked-is, heads-copied}
use borrow.Author.Tests.{not-true, not-false}
use lib.ListN.{length}
use mathlib.Core.Bool.{true}
use mathlib.Core.Path.{◌≡◌, sym, ap, ◌∙◌}
use native.Mathlib.Omega.{arith}
use borrow.Author.Rules.{rules}
use Rattle.states.proofs.marking.mark.Statement.{statement}
use Rattle.states.proofs.marking.mark.Tie as tie

-- where it began, and where the name is one of the 16
abbrev begun : tie.Else-name-gt-NAME → tie.Start
begun c = c.before.before.before.before

abbrev tried : tie.After-fits → tie.Else-name-gt-NAME
tried c = c.before

-- the memory at first
abbrev first : tie.Start → Memory
first s = memory s.args.rows.now s.args.place.now s.args.kinds.now s.args.heads.now

fit : (c : tie.Else-not-fits) → fitting (first (begun (tried c.before))) ≡ true
fit c = sym c.before.fits.ensures ∙ not-false _ c.if-not-fits.false-raw

fits : (c : tie.Else-not-fits) → Fits (first (begun (tried c.before)))
fits c = fitting-fits _ (fit c)

-- where the memory has a state, before its slot is copied
abbrev stated : tie.After-copy_slot → tie.Else-not-is_word
stated c = c.before.before.before.before.before

abbrev fitted : tie.Else-not-is_word → tie.Else-not-fits
fitted c = c.before.before.before

abbrev copying : tie.After-mark_newest → tie.After-copy_slot
copying c = c.before.before.before.before.before.before.before.before.before

returns : tie.Need-returns-then-name-gt-NAME
returns c = mark-over _ _ c.if-name-gt-NAME.true

fits-requires : tie.Need-fits-requires
fits-requires c κs = search rules

same_length : tie.Need-shape_of-rows-then-not-fits
same_length c = search rules

same-length-2 : tie.Need-shape_of-place-then-not-fits
same-length-2 c = search rules

same-length-3 : tie.Need-shape_of-kinds-then-not-fits
same-length-3 c = search rules

same-length-4 : tie.Need-shape_of-heads-then-not-fits
same-length-4 c = search rules

returns-2 : tie.Need-returns-then-not-fits
returns-2 c = mark-unfit _ _ (tried c.before).if-name-gt-NAME.false (sym c.before.fits.ensures ∙ not-true _ c.if-not-fits.true-raw)

slice-read-w : tie.Need-bounds-heads-4
slice-read-w c = let f = fits c.before in omega (arith, f.heads)

is-word-requires : tie.Need-is_word-requires
is-word-requires c κs = search rules

same-length-5 : tie.Need-shape_of-rows-then-not-is_word
same-length-5 c = search rules

same-length-6 : tie.Need-shape_of-place-then-not-is_word
same-length-6 c = search rules

same-length-7 : tie.Need-shape_of-kinds-then-not-is_word
same-length-7 c = search rules

same-length-8 : tie.Need-shape_of-heads-then-not-is_word
same-length-8 c = search rules

returns-3 : tie.Need-returns-then-not-is_word
returns-3 c = let w = c.before in let e = w.before.before in mark-none _ _ (tried e.before).if-name-gt-NAME.false (fit e) (sym w.is_word.ensures ∙ not-true _ c.if-not-is_word.true-raw)

add-copy-slot : tie.Need-overflow_add-name
add-copy-slot c = search rules

copy-slot-requires : tie.Need-copy_slot-requires
copy-slot-requires c κs = let e = fitted c.before.before.before.before in let h = (tried e.before).if-name-gt-NAME.false in (fits e, omega arith, omega arith, λ z. omega arith)

mark-newest-requires : tie.Need-mark_newest-requires
mark-newest-requires c κs =
    let s = c.before.before.before.before.before.before.before.before in let e = fitted (stated s) in let h = (tried e.before).if-name-gt-NAME.false in
    (ap (λ (y : Memory). length y.heads) s.copy_slot.ensures ∙ heads-copied 0 ((begun (tried e.before)).args.name + 1) (first (begun (tried e.before))) (fits e) (omega arith) (omega arith), omega arith)

said-of-requires : tie.Need-said_of-requires
said-of-requires c κs = search rules

same-length-9 : tie.Need-shape_of-rows
same-length-9 c = search rules

same-length-10 : tie.Need-shape_of-place
same-length-10 c = search rules

same-length-11 : tie.Need-shape_of-kinds
same-length-11 c = search rules

same-length-12 : tie.Need-shape_of-heads
same-length-12 c = search rules

returns-4 : tie.Need-returns
returns-4 c =
    let a = c.before.before.before in let s = copying a in let d = stated s in let e = fitted d in
    mark-done _ _ (tried e.before).if-name-gt-NAME.false (fit e) (sym d.before.is_word.ensures ∙ not-false _ d.if-not-is_word.false-raw) c.said_of.ensures
    (ranked-is (newest (begun (tried e.before)).args.name) s.copy_slot.ensures a.mark_newest.ensures)

pub mark_spec : {M : Type 1} → statement M
mark_spec =
    tie.close
    (tie.spec
    returns
    fits-requires
    same_length
    same-length-2
    same-length-3
    same-length-4
    returns-2
    slice-read-w
    is-word-requires
    same-length-5
    same-length-6
    same-length-7
    same-length-8
    returns-3
    add-copy-slot
    copy-slot-requires
    mark-newest-requires
    said-of-requires
    same-length-9
    same-length-10
    same-length-11
    same-length-12
    returns-4)
