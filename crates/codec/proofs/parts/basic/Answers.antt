use Rattle.std.proofs.Common.{◌≡◌, sym, ap, ◌∙◌, ◌+◌, ◌-◌, ℕ, take, drop, arith}
use Rattle.model.proofs.Refused.{number-err, number-ok}
use Rattle.codec.specs.Bytes.{decode, number}
use Rattle.codec.specs.Places.{end_of}
use Rattle.codec.specs.Parts.{Part, nowhere, part_of, held}
use Rattle.codec.proofs.Boundaries.{boundary-opened, boundary-next}
use Rattle.codec.proofs.Valid.{bytes_of}
use Rattle.codec.proofs.Located.{started_none, started-part, part-refused, part-zero}
use Rattle.codec.proofs.parts.basic.Goals.{then-k-eq0-via-then-k-eq0, then-k-eq0-via-else-k-eq0+then-is_err}
use Rattle.codec.proofs.parts.basic.Goals as goal

-- of number 0, and of refused bytes
none : (c : goal.After-part) → part_of c.args.n c.args.set.now c.args.k ≡ nowhere
none c = elim c.then-k-eq0.branch [
  | then-k-eq0-via-then-k-eq0 w ↦ ap (part_of c.args.n c.args.set.now) w.if-k-eq0.true ∙ part-zero c.args.n c.args.set.now
  | then-k-eq0-via-else-k-eq0+then-is_err w ↦ part-refused c.args.n c.args.set.now c.args.k (λ z. number-err w.check.result (sym w.is_err.ensures.value ∙ w.if-is_err.true) (w.check.ensures ∙ z))
]

pub returns-then-k-eq0-clause-bytes : goal.returns-then-k-eq0-clause-bytes
returns-then-k-eq0-clause-bytes c = c.part.ensures.bytes ∙ ap (λ (p : Part). held p c.args.set.now) (sym (none c))

pub returns-then-k-eq0-clause-place : goal.returns-then-k-eq0-clause-place
returns-then-k-eq0-clause-place c = c.part.ensures.place ∙ ap (λ (p : Part). (c.args.set.ref_ptr.0, c.args.set.ref_ptr.1 + p.place)) (sym (none c))

-- k counts from 1
from_one : (k : ℕ) → (k ≡ 0 → ⊥) → k - 1 + 1 ≡ k
from_one k h = omega (arith, h)

past : (c : goal.After-part-then-set-at) → part_of c.args.n c.args.set.now c.args.k ≡ nowhere
past c =
    let s = c.args.set.now in
    let accepted : number (decode c.args.n s) ≡ 0 = sym c.check.ensures ∙ number-ok c.check.result (sym c.is_err.ensures.value ∙ c.if-is_err.false) in
    ap (part_of c.args.n s) (sym (from_one c.args.k c.if-k-eq0.false)) ∙ started_none s (c.args.k - 1) c.start_of-at.result (bytes_of s (λ x. omega (arith, c.type_inv.set x))) c.start_of-at.ensures c.args.n accepted c.if-set-at.true

pub returns-then-set-at-clause-bytes : goal.returns-then-set-at-clause-bytes
returns-then-set-at-clause-bytes c = c.part-then-set-at.ensures.bytes ∙ ap (λ (p : Part). held p c.args.set.now) (sym (past c))

pub returns-then-set-at-clause-place : goal.returns-then-set-at-clause-place
returns-then-set-at-clause-place c = c.part-then-set-at.ensures.place ∙ ap (λ (p : Part). (c.args.set.ref_ptr.0, c.args.set.ref_ptr.1 + p.place)) (sym (past c))

pub end_of-end-requires : goal.end_of-end-requires
end_of-end-requires c = let t = c.start_of-at.ensures in boundary-opened t.n c.args.set.now c.start_of-at.result t.there c.if-set-at.false

pub part-requires-2 : goal.part-requires-2
part-requires-2 c =
    let t = c.start_of-at.ensures in
    let i = (boundary-next t.n c.args.set.now c.start_of-at.result t.there c.if-set-at.false).here.inside in
    let e = c.end_of-end.ensures in (omega (arith, i, e), omega (arith, i, e))

there : (c : goal.After-part-2) → part_of c.args.n c.args.set.now c.args.k ≡ record { place = c.start_of-at.result; size = end_of c.args.set.now (c.start_of-at.result + 1) - c.start_of-at.result }
there c =
    let s = c.args.set.now in
    let accepted : number (decode c.args.n s) ≡ 0 = sym c.check.ensures ∙ number-ok c.check.result (sym c.is_err.ensures.value ∙ c.if-is_err.false) in
    ap (part_of c.args.n s) (sym (from_one c.args.k c.if-k-eq0.false)) ∙ started-part s (c.args.k - 1) c.start_of-at.result (bytes_of s (λ x. omega (arith, c.type_inv.set x))) c.start_of-at.ensures c.args.n accepted c.if-set-at.false

pub returns-clause-bytes : goal.returns-clause-bytes
returns-clause-bytes c = let s = c.args.set.now in let at = c.start_of-at.result in
    c.part-2.ensures.bytes ∙ ap (λ (x : ℕ). take (x - at) (drop at s)) c.end_of-end.ensures ∙ ap (λ (p : Part). held p s) (sym (there c))

pub returns-clause-place : goal.returns-clause-place
returns-clause-place c = c.part-2.ensures.place ∙ ap (λ (p : Part). (c.args.set.ref_ptr.0, c.args.set.ref_ptr.1 + p.place)) (sym (there c))
