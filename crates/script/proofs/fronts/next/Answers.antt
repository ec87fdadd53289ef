use Rattle.std.proofs.Common.{◌≡◌, ◌≢◌, ℕ, true, false, length, get_or, sym, ap, ◌∙◌, arith, rules, tests, Some}
use Rattle.codec.specs.Bytes.{gives}
use Rattle.session.specs.Script.{in_place}
use Rattle.session.proofs.Commands.{width-least}
use Rattle.script.proofs.FrontLaws.{front-none, front-unknown, front-place, front_cut, front-whole, width_of}
use Rattle.script.proofs.fronts.next.Goals as goal

pub returns-then-is_empty : goal.returns-then-is_empty
returns-then-is_empty c =
    let z : length c.args.s.now ≡ 0 = search (rules, tests) in
    c.cut_off.ensures ∙ sym (front-none c.args.axes c.args.ended c.args.s.now z)

pub returns-then-w-eq0 : goal.returns-then-w-eq0
returns-then-w-eq0 c =
    let z : length c.args.s.now ≢ 0 = search (rules, tests) in
    sym (front-unknown c.args.axes c.args.ended c.args.s.now c.fixed_width-w.result z c.fixed_width-w.ensures.is c.if-w-eq0.true)

pub returns-then-not-in_place : goal.returns-then-not-in_place
returns-then-not-in_place c =
    let z : length c.args.s.now ≢ 0 = search (rules, tests) in
    let p : in_place c.args.axes (get_or c.args.s.now 0 0) ≡ false = search (rules, tests) in
    sym (front-place c.args.axes c.args.ended c.args.s.now c.fixed_width-w.result z c.fixed_width-w.ensures.is c.if-w-eq0.false p)

pub returns-then-s-w : goal.returns-then-s-w
returns-then-s-w c =
    let z : length c.args.s.now ≢ 0 = search (rules, tests) in
    let p : in_place c.args.axes (get_or c.args.s.now 0 0) ≡ true = search (rules, tests) in
    let l = width-least c.args.s.now c.fixed_width-w.result z c.fixed_width-w.ensures.is in
    c.cut_off-then-s-w.ensures ∙ sym
    (front_cut c.args.axes c.args.ended c.args.s.now c.fixed_width-w.result z c.fixed_width-w.ensures.is c.if-w-eq0.false p (omega arith))

pub returns-then-s-l : goal.returns-then-s-l
returns-then-s-l c =
    let z : length c.args.s.now ≢ 0 = search (rules, tests) in
    let p : in_place c.args.axes (get_or c.args.s.now 0 0) ≡ true = search (rules, tests) in
    let l = width_of c.args.s.now c.fixed_width-w.result c.load_length.result z c.fixed_width-w.ensures.is c.load_length.ensures.is in
    c.cut_off-then-s-l.ensures ∙ sym
    (front_cut c.args.axes c.args.ended c.args.s.now c.fixed_width-w.result z c.fixed_width-w.ensures.is c.if-w-eq0.false p (omega arith))

pub returns : goal.returns
returns c =
    let z : length c.args.s.now ≢ 0 = search (rules, tests) in
    let p : in_place c.args.axes (get_or c.args.s.now 0 0) ≡ true = search (rules, tests) in
    let l = width_of c.args.s.now c.fixed_width-w.result c.load_length.result z c.fixed_width-w.ensures.is c.load_length.ensures.is in
    ap (λ (k : ℕ). gives (Some k)) l ∙ sym
    (front-whole c.args.axes c.args.ended c.args.s.now c.fixed_width-w.result z c.fixed_width-w.ensures.is c.if-w-eq0.false p (omega arith))
