use Rattle.std.proofs.Common.{◌≡◌, true, false, ℕ, List, ◌∷◌, length, take, get_or, leb, ap, sym, ◌∙◌, arith, rules, tests}
use Rattle.model.specs.Lists.{all}
use Rattle.session.specs.Script.{set_numbers}
use Rattle.session.specs.Turns.{state_in, memory}
use Rattle.session.proofs.Commands.{effect-end, effect-open, effect-bad}
use Rattle.commands.proofs.CommandLaws.{begun, split-first, command-end, command-open, command-bad, command-good, none-command, good-command}
use Rattle.commands.proofs.commands.command.Goals as goal

pub bounds-c-0 : goal.bounds-c-0
bounds-c-0 c = let h = (begun c.args.axes c.args.c.now c.requires.0).some in omega arith

pub tail-s-requires : goal.tail-s-requires
tail-s-requires c = let h = (begun c.args.axes c.args.c.now c.requires.0).some in omega arith

pub returns-then-b-eq0 : goal.returns-then-b-eq0
returns-then-b-eq0 c =
    let l = c.args.c.now in let b = get_or l 0 0 in let st = state_in c.args.axes c.args.tables.now c.args.lengths.now in
    let i = split-first l (begun c.args.axes l c.requires.0).some ∙ ap (λ (s : List ℕ). b ∷ s) (sym c.tail-s.ensures) in record {
      told = command-end c.args.axes c.args.tables.now c.args.lengths.now l _ c.args.out.now _ b _ i c.if-b-eq0.true c.says.ensures c.word.ensures;
      kept = none-command (memory c.args.tables.now c.args.lengths.now c.args.res.now) st l b _ i (effect-end st b _ c.if-b-eq0.true);
    }

pub returns-then-b-eq16 : goal.returns-then-b-eq16
returns-then-b-eq16 c =
    let l = c.args.c.now in let b = get_or l 0 0 in let st = state_in c.args.axes c.args.tables.now c.args.lengths.now in
    let i = split-first l (begun c.args.axes l c.requires.0).some ∙ ap (λ (s : List ℕ). b ∷ s) (sym c.tail-s.ensures) in record {
      told =
          command-open c.args.axes c.args.tables.now c.args.lengths.now l _ c.args.out.now _ b _ i c.if-b-eq16.true c.byte.result c.byte.ensures.is
          c.«open».ensures;
      kept = none-command (memory c.args.tables.now c.args.lengths.now c.args.res.now) st l b _ i (effect-open st b _ c.if-b-eq16.true);
    }

pub returns-then-not-numbers_fit : goal.returns-then-not-numbers_fit
returns-then-not-numbers_fit c =
    let l = c.args.c.now in let b = get_or l 0 0 in let st = state_in c.args.axes c.args.tables.now c.args.lengths.now in
    let i = split-first l (begun c.args.axes l c.requires.0).some ∙ ap (λ (s : List ℕ). b ∷ s) (sym c.tail-s.ensures) in
    let f : c.numbers_fit.result ≡ false = search (rules, tests) in
    let e : all (λ (m : ℕ). leb m 3) (take (set_numbers b) c.tail-s.result.now) ≡ false =
    ap (λ (k : ℕ). all (λ (m : ℕ). leb m 3) (take k c.tail-s.result.now)) (sym c.set_numbers.ensures) ∙ sym c.numbers_fit.ensures ∙ f in record {
      told =
          command-bad c.args.axes c.args.tables.now c.args.lengths.now l _ c.args.out.now _ b _ i c.if-b-eq0.false c.if-b-eq16.false e
          c.says-then-not-numbers_fit.ensures c.refused_line.ensures;
      kept = none-command (memory c.args.tables.now c.args.lengths.now c.args.res.now) st l b _ i (effect-bad st b _ e);
    }

pub returns : goal.returns
returns c =
    let l = c.args.c.now in let b = get_or l 0 0 in let st = state_in c.args.axes c.args.tables.now c.args.lengths.now in
    let i = split-first l (begun c.args.axes l c.requires.0).some ∙ ap (λ (s : List ℕ). b ∷ s) (sym c.tail-s.ensures) in
    let f : c.numbers_fit.result ≡ true = search (rules, tests) in
    let e : all (λ (m : ℕ). leb m 3) (take (set_numbers b) c.tail-s.result.now) ≡ true =
    ap (λ (k : ℕ). all (λ (m : ℕ). leb m 3) (take k c.tail-s.result.now)) (sym c.set_numbers.ensures) ∙ sym c.numbers_fit.ensures ∙ f in record {
      told = command-good c.args.axes c.args.tables.now c.args.lengths.now l _ c.args.out.now _ b _ i c.if-b-eq0.false c.if-b-eq16.false e c.perform.ensures.told;
      kept = good-command (memory c.args.tables.now c.args.lengths.now c.args.res.now) st l b _ i e c.perform.ensures.kept;
    }
