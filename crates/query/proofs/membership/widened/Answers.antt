use Rattle.std.proofs.Common.{◌≡◌, length, pos, rules, tests, ◌∙◌, sym, arith}
use Rattle.std.proofs.lemmas.List.{ext_get_or}
use Rattle.query.proofs.membership.widened.Goals as goal

pub returns : goal.returns
returns c =
    let m = c.map.ensures.items in
    let eight : length c.args.p ≡ 8 = search rules in
    (ext_get_or (pos 0) c.map.result c.args.p (m.long ∙ sym eight) (λ i h. let r = m.at i (pos 0) (pos 0) (omega (arith, m.long)) in let g = r.2 in search (rules, tests)), m.long)
