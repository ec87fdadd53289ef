use mathlib.Core.Path.{sym, ap, ◌∙◌}
use lib.IntN.{pos}
use mir.Syntax.{w64}
use mir.Val.{to_z, of_z}
use Rattle.integers.specs.Mach.{result_is}
use Rattle.model.specs.Sets.{Kind, meets, is_zero, equality, inequality, value}
use Rattle.codec.specs.Bytes.{read_constraint}
use Rattle.codec.proofs.Parsing.{kind-equality, kind-inequality}
use lib.Signed.{non_neg}
use Rattle.bounds.proofs.Reading.{nonneg-bits}
use Rattle.query.proofs.Reading.{zero_bits}
use borrow.Author.Rules.{rules}
use Rattle.query.proofs.values.holds_at.Statement.{statement}
use Rattle.query.proofs.values.holds_at.Tie as tie

value-at-requires : tie.Need-value_at-v-requires
value-at-requires c κs = search rules

is-equality-requires : tie.Need-is_equality-requires
is-equality-requires c κs = search rules

returns : tie.Need-returns-then-is_equality
returns c =
    let q = c.before in let v = q.before in let st = v.before.before in
    zero_bits w64 v.value_at-v.result (record { sfits = v.value_at-v.type_inv }) ∙ ap is_zero (v.value_at-v.ensures equality)
    ∙ ap (λ (k : Kind). meets k (value (pos 1) st.args.x.now st.args.q.now (read_constraint k st.args.t.now))) (sym (kind-equality st.args.b (sym q.is_equality.ensures ∙ c.if-is_equality.true)))

returns-2 : tie.Need-returns
returns-2 c =
    let q = c.before in let v = q.before in let st = v.before.before in
    nonneg-bits (to_z w64 (of_z w64 v.value_at-v.result)) ∙ ap non_neg (result_is w64 v.value_at-v.result v.value_at-v.type_inv ∙ v.value_at-v.ensures inequality)
    ∙ ap (λ (k : Kind). meets k (value (pos 1) st.args.x.now st.args.q.now (read_constraint k st.args.t.now))) (sym (kind-inequality st.args.b (sym q.is_equality.ensures ∙ c.if-is_equality.false)))

pub holds_at_spec : {M : Type 1} → statement M
holds_at_spec = tie.close (tie.spec value-at-requires is-equality-requires returns returns-2)
