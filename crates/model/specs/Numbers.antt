-- The rule's own number (document 02, request 6): a rule under a number, and rules, basic sets and sets without numbers.
use Rattle.std.specs.Prelude.{map, ℕ}
use Rattle.model.specs.Sets.{Constraint, BasicSet, Set}

abbrev pub numbered : ℕ → Constraint → Constraint
numbered m r = record { kind = r.kind; number = m; constant = r.constant; axes = r.axes; divisions = r.divisions }

abbrev pub plain_rule : Constraint → Constraint
plain_rule r = numbered 0 r

abbrev pub plain_basic : BasicSet → BasicSet
plain_basic b = record { divisions = b.divisions; constraints = map plain_rule b.constraints }

abbrev pub plain_set : Set → Set
plain_set s = map plain_basic s
