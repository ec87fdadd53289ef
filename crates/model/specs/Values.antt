-- What the code's values mean: the definitions' records.
use Rattle.std.specs.Prelude.{Bool, true, false, map, take}
use Rattle.model.specs.Sets as S
use Rattle.model.specs.Sets.{Kind, equality, inequality}
use Rattle.model.specs.declared.Division.{Division}
use Rattle.model.specs.declared.Constraint.{Constraint}
use Rattle.model.specs.declared.BasicSet.{BasicSet}

abbrev pub kind_is : Bool → Kind
kind_is true = equality
kind_is false = inequality

abbrev pub division_of : Division → S.Division
division_of e = record { divisor = e.divisor; constant = e.constant; axes = e.axes }

abbrev pub constraint_of : Constraint → S.Constraint
constraint_of r = record { kind = kind_is r.equality; number = r.number; constant = r.constant; axes = r.axes; divisions = r.divisions }

abbrev pub basic_set_of : BasicSet → S.BasicSet
basic_set_of b =
    record {
      divisions = map division_of (take b.divs b.divisions);
      constraints = map constraint_of (take b.cons b.constraints);
    }
