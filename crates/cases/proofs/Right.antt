-- Each of the starred cases gives what document 01 says.
use Rattle.std.specs.Prelude.{◌≡◌, refl, true, length}
use Rattle.model.specs.Lists.{all}
use Rattle.cases.specs.Cases.{right, cases}

pub thirteen : length cases ≡ 13
thirteen = refl

pub all_right : all right cases ≡ true
unfolding Rattle.feasibility.specs.Tableau.test_ends Rattle.feasibility.specs.Tableau.ends_at Rattle.feasibility.specs.Tableau.reach Rattle.feasibility.specs.Tableau.look Rattle.feasibility.specs.Tableau.exchange Rattle.algebra.specs.Cut.difference Rattle.algebra.specs.Cut.intersection Rattle.algebra.specs.Cut.complement Rattle.algebra.specs.Cut.cut_all Rattle.algebra.specs.Cut.cut_tight Rattle.algebra.specs.Cut.cut Rattle.codec.specs.Bytes.decode Rattle.codec.specs.Bytes.parse Rattle.codec.specs.Bytes.head_refusal Rattle.codec.specs.Bytes.encode Rattle.algebra.specs.Operations.union_bytes Rattle.algebra.specs.Operations.intersection_bytes Rattle.algebra.specs.Operations.difference_bytes Rattle.algebra.specs.Operations.complement_bytes Rattle.enumeration.specs.Search.first_point Rattle.enumeration.specs.Search.search_box Rattle.enumeration.specs.Search.walk Rattle.query.specs.Member.member_bytes Rattle.enumeration.specs.Search.search_bytes Rattle.session.specs.Script.script Rattle.session.specs.Script.run Rattle.session.specs.Script.ending Rattle.session.specs.Script.execute Rattle.session.specs.Script.perform Rattle.session.specs.Script.load_bytes
all_right = refl
