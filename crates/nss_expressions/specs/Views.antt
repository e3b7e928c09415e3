-- How what code finds is seen as the definitions' own.
use Rattle.std.specs.Prelude.{List}
use Rattle.nss_expressions.specs.declared.known.Known.{Known}
use Rattle.nss_expressions.specs.declared.known.Known.TheVariants.{Variable, Constant}
use Rattle.nss_expressions.specs.declared.called.Called.{Called}
use Rattle.nss_expressions.specs.declared.given.Given.{Given}
use Rattle.nss_scopes.specs.declared.sight.Sight.{Sight}
use Rattle.nss_scopes.specs.Views.{in_sight}
use Rattle.typing_rules.specs.Sight as spec

abbrev pub known_of : Known → spec.Meaning
known_of (Variable n is_local t) = spec.variable n is_local t
known_of (Constant k) = spec.constant k.now

abbrev pub called_of : Called → spec.Called
called_of d = record {
  callee = d.callee;
  params = d.params.now;
  result = d.result;
  is_callable = d.is_callable;
}

-- the declarations of the unit's functions
abbrev pub heads_in : Given → List spec.Head
heads_in g = g.heads.now

abbrev pub sight_in : Given → Sight → spec.Sight
sight_in g c = in_sight g.table.now c
