-- The file of a typed unit loads and passes the checker.
use Rattle.std.proofs.Common.{◌≤◌, subst}
use Rattle.nwq_value.specs.Limits.{file_limit}
use Rattle.ncs_code.specs.Laws.{SizeLaws}
use Rattle.ncs_emit.specs.Labelled.{program}
use Rattle.emission_rules.specs.Units.{unit_code}
use Rattle.emission_rules.specs.Laws.{FileIsCode}
use Rattle.emission_laws.specs.Laws.{UnitsAreWellStacked}
use Rattle.unit_laws.specs.Laws.{TypedUnitsAreWellTyped, TypedUnitsPass}

pub typed_units_pass : TypedUnitsAreWellTyped → UnitsAreWellStacked → FileIsCode → SizeLaws → TypedUnitsPass
typed_units_pass typed stacked code sizes header tokens tree u table parses types has small = (
  code u has.bounded (subst (λ n. n ≤ file_limit) (sizes.file (program (unit_code u).lines)) small),
  stacked header u has.bounded (typed header tokens tree u table parses types),
)
