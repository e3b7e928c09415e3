use Rattle.typing_rules.specs.Reading.{plain}
use Rattle.emission_rules.specs.Bounds.{weight}
use Rattle.codegen_expr.proofs.places.+home_of.Given as goal

abbrev pub decreases-home_of : goal.decreases-home_of
decreases-home_of l = weight (plain l.e.now)
