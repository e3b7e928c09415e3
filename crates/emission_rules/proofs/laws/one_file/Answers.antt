use Rattle.std.proofs.Common.{ap}
use Rattle.emission_rules.specs.Units.{unit_file}
use Rattle.emission_rules.proofs.laws.one_file.Goals as goal

pub returns : goal.returns
returns c = record { one = λ table u s t f g. ap unit_file (c.one_typed.ensures.one table u s t f g) }
