use Rattle.command_meaning.proofs.Passing.{units_pass}
use Rattle.command_meaning.proofs.laws.units_pass.Goals as goal

pub returns : goal.returns
returns c = record { pass = units_pass c.typed_units_pass.ensures.pass c.typed_units_have_code.ensures.tokens }
