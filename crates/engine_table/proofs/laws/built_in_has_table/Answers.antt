use Rattle.engine_table.proofs.BuiltIn.{has_table}
use Rattle.engine_table.proofs.laws.built_in_has_table.Goals as goal

pub returns : goal.returns
returns c = record { table = has_table c.computed_tokens.ensures.tokens }
