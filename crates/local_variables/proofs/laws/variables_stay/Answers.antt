use Rattle.local_variables.proofs.VariableLaws.{put_is_found, dropped_is_gone}
use Rattle.local_variables.proofs.laws.variables_stay.Goals as goal

pub returns : goal.returns
returns c = record { put = put_is_found; dropped = dropped_is_gone }
