use Rattle.source_laws.proofs.Captures.{captures_are_carried}
use Rattle.source_laws.proofs.laws.captures_are_carried.Goals as goal

pub returns : goal.returns
returns c = record { carried = captures_are_carried }
