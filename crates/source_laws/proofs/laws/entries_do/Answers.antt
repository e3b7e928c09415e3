use Rattle.source_laws.proofs.Entries.{entries_do}
use Rattle.source_laws.proofs.laws.entries_do.Goals as goal

pub returns : goal.returns
returns c = record { run = entries_do }
