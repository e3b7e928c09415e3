use Rattle.source_laws.proofs.Listed.{listed_scripts_do}
use Rattle.source_laws.proofs.laws.listed_scripts_do.Goals as goal

pub returns : goal.returns
returns c = record { run = listed_scripts_do c.equality_is_tested.ensures.tested c.code_stands.ensures.stands }
