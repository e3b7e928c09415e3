use Rattle.command_generate.proofs.AreaLemmas.{whole_area}
use Rattle.command_generate.proofs.laws.made_areas_are_whole.Goals as goal

pub returns : goal.returns
returns c = record { whole = whole_area }
