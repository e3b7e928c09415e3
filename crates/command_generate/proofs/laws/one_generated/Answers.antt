use Rattle.command_generate.proofs.OneGenerated.{sure_generated}
use Rattle.command_generate.proofs.laws.one_generated.Goals as goal

pub returns : goal.returns
returns c = record { generated = sure_generated c.one_script.ensures.compiled c.one_check.ensures.loaded }
