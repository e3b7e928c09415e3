use Rattle.play_generator.proofs.ReadLemmas.{plan_is_read}
use Rattle.play_generator.proofs.laws.plan_is_read.Goals as goal

pub returns : goal.returns
returns c = record { read = plan_is_read }
