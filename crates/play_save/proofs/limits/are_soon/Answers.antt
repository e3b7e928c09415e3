use Rattle.play_save.proofs.NamesLemmas.{soon_all}
use Rattle.play_save.proofs.limits.are_soon.Goals as goal

pub returns : goal.returns
returns c = record { test = soon_all c.args.entries.now c.test_dues.result c.test_dues.ensures.test }
