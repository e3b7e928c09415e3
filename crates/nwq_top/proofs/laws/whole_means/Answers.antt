use Rattle.nwq_top.proofs.WholeMeaning.{whole_means}
use Rattle.nwq_top.proofs.laws.whole_means.Goals as goal

pub returns : goal.returns
returns c = record { means = whole_means c.work_means.ensures.means c.one_set_of_tables.ensures.tables }
