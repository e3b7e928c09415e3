use Rattle.nss_include.proofs.OneUnit.{one_unit}
use Rattle.nss_include.proofs.laws.one_unit.Goals as goal

pub returns : goal.returns
returns c = record { one = one_unit c.one_split.ensures.one }
