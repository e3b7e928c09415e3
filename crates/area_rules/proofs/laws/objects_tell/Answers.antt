use Rattle.area_rules.proofs.DistinctLemmas.{table_distinct, objects_distinct}
use Rattle.area_rules.proofs.laws.objects_tell.Goals as goal

pub returns : goal.returns
returns c = record { tables = table_distinct c.variables_tell.ensures.same; objects = objects_distinct c.variables_tell.ensures.same }
