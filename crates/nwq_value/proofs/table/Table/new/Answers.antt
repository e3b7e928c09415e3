use Rattle.nwq_value.proofs.FoundLemmas.{found_nothing}
use Rattle.nwq_value.specs.TableLemmas.{table_empty}
use Rattle.nwq_value.proofs.table.Table.new.Goals as goal

pub invariant_of-result : goal.invariant_of-result
invariant_of-result c = rw (c.new.ensures.empty, c.new-2.ensures.empty, c.new-3.ensures.empty) (found_nothing, table_empty)
