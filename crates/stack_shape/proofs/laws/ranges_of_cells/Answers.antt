use Rattle.stack_shape.proofs.RangeLemmas.{range_of_numbers, numbers_of_range}
use Rattle.stack_shape.proofs.laws.ranges_of_cells.Goals as goal

-- src/laws.rt:11:1
pub returns-clause-every : goal.returns-clause-every
returns-clause-every c = range_of_numbers

-- src/laws.rt:11:1
pub returns-clause-no_other : goal.returns-clause-no_other
returns-clause-no_other c = numbers_of_range
