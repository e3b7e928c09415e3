use Rattle.stack_shape.proofs.RangeLemmas.{cells_of_bytes, depth_of_offset}
use Rattle.stack_shape.proofs.laws.cells_of_bytes.Goals as goal

-- src/laws.rt:5:1
pub returns-clause-count : goal.returns-clause-count
returns-clause-count c = cells_of_bytes

-- src/laws.rt:5:1
pub returns-clause-depth : goal.returns-clause-depth
returns-clause-depth c = depth_of_offset
