use Rattle.std.proofs.Common.{arith}
use Rattle.gff_write.proofs.ranges.byte_ranges.Goals as goal

pub returns : goal.returns
returns c i = omega (arith, c.type_inv.bytes i)
