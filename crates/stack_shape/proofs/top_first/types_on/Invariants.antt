use Rattle.std.proofs.Common.{reverse}
use Rattle.stack_shape.proofs.Tops.{SoFar}
use Rattle.stack_shape.proofs.top_first.types_on.Given as goal

abbrev pub invariant-loop-i : goal.invariant-loop-i
invariant-loop-i l = SoFar (reverse l.slots) l.count l.i l.types
