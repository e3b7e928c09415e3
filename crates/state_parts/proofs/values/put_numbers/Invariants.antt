use Rattle.std.proofs.Common.{ℤ}
use Rattle.state_format.specs.Parts.{IsSigned}
use Rattle.state_format.specs.Fields.{signed_fields}
use Rattle.state_parts.specs.Keeping.{any_text}
use Rattle.state_parts.specs.PuttingLemmas.{ArePut}
use Rattle.state_parts.proofs.values.put_numbers.Given as goal

abbrev pub invariant-loop-n : goal.invariant-loop-n
invariant-loop-n g l = ArePut (λ (n : ℤ). n) IsSigned any_text signed_fields (λ (n : ℤ). n) l.ints (g.W.Writer.taken l.fn.out) l.n-index (g.W.Writer.taken l.out)
