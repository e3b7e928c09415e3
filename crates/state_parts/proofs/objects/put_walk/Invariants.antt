use Rattle.std.proofs.Common.{◌≡◌, drop}
use Rattle.state_format.specs.Parts.{IsVariable}
use Rattle.state_format.specs.Fields.{variable_fields}
use Rattle.state_parts.specs.World.{variable_of}
use Rattle.state_parts.specs.Told.{variable_part}
use Rattle.state_parts.specs.Keeping.{any_text}
use Rattle.state_parts.specs.PuttingLemmas.{ArePut}
use Rattle.state_parts.proofs.objects.put_walk.Given as goal

abbrev pub invariant-loop-done : goal.invariant-loop-done
invariant-loop-done g l = ArePut variable_of IsVariable any_text variable_fields variable_part l.vars (g.W.Writer.taken l.fn.out) l._done (g.W.Writer.taken l.out) × (l.walk ≡ drop l._done l.vars)
