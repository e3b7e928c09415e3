use Rattle.std.proofs.Common.{◌≡◌, drop}
use Rattle.state_format.specs.Parts.{IsStanding}
use Rattle.state_format.specs.Fields.{standing_fields}
use Rattle.state_parts.specs.World.{stood_of}
use Rattle.state_parts.specs.Told.{stood_part}
use Rattle.state_parts.specs.Keeping.{any_text}
use Rattle.state_parts.specs.PuttingLemmas.{ArePut}
use Rattle.state_parts.proofs.objects.put_effects.Given as goal

abbrev pub invariant-loop-done : goal.invariant-loop-done
invariant-loop-done g l = ArePut stood_of IsStanding any_text standing_fields stood_part l.effects (g.W.Writer.taken l.fn.out) l._done (g.W.Writer.taken l.out) × (l.walk ≡ drop l._done l.effects)
