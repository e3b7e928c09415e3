use Rattle.state_format.specs.Parts.{IsItem}
use Rattle.state_format.specs.Fields.{item_fields}
use Rattle.state_parts.specs.World.{item_of}
use Rattle.state_parts.specs.Told.{item_part}
use Rattle.state_parts.specs.ShortTexts.{is_short_item}
use Rattle.state_parts.specs.PuttingLemmas.{ArePut}
use Rattle.state_parts.proofs.objects.put_actions.Given as goal

abbrev pub invariant-loop-i : goal.invariant-loop-i
invariant-loop-i g l = ArePut item_of IsItem is_short_item item_fields item_part l.queue.actions (g.W.Writer.taken l.fn.out) l.i (g.W.Writer.taken l.out)
