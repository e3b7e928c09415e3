use Rattle.state_parts.specs.World.{item_of}
use Rattle.state_parts.specs.ShortTexts.{is_short_item}
use Rattle.state_objects.specs.ListLemmas.{test_at}
use Rattle.state_objects.proofs.Queues.{queue_more}
use Rattle.state_objects.proofs.things.queue.Goals as goal

pub item-requires : goal.item-requires
item-requires c = record { short = test_at is_short_item c.args.parts.now c.loop-part.part-index c.part-item.result c.requires.short c.loop-part-test.true c.part-item.is }

pub loop-part-preserved : goal.loop-part-preserved
loop-part-preserved c =
    queue_more item_of c.args.busy c.args.parts.now c.loop-part.part-index c.part-item.result _ c.loop-part.queue c.append.new.self c.loop-part.invariant c.in_ok-append.ensures.ok
    c.in_ok-next.ensures.tells c.loop-part-test.true c.part-item.is
