use Rattle.state_parts.specs.World.{things_of}
use Rattle.state_parts.specs.ShortTexts.{has_short_items}
use Rattle.state_parts.specs.KeepingLemmas.{map_more}
use Rattle.state_objects.specs.ListLemmas.{test_at}
use Rattle.state_objects.proofs.things.objects.Goals as goal

pub things-requires : goal.things-requires
things-requires c = record { short = test_at has_short_items c.args.parts.now c.loop-part.part-index c.part-item.result c.requires.short c.loop-part-test.true c.part-item.is }

pub loop-part-preserved : goal.loop-part-preserved
loop-part-preserved c =
    map_more things_of c.args.parts.now c.loop-part.part-index c.part-item.result _ c.loop-part.all c.push.new.self c.loop-part.invariant c.in_ok-push.ensures.ok c.in_ok-kept.ensures.tells
    c.loop-part-test.true c.part-item.is
