use Rattle.state_parts.specs.World.{cell_of}
use Rattle.state_parts.specs.ShortTexts.{is_short_cell}
use Rattle.state_parts.specs.KeepingLemmas.{map_more}
use Rattle.state_objects.specs.ListLemmas.{test_at}
use Rattle.state_objects.proofs.values.cells.Goals as goal

pub value-requires : goal.value-requires
value-requires c = record { short = test_at is_short_cell c.args.parts.now c.loop-part.part-index c.part-item.result c.requires.short c.loop-part-test.true c.part-item.is }

pub loop-part-preserved : goal.loop-part-preserved
loop-part-preserved c =
    map_more cell_of c.args.parts.now c.loop-part.part-index c.part-item.result _ c.loop-part.all c.push.new.self c.loop-part.invariant c.in_ok-push.ensures.ok c.in_ok-held.ensures.tells
    c.loop-part-test.true c.part-item.is
