use Rattle.std.proofs.Common.{refl, ◌∙◌}
use Rattle.play_save.proofs.Given.{world_ready, world_told}
use Rattle.play_save.proofs.world.world.Goals as goal

pub from_parts-requires : goal.from_parts-requires
from_parts-requires c = record {
  kept = world_ready c.args.parts.now c.args.area c.in_ok-area.area _ c.as_slice.result.now c.as_slice-4.result.now c.as_slice-2.result.now refl c.in_ok-objects.ensures.tells
      c.as_slice.ensures.items c.in_ok-agenda.ensures.tells c.as_slice-2.ensures.items refl c.in_ok-area.ensures.given c.requires.read.counted c.requires.agenda c.requires.turns;
}

pub returns : goal.returns
returns c = record {
  world = c.from_parts.ensures.world ∙ world_told c.args.parts.now c.args.area c.in_ok-area.area c.in_ok-objects.objects c.in_ok-agenda.agenda.waiting c.in_ok-random.random
      c.as_slice.result.now c.as_slice-4.result.now c.as_slice-2.result.now c.as_slice-3.result.now c.requires.read c.in_ok-objects.ensures.tells c.as_slice.ensures.items
      c.in_ok-agenda.ensures.tells c.as_slice-2.ensures.items c.in_ok-random.ensures.ok c.as_slice-3.ensures.items c.in_ok-area.ensures.given c.as_slice-4.ensures.items;
}
