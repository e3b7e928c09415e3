use Rattle.std.proofs.Common.{refl}
use Rattle.world_rules.specs.World.{queue_of}
use Rattle.ncs_machine.specs.Host.{scripts_of}
use Rattle.module_player.specs.CodePlays.{script_name}
use Rattle.module_player.proofs.EndLemmas.{items_end, items_go, items_long}
use Rattle.module_player.proofs.closing.put_queue_of.Goals as goal

pub returns-in-None : goal.returns-in-None
returns-in-None c = record {
  lines = items_end (script_name (scripts_of c.args.scripts.now)) c.args.object c.loop-i.i (queue_of c.args.object c.args.world.now.world).actions _ _ c.loop-i.invariant.text c.in-None.ensures.item;
}

pub loop-i-preserved : goal.loop-i-preserved
loop-i-preserved c = record {
  text =
      items_go (script_name (scripts_of c.args.scripts.now)) c.args.object c.loop-i.i _
      (queue_of c.args.object c.args.world.now.world).actions _ _ _ c.in-Some.item.now refl c.loop-i.invariant.text c.in-Some.ensures.item
      c.in_ok-put_item-in-Some.ensures.line;
  long =
      items_long (script_name (scripts_of c.args.scripts.now)) c.args.object c.loop-i.i _ _ _ c.in-Some.item.now refl c.loop-i.invariant.long c.in_ok-put_item-in-Some.ensures.line;
}
