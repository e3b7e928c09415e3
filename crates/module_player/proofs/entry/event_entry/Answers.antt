use Rattle.ncs_machine.specs.InSetting.{seen}
use Rattle.std.proofs.Common.{sym}
use Rattle.module_player.proofs.Cutting.{listed_cut}
use Rattle.module_player.proofs.Entering.{event_unlisted, listed_event, some_bytes}
use Rattle.module_player.proofs.entry.event_entry.Goals as goal

pub returns-in_ok-no_script-in-None : goal.returns-in_ok-no_script-in-None
returns-in_ok-no_script-in-None g c = record {
  entered = event_unlisted _ _ _ _ _ _ (some_bytes _ _ _ c.bytes.ensures.same c.is_empty.ensures c.if-is_empty.false)
      (sym c.in-None.ensures.number) c.in_ok-no_script-in-None.ensures.ok c.requires.ready.fit;
  cut = tt;
}

pub returns-in-Some : goal.returns-in-Some
returns-in-Some g c = record {
  entered = listed_event _ _ _ _ _ c.script_entry.result _ _
      (some_bytes _ _ _ c.bytes.ensures.same c.is_empty.ensures c.if-is_empty.false)
      (sym c.in-Some.ensures.number) c.script_entry.ensures.entered;
  cut = listed_cut (seen c.args.setting.now) c.args.limits.instructions c.args.object _ c.args.name.now c.script_entry.result c.args.world.now.world c.script_entry.new.world.world
      (some_bytes _ _ _ c.bytes.ensures.same c.is_empty.ensures c.if-is_empty.false) (sym c.in-Some.ensures.number) c.script_entry.ensures.cut;
}
