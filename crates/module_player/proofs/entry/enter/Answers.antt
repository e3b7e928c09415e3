use Rattle.ncs_machine.specs.InSetting.{seen}
use Rattle.module_player.proofs.Cutting.{event_entry_cut, kept_cut, stored_entry_cut, turn_entry_cut}
use Rattle.module_player.proofs.Entering.{stored_entry, unapply_entry}
use Rattle.module_player.proofs.entry.enter.Goals as goal

pub returns-in-Stored : goal.returns-in-Stored
returns-in-Stored g c = record {
  entered = stored_entry _ _ _ 0 _ _ _ c.script_entry.result _ _ c.in-Stored.is c.script_entry.ensures.entered;
  cut = stored_entry_cut
      (seen c.args.setting.now) c.args.limits.instructions _ 0 c.args.entry.number _ _ c.script_entry.result c.args.world.now.world c.script_entry.new.world.world c.in-Stored.is
      c.script_entry.ensures.cut;
}

pub returns-in-Unapply : goal.returns-in-Unapply
returns-in-Unapply g c = record {
  entered = unapply_entry _ _ _ _ _ c.unapply_entry.result _ _ c.in-Unapply.is c.requires.ready.fit c.unapply_entry.ensures.quiet c.unapply_entry.ensures.world c.unapply_entry.ensures.few
      c.unapply_entry.ensures.fit;
  cut = kept_cut _ _ c.unapply_entry.result _ _ c.unapply_entry.ensures.kept;
}

pub returns-in-Event-clause-cut : goal.returns-in-Event-clause-cut
returns-in-Event-clause-cut g c =
    event_entry_cut (seen c.args.setting.now) c.args.limits.instructions
    c.in-Event.object c.args.entry.number _ _ _ c.event_entry.result c.args.world.now.world c.event_entry.new.world.world c.in-Event.is c.event_entry.ensures.cut

pub returns-in-Turn-clause-cut : goal.returns-in-Turn-clause-cut
returns-in-Turn-clause-cut g c =
    turn_entry_cut (seen c.args.setting.now) c.args.limits.instructions
    c.in-Turn.object c.args.entry.number _ c.turn_entry.result c.args.world.now.world c.turn_entry.new.world.world c.in-Turn.is c.turn_entry.ensures.cut
