use Rattle.ncs_machine.specs.InSetting.{seen}
use Rattle.module_player.proofs.Cutting.{acted_cut}
use Rattle.module_player.proofs.Entering.{acted_turn, actor_on, acts_now, now_is, ready_on, turn_rests, valid_object}
use Rattle.module_player.proofs.entry.turn_entry.Goals as goal

pub action_entry-requires-clause-stored : goal.action_entry-requires-clause-stored
action_entry-requires-clause-stored g c =
    (acts_now (seen c.args.setting.now) _ _ _ _ c.entries_keep_worlds.ensures.turn c.entries_keep_fits.ensures.turn c.keeps.ensures.kept
    (valid_object c.args.object c.args.world.now.world c.requires.actor.first c.requires.actor.within) c.requires.actor.acting c.requires.ready.fit
    (now_is _ _ _ _ c.in-Some.is c.in_ok-turn.ensures.ok)).stored

pub action_entry-requires-clause-ready : goal.action_entry-requires-clause-ready
action_entry-requires-clause-ready g c =
    ready_on _ _ _ _ _ _ _
    (acts_now (seen c.args.setting.now) _ _ _ _ c.entries_keep_worlds.ensures.turn c.entries_keep_fits.ensures.turn c.keeps.ensures.kept
    (valid_object c.args.object c.args.world.now.world c.requires.actor.first c.requires.actor.within) c.requires.actor.acting c.requires.ready.fit
    (now_is _ _ _ _ c.in-Some.is c.in_ok-turn.ensures.ok))
    c.requires.ready c.turn.ensures.room

pub action_entry-requires-clause-actor : goal.action_entry-requires-clause-actor
action_entry-requires-clause-actor g c =
    actor_on (seen c.args.setting.now) _ _ _ _
    (acts_now (seen c.args.setting.now) _ _ _ _ c.entries_keep_worlds.ensures.turn c.entries_keep_fits.ensures.turn c.keeps.ensures.kept
    (valid_object c.args.object c.args.world.now.world c.requires.actor.first c.requires.actor.within) c.requires.actor.acting c.requires.ready.fit
    (now_is _ _ _ _ c.in-Some.is c.in_ok-turn.ensures.ok))
    c.requires.actor

pub returns-in-None : goal.returns-in-None
returns-in-None g c = record {
  entered = turn_rests
      (seen c.args.setting.now) _ _ _ _ c.entries_keep_worlds.ensures.turn c.entries_keep_fits.ensures.turn c.keeps.ensures.kept
      (valid_object c.args.object c.args.world.now.world c.requires.actor.first c.requires.actor.within) c.requires.actor.acting c.requires.ready.fit
      (now_is _ _ _ _ c.in-None.is c.in_ok-turn.ensures.ok);
  cut = tt;
}

pub returns-in-Some : goal.returns-in-Some
returns-in-Some g c =
    let e = now_is _ _ _ _ c.in-Some.is c.in_ok-turn.ensures.ok in
    record {
      entered = acted_turn
          (seen c.args.setting.now) _ _ _ c.action_entry.result _ _ _
          (acts_now (seen c.args.setting.now) _ _ _ _ c.entries_keep_worlds.ensures.turn c.entries_keep_fits.ensures.turn c.keeps.ensures.kept
          (valid_object c.args.object c.args.world.now.world c.requires.actor.first c.requires.actor.within) c.requires.actor.acting c.requires.ready.fit e).few e c.action_entry.ensures.entered;
      cut = acted_cut (seen c.args.setting.now) _ _ _ c.action_entry.result _ _ _ e c.action_entry.ensures.cut;
    }
