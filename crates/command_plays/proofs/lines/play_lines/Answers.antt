use Rattle.std.proofs.Common.{IfOk, subst}
use Rattle.plan_text.specs.Plans.{Limits}
use Rattle.saved_state.specs.declared.saved.Saved.{Saved}
use Rattle.world_rules.specs.World.{World}
use Rattle.ncs_machine.specs.InSetting.{seen}
use Rattle.ncs_machine.specs.Settings.{host_in}
use Rattle.module_player.specs.CodePlays.{code_play}
use Rattle.module_player.specs.EndTexts.{IsEnding}
use Rattle.command_plays.specs.Plays.{plan_played_in}
use Rattle.command_plays.specs.Tellings.{TakesLines}
use Rattle.command_plays.proofs.WorldLemmas.{may_play}
use Rattle.command_plays.proofs.lines.play_lines.Goals as goal

pub play_world-requires : goal.play_world-requires
play_world-requires g c = record { world = may_play c.args.area c.args.plan.now c.requires.plan c.in-Ok.world.world c.in-Ok.ensures.world (seen c.args.setting.now) }

pub returns-in-Ok-clause-ending : goal.returns-in-Ok-clause-ending
returns-in-Ok-clause-ending g c =
    subst (λ (w : World Saved). IfOk c.play_world.result (λ answer. IsEnding answer.1 (plan_played_in (seen c.args.setting.now) c.args.plan.now w) answer.0.world))
    c.in-Ok.ensures.world
    (subst (λ (n : Limits). IfOk c.play_world.result (λ answer. IsEnding answer.1 (code_play (host_in (seen c.args.setting.now)) n.0 n.1 n.2 c.in-Ok.world.world) answer.0.world))
    c.limits_of-limits.ensures.limits c.play_world.ensures.ending)

pub returns-in-Ok-clause-trace : goal.returns-in-Ok-clause-trace
returns-in-Ok-clause-trace g c = λ tells.
    subst (λ (w : World Saved). TakesLines g.S.Sink.taken (plan_played_in (seen c.args.setting.now) c.args.plan.now w) c.args.out.now c.play_world.result c.play_world.new.out)
    c.in-Ok.ensures.world
    (subst (λ (n : Limits). TakesLines g.S.Sink.taken (code_play (host_in (seen c.args.setting.now)) n.0 n.1 n.2 c.in-Ok.world.world) c.args.out.now c.play_world.result c.play_world.new.out)
    c.limits_of-limits.ensures.limits (c.play_world.ensures.trace tells))
