use Rattle.ncs_machine.specs.InSetting.{seen}
use Rattle.command_plays.proofs.WorldLemmas.{may_play, first_keeps}
use Rattle.command_plays.proofs.part.play_first.Goals as goal

pub play_part-requires-clause-world : goal.play_part-requires-clause-world
play_part-requires-clause-world g c = may_play c.args.area c.args.plan.now c.requires.plan c.in-Ok.world.world c.in-Ok.ensures.world (seen c.args.setting.now)

pub returns-in-Ok-clause-kept : goal.returns-in-Ok-clause-kept
returns-in-Ok-clause-kept g c =
    first_keeps c.args.area c.args.plan.now c.requires.plan c.in-Ok.world.world c.in-Ok.ensures.world (λ a. a.1) (λ a. a.0.world) (seen c.args.setting.now)
    c.play_part.result c.play_part.ensures.kept
