use Rattle.std.proofs.Common.{ap, subst, ◌∙◌}
use Rattle.world_core.specs.Calls.{cells_of}
use Rattle.ncs_machine.specs.Settings.{CodeSetting, scripts_in}
use Rattle.command_work.specs.Work.{Does}
use Rattle.command_plays.specs.Scripts.{plays_code}
use Rattle.command_run.proofs.play.play_code.Goals as goal

pub of-setting-requires-clause-meets : goal.of-setting-requires-clause-meets
of-setting-requires-clause-meets g c = c.in-Ok.ensures.meets c.args.table.now c.requires.meets

pub returns-in-Ok-clause-does : goal.returns-in-Ok-clause-does
returns-in-Ok-clause-does g c = λ tells d.
    subst (λ (s : CodeSetting). Does (plays_code (cells_of s.hooks) s.table c.args.name.now c.args.code.code) d (g.S.Sink.taken c.args.out.now) c.play_listed.result
    d (g.S.Sink.taken c.play_listed.new.out)) c.of-setting.ensures.setting
    (c.play_listed.ensures.does tells c.args.code.code (ap scripts_in c.of-setting.ensures.setting ∙ c.in-Ok.ensures.listed) d)
