use Rattle.std.proofs.Common.{ap, ◌∙◌}
use Rattle.area_rules.specs.Area.{area_of}
use Rattle.play_generator.specs.Made.{Play, area_tree}
use Rattle.world_core.specs.Calls.{cells_of}
use Rattle.ncs_machine.specs.InSetting.{seen}
use Rattle.ncs_machine.specs.Settings.{scripts_in}
use Rattle.command_generate.proofs.PlayLemmas.{made_does}
use Rattle.command_generate.proofs.play.play_listed.Goals as goal

pub returns-in-Ok-made_plan-clause-does : goal.returns-in-Ok-made_plan-clause-does
returns-in-Ok-made_plan-clause-does g c = λ tells ops is d.
    made_does (cells_of (seen c.args.setting.now).hooks) c.args.number ops d c.args.setting.now.code.table c.in-Ok.area c.in-Ok-made_plan.plan
    (scripts_in (seen c.args.setting.now)) c.play_over.result (g.S.Sink.taken c.args.out.now) (g.S.Sink.taken c.play_over.new.out) c.requires.made.built_in
    (c.in-Ok.ensures.area ∙ ap (λ n. area_of (area_tree n)) (c.creatures.ensures.creatures ∙ ap (λ (m : Play). m.creatures) c.requires.made.is))
    c.in-Ok-made_plan.ensures.plan is (c.play_over.ensures.does tells d)
