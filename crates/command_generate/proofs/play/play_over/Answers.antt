use Rattle.std.proofs.Common.{map, refl, sym, subst}
use Rattle.world_rules.specs.Trace.{trace_text}
use Rattle.world_core.specs.Calls.{cells_of}
use Rattle.ncs_machine.specs.InSetting.{seen}
use Rattle.ncs_machine.specs.Settings.{scripts_in}
use Rattle.command_plays.specs.Plays.{plan_played}
use Rattle.play_worlds.specs.Worlds.{begun_by, plan_world}
use Rattle.trace_lines.specs.Lines.{HasPlainNames}
use Rattle.command_generate.proofs.PlayLemmas.{all_kept}
use Rattle.command_generate.proofs.play.play_over.Goals as goal

pub returns-clause-does : goal.returns-clause-does
returns-clause-does g c = λ tells d.
    let cell = cells_of (seen c.args.setting.now).hooks in
    let plan = c.args.plan.now in
    let p = plan_played cell c.args.setting.now.code.table plan (scripts_in (seen c.args.setting.now)) (plan_world c.args.area plan) in
    let names = subst HasPlainNames (sym c.requires.header) c.plays_tell_lines.ensures.built_in in
    let lines = c.plays_tell_lines.ensures.lines (scripts_in (seen c.args.setting.now)) (record { table = c.args.setting.now.code.table; cell = cell }) plan.limit plan.entries plan.until c.args.area
    plan.random (map (begun_by c.args.area) plan.events) plan.version names in
    c.tell.ensures.does tells p c.in-Ok.world.world c.in-Ok.ensures.ending
    (all_kept c.bytes.result.now c.play_lines.new.out.taken c.new-trace.result.taken (trace_text p.last.trace) c.bytes.ensures.taken (c.in-Ok.ensures.trace refl)
    c.new-trace.ensures.empty) lines c.clock-clock.ensures.clock d
