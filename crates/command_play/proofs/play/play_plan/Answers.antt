use Rattle.std.proofs.Common.{refl, subst}
use Rattle.world_core.specs.Calls.{cells_of}
use Rattle.ncs_machine.specs.Host.{scripts_of}
use Rattle.ncs_machine.specs.InSetting.{seen}
use Rattle.ncs_machine.specs.Settings.{scripts_in}
use Rattle.command_work.specs.Work.{Does}
use Rattle.command_work.specs.Calls.{IsName}
use Rattle.command_work.specs.KeepsLemmas.{keeps_all}
use Rattle.play_worlds.specs.Worlds.{plan_world}
use Rattle.command_plays.specs.Plays.{plan_played}
use Rattle.command_play.specs.Files.{keeps_end, keeps_rest}
use Rattle.command_play.specs.Games.{tells_end}
use Rattle.command_play.specs.Stops.{cut_stops, ends_stop}
use Rattle.command_play.specs.Tellings.{StopsGame}
use Rattle.command_play.proofs.PlayLemmas.{trace_whole}
use Rattle.command_play.proofs.play.play_plan.Goals as goal

pub returns-in-Ok-clause-does : goal.returns-in-Ok-clause-does
returns-in-Ok-clause-does g c = λ files_tell sink_tells.
    let s = seen c.args.setting.now in
    let p = plan_played (cells_of s.hooks) s.table c.args.plan.now (scripts_in s) (plan_world c.args.area c.args.plan.now) in
    trace_whole (cells_of s.hooks) s.table c.args.area c.args.plan.now c.args.to.now (scripts_in s) (g.F.Files.contents c.args.files.now)
    (g.F.Files.contents c.tell_end.new.files) (g.S.Sink.taken c.args.out.now) (g.S.Sink.taken c.play_lines.new.out) c.tell_end.result
    (g.S.Sink.taken c.tell_end.new.out) (c.in-Ok.ensures.trace sink_tells)
    (subst (λ l. Does (tells_end c.args.to.now (scripts_of l) p) (g.F.Files.contents c.args.files.now) (g.S.Sink.taken c.play_lines.new.out) c.tell_end.result
    (g.F.Files.contents c.tell_end.new.files) (g.S.Sink.taken c.tell_end.new.out)) c.scripts.ensures.scripts
    (c.tell_end.ensures.does files_tell sink_tells p c.in-Ok.ensures.ending))

pub returns-in-Err-clause-keeps : goal.returns-in-Err-clause-keeps
returns-in-Err-clause-keeps g c =
    keeps_end g.F.Files.counts g.S.Sink.faults g.F.Files.contents (IsName c.args.to.now) StopsGame c.args.files.now c.args.files.now c.args.files.now c.args.out.now
    c.play_lines.new.out c.play_lines.new.out c.in-Err.status (c.in-Err.ensures.counts (g.F.Files.counts c.args.files.now))
    (keeps_all (IsName c.args.to.now) (g.F.Files.contents c.args.files.now) (g.F.Files.contents c.args.files.now) refl) (cut_stops c.in-Err.status c.in-Err.ensures.only)

pub returns-in-Ok-clause-keeps : goal.returns-in-Ok-clause-keeps
returns-in-Ok-clause-keeps g c =
    keeps_rest g.F.Files.counts g.S.Sink.faults g.F.Files.contents (IsName c.args.to.now) StopsGame c.args.files.now c.args.files.now c.tell_end.new.files
    c.args.out.now c.play_lines.new.out c.tell_end.new.out c.tell_end.result (c.in-Ok.ensures.counts (g.F.Files.counts c.args.files.now))
    (keeps_all (IsName c.args.to.now) (g.F.Files.contents c.args.files.now) (g.F.Files.contents c.args.files.now) refl)
    (record { counts = c.tell_end.ensures.counts; names = c.tell_end.ensures.names; only = ends_stop c.tell_end.result c.tell_end.ensures.only })
