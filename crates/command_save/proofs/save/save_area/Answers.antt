use Rattle.hook_table.specs.InHooks.{known_by}
use Rattle.world_core.specs.Calls.{cells_of}
use Rattle.ncs_machine.specs.Host.{scripts_of}
use Rattle.command_work.specs.Calls.{IsName}
use Rattle.command_work.specs.KeepsLemmas.{keeps_all}
use Rattle.command_work.specs.Parts.{then_ok, then_err}
use Rattle.command_play.specs.Files.{keeps_end, keeps_rest}
use Rattle.command_play.specs.Stops.{area_stops}
use Rattle.command_play.specs.Tellings.{StopsGame}
use Rattle.command_save.specs.Inputs.{area_named}
use Rattle.command_save.specs.Saves.{saves_area, saves_plan}
use Rattle.command_save.proofs.save.save_area.Goals as goal

pub returns-in-Err-clause-does : goal.returns-in-Err-clause-does
unfolding saves_area
returns-in-Err-clause-does g c = λ files_tell sink_tells.
    let w = c.args.words in
    let l = c.args.listed.now in
    then_err (area_named w.area.now) (saves_plan (cells_of (known_by c.args.hooks.now)) c.args.header l.plan.now (scripts_of l.scripts.now) w.entries w.state.now)
    c.in-Err.status (g.F.Files.contents c.args.files.now) (g.F.Files.contents c.read_area_file.new.files) (g.S.Sink.taken c.args.out.now)
    (g.S.Sink.taken c.read_area_file.new.out) (c.in-Err.ensures.does files_tell sink_tells)

pub returns-in-Ok-clause-does : goal.returns-in-Ok-clause-does
unfolding saves_area
returns-in-Ok-clause-does g c = λ files_tell sink_tells.
    let w = c.args.words in
    let l = c.args.listed.now in
    then_ok (area_named w.area.now) (saves_plan (cells_of (known_by c.args.hooks.now)) c.args.header l.plan.now (scripts_of l.scripts.now) w.entries w.state.now)
    c.in-Ok.area (g.F.Files.contents c.args.files.now) (g.F.Files.contents c.read_area_file.new.files) (g.F.Files.contents c.save_plan.new.files)
    (g.S.Sink.taken c.args.out.now) (g.S.Sink.taken c.read_area_file.new.out) (g.S.Sink.taken c.save_plan.new.out) c.save_plan.result
    (c.in-Ok.ensures.does files_tell sink_tells) (c.save_plan.ensures.does files_tell sink_tells)

pub returns-in-Err-clause-keeps : goal.returns-in-Err-clause-keeps
returns-in-Err-clause-keeps g c =
    let own = IsName c.args.words.state.now in
    keeps_end g.F.Files.counts g.S.Sink.faults g.F.Files.contents own StopsGame c.args.files.now c.read_area_file.new.files c.read_area_file.new.files
    c.args.out.now c.read_area_file.new.out c.read_area_file.new.out c.in-Err.status c.in-Err.ensures.counts
    (keeps_all own (g.F.Files.contents c.args.files.now) (g.F.Files.contents c.read_area_file.new.files) c.in-Err.ensures.same)
    (area_stops c.in-Err.status c.in-Err.ensures.only)

pub returns-in-Ok-clause-keeps : goal.returns-in-Ok-clause-keeps
returns-in-Ok-clause-keeps g c =
    let own = IsName c.args.words.state.now in
    keeps_rest g.F.Files.counts g.S.Sink.faults g.F.Files.contents own StopsGame c.args.files.now c.read_area_file.new.files c.save_plan.new.files
    c.args.out.now c.read_area_file.new.out c.save_plan.new.out c.save_plan.result c.in-Ok.ensures.counts
    (keeps_all own (g.F.Files.contents c.args.files.now) (g.F.Files.contents c.read_area_file.new.files) c.in-Ok.ensures.same) c.save_plan.ensures.keeps
