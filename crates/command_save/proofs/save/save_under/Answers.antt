use Rattle.hook_table.specs.InHooks.{known_by}
use Rattle.world_core.specs.Calls.{cells_of}
use Rattle.command_work.specs.KeepsLemmas.{keeps_all}
use Rattle.command_work.specs.Parts.{then_ok, then_err}
use Rattle.command_play.specs.Files.{keeps_end, keeps_rest}
use Rattle.command_play.specs.Stops.{source_stops}
use Rattle.command_play.specs.Tellings.{IsGameFile, StopsGame}
use Rattle.command_save.specs.Inputs.{header_of}
use Rattle.command_save.specs.Saves.{saves_scripts, saves_under}
use Rattle.command_sources.specs.Reads.{header_read}
use Rattle.command_play.specs.Reads.{area_after}
use Rattle.command_save.proofs.save.save_under.Goals as goal

pub returns-in-Err-clause-does : goal.returns-in-Err-clause-does
unfolding saves_under
returns-in-Err-clause-does g c = λ files_tell sink_tells.
    let w = c.args.words in
    then_err (header_of w.header.now) (saves_scripts (cells_of (known_by c.args.hooks.now)) w.area.now c.args.plan.now w.entries w.state.now) c.in-Err.status
    (g.F.Files.contents c.args.files.now) (g.F.Files.contents c.read_header.new.files) (g.S.Sink.taken c.args.out.now) (g.S.Sink.taken c.read_header.new.out)
    (c.in-Err.ensures.does files_tell sink_tells)

pub returns-in-Ok-clause-does : goal.returns-in-Ok-clause-does
unfolding saves_under
returns-in-Ok-clause-does g c = λ files_tell sink_tells.
    let w = c.args.words in
    then_ok (header_of w.header.now) (saves_scripts (cells_of (known_by c.args.hooks.now)) w.area.now c.args.plan.now w.entries w.state.now) c.in-Ok.header
    (g.F.Files.contents c.args.files.now) (g.F.Files.contents c.read_header.new.files) (g.F.Files.contents c.save_scripts.new.files)
    (g.S.Sink.taken c.args.out.now) (g.S.Sink.taken c.read_header.new.out) (g.S.Sink.taken c.save_scripts.new.out) c.save_scripts.result
    (c.in-Ok.ensures.does files_tell sink_tells) (c.save_scripts.ensures.does files_tell sink_tells)

pub returns-in-Err-clause-keeps : goal.returns-in-Err-clause-keeps
returns-in-Err-clause-keeps g c =
    let own = IsGameFile c.args.words.state.now in
    keeps_end g.F.Files.counts g.S.Sink.faults g.F.Files.contents own StopsGame c.args.files.now c.read_header.new.files
    c.read_header.new.files c.args.out.now c.read_header.new.out c.read_header.new.out c.in-Err.status c.in-Err.ensures.counts
    (keeps_all own (g.F.Files.contents c.args.files.now) (g.F.Files.contents c.read_header.new.files) c.in-Err.ensures.same)
    (source_stops c.in-Err.status c.in-Err.ensures.only)

pub returns-in-Ok-clause-keeps : goal.returns-in-Ok-clause-keeps
returns-in-Ok-clause-keeps g c =
    let own = IsGameFile c.args.words.state.now in
    keeps_rest g.F.Files.counts g.S.Sink.faults g.F.Files.contents own StopsGame c.args.files.now c.read_header.new.files
    c.save_scripts.new.files c.args.out.now c.read_header.new.out c.save_scripts.new.out c.save_scripts.result c.in-Ok.ensures.counts
    (keeps_all own (g.F.Files.contents c.args.files.now) (g.F.Files.contents c.read_header.new.files) c.in-Ok.ensures.same) c.save_scripts.ensures.keeps

pub returns-in-Ok-clause-once : goal.returns-in-Ok-clause-once
returns-in-Ok-clause-once g c = λ tells.
    area_after c.save_scripts.result c.args.plan.now.scripts (g.F.Files.contents c.args.files.now) (g.F.Files.contents c.read_header.new.files)
    (header_read c.args.words.header.now (g.F.Files.reads c.args.files.now)) (g.F.Files.reads c.read_header.new.files) (g.F.Files.reads c.save_scripts.new.files)
    c.in-Ok.ensures.same c.read_header.ensures.once (c.save_scripts.ensures.once tells)
