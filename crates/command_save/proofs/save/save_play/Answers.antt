use Rattle.hook_table.specs.InHooks.{known_by}
use Rattle.world_core.specs.Calls.{cells_of}
use Rattle.command_work.specs.Counts.{Counted}
use Rattle.command_work.specs.KeepsLemmas.{keeps_all, keeps_after}
use Rattle.command_work.specs.Parts.{then_ok, then_err}
use Rattle.play_inputs.specs.Plans.{plan_named}
use Rattle.command_save.specs.Saves.{saves, saves_under}
use Rattle.command_play.specs.Tellings.{IsGameFile}
use Rattle.std.proofs.Common.{ap}
use Rattle.nwq_outside.specs.Outside.{next}
use Rattle.command_sources.specs.Reads.{header_read}
use Rattle.command_play.specs.Reads.{area_after, game_of}
use Rattle.command_save.proofs.PartLemmas.{counted_on}
use Rattle.command_save.proofs.save.save_play.Goals as goal

pub save_under-requires-clause-takes : goal.save_under-requires-clause-takes
save_under-requires-clause-takes g c = record { kept = c.in-Ok.ensures.keeps; some = c.requires.some }

pub returns-in-Err-clause-does : goal.returns-in-Err-clause-does
unfolding saves
returns-in-Err-clause-does g c = λ files_tell sink_tells.
    let w = c.args.words in
    then_err (plan_named w.plan.now) (saves_under (cells_of (known_by c.args.hooks.now)) w.header.now w.area.now w.entries w.state.now) c.in-Err.status
    (g.F.Files.contents c.args.files.now) (g.F.Files.contents c.read_plan_file.new.files) (g.S.Sink.taken c.args.out.now)
    (g.S.Sink.taken c.read_plan_file.new.out) (c.in-Err.ensures.does files_tell sink_tells)

pub returns-in-Ok-clause-does : goal.returns-in-Ok-clause-does
unfolding saves
returns-in-Ok-clause-does g c = λ files_tell sink_tells.
    let w = c.args.words in
    then_ok (plan_named w.plan.now) (saves_under (cells_of (known_by c.args.hooks.now)) w.header.now w.area.now w.entries w.state.now) c.in-Ok.plan
    (g.F.Files.contents c.args.files.now) (g.F.Files.contents c.read_plan_file.new.files) (g.F.Files.contents c.save_under.new.files)
    (g.S.Sink.taken c.args.out.now) (g.S.Sink.taken c.read_plan_file.new.out) (g.S.Sink.taken c.save_under.new.out) c.save_under.result
    (c.in-Ok.ensures.does files_tell sink_tells) (c.save_under.ensures.does files_tell sink_tells)

pub returns-in-Err-clause-names : goal.returns-in-Err-clause-names
returns-in-Err-clause-names g c = keeps_all (IsGameFile c.args.words.state.now) (g.F.Files.contents c.args.files.now) (g.F.Files.contents c.read_plan_file.new.files) c.in-Err.ensures.same

pub returns-in-Ok-clause-counts : goal.returns-in-Ok-clause-counts
returns-in-Ok-clause-counts g c =
    counted_on c.save_under.result (Counted (g.F.Files.counts c.args.files.now) (g.S.Sink.faults c.args.out.now))
    (Counted (g.F.Files.counts c.read_plan_file.new.files) (g.S.Sink.faults c.read_plan_file.new.out))
    (Counted (g.F.Files.counts c.save_under.new.files) (g.S.Sink.faults c.save_under.new.out)) c.in-Ok.ensures.counts c.save_under.ensures.keeps.counts

pub returns-in-Ok-clause-only : goal.returns-in-Ok-clause-only
returns-in-Ok-clause-only g c = c.save_under.ensures.keeps.only

pub returns-in-Ok-clause-names : goal.returns-in-Ok-clause-names
returns-in-Ok-clause-names g c =
    keeps_after (IsGameFile c.args.words.state.now) (g.F.Files.contents c.args.files.now)
    (g.F.Files.contents c.read_plan_file.new.files)
    (g.F.Files.contents c.save_under.new.files) c.in-Ok.ensures.same c.save_under.ensures.keeps.names

pub returns-in-Ok-clause-once : goal.returns-in-Ok-clause-once
returns-in-Ok-clause-once g c = λ files_tell sink_tells.
    game_of c.save_under.result c.args.words.header.now c.args.words.plan.now c.in-Ok.plan (g.F.Files.contents c.args.files.now) (g.F.Files.reads c.args.files.now)
    (g.F.Files.reads c.save_under.new.files) (c.in-Ok.ensures.has files_tell sink_tells)
    (area_after c.save_under.result c.in-Ok.plan.scripts (g.F.Files.contents c.args.files.now) (g.F.Files.contents c.read_plan_file.new.files)
    (header_read c.args.words.header.now (next (g.F.Files.reads c.args.files.now))) (header_read c.args.words.header.now (g.F.Files.reads c.read_plan_file.new.files))
    (g.F.Files.reads c.save_under.new.files) c.in-Ok.ensures.same (ap (header_read c.args.words.header.now) c.read_plan_file.ensures.once)
    (c.save_under.ensures.once files_tell))
