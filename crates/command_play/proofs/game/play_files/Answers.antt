use Rattle.std.proofs.Common.{Err, ap, ◌∙◌}
use Rattle.nwq_outside.specs.Outside.{next}
use Rattle.hook_table.specs.InHooks.{known_by}
use Rattle.world_core.specs.Calls.{cells_of}
use Rattle.command_work.specs.Counts.{Counted}
use Rattle.command_work.specs.KeepsLemmas.{keeps_all, keeps_after}
use Rattle.command_work.specs.Parts.{then_ok, then_err}
use Rattle.command_sources.specs.Headers.{table_of_word}
use Rattle.command_sources.specs.Reads.{header_read}
use Rattle.play_inputs.specs.Plans.{plan_named}
use Rattle.command_play.specs.Games.{plays, plays_scripts, plays_under}
use Rattle.command_play.specs.Reads.{area_after, game_of}
use Rattle.command_play.specs.Tellings.{IsGameFile}
use Rattle.command_play.proofs.TellLemmas.{counted_on}
use Rattle.command_play.proofs.game.play_files.Goals as goal

-- ---- the work

pub returns-in-Err-clause-does : goal.returns-in-Err-clause-does
unfolding plays
returns-in-Err-clause-does g c = λ files_tell sink_tells.
    then_err (plan_named c.args.game.plan.now)
    (plays_under (cells_of (known_by c.args.hooks.now)) c.args.game.header.now c.args.game.area.now c.args.game.to.now) c.in-Err.status
    (g.F.Files.contents c.args.files.now) (g.F.Files.contents c.read_plan_file.new.files) (g.S.Sink.taken c.args.out.now)
    (g.S.Sink.taken c.read_plan_file.new.out) (c.in-Err.ensures.does files_tell sink_tells)

pub returns-in-Err-read_table-clause-does : goal.returns-in-Err-read_table-clause-does
unfolding plays plays_under
returns-in-Err-read_table-clause-does g c = λ files_tell sink_tells.
    let cell = cells_of (known_by c.args.hooks.now) in
    let mid = g.F.Files.contents c.read_plan_file.new.files in
    let told = g.S.Sink.taken c.read_plan_file.new.out in
    then_ok (plan_named c.args.game.plan.now) (plays_under cell c.args.game.header.now c.args.game.area.now c.args.game.to.now) c.in-Ok.plan
    (g.F.Files.contents c.args.files.now) mid (g.F.Files.contents c.read_table.new.files) (g.S.Sink.taken c.args.out.now) told
    (g.S.Sink.taken c.read_table.new.out) (Err c.in-Err-read_table.status) (c.in-Ok.ensures.does files_tell sink_tells)
    (then_err (table_of_word c.args.game.header.now) (plays_scripts cell c.args.game.area.now c.in-Ok.plan c.args.game.to.now) c.in-Err-read_table.status mid
    (g.F.Files.contents c.read_table.new.files) told (g.S.Sink.taken c.read_table.new.out) (c.in-Err-read_table.ensures.does files_tell sink_tells))

pub returns-in-Ok-read_table-clause-does : goal.returns-in-Ok-read_table-clause-does
unfolding plays plays_under
returns-in-Ok-read_table-clause-does g c = λ files_tell sink_tells.
    let cell = cells_of (known_by c.args.hooks.now) in
    let mid = g.F.Files.contents c.read_plan_file.new.files in
    let told = g.S.Sink.taken c.read_plan_file.new.out in
    then_ok (plan_named c.args.game.plan.now) (plays_under cell c.args.game.header.now c.args.game.area.now c.args.game.to.now) c.in-Ok.plan
    (g.F.Files.contents c.args.files.now) mid (g.F.Files.contents c.play_scripts.new.files) (g.S.Sink.taken c.args.out.now) told
    (g.S.Sink.taken c.play_scripts.new.out) c.play_scripts.result (c.in-Ok.ensures.does files_tell sink_tells)
    (then_ok (table_of_word c.args.game.header.now) (plays_scripts cell c.args.game.area.now c.in-Ok.plan c.args.game.to.now) c.in-Ok-read_table.table mid
    (g.F.Files.contents c.read_table.new.files) (g.F.Files.contents c.play_scripts.new.files) told (g.S.Sink.taken c.read_table.new.out)
    (g.S.Sink.taken c.play_scripts.new.out) c.play_scripts.result (c.in-Ok-read_table.ensures.does files_tell sink_tells)
    (c.play_scripts.ensures.does files_tell sink_tells))

-- ---- what it keeps to

pub returns-in-Err-read_table-clause-counts : goal.returns-in-Err-read_table-clause-counts
returns-in-Err-read_table-clause-counts g c =
    counted_on (Err c.in-Err-read_table.status) (Counted (g.F.Files.counts c.args.files.now) (g.S.Sink.faults c.args.out.now))
    (Counted (g.F.Files.counts c.read_plan_file.new.files) (g.S.Sink.faults c.read_plan_file.new.out))
    (Counted (g.F.Files.counts c.read_table.new.files) (g.S.Sink.faults c.read_table.new.out)) c.in-Ok.ensures.counts c.in-Err-read_table.ensures.counts

pub returns-in-Ok-read_table-clause-counts : goal.returns-in-Ok-read_table-clause-counts
returns-in-Ok-read_table-clause-counts g c =
    counted_on c.play_scripts.result (Counted (g.F.Files.counts c.args.files.now) (g.S.Sink.faults c.args.out.now))
    (Counted (g.F.Files.counts c.read_table.new.files) (g.S.Sink.faults c.read_table.new.out))
    (Counted (g.F.Files.counts c.play_scripts.new.files) (g.S.Sink.faults c.play_scripts.new.out))
    (c.in-Ok-read_table.ensures.counts ∙ c.in-Ok.ensures.counts) c.play_scripts.ensures.keeps.counts

pub returns-in-Err-clause-names : goal.returns-in-Err-clause-names
returns-in-Err-clause-names g c = keeps_all (IsGameFile c.args.game.to.now) (g.F.Files.contents c.args.files.now) (g.F.Files.contents c.read_plan_file.new.files) c.in-Err.ensures.same

pub returns-in-Err-read_table-clause-names : goal.returns-in-Err-read_table-clause-names
returns-in-Err-read_table-clause-names g c =
    keeps_all (IsGameFile c.args.game.to.now) (g.F.Files.contents c.args.files.now) (g.F.Files.contents c.read_table.new.files)
    (c.in-Err-read_table.ensures.same ∙ c.in-Ok.ensures.same)

pub returns-in-Ok-read_table-clause-names : goal.returns-in-Ok-read_table-clause-names
returns-in-Ok-read_table-clause-names g c =
    keeps_after (IsGameFile c.args.game.to.now) (g.F.Files.contents c.args.files.now) (g.F.Files.contents c.read_table.new.files)
    (g.F.Files.contents c.play_scripts.new.files) (c.in-Ok-read_table.ensures.same ∙ c.in-Ok.ensures.same) c.play_scripts.ensures.keeps.names

pub returns-in-Ok-read_table-clause-only : goal.returns-in-Ok-read_table-clause-only
returns-in-Ok-read_table-clause-only g c = c.play_scripts.ensures.keeps.only

pub returns-in-Ok-read_table-clause-once : goal.returns-in-Ok-read_table-clause-once
returns-in-Ok-read_table-clause-once g c = λ files_tell sink_tells.
    let header = c.args.game.header.now in
    game_of c.play_scripts.result header c.args.game.plan.now c.in-Ok.plan (g.F.Files.contents c.args.files.now) (g.F.Files.reads c.args.files.now)
    (g.F.Files.reads c.play_scripts.new.files) (c.in-Ok.ensures.has files_tell sink_tells)
    (area_after c.play_scripts.result c.in-Ok.plan.scripts (g.F.Files.contents c.args.files.now) (g.F.Files.contents c.read_table.new.files)
    (header_read header (next (g.F.Files.reads c.args.files.now))) (g.F.Files.reads c.read_table.new.files) (g.F.Files.reads c.play_scripts.new.files)
    (c.in-Ok-read_table.ensures.same ∙ c.in-Ok.ensures.same) (c.read_table.ensures.once ∙ ap (header_read header) c.read_plan_file.ensures.once)
    (c.play_scripts.ensures.once files_tell))
