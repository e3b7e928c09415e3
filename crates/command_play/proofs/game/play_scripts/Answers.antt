use Rattle.std.proofs.Common.{List, Ok, Err, OnOk, length, ap, subst, ◌∙◌}
use Rattle.plan_text.specs.declared.plan.Script.{Script as ScriptLine}
use Rattle.hook_table.specs.InHooks.{known_by}
use Rattle.world_core.specs.Calls.{cells_of}
use Rattle.ncs_machine.specs.Host.{scripts_of}
use Rattle.ncs_machine.specs.InSetting.{seen}
use Rattle.command_work.specs.KeepsLemmas.{keeps_all}
use Rattle.command_work.specs.Parts.{then_ok, then_err}
use Rattle.command_sources.specs.Reads.{on_ok}
use Rattle.play_inputs.specs.Areas.{area_named}
use Rattle.play_inputs.specs.Listings.{scripts_listed}
use Rattle.command_play.specs.Files.{keeps_end, keeps_listing, keeps_rest, keeps_to_game}
use Rattle.command_play.specs.Games.{plays_area, plays_plan, plays_scripts}
use Rattle.command_play.specs.Reads.{ReadsArea}
use Rattle.command_play.specs.Stops.{area_stops, listing_stops}
use Rattle.command_play.specs.Tellings.{IsGameFile, StopsGame}
use Rattle.command_play.proofs.FileLemmas.{few_listed}
use Rattle.command_play.proofs.PlayLemmas.{listed_in, plan_in}
use Rattle.command_play.proofs.game.play_scripts.Goals as goal

pub of-setting-requires-clause-few : goal.of-setting-requires-clause-few
of-setting-requires-clause-few g c =
    few_listed c.args.plan.now c.requires.plan (length c.in-Ok.scripts) (c.in-Ok.ensures.count ∙ ap length c.as_slice.ensures.items)

pub of-setting-requires-clause-meets : goal.of-setting-requires-clause-meets
of-setting-requires-clause-meets g c = c.in-Ok.ensures.kept.0

-- ---- the work

pub returns-in-Err-clause-does : goal.returns-in-Err-clause-does
unfolding plays_scripts
returns-in-Err-clause-does g c = λ files_tell sink_tells.
    then_err (scripts_listed c.args.table.now c.args.plan.now.scripts)
    (plays_area (cells_of (known_by c.args.hooks.now)) c.args.table.now c.args.game.area.now c.args.plan.now c.args.game.to.now) c.in-Err.status
    (g.F.Files.contents c.args.files.now) (g.F.Files.contents c.list_scripts.new.files) (g.S.Sink.taken c.args.out.now) (g.S.Sink.taken c.list_scripts.new.out)
    (listed_in c.args.table.now c.as_slice.result.now c.args.plan.now.scripts (Err c.in-Err.status) (g.F.Files.contents c.args.files.now)
    (g.F.Files.contents c.list_scripts.new.files) (g.S.Sink.taken c.args.out.now) (g.S.Sink.taken c.list_scripts.new.out) c.as_slice.ensures.items
    (c.in-Err.ensures.does files_tell sink_tells))

pub returns-in-Err-read_area-clause-does : goal.returns-in-Err-read_area-clause-does
unfolding plays_scripts plays_area
returns-in-Err-read_area-clause-does g c = λ files_tell sink_tells.
    let cell = cells_of (known_by c.args.hooks.now) in
    let mid = g.F.Files.contents c.list_scripts.new.files in
    let told = g.S.Sink.taken c.list_scripts.new.out in
    then_ok (scripts_listed c.args.table.now c.args.plan.now.scripts)
    (plays_area cell c.args.table.now c.args.game.area.now c.args.plan.now c.args.game.to.now) (scripts_of c.in-Ok.scripts) (g.F.Files.contents c.args.files.now) mid
    (g.F.Files.contents c.read_area.new.files) (g.S.Sink.taken c.args.out.now) told (g.S.Sink.taken c.read_area.new.out) (Err c.in-Err-read_area.status)
    (listed_in c.args.table.now c.as_slice.result.now c.args.plan.now.scripts (Ok (scripts_of c.in-Ok.scripts)) (g.F.Files.contents c.args.files.now) mid
    (g.S.Sink.taken c.args.out.now) told c.as_slice.ensures.items (c.in-Ok.ensures.does files_tell sink_tells))
    (then_err (area_named c.args.game.area.now)
    (λ a. plays_plan cell c.args.table.now a c.args.plan.now (scripts_of c.in-Ok.scripts) c.args.game.to.now) c.in-Err-read_area.status mid
    (g.F.Files.contents c.read_area.new.files) told (g.S.Sink.taken c.read_area.new.out) (c.in-Err-read_area.ensures.does files_tell sink_tells))

pub returns-in-Ok-read_area-clause-does : goal.returns-in-Ok-read_area-clause-does
unfolding plays_scripts plays_area
returns-in-Ok-read_area-clause-does g c = λ files_tell sink_tells.
    let cell = cells_of (known_by c.args.hooks.now) in
    let mid = g.F.Files.contents c.list_scripts.new.files in
    let told = g.S.Sink.taken c.list_scripts.new.out in
    then_ok (scripts_listed c.args.table.now c.args.plan.now.scripts)
    (plays_area cell c.args.table.now c.args.game.area.now c.args.plan.now c.args.game.to.now) (scripts_of c.in-Ok.scripts) (g.F.Files.contents c.args.files.now) mid
    (g.F.Files.contents c.play_plan.new.files) (g.S.Sink.taken c.args.out.now) told (g.S.Sink.taken c.play_plan.new.out) c.play_plan.result
    (listed_in c.args.table.now c.as_slice.result.now c.args.plan.now.scripts (Ok (scripts_of c.in-Ok.scripts)) (g.F.Files.contents c.args.files.now) mid
    (g.S.Sink.taken c.args.out.now) told c.as_slice.ensures.items (c.in-Ok.ensures.does files_tell sink_tells))
    (then_ok (area_named c.args.game.area.now)
    (λ a. plays_plan cell c.args.table.now a c.args.plan.now (scripts_of c.in-Ok.scripts) c.args.game.to.now) c.in-Ok-read_area.area mid
    (g.F.Files.contents c.read_area.new.files) (g.F.Files.contents c.play_plan.new.files) told (g.S.Sink.taken c.read_area.new.out)
    (g.S.Sink.taken c.play_plan.new.out) c.play_plan.result (c.in-Ok-read_area.ensures.does files_tell sink_tells)
    (plan_in (seen c.of-setting.result) c.in-Ok.scripts c.args.table.now (known_by c.args.hooks.now) c.in-Ok-read_area.area c.args.plan.now c.args.game.to.now
    c.play_plan.result (g.F.Files.contents c.read_area.new.files) (g.F.Files.contents c.play_plan.new.files) (g.S.Sink.taken c.read_area.new.out)
    (g.S.Sink.taken c.play_plan.new.out) c.of-setting.ensures.setting (c.play_plan.ensures.does files_tell sink_tells)))

-- ---- what it keeps to

pub returns-in-Err-clause-keeps : goal.returns-in-Err-clause-keeps
returns-in-Err-clause-keeps g c =
    keeps_end g.F.Files.counts g.S.Sink.faults g.F.Files.contents (IsGameFile c.args.game.to.now) StopsGame c.args.files.now c.list_scripts.new.files
    c.list_scripts.new.files c.args.out.now c.list_scripts.new.out c.list_scripts.new.out c.in-Err.status c.in-Err.ensures.counts
    (keeps_listing c.args.plan.now c.requires.plan c.args.game.to.now (g.F.Files.contents c.args.files.now) (g.F.Files.contents c.list_scripts.new.files)
    c.as_slice.result.now c.as_slice.ensures.items c.in-Err.ensures.names) (listing_stops c.in-Err.status c.in-Err.ensures.only)

pub returns-in-Err-read_area-clause-keeps : goal.returns-in-Err-read_area-clause-keeps
returns-in-Err-read_area-clause-keeps g c =
    let own = IsGameFile c.args.game.to.now in
    keeps_rest g.F.Files.counts g.S.Sink.faults g.F.Files.contents own StopsGame c.args.files.now c.list_scripts.new.files c.read_area.new.files c.args.out.now
    c.list_scripts.new.out c.read_area.new.out (Err c.in-Err-read_area.status) c.in-Ok.ensures.counts
    (keeps_listing c.args.plan.now c.requires.plan c.args.game.to.now (g.F.Files.contents c.args.files.now) (g.F.Files.contents c.list_scripts.new.files)
    c.as_slice.result.now c.as_slice.ensures.items c.in-Ok.ensures.names)
    (keeps_end g.F.Files.counts g.S.Sink.faults g.F.Files.contents own StopsGame c.list_scripts.new.files c.read_area.new.files c.read_area.new.files
    c.list_scripts.new.out c.read_area.new.out c.read_area.new.out c.in-Err-read_area.status c.in-Err-read_area.ensures.counts
    (keeps_all own (g.F.Files.contents c.list_scripts.new.files) (g.F.Files.contents c.read_area.new.files) c.in-Err-read_area.ensures.same)
    (area_stops c.in-Err-read_area.status c.in-Err-read_area.ensures.only))

pub returns-in-Ok-read_area-clause-keeps : goal.returns-in-Ok-read_area-clause-keeps
returns-in-Ok-read_area-clause-keeps g c =
    let own = IsGameFile c.args.game.to.now in
    keeps_rest g.F.Files.counts g.S.Sink.faults g.F.Files.contents own StopsGame c.args.files.now c.list_scripts.new.files c.play_plan.new.files c.args.out.now
    c.list_scripts.new.out c.play_plan.new.out c.play_plan.result c.in-Ok.ensures.counts
    (keeps_listing c.args.plan.now c.requires.plan c.args.game.to.now (g.F.Files.contents c.args.files.now) (g.F.Files.contents c.list_scripts.new.files)
    c.as_slice.result.now c.as_slice.ensures.items c.in-Ok.ensures.names)
    (keeps_rest g.F.Files.counts g.S.Sink.faults g.F.Files.contents own StopsGame c.list_scripts.new.files c.read_area.new.files c.play_plan.new.files
    c.list_scripts.new.out c.read_area.new.out c.play_plan.new.out c.play_plan.result c.in-Ok-read_area.ensures.counts
    (keeps_all own (g.F.Files.contents c.list_scripts.new.files) (g.F.Files.contents c.read_area.new.files) c.in-Ok-read_area.ensures.same)
    (keeps_to_game g.F.Files.counts g.S.Sink.faults g.F.Files.contents c.args.game.to.now c.play_plan.result c.read_area.new.files c.read_area.new.out
    c.play_plan.new.files c.play_plan.new.out c.play_plan.ensures.keeps))

pub returns-in-Ok-read_area-clause-once : goal.returns-in-Ok-read_area-clause-once
returns-in-Ok-read_area-clause-once g c = λ tells.
    subst (λ (lines : List ScriptLine). OnOk c.play_plan.result (ReadsArea lines (g.F.Files.contents c.args.files.now) (g.F.Files.reads c.args.files.now)
    (g.F.Files.reads c.play_plan.new.files))) c.as_slice.ensures.items
    (on_ok c.play_plan.result _ (record {
      between = g.F.Files.contents c.list_scripts.new.files;
      mid = g.F.Files.reads c.list_scripts.new.files;
      scripts = c.in-Ok.ensures.once tells;
      area = c.play_plan.ensures.unread ∙ c.read_area.ensures.once;
    }))
