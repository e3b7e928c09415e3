use Rattle.hook_table.specs.InHooks.{known_by}
use Rattle.command_play.specs.Files.{keeps_end, keeps_listing, keeps_rest, keeps_to_game}
use Rattle.command_save.proofs.ListLemmas.{few_listed, may_list}
use Rattle.std.proofs.Common.{List, Ok, Err, OnOk, subst, sym}
use Rattle.plan_text.specs.declared.plan.Script.{Script as ScriptLine}
use Rattle.plan_text.specs.Plans.{AreListed}
use Rattle.world_core.specs.Calls.{cells_of}
use Rattle.ncs_machine.specs.Host.{scripts_of}
use Rattle.command_work.specs.Parts.{then_ok, then_err}
use Rattle.command_work.specs.Work.{Does}
use Rattle.command_sources.specs.Reads.{on_ok}
use Rattle.play_inputs.specs.Listings.{scripts_listed}
use Rattle.command_save.specs.Saves.{saves_area, saves_scripts}
use Rattle.command_play.specs.Reads.{ReadsArea}
use Rattle.command_play.specs.Stops.{listing_stops}
use Rattle.command_play.specs.Tellings.{IsGameFile, StopsGame}
use Rattle.command_save.proofs.save.save_scripts.Goals as goal

pub returns-in-Err-clause-does : goal.returns-in-Err-clause-does
unfolding saves_scripts
returns-in-Err-clause-does g c = λ files_tell sink_tells.
    let w = c.args.words in
    let next = saves_area (cells_of (known_by c.args.hooks.now)) c.args.header w.area.now c.args.plan.now w.entries w.state.now in
    then_err (scripts_listed c.args.header.table c.args.plan.now.scripts) next c.in-Err.status (g.F.Files.contents c.args.files.now)
    (g.F.Files.contents c.list_scripts.new.files) (g.S.Sink.taken c.args.out.now) (g.S.Sink.taken c.list_scripts.new.out)
    (subst (λ (lines : List ScriptLine). Does (scripts_listed c.args.header.table lines) (g.F.Files.contents c.args.files.now) (g.S.Sink.taken c.args.out.now)
    (Err c.in-Err.status) (g.F.Files.contents c.list_scripts.new.files) (g.S.Sink.taken c.list_scripts.new.out)) c.as_slice.ensures.items
    (c.in-Err.ensures.does files_tell sink_tells))

pub returns-in-Ok-clause-does : goal.returns-in-Ok-clause-does
unfolding saves_scripts
returns-in-Ok-clause-does g c = λ files_tell sink_tells.
    let w = c.args.words in
    let next = saves_area (cells_of (known_by c.args.hooks.now)) c.args.header w.area.now c.args.plan.now w.entries w.state.now in
    then_ok (scripts_listed c.args.header.table c.args.plan.now.scripts) next (scripts_of c.in-Ok.scripts) (g.F.Files.contents c.args.files.now)
    (g.F.Files.contents c.list_scripts.new.files) (g.F.Files.contents c.save_area.new.files) (g.S.Sink.taken c.args.out.now)
    (g.S.Sink.taken c.list_scripts.new.out) (g.S.Sink.taken c.save_area.new.out) c.save_area.result
    (subst (λ (lines : List ScriptLine). Does (scripts_listed c.args.header.table lines) (g.F.Files.contents c.args.files.now) (g.S.Sink.taken c.args.out.now)
    (Ok (scripts_of c.in-Ok.scripts)) (g.F.Files.contents c.list_scripts.new.files) (g.S.Sink.taken c.list_scripts.new.out)) c.as_slice.ensures.items
    (c.in-Ok.ensures.does files_tell sink_tells))
    (c.save_area.ensures.does files_tell sink_tells)

pub list_scripts-requires : goal.list_scripts-requires
list_scripts-requires g c = record { named = subst AreListed (sym c.as_slice.ensures.items) c.requires.takes.kept.scripts }

pub save_area-requires-clause-begins : goal.save_area-requires-clause-begins
save_area-requires-clause-begins g c = record {
  listing = record {
    kept = c.requires.takes.kept;
    listed =
        may_list c.args.header c.args.plan.now c.as_slice.result.now c.in-Ok.scripts c.requires.header c.requires.takes.kept c.as_slice.ensures.items c.in-Ok.ensures.count
        c.in-Ok.ensures.listed c.in-Ok.ensures.kept.0 c.in-Ok.ensures.kept.1;
  };
  checked = record {
    few = few_listed c.args.plan.now c.requires.takes.kept c.as_slice.result.now c.in-Ok.scripts c.as_slice.ensures.items c.in-Ok.ensures.count;
    meets = c.in-Ok.ensures.kept.0;
  };
  some = c.requires.takes.some;
}

pub returns-in-Err-clause-keeps : goal.returns-in-Err-clause-keeps
returns-in-Err-clause-keeps g c =
    let to = c.args.words.state.now in
    keeps_end g.F.Files.counts g.S.Sink.faults g.F.Files.contents (IsGameFile to) StopsGame c.args.files.now c.list_scripts.new.files
    c.list_scripts.new.files c.args.out.now c.list_scripts.new.out c.list_scripts.new.out c.in-Err.status c.in-Err.ensures.counts
    (keeps_listing c.args.plan.now c.requires.takes.kept to (g.F.Files.contents c.args.files.now) (g.F.Files.contents c.list_scripts.new.files)
    c.as_slice.result.now c.as_slice.ensures.items c.in-Err.ensures.names) (listing_stops c.in-Err.status c.in-Err.ensures.only)

pub returns-in-Ok-clause-keeps : goal.returns-in-Ok-clause-keeps
returns-in-Ok-clause-keeps g c =
    let to = c.args.words.state.now in
    keeps_rest g.F.Files.counts g.S.Sink.faults g.F.Files.contents (IsGameFile to) StopsGame c.args.files.now c.list_scripts.new.files
    c.save_area.new.files c.args.out.now c.list_scripts.new.out c.save_area.new.out c.save_area.result c.in-Ok.ensures.counts
    (keeps_listing c.args.plan.now c.requires.takes.kept to (g.F.Files.contents c.args.files.now) (g.F.Files.contents c.list_scripts.new.files)
    c.as_slice.result.now c.as_slice.ensures.items c.in-Ok.ensures.names)
    (keeps_to_game g.F.Files.counts g.S.Sink.faults g.F.Files.contents to c.save_area.result c.list_scripts.new.files c.list_scripts.new.out
    c.save_area.new.files c.save_area.new.out c.save_area.ensures.keeps)

pub returns-in-Ok-clause-once : goal.returns-in-Ok-clause-once
returns-in-Ok-clause-once g c = λ tells.
    subst (λ (lines : List ScriptLine). OnOk c.save_area.result (ReadsArea lines (g.F.Files.contents c.args.files.now) (g.F.Files.reads c.args.files.now)
    (g.F.Files.reads c.save_area.new.files))) c.as_slice.ensures.items
    (on_ok c.save_area.result _ (record {
      between = g.F.Files.contents c.list_scripts.new.files;
      mid = g.F.Files.reads c.list_scripts.new.files;
      scripts = c.in-Ok.ensures.once tells;
      area = c.save_area.ensures.once;
    }))
