use Rattle.std.proofs.Common.{◌≡◌, ◌+◌, List, [], length, refl, sym, ap, subst, ◌∙◌}
use Rattle.machine_rules.specs.Machine.{Script}
use Rattle.stack_rules.specs.Laws.{AllMeet}
use Rattle.stack_check.specs.Checked.{AllStand}
use Rattle.ncs_machine.specs.Host.{script_of, scripts_of, tables_of}
use Rattle.ncs_machine.specs.declared.scripts.Loaded.{Loaded}
use Rattle.command_work.specs.KeepsLemmas.{keeps_all}
use Rattle.play_inputs.specs.Listings.{IsSourceFile, loaded_names, scripts_listed}
use Rattle.play_inputs.specs.Reads.{none as none_read}
use Rattle.play_inputs.proofs.ReadLemmas.{lines_on, lines_done}
use Rattle.play_inputs.proofs.ListingLemmas.{SoFar, begins_none, none_meet, none_stand, goes_on, stops, cut_on, is_done, named_at, keeps_on, meets_on, stands_on, names_on, scripts_on, count_on}
use Rattle.play_inputs.proofs.listing.list_scripts.Goals as goal

pub loop-line-init : goal.loop-line-init
loop-line-init g c =
    let c0 = g.F.Files.contents c.args.files.now in
    let t0 = g.S.Sink.taken c.args.out.now in
    let none : c.new-scripts.result ≡ [] = c.new-scripts.ensures.empty in (
      begins_none g.F.Files.tells g.S.Sink.tells c.args.table.now c.args.lines.now c0 t0 c.new-scripts.result none,
      refl,
      keeps_all (IsSourceFile c.args.lines.now) c0 c0 refl,
      subst (λ (ss : List Loaded). AllMeet c.args.table.now (scripts_of ss) (tables_of ss)) (sym none) (none_meet c.args.table.now),
      subst (λ (ss : List Loaded). AllStand c.args.table.now (scripts_of ss) (tables_of ss)) (sym none) (none_stand c.args.table.now),
      ap loaded_names none,
      ap length none,
      λ tells. none_read c0 (g.F.Files.reads c.args.files.now),
    )

pub loop-line-preserved : goal.loop-line-preserved
loop-line-preserved g c =
    let first : List Script = [] in
    let c0 = g.F.Files.contents c.args.files.now in
    let c1 = g.F.Files.contents c.read_script.new.files in
    let t0 = g.S.Sink.taken c.args.out.now in
    let t1 = g.S.Sink.taken c.read_script.new.out in
    let pushed = c.in-Ok-push.ensures.ok in (
      subst (λ ss. SoFar g.F.Files.tells g.S.Sink.tells c.args.table.now c.args.lines.now (c.loop-line.line-index + 1) first ss c0 c1 t0 t1)
          (sym (scripts_on c.loop-line.scripts c.push.new.self c.in-Ok.script pushed))
          (goes_on g.F.Files.tells g.S.Sink.tells c.args.table.now c.args.lines.now first c0 t0 c.loop-line.line-index c.line-item.result _ (script_of c.in-Ok.script)
          (scripts_of c.loop-line.scripts) (g.F.Files.contents c.loop-line.files) c1 (g.S.Sink.taken c.loop-line.out) t1 c.loop-line.invariant.0 c.loop-line-test.true
          c.line-item.is c.in-Ok.ensures.does),
      c.in-Ok.ensures.counts ∙ c.loop-line.invariant.1,
      keeps_on c.args.lines.now c.loop-line.line-index c.line-item.result _ c0 (g.F.Files.contents c.loop-line.files) c1 c.loop-line-test.true c.line-item.is
          c.loop-line.invariant.2 c.in-Ok.ensures.names,
      meets_on c.loop-line.scripts c.push.new.self c.in-Ok.script pushed c.args.table.now c.loop-line.invariant.3 c.in-Ok.ensures.kept.meets,
      stands_on c.loop-line.scripts c.push.new.self c.in-Ok.script pushed c.args.table.now c.loop-line.invariant.4 c.in-Ok.ensures.kept.stored,
      names_on c.loop-line.scripts c.push.new.self c.in-Ok.script pushed c.args.lines.now c.loop-line.line-index c.line-item.result _
          c.loop-line-test.true c.line-item.is c.in-Ok.ensures.name c.loop-line.invariant.5,
      count_on c.loop-line.scripts c.push.new.self c.in-Ok.script pushed c.loop-line.line-index c.loop-line.invariant.6,
      λ tells. lines_on c.args.lines.now c.loop-line.line-index c.line-item.result _ c0 (g.F.Files.contents c.loop-line.files) c1 (g.F.Files.reads c.args.files.now)
          (g.F.Files.reads c.loop-line.files) (g.F.Files.reads c.read_script.new.files) c.loop-line-test.true c.line-item.is (c.loop-line.invariant.7 tells)
          (c.in-Ok.ensures.once tells) c.in-Ok.ensures.names,
    )

pub read_script-requires : goal.read_script-requires
read_script-requires g c = record {
  named = named_at c.args.lines.now c.loop-line.line-index c.line-item.result _ c.requires.named c.loop-line-test.true c.line-item.is;
}

pub returns-in-Err-clause-does : goal.returns-in-Err-clause-does
unfolding scripts_listed
returns-in-Err-clause-does g c = λ files_tell sink_tells.
    stops g.F.Files.tells g.S.Sink.tells c.args.table.now c.args.lines.now [] (g.F.Files.contents c.args.files.now)
    (g.S.Sink.taken c.args.out.now) c.loop-line.line-index c.line-item.result _ c.in-Err.status (scripts_of c.loop-line.scripts) (g.F.Files.contents c.loop-line.files)
    (g.F.Files.contents c.read_script.new.files) (g.S.Sink.taken c.loop-line.out) (g.S.Sink.taken c.read_script.new.out) c.loop-line.invariant.0 c.loop-line-test.true
    c.line-item.is files_tell sink_tells
    (c.in-Err.ensures.does files_tell sink_tells)

pub returns-in-Err-clause-names : goal.returns-in-Err-clause-names
returns-in-Err-clause-names g c =
    keeps_on c.args.lines.now c.loop-line.line-index c.line-item.result _ (g.F.Files.contents c.args.files.now) (g.F.Files.contents c.loop-line.files)
    (g.F.Files.contents c.read_script.new.files) c.loop-line-test.true c.line-item.is c.loop-line.invariant.2 c.in-Err.ensures.names

pub returns-in-Err-push-clause-does : goal.returns-in-Err-push-clause-does
unfolding scripts_listed
returns-in-Err-push-clause-does g c = λ files_tell sink_tells.
    cut_on g.F.Files.tells g.S.Sink.tells c.args.table.now c.args.lines.now [] (g.F.Files.contents c.args.files.now)
    (g.S.Sink.taken c.args.out.now) c.loop-line.line-index c.line-item.result _ (script_of c.in-Ok.script) (scripts_of c.loop-line.scripts) (g.F.Files.contents c.loop-line.files)
    (g.F.Files.contents c.read_script.new.files) (g.S.Sink.taken c.loop-line.out) (g.S.Sink.taken c.read_script.new.out) c.loop-line.invariant.0 c.loop-line-test.true
    c.line-item.is files_tell sink_tells
    (c.in-Ok.ensures.does files_tell sink_tells)

pub returns-in-Err-push-clause-names : goal.returns-in-Err-push-clause-names
returns-in-Err-push-clause-names g c =
    keeps_on c.args.lines.now c.loop-line.line-index c.line-item.result _ (g.F.Files.contents c.args.files.now) (g.F.Files.contents c.loop-line.files)
    (g.F.Files.contents c.read_script.new.files) c.loop-line-test.true c.line-item.is c.loop-line.invariant.2 c.in-Ok.ensures.names

pub returns-clause-does : goal.returns-clause-does
unfolding scripts_listed
returns-clause-does g c = λ files_tell sink_tells.
    is_done g.F.Files.tells g.S.Sink.tells c.args.table.now c.args.lines.now [] (g.F.Files.contents c.args.files.now)
    (g.S.Sink.taken c.args.out.now) c.loop-line.line-index (scripts_of c.loop-line.scripts)
    (g.F.Files.contents c.loop-line.files) (g.S.Sink.taken c.loop-line.out) c.loop-line.invariant.0 c.loop-line-test.false files_tell sink_tells

pub returns-clause-once : goal.returns-clause-once
returns-clause-once g c = λ tells.
    lines_done c.args.lines.now c.loop-line.line-index (g.F.Files.contents c.args.files.now) (g.F.Files.contents c.loop-line.files) (g.F.Files.reads c.args.files.now)
    (g.F.Files.reads c.loop-line.files) c.loop-line-test.false (c.loop-line.invariant.7 tells)
