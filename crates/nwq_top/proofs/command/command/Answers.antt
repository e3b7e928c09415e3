use Rattle.std.proofs.Common.{map, string_bytes, Err, refl}
use Rattle.hook_table.specs.InHooks.{known_by}
use Rattle.world_core.specs.Calls.{cells_of}
use Rattle.command_words.specs.Words.{Run, Compile, Tree, Check, Disassemble, Assemble, Generate, NoForm, form_of}
use Rattle.nwq_top.proofs.WordLemmas.{form_does, form_keeps, form_same, form_stops, no_form_does}
use Rattle.nwq_top.proofs.ReadLemmas.{form_reads}
use Rattle.nwq_top.proofs.command.command.Goals as goal

pub returns-in-Run-clause-does : goal.returns-in-Run-clause-does
returns-in-Run-clause-does g c = λ files_tell sink_tells.
    form_does (form_of (map string_bytes c.args.words.now)) (Run c.in-Run.header.now c.in-Run.script.now)
    (cells_of (known_by c.args.hooks.now)) c.run.result
    (g.F.Files.contents c.args.files.now) (g.F.Files.contents c.run.new.files) (g.S.Sink.taken c.args.out.now) (g.S.Sink.taken c.run.new.out)
    c.in-Run.ensures.command (c.run.ensures.does files_tell sink_tells)

pub returns-in-Run-clause-counts : goal.returns-in-Run-clause-counts
returns-in-Run-clause-counts g c = c.run.ensures.counts

pub returns-in-Run-clause-names : goal.returns-in-Run-clause-names
returns-in-Run-clause-names g c =
    form_same (form_of (map string_bytes c.args.words.now)) (g.F.Files.contents c.args.files.now) (g.F.Files.contents c.run.new.files)
    c.run.ensures.same

pub returns-in-Run-clause-only : goal.returns-in-Run-clause-only
returns-in-Run-clause-only g c =
    form_stops (form_of (map string_bytes c.args.words.now)) (Run c.in-Run.header.now c.in-Run.script.now) c.run.result c.in-Run.ensures.command tt
    c.run.ensures.only

pub returns-in-Compile-clause-does : goal.returns-in-Compile-clause-does
returns-in-Compile-clause-does g c = λ files_tell sink_tells.
    form_does (form_of (map string_bytes c.args.words.now)) (Compile c.in-Compile.header.now c.in-Compile.script.now)
    (cells_of (known_by c.args.hooks.now)) c.compile_file.result
    (g.F.Files.contents c.args.files.now) (g.F.Files.contents c.compile_file.new.files) (g.S.Sink.taken c.args.out.now)
    (g.S.Sink.taken c.compile_file.new.out) c.in-Compile.ensures.command (c.compile_file.ensures.does files_tell sink_tells)

pub returns-in-Compile-clause-counts : goal.returns-in-Compile-clause-counts
returns-in-Compile-clause-counts g c = c.compile_file.ensures.counts

pub returns-in-Compile-clause-names : goal.returns-in-Compile-clause-names
returns-in-Compile-clause-names g c =
    form_keeps (form_of (map string_bytes c.args.words.now)) (Compile c.in-Compile.header.now c.in-Compile.script.now)
    (g.F.Files.contents c.args.files.now) (g.F.Files.contents c.compile_file.new.files) c.in-Compile.ensures.command c.compile_file.ensures.names

pub returns-in-Compile-clause-only : goal.returns-in-Compile-clause-only
returns-in-Compile-clause-only g c =
    form_stops (form_of (map string_bytes c.args.words.now)) (Compile c.in-Compile.header.now c.in-Compile.script.now) c.compile_file.result
    c.in-Compile.ensures.command tt c.compile_file.ensures.only

pub returns-in-Tree-clause-does : goal.returns-in-Tree-clause-does
returns-in-Tree-clause-does g c = λ files_tell sink_tells.
    form_does (form_of (map string_bytes c.args.words.now)) (Tree c.in-Tree.file.now) (cells_of (known_by c.args.hooks.now))
    c.show_tree.result
    (g.F.Files.contents c.args.files.now) (g.F.Files.contents c.show_tree.new.files) (g.S.Sink.taken c.args.out.now)
    (g.S.Sink.taken c.show_tree.new.out) c.in-Tree.ensures.command (c.show_tree.ensures.does files_tell sink_tells)

pub returns-in-Tree-clause-counts : goal.returns-in-Tree-clause-counts
returns-in-Tree-clause-counts g c = c.show_tree.ensures.counts

pub returns-in-Tree-clause-names : goal.returns-in-Tree-clause-names
returns-in-Tree-clause-names g c =
    form_same (form_of (map string_bytes c.args.words.now)) (g.F.Files.contents c.args.files.now) (g.F.Files.contents c.show_tree.new.files)
    c.show_tree.ensures.same

pub returns-in-Tree-clause-only : goal.returns-in-Tree-clause-only
returns-in-Tree-clause-only g c =
    form_stops (form_of (map string_bytes c.args.words.now)) (Tree c.in-Tree.file.now) c.show_tree.result c.in-Tree.ensures.command tt
    c.show_tree.ensures.only

pub returns-in-Check-clause-does : goal.returns-in-Check-clause-does
returns-in-Check-clause-does g c = λ files_tell sink_tells.
    form_does (form_of (map string_bytes c.args.words.now)) (Check c.in-Check.header.now c.in-Check.file.now)
    (cells_of (known_by c.args.hooks.now)) c.check_file.result
    (g.F.Files.contents c.args.files.now) (g.F.Files.contents c.check_file.new.files) (g.S.Sink.taken c.args.out.now)
    (g.S.Sink.taken c.check_file.new.out) c.in-Check.ensures.command (c.check_file.ensures.does files_tell sink_tells)

pub returns-in-Check-clause-counts : goal.returns-in-Check-clause-counts
returns-in-Check-clause-counts g c = c.check_file.ensures.counts

pub returns-in-Check-clause-names : goal.returns-in-Check-clause-names
returns-in-Check-clause-names g c =
    form_same (form_of (map string_bytes c.args.words.now)) (g.F.Files.contents c.args.files.now) (g.F.Files.contents c.check_file.new.files)
    c.check_file.ensures.same

pub returns-in-Check-clause-only : goal.returns-in-Check-clause-only
returns-in-Check-clause-only g c =
    form_stops (form_of (map string_bytes c.args.words.now)) (Check c.in-Check.header.now c.in-Check.file.now) c.check_file.result
    c.in-Check.ensures.command tt c.check_file.ensures.only

pub returns-in-Disassemble-clause-does : goal.returns-in-Disassemble-clause-does
returns-in-Disassemble-clause-does g c = λ files_tell sink_tells.
    form_does (form_of (map string_bytes c.args.words.now)) (Disassemble c.in-Disassemble.file.now c.in-Disassemble.to.now)
    (cells_of (known_by c.args.hooks.now)) c.disassemble_file.result
    (g.F.Files.contents c.args.files.now) (g.F.Files.contents c.disassemble_file.new.files) (g.S.Sink.taken c.args.out.now)
    (g.S.Sink.taken c.disassemble_file.new.out) c.in-Disassemble.ensures.command (c.disassemble_file.ensures.does files_tell sink_tells)

pub returns-in-Disassemble-clause-counts : goal.returns-in-Disassemble-clause-counts
returns-in-Disassemble-clause-counts g c = c.disassemble_file.ensures.counts

pub returns-in-Disassemble-clause-names : goal.returns-in-Disassemble-clause-names
returns-in-Disassemble-clause-names g c =
    form_keeps (form_of (map string_bytes c.args.words.now)) (Disassemble c.in-Disassemble.file.now c.in-Disassemble.to.now)
    (g.F.Files.contents c.args.files.now) (g.F.Files.contents c.disassemble_file.new.files) c.in-Disassemble.ensures.command
    c.disassemble_file.ensures.names

pub returns-in-Disassemble-clause-only : goal.returns-in-Disassemble-clause-only
returns-in-Disassemble-clause-only g c =
    form_stops (form_of (map string_bytes c.args.words.now)) (Disassemble c.in-Disassemble.file.now c.in-Disassemble.to.now)
    c.disassemble_file.result c.in-Disassemble.ensures.command tt c.disassemble_file.ensures.only

pub returns-in-Assemble-clause-does : goal.returns-in-Assemble-clause-does
returns-in-Assemble-clause-does g c = λ files_tell sink_tells.
    form_does (form_of (map string_bytes c.args.words.now)) (Assemble c.in-Assemble.file.now c.in-Assemble.to.now)
    (cells_of (known_by c.args.hooks.now)) c.assemble_file.result
    (g.F.Files.contents c.args.files.now) (g.F.Files.contents c.assemble_file.new.files) (g.S.Sink.taken c.args.out.now)
    (g.S.Sink.taken c.assemble_file.new.out) c.in-Assemble.ensures.command (c.assemble_file.ensures.does files_tell sink_tells)

pub returns-in-Assemble-clause-counts : goal.returns-in-Assemble-clause-counts
returns-in-Assemble-clause-counts g c = c.assemble_file.ensures.counts

pub returns-in-Assemble-clause-names : goal.returns-in-Assemble-clause-names
returns-in-Assemble-clause-names g c =
    form_keeps (form_of (map string_bytes c.args.words.now)) (Assemble c.in-Assemble.file.now c.in-Assemble.to.now)
    (g.F.Files.contents c.args.files.now) (g.F.Files.contents c.assemble_file.new.files) c.in-Assemble.ensures.command c.assemble_file.ensures.names

pub returns-in-Assemble-clause-only : goal.returns-in-Assemble-clause-only
returns-in-Assemble-clause-only g c =
    form_stops (form_of (map string_bytes c.args.words.now)) (Assemble c.in-Assemble.file.now c.in-Assemble.to.now) c.assemble_file.result
    c.in-Assemble.ensures.command tt c.assemble_file.ensures.only

pub returns-in-Play-clause-does : goal.returns-in-Play-clause-does
returns-in-Play-clause-does g c = λ files_tell sink_tells.
    form_does (form_of (map string_bytes c.args.words.now)) _ (cells_of (known_by c.args.hooks.now)) c.play_files.result
    (g.F.Files.contents c.args.files.now) (g.F.Files.contents c.play_files.new.files) (g.S.Sink.taken c.args.out.now)
    (g.S.Sink.taken c.play_files.new.out) c.in-Play.ensures.command (c.play_files.ensures.does files_tell sink_tells)

pub returns-in-Play-clause-counts : goal.returns-in-Play-clause-counts
returns-in-Play-clause-counts g c = c.play_files.ensures.counts

pub returns-in-Play-clause-names : goal.returns-in-Play-clause-names
returns-in-Play-clause-names g c =
    form_keeps (form_of (map string_bytes c.args.words.now)) _ (g.F.Files.contents c.args.files.now) (g.F.Files.contents c.play_files.new.files)
    c.in-Play.ensures.command c.play_files.ensures.names

pub returns-in-Play-clause-only : goal.returns-in-Play-clause-only
returns-in-Play-clause-only g c =
    form_stops (form_of (map string_bytes c.args.words.now)) _ c.play_files.result c.in-Play.ensures.command tt c.play_files.ensures.only

pub returns-in-Generate-clause-does : goal.returns-in-Generate-clause-does
returns-in-Generate-clause-does g c = λ files_tell sink_tells.
    form_does (form_of (map string_bytes c.args.words.now)) (Generate c.in-Generate.number)
    (cells_of (known_by c.args.hooks.now)) c.generate.result
    (g.F.Files.contents c.args.files.now) (g.F.Files.contents c.args.files.now) (g.S.Sink.taken c.args.out.now) (g.S.Sink.taken c.generate.new.out)
    c.in-Generate.ensures.command.0 (c.generate.ensures.does sink_tells (g.F.Files.contents c.args.files.now))

pub returns-in-Generate-clause-names : goal.returns-in-Generate-clause-names
returns-in-Generate-clause-names g c =
    form_same (form_of (map string_bytes c.args.words.now)) (g.F.Files.contents c.args.files.now) (g.F.Files.contents c.args.files.now) refl

pub returns-in-Generate-clause-only : goal.returns-in-Generate-clause-only
returns-in-Generate-clause-only g c =
    form_stops (form_of (map string_bytes c.args.words.now)) (Generate c.in-Generate.number) c.generate.result c.in-Generate.ensures.command.0 tt
    c.generate.ensures.only

pub returns-in-Save-clause-does : goal.returns-in-Save-clause-does
returns-in-Save-clause-does g c = λ files_tell sink_tells.
    form_does (form_of (map string_bytes c.args.words.now)) _ (cells_of (known_by c.args.hooks.now)) c.save_play.result
    (g.F.Files.contents c.args.files.now) (g.F.Files.contents c.save_play.new.files) (g.S.Sink.taken c.args.out.now)
    (g.S.Sink.taken c.save_play.new.out) c.in-Save.ensures.command.0 (c.save_play.ensures.does files_tell sink_tells)

pub returns-in-Save-clause-counts : goal.returns-in-Save-clause-counts
returns-in-Save-clause-counts g c = c.save_play.ensures.counts

pub returns-in-Save-clause-names : goal.returns-in-Save-clause-names
returns-in-Save-clause-names g c =
    form_keeps (form_of (map string_bytes c.args.words.now)) _ (g.F.Files.contents c.args.files.now) (g.F.Files.contents c.save_play.new.files)
    c.in-Save.ensures.command.0 c.save_play.ensures.names

pub returns-in-Save-clause-only : goal.returns-in-Save-clause-only
returns-in-Save-clause-only g c =
    form_stops (form_of (map string_bytes c.args.words.now)) _ c.save_play.result c.in-Save.ensures.command.0 tt c.save_play.ensures.only

pub returns-in-Resume-clause-does : goal.returns-in-Resume-clause-does
returns-in-Resume-clause-does g c = λ files_tell sink_tells.
    form_does (form_of (map string_bytes c.args.words.now)) _ (cells_of (known_by c.args.hooks.now)) c.resume_play.result
    (g.F.Files.contents c.args.files.now) (g.F.Files.contents c.resume_play.new.files) (g.S.Sink.taken c.args.out.now)
    (g.S.Sink.taken c.resume_play.new.out) c.in-Resume.ensures.command (c.resume_play.ensures.does files_tell sink_tells)

pub returns-in-Resume-clause-counts : goal.returns-in-Resume-clause-counts
returns-in-Resume-clause-counts g c = c.resume_play.ensures.counts

pub returns-in-Resume-clause-names : goal.returns-in-Resume-clause-names
returns-in-Resume-clause-names g c =
    form_keeps (form_of (map string_bytes c.args.words.now)) _ (g.F.Files.contents c.args.files.now) (g.F.Files.contents c.resume_play.new.files)
    c.in-Resume.ensures.command c.resume_play.ensures.names

pub returns-in-Resume-clause-only : goal.returns-in-Resume-clause-only
returns-in-Resume-clause-only g c =
    form_stops (form_of (map string_bytes c.args.words.now)) _ c.resume_play.result c.in-Resume.ensures.command tt c.resume_play.ensures.only

pub returns-in-NoForm-clause-does : goal.returns-in-NoForm-clause-does
returns-in-NoForm-clause-does g c = λ files_tell sink_tells.
    no_form_does (cells_of (known_by c.args.hooks.now)) (form_of (map string_bytes c.args.words.now)) c.refuse_form.result
    (g.F.Files.contents c.args.files.now) (g.S.Sink.taken c.args.out.now) (g.S.Sink.taken c.refuse_form.new.out) c.in-NoForm.ensures.command
    (c.refuse_form.ensures.does sink_tells)

pub returns-in-NoForm-clause-names : goal.returns-in-NoForm-clause-names
returns-in-NoForm-clause-names g c =
    form_same (form_of (map string_bytes c.args.words.now)) (g.F.Files.contents c.args.files.now) (g.F.Files.contents c.args.files.now) refl

pub returns-in-Run-clause-once : goal.returns-in-Run-clause-once
returns-in-Run-clause-once g c = λ files_tell sink_tells.
    form_reads (form_of (map string_bytes c.args.words.now)) (Run c.in-Run.header.now c.in-Run.script.now) c.run.result (g.F.Files.contents c.args.files.now)
    (g.F.Files.reads c.args.files.now) (g.F.Files.reads c.run.new.files) c.in-Run.ensures.command (c.run.ensures.once files_tell)

pub returns-in-Compile-clause-once : goal.returns-in-Compile-clause-once
returns-in-Compile-clause-once g c = λ files_tell sink_tells.
    form_reads (form_of (map string_bytes c.args.words.now)) (Compile c.in-Compile.header.now c.in-Compile.script.now) c.compile_file.result (g.F.Files.contents c.args.files.now)
    (g.F.Files.reads c.args.files.now) (g.F.Files.reads c.compile_file.new.files) c.in-Compile.ensures.command (c.compile_file.ensures.once files_tell)

pub returns-in-Tree-clause-once : goal.returns-in-Tree-clause-once
returns-in-Tree-clause-once g c = λ files_tell sink_tells.
    form_reads (form_of (map string_bytes c.args.words.now)) (Tree c.in-Tree.file.now) c.show_tree.result (g.F.Files.contents c.args.files.now)
    (g.F.Files.reads c.args.files.now) (g.F.Files.reads c.show_tree.new.files) c.in-Tree.ensures.command c.show_tree.ensures.once

pub returns-in-Check-clause-once : goal.returns-in-Check-clause-once
returns-in-Check-clause-once g c = λ files_tell sink_tells.
    form_reads (form_of (map string_bytes c.args.words.now)) (Check c.in-Check.header.now c.in-Check.file.now) c.check_file.result (g.F.Files.contents c.args.files.now)
    (g.F.Files.reads c.args.files.now) (g.F.Files.reads c.check_file.new.files) c.in-Check.ensures.command c.check_file.ensures.once

pub returns-in-Disassemble-clause-once : goal.returns-in-Disassemble-clause-once
returns-in-Disassemble-clause-once g c = λ files_tell sink_tells.
    form_reads (form_of (map string_bytes c.args.words.now)) (Disassemble c.in-Disassemble.file.now c.in-Disassemble.to.now) c.disassemble_file.result (g.F.Files.contents c.args.files.now)
    (g.F.Files.reads c.args.files.now) (g.F.Files.reads c.disassemble_file.new.files) c.in-Disassemble.ensures.command c.disassemble_file.ensures.once

pub returns-in-Assemble-clause-once : goal.returns-in-Assemble-clause-once
returns-in-Assemble-clause-once g c = λ files_tell sink_tells.
    form_reads (form_of (map string_bytes c.args.words.now)) (Assemble c.in-Assemble.file.now c.in-Assemble.to.now) c.assemble_file.result (g.F.Files.contents c.args.files.now)
    (g.F.Files.reads c.args.files.now) (g.F.Files.reads c.assemble_file.new.files) c.in-Assemble.ensures.command c.assemble_file.ensures.once

pub returns-in-Play-clause-once : goal.returns-in-Play-clause-once
returns-in-Play-clause-once g c = λ files_tell sink_tells.
    form_reads (form_of (map string_bytes c.args.words.now)) _ c.play_files.result (g.F.Files.contents c.args.files.now)
    (g.F.Files.reads c.args.files.now) (g.F.Files.reads c.play_files.new.files) c.in-Play.ensures.command (c.play_files.ensures.once files_tell sink_tells)

pub returns-in-Generate-clause-once : goal.returns-in-Generate-clause-once
returns-in-Generate-clause-once g c = λ files_tell sink_tells.
    form_reads (form_of (map string_bytes c.args.words.now)) (Generate c.in-Generate.number) c.generate.result (g.F.Files.contents c.args.files.now)
    (g.F.Files.reads c.args.files.now) (g.F.Files.reads c.args.files.now) c.in-Generate.ensures.command.0 refl

pub returns-in-Save-clause-once : goal.returns-in-Save-clause-once
returns-in-Save-clause-once g c = λ files_tell sink_tells.
    form_reads (form_of (map string_bytes c.args.words.now)) _ c.save_play.result (g.F.Files.contents c.args.files.now)
    (g.F.Files.reads c.args.files.now) (g.F.Files.reads c.save_play.new.files) c.in-Save.ensures.command.0 (c.save_play.ensures.once files_tell sink_tells)

pub returns-in-Resume-clause-once : goal.returns-in-Resume-clause-once
returns-in-Resume-clause-once g c = λ files_tell sink_tells.
    form_reads (form_of (map string_bytes c.args.words.now)) _ c.resume_play.result (g.F.Files.contents c.args.files.now)
    (g.F.Files.reads c.args.files.now) (g.F.Files.reads c.resume_play.new.files) c.in-Resume.ensures.command c.resume_play.ensures.once

pub returns-in-NoForm-clause-once : goal.returns-in-NoForm-clause-once
returns-in-NoForm-clause-once g c = λ files_tell sink_tells.
    form_reads (form_of (map string_bytes c.args.words.now)) NoForm (Err c.refuse_form.result) (g.F.Files.contents c.args.files.now)
    (g.F.Files.reads c.args.files.now) (g.F.Files.reads c.args.files.now) c.in-NoForm.ensures.command refl
