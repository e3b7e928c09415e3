use Rattle.std.proofs.Common.{Err, subst, ◌∙◌}
use Rattle.command_work.specs.Calls.{IsName}
use Rattle.command_work.specs.Counts.{Counted}
use Rattle.command_work.specs.KeepsLemmas.{keeps_after}
use Rattle.command_work.specs.Work.{Does, Finished}
use Rattle.command_sources.specs.Reads.{reads_still}
use Rattle.command_files.specs.Checks.{loaded_in, plain_checked_answer}
use Rattle.play_inputs.proofs.CodeLemmas.{source_loads, source_unwritten, counted_on}
use Rattle.play_inputs.proofs.code.read_source.Goals as goal

-- ---- the file couldn't be written

pub returns-in-Err-write_file-clause-does : goal.returns-in-Err-write_file-clause-does
returns-in-Err-write_file-clause-does g c = λ files_tell sink_tells.
    let told = g.S.Sink.taken c.read_compiled.new.out in
    source_unwritten c.args.table.now c.args.name.now c.args.file.now c.requires.file (g.F.Files.contents c.args.files.now)
    (g.F.Files.contents c.read_compiled.new.files) (g.S.Sink.taken c.args.out.now) told c.in-Ok.bytes c.as_slice.result.now
    (c.in-Ok.ensures.does files_tell sink_tells) c.as_slice.ensures.items (g.F.Files.contents c.write_file.new.files) c.in-Err-write_file.status
    (c.in-Err-write_file.ensures.does files_tell told)

pub returns-in-Err-write_file-clause-counts : goal.returns-in-Err-write_file-clause-counts
returns-in-Err-write_file-clause-counts g c =
    let told = g.S.Sink.faults c.read_compiled.new.out in
    counted_on {A = Finished} (Err c.in-Err-write_file.status) (Counted (g.F.Files.counts c.args.files.now) (g.S.Sink.faults c.args.out.now))
    (Counted (g.F.Files.counts c.read_compiled.new.files) told) (Counted (g.F.Files.counts c.write_file.new.files) told) c.in-Ok.ensures.counts
    (c.in-Err-write_file.ensures.counts told)

pub returns-in-Err-write_file-clause-names : goal.returns-in-Err-write_file-clause-names
returns-in-Err-write_file-clause-names g c =
    keeps_after (IsName c.args.file.now) (g.F.Files.contents c.args.files.now) (g.F.Files.contents c.read_compiled.new.files)
    (g.F.Files.contents c.write_file.new.files) c.in-Ok.ensures.same c.in-Err-write_file.ensures.names

-- ---- it was written, and is loaded

pub returns-in-Ok-write_file-clause-does : goal.returns-in-Ok-write_file-clause-does
returns-in-Ok-write_file-clause-does g c = λ files_tell sink_tells.
    let now = g.F.Files.contents c.write_file.new.files in
    let told = g.S.Sink.taken c.read_compiled.new.out in
    source_loads c.args.table.now c.args.name.now c.args.file.now c.requires.file (g.F.Files.contents c.args.files.now)
    (g.F.Files.contents c.read_compiled.new.files) (g.S.Sink.taken c.args.out.now) told c.in-Ok.bytes c.as_slice.result.now
    (c.in-Ok.ensures.does files_tell sink_tells) c.as_slice.ensures.items now c.into_vec.result.items c.in-Ok-write_file.field-0
    (plain_checked_answer c.load_checked.result) (g.S.Sink.taken c.load_checked.new.out) c.into_vec.ensures.items (c.in-Ok-write_file.ensures.does files_tell told)
    (subst (λ f. Does (loaded_in c.args.table.now f c.into_vec.result.items) now told (plain_checked_answer c.load_checked.result) now
    (g.S.Sink.taken c.load_checked.new.out)) c.as_bytes.ensures.value (c.load_checked.ensures.does sink_tells now))

pub returns-in-Ok-write_file-clause-counts : goal.returns-in-Ok-write_file-clause-counts
returns-in-Ok-write_file-clause-counts g c =
    let counts = g.F.Files.counts c.write_file.new.files in
    let told = g.S.Sink.faults c.read_compiled.new.out in
    counted_on c.load_checked.result (Counted (g.F.Files.counts c.args.files.now) (g.S.Sink.faults c.args.out.now)) (Counted counts told)
    (Counted counts (g.S.Sink.faults c.load_checked.new.out)) (c.in-Ok-write_file.ensures.counts told ∙ c.in-Ok.ensures.counts)
    (c.load_checked.ensures.counts counts)

pub returns-in-Ok-write_file-clause-names : goal.returns-in-Ok-write_file-clause-names
returns-in-Ok-write_file-clause-names g c =
    keeps_after (IsName c.args.file.now) (g.F.Files.contents c.args.files.now) (g.F.Files.contents c.read_compiled.new.files)
    (g.F.Files.contents c.write_file.new.files) c.in-Ok.ensures.same c.in-Ok-write_file.ensures.names

pub returns-in-Ok-write_file-clause-once : goal.returns-in-Ok-write_file-clause-once
returns-in-Ok-write_file-clause-once g c = λ tells.
    reads_still c.load_checked.result (g.F.Files.contents c.args.files.now) c.args.name.now (g.F.Files.reads c.args.files.now)
    (g.F.Files.reads c.read_compiled.new.files) (g.F.Files.reads c.write_file.new.files) c.write_file.ensures.unread (c.in-Ok.ensures.once tells)
