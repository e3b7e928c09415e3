use Rattle.std.proofs.Common.{Err, ◌∙◌}
use Rattle.hook_table.specs.InHooks.{known_by}
use Rattle.world_core.specs.Calls.{cells_of}
use Rattle.command_work.specs.Counts.{Counted}
use Rattle.command_work.specs.Parts.{then_ok, then_err}
use Rattle.command_sources.specs.Headers.{table_of_word}
use Rattle.command_sources.specs.Reads.{ReadsUnit, header_read, on_ok, reads_same}
use Rattle.command_compile.specs.Files.{code_name, compiled_named}
use Rattle.command_plays.specs.Scripts.{plays_file}
use Rattle.command_run.specs.Runs.{runs, runs_under}
use Rattle.command_run.proofs.TellLemmas.{counted_on}
use Rattle.command_run.proofs.runs.run.Goals as goal

-- ---- the work

pub returns-in-Err-clause-does : goal.returns-in-Err-clause-does
unfolding runs
returns-in-Err-clause-does g c = λ files_tell sink_tells.
    then_err (table_of_word c.args.header.now) (runs_under (cells_of (known_by c.args.hooks.now)) c.args.script.now) c.in-Err.status
    (g.F.Files.contents c.args.files.now) (g.F.Files.contents c.read_table.new.files) (g.S.Sink.taken c.args.out.now) (g.S.Sink.taken c.read_table.new.out)
    (c.in-Err.ensures.does files_tell sink_tells)

pub returns-in-Err-read_compiled-clause-does : goal.returns-in-Err-read_compiled-clause-does
unfolding runs runs_under
returns-in-Err-read_compiled-clause-does g c = λ files_tell sink_tells.
    let cell = cells_of (known_by c.args.hooks.now) in
    let script = c.args.script.now in
    let mid = g.F.Files.contents c.read_table.new.files in
    let told = g.S.Sink.taken c.read_table.new.out in
    then_ok (table_of_word c.args.header.now) (runs_under cell script) c.in-Ok.table (g.F.Files.contents c.args.files.now) mid
    (g.F.Files.contents c.read_compiled.new.files) (g.S.Sink.taken c.args.out.now) told (g.S.Sink.taken c.read_compiled.new.out)
    (Err c.in-Err-read_compiled.status) (c.in-Ok.ensures.does files_tell sink_tells)
    (then_err (compiled_named c.in-Ok.table script) (plays_file cell c.in-Ok.table script (code_name script)) c.in-Err-read_compiled.status mid
    (g.F.Files.contents c.read_compiled.new.files) told (g.S.Sink.taken c.read_compiled.new.out) (c.in-Err-read_compiled.ensures.does files_tell sink_tells))

pub returns-in-Ok-read_compiled-clause-does : goal.returns-in-Ok-read_compiled-clause-does
unfolding runs runs_under
returns-in-Ok-read_compiled-clause-does g c = λ files_tell sink_tells.
    let cell = cells_of (known_by c.args.hooks.now) in
    let script = c.args.script.now in
    let mid = g.F.Files.contents c.read_table.new.files in
    let last = g.F.Files.contents c.read_compiled.new.files in
    let told = g.S.Sink.taken c.read_table.new.out in
    then_ok (table_of_word c.args.header.now) (runs_under cell script) c.in-Ok.table (g.F.Files.contents c.args.files.now) mid last
    (g.S.Sink.taken c.args.out.now) told (g.S.Sink.taken c.play_compiled.new.out) c.play_compiled.result (c.in-Ok.ensures.does files_tell sink_tells)
    (then_ok (compiled_named c.in-Ok.table script) (plays_file cell c.in-Ok.table script (code_name script)) c.in-Ok-read_compiled.bytes mid last last told
    (g.S.Sink.taken c.read_compiled.new.out) (g.S.Sink.taken c.play_compiled.new.out) c.play_compiled.result
    (c.in-Ok-read_compiled.ensures.does files_tell sink_tells) (c.play_compiled.ensures.does sink_tells last))

-- ---- counts and reads

pub returns-in-Err-read_compiled-clause-counts : goal.returns-in-Err-read_compiled-clause-counts
returns-in-Err-read_compiled-clause-counts g c =
    counted_on (Err c.in-Err-read_compiled.status) (Counted (g.F.Files.counts c.args.files.now) (g.S.Sink.faults c.args.out.now))
    (Counted (g.F.Files.counts c.read_table.new.files) (g.S.Sink.faults c.read_table.new.out))
    (Counted (g.F.Files.counts c.read_compiled.new.files) (g.S.Sink.faults c.read_compiled.new.out)) c.in-Ok.ensures.counts
    c.in-Err-read_compiled.ensures.counts

pub returns-in-Ok-read_compiled-clause-counts : goal.returns-in-Ok-read_compiled-clause-counts
returns-in-Ok-read_compiled-clause-counts g c =
    let counts = g.F.Files.counts c.read_compiled.new.files in
    counted_on c.play_compiled.result (Counted (g.F.Files.counts c.args.files.now) (g.S.Sink.faults c.args.out.now))
    (Counted (g.F.Files.counts c.read_table.new.files) (g.S.Sink.faults c.read_table.new.out)) (Counted counts (g.S.Sink.faults c.play_compiled.new.out))
    c.in-Ok.ensures.counts
    (counted_on c.play_compiled.result (Counted (g.F.Files.counts c.read_table.new.files) (g.S.Sink.faults c.read_table.new.out))
    (Counted counts (g.S.Sink.faults c.read_compiled.new.out)) (Counted counts (g.S.Sink.faults c.play_compiled.new.out))
    c.in-Ok-read_compiled.ensures.counts (c.play_compiled.ensures.counts counts))

pub returns-in-Err-read_compiled-clause-same : goal.returns-in-Err-read_compiled-clause-same
returns-in-Err-read_compiled-clause-same g c = c.in-Err-read_compiled.ensures.same ∙ c.in-Ok.ensures.same

pub returns-in-Ok-read_compiled-clause-same : goal.returns-in-Ok-read_compiled-clause-same
returns-in-Ok-read_compiled-clause-same g c = c.in-Ok-read_compiled.ensures.same ∙ c.in-Ok.ensures.same

pub returns-in-Ok-read_compiled-clause-once : goal.returns-in-Ok-read_compiled-clause-once
returns-in-Ok-read_compiled-clause-once g c = λ tells.
    let mid = g.F.Files.contents c.read_table.new.files in
    reads_same c.play_compiled.result (g.F.Files.contents c.args.files.now) mid c.args.script.now
    (header_read c.args.header.now (g.F.Files.reads c.args.files.now)) (g.F.Files.reads c.read_table.new.files) (g.F.Files.reads c.read_compiled.new.files)
    c.in-Ok.ensures.same c.read_table.ensures.once
    (on_ok c.play_compiled.result
    (ReadsUnit mid c.args.script.now (g.F.Files.reads c.read_table.new.files) (g.F.Files.reads c.read_compiled.new.files)) (c.in-Ok-read_compiled.ensures.once tells))
