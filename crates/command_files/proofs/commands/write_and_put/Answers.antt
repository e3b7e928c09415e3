use Rattle.std.proofs.Common.{rules}
use Rattle.command_files.specs.Texts.{done_line}
use Rattle.command_files.proofs.CommandLemmas.{written_told, written_counted}
use Rattle.command_files.proofs.commands.write_and_put.Goals as goal

pub returns-in-Ok-clause-does : goal.returns-in-Ok-clause-does
returns-in-Ok-clause-does g c = λ files_tell sink_tells.
    written_told c.args.to.now c.args.bytes.now (done_line c.args.done.now c.args.to.now c.args.count) c.in-Ok.field-0 c.put.result (g.F.Files.contents c.args.files.now)
    (g.F.Files.contents c.write_file.new.files) (g.S.Sink.taken c.args.out.now) (g.S.Sink.taken c.put.new.out)
    (c.in-Ok.ensures.does files_tell (g.S.Sink.taken c.args.out.now))
    (c.put.ensures.does sink_tells (done_line c.args.done.now c.args.to.now c.args.count) (search rules))

pub returns-in-Ok-clause-counts : goal.returns-in-Ok-clause-counts
returns-in-Ok-clause-counts g c =
    written_counted (g.F.Files.counts c.args.files.now) (g.F.Files.counts c.write_file.new.files) (g.S.Sink.faults c.args.out.now) (g.S.Sink.faults c.put.new.out) c.put.result
    c.in-Ok.ensures.counts
    (c.put.ensures.counts (g.F.Files.counts c.write_file.new.files))
