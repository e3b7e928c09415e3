use Rattle.std.proofs.Common.{◌∙◌}
use Rattle.command_work.specs.Calls.{IsName}
use Rattle.command_work.specs.KeepsLemmas.{keeps_after}
use Rattle.command_compile.specs.Files.{code_name}
use Rattle.command_sources.specs.Reads.{header_read}
use Rattle.command_compile.proofs.FileLemmas.{reads_behind}
use Rattle.command_compile.proofs.file.compile_file.Goals as goal

pub returns-clause-names : goal.returns-clause-names
returns-clause-names g c =
    keeps_after (IsName (code_name c.args.script.now)) (g.F.Files.contents c.args.files.now) (g.F.Files.contents c.read_compiled.new.files)
    (g.F.Files.contents c.write_code.new.files) (c.in-Ok-read_compiled.ensures.same ∙ c.in-Ok.ensures.same) c.write_code.ensures.names

pub returns-clause-once : goal.returns-clause-once
returns-clause-once g c = λ tells.
    reads_behind c.write_code.result (g.F.Files.contents c.args.files.now) (g.F.Files.contents c.read_table.new.files) c.args.script.now
    (header_read c.args.header.now (g.F.Files.reads c.args.files.now)) (g.F.Files.reads c.read_table.new.files) (g.F.Files.reads c.read_compiled.new.files)
    (g.F.Files.reads c.write_code.new.files) c.in-Ok.ensures.same c.read_table.ensures.once c.write_code.ensures.unread (c.in-Ok-read_compiled.ensures.once tells)
