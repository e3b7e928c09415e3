use Rattle.std.proofs.Common.{rules}
use Rattle.command_work.specs.Calls.{IsName}
use Rattle.command_work.specs.KeepsLemmas.{keeps_after}
use Rattle.command_work.specs.Parts.{then_ok}
use Rattle.command_files.specs.Codes.{code_named}
use Rattle.command_files.specs.Commands.{disassembles, writes_listing}
use Rattle.command_files.proofs.commands.disassemble_file.Goals as goal

pub returns-clause-does : goal.returns-clause-does
unfolding disassembles
returns-clause-does g c = λ files_tell sink_tells.
    then_ok (code_named c.args.file.now) (writes_listing c.args.to.now) c.in-Ok.code (g.F.Files.contents c.args.files.now) (g.F.Files.contents c.read_code.new.files)
    (g.F.Files.contents c.write_and_put.new.files) (g.S.Sink.taken c.args.out.now) (g.S.Sink.taken c.read_code.new.out) (g.S.Sink.taken c.write_and_put.new.out)
    c.write_and_put.result (c.in-Ok.ensures.does files_tell sink_tells) (search rules)

pub returns-clause-names : goal.returns-clause-names
returns-clause-names g c =
    keeps_after (IsName c.args.to.now) (g.F.Files.contents c.args.files.now) (g.F.Files.contents c.read_code.new.files) (g.F.Files.contents c.write_and_put.new.files)
    c.in-Ok.ensures.same c.write_and_put.ensures.names
