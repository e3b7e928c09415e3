use Rattle.command_work.specs.Calls.{IsName}
use Rattle.command_work.specs.KeepsLemmas.{keeps_after}
use Rattle.command_files.proofs.commands.assemble_file.Goals as goal

pub returns-in-Ok-clause-names : goal.returns-in-Ok-clause-names
returns-in-Ok-clause-names g c =
    keeps_after (IsName c.args.to.now) (g.F.Files.contents c.args.files.now) (g.F.Files.contents c.read_assembly.new.files) (g.F.Files.contents c.write_and_put.new.files)
    c.in-Ok.ensures.same c.write_and_put.ensures.names
