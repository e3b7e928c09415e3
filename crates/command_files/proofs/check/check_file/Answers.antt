use Rattle.std.proofs.Common.{◌≡◌, ◌∙◌, ap}
use Rattle.nwq_outside.specs.Outside.{next}
use Rattle.command_sources.specs.Reads.{header_read, on_ok}
use Rattle.command_files.proofs.check.check_file.Goals as goal

pub returns-clause-once : goal.returns-clause-once
returns-clause-once g c =
    on_ok c.put.result (g.F.Files.reads c.read_checked.new.files ≡ next (header_read c.args.header.now (g.F.Files.reads c.args.files.now)))
    (c.read_checked.ensures.once ∙ ap next c.read_table.ensures.once)
