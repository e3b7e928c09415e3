use Rattle.std.proofs.Common.{◌≡◌, ◌∙◌, sym, ap, subst}
use Rattle.std.specs.FinMap as names
use Rattle.memory_disk.proofs.DriveLemmas.{file_part, file_written}
use Rattle.memory_disk.proofs.drive.MemoryDisk.write_file.Goals as goal

pub returns-in-Ok-clause-err : goal.returns-in-Ok-clause-err
returns-in-Ok-clause-err c = file_part c.args.self.now c.put_file.new.self c.args.name.now c.args.mode _ _ c.requires.file c.in-Ok.ensures.ok

pub returns-in-Ok-put_file-clause-ok : goal.returns-in-Ok-put_file-clause-ok
returns-in-Ok-put_file-clause-ok c =
    file_written c.args.self.now c.put_file-2.new.self c.args.name.now c.args.mode c.args.bytes.now _ c.requires.file c.in-Ok-put_file.ensures.ok
