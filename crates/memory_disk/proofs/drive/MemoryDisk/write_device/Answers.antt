use Rattle.std.proofs.Common.{◌≡◌, ◌∙◌, sym, ap, subst}
use Rattle.std.specs.FinMap as names
use Rattle.memory_disk.proofs.DriveLemmas.{device_written}
use Rattle.memory_disk.specs.Drive.{files_of}
use Rattle.memory_disk.proofs.drive.MemoryDisk.write_device.Goals as goal

pub returns-in-Ok-clause-ok : goal.returns-in-Ok-clause-ok
returns-in-Ok-clause-ok c =
    device_written c.args.self.now c.put_device.new.self c.args.name.now c.args.bytes.now _ c.requires.no_mode
    (ap (λ n. names.get (files_of n) c.args.name.now) (sym c.nodes.ensures) ∙ sym c.in-Some.ensures.found) c.in-Ok.ensures.ok
