use Rattle.std.proofs.Common.{◌≡◌, ◌∙◌, sym, ap, subst}
use Rattle.std.specs.FinMap as names
use Rattle.memory_disk.proofs.DriveLemmas.{file_part}
use Rattle.memory_disk.specs.Drive.{modes_of}
use Rattle.memory_disk.proofs.drive.MemoryDisk.break_write.Goals as goal

pub returns-in-Ok : goal.returns-in-Ok
returns-in-Ok c = record {
  broken = file_part c.args.self.now c.put_file.new.self c.args.name.now _ _ _
      (ap (λ n. names.get (modes_of n) c.args.name.now) (sym c.nodes.ensures) ∙ sym c.in-Some.ensures.found) c.in-Ok.ensures.ok;
}
