use Rattle.std.proofs.Common.{◌≡◌, ◌∙◌, sym, ap, subst}
use Rattle.std.specs.FinMap as names
use Rattle.memory_disk.proofs.DriveLemmas.{makes_part}
use Rattle.memory_disk.proofs.drive.MemoryDisk.make_part.Goals as goal

pub returns-in-Ok : goal.returns-in-Ok
returns-in-Ok c = record {
  part = λ name bytes like lasting. makes_part c.args.self.now c.put_file.new.self c.args.new.now _ _ _
      (ap (λ n. names.get n c.args.new.now) (sym c.nodes.ensures) ∙ sym c.in-None.ensures.node) c.in-Ok.ensures.ok;
}
