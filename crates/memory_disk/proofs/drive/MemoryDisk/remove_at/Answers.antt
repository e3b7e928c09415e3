use Rattle.std.proofs.Common.{◌≡◌, ◌∙◌, sym, ap, subst}
use Rattle.std.specs.FinMap as names
use Rattle.memory_disk.proofs.DriveLemmas.{removes}
use Rattle.memory_disk.specs.Drive.{modes_of}
use Rattle.memory_disk.proofs.drive.MemoryDisk.remove_at.Goals as goal

pub returns-clause-ok : goal.returns-clause-ok
returns-clause-ok c =
    removes c.args.self.now c.take_out.new.self c.args.name.now _ _
    (ap (λ n. names.get (modes_of n) c.args.name.now) (sym c.nodes.ensures) ∙ sym c.in-Some.ensures.found) c.take_out.ensures.gone
