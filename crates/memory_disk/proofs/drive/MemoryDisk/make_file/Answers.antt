use Rattle.std.proofs.Common.{false, ◌≡◌, ◌∙◌, sym, ap}
use Rattle.std.specs.FinMap as names
use Rattle.memory_disk.proofs.DriveLemmas.{makes_whole}
use Rattle.memory_disk.proofs.drive.MemoryDisk.make_file.Goals as goal

pub returns-then-room-bytes : goal.returns-then-room-bytes
returns-then-room-bytes c = record { makes = λ name. c.make_part.ensures.part name c.args.bytes.now c.args.like false }

pub returns-in-Ok : goal.returns-in-Ok
returns-in-Ok c = record {
  makes = λ name. makes_whole c.args.self.now c.put_file.new.self c.args.new.now _ c.args.bytes.now _
      (ap (λ n. names.get n c.args.new.now) (sym c.nodes.ensures) ∙ sym c.in-None.ensures.node) c.in-Ok.ensures.ok c.args.like 420 c.unwrap_or.ensures;
}
