use Rattle.std.proofs.Common.{subst}
use Rattle.memory_disk.specs.Drive.{AreBytes}
use Rattle.memory_disk.proofs.calls.MemoryDiskDisk.files_are_bytes.Goals as goal

pub returns : goal.returns
unfolding AreBytes
returns c =
    let held : AreBytes c.args.self.now.nodes = subst AreBytes c.nodes.ensures c.hold_bytes.ensures.bytes in
    record { bytes = λ _ name bytes is. held name bytes is }
