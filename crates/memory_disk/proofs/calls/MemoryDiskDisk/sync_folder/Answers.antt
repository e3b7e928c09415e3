use Rattle.std.proofs.Common.{rules, ◌≡◌, ap, subst}
use Rattle.real_files.specs.Disk.{Names, Syncs}
use Rattle.memory_disk.specs.Drive.{names_of}
use Rattle.memory_disk.proofs.DriveLemmas.{folder_kept}
use Rattle.memory_disk.proofs.calls.MemoryDiskDisk.sync_folder.Goals as goal

pub returns-in-Ok-clause-ok : goal.returns-in-Ok-clause-ok
returns-in-Ok-clause-ok c = λ tells.
    let same : names_of c.begin.new.self ≡ names_of c.args.self.now = ap names_of c.begin.ensures.counted in
    let name : c.as_bytes.result.now ≡ c.args.name.now = search rules in
    let after : Names = names_of c.keep_folder.new.self in
    subst (λ n. Syncs n after c.args.name.now) same
    (subst (Syncs (names_of c.begin.new.self) after) name (folder_kept c.begin.new.self c.keep_folder.new.self c.as_bytes.result.now c.in-Ok.ensures.ok))
