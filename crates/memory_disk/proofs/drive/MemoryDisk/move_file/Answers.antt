use Rattle.std.proofs.Common.{rules, ◌≡◌, ◌≢◌, ◌∙◌, sym, ap}
use Rattle.std.specs.FinMap as names
use Rattle.memory_disk.specs.Drive.{links_of}
use Rattle.memory_disk.proofs.DriveLemmas.{renames_apart}
use Rattle.memory_disk.proofs.drive.MemoryDisk.move_file.Goals as goal

pub returns-in-Ok : goal.returns-in-Ok
returns-in-Ok c = record {
  moves = renames_apart c.args.self.now c.put_file.new.self c.take_out.new.self c.args.from.now c.args.to.now c.args.mode c.args.bytes.now _ _ c.requires.file
      (ap (λ n. names.get (links_of n) c.args.to.now) (sym c.nodes.ensures) ∙ sym c.in-None.ensures.found)
      (search rules) c.in-Ok.ensures.ok c.take_out.ensures.gone;
}
