use Rattle.memory_disk.proofs.drive.MemoryDisk.make_so.Goals as goal

pub returns-then-breaks : goal.returns-then-breaks
returns-then-breaks c = record { makes = c.make_part.ensures.part c.args.name.now c.args.bytes.now c.args.like c.args.lasting }

pub returns : goal.returns
returns c = record { makes = c.make_kept.ensures.makes c.args.name.now }
