use Rattle.memory_disk.proofs.DriveLemmas.{bytes_kept, bytes_lost, bytes_brief}
use Rattle.memory_disk.proofs.drive.MemoryDisk.make_kept.Goals as goal

pub returns-in-Ok : goal.returns-in-Ok
returns-in-Ok c = record {
  makes = λ name. bytes_kept c.args.self.now c.make_file.new.self c.keep_bytes.new.self c.args.new.now c.args.bytes.now c.args.like
      (c.in-Whole.ensures.makes name) c.args.lasting c.in-Ok.ensures.ok;
}

pub returns-in-Err : goal.returns-in-Err
returns-in-Err c = record {
  makes = λ name. bytes_lost c.args.self.now c.make_file.new.self c.keep_bytes.new.self c.args.new.now c.args.bytes.now c.args.like
      (c.in-Whole.ensures.makes name) c.in-Err.ensures.err;
}

pub returns-in-Whole-2 : goal.returns-in-Whole-2
returns-in-Whole-2 c = record {
  makes = λ name. bytes_brief c.args.self.now c.make_file.new.self c.make_file.new.self c.args.new.now c.args.bytes.now c.args.like
      (c.in-Whole.ensures.makes name) c.args.lasting c.if-lasting.false;
}
