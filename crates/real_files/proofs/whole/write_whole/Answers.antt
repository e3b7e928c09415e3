use Rattle.real_files.proofs.WritingLemmas.{broken, unmoved, fixed}
use Rattle.real_files.proofs.whole.write_whole.Goals as goal

pub returns-in-Broken : goal.returns-in-Broken
returns-in-Broken g c = record {
  writes = λ tells own apart is.
      broken (g.D.Disk.names c.args.disk.now) (g.D.Disk.names c.make.new.self) (g.D.Disk.names c.give_up.new.disk) c.args.new.now c.args.name.now
      c.args.bytes.now c.args.like c.is_lasting.result c.in-Broken.why c.give_up.result own apart (c.in-Broken.ensures.makes tells) (c.give_up.ensures.removes tells);
}

pub returns-in-Fixed : goal.returns-in-Fixed
returns-in-Fixed g c = record {
  writes = λ tells own apart is.
      let still = c.in-Fixed.ensures.moves tells in
      fixed (g.D.Disk.names c.args.disk.now) (g.D.Disk.names c.make.new.self) (g.D.Disk.names c.give_up-in-Fixed.new.disk) c.args.new.now c.args.name.now
      c.args.bytes.now c.args.like c.is_lasting.result (g.D.Disk.names c.rename.new.self) c.give_up-in-Fixed.result own apart (c.in-Whole.ensures.makes tells) still.0 still.1
      (c.give_up-in-Fixed.ensures.removes tells);
}

pub returns-in-Refused-rename : goal.returns-in-Refused-rename
returns-in-Refused-rename g c = record {
  writes = λ tells own apart is.
      unmoved (g.D.Disk.names c.args.disk.now) (g.D.Disk.names c.make.new.self) (g.D.Disk.names c.give_up-in-Refused-rename.new.disk) c.args.new.now
      c.args.name.now c.args.bytes.now c.args.like c.is_lasting.result (g.D.Disk.names c.rename.new.self) c.in-Refused-rename.why c.give_up-in-Refused-rename.result own apart
      (c.in-Whole.ensures.makes tells) (c.in-Refused-rename.ensures.moves tells) (c.give_up-in-Refused-rename.ensures.removes tells);
}
