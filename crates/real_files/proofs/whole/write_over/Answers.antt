use Rattle.std.proofs.Common.{rules}
use Rattle.real_files.specs.declared.whole.Wrote.TheVariants.{Taken}
use Rattle.real_files.proofs.WritingLemmas.{tried}
use Rattle.real_files.proofs.whole.write_over.Goals as goal

pub returns-in_default : goal.returns-in_default
returns-in_default g c = record {
  writes = λ tells is.
      tried (g.D.Disk.names c.args.disk.now) (g.D.Disk.names c.loop-number.disk) (g.D.Disk.names c.write_whole.new.disk)
      c.as_str-in-loop-number.result.now c.args.name.now c.args.bytes.now c.args.like c.loop-number.number c.write_whole.result
      (c.loop-number.invariant tells is) is (search rules) (search rules) (c.write_whole.ensures.writes tells);
}

pub loop-number-preserved : goal.loop-number-preserved
loop-number-preserved g c = λ tells is.
    tried (g.D.Disk.names c.args.disk.now) (g.D.Disk.names c.loop-number.disk) (g.D.Disk.names c.write_whole.new.disk)
    c.as_str-in-loop-number.result.now c.args.name.now c.args.bytes.now c.args.like c.loop-number.number Taken (c.loop-number.invariant tells is) is
    (search rules) (search rules) (c.in-Taken.ensures.writes tells)
