use Rattle.std.proofs.Common.{◌+◌, ◌-◌, arith, refl}
use Rattle.gff_write.proofs.FlatLemmas.{indices_step}
use Rattle.gff_write.proofs.sections.put_indices.Goals as goal

pub loop-done-preserved : goal.loop-done-preserved
loop-done-preserved c = record {
  text =
      indices_step c.loop-done.indices c.put_word.new.out c.loop-done.next _ (c.args.count - c.loop-done._done) (c.args.count - (c.loop-done._done + 1)) _
      c.loop-done.invariant.text (omega arith) c.in_ok-put_word.ensures refl;
  next = omega (arith, c.loop-done.invariant.next);
}
