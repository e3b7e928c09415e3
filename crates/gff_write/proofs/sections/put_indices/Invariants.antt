use Rattle.std.proofs.Common.{◌≡◌, ◌-◌, ◌+◌, ◌++◌}
use Rattle.gff_write.specs.File.{words_up}
use Rattle.gff_write.proofs.sections.put_indices.Given as goal

abbrev pub invariant-loop-done : goal.invariant-loop-done
invariant-loop-done l = record {
  text : l.indices ++ words_up l.next (l.count - l._done) ≡ l.fn.indices ++ words_up l.first l.count;
  next : l.next ≡ l.first + l._done;
}
