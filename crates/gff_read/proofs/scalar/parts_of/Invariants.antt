use Rattle.std.proofs.Common.{◌≡◌, ◌-◌}
use Rattle.gff_read.specs.Rows.{parts_in}
use Rattle.gff_read.proofs.RowLemmas.{with_front}
use Rattle.gff_read.proofs.scalar.parts_of.Given as goal

abbrev pub invariant-loop-done : goal.invariant-loop-done
invariant-loop-done l = with_front l.parts (parts_in l.field (l.count - l._done) l.rest) ≡ parts_in l.field l.count l.bytes
