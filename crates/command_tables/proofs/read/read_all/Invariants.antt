use Rattle.std.proofs.Common.{◌≡◌, length}
use Rattle.command_work.specs.Counts.{Counted}
use Rattle.command_tables.proofs.ReadLemmas.{SoFar}
use Rattle.command_tables.proofs.CountLemmas.{ReadsTo}
use Rattle.command_tables.proofs.read.read_all.Given as goal

abbrev pub invariant-loop-name : goal.invariant-loop-name
invariant-loop-name g l = record {
  so_far : SoFar g.F.Files.tells g.S.Sink.tells l.names l.rest l.tables (g.F.Files.contents l.fn.files) (g.F.Files.contents l.files)
      (g.S.Sink.taken l.fn.out) (g.S.Sink.taken l.out);
  counts : Counted (g.F.Files.counts l.files) (g.S.Sink.faults l.out)
      ≡ Counted (g.F.Files.counts l.fn.files) (g.S.Sink.faults l.fn.out);
  same : g.F.Files.contents l.files ≡ g.F.Files.contents l.fn.files;
  reads : ReadsTo l.names l.rest (g.F.Files.reads l.fn.files) (g.F.Files.reads l.files);
}

abbrev pub decreases-loop-name : goal.decreases-loop-name
decreases-loop-name g l = length l.rest
