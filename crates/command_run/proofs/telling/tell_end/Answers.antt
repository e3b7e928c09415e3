use Rattle.command_work.specs.Counts.{Counted}
use Rattle.command_run.proofs.TellLemmas.{limit_counts}
use Rattle.command_run.proofs.telling.tell_end.Goals as goal

pub returns-in-Ok-clause-counts : goal.returns-in-Ok-clause-counts
returns-in-Ok-clause-counts g c = λ counts.
    limit_counts c.ending_of.result (Counted counts (g.S.Sink.faults c.args.out.now)) (Counted counts (g.S.Sink.faults c.put.new.out))
    c.ending_of.ensures.only (c.in-Ok.ensures.counts counts)
