use Rattle.command_work.specs.Counts.{Counted}
use Rattle.command_generate.proofs.SummaryLemmas.{told_cut, limit_counts}
use Rattle.command_generate.proofs.summary.tell.Goals as goal

pub returns-in-Err-clause-does : goal.returns-in-Err-clause-does
returns-in-Err-clause-does g c = λ tells p w ends told lines at d.
    told_cut c.args.number p d (g.S.Sink.taken c.args.out.now) (g.S.Sink.taken c.put_summary.new.out) c.in-Err.cut (c.in-Err.ensures.puts tells p w ends told lines at)

pub returns-in-Ok-clause-counts : goal.returns-in-Ok-clause-counts
returns-in-Ok-clause-counts g c = λ counts.
    limit_counts c.ending_of.result (Counted counts (g.S.Sink.faults c.args.out.now))
    (Counted counts (g.S.Sink.faults c.put_summary.new.out)) c.ending_of.ensures.only (c.in-Ok.ensures.counts counts)
