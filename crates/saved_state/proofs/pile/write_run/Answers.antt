use Rattle.saved_state.proofs.Runs.{one_written}
use Rattle.saved_state.proofs.pile.write_run.Goals as goal

pub loop-index-preserved : goal.loop-index-preserved
loop-index-preserved c = record {
  written =
      one_written c.args.to c.args.first c.args.count c.loop-index.index c.args.top.now.items c.loop-index.top.items c.copy_over.new.top.items
      c.loop-index.invariant.written c.requires.order c.requires.inside c.loop-index-test.true c.in_ok-copy_over.ensures.put;
}
