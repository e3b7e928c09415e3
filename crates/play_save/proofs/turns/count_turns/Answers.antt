use Rattle.std.proofs.Common.{arith, ◌∙◌}
use Rattle.play_save.proofs.Turning.{counts_step, counts_room}
use Rattle.play_save.proofs.turns.count_turns.Goals as goal

pub count_one-requires-clause-room : goal.count_one-requires-clause-room
count_one-requires-clause-room c =
    counts_room c.loop-entry.counts c.args.entries.now c.loop-entry.entry-index c.args.objects 18446744073709551615 c.loop-entry.invariant.0 c.loop-entry.invariant.1
    (omega (arith, c.loop-entry-test.true, c.loop-entry.auto.entry-index-end))

pub loop-entry-preserved : goal.loop-entry-preserved
loop-entry-preserved c = (
  counts_step c.loop-entry.counts c.count_one.new.counts c.args.entries.now c.loop-entry.entry-index c.args.objects c.entry-item.result c.loop-entry.invariant.0
      c.count_one.ensures.counts c.loop-entry-test.true c.entry-item.is,
  c.count_one.ensures.len ∙ c.loop-entry.invariant.1,
)
