use Rattle.std.proofs.Common.{◌+◌, ◌-◌, arith}
use Rattle.gff_read.proofs.RowLemmas.{parts_step}
use Rattle.gff_read.proofs.scalar.parts_of.Goals as goal

pub loop-done-preserved : goal.loop-done-preserved
loop-done-preserved c =
    parts_step c.args.field (c.args.count - c.loop-done._done)
    (c.args.count - (c.loop-done._done + 1)) c.loop-done.parts c.push.new.self c.loop-done.rest.now c.in_ok-part.behind.now c.in_ok-part.part _
    c.loop-done.invariant (omega arith) c.in_ok-part.ensures c.in_ok-push.ensures.ok
