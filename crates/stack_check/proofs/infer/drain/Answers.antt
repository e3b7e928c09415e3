use Rattle.stack_check.proofs.Costs.{drain_counts_all, drain_counts_last}
use Rattle.stack_check.proofs.Ending.{drain_done}
use Rattle.stack_check.proofs.Settling.{settled_out}
use Rattle.stack_check.proofs.infer.drain.Goals as goal

pub look-requires-clause-settled : goal.look-requires-clause-settled
look-requires-clause-settled c =
    settled_out c.args.judged.now.table.now c.args.judged.now.code.now c.loop-spot.heap c.loop-spot.facts c.loop-spot.todo c.next.new.self c.in-Some.spot
    c.in-Some.ensures.next c.in-Some.ensures.calls c.loop-spot.invariant.0.settled

pub returns-in-Changed-clause-looks : goal.returns-in-Changed-clause-looks
returns-in-Changed-clause-looks c =
    drain_counts_last c.args.todo.now c.loop-spot.todo c.next.new.self c.look.new.todo c.args.looks.now c.loop-spot.looks _ c.in-Some.spot
    c.loop-spot.invariant.1 c.in-Some.ensures.next c.in-Some.ensures.calls c.saturating_add.ensures c.in_ok-seen.ensures.few

pub returns-in-Bad-clause-looks : goal.returns-in-Bad-clause-looks
returns-in-Bad-clause-looks c =
    drain_counts_last c.args.todo.now c.loop-spot.todo c.next.new.self c.look.new.todo c.args.looks.now c.loop-spot.looks _ c.in-Some.spot
    c.loop-spot.invariant.1 c.in-Some.ensures.next c.in-Some.ensures.calls c.saturating_add.ensures c.in_ok-seen.ensures.few

pub returns-clause-looks : goal.returns-clause-looks
returns-clause-looks c =
    drain_counts_all c.args.todo.now c.loop-spot.todo c.next.new.self c.args.looks.now c.loop-spot.looks c.loop-spot.invariant.1 c.in_default.ensures.next
    c.in_default.ensures.calls

pub returns-clause-sees : goal.returns-clause-sees
returns-clause-sees c =
    drain_done c.args.judged.now.table.now c.args.judged.now.code.now c.loop-spot.heap c.args.facts.now c.loop-spot.facts c.loop-spot.todo c.next.new.self
    c.loop-spot.invariant.0 c.in_default.ensures.next c.in_default.ensures.calls
