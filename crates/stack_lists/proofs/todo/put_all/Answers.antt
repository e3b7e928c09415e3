use Rattle.stack_lists.proofs.Waits.{so_far_all}
use Rattle.stack_lists.proofs.todo.put_all.Goals as goal

pub returns-clause-put : goal.returns-clause-put
returns-clause-put c =
    so_far_all c.args.calls.now c.args.later.now.items c.loop-call.later.items c.args.waits.now c.loop-call.waits c.args.number c.loop-call.at c.loop-call.invariant
    c.in_default.ensures.top
