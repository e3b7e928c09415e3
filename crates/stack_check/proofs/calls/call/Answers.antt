use Rattle.stack_check.proofs.Handing.{hands_kept}
use Rattle.stack_check.proofs.calls.call.Goals as goal

pub returns-clause-hands : goal.returns-clause-hands
returns-clause-hands c =
    hands_kept c.args.facts.now c.call_routine.new.facts c.args.todo.now c.call_routine.new.todo c.add_call.new.self _ c.args.at.target _ c.args.at.from.held
    c.in_ok-seen.ensures.hands c.requires.row c.number-row.ensures.number c.requires.op c.in_ok-add_call.ensures.same c.in_ok-add_call.ensures.kept
