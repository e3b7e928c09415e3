use Rattle.std.proofs.Common.{refl}
use Rattle.stack_lists.proofs.Waits.{keeps_marked, keeps_put, put_waits}
use Rattle.stack_lists.proofs.todo.put_call.Goals as goal

pub returns-in_err-put-clause-keeps : goal.returns-in_err-put-clause-keeps
returns-in_err-put-clause-keeps c =
    keeps_put c.args.calls.now c.args.later.now.items c.push.new.self.items c.args.waits.now c.put.new.self
    (record { spot = c.args.call.spot; number = c.args.number }) c.args.call c.requires.top refl c.in_ok-push.ensures.items c.in_err-put.ensures.err

pub returns-in_ok-put-clause-keeps : goal.returns-in_ok-put-clause-keeps
returns-in_ok-put-clause-keeps c =
    keeps_marked c.args.calls.now c.args.later.now.items c.push.new.self.items c.args.waits.now c.put.new.self
    (record { spot = c.args.call.spot; number = c.args.number }) c.args.call c.requires.top refl c.in_ok-push.ensures.items c.in_ok-put.ensures.put

pub returns-else-get-eq0-clause-put : goal.returns-else-get-eq0-clause-put
returns-else-get-eq0-clause-put c =
    put_waits c.args.calls.now c.args.later.now.items c.args.waits.now c.args.number c.get.result c.args.call c.requires.top c.get.ensures.number
    (λ e. absurd (c.if-get-eq0.false e))
