use Rattle.std.proofs.Common.{◌-◌, ◌∙◌, take, drop, ap}
use Rattle.saved_state.proofs.Views.{captured_view}
use Rattle.saved_state.proofs.stack.Stack.capture.Goals as goal

pub returns-clause-state : goal.returns-clause-state
returns-clause-state c =
    captured_view c.self.inside.cells c.self.inside.bp c.args.script c.args.place c.args.globals c.args.locals c.len-len.result
    c.in_ok-part.field-0 c.in_ok-part-2.field-0 c.args.self.now c.self.view_is c.requires.bp c.requires.globals c.requires.locals
    c.len-len.ensures.count c.in_ok-part.ensures.part
    (c.in_ok-part-2.ensures.part ∙ ap (λ t. drop (c.len-len.result - c.args.locals) (take c.len-len.result t)) c.part.ensures.same)
