use Rattle.stack_check.proofs.Handing.{hands_none}
use Rattle.stack_check.proofs.Following.{adds_calls_none}
use Rattle.stack_check.proofs.ReturnSteps.{pending_bad, saved_bad}
use Rattle.stack_check.proofs.returns.return_called.Goals as goal

pub returns-then-from-ne0 : goal.returns-then-from-ne0
returns-then-from-ne0 c = record {
  sees = pending_bad c.args.judged.now.table.now c.args.judged.now.code.now c.args.heap.now c.args.facts.now c.args.from.trial c.args.from.place c.args.target c.args.from.held
      c.args.trial c.requires.keeps c.requires.row c.requires.op c.requires.trial c.requires.entry c.if-from-ne0.true;
  waits = tt;
  few = adds_calls_none c.args.todo.now 3;
  hands = hands_none c.args.facts.now c.args.todo.now;
}

pub returns-in-Some : goal.returns-in-Some
returns-in-Some c = record {
  sees = saved_bad c.args.judged.now.table.now c.args.judged.now.code.now c.args.heap.now c.args.facts.now c.args.from.trial c.args.from.place c.args.target c.args.from.held
      c.args.trial _ _ c.requires.keeps c.requires.row c.requires.op c.requires.trial c.requires.entry c.in-Some.ensures.top;
  waits = tt;
  few = adds_calls_none c.args.todo.now 3;
  hands = hands_none c.args.facts.now c.args.todo.now;
}
