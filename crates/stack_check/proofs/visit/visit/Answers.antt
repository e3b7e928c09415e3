use Rattle.std.proofs.Common.{sym}
use Rattle.stack_check.proofs.Handing.{hands_none}
use Rattle.stack_check.proofs.Following.{adds_calls_none}
use Rattle.stack_check.proofs.Storing.{no_op_bad}
use Rattle.stack_check.proofs.Settling.{kept_nothing}
use Rattle.stack_check.proofs.visit.visit.Goals as goal

pub returns-in-None : goal.returns-in-None
returns-in-None c = record {
  sees = no_op_bad c.args.judged.now.table.now c.args.judged.now.code.now c.args.heap.now c.args.facts.now c.args.from.trial c.args.from.place c.args.from.held c.requires.keeps
      c.requires.row c.in-None.ensures.op;
  waits = tt;
  few = adds_calls_none c.args.todo.now 3;
  hands = hands_none c.args.facts.now c.args.todo.now;
  kept = kept_nothing c.args.judged.now.code.now c.args.todo.now c.args.from.trial c.args.from.place (sym c.in-None.ensures.op);
}
