use Rattle.stack_check.proofs.Handing.{hands_none}
use Rattle.stack_check.proofs.Following.{adds_calls_none}
use Rattle.std.proofs.Common.{refl}
use Rattle.stack_check.proofs.ReturnSteps.{start_quiet, stored_quiet}
use Rattle.stack_check.proofs.returns.returned.Goals as goal

pub returns-in-Start : goal.returns-in-Start
returns-in-Start c = record {
  sees = start_quiet c.args.judged.now.table.now c.args.judged.now.code.now c.args.heap.now c.args.facts.now c.args.from.trial c.args.from.place c.args.from.held c.args.trial
      c.requires.keeps c.requires.op c.requires.trial c.in-Start.is;
  waits = refl;
  few = adds_calls_none c.args.todo.now 3;
  hands = hands_none c.args.facts.now c.args.todo.now;
}

pub returns-in-Stored : goal.returns-in-Stored
returns-in-Stored c = record {
  sees = stored_quiet c.args.judged.now.table.now c.args.judged.now.code.now c.args.heap.now c.args.facts.now c.args.from.trial c.args.from.place c.in-Stored._site c.args.from.held
      c.args.trial c.requires.keeps c.requires.op c.requires.trial c.in-Stored.is;
  waits = refl;
  few = adds_calls_none c.args.todo.now 3;
  hands = hands_none c.args.facts.now c.args.todo.now;
}
