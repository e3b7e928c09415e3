use Rattle.stack_check.proofs.Handing.{hands_given, hands_none}
use Rattle.stack_check.proofs.Following.{adds_calls_none}
use Rattle.std.proofs.Common.{refl}
use Rattle.std.proofs.lemmas.Bool.{iff_false}
use Rattle.stack_check.proofs.ReturnSteps.{gives_bad, gives_quiet}
use Rattle.stack_check.proofs.returns.return_cells.Goals as goal

pub returns-then-same : goal.returns-then-same
returns-then-same c = record {
  sees = gives_quiet c.args.judged.now.table.now c.args.judged.now.code.now c.args.heap.now c.args.facts.now c.args.from.trial c.args.from.place c.args.target c.args.from.held
      c.args.trial c.in-Some.given c.requires.keeps c.requires.op c.requires.trial c.requires.entry c.in-Some.is (c.same.ensures.0 c.if-same.true)
      c.requires.saved c.requires.pending;
  waits = refl;
  few = adds_calls_none c.args.todo.now 3;
  hands = hands_none c.args.facts.now c.args.todo.now;
  again = tt;
}

pub returns-else-same : goal.returns-else-same
returns-else-same c = record {
  sees = gives_bad c.args.judged.now.table.now c.args.judged.now.code.now c.args.heap.now c.args.facts.now c.args.from.trial c.args.from.place c.args.target c.args.from.held
      c.args.trial c.in-Some.given c.requires.keeps c.requires.row c.requires.op c.requires.trial c.requires.entry c.in-Some.is
      (iff_false c.same.ensures c.if-same.false);
  waits = tt;
  few = adds_calls_none c.args.todo.now 3;
  hands = hands_none c.args.facts.now c.args.todo.now;
  again = tt;
}

pub returns-in_ok-call_again-in-None-clause-hands :
    goal.returns-in_ok-call_again-in-None-clause-hands
returns-in_ok-call_again-in-None-clause-hands c =
    hands_given c.args.facts.now c.give.new.facts c.args.todo.now c.call_again.new.self c.args.from.trial c.args.target c.args.trial
    c.in_ok-give-in-None.ensures.set c.requires.trial c.requires.entry c.in_ok-call_again-in-None.ensures.added c.call_again.ensures.calls
