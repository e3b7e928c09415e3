use Rattle.stack_check.specs.Facts.{left}
use Rattle.stack_check.specs.Inference.{AreSettled, Keeps}
use Rattle.stack_check.proofs.Costs.{LooksSoFar}
use Rattle.stack_check.proofs.Ending.{TurnedSoFar}
use Rattle.stack_check.proofs.infer.settle.Given as goal

abbrev pub invariant-work : goal.invariant-work
invariant-work l = Keeps l.judged.table.now l.judged.code.now l.heap l.facts × TurnedSoFar l.initial.turns l.initial.facts l.turns l.facts
    × LooksSoFar l.initial.todo l.todo l.initial.turns l.turns l.initial.looks l.looks
    × AreSettled l.judged.table.now l.judged.code.now l.heap l.facts l.todo

abbrev pub decreases-work : goal.decreases-work
decreases-work l = left l.facts
