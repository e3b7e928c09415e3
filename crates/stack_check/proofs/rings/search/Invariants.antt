use Rattle.std.proofs.Common.{◌-◌}
use Rattle.stack_check.specs.Inference.{Keeps}
use Rattle.stack_check.specs.Rings.{IsWay}
use Rattle.stack_check.proofs.rings.search.Given as goal

abbrev pub invariant-loop-count : goal.invariant-loop-count
invariant-loop-count l =
    Keeps l.judged.table.now l.judged.code.now l.heap l.facts × IsWay l.judged.table.now l.judged.code.now l.heap l.facts l.way

abbrev pub decreases-loop-count : goal.decreases-loop-count
decreases-loop-count l = l.most - l.count
