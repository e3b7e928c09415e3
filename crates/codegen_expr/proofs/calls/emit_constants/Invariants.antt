use Rattle.std.proofs.Common.{◌≡◌, ◌≤◌, ◌++◌, drop, length}
use Rattle.emission_rules.specs.Expressions as code
use Rattle.codegen_expr.proofs.calls.emit_constants.Given as goal

abbrev pub decreases-loop-i : goal.decreases-loop-i
decreases-loop-i l = l.i

abbrev pub invariant-loop-i : goal.invariant-loop-i
invariant-loop-i l =
    (l.i ≤ length l.constants)
    × (l.out ≡ record l.initial.out { lines = l.initial.out.lines ++ code.constants (drop l.i l.constants) })
