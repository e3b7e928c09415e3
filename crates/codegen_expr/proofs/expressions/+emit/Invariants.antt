use Rattle.std.proofs.Common.{◌≡◌, ◌≤◌, ◌+◌, drop, length}
use Rattle.typing_rules.specs.Reading.{plain, plain_all}
use Rattle.emission_rules.specs.Bounds.{weight, all_weight}
use Rattle.emission_rules.specs.Expressions as code
use Rattle.codegen_expr.specs.Emitted.{extended}
use Rattle.codegen_expr.proofs.expressions.+emit.Given as goal

abbrev pub decreases-expression : goal.decreases-expression
decreases-expression l = weight (plain l.e.now)

abbrev pub decreases-member : goal.decreases-member
decreases-member l = weight (plain l.of.now) + 1

abbrev pub decreases-prefix : goal.decreases-prefix
decreases-prefix l = weight (plain l.of.now) + 1

abbrev pub decreases-postfix : goal.decreases-postfix
decreases-postfix l = weight (plain l.of.now) + 1

abbrev pub decreases-binary : goal.decreases-binary
decreases-binary l = weight (plain l.left.now) + weight (plain l.right.now) + 2

abbrev pub decreases-or_else : goal.decreases-or_else
decreases-or_else l = weight (plain l.left.now) + weight (plain l.right.now) + 1

abbrev pub decreases-and_then : goal.decreases-and_then
decreases-and_then l = weight (plain l.left.now) + weight (plain l.right.now) + 1

abbrev pub decreases-operands : goal.decreases-operands
decreases-operands l = weight (plain l.left.now) + weight (plain l.right.now) + 1

abbrev pub decreases-assign : goal.decreases-assign
decreases-assign l = weight (plain l.value.now) + 1

abbrev pub decreases-call : goal.decreases-call
decreases-call l = all_weight (plain_all l.given.now) + 3

abbrev pub decreases-arguments : goal.decreases-arguments
decreases-arguments l = all_weight (plain_all l.given.now) + 2

abbrev pub decreases-argument : goal.decreases-argument
decreases-argument l = weight (plain l.given.now) + 1

abbrev pub decreases-arguments-loop-i : goal.decreases-arguments-loop-i
decreases-arguments-loop-i l = l.i

abbrev pub invariant-arguments-loop-i : goal.invariant-arguments-loop-i
invariant-arguments-loop-i l =
    (l.i ≤ length l.given)
    × (l.depth ≡ l.initial.depth + code.arguments_cells l.layout (plain_all (drop l.i l.given)))
    × (l.out ≡ extended l.initial.out (code.emit_all l.layout l.initial.out.labels l.initial.depth (plain_all (drop l.i l.given))) (code.all_labels (plain_all (drop l.i l.given))))
