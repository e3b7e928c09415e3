use Rattle.std.proofs.Common.{◌≡◌, ◌+◌, drop}
use Rattle.nss_tree.specs.Reading.{plain_expr, plain_exprs}
use Rattle.nss_expressions.specs.Views.{heads_in, sight_in}
use Rattle.expression_reasons.specs.Reasons.{all_nodes}
use Rattle.expression_reasons.specs.Seen.{seen}
use Rattle.nss_expressions.specs.Nodes.{all_size, size}
use Rattle.expression_reasons.proofs.expression.+walk.Given as goal

abbrev pub invariant-arguments-loop-e : goal.invariant-arguments-loop-e
invariant-arguments-loop-e l =
    seen l.k l.found (all_nodes (heads_in l.given) (sight_in l.given l.c) l.rest (plain_exprs (drop l.e-index l.es)))
    ≡ seen l.k l.initial.found (all_nodes (heads_in l.given) (sight_in l.given l.c) l.params (plain_exprs l.es))

abbrev pub decreases-expression : goal.decreases-expression
decreases-expression l = size (plain_expr l.e.now)

abbrev pub decreases-arguments : goal.decreases-arguments
decreases-arguments l = all_size (plain_exprs l.es.now)

abbrev pub decreases-call : goal.decreases-call
decreases-call l = all_size (plain_exprs l.es.now) + 1

abbrev pub decreases-member : goal.decreases-member
decreases-member l = size (plain_expr l.of.now) + 1

abbrev pub decreases-prefix : goal.decreases-prefix
decreases-prefix l = size (plain_expr l.of.now) + 1

abbrev pub decreases-postfix : goal.decreases-postfix
decreases-postfix l = size (plain_expr l.of.now) + 1

abbrev pub decreases-binary : goal.decreases-binary
decreases-binary l = size (plain_expr l.left.now) + size (plain_expr l.right.now) + 1

abbrev pub decreases-assign : goal.decreases-assign
decreases-assign l = size (plain_expr l.place.now) + size (plain_expr l.value.now) + 1
