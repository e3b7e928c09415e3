use Rattle.std.proofs.Common.{◌≡◌, ◌+◌, ◌-◌, ◌*◌}
use Rattle.nss_tree.specs.Expressions.{no_expr}
use Rattle.nss_tree.specs.Reading.{plain_expr, plain_exprs}
use Rattle.nss_parser.specs.ReadExpression as read
use Rattle.nss_parser.proofs.expression.+level.Given as goal

abbrev pub decreases-after_first : goal.decreases-after_first
decreases-after_first l = 6 * l.depth + 5

abbrev pub decreases-after_name : goal.decreases-after_name
decreases-after_name l = 6 * l.depth + 3

abbrev pub decreases-arguments : goal.decreases-arguments
decreases-arguments l = 6 * l.depth + 2

abbrev pub decreases-some_arguments : goal.decreases-some_arguments
decreases-some_arguments l = 6 * l.depth + 1

abbrev pub decreases-assigned : goal.decreases-assigned
decreases-assigned l = 6 * l.depth + 4

abbrev pub decreases-climb : goal.decreases-climb
decreases-climb l = 6 * l.depth + 3

abbrev pub decreases-level : goal.decreases-level
decreases-level l = 6 * l.depth

abbrev pub decreases-operand : goal.decreases-operand
decreases-operand l = 6 * l.depth + 1

abbrev pub decreases-operation : goal.decreases-operation
decreases-operation l = 6 * l.depth + 2

abbrev pub decreases-prefix : goal.decreases-prefix
decreases-prefix l = 6 * l.depth + 5

abbrev pub decreases-primary : goal.decreases-primary
decreases-primary l = 6 * l.depth + 4

-- what is left to read gives what all gives
abbrev pub invariant-some_arguments-loop-turn : goal.invariant-some_arguments-loop-turn
invariant-some_arguments-loop-turn l = read.arguments_from l.fn.depth
    (read.level l.fn.depth) l.fn.depth no_expr l.fn.tokens
    ≡ read.arguments_from l.fn.depth (read.level l.fn.depth) (l.depth - l._turn) (plain_exprs l.all) l.tokens

abbrev pub invariant-climb-loop-turn : goal.invariant-climb-loop-turn
invariant-climb-loop-turn l = read.climb l.fn.depth (read.level l.fn.depth) l.fn.depth l.fn.least
    (plain_expr l.fn.left) l.fn.tokens
    ≡ read.climb l.fn.depth (read.level l.fn.depth) (l.depth - l._turn) l.fn.least (plain_expr l.left) l.tokens
