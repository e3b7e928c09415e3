use Rattle.std.proofs.Common.{◌≡◌, ◌-◌}
use Rattle.nss_tree.specs.Reading.{plain_expr}
use Rattle.nss_parser.specs.ReadExpression as read
use Rattle.nss_parser.proofs.expression.suffixes.Given as goal

-- what is left to read gives what all gives
abbrev pub invariant-loop-turn : goal.invariant-loop-turn
invariant-loop-turn l = read.suffixes l.fn.depth (plain_expr l.fn.of) l.fn.tokens ≡ read.suffixes (l.depth - l._turn) (plain_expr l.of) l.tokens
