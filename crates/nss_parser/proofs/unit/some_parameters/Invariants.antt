use Rattle.std.proofs.Common.{◌≡◌, ◌-◌, []}
use Rattle.nss_parser.specs.ReadUnit as read
use Rattle.nss_parser.proofs.unit.some_parameters.Given as goal

-- what is left to read gives what all gives
abbrev pub invariant-loop-turn : goal.invariant-loop-turn
invariant-loop-turn l = read.parameters_from l.fn.depth [] l.fn.tokens ≡ read.parameters_from (l.depth - l._turn) l.all l.tokens
