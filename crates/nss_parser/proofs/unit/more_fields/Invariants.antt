use Rattle.std.proofs.Common.{◌≡◌, ◌-◌, [], ◌∷◌}
use Rattle.nss_parser.specs.ReadUnit as read
use Rattle.nss_parser.proofs.unit.more_fields.Given as goal

-- what is left to read gives what all gives
abbrev pub invariant-loop-turn : goal.invariant-loop-turn
invariant-loop-turn l = read.more_fields l.fn.depth (l.fn.first ∷ []) l.fn.tokens ≡ read.more_fields (l.depth - l._turn) l.names l.tokens
