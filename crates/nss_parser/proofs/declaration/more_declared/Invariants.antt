use Rattle.std.proofs.Common.{◌≡◌, ◌-◌, [], ◌∷◌}
use Rattle.nss_tree.specs.Reading.{plain_name, plain_names}
use Rattle.nss_parser.specs.ReadDeclaration as read
use Rattle.nss_parser.proofs.declaration.more_declared.Given as goal

-- what is left to read gives what all gives
abbrev pub invariant-loop-turn : goal.invariant-loop-turn
invariant-loop-turn l = read.more_declared l.fn.depth l.fn.depth (plain_name l.fn.first ∷ []) l.fn.tokens ≡ read.more_declared l.fn.depth (l.depth - l._turn) (plain_names l.all) l.tokens
