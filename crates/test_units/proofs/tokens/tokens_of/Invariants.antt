use Rattle.std.proofs.Common.{◌≤◌, length}
use Rattle.std.specs.List.{AllByRecursion}
use Rattle.nss_lexer.specs.Lexemes.{IsToken}
use Rattle.test_units.proofs.tokens.tokens_of.Given as goal

abbrev pub invariant-loop-turn : goal.invariant-loop-turn
invariant-loop-turn l = (l.at ≤ length l.source) × AllByRecursion IsToken l.all.items × (length l.all.items ≤ l._turn)
