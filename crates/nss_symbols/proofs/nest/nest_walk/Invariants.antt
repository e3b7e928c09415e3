use Rattle.std.proofs.Common.{map, take}
use Rattle.nss_symbols.specs.Cursor.{plain_symbol}
use Rattle.nss_symbols.specs.Nest.{terminal_in}
use Rattle.nss_symbols.proofs.WalkLaws.{Walked}
use Rattle.nss_symbols.proofs.nest.nest_walk.Given as goal

abbrev pub invariant-loop-symbol : goal.invariant-loop-symbol
invariant-loop-symbol l = Walked (map terminal_in (map plain_symbol (take l.symbol-index l.symbols))) l.before l.last l.nest
