use Rattle.std.proofs.Common.{map}
use Rattle.nss_symbols.specs.Cursor.{plain_symbol}
use Rattle.nss_symbols.specs.Nest.{terminal_in}
use Rattle.nss_symbols.proofs.NestLaws.{SoFar}
use Rattle.nss_symbols.proofs.nest.first_over.Given as goal

abbrev pub invariant-loop-i : goal.invariant-loop-i
invariant-loop-i l = SoFar (map terminal_in (map plain_symbol l.symbols)) l.i l.before l.terminal l.nest
