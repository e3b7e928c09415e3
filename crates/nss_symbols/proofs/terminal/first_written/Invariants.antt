use Rattle.std.proofs.Common.{◌≡◌, drop}
use Rattle.nss_symbols.specs.Terminals.{first_written}
use Rattle.nss_symbols.proofs.terminal.first_written.Given as goal

abbrev pub invariant-loop-terminal : goal.invariant-loop-terminal
invariant-loop-terminal l = first_written l.terminals l.text ≡ first_written (drop l.terminal-index l.terminals) l.text
