use Rattle.std.proofs.Common.{◌∙◌, ap}
use Rattle.nss_symbols.specs.Terminals.{terminal_of, first_written}
use Rattle.nss_symbols.proofs.terminal.terminal_of.Goals as goal

pub returns : goal.returns
unfolding terminal_of
returns c = c.first_written.ensures ∙ ap (λ ts. first_written ts c.args.text.now) c.as_slice.ensures
