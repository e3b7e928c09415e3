use Rattle.std.proofs.Common.{◌≡◌, ◌∙◌, sym, true, false, ap, get_or}
use Rattle.std.specs.Str.{bytes_eq}
use Rattle.nss_symbols.specs.Terminals.{spelling}
use Rattle.nss_symbols.specs.declared.terminal.Terminal.TheVariants.{Void}
use Rattle.nss_symbols.proofs.TerminalLemmas.{written_found, written_other, written_end}
use Rattle.nss_symbols.proofs.terminal.first_written.Goals as goal

pub returns-then-eq : goal.returns-then-eq
returns-then-eq c =
    let e : bytes_eq (spelling (get_or c.args.terminals.now c.loop-terminal.terminal-index Void)) c.args.text.now
    ≡ true = ap (λ t. bytes_eq t c.args.text.now) (sym c.spelling.ensures) ∙ sym c.eq.ensures ∙ c.if-eq.true
    in sym (c.loop-terminal.invariant ∙ written_found c.args.terminals.now c.args.text.now c.loop-terminal.terminal-index Void c.loop-terminal-test.true e)

pub loop-terminal-preserved : goal.loop-terminal-preserved
loop-terminal-preserved c =
    let e : bytes_eq (spelling (get_or c.args.terminals.now c.loop-terminal.terminal-index Void)) c.args.text.now
    ≡ false = ap (λ t. bytes_eq t c.args.text.now) (sym c.spelling.ensures) ∙ sym c.eq.ensures ∙ c.if-eq.false
    in c.loop-terminal.invariant ∙ written_other c.args.terminals.now c.args.text.now c.loop-terminal.terminal-index Void c.loop-terminal-test.true e

pub returns : goal.returns
returns c = sym (c.loop-terminal.invariant ∙ written_end c.args.terminals.now c.args.text.now c.loop-terminal.terminal-index c.loop-terminal-test.false)
