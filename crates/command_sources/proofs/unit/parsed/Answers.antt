use Rattle.command_sources.proofs.UnitLemmas.{syntax_does}
use Rattle.command_sources.proofs.unit.parsed.Goals as goal

pub returns-in-Err-Syntax-clause-does : goal.returns-in-Err-Syntax-clause-does
returns-in-Err-Syntax-clause-does g c = λ told contents name is.
    let fault = rw c.in-Err-Syntax.field-0-is at c.in-Err-Syntax.ensures.refused in
    syntax_does contents name c.refuse_token-in-Err-Syntax.result (g.S.Sink.taken c.args.out.now) (g.S.Sink.taken c.refuse_token-in-Err-Syntax.new.out) c.args.unit is
    c.in-Err-Syntax.i fault.0 fault.1 (c.refuse_token-in-Err-Syntax.ensures.does told)
