use Rattle.std.proofs.Common.{sym, ◌∙◌}
use Rattle.codegen_unit.proofs.Listed.{globals_ready}
use Rattle.codegen_unit.proofs.units.emit_start.Goals as goal

pub emit_init-requires-clause-ready : goal.emit_init-requires-clause-ready
emit_init-requires-clause-ready c = globals_ready _ _ _ c.requires.ready c.requires.small (sym c.has_globals.ensures ∙ c.if-has_globals.true)
