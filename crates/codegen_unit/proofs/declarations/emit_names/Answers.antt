use Rattle.codegen_unit.proofs.Names.{names_ready, names_step}
use Rattle.codegen_unit.proofs.declarations.emit_names.Goals as goal

pub loop-name-preserved : goal.loop-name-preserved
loop-name-preserved c = (
  names_ready c.args.layout.now c.args.names.now c.loop-name.name-index c.name-item.result _ _ _ _ c.name-item.is c.loop-name-test.true c.in_ok-emit_initial.ensures
      c.cells-depth.ensures.cells c.loop-name.invariant.0,
  names_step c.args.layout.now c.args.names.now c.loop-name.name-index c.name-item.result _ _ _ _ _ c.name-item.is c.loop-name-test.true c.in_ok-emit_initial.ensures
      c.cells-depth.ensures.cells c.loop-name.invariant.1,
)
