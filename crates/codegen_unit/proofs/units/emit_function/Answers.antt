use Rattle.std.proofs.Common.{arith}
use Rattle.typing_rules.specs.UnitReading.{typed_stmts}
use Rattle.codegen_unit.specs.Ready.{plain_exits}
use Rattle.codegen_unit.proofs.InRow.{stmts_few}
use Rattle.codegen_unit.proofs.Listed.{function_code}
use Rattle.codegen_unit.proofs.units.emit_function.Goals as goal

pub statements-requires-clause-ready : goal.statements-requires-clause-ready
statements-requires-clause-ready c = rw (c.place.ensures.placed, c.params_cells-depth.ensures, c.no_exits.ensures.none) c.requires.ready

pub drop_cells-requires : goal.drop_cells-requires
drop_cells-requires c = record { small = omega (arith, c.in_ok-behind.ensures.depth, stmts_few _ _ _ _ _ c.requires.ready) }

pub returns-clause-code : goal.returns-clause-code
returns-clause-code c =
    function_code _ c.args.layout.now (plain_exits c.no_exits.result) c.args.number c.params_cells-depth.result _ c.args.parameters.now (typed_stmts c.args.body.now) _ _ _ _ _ _
    c.place.ensures.placed c.params_cells-depth.ensures c.no_exits.ensures.plain c.in_ok-behind.ensures.code
    (omega (arith, c.in_ok-behind.ensures.depth)) c.in_ok-drop_cells.ensures.ok c.in_ok-drop_cells-2.ensures.ok c.op.ensures.ok
