use Rattle.std.proofs.Common.{arith}
use Rattle.emission_rules.specs.Statements as code
use Rattle.codegen_unit.proofs.Known.{count_step, stmts_past}
use Rattle.codegen_unit.proofs.switches.count_labels.Goals as goal

pub behind-count-requires : goal.behind-count-requires
behind-count-requires c =
    record {
      small = omega (
        arith,
        count_step c.args.stmts.now c.loop-stmt.stmt-index c.loop-stmt.count c.stmt-item.result c.stmt-item.is c.loop-stmt-test.true,
        c.loop-stmt.invariant,
        c.requires.small,
      );
    }

pub loop-stmt-preserved : goal.loop-stmt-preserved
loop-stmt-preserved c =
    omega (arith, count_step c.args.stmts.now c.loop-stmt.stmt-index c.loop-stmt.count c.stmt-item.result c.stmt-item.is c.loop-stmt-test.true, c.loop-stmt.invariant, c.behind-count.ensures)

pub returns : goal.returns
returns c = omega (arith, stmts_past code.count_labels c.args.stmts.now c.loop-stmt.stmt-index c.loop-stmt-test.false, c.loop-stmt.invariant)
