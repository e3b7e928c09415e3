use Rattle.std.proofs.Common.{arith, ap}
use Rattle.ncs_emit.specs.Labelled.{LabelledCode}
use Rattle.codegen_unit.proofs.Known.{count_step, tests_done, tests_step}
use Rattle.codegen_unit.proofs.switches.emit_tests.Goals as goal

pub emit_test-requires : goal.emit_test-requires
emit_test-requires c =
    record { made = omega (arith, count_step c.args.stmts.now c.loop-stmt.stmt-index c.loop-stmt.at c.stmt-item.result c.stmt-item.is c.loop-stmt-test.true, c.loop-stmt.invariant.0) }

pub behind-at-requires : goal.behind-at-requires
behind-at-requires c =
    record {
      small = omega (
        arith,
        count_step c.args.stmts.now c.loop-stmt.stmt-index c.loop-stmt.at c.stmt-item.result c.stmt-item.is c.loop-stmt-test.true,
        c.loop-stmt.invariant.0,
        c.requires.small,
        ap (λ (d : LabelledCode). d.labels) c.loop-stmt.invariant.1,
      );
    }

pub loop-stmt-preserved : goal.loop-stmt-preserved
loop-stmt-preserved c = (
  omega (
    arith,
    count_step c.args.stmts.now c.loop-stmt.stmt-index c.loop-stmt.at c.stmt-item.result c.stmt-item.is c.loop-stmt-test.true,
    c.loop-stmt.invariant.0,
    c.behind-at.ensures,
    ap (λ (d : LabelledCode). d.labels) c.in_ok-emit_test.ensures,
  ),
  tests_step _ _ _ c.args.stmts.now c.loop-stmt.stmt-index c.loop-stmt.at _ c.stmt-item.result c.stmt-item.is c.loop-stmt-test.true c.in_ok-emit_test.ensures c.behind-at.ensures
      c.loop-stmt.invariant.1,
)

pub returns : goal.returns
returns c = tests_done _ _ c.args.stmts.now c.loop-stmt.stmt-index c.loop-stmt.at c.loop-stmt-test.false c.loop-stmt.invariant.1
