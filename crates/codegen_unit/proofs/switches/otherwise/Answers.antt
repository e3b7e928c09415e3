use Rattle.std.proofs.Common.{arith, ◌∙◌, sym}
use Rattle.codegen_unit.proofs.Known.{count_step, default_found, default_nowhere, default_passed}
use Rattle.codegen_unit.proofs.switches.otherwise.Goals as goal

pub returns-then-is_default : goal.returns-then-is_default
returns-then-is_default c =
    default_found c.args.stmts.now c.loop-stmt.stmt-index c.args.end c.loop-stmt.at _ c.stmt-item.result c.stmt-item.is c.loop-stmt-test.true
    (sym c.is_default.ensures ∙ c.if-is_default.true) c.loop-stmt.invariant.1

pub behind-at-requires : goal.behind-at-requires
behind-at-requires c =
    record { small = omega (arith, count_step c.args.stmts.now c.loop-stmt.stmt-index c.loop-stmt.at c.stmt-item.result c.stmt-item.is c.loop-stmt-test.true, c.loop-stmt.invariant.0) }

pub loop-stmt-preserved : goal.loop-stmt-preserved
loop-stmt-preserved c = (
  omega (arith, count_step c.args.stmts.now c.loop-stmt.stmt-index c.loop-stmt.at c.stmt-item.result c.stmt-item.is c.loop-stmt-test.true, c.loop-stmt.invariant.0, c.behind-at.ensures),
  default_passed c.args.stmts.now c.loop-stmt.stmt-index c.args.end c.loop-stmt.at _ _ c.stmt-item.result c.stmt-item.is c.loop-stmt-test.true
      (sym c.is_default.ensures ∙ c.if-is_default.false) c.behind-at.ensures
      c.loop-stmt.invariant.1,
)

pub returns : goal.returns
returns c = default_nowhere c.args.stmts.now c.loop-stmt.stmt-index c.args.end c.loop-stmt.at _ c.loop-stmt-test.false c.loop-stmt.invariant.1
