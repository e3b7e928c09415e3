use Rattle.std.proofs.Common.{◌≡◌, ◌++◌, drop}
use Rattle.typing_rules.specs.UnitReading.{typed_stmts}
use Rattle.emission_rules.specs.Layout as laid
use Rattle.nss_layout.proofs.frames.+statements.Given as goal

abbrev pub invariant-stmts_positions-loop-stmt : goal.invariant-stmts_positions-loop-stmt
invariant-stmts_positions-loop-stmt l = l.positions
    ++ laid.all_positions l.structs l.depth (typed_stmts (drop l.stmt-index l.stmts))
    ≡ l.initial.positions ++ laid.all_positions l.structs l.initial.depth (typed_stmts l.stmts)
