use Rattle.std.proofs.Common.{◌≡◌}
use Rattle.saved_state.specs.Cells.{run_written}
use Rattle.saved_state.proofs.pile.write_run.Given as goal

-- so many are written
abbrev pub invariant-loop-index : goal.invariant-loop-index
invariant-loop-index l = record {
  written : l.top.items ≡ run_written l.to l.first l.index l.fn.top.items;
}
