use Rattle.std.proofs.Common.{◌≡◌, ◌++◌, drop}
use Rattle.std.specs.List.{flat_map}
use Rattle.typing_rules.specs.Cells.{line_cells}
use Rattle.nss_layout.proofs.structs.fields_cells.Given as goal

abbrev pub invariant-loop-line : goal.invariant-loop-line
invariant-loop-line l = l.types ++ flat_map (line_cells l.structs) (drop l.line-index l.lines) ≡ flat_map (line_cells l.structs) l.lines
