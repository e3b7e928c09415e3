use Rattle.std.proofs.Common.{◌≡◌, ◌++◌, drop}
use Rattle.std.specs.List.{flat_map}
use Rattle.typing_rules.specs.Cells.{cell_types}
use Rattle.nss_layout.proofs.structs.put_line.Given as goal

abbrev pub invariant-loop-name : goal.invariant-loop-name
invariant-loop-name l = l.types ++ flat_map (λ x. cell_types l.structs l.line.ty) (drop l._name-index l._name-items) ≡ l.initial.types ++ flat_map (λ x. cell_types l.structs l.line.ty) l._name-items
