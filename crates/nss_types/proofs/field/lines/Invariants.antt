use Rattle.std.proofs.Common.{◌≡◌, drop}
use Rattle.typing_rules.specs.Nodes.{kept}
use Rattle.typing_rules.specs.Verdicts.{lines_faults, lines_fine}
use Rattle.nss_types.specs.Fields.{fields_of}
use Rattle.nss_expressions.specs.Rows.{with_rest}
use Rattle.nss_types.proofs.field.lines.Given as goal

abbrev pub invariant-loop-l : goal.invariant-loop-l
invariant-loop-l l =
    (with_rest l.all (lines_fine l.structs (fields_of l.fields) (drop l.l-index l.ls)) ≡ lines_fine l.structs (fields_of l.initial.fields) l.ls)
    × (kept l.least (lines_faults l.structs (fields_of l.fields) (drop l.l-index l.ls)) ≡ kept l.initial.least (lines_faults l.structs (fields_of l.initial.fields) l.ls))
