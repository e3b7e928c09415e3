use Rattle.std.proofs.Common.{◌≡◌, drop}
use Rattle.typing_rules.specs.Nodes.{kept}
use Rattle.typing_rules.specs.Verdicts.{after_fields, fields_faults, fields_fine}
use Rattle.nss_types.specs.Fields.{fields_of}
use Rattle.nss_expressions.specs.Rows.{with_rest}
use Rattle.nss_types.proofs.field.fields_of_line.Given as goal

abbrev pub invariant-loop-x : goal.invariant-loop-x
invariant-loop-x l =
    (with_rest l.all (fields_fine l.structs (fields_of l.fields) l.ty (drop l.x-index l.xs)) ≡ fields_fine l.structs (fields_of l.initial.fields) l.ty l.xs)
    × (kept l.least (fields_faults l.structs (fields_of l.fields) l.ty (drop l.x-index l.xs)) ≡ kept l.initial.least (fields_faults l.structs (fields_of l.initial.fields) l.ty l.xs))
    × (after_fields l.structs (fields_of l.fields) l.ty (drop l.x-index l.xs) ≡ after_fields l.structs (fields_of l.initial.fields) l.ty l.xs)
