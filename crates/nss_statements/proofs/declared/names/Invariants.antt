use Rattle.std.proofs.Common.{◌≡◌, drop}
use Rattle.std.specs.Option.{option_map}
use Rattle.nss_tree.specs.Reading.{plain_names}
use Rattle.typing_rules.specs.Nodes.{kept}
use Rattle.typing_rules.specs.UnitReading.{typed_names}
use Rattle.typing_rules.specs.Verdicts.{after_names, names_faults, names_fine}
use Rattle.nss_expressions.specs.Rows.{with_rest}
use Rattle.nss_expressions.specs.Views.{heads_in, sight_in}
use Rattle.nss_statements.proofs.declared.names.Given as goal

abbrev pub invariant-loop-name : goal.invariant-loop-name
invariant-loop-name l =
    (with_rest (option_map typed_names l.all) (names_fine (heads_in l.given) (sight_in l.given l.sight) l.ty (plain_names (drop l.name-index l.names)))
    ≡ names_fine (heads_in l.given) (sight_in l.given l.initial.sight) l.ty (plain_names l.names))
    × (kept l.least (names_faults (heads_in l.given) (sight_in l.given l.sight) l.ty (plain_names (drop l.name-index l.names)))
    ≡ kept l.initial.least (names_faults (heads_in l.given) (sight_in l.given l.initial.sight) l.ty (plain_names l.names)))
    × (after_names (sight_in l.given l.sight) l.ty (plain_names (drop l.name-index l.names)) ≡ after_names (sight_in l.given l.initial.sight) l.ty (plain_names l.names))
