use Rattle.std.proofs.Common.{◌≡◌, drop, map}
use Rattle.std.specs.Option.{option_map}
use Rattle.nss_tree.specs.Reading.{plain_item}
use Rattle.typing_rules.specs.Nodes.{kept}
use Rattle.typing_rules.specs.UnitReading.{typed_items}
use Rattle.typing_rules.specs.Verdicts.{after_items, items_faults, items_fine}
use Rattle.nss_expressions.specs.Rows.{with_rest}
use Rattle.nss_expressions.specs.Views.{heads_in, sight_in}
use Rattle.nss_types.proofs.item.items.Given as goal

abbrev pub invariant-loop-x : goal.invariant-loop-x
invariant-loop-x l =
    (with_rest (option_map typed_items l.all) (items_fine (heads_in l.given) (sight_in l.given l.c) (map plain_item (drop l.x-index l.xs)))
    ≡ items_fine (heads_in l.given) (sight_in l.given l.initial.c) (map plain_item l.xs))
    × (kept l.least (items_faults (heads_in l.given) (sight_in l.given l.c) (map plain_item (drop l.x-index l.xs)))
    ≡ kept l.initial.least (items_faults (heads_in l.given) (sight_in l.given l.initial.c) (map plain_item l.xs)))
    × (after_items (sight_in l.given l.c) (map plain_item (drop l.x-index l.xs)) ≡ after_items (sight_in l.given l.initial.c) (map plain_item l.xs))
