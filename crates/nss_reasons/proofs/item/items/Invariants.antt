use Rattle.std.proofs.Common.{◌≡◌, drop, map}
use Rattle.nss_tree.specs.Reading.{plain_item}
use Rattle.typing_rules.specs.Verdicts.{after_items}
use Rattle.nss_expressions.specs.Views.{heads_in, sight_in}
use Rattle.nss_reasons.specs.Reasons.{items_nodes}
use Rattle.expression_reasons.specs.Seen.{seen}
use Rattle.nss_reasons.proofs.item.items.Given as goal

abbrev pub invariant-loop-x : goal.invariant-loop-x
invariant-loop-x l =
    (seen l.k l.found (items_nodes (heads_in l.given) (sight_in l.given l.c) (map plain_item (drop l.x-index l.xs)))
    ≡ seen l.k l.initial.found (items_nodes (heads_in l.given) (sight_in l.given l.initial.c) (map plain_item l.xs)))
    × (after_items (sight_in l.given l.c) (map plain_item (drop l.x-index l.xs)) ≡ after_items (sight_in l.given l.initial.c) (map plain_item l.xs))
