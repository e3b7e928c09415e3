use Rattle.std.proofs.Common.{◌≡◌, map, subst}
use Rattle.std.specs.Option.{option_map}
use Rattle.std.specs.Result.{IfOk, OnOk}
use Rattle.nss_tree.specs.Reading.{plain_item}
use Rattle.typing_rules.specs.Nodes.{kept}
use Rattle.typing_rules.specs.UnitReading.{typed_items}
use Rattle.typing_rules.specs.Verdicts.{items_faults, items_fine}
use Rattle.nss_types.proofs.unit.typed_items_of.Goals as goal

pub returns-clause-value : goal.returns-clause-value
returns-clause-value c =
    subst (λ k. IfOk c.items-typed.result (λ r. option_map typed_items r ≡ items_fine c.args.heads.now k (map plain_item c.args.xs.now))) (c.start-c.ensures.start c.args.table.now)
    c.items-typed.ensures.value

pub returns-clause-least : goal.returns-clause-least
returns-clause-least c =
    subst (λ k. OnOk c.items-typed.result (c.items-typed.new.least ≡ kept c.args.least.now (items_faults c.args.heads.now k (map plain_item c.args.xs.now)))) (c.start-c.ensures.start c.args.table.now)
    c.items-typed.ensures.least
