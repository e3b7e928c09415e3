use Rattle.std.proofs.Common.{◌∙◌, ap, map}
use Rattle.nss_tree.specs.Reading.{plain_item}
use Rattle.typing_rules.specs.Verdicts.{after_items}
use Rattle.nss_expressions.specs.Views.{sight_in}
use Rattle.nss_reasons.proofs.item.go_behind.Goals as goal

pub returns : goal.returns
returns c = record {
  sight = c.in_ok-typed.ensures.sight ∙ ap (λ xs. after_items (sight_in c.args.given.now c.args.c.now) (map plain_item xs)) c.from_ref.ensures.value;
}
