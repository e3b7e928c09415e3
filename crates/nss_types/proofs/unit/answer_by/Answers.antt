use Rattle.std.proofs.Common.{◌∙◌, ap, map, sym}
use Rattle.std.specs.Option.{option_map}
use Rattle.nss_tree.specs.Reading.{plain_item, plain_tree}
use Rattle.typing_rules.specs.UnitReading.{typed_items}
use Rattle.typing_rules.specs.Verdicts.{heads}
use Rattle.nss_types.proofs.UnitLemmas.{is_there, refuses, types}
use Rattle.nss_types.proofs.unit.answer_by.Goals as goal

pub made-requires : goal.made-requires
made-requires c = record {
  typed = is_there c.verdicts_are_right.ensures.typed c.verdicts_are_right.ensures.least c.verdicts_are_right.ensures.settled c.args.table.now (plain_tree c.args.tree.now)
      c.args.declared.now (map plain_item c.as_slice.result.now)
      (option_map typed_items c.in_ok-items.items) c.judge_entry-entry.result c.typed_items_of.new.least c.judge_entry-entry.new.least (ap (map plain_item) c.as_slice.ensures.items)
      (c.requires.declared ∙ ap (λ ys. heads c.args.table.now (map plain_item ys)) (sym c.as_slice.ensures.items))
      c.in_ok-items.ensures.value c.in_ok-items.ensures.least c.judge_entry-entry.ensures.value c.judge_entry-entry.ensures.least;
}

pub returns-clause-typed : goal.returns-clause-typed
returns-clause-typed c = types c.verdicts_are_right.ensures.typed c.verdicts_are_right.ensures.least c.verdicts_are_right.ensures.settled c.args.table.now (plain_tree c.args.tree.now)
    c.args.declared.now (map plain_item c.as_slice.result.now)
    (option_map typed_items c.in_ok-items.items) c.judge_entry-entry.result c.typed_items_of.new.least c.judge_entry-entry.new.least (ap (map plain_item) c.as_slice.ensures.items)
    (c.requires.declared ∙ ap (λ ys. heads c.args.table.now (map plain_item ys)) (sym c.as_slice.ensures.items))
    c.in_ok-items.ensures.value c.in_ok-items.ensures.least c.judge_entry-entry.ensures.value c.judge_entry-entry.ensures.least c.made.result c.made.ensures.typed

pub returns-clause-fault : goal.returns-clause-fault
returns-clause-fault c = refuses c.verdicts_are_right.ensures.typed c.verdicts_are_right.ensures.least c.verdicts_are_right.ensures.settled c.args.table.now (plain_tree c.args.tree.now)
    c.args.declared.now (map plain_item c.as_slice.result.now)
    (option_map typed_items c.in_ok-items.items) c.judge_entry-entry.result c.typed_items_of.new.least c.judge_entry-entry.new.least (ap (map plain_item) c.as_slice.ensures.items)
    (c.requires.declared ∙ ap (λ ys. heads c.args.table.now (map plain_item ys)) (sym c.as_slice.ensures.items))
    c.in_ok-items.ensures.value c.in_ok-items.ensures.least c.judge_entry-entry.ensures.value c.judge_entry-entry.ensures.least c.made.result c.made.ensures.fault
