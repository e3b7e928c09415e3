-- Items in a row.
use Rattle.std.proofs.Common.{ℕ, List, map, refl}
use Rattle.std.specs.Option.{option_map}
use Rattle.nss_tree.specs.declared.constants.Constant.{Constant}
use Rattle.nss_tree.specs.declared.constants.TypeName.{TypeName}
use Rattle.nss_tree.specs.declared.expressions.Expr.{Expr}
use Rattle.nss_tree.specs.declared.units.Item.{Item}
use Rattle.nss_tree.specs.Reading.{plain_item}
use Rattle.typing_rules.specs.Sight.{Head, Sight}
use Rattle.typing_rules.specs.UnitReading.{typed_item, typed_items}
use Rattle.typing_rules.specs.Verdicts.{after_item, after_items, item_faults, item_fine, items_faults, items_fine, one_more}
use Rattle.nss_expressions.specs.Rows.{with_rest}
use Rattle.nss_expressions.specs.RowLaws.{RowLaws, mapped_step, rest_begin, rest_end}

pub item_laws : (hs : List Head) → RowLaws (option_map typed_items) (option_map typed_item) one_more with_rest
    (λ (c : Sight) (x : Item Expr Constant TypeName (List ℕ)). after_item c (plain_item x))
    (λ c x. item_fine hs c (plain_item x))
    (λ c x. item_faults hs c (plain_item x))
    (λ c xs. items_fine hs c (map plain_item xs))
    (λ c xs. items_faults hs c (map plain_item xs))
    (λ c xs. after_items c (map plain_item xs))
item_laws hs = record {
  begin = rest_begin;
  step = mapped_step typed_item;
  end = λ all c. rest_end (option_map typed_items all);
  fine_more = λ c x xs. refl;
  faults_more = λ c x xs. refl;
  faults_none = λ c. refl;
  after_more = λ c x xs. refl;
  after_none = λ c. refl;
}
