use Rattle.typing_laws.proofs.Whole.{each_typed_tree_has_code, each_typed_unit_has_code}
use Rattle.typing_laws.specs.Laws.{EachTypedTreeHasCode}
use Rattle.typing_laws.proofs.laws.typed_units_have_code.Goals as goal

pub returns : goal.returns
returns c =
    let roles = c.roles_tell.ensures in
    let tree : EachTypedTreeHasCode =
    each_typed_tree_has_code c.verdicts_are_right.ensures.typed c.items_are_right.ensures.typed
    (record { built = roles.built; hooks = roles.hooks; world = roles.world }) in
    record { tree = tree; tokens = each_typed_unit_has_code c.each_tree_is_known.ensures.known tree }
