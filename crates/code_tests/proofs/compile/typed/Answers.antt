use Rattle.nss_tree.specs.Reading.{plain_tree}
use Rattle.typing_rules.specs.UnitReading.{typed_unit}
use Rattle.code_tests.proofs.compile.typed.Goals as goal

pub returns-in-Ok : goal.returns-in-Ok
returns-in-Ok c =
    c.typed_units_have_code.ensures.tree c.args.table.now (plain_tree c.args.tree) (typed_unit c.in-Ok.unit) c.keeps.ensures.table c.requires.known c.requires.few
    c.in-Ok.ensures.typed
