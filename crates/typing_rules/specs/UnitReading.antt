-- The one reading of a typed unit from the one that code holds.
use Rattle.std.specs.Prelude.{List, map}
use Rattle.nss_tree.specs.declared.statements.DeclaredName.{DeclaredName}
use Rattle.nss_tree.specs.declared.statements.Stmt.{Stmt}
use Rattle.nss_tree.specs.declared.units.Item.{Item}
use Rattle.nss_tree.specs.Statements.{map_declared, map_stmt, map_stmts}
use Rattle.nss_tree.specs.Units.{map_item}
use Rattle.nss_tree.specs.Reading.{tree_of_item, tree_of_stmt, tree_of_stmts}
use Rattle.nwq_value.specs.declared.value.Ty.{Ty}
use Rattle.nwq_value.specs.declared.engine.Const.{Const}
use Rattle.typing_rules.specs.declared.expressions.Expression.{Expression}
use Rattle.typing_rules.specs.declared.places.Variable.{Variable}
use Rattle.typing_rules.specs.declared.units.Typed.{Typed}
use Rattle.typing_rules.specs.Reading.{plain}
use Rattle.typing_rules.specs.Typed.{TypedItem, TypedName, TypedStmt, TypedStmts, TypedUnit}

abbrev pub typed_name : DeclaredName Expression Variable → TypedName
typed_name = map_declared plain

abbrev pub typed_names : List (DeclaredName Expression Variable) → List TypedName
typed_names = map typed_name

abbrev pub typed_stmt : Stmt Expression Const Ty Variable → TypedStmt
typed_stmt x = map_stmt plain (tree_of_stmt x)

abbrev pub typed_stmts : List (Stmt Expression Const Ty Variable) → TypedStmts
typed_stmts xs = map_stmts plain (tree_of_stmts xs)

abbrev pub typed_item : Item Expression Const Ty Variable → TypedItem
typed_item x = map_item plain (tree_of_item x)

abbrev pub typed_items : List (Item Expression Const Ty Variable) → List TypedItem
typed_items = map typed_item

abbrev pub typed_unit : Typed → TypedUnit
typed_unit t = record { items = typed_items t.items; entry = t.entry }
