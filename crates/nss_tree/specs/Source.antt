-- The plain tree of a script's source: names are bytes, types and constants are as they are
-- written.
use Rattle.std.specs.Prelude.{ℕ, List}
use Rattle.nss_tree.specs.declared.constants.Constant.{Constant}
use Rattle.nss_tree.specs.declared.constants.TypeName.{TypeName}
use Rattle.nss_tree.specs.declared.statements.DeclaredName.{DeclaredName}
use Rattle.nss_tree.specs.declared.units.FieldLine.{FieldLine}
use Rattle.nss_tree.specs.declared.units.Parameter.{Parameter}
use Rattle.nss_tree.specs.Expressions.{PlainExpr}
use Rattle.nss_tree.specs.Statements.{PlainStmt, PlainStmts}
use Rattle.nss_tree.specs.Units.{PlainItem, PlainTree}

abbrev pub SourceDeclared : Type 0
SourceDeclared = DeclaredName PlainExpr (List ℕ)

abbrev pub SourceStmt : Type 0
SourceStmt = PlainStmt PlainExpr Constant TypeName (List ℕ)

abbrev pub SourceStmts : Type 0
SourceStmts = PlainStmts PlainExpr Constant TypeName (List ℕ)

abbrev pub SourceItem : Type 0
SourceItem = PlainItem PlainExpr Constant TypeName (List ℕ)

abbrev pub SourceTree : Type 0
SourceTree = PlainTree PlainExpr Constant TypeName (List ℕ)

abbrev pub SourceLine : Type 0
SourceLine = FieldLine TypeName

abbrev pub SourceParameter : Type 0
SourceParameter = Parameter Constant TypeName (List ℕ)

abbrev pub SourceItems : Type 0
SourceItems = List SourceItem
