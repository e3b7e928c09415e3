-- Which labels the parts of a unit's code place: none below the next label that they begin with.
use Rattle.std.specs.Prelude.{◌≡◌, ◌<◌, ℕ, List, None}
use Rattle.ncs_emit.specs.Labelled.{placements}
use Rattle.typing_rules.specs.Typed.{TypedExpr, TypedExprs, TypedName, TypedStmt, TypedStmts}
use Rattle.emission_rules.specs.Layout.{Layout}
use Rattle.emission_rules.specs.Expressions.{emit, emit_all}
use Rattle.emission_rules.specs.Statements.{Exits, emit_names, emit_stmt, emit_stmts}

abbrev pub ExprsPlaceAbove : Type 0
ExprsPlaceAbove = (l : Layout) (n depth : ℕ) (x : TypedExpr) (label : ℕ) → label < n
    → placements (emit l n depth x) label ≡ 0

abbrev pub ArgumentsPlaceAbove : Type 0
ArgumentsPlaceAbove = (l : Layout) (n depth : ℕ) (xs : TypedExprs) (label : ℕ) → label < n
    → placements (emit_all l n depth xs) label ≡ 0

abbrev pub NamesPlaceAbove : Type 0
NamesPlaceAbove = (l : Layout) (n depth : ℕ) (xs : List TypedName) (label : ℕ) → label < n
    → placements (emit_names l n depth xs) label ≡ 0

abbrev pub StmtPlacesAbove : Type 0
StmtPlacesAbove = (l : Layout) (out : Exits) (n depth : ℕ) (x : TypedStmt) (label : ℕ) → label < n
    → placements (emit_stmt l out n depth x) label ≡ 0

-- statements that stand directly in no switch
abbrev pub StmtsPlaceAbove : Type 0
StmtsPlaceAbove = (l : Layout) (out : Exits) (n depth : ℕ) (xs : TypedStmts) (label : ℕ) → label < n
    → placements (emit_stmts l out n depth None xs) label ≡ 0

pub record PlacesAbove : Type 0 where
  pub exprs : ExprsPlaceAbove
  pub arguments : ArgumentsPlaceAbove
  pub names : NamesPlaceAbove
  pub stmt : StmtPlacesAbove
  pub stmts : StmtsPlaceAbove
