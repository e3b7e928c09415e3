-- Typed parts in a row.
use Rattle.std.specs.Prelude.{List, [], ◌∷◌, ◌++◌, Option, None, Some}
use Rattle.std.specs.Option.{option_map}
use Rattle.nss_tree.specs.Statements.{joined_stmts}
use Rattle.typing_rules.specs.Nodes.{two}
use Rattle.typing_rules.specs.Typed.{TypedStmts}

-- one more behind others, where all are typed
abbrev pub and_one : {A : Type 0} → Option (List A) → Option A → Option (List A)
and_one None one = None
and_one (Some all) None = None
and_one (Some all) (Some x) = Some (all ++ x ∷ [])

abbrev pub appended : {A : Type 0} → List A × List A → List A
appended p = p.0 ++ p.1

-- some, and the rest behind them
abbrev pub with_rest : {A : Type 0} → Option (List A) → Option (List A) → Option (List A)
with_rest all rest = option_map appended (two all rest)

abbrev pub stmts_appended : TypedStmts × TypedStmts → TypedStmts
stmts_appended p = joined_stmts p.0 p.1

abbrev pub stmts_with_rest : Option TypedStmts → Option TypedStmts → Option TypedStmts
stmts_with_rest all rest = option_map stmts_appended (two all rest)
