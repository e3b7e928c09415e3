-- The last statement of a list.
use Rattle.std.specs.Prelude.{Bool, if◌then◌else◌}
use Rattle.nss_tree.specs.Statements.{PlainStmts}
use Rattle.typing_rules.specs.Returns.{has_statement, last_returns}

-- it returns; where there is none, as an earlier one did
abbrev pub last_or : {E C T N : Type 0} → Bool → PlainStmts E C T N → Bool
last_or before xs = if has_statement xs then last_returns xs else before
