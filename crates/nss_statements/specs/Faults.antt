-- The fault of a node whose parts are typed.
use Rattle.std.proofs.Common.{◌≡◌, ℕ, Bool, true, false, not, ◌&&◌, Option, None, Some, Result, Ok, Err, if◌then◌else◌, refl}
use Rattle.nss_tree.specs.Statements as tree
use Rattle.typing_rules.specs.declared.fault.FaultKind.{FaultKind}
use Rattle.typing_rules.specs.declared.fault.FaultKind.TheVariants.{Mismatch, Cells}
use Rattle.typing_rules.specs.Nodes.{Rows, Verdict, Fine, Wrong, row, no_row, only, ruled}
use Rattle.typing_rules.specs.Rules.{when}
use Rattle.typing_rules.specs.Types.{is_int}
use Rattle.typing_rules.specs.Typed.{TypedExpr, TypedStmt, TypedStmts, type_of}

-- of this kind, unless its rule fits
abbrev pub fault_unless : Bool → FaultKind → Option FaultKind
fault_unless fits k = if fits then None else Some k

-- the verdict by the fault that is found
abbrev pub by_fault : {A : Type 0} → Option FaultKind → A → Verdict A
by_fault None a = Fine a
by_fault (Some k) a = Wrong k

-- it is that of the rule, whatever is typed
pub ruled_when : {A : Type 0} (fits : Bool) (k : FaultKind) (a : A)
    → ruled k (when fits a) ≡ by_fault (fault_unless fits k) a
ruled_when true k a = refl
ruled_when false k a = refl

-- parts that are kept where they fit, and are a mismatch elsewhere
abbrev pub fit_rows : {A : Type 0} → A → Rows
fit_rows a = only Mismatch

abbrev pub fit_rule : {A : Type 0} → (A → Bool) → A → Option A
fit_rule fits a = when (fits a) a

-- what is made, as an answer that may be none
abbrev pub some_made : {A E : Type 0} → Result A E → Result (Option A) E
some_made (Ok a) = Ok (Some a)
some_made (Err e) = Err e

-- a switch, where it is known whether its value's cell passes the limit
abbrev pub switch_rows_by : Bool → TypedExpr × TypedStmts → Rows
switch_rows_by crosses p = row Mismatch (not (is_int (type_of p.0))) (row Cells crosses no_row)

abbrev pub switch_rule_by : Bool → ℕ → TypedExpr × TypedStmts → Option TypedStmt
switch_rule_by crosses n p = when (is_int (type_of p.0) && not crosses) (tree.switch n p.0 p.1)

-- a `break` and a `continue`, where it is known whether one may stand here
abbrev pub break_rule_by : Bool → ℕ → Unit {0} → Option TypedStmt
break_rule_by may_stand n u = when may_stand (tree.break_off n)

abbrev pub continue_rule_by : Bool → ℕ → Unit {0} → Option TypedStmt
continue_rule_by may_stand n u = when may_stand (tree.continue_on n)
