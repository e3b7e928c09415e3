-- The nodes of a unit, each with why it is refused, as a list over the tree. It goes over the same
-- nodes with the same sight as the list of faults does, and speaks of those whose rule joins types,
-- counts or values.
use Rattle.std.specs.Prelude.{ℕ, Bool, false, List, [], ◌∷◌, ◌++◌, Option, None, Some}
use Rattle.nss_tree.specs.declared.constants.Constant.{Constant}
use Rattle.nss_tree.specs.declared.constants.TypeName.{TypeName}
use Rattle.nss_tree.specs.Expressions.{PlainExpr}
use Rattle.nss_tree.specs.Statements.{block, empty, expression, if_only, if_else, while_loop, do_loop, for_loop, switch, break_off, continue_on, return_from, declaration, case_label, default_label, no_stmt, more_stmts}
use Rattle.nss_tree.specs.Units.{structure, constant, global, function}
use Rattle.nss_tree.specs.Source.{SourceDeclared, SourceStmt, SourceStmts, SourceItem, SourceTree, SourceLine, SourceParameter}
use Rattle.nwq_value.specs.declared.value.Ty.{Ty}
use Rattle.nwq_value.specs.declared.engine.Const.{Const}
use Rattle.nwq_value.specs.Engine.{EngineTable}
use Rattle.typing_rules.specs.Nodes.{two, if_there}
use Rattle.typing_rules.specs.Sight.{Head, Sight, Structure, Is, start, type_means, declared, scope_entered, inside, looped, switched}
use Rattle.typing_rules.specs.Rules.{variable_rule, constant_name_rule, return_rule, case_rule, parameter_rule}
use Rattle.typing_rules.specs.Verdicts.{value, constant_value, constant_parts, line_type, after, after_then, after_item, in_function, in_body, parameter_declared, late_after, heads}
use Rattle.expression_reasons.specs.declared.reason.Reason.{Reason}
use Rattle.expression_reasons.specs.Reasons.{condition_nodes, nodes_there, value_nodes}
use Rattle.expression_reasons.specs.Seen.{Node, own, seen}
use Rattle.expression_reasons.specs.Why.{because, return_reason}
use Rattle.nss_reasons.specs.Why.{case_reason, variable_reason, constant_reason, parameter_reason, line_why, constant_line_why}

abbrev pub variable_why : List Head → Sight → Option Ty → SourceDeclared → Option Reason
variable_why hs c t d = because (variable_rule c d) (variable_reason c d.name)
    (two t (if_there (value hs c) d.value))

-- declared names of one line of this type
abbrev pub names_nodes : List Head → Sight → Option Ty → List SourceDeclared → List Node
names_nodes hs c t [] = []
names_nodes hs c t (d ∷ ds) =
    (nodes_there (value_nodes hs c) d.value ++ own d.token (variable_why hs c t d))
    ++ names_nodes hs (declared c d.name t) t ds

-- a line of variables with this token
abbrev pub line_nodes : List Head → Sight → ℕ → TypeName → List SourceDeclared → List Node
line_nodes hs c n t ds = own n (line_why c.structs t)
    ++ names_nodes hs c (line_type c.structs t) ds

abbrev pub return_why : List Head → Sight → ℕ → Option PlainExpr → Option Reason
return_why hs c n e = because (return_rule n) return_reason
    (two c.result (if_there (value hs c) e))

abbrev pub case_why : Sight → ℕ → Constant → Option Reason
case_why c n k = because (case_rule c.labels n) (case_reason c.labels) (constant_value c k)

abbrev mutual
  pub stmt_nodes : List Head → Sight → SourceStmt → List Node
  stmt_nodes hs c (block n xs) = stmts_nodes hs (scope_entered c) xs
  stmt_nodes hs c (empty n) = []
  stmt_nodes hs c (expression n e) = value_nodes hs c e
  stmt_nodes hs c (if_only n e a) = condition_nodes hs c n e ++ stmt_nodes hs (inside c) a
  stmt_nodes hs c (if_else n e a b) = condition_nodes hs c n e
      ++ (stmt_nodes hs (inside c) a ++ stmt_nodes hs (after_then c a) b)
  stmt_nodes hs c (while_loop n e a) = condition_nodes hs c n e ++ stmt_nodes hs (looped c) a
  stmt_nodes hs c (do_loop n a e) = condition_nodes hs c n e ++ stmt_nodes hs (looped c) a
  stmt_nodes hs c (for_loop n x y z a) =
      nodes_there (value_nodes hs c) x ++ (nodes_there (condition_nodes hs c n) y
      ++ (nodes_there (value_nodes hs c) z ++ stmt_nodes hs (looped c) a))
  stmt_nodes hs c (switch n e xs) = condition_nodes hs c n e ++ stmts_nodes hs (switched c) xs
  stmt_nodes hs c (break_off n) = []
  stmt_nodes hs c (continue_on n) = []
  stmt_nodes hs c (return_from n e) = nodes_there (value_nodes hs c) e
      ++ own n (return_why hs c n e)
  stmt_nodes hs c (declaration n t ds) = line_nodes hs c n t ds
  stmt_nodes hs c (case_label n k) = own n (case_why c n k)
  stmt_nodes hs c (default_label n) = []

  pub stmts_nodes : List Head → Sight → SourceStmts → List Node
  stmts_nodes hs c no_stmt = []
  stmts_nodes hs c (more_stmts x xs) = stmt_nodes hs c x ++ stmts_nodes hs (after c x) xs

-- ---- items

abbrev pub fields_nodes : List Structure → List SourceLine → List Node
fields_nodes structs [] = []
fields_nodes structs (l ∷ ls) = own l.token (line_why structs l.ty) ++ fields_nodes structs ls

-- a parameter of this type; late: one with a default stands before
abbrev pub parameter_by : Sight → Bool → SourceParameter → Ty × Option Const → Option Reason
parameter_by c late p q = because (parameter_rule c late p)
    (parameter_reason c late p.name) (Some (Is q.0, q.1))

abbrev pub parameter_why : Sight → Bool → SourceParameter → Option Reason
parameter_why c late p = because (parameter_rule c late p) (parameter_reason c late p.name)
    (two (type_means c.structs p.ty) (if_there (constant_value c) p.default))

abbrev pub params_nodes : Sight → Bool → List SourceParameter → List Node
params_nodes c late [] = []
params_nodes c late (p ∷ ps) = own p.token (parameter_why c late p)
    ++ params_nodes (parameter_declared c p) (late_after late p) ps

abbrev pub constant_why : Sight → TypeName → List ℕ → Constant → Option Reason
constant_why c t x k = because (constant_name_rule c x) (constant_reason c x) (constant_parts c t k)

abbrev pub item_nodes : List Head → Sight → SourceItem → List Node
item_nodes hs c (structure n x ls) = fields_nodes c.structs ls
item_nodes hs c (constant n t x k) = own n (constant_line_why c.structs t)
    ++ own x.token (constant_why c t x.name k)
item_nodes hs c (global n t ds) = line_nodes hs c n t ds
item_nodes hs c (function n t x ps body) = params_nodes (in_function c t) false ps
    ++ nodes_there (stmts_nodes hs (in_body c t ps)) body

abbrev pub items_nodes : List Head → Sight → List SourceItem → List Node
items_nodes hs c [] = []
items_nodes hs c (i ∷ more) = item_nodes hs c i ++ items_nodes hs (after_item c i) more

-- the nodes of a unit
abbrev pub unit_nodes : EngineTable → SourceTree → List Node
unit_nodes table u = items_nodes (heads table u.items) (start table) u.items

-- why the node of this token is refused
abbrev pub reason_at : EngineTable → SourceTree → ℕ → Option Reason
reason_at table u k = seen k None (unit_nodes table u)
