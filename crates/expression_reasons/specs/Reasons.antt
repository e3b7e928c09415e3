-- The nodes of an expression, each with why it is refused, as a list over the tree. It goes over the
-- same nodes with the same sight as the list of faults does, and speaks of those whose rule joins
-- types, counts or values.
use Rattle.std.specs.Prelude.{ℕ, Bool, false, List, [], ◌++◌, Option, None, Some}
use Rattle.nss_tree.specs.Expressions.{PlainExpr, PlainExprs, int, float, text, object_self, object_invalid, name, call, member, prefix, postfix, binary, assign, no_expr, more_exprs}
use Rattle.nss_tree.specs.Statements.{expression}
use Rattle.nwq_value.specs.declared.engine.Param.{Param}
use Rattle.typing_rules.specs.Nodes.{two}
use Rattle.typing_rules.specs.Sight.{Head, Sight, callee, wanted}
use Rattle.typing_rules.specs.Rules.{takes_action, others, member_rule, prefix_rule, postfix_rule, binary_rule, assign_rule}
use Rattle.typing_rules.specs.Verdicts.{value, all_fine}
use Rattle.expression_reasons.specs.declared.reason.Reason.{Reason}
use Rattle.expression_reasons.specs.Seen.{Node, own}
use Rattle.expression_reasons.specs.Why.{because, operands, assign_reason, prefix_reason, postfix_reason, member_reason, call_why, condition_rule, condition_reason}

-- of a part that may be absent
abbrev pub nodes_there : {A : Type 0} → (A → List Node) → Option A → List Node
nodes_there f None = []
nodes_there f (Some a) = f a

-- ---- expressions. The flag says that the expression stands where an action is taken.

abbrev pub call_node : List Head → Sight → Bool → List ℕ → PlainExprs → Option Reason
call_node hs c b f es = call_why c.at_file b
    (two (all_fine hs c (wanted hs c.table f) es) (callee hs c.table f))

abbrev mutual
  pub nodes : List Head → Sight → Bool → PlainExpr → List Node
  nodes hs c b (int n v) = []
  nodes hs c b (float n) = []
  nodes hs c b (text n v) = []
  nodes hs c b (object_self n) = []
  nodes hs c b (object_invalid n) = []
  nodes hs c b (name n x) = []
  nodes hs c b (call n f es) = all_nodes hs c (wanted hs c.table f) es
      ++ own n (call_node hs c b f es)
  nodes hs c b (member n e x) = nodes hs c false e
      ++ own n (because (member_rule c.structs x) member_reason (value hs c e))
  nodes hs c b (prefix n o e) = nodes hs c false e
      ++ own n (because (prefix_rule o) (prefix_reason o) (value hs c e))
  nodes hs c b (postfix n o e) = nodes hs c false e
      ++ own n (because (postfix_rule o) postfix_reason (value hs c e))
  nodes hs c b (binary n o d e) = nodes hs c false d ++ (nodes hs c false e
      ++ own n (because (binary_rule o) operands (two (value hs c d) (value hs c e))))
  nodes hs c b (assign n o d e) = nodes hs c false d ++ (nodes hs c false e
      ++ own n (because (assign_rule o) assign_reason (two (value hs c d) (value hs c e))))

  -- arguments of these parameters
  pub all_nodes : List Head → Sight → List Param → PlainExprs → List Node
  all_nodes hs c ps no_expr = []
  all_nodes hs c ps (more_exprs e es) = nodes hs c (takes_action ps) e
      ++ all_nodes hs c (others ps) es

abbrev pub value_nodes : List Head → Sight → PlainExpr → List Node
value_nodes hs c e = nodes hs c false e

-- ---- statements

-- of a statement with this token, whose value must be an int
abbrev pub condition_nodes : List Head → Sight → ℕ → PlainExpr → List Node
condition_nodes hs c n e = value_nodes hs c e
    ++ own n (because condition_rule condition_reason (value hs c e))
