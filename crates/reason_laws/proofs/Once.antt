-- The nodes of each part of a unit, whatever is in sight, are within its tokens.
use Rattle.std.proofs.Common.{ℕ, Bool, false, List, ◌++◌, Option}
use Rattle.nwq_value.specs.declared.value.Ty.{Ty}
use Rattle.nwq_value.specs.declared.engine.Param.{Param}
use Rattle.nss_tree.specs.declared.constants.TypeName.{TypeName}
use Rattle.nss_tree.specs.Source.{SourceDeclared, SourceItem, SourceItems, SourceLine, SourceParameter, SourceStmt, SourceStmts}
use Rattle.nss_tree.specs.Expressions.{PlainExpr, PlainExprs}
use Rattle.nss_symbols.specs.Symbols.{Numbered}
use Rattle.nss_parser.specs.Grammar as grammar
use Rattle.nss_parser.specs.Grammar.{Expression, Binary, Unary, Postfix, Primary, Expressions, Optional, TypeTokens, Declared, DeclaredNames, Statement, Entry, Entries}
use Rattle.nss_parser.specs.Unit as spelled
use Rattle.nss_parser.specs.Unit.{Field, Fields, ParameterTokens, ParameterList, Parameters, Body, Item, Items}
use Rattle.typing_rules.specs.Sight.{Head, Sight, Structure}
use Rattle.expression_reasons.specs.declared.reason.Reason.{Reason}
use Rattle.expression_reasons.specs.Reasons.{all_nodes, nodes, nodes_there, value_nodes}
use Rattle.nss_reasons.specs.Reasons.{fields_nodes, item_nodes, items_nodes, names_nodes, params_nodes, stmt_nodes, stmts_nodes, variable_why}
use Rattle.expression_reasons.specs.Seen.{own}
use Rattle.reason_laws.proofs.Counting.{Within, within_alone, within_before, within_behind, within_condition, within_crossed, within_infix, within_join, within_node, within_none, within_own}
use Rattle.reason_laws.proofs.Counting.{within_skip, within_suffix, within_tested}

mutual
  within_expression : {x : PlainExpr} {xs : List Numbered} (hs : List Head) (c : Sight) (b : Bool) → Expression x xs → Within (nodes hs c b x) xs
  within_expression hs c b (grammar.assignment n m o is u e) = within_infix n _ _ (within_unary hs c false u) (within_expression hs c false e)
  within_expression hs c b (grammar.value e) = within_binary hs c b e

  within_binary : {k : ℕ} {x : PlainExpr} {xs : List Numbered} (hs : List Head) (c : Sight) (b : Bool) → Binary k x xs → Within (nodes hs c b x) xs
  within_binary hs c b (grammar.operation n m o is l r) = within_infix n _ _ (within_binary hs c false l) (within_binary hs c false r)
  within_binary hs c b (grammar.tighter e) = within_binary hs c b e
  within_binary hs c b (grammar.unary u) = within_unary hs c b u

  within_unary : {x : PlainExpr} {xs : List Numbered} (hs : List Head) (c : Sight) (b : Bool) → Unary x xs → Within (nodes hs c b x) xs
  within_unary hs c b (grammar.prefix n m o is u) = within_node _ (within_unary hs c false u)
  within_unary hs c b (grammar.postfix p) = within_postfix hs c b p

  within_postfix : {x : PlainExpr} {xs : List Numbered} (hs : List Head) (c : Sight) (b : Bool) → Postfix x xs → Within (nodes hs c b x) xs
  within_postfix hs c b (grammar.member n k f p) = within_suffix n _ _ _ (within_postfix hs c false p)
  within_postfix hs c b (grammar.step n m o is p) = within_suffix n _ _ _ (within_postfix hs c false p)
  within_postfix hs c b (grammar.primary p) = within_primary hs c b p

  within_primary : {x : PlainExpr} {xs : List Numbered} (hs : List Head) (c : Sight) (b : Bool) → Primary x xs → Within (nodes hs c b x) xs
  within_primary hs c b (grammar.int n v) = within_none
  within_primary hs c b (grammar.float n) = within_none
  within_primary hs c b (grammar.text n bytes) = within_none
  within_primary hs c b (grammar.object_self n) = within_none
  within_primary hs c b (grammar.object_invalid n) = within_none
  within_primary hs c b (grammar.name n f) = within_none
  within_primary hs c b (grammar.call_empty n m k f) = within_own
  within_primary hs c b (grammar.call n m k f es) = within_node _ (within_skip (within_before _ (within_expressions hs c _ es)))
  within_primary hs c b (grammar.parenthesized m k e) = within_skip (within_before _ (within_expression hs c b e))

  within_expressions : {all : PlainExprs} {xs : List Numbered} (hs : List Head) (c : Sight) (ps : List Param) → Expressions all xs
      → Within (all_nodes hs c ps all) xs
  within_expressions hs c ps (grammar.one e) = within_alone (within_expression hs c _ e)
  within_expressions hs c ps (grammar.more n e es) = within_join (within_expression hs c _ e) (within_skip (within_expressions hs c _ es))

within_optional : {x : Option PlainExpr} {xs : List Numbered} (hs : List Head) (c : Sight) → Optional x xs → Within (nodes_there (value_nodes hs c) x) xs
within_optional hs c grammar.absent = within_none
within_optional hs c (grammar.present e) = within_expression hs c false e

within_type : {n : ℕ} {t : TypeName} {ts : List Numbered} {why : Option Reason} → TypeTokens n t ts → Within (own n why) ts
within_type (grammar.word n m t is) = within_own
within_type (grammar.structure n k f) = within_own

within_declared : {d : SourceDeclared} {xs : List Numbered} (hs : List Head) (c : Sight) (t : Option Ty) → Declared d xs
    → Within (nodes_there (value_nodes hs c) d.value ++ own d.token (variable_why hs c t d)) xs
within_declared hs c t (grammar.bare n f) = within_own
within_declared hs c t (grammar.valued n k f e) = within_node _ (within_skip (within_expression hs c false e))

within_names : {all : List SourceDeclared} {xs : List Numbered} (hs : List Head) (c : Sight) (t : Option Ty) → DeclaredNames all xs
    → Within (names_nodes hs c t all) xs
within_names hs c t (grammar.one h) = within_alone (within_declared hs c t h)
within_names hs c t (grammar.more n h rest) = within_join (within_declared hs c t h) (within_skip (within_names hs _ t rest))

mutual
  within_statement : {s : SourceStmt} {xs : List Numbered} (hs : List Head) (c : Sight) → Statement s xs → Within (stmt_nodes hs c s) xs
  within_statement hs c (grammar.block n k es) = within_skip (within_before _ (within_entries hs _ es))
  within_statement hs c (grammar.empty n) = within_none
  within_statement hs c (grammar.expression n k s e) = within_before _ (within_expression hs c false e)
  within_statement hs c (grammar.if_only n a b e s) =
      within_tested _ _ _ (within_skip (within_join (within_expression hs c false e) (within_skip (within_statement hs _ s))))
  within_statement hs c (grammar.if_else n a b d e s closed t) =
      within_tested _ _ _
      (within_skip (within_join (within_expression hs c false e) (within_skip (within_join (within_statement hs _ s) (within_skip (within_statement hs _ t))))))
  within_statement hs c (grammar.while_loop n a b e s) =
      within_tested _ _ _ (within_skip (within_join (within_expression hs c false e) (within_skip (within_statement hs _ s))))
  within_statement hs c (grammar.do_loop n a b d f s e) =
      within_tested _ _ _ (within_crossed (within_statement hs _ s) (within_skip (within_skip (within_before _ (within_expression hs c false e)))))
  within_statement hs c (grammar.for_loop n a b d f x grammar.absent z s) =
      within_skip
      (within_skip
      (within_join (within_optional hs c x) (within_skip (within_skip (within_join (within_optional hs c z) (within_skip (within_statement hs _ s)))))))
  within_statement hs c (grammar.for_loop n a b d f x (grammar.present y) z s) =
      within_condition _ _ _ _
      (within_skip
      (within_join (within_optional hs c x)
      (within_skip
      (within_join (within_expression hs c false y) (within_skip (within_join (within_optional hs c z) (within_skip (within_statement hs _ s))))))))
  within_statement hs c (grammar.switch n a b d f e es) =
      within_tested _ _ _ (within_skip (within_join (within_expression hs c false e) (within_skip (within_skip (within_before _ (within_entries hs _ es))))))
  within_statement hs c (grammar.break_off n k) = within_none
  within_statement hs c (grammar.continue_on n k) = within_none
  within_statement hs c (grammar.return_from n k x) = within_node _ (within_before _ (within_optional hs c x))

  within_entry : {labels : Bool} {s : SourceStmt} {xs : List Numbered} (hs : List Head) (c : Sight) → Entry labels s xs → Within (stmt_nodes hs c s) xs
  within_entry hs c (grammar.statement s) = within_statement hs c s
  within_entry hs c (grammar.declaration n k typ names) = within_join (within_type typ) (within_before _ (within_names hs c _ names))
  within_entry hs c (grammar.case_label n k h) = within_own
  within_entry hs c (grammar.default_label n k) = within_none

  within_entries : {labels : Bool} {all : SourceStmts} {xs : List Numbered} (hs : List Head) (c : Sight) → Entries labels all xs
      → Within (stmts_nodes hs c all) xs
  within_entries hs c grammar.none = within_none
  within_entries hs c (grammar.more e es) = within_join (within_entry hs c e) (within_entries hs _ es)

within_field : {l : SourceLine} {xs : List Numbered} {why : Option Reason} → Field l xs → Within (own l.token why) xs
within_field (spelled.line n k typ names) = within_before _ (within_type typ)

within_fields : {all : List SourceLine} {xs : List Numbered} (structs : List Structure) → Fields all xs → Within (fields_nodes structs all) xs
within_fields structs (spelled.one h) = within_alone (within_field h)
within_fields structs (spelled.more h rest) = within_join (within_field h) (within_fields structs rest)

within_parameter : {p : SourceParameter} {xs : List Numbered} {why : Option Reason} → ParameterTokens p xs → Within (own p.token why) xs
within_parameter (spelled.bare n k f typ) = within_before _ (within_type typ)
within_parameter (spelled.valued n k a f typ h) = within_before _ (within_type typ)

within_list : {all : List SourceParameter} {xs : List Numbered} (c : Sight) (late : Bool) → ParameterList all xs → Within (params_nodes c late all) xs
within_list c late (spelled.one h) = within_alone (within_parameter h)
within_list c late (spelled.more n h rest) = within_join (within_parameter h) (within_skip (within_list _ _ rest))

within_parameters : {all : List SourceParameter} {xs : List Numbered} (c : Sight) (late : Bool) → Parameters all xs → Within (params_nodes c late all) xs
within_parameters c late spelled.absent = within_none
within_parameters c late (spelled.present h) = within_list c late h

within_body : {body : Option SourceStmts} {xs : List Numbered} (hs : List Head) (c : Sight) → Body body xs → Within (nodes_there (stmts_nodes hs c) body) xs
within_body hs c (spelled.prototype k) = within_none
within_body hs c (spelled.block n k es) = within_skip (within_before _ (within_entries hs c es))

within_item : {x : SourceItem} {xs : List Numbered} (hs : List Head) (c : Sight) → Item x xs → Within (item_nodes hs c x) xs
within_item hs c (spelled.structure a n b d e f h) = within_skip (within_skip (within_skip (within_before _ (within_fields c.structs h))))
within_item hs c (spelled.constant a n k b d f typ h) = within_skip (within_suffix k _ _ _ (within_type typ))
within_item hs c (spelled.global n k typ names) = within_join (within_type typ) (within_before _ (within_names hs c _ names))
within_item hs c (spelled.function {ts = ts} n k a b f typ ps stmts) =
    within_behind ts (within_skip (within_join (within_skip (within_parameters _ false ps)) (within_skip (within_body hs _ stmts))))

pub within_items : {all : SourceItems} {xs : List Numbered} (hs : List Head) (c : Sight) → Items all xs → Within (items_nodes hs c all) xs
within_items hs c spelled.none = within_none
within_items hs c (spelled.more h rest) = within_join (within_item hs c h) (within_items hs _ rest)
