-- The faults of each node, whatever is in sight, are within the node's tokens.
use Rattle.std.proofs.Common.{ℕ, Bool, false, List, ◌++◌, Option}
use Rattle.std.specs.Prelude.{is_some}
use Rattle.nwq_value.specs.declared.value.Ty.{Ty}
use Rattle.nwq_value.specs.declared.engine.Param.{Param}
use Rattle.nss_tree.specs.declared.constants.Constant.{Constant}
use Rattle.nss_tree.specs.declared.constants.TypeName.{TypeName}
use Rattle.nss_tree.specs.declared.units.Identifier.{Identifier}
use Rattle.nss_tree.specs.Source.{SourceDeclared, SourceItem, SourceItems, SourceLine, SourceParameter, SourceStmt, SourceStmts}
use Rattle.nss_tree.specs.Places.{token_of}
use Rattle.nss_tree.specs.Expressions as tree
use Rattle.nss_tree.specs.Expressions.{PlainExpr, PlainExprs}
use Rattle.nss_tree.specs.Statements as stmt
use Rattle.nss_symbols.specs.Symbols.{Numbered}
use Rattle.nss_parser.specs.Grammar as grammar
use Rattle.nss_parser.specs.Grammar.{Expression, Binary, Unary, Postfix, Primary, Expressions, Optional, TypeTokens, ConstantTokens, Declared, DeclaredNames, Statement, Entry, Entries}
use Rattle.nss_parser.specs.Unit as spelled
use Rattle.nss_parser.specs.Unit.{FieldNames, Field, Fields, ParameterTokens, ParameterList, Parameters, Body, Item, Items}
use Rattle.typing_rules.specs.Nodes.{Verdict, at, faults_there}
use Rattle.typing_rules.specs.Sight.{Head, Sight, Structure}
use Rattle.typing_rules.specs.Rules as rules
use Rattle.typing_rules.specs.Rules.{function_rows, function_rule}
use Rattle.typing_rules.specs.Verdicts.{verdict, stmt_verdict, faults, all_faults, value_faults, constant_faults, constant_verdict, variable_verdict, names_faults, stmt_faults, stmts_faults}
use Rattle.typing_rules.specs.Verdicts.{fields_faults, line_faults, lines_faults, params_faults, parameter_verdict, body_faults, body_fine, head_verdict, item_faults, items_faults, in_body}
use Rattle.typing_laws.proofs.Counting.{Within, within_alone, within_before, within_crossed, within_first, within_function, within_infix, within_join, within_node, within_none, within_own}
use Rattle.typing_laws.proofs.Counting.{within_skip, within_suffix}

mutual
  within_expression : {x : PlainExpr} {xs : List Numbered} (hs : List Head) (c : Sight) (b : Bool) → Expression x xs → Within (faults hs c b x) xs
  within_expression hs c b (grammar.assignment n m o is u e) = within_infix n _ _ (within_unary hs c false u) (within_expression hs c false e)
  within_expression hs c b (grammar.value e) = within_binary hs c b e

  within_binary : {k : ℕ} {x : PlainExpr} {xs : List Numbered} (hs : List Head) (c : Sight) (b : Bool) → Binary k x xs → Within (faults hs c b x) xs
  within_binary hs c b (grammar.operation n m o is l r) = within_infix n _ _ (within_binary hs c false l) (within_binary hs c false r)
  within_binary hs c b (grammar.tighter e) = within_binary hs c b e
  within_binary hs c b (grammar.unary u) = within_unary hs c b u

  within_unary : {x : PlainExpr} {xs : List Numbered} (hs : List Head) (c : Sight) (b : Bool) → Unary x xs → Within (faults hs c b x) xs
  within_unary hs c b (grammar.prefix n m o is u) = within_node _ (within_unary hs c false u)
  within_unary hs c b (grammar.postfix p) = within_postfix hs c b p

  within_postfix : {x : PlainExpr} {xs : List Numbered} (hs : List Head) (c : Sight) (b : Bool) → Postfix x xs → Within (faults hs c b x) xs
  within_postfix hs c b (grammar.member n k f p) = within_suffix n _ _ _ (within_postfix hs c false p)
  within_postfix hs c b (grammar.step n m o is p) = within_suffix n _ _ _ (within_postfix hs c false p)
  within_postfix hs c b (grammar.primary p) = within_primary hs c b p

  within_primary : {x : PlainExpr} {xs : List Numbered} (hs : List Head) (c : Sight) (b : Bool) → Primary x xs → Within (faults hs c b x) xs
  within_primary hs c b (grammar.int n v) = within_none
  within_primary hs c b (grammar.float n) = within_own (verdict hs c b (tree.float n))
  within_primary hs c b (grammar.text n bytes) = within_none
  within_primary hs c b (grammar.object_self n) = within_none
  within_primary hs c b (grammar.object_invalid n) = within_none
  within_primary hs c b (grammar.name n f) = within_own (verdict hs c b (tree.name n f))
  within_primary hs c b (grammar.call_empty n m k f) = within_own (verdict hs c b (tree.call n f tree.no_expr))
  within_primary hs c b (grammar.call n m k f es) = within_node _ (within_skip (within_before _ (within_expressions hs c _ es)))
  within_primary hs c b (grammar.parenthesized m k e) = within_skip (within_before _ (within_expression hs c b e))

  within_expressions : {all : PlainExprs} {xs : List Numbered} (hs : List Head) (c : Sight) (ps : List Param) → Expressions all xs
      → Within (all_faults hs c ps all) xs
  within_expressions hs c ps (grammar.one e) = within_alone (within_expression hs c _ e)
  within_expressions hs c ps (grammar.more n e es) = within_join (within_expression hs c _ e) (within_skip (within_expressions hs c _ es))

within_optional : {x : Option PlainExpr} {xs : List Numbered} (hs : List Head) (c : Sight) → Optional x xs → Within (faults_there (value_faults hs c) x) xs
within_optional hs c grammar.absent = within_none
within_optional hs c (grammar.present e) = within_expression hs c false e

within_type : {A : Type 0} {n : ℕ} {t : TypeName} {ts : List Numbered} (v : Verdict A) → TypeTokens n t ts → Within (at n v) ts
within_type v (grammar.word n m t is) = within_own v
within_type v (grammar.structure n k f) = within_own v

within_spelled : {A : Type 0} {k : Constant} {xs : List Numbered} (v : Verdict A) → ConstantTokens k xs → Within (at (token_of k) v) xs
within_spelled v (grammar.int n i) = within_own v
within_spelled v (grammar.minus_int k n i) = within_skip (within_own v)
within_spelled v (grammar.float n) = within_own v
within_spelled v (grammar.minus_float k n) = within_skip (within_own v)
within_spelled v (grammar.text n bytes) = within_own v
within_spelled v (grammar.name n f) = within_own v
within_spelled v (grammar.object_self n) = within_own v
within_spelled v (grammar.object_invalid n) = within_own v

within_constant : {k : Constant} {xs : List Numbered} (c : Sight) → ConstantTokens k xs → Within (constant_faults c k) xs
within_constant {k = k} c h = within_spelled (constant_verdict c k) h

within_declared : {d : SourceDeclared} {xs : List Numbered} (hs : List Head) (c : Sight) (t : Option Ty) → Declared d xs
    → Within (faults_there (value_faults hs c) d.value ++ at d.token (variable_verdict hs c t d)) xs
within_declared hs c t (grammar.bare n f) = within_own _
within_declared hs c t (grammar.valued n k f e) = within_node _ (within_skip (within_expression hs c false e))

within_names : {all : List SourceDeclared} {xs : List Numbered} (hs : List Head) (c : Sight) (t : Option Ty) → DeclaredNames all xs
    → Within (names_faults hs c t all) xs
within_names hs c t (grammar.one h) = within_alone (within_declared hs c t h)
within_names hs c t (grammar.more n h rest) = within_join (within_declared hs c t h) (within_skip (within_names hs _ t rest))

mutual
  within_statement : {s : SourceStmt} {xs : List Numbered} (hs : List Head) (c : Sight) → Statement s xs → Within (stmt_faults hs c s) xs
  within_statement hs c (grammar.block n k es) = within_skip (within_before _ (within_entries hs _ es))
  within_statement hs c (grammar.empty n) = within_none
  within_statement hs c (grammar.expression n k s e) = within_before _ (within_expression hs c false e)
  within_statement hs c (grammar.if_only n a b e s) =
      within_node _ (within_skip (within_join (within_expression hs c false e) (within_skip (within_statement hs _ s))))
  within_statement hs c (grammar.if_else n a b d e s closed t) =
      within_node _
      (within_skip (within_join (within_expression hs c false e) (within_skip (within_join (within_statement hs _ s) (within_skip (within_statement hs _ t))))))
  within_statement hs c (grammar.while_loop n a b e s) =
      within_node _ (within_skip (within_join (within_expression hs c false e) (within_skip (within_statement hs _ s))))
  within_statement hs c (grammar.do_loop n a b d f s e) =
      within_node _ (within_join (within_statement hs _ s) (within_skip (within_skip (within_before _ (within_expression hs c false e)))))
  within_statement hs c (grammar.for_loop n a b d f x y z s) =
      within_node _
      (within_skip
      (within_join (within_optional hs c x)
      (within_skip (within_join (within_optional hs c y) (within_skip (within_join (within_optional hs c z) (within_skip (within_statement hs _ s))))))))
  within_statement hs c (grammar.switch n a b d f e es) =
      within_node _ (within_skip (within_join (within_expression hs c false e) (within_skip (within_skip (within_before _ (within_entries hs _ es))))))
  within_statement hs c (grammar.break_off n k) = within_own (stmt_verdict hs c (stmt.break_off n))
  within_statement hs c (grammar.continue_on n k) = within_own (stmt_verdict hs c (stmt.continue_on n))
  within_statement hs c (grammar.return_from n k x) = within_node _ (within_before _ (within_optional hs c x))

  within_entry : {labels : Bool} {s : SourceStmt} {xs : List Numbered} (hs : List Head) (c : Sight) → Entry labels s xs → Within (stmt_faults hs c s) xs
  within_entry hs c (grammar.statement s) = within_statement hs c s
  within_entry hs c (grammar.declaration n k typ names) = within_join (within_type _ typ) (within_before _ (within_names hs c _ names))
  within_entry hs c (grammar.case_label n k h) = within_node _ (within_before _ (within_constant c h))
  within_entry hs c (grammar.default_label n k) = within_own (stmt_verdict hs c (stmt.default_label n))

  within_entries : {labels : Bool} {all : SourceStmts} {xs : List Numbered} (hs : List Head) (c : Sight) → Entries labels all xs
      → Within (stmts_faults hs c all) xs
  within_entries hs c grammar.none = within_none
  within_entries hs c (grammar.more e es) = within_join (within_entry hs c e) (within_entries hs _ es)

within_field_names : {all : List Identifier} {xs : List Numbered} (structs : List Structure) (s : rules.Fields) (t : Option Ty) → FieldNames all xs
    → Within (fields_faults structs s t all) xs
within_field_names structs s t (spelled.one n f) = within_first _ within_none
within_field_names structs s t (spelled.more n k f rest) = within_first _ (within_skip (within_field_names structs _ t rest))

within_field : {l : SourceLine} {xs : List Numbered} (structs : List Structure) (s : rules.Fields) → Field l xs → Within (line_faults structs s l) xs
within_field structs s (spelled.line n k typ names) = within_join (within_type _ typ) (within_before _ (within_field_names structs s _ names))

within_fields : {all : List SourceLine} {xs : List Numbered} (structs : List Structure) (s : rules.Fields) → Fields all xs → Within (lines_faults structs s all) xs
within_fields structs s (spelled.one h) = within_alone (within_field structs s h)
within_fields structs s (spelled.more h rest) = within_join (within_field structs s h) (within_fields structs _ rest)

within_parameter : {p : SourceParameter} {xs : List Numbered} (c : Sight) (late : Bool) → ParameterTokens p xs
    → Within (faults_there (constant_faults c) p.default ++ at p.token (parameter_verdict c late p)) xs
within_parameter c late (spelled.bare n k f typ) = within_before _ (within_type _ typ)
within_parameter c late (spelled.valued n k a f typ h) = within_crossed (within_type _ typ) (within_skip (within_skip (within_constant c h)))

within_list : {all : List SourceParameter} {xs : List Numbered} (c : Sight) (late : Bool) → ParameterList all xs → Within (params_faults c late all) xs
within_list c late (spelled.one h) = within_alone (within_parameter c late h)
within_list c late (spelled.more n h rest) = within_join (within_parameter c late h) (within_skip (within_list _ _ rest))

within_parameters : {all : List SourceParameter} {xs : List Numbered} (c : Sight) (late : Bool) → Parameters all xs → Within (params_faults c late all) xs
within_parameters c late spelled.absent = within_none
within_parameters c late (spelled.present h) = within_list c late h

within_body : {body : Option SourceStmts} {xs : List Numbered} (hs : List Head) (c : Sight) → Body body xs → Within (body_faults hs c body) xs
within_body hs c (spelled.prototype k) = within_none
within_body hs c (spelled.block n k es) = within_skip (within_before _ (within_entries hs c es))

within_item : {x : SourceItem} {xs : List Numbered} (hs : List Head) (c : Sight) → Item x xs → Within (item_faults hs c x) xs
within_item hs c (spelled.structure a n b d e f h) = within_skip (within_node _ (within_skip (within_before _ (within_fields c.structs _ h))))
within_item hs c (spelled.constant a n k b d f typ h) =
    within_skip (within_infix k _ _ (within_type _ typ) (within_skip (within_before _ (within_constant c h))))
within_item hs c (spelled.global n k typ names) = within_join (within_type _ typ) (within_before _ (within_names hs c _ names))
within_item hs c (spelled.function {t = t} {all = all} {body = body} {ts = ts} n k a b f typ ps stmts) =
    within_function k _ ts (head_verdict c t f all (is_some body)) (body_fine hs (in_body c t all) body) function_rows (function_rule k f)
    (within_skip (within_parameters _ false ps)) (within_skip (within_body hs _ stmts))

pub within_items : {all : SourceItems} {xs : List Numbered} (hs : List Head) (c : Sight) → Items all xs → Within (items_faults hs c all) xs
within_items hs c spelled.none = within_none
within_items hs c (spelled.more h rest) = within_join (within_item hs c h) (within_items hs _ rest)
