-- Over a tree, each fault whose kind is joined has its reason.
use Rattle.std.proofs.Common.{ℕ, Bool, false, List, [], ◌∷◌, ◌++◌, Option, None, Some, refl}
use Rattle.std.specs.Prelude.{is_some}
use Rattle.nwq_value.specs.declared.value.Ty.{Ty}
use Rattle.nwq_value.specs.declared.engine.Param.{Param}
use Rattle.nss_tree.specs.declared.constants.Constant.{Constant}
use Rattle.nss_tree.specs.declared.constants.TypeName.{TypeName}
use Rattle.nss_tree.specs.declared.units.Identifier.{Identifier}
use Rattle.nss_tree.specs.Source.{SourceDeclared, SourceItem, SourceItems, SourceLine, SourceParameter, SourceStmt, SourceStmts}
use Rattle.nss_tree.specs.Places.{token_of}
use Rattle.nss_tree.specs.Expressions.{PlainExpr, PlainExprs, int, float, text, object_self, object_invalid, name, call, member, prefix, postfix, binary, assign, no_expr, more_exprs}
use Rattle.nss_tree.specs.Statements.{block, empty, expression, if_only, if_else, while_loop, do_loop, for_loop, switch, break_off, continue_on, return_from, declaration, case_label, default_label}
use Rattle.nss_tree.specs.Statements.{no_stmt, more_stmts}
use Rattle.nss_tree.specs.Units.{structure, constant, global, function}
use Rattle.typing_rules.specs.declared.fault.Fault.{Fault}
use Rattle.typing_rules.specs.Nodes.{asked, at, faults_there, fine, if_there, no_parts, three, two}
use Rattle.typing_rules.specs.Sight.{Head, Sight, Structure, callee, cells, declared, first_types, inside, looped, name_means, scope_entered, switched, type_means, value_type, wanted}
use Rattle.typing_rules.specs.Rules as rules
use Rattle.typing_rules.specs.Rules.{others, takes_action}
use Rattle.typing_rules.specs.Verdicts.{after, after_item, after_line, after_then, all_faults, all_fine, body_faults, body_fine, constant_faults, constant_value, faults, field_added, fields_faults}
use Rattle.typing_rules.specs.Verdicts.{head_verdict, in_body, in_function, item_faults, items_faults, late_after, line_type, lines_faults, lines_fine, names_faults, parameter_declared, params_faults}
use Rattle.typing_rules.specs.Verdicts.{params_fine, stmt_faults, stmt_verdict, stmts_faults, stmts_fine, value, value_faults, verdict, constant_parts}
use Rattle.expression_reasons.specs.Reasons.{all_nodes, nodes, nodes_there, value_nodes}
use Rattle.nss_reasons.specs.Reasons.{fields_nodes, item_nodes, items_nodes, line_nodes, names_nodes, params_nodes, stmt_nodes, stmts_nodes}
use Rattle.expression_reasons.specs.Seen.{Node, own}
use Rattle.expression_reasons.specs.declared.reason.Reason.TheVariants as why
use Rattle.expression_reasons.specs.Why.{assign_reason, member_reason, operands, postfix_reason, prefix_reason, return_reason}
use Rattle.nss_reasons.specs.Why.{case_reason, constant_reason, line_reason, line_why, parameter_reason, variable_reason}
use Rattle.reason_laws.proofs.Told.{Each, each_asked, each_both, each_join, each_left, each_none, each_right, each_silent}
use Rattle.reason_laws.proofs.Fitting.{assign_fits, binary_fits, case_fits, constant_fits, constant_line_fits, constant_other, default_other, each_call, each_do, each_endless, each_for, each_if}
use Rattle.reason_laws.proofs.Fitting.{each_if_else, each_switch, each_while, head_other, line_fits, member_fits, name_other, parameter_fits, postfix_fits, prefix_fits, redeclared_other, return_fits}
use Rattle.reason_laws.proofs.Fitting.{variable_fits}

-- faults of one part or of another, each with its nodes, and then the node's own
each_pair : {fs gs hs : List Fault} {xs ys zs : List Node} → Each fs xs → Each gs ys → Each hs zs → Each ((fs ++ gs) ++ hs) (xs ++ (ys ++ zs))
each_pair {xs = xs} {ys = ys} {zs = zs} f g h =
    each_both (each_both (each_left (ys ++ zs) f) (each_right xs (each_left zs g))) (each_right xs (each_right ys h))

mutual
  each_expression : (hs : List Head) (c : Sight) (b : Bool) (e : PlainExpr) → Each (faults hs c b e) (nodes hs c b e)
  each_expression hs c b (int n v) = each_none
  each_expression hs c b (float n) = each_silent n rules.float_rows rules.float_rule (λ u. refl) no_parts
  each_expression hs c b (text n v) = each_none
  each_expression hs c b (object_self n) = each_none
  each_expression hs c b (object_invalid n) = each_none
  each_expression hs c b (name n x) = each_silent n rules.name_rows (rules.name_rule c.at_file) name_other (name_means c x)
  each_expression hs c b (call n f es) =
      each_join (each_arguments hs c (wanted hs c.table f) es) (each_call n c.at_file b (two (all_fine hs c (wanted hs c.table f) es) (callee hs c.table f)))
  each_expression hs c b (member n e x) =
      each_join (each_expression hs c false e)
      (each_asked n rules.member_rows (rules.member_rule c.structs x) member_reason (member_fits c.structs x) (fine (verdict hs c false e)))
  each_expression hs c b (prefix n o e) =
      each_join (each_expression hs c false e)
      (each_asked n (rules.prefix_rows o) (rules.prefix_rule o) (prefix_reason o) (prefix_fits o) (fine (verdict hs c false e)))
  each_expression hs c b (postfix n o e) =
      each_join (each_expression hs c false e)
      (each_asked n rules.postfix_rows (rules.postfix_rule o) postfix_reason (postfix_fits o) (fine (verdict hs c false e)))
  each_expression hs c b (binary n o d e) =
      each_pair (each_expression hs c false d) (each_expression hs c false e)
      (each_asked n rules.binary_rows (rules.binary_rule o) operands (binary_fits o) (two (fine (verdict hs c false d)) (fine (verdict hs c false e))))
  each_expression hs c b (assign n o d e) =
      each_pair (each_expression hs c false d) (each_expression hs c false e)
      (each_asked n rules.assign_rows (rules.assign_rule o) assign_reason (assign_fits o) (two (fine (verdict hs c false d)) (fine (verdict hs c false e))))

  each_arguments : (hs : List Head) (c : Sight) (ps : List Param) (es : PlainExprs) → Each (all_faults hs c ps es) (all_nodes hs c ps es)
  each_arguments hs c ps no_expr = each_none
  each_arguments hs c ps (more_exprs e es) = each_join (each_expression hs c (takes_action ps) e) (each_arguments hs c (others ps) es)

each_there : (hs : List Head) (c : Sight) (o : Option PlainExpr) → Each (faults_there (value_faults hs c) o) (nodes_there (value_nodes hs c) o)
each_there hs c None = each_none
each_there hs c (Some e) = each_expression hs c false e

each_line : (structs : List Structure) (n : ℕ) (t : TypeName) → Each (at n (asked rules.line_rows value_type (type_means structs t))) (own n (line_why structs t))
each_line structs n t = each_asked n rules.line_rows value_type (line_reason why.NoVariable) line_fits (type_means structs t)

each_names : (hs : List Head) (c : Sight) (t : Option Ty) (ds : List SourceDeclared) → Each (names_faults hs c t ds) (names_nodes hs c t ds)
each_names hs c t [] = each_none
each_names hs c t (d ∷ ds) =
    each_join
    (each_join (each_there hs c d.value)
    (each_asked d.token (rules.variable_rows c d.name) (rules.variable_rule c d) (variable_reason c d.name) (variable_fits c d) (two t (if_there (value hs c) d.value))))
    (each_names hs (declared c d.name t) t ds)

each_variables : (hs : List Head) (c : Sight) (n : ℕ) (t : TypeName) (ds : List SourceDeclared)
    → Each (at n (asked rules.line_rows value_type (type_means c.structs t)) ++ names_faults hs c (line_type c.structs t) ds) (line_nodes hs c n t ds)
each_variables hs c n t ds = each_join (each_line c.structs n t) (each_names hs c (line_type c.structs t) ds)

each_constant : {xs : List Node} (c : Sight) (k : Constant) → Each (constant_faults c k) xs
each_constant c k = each_silent (token_of k) rules.constant_rows rules.constant_rule constant_other (rules.constant_means c k)

-- a statement with a condition and one more part
each_tested_part : {fs hs own_faults : List Fault} {xs os ys : List Node} → Each fs xs → Each hs ys → Each own_faults os
    → Each ((fs ++ hs) ++ own_faults) ((xs ++ os) ++ ys)
each_tested_part {xs = xs} {os = os} {ys = ys} f h o =
    each_both (each_both (each_left ys (each_left os f)) (each_right (xs ++ os) h)) (each_left ys (each_right xs o))

mutual
  each_statement : (hs : List Head) (c : Sight) (s : SourceStmt) → Each (stmt_faults hs c s) (stmt_nodes hs c s)
  each_statement hs c (block n xs) = each_statements hs (scope_entered c) xs
  each_statement hs c (empty n) = each_none
  each_statement hs c (expression n e) = each_expression hs c false e
  each_statement hs c (if_only n e a) =
      each_tested_part (each_expression hs c false e) (each_statement hs (inside c) a) (each_if n (value hs c e) (fine (stmt_verdict hs (inside c) a)))
  each_statement hs c (if_else n e a b) =
      each_tested_part (each_expression hs c false e) (each_join (each_statement hs (inside c) a) (each_statement hs (after_then c a) b))
      (each_if_else n (value hs c e) (fine (stmt_verdict hs (inside c) a)) (fine (stmt_verdict hs (after_then c a) b)))
  each_statement hs c (while_loop n e a) =
      each_tested_part (each_expression hs c false e) (each_statement hs (looped c) a) (each_while n (value hs c e) (fine (stmt_verdict hs (looped c) a)))
  each_statement hs c (do_loop n a e) =
      each_both
      (each_both (each_right _ (each_statement hs (looped c) a)) (each_left _ (each_left _ (each_expression hs c false e))))
      (each_left _ (each_right _ (each_do n (fine (stmt_verdict hs (looped c) a)) (value hs c e))))
  each_statement hs c (for_loop n x None z a) =
      each_both (each_join (each_there hs c x) (each_join (each_there hs c z) (each_statement hs (looped c) a)))
      (each_endless n (if_there (value hs c) x) (if_there (value hs c) z) (fine (stmt_verdict hs (looped c) a)))
  each_statement hs c (for_loop n x (Some y) z a) =
      each_both
      (each_join (each_there hs c x) (each_join (each_left _ (each_expression hs c false y)) (each_join (each_there hs c z) (each_statement hs (looped c) a))))
      (each_right _ (each_left _ (each_right _ (each_for n (if_there (value hs c) x) (value hs c y) (if_there (value hs c) z) (fine (stmt_verdict hs (looped c) a))))))
  each_statement hs c (switch n e xs) =
      each_tested_part (each_expression hs c false e) (each_statements hs (switched c) xs) (each_switch n c (value hs c e) (stmts_fine hs (switched c) xs))
  each_statement hs c (break_off n) = each_silent n rules.outside_rows (rules.break_rule c n) (λ u. refl) no_parts
  each_statement hs c (continue_on n) = each_silent n rules.outside_rows (rules.continue_rule c n) (λ u. refl) no_parts
  each_statement hs c (return_from n e) =
      each_join (each_there hs c e) (each_asked n rules.return_rows (rules.return_rule n) return_reason (return_fits n) (two c.result (if_there (value hs c) e)))
  each_statement hs c (declaration n t ds) = each_variables hs c n t ds
  each_statement hs c (case_label n k) =
      each_both (each_constant c k) (each_asked n (rules.case_rows c.labels) (rules.case_rule c.labels n) (case_reason c.labels) (case_fits c.labels n) (constant_value c k))
  each_statement hs c (default_label n) =
      each_silent n (rules.default_rows c.labels) (rules.default_rule c.labels n) (λ u. default_other (rules.has_default_label c.labels)) no_parts

  each_statements : (hs : List Head) (c : Sight) (xs : SourceStmts) → Each (stmts_faults hs c xs) (stmts_nodes hs c xs)
  each_statements hs c no_stmt = each_none
  each_statements hs c (more_stmts x xs) = each_join (each_statement hs c x) (each_statements hs (after c x) xs)

-- ---- items

each_field_names : {xs : List Node} (structs : List Structure) (s : rules.Fields) (t : Option Ty) (names : List Identifier) → Each (fields_faults structs s t names) xs
each_field_names structs s t [] = each_none
each_field_names structs s t (x ∷ names) =
    each_both (each_silent x.token (rules.field_rows structs s x) (rules.field_rule structs s x) (λ u. redeclared_other (rules.is_among x.name s.names) (rules.crosses_fields s (cells structs u))) t)
    (each_field_names structs (field_added structs s t x) t names)

each_fields : (structs : List Structure) (s : rules.Fields) (ls : List SourceLine) → Each (lines_faults structs s ls) (fields_nodes structs ls)
each_fields structs s [] = each_none
each_fields structs s (l ∷ ls) =
    each_join (each_both (each_line structs l.token l.ty) (each_field_names structs s (line_type structs l.ty) l.names)) (each_fields structs (after_line structs s l) ls)

each_default : {xs : List Node} (c : Sight) (o : Option Constant) → Each (faults_there (constant_faults c) o) xs
each_default c None = each_none
each_default c (Some k) = each_constant c k

each_parameters : (c : Sight) (late : Bool) (ps : List SourceParameter) → Each (params_faults c late ps) (params_nodes c late ps)
each_parameters c late [] = each_none
each_parameters c late (p ∷ ps) =
    each_join
    (each_both (each_default c p.default)
    (each_asked p.token (rules.parameter_rows c late p) (rules.parameter_rule c late p) (parameter_reason c late p.name) (parameter_fits c late p)
    (two (type_means c.structs p.ty) (if_there (constant_value c) p.default))))
    (each_parameters (parameter_declared c p) (late_after late p) ps)

each_body : (hs : List Head) (c : Sight) (o : Option SourceStmts) → Each (body_faults hs c o) (nodes_there (stmts_nodes hs c) o)
each_body hs c None = each_none
each_body hs c (Some xs) = each_statements hs c xs

each_item : (hs : List Head) (c : Sight) (i : SourceItem) → Each (item_faults hs c i) (item_nodes hs c i)
each_item hs c (structure n x ls) =
    each_both (each_fields c.structs rules.no_fields ls) (each_silent n rules.struct_rows (rules.struct_rule c.structs x) (λ u. refl) (lines_fine c.structs rules.no_fields ls))
each_item hs c (constant n t x k) =
    each_join (each_both (each_asked n rules.line_rows rules.constant_type (line_reason why.NoConstant) constant_line_fits (type_means c.structs t)) (each_constant c k))
    (each_asked x.token (rules.constant_name_rows c x.name) (rules.constant_name_rule c x.name) (constant_reason c x.name) (constant_fits c x.name) (constant_parts c t k))
each_item hs c (global n t ds) = each_variables hs c n t ds
each_item hs c (function n t x ps body) =
    each_both
    (each_join
    (each_both (each_parameters (in_function c t) false ps)
    (each_silent n rules.head_rows (rules.head_rule c x (is_some body)) (λ p. head_other (rules.is_refused p.1) (rules.is_missing p.1))
    (three (params_fine (in_function c t) false ps) (type_means c.structs t) (first_types x c.seen))))
    (each_body hs (in_body c t ps) body))
    (each_silent n rules.function_rows (rules.function_rule n x) (λ p. refl) (two (fine (head_verdict c t x ps (is_some body))) (body_fine hs (in_body c t ps) body)))

pub each_items : (hs : List Head) (c : Sight) (xs : SourceItems) → Each (items_faults hs c xs) (items_nodes hs c xs)
each_items hs c [] = each_none
each_items hs c (i ∷ more) = each_join (each_item hs c i) (each_items hs (after_item c i) more)
