-- The verdict on each node of a unit, the typed tree, and the list of all faults, as functions over
-- the tree.
use Rattle.std.specs.Prelude.{ℕ, ◌+◌, Bool, false, ◌||◌, List, [], ◌∷◌, ◌++◌, Option, None, Some, is_some}
use Rattle.std.specs.Option.{option_map}
use Rattle.nss_tree.specs.declared.constants.Constant.{Constant}
use Rattle.nss_tree.specs.declared.constants.TypeName.{TypeName}
use Rattle.nss_tree.specs.declared.units.Identifier.{Identifier}
use Rattle.nss_tree.specs.Expressions.{PlainExpr, PlainExprs, int, float, text, object_self, object_invalid, name, call, member, prefix, postfix, binary, assign, no_expr, more_exprs}
use Rattle.nss_tree.specs.Statements.{block, empty, expression, if_only, if_else, while_loop, do_loop, for_loop, switch, break_off, continue_on, return_from, declaration, case_label, default_label, no_stmt, more_stmts}
use Rattle.nss_tree.specs.Units.{structure, constant, global, function}
use Rattle.nss_tree.specs.Source.{SourceDeclared, SourceStmt, SourceStmts, SourceItem, SourceTree, SourceLine, SourceParameter}
use Rattle.nss_tree.specs.Places.{token_of}
use Rattle.nwq_value.specs.declared.value.Ty.{Ty}
use Rattle.nwq_value.specs.declared.engine.Const.{Const}
use Rattle.nwq_value.specs.declared.engine.Const.TheVariants as const
use Rattle.nwq_value.specs.declared.engine.Param.{Param}
use Rattle.nwq_value.specs.Engine.{EngineTable}
use Rattle.typing_rules.specs.declared.fault.Fault.{Fault}
use Rattle.typing_rules.specs.declared.places.EntryPoint.{EntryPoint}
use Rattle.typing_rules.specs.Typed.{TypedExpr, TypedExprs, literal, no_typed, more_typed, TypedName, TypedStmt, TypedStmts, TypedLine, TypedParameter, TypedItem, TypedUnit}
use Rattle.typing_rules.specs.Nodes.{Verdict, Fine, fine, asked, passed, two, three, four, no_parts, if_there, at, faults_there}
use Rattle.typing_rules.specs.Sight as sight
use Rattle.typing_rules.specs.Sight.{Head, Structure, Members, Sight, start, name_means, callee, wanted, type_means, value_type, declared_type, result_type, first_types, cells, cells_if, declared, scope_entered, inside, looped, switched, left, case_seen, default_seen, declaration_seen, function_begun}
use Rattle.typing_rules.specs.Rules.{name_rule, name_rows, float_rule, float_rows, call_rule, call_rows, takes_action, others, member_rule, member_rows, prefix_rule, prefix_rows, postfix_rule, postfix_rows, binary_rule, binary_rows, assign_rule, assign_rows, constant_means, constant_rule, constant_rows, constant_type, line_rows, variable_rule, variable_rows, constant_name_rule, constant_name_rows, Fields, no_fields, fields_with, field_rule, field_rows, struct_rule, struct_rows, parameter_rule, parameter_rows, TypedHead, signature_of, head_rule, head_rows, function_rule, function_rows, if_rule, if_rows, if_else_rule, if_else_rows, while_rule, do_rule, do_rows, for_rule, for_rows, switch_rule, switch_rows, break_rule, continue_rule, outside_rows, return_rule, return_rows, case_rule, case_rows, default_rule, default_rows, entry_rule, entry_rows}

-- ---- lists of parts

abbrev pub longer : {A : Type 0} → A × List A → List A
longer p = p.0 ∷ p.1

abbrev pub one_more : {A : Type 0} → Option A → Option (List A) → Option (List A)
one_more o rest = option_map longer (two o rest)

abbrev pub longer_typed : TypedExpr × TypedExprs → TypedExprs
longer_typed p = more_typed p.0 p.1

abbrev pub one_more_typed : Option TypedExpr → Option TypedExprs → Option TypedExprs
one_more_typed o rest = option_map longer_typed (two o rest)

-- ---- expressions. The declarations of the unit's functions are given; the flag says that the
-- expression stands where an action is taken.

abbrev mutual
  pub verdict : List Head → Sight → Bool → PlainExpr → Verdict TypedExpr
  verdict hs c b (int n v) = Fine (literal (const.Int v))
  verdict hs c b (float n) = asked float_rows float_rule no_parts
  verdict hs c b (text n v) = Fine (literal (const.Text v))
  verdict hs c b (object_self n) = Fine (literal const.SelfObject)
  verdict hs c b (object_invalid n) = Fine (literal const.InvalidObject)
  verdict hs c b (name n x) = asked name_rows (name_rule c.at_file) (name_means c x)
  verdict hs c b (call n f es) = asked (call_rows c.at_file b) (call_rule c.at_file b)
      (two (all_fine hs c (wanted hs c.table f) es) (callee hs c.table f))
  verdict hs c b (member n e x) = asked member_rows (member_rule c.structs x)
      (fine (verdict hs c false e))
  verdict hs c b (prefix n o e) = asked (prefix_rows o) (prefix_rule o)
      (fine (verdict hs c false e))
  verdict hs c b (postfix n o e) = asked postfix_rows (postfix_rule o) (fine (verdict hs c false e))
  verdict hs c b (binary n o d e) = asked binary_rows (binary_rule o)
      (two (fine (verdict hs c false d)) (fine (verdict hs c false e)))
  verdict hs c b (assign n o d e) = asked assign_rows (assign_rule o)
      (two (fine (verdict hs c false d)) (fine (verdict hs c false e)))

  -- arguments of these parameters
  pub all_fine : List Head → Sight → List Param → PlainExprs → Option TypedExprs
  all_fine hs c ps no_expr = Some no_typed
  all_fine hs c ps (more_exprs e es) = one_more_typed (fine (verdict hs c (takes_action ps) e))
      (all_fine hs c (others ps) es)

abbrev mutual
  pub faults : List Head → Sight → Bool → PlainExpr → List Fault
  faults hs c b (int n v) = []
  faults hs c b (float n) = at n (verdict hs c b (float n))
  faults hs c b (text n v) = []
  faults hs c b (object_self n) = []
  faults hs c b (object_invalid n) = []
  faults hs c b (name n x) = at n (verdict hs c b (name n x))
  faults hs c b (call n f es) = all_faults hs c (wanted hs c.table f) es
      ++ at n (verdict hs c b (call n f es))
  faults hs c b (member n e x) = faults hs c false e ++ at n (verdict hs c b (member n e x))
  faults hs c b (prefix n o e) = faults hs c false e ++ at n (verdict hs c b (prefix n o e))
  faults hs c b (postfix n o e) = faults hs c false e ++ at n (verdict hs c b (postfix n o e))
  faults hs c b (binary n o d e) = (faults hs c false d ++ faults hs c false e)
      ++ at n (verdict hs c b (binary n o d e))
  faults hs c b (assign n o d e) = (faults hs c false d ++ faults hs c false e)
      ++ at n (verdict hs c b (assign n o d e))

  pub all_faults : List Head → Sight → List Param → PlainExprs → List Fault
  all_faults hs c ps no_expr = []
  all_faults hs c ps (more_exprs e es) = faults hs c (takes_action ps) e
      ++ all_faults hs c (others ps) es

-- an expression that stands where a value, or nothing, is wanted
abbrev pub value : List Head → Sight → PlainExpr → Option TypedExpr
value hs c e = fine (verdict hs c false e)

abbrev pub value_faults : List Head → Sight → PlainExpr → List Fault
value_faults hs c e = faults hs c false e

-- ---- constants and types

abbrev pub constant_verdict : Sight → Constant → Verdict Const
constant_verdict c k = asked constant_rows constant_rule (constant_means c k)

abbrev pub constant_value : Sight → Constant → Option Const
constant_value c k = fine (constant_verdict c k)

abbrev pub constant_faults : Sight → Constant → List Fault
constant_faults c k = at (token_of k) (constant_verdict c k)

-- the line of a declaration
abbrev pub line_verdict : List Structure → TypeName → Verdict Ty
line_verdict structs t = asked line_rows value_type (type_means structs t)

abbrev pub line_type : List Structure → TypeName → Option Ty
line_type structs t = fine (line_verdict structs t)

-- and that of a constant
abbrev pub constant_line_verdict : List Structure → TypeName → Verdict Ty
constant_line_verdict structs t = asked line_rows constant_type (type_means structs t)

-- ---- declared names of one line, whose type is given

abbrev pub variable_verdict : List Head → Sight → Option Ty → SourceDeclared → Verdict TypedName
variable_verdict hs c t d = asked (variable_rows c d.name) (variable_rule c d)
    (two t (if_there (value hs c) d.value))

abbrev pub after_names : Sight → Option Ty → List SourceDeclared → Sight
after_names c t [] = c
after_names c t (d ∷ ds) = after_names (declared c d.name t) t ds

abbrev pub names_fine : List Head → Sight → Option Ty → List SourceDeclared
    → Option (List TypedName)
names_fine hs c t [] = Some []
names_fine hs c t (d ∷ ds) = one_more (fine (variable_verdict hs c t d))
    (names_fine hs (declared c d.name t) t ds)

abbrev pub names_faults : List Head → Sight → Option Ty → List SourceDeclared → List Fault
names_faults hs c t [] = []
names_faults hs c t (d ∷ ds) =
    (faults_there (value_faults hs c) d.value ++ at d.token (variable_verdict hs c t d))
    ++ names_faults hs (declared c d.name t) t ds

-- ---- statements

-- What stands in sight after a statement. Nothing here depends on how its expressions are typed.
abbrev mutual
  pub after : Sight → SourceStmt → Sight
  after c (block n xs) = left c (afters (scope_entered c) xs)
  after c (empty n) = c
  after c (expression n e) = c
  after c (if_only n e a) = left c (after (inside c) a)
  after c (if_else n e a b) = left c (after (inside (left c (after (inside c) a))) b)
  after c (while_loop n e a) = left c (after (looped c) a)
  after c (do_loop n a e) = left c (after (looped c) a)
  after c (for_loop n x y z a) = left c (after (looped c) a)
  after c (switch n e xs) = left c (afters (switched c) xs)
  after c (break_off n) = c
  after c (continue_on n) = c
  after c (return_from n e) = c
  after c (declaration n t ds) = declaration_seen (after_names c (line_type c.structs t) ds)
  after c (case_label n k) = case_seen c (constant_value c k)
  after c (default_label n) = default_seen c

  pub afters : Sight → SourceStmts → Sight
  afters c no_stmt = c
  afters c (more_stmts x xs) = afters (after c x) xs

abbrev pub longer_stmts : TypedStmt × TypedStmts → TypedStmts
longer_stmts p = more_stmts p.0 p.1

abbrev pub one_more_stmt : Option TypedStmt → Option TypedStmts → Option TypedStmts
one_more_stmt o rest = option_map longer_stmts (two o rest)

abbrev pub after_then : Sight → SourceStmt → Sight
after_then c a = inside (left c (after (inside c) a))

abbrev pub declaration_of : ℕ → Ty × List TypedName → TypedStmt
declaration_of n p = declaration n p.0 p.1

abbrev mutual
  pub stmt_verdict : List Head → Sight → SourceStmt → Verdict TypedStmt
  stmt_verdict hs c (block n xs) = passed (block n) (stmts_fine hs (scope_entered c) xs)
  stmt_verdict hs c (empty n) = Fine (empty n)
  stmt_verdict hs c (expression n e) = passed (expression n) (value hs c e)
  stmt_verdict hs c (if_only n e a) = asked if_rows (if_rule n)
      (two (value hs c e) (fine (stmt_verdict hs (inside c) a)))
  stmt_verdict hs c (if_else n e a b) = asked if_else_rows (if_else_rule n)
      (three (value hs c e) (fine (stmt_verdict hs (inside c) a))
      (fine (stmt_verdict hs (after_then c a) b)))
  stmt_verdict hs c (while_loop n e a) = asked if_rows (while_rule n)
      (two (value hs c e) (fine (stmt_verdict hs (looped c) a)))
  stmt_verdict hs c (do_loop n a e) = asked do_rows (do_rule n)
      (two (fine (stmt_verdict hs (looped c) a)) (value hs c e))
  stmt_verdict hs c (for_loop n x y z a) = asked for_rows (for_rule n)
      (four (if_there (value hs c) x) (if_there (value hs c) y) (if_there (value hs c) z)
      (fine (stmt_verdict hs (looped c) a)))
  stmt_verdict hs c (switch n e xs) = asked (switch_rows c) (switch_rule c n)
      (two (value hs c e) (stmts_fine hs (switched c) xs))
  stmt_verdict hs c (break_off n) = asked outside_rows (break_rule c n) no_parts
  stmt_verdict hs c (continue_on n) = asked outside_rows (continue_rule c n) no_parts
  stmt_verdict hs c (return_from n e) = asked return_rows (return_rule n)
      (two c.result (if_there (value hs c) e))
  stmt_verdict hs c (declaration n t ds) = passed (declaration_of n)
      (two (line_type c.structs t) (names_fine hs c (line_type c.structs t) ds))
  stmt_verdict hs c (case_label n k) = asked (case_rows c.labels) (case_rule c.labels n)
      (constant_value c k)
  stmt_verdict hs c (default_label n) = asked (default_rows c.labels)
      (default_rule c.labels n) no_parts

  pub stmts_fine : List Head → Sight → SourceStmts → Option TypedStmts
  stmts_fine hs c no_stmt = Some no_stmt
  stmts_fine hs c (more_stmts x xs) = one_more_stmt (fine (stmt_verdict hs c x))
      (stmts_fine hs (after c x) xs)

abbrev mutual
  pub stmt_faults : List Head → Sight → SourceStmt → List Fault
  stmt_faults hs c (block n xs) = stmts_faults hs (scope_entered c) xs
  stmt_faults hs c (empty n) = []
  stmt_faults hs c (expression n e) = value_faults hs c e
  stmt_faults hs c (if_only n e a) = (value_faults hs c e ++ stmt_faults hs (inside c) a)
      ++ at n (stmt_verdict hs c (if_only n e a))
  stmt_faults hs c (if_else n e a b) =
      (value_faults hs c e ++ (stmt_faults hs (inside c) a ++ stmt_faults hs (after_then c a) b))
      ++ at n (stmt_verdict hs c (if_else n e a b))
  stmt_faults hs c (while_loop n e a) = (value_faults hs c e ++ stmt_faults hs (looped c) a)
      ++ at n (stmt_verdict hs c (while_loop n e a))
  stmt_faults hs c (do_loop n a e) = (stmt_faults hs (looped c) a ++ value_faults hs c e)
      ++ at n (stmt_verdict hs c (do_loop n a e))
  stmt_faults hs c (for_loop n x y z a) =
      (faults_there (value_faults hs c) x
      ++ (faults_there (value_faults hs c) y
      ++ (faults_there (value_faults hs c) z ++ stmt_faults hs (looped c) a)))
      ++ at n (stmt_verdict hs c (for_loop n x y z a))
  stmt_faults hs c (switch n e xs) = (value_faults hs c e ++ stmts_faults hs (switched c) xs)
      ++ at n (stmt_verdict hs c (switch n e xs))
  stmt_faults hs c (break_off n) = at n (stmt_verdict hs c (break_off n))
  stmt_faults hs c (continue_on n) = at n (stmt_verdict hs c (continue_on n))
  stmt_faults hs c (return_from n e) = faults_there (value_faults hs c) e
      ++ at n (stmt_verdict hs c (return_from n e))
  stmt_faults hs c (declaration n t ds) = at n (line_verdict c.structs t)
      ++ names_faults hs c (line_type c.structs t) ds
  stmt_faults hs c (case_label n k) = constant_faults c k
      ++ at n (stmt_verdict hs c (case_label n k))
  stmt_faults hs c (default_label n) = at n (stmt_verdict hs c (default_label n))

  pub stmts_faults : List Head → Sight → SourceStmts → List Fault
  stmts_faults hs c no_stmt = []
  stmts_faults hs c (more_stmts x xs) = stmt_faults hs c x ++ stmts_faults hs (after c x) xs

-- ---- structs

abbrev pub field_verdict : List Structure → Fields → Option Ty → Identifier → Verdict Identifier
field_verdict structs s t x = asked (field_rows structs s x) (field_rule structs s x) t

abbrev pub field_added : List Structure → Fields → Option Ty → Identifier → Fields
field_added structs s t x = record {
  names = s.names ++ x.name ∷ [];
  count = fields_with s (cells_if structs t);
}

abbrev pub after_fields : List Structure → Fields → Option Ty → List Identifier → Fields
after_fields structs s t [] = s
after_fields structs s t (x ∷ xs) = after_fields structs (field_added structs s t x) t xs

abbrev pub fields_fine : List Structure → Fields → Option Ty → List Identifier
    → Option (List Identifier)
fields_fine structs s t [] = Some []
fields_fine structs s t (x ∷ xs) = one_more (fine (field_verdict structs s t x))
    (fields_fine structs (field_added structs s t x) t xs)

abbrev pub fields_faults : List Structure → Fields → Option Ty → List Identifier → List Fault
fields_faults structs s t [] = []
fields_faults structs s t (x ∷ xs) = at x.token (field_verdict structs s t x)
    ++ fields_faults structs (field_added structs s t x) t xs

abbrev pub line_of : ℕ → Ty × List Identifier → TypedLine
line_of n p = record { token = n; ty = p.0; names = p.1 }

abbrev pub line_fine : List Structure → Fields → SourceLine → Option TypedLine
line_fine structs s l = option_map (line_of l.token)
    (two (line_type structs l.ty) (fields_fine structs s (line_type structs l.ty) l.names))

abbrev pub line_faults : List Structure → Fields → SourceLine → List Fault
line_faults structs s l = at l.token (line_verdict structs l.ty)
    ++ fields_faults structs s (line_type structs l.ty) l.names

abbrev pub after_line : List Structure → Fields → SourceLine → Fields
after_line structs s l = after_fields structs s (line_type structs l.ty) l.names

abbrev pub lines_fine : List Structure → Fields → List SourceLine → Option (List TypedLine)
lines_fine structs s [] = Some []
lines_fine structs s (l ∷ ls) = one_more (line_fine structs s l)
    (lines_fine structs (after_line structs s l) ls)

abbrev pub lines_faults : List Structure → Fields → List SourceLine → List Fault
lines_faults structs s [] = []
lines_faults structs s (l ∷ ls) = line_faults structs s l
    ++ lines_faults structs (after_line structs s l) ls

abbrev pub struct_verdict : List Structure → List ℕ → List SourceLine → Verdict (List TypedLine)
struct_verdict structs x ls = asked struct_rows (struct_rule structs x)
    (lines_fine structs no_fields ls)

-- where the fields stand in a value: those of one line of this type, behind so many
abbrev pub members_of_line : List Structure → Ty → Members → List Identifier → Members
members_of_line structs t m [] = m
members_of_line structs t m (x ∷ xs) =
    members_of_line structs t
    (record {
      fields = m.fields ++ record { called = x.name; ty = t; before = m.cells } ∷ [];
      cells = m.cells + cells structs t;
    }) xs

abbrev pub members_of_lines : List Structure → Members → List TypedLine → Members
members_of_lines structs m [] = m
members_of_lines structs m (l ∷ ls) = members_of_lines structs
    (members_of_line structs l.ty m l.names) ls

abbrev pub no_members : Members
no_members = record { fields = []; cells = 0 }

abbrev pub struct_members : List Structure → List TypedLine → Members
struct_members structs ls = members_of_lines structs no_members ls

-- ---- functions

abbrev pub parameter_verdict : Sight → Bool → SourceParameter → Verdict TypedParameter
parameter_verdict c late p = asked (parameter_rows c late p) (parameter_rule c late p)
    (two (type_means c.structs p.ty) (if_there (constant_value c) p.default))

abbrev pub parameter_declared : Sight → SourceParameter → Sight
parameter_declared c p = declared c p.name (declared_type c.structs p.ty)

abbrev pub late_after : Bool → SourceParameter → Bool
late_after late p = late || is_some p.default

abbrev pub after_params : Sight → List SourceParameter → Sight
after_params c [] = c
after_params c (p ∷ ps) = after_params (parameter_declared c p) ps

abbrev pub params_fine : Sight → Bool → List SourceParameter → Option (List TypedParameter)
params_fine c late [] = Some []
params_fine c late (p ∷ ps) = one_more (fine (parameter_verdict c late p))
    (params_fine (parameter_declared c p) (late_after late p) ps)

abbrev pub params_faults : Sight → Bool → List SourceParameter → List Fault
params_faults c late [] = []
params_faults c late (p ∷ ps) =
    (faults_there (constant_faults c) p.default ++ at p.token (parameter_verdict c late p))
    ++ params_faults (parameter_declared c p) (late_after late p) ps

-- where the parameters of a function with this result stand
abbrev pub in_function : Sight → TypeName → Sight
in_function c t = function_begun c (result_type c.structs t)

-- and its body
abbrev pub in_body : Sight → TypeName → List SourceParameter → Sight
in_body c t ps = after_params (in_function c t) ps

abbrev pub head_verdict : Sight → TypeName → List ℕ → List SourceParameter → Bool
    → Verdict TypedHead
head_verdict c t x ps with_body =
    asked head_rows (head_rule c x with_body)
    (three (params_fine (in_function c t) false ps) (type_means c.structs t)
    (first_types x c.seen))

abbrev pub head : Sight → TypeName → List ℕ → List SourceParameter → Bool → Head
head c t x ps with_body =
    record {
      called = x;
      types = option_map signature_of (fine (head_verdict c t x ps with_body));
      has_body = with_body;
    }

abbrev pub body_fine : List Head → Sight → Option SourceStmts → Option (Option TypedStmts)
body_fine hs c body = if_there (stmts_fine hs c) body

abbrev pub after_body : Sight → Option SourceStmts → Sight
after_body c None = c
after_body c (Some xs) = afters c xs

abbrev pub function_verdict : List Head → Sight → ℕ → TypeName → List ℕ → List SourceParameter
    → Option SourceStmts → Verdict TypedItem
function_verdict hs c n t x ps body =
    asked function_rows (function_rule n x)
    (two (fine (head_verdict c t x ps (is_some body))) (body_fine hs (in_body c t ps) body))

-- ---- items

abbrev pub constant_parts : Sight → TypeName → Constant → Option (Ty × Const)
constant_parts c t k = two (fine (constant_line_verdict c.structs t)) (constant_value c k)

abbrev pub constant_name_verdict : Sight → TypeName → List ℕ → Constant → Verdict (Ty × Const)
constant_name_verdict c t x k = asked (constant_name_rows c x) (constant_name_rule c x)
    (constant_parts c t k)

abbrev pub constant_item : ℕ → Identifier → Ty × Const → TypedItem
constant_item n x p = constant n p.0 x p.1

abbrev pub global_item : ℕ → Ty × List TypedName → TypedItem
global_item n p = global n p.0 p.1

abbrev pub constant_meaning : Ty × Const → sight.Meaning
constant_meaning p = sight.constant p.1

abbrev pub after_item : Sight → SourceItem → Sight
after_item c (structure n x ls) = record c {
  structs = c.structs ++ record {
    called = x;
    members = option_map (struct_members c.structs) (fine (struct_verdict c.structs x ls));
  } ∷ [];
}
after_item c (constant n t x k) = record c {
  names = c.names ++ record {
    called = x.name;
    means = option_map constant_meaning (fine (constant_name_verdict c t x.name k));
  } ∷ [];
}
after_item c (global n t ds) = after_names c (line_type c.structs t) ds
after_item c (function n t x ps body) = record c {
  seen = c.seen ++ head c t x ps (is_some body) ∷ [];
  next = (after_body (in_body c t ps) body).next;
}

abbrev pub after_items : Sight → List SourceItem → Sight
after_items c [] = c
after_items c (i ∷ more) = after_items (after_item c i) more

abbrev pub item_fine : List Head → Sight → SourceItem → Option TypedItem
item_fine hs c (structure n x ls) = option_map (structure n x)
    (fine (struct_verdict c.structs x ls))
item_fine hs c (constant n t x k) = option_map (constant_item n x)
    (fine (constant_name_verdict c t x.name k))
item_fine hs c (global n t ds) = option_map (global_item n)
    (two (line_type c.structs t) (names_fine hs c (line_type c.structs t) ds))
item_fine hs c (function n t x ps body) = fine (function_verdict hs c n t x ps body)

abbrev pub head_faults : Sight → ℕ → TypeName → List ℕ → List SourceParameter → Bool → List Fault
head_faults c n t x ps with_body = params_faults (in_function c t) false ps
    ++ at n (head_verdict c t x ps with_body)

abbrev pub body_faults : List Head → Sight → Option SourceStmts → List Fault
body_faults hs c body = faults_there (stmts_faults hs c) body

abbrev pub item_faults : List Head → Sight → SourceItem → List Fault
item_faults hs c (structure n x ls) = lines_faults c.structs no_fields ls
    ++ at n (struct_verdict c.structs x ls)
item_faults hs c (constant n t x k) =
    (at n (constant_line_verdict c.structs t) ++ constant_faults c k)
    ++ at x.token (constant_name_verdict c t x.name k)
item_faults hs c (global n t ds) = at n (line_verdict c.structs t)
    ++ names_faults hs c (line_type c.structs t) ds
item_faults hs c (function n t x ps body) =
    (head_faults c n t x ps (is_some body) ++ body_faults hs (in_body c t ps) body)
    ++ at n (function_verdict hs c n t x ps body)

abbrev pub items_fine : List Head → Sight → List SourceItem → Option (List TypedItem)
items_fine hs c [] = Some []
items_fine hs c (i ∷ more) = one_more (item_fine hs c i) (items_fine hs (after_item c i) more)

abbrev pub items_faults : List Head → Sight → List SourceItem → List Fault
items_faults hs c [] = []
items_faults hs c (i ∷ more) = item_faults hs c i ++ items_faults hs (after_item c i) more

-- ---- units

-- the declarations of a unit's functions
abbrev pub heads : EngineTable → List SourceItem → List Head
heads table items = (after_items (start table) items).seen

abbrev pub entry_verdict : List Head → Verdict EntryPoint
entry_verdict hs = asked entry_rows (entry_rule hs) no_parts

abbrev pub unit_of : List TypedItem × EntryPoint → TypedUnit
unit_of p = record { items = p.0; entry = p.1 }

abbrev pub unit_typed : EngineTable → SourceTree → Option TypedUnit
unit_typed table u = option_map unit_of
    (two (items_fine (heads table u.items) (start table) u.items)
    (fine (entry_verdict (heads table u.items))))

abbrev pub unit_faults : EngineTable → SourceTree → List Fault
unit_faults table u = items_faults (heads table u.items) (start table) u.items
    ++ at u.count (entry_verdict (heads table u.items))
