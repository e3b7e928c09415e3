-- The tree of a list of tokens is no heavier than the list.
use Rattle.std.proofs.Common.{◌≡◌, ℕ, suc, ◌+◌, ◌<◌, ◌≤◌, Bool, List, [], ◌∷◌, ◌++◌, length, Option, None, Some, refl, ap, arith, length-append}
use Rattle.nss_tree.specs.declared.constants.Constant.{Constant}
use Rattle.nss_tree.specs.declared.constants.TypeName.{TypeName}
use Rattle.nss_tree.specs.declared.units.Identifier.{Identifier}
use Rattle.nss_tree.specs.Source.{SourceDeclared, SourceItem, SourceItems, SourceLine, SourceParameter, SourceStmt, SourceStmts}
use Rattle.nss_tree.specs.Expressions.{PlainExpr, PlainExprs}
use Rattle.nss_tree.specs.Statements as stmt
use Rattle.nss_tree.specs.Units as unit
use Rattle.nss_tree.specs.Counts.{bodies_of, in_all, one_if, structs_of, variables_in, variables_in_all, variables_in_body, variables_of}
use Rattle.nss_tree.specs.Places.{of_constant, places, places_declared, places_each, places_expr, places_exprs, places_identifier, places_if, places_item, places_line, places_parameter}
use Rattle.nss_tree.specs.Places.{places_stmt, places_stmts}
use Rattle.nss_symbols.specs.Symbols.{Symbol, Numbered, numbered_from}
use Rattle.nss_parser.specs.Grammar as grammar
use Rattle.nss_parser.specs.Grammar.{Expression, Binary, Unary, Postfix, Primary, Expressions, Optional, TypeTokens, ConstantTokens, Declared, DeclaredNames, Statement, Entry, Entries}
use Rattle.nss_parser.specs.Unit as spelled
use Rattle.nss_parser.specs.Unit.{FieldNames, Field, Fields, ParameterTokens, ParameterList, Parameters, Body, Item, Items}
use Rattle.nss_parser.specs.Weight.{EachTreeWithinTokens}
use Rattle.nss_parser.proofs.Sits.{AreBelow, Sits, sits_after, sits_alone, sits_before, sits_infix, sits_join, sits_node, sits_none, sits_same, sits_skip, sits_suffix}

mutual
  sits_expression : {c : ℕ} {x : PlainExpr} {xs : List Numbered} → Expression x xs → Sits c (places_expr x) xs
  sits_expression (grammar.assignment n m o is u e) = sits_infix _ (sits_unary u) (sits_expression e)
  sits_expression (grammar.value b) = sits_binary b

  sits_binary : {c k : ℕ} {x : PlainExpr} {xs : List Numbered} → Binary k x xs → Sits c (places_expr x) xs
  sits_binary (grammar.operation n m o is l r) = sits_infix _ (sits_binary l) (sits_binary r)
  sits_binary (grammar.tighter b) = sits_binary b
  sits_binary (grammar.unary u) = sits_unary u

  sits_unary : {c : ℕ} {x : PlainExpr} {xs : List Numbered} → Unary x xs → Sits c (places_expr x) xs
  sits_unary (grammar.prefix n m o is u) = sits_node (sits_unary u)
  sits_unary (grammar.postfix p) = sits_postfix p

  sits_postfix : {c : ℕ} {x : PlainExpr} {xs : List Numbered} → Postfix x xs → Sits c (places_expr x) xs
  sits_postfix (grammar.member n k f p) = sits_suffix _ _ (sits_postfix p)
  sits_postfix (grammar.step n m o is p) = sits_suffix _ _ (sits_postfix p)
  sits_postfix (grammar.primary p) = sits_primary p

  sits_primary : {c : ℕ} {x : PlainExpr} {xs : List Numbered} → Primary x xs → Sits c (places_expr x) xs
  sits_primary (grammar.int n v) = sits_node sits_none
  sits_primary (grammar.float n) = sits_node sits_none
  sits_primary (grammar.text n bytes) = sits_node sits_none
  sits_primary (grammar.object_self n) = sits_node sits_none
  sits_primary (grammar.object_invalid n) = sits_node sits_none
  sits_primary (grammar.name n f) = sits_node sits_none
  sits_primary (grammar.call_empty n m k f) = sits_node sits_none
  sits_primary (grammar.call n m k f es) = sits_node (sits_skip (sits_before _ (sits_expressions es)))
  sits_primary (grammar.parenthesized m k e) = sits_skip (sits_before _ (sits_expression e))

  sits_expressions : {c : ℕ} {all : PlainExprs} {xs : List Numbered} → Expressions all xs → Sits c (places_exprs all) xs
  sits_expressions (grammar.one e) = sits_alone (sits_expression e)
  sits_expressions (grammar.more n e es) = sits_join (sits_expression e) (sits_skip (sits_expressions es))

sits_optional : {c : ℕ} {x : Option PlainExpr} {xs : List Numbered} → Optional x xs → Sits c (places_if places_expr x) xs
sits_optional grammar.absent = sits_none
sits_optional (grammar.present e) = sits_expression e

sits_type : {c n : ℕ} {t : TypeName} {ts : List Numbered} → TypeTokens n t ts → Sits c (n ∷ []) ts
sits_type (grammar.word n m t is) = sits_node sits_none
sits_type (grammar.structure n k f) = sits_node sits_none

sits_constant : {c : ℕ} {x : Constant} {xs : List Numbered} → ConstantTokens x xs → Sits c (of_constant x) xs
sits_constant (grammar.int n v) = sits_node sits_none
sits_constant (grammar.minus_int k n v) = sits_skip (sits_node sits_none)
sits_constant (grammar.float n) = sits_node sits_none
sits_constant (grammar.minus_float k n) = sits_skip (sits_node sits_none)
sits_constant (grammar.text n bytes) = sits_node sits_none
sits_constant (grammar.name n f) = sits_node sits_none
sits_constant (grammar.object_self n) = sits_node sits_none
sits_constant (grammar.object_invalid n) = sits_node sits_none

sits_declared : {c : ℕ} {d : SourceDeclared} {xs : List Numbered} → Declared d xs → Sits c (places_declared d) xs
sits_declared (grammar.bare n f) = sits_node sits_none
sits_declared (grammar.valued n k f e) = sits_node (sits_skip (sits_expression e))

sits_names : {c : ℕ} {all : List SourceDeclared} {xs : List Numbered} → DeclaredNames all xs → Sits c (places_each places_declared all) xs
sits_names (grammar.one h) = sits_alone (sits_declared h)
sits_names (grammar.more n h rest) = sits_join (sits_declared h) (sits_skip (sits_names rest))

mutual
  sits_statement : {c : ℕ} {s : SourceStmt} {xs : List Numbered} → Statement s xs → Sits c (places_stmt s) xs
  sits_statement (grammar.block n k es) = sits_node (sits_before _ (sits_entries es))
  sits_statement (grammar.empty n) = sits_node sits_none
  sits_statement (grammar.expression n k s e) = sits_same _ (sits_expression e)
  sits_statement (grammar.if_only n a b e s) = sits_node (sits_skip (sits_join (sits_expression e) (sits_skip (sits_statement s))))
  sits_statement (grammar.if_else n a b c e s closed t) =
      sits_node (sits_skip (sits_join (sits_expression e) (sits_skip (sits_join (sits_statement s) (sits_skip (sits_statement t))))))
  sits_statement (grammar.while_loop n a b e s) = sits_node (sits_skip (sits_join (sits_expression e) (sits_skip (sits_statement s))))
  sits_statement (grammar.do_loop n a b c d s e) = sits_node (sits_join (sits_statement s) (sits_skip (sits_skip (sits_before _ (sits_expression e)))))
  sits_statement (grammar.for_loop n a b c d x y z s) =
      sits_node (sits_skip (sits_join (sits_optional x) (sits_skip (sits_join (sits_optional y) (sits_skip (sits_join (sits_optional z) (sits_skip (sits_statement s))))))))
  sits_statement (grammar.switch n a b c d e es) = sits_node (sits_skip (sits_join (sits_expression e) (sits_skip (sits_skip (sits_before _ (sits_entries es))))))
  sits_statement (grammar.break_off n k) = sits_node sits_none
  sits_statement (grammar.continue_on n k) = sits_node sits_none
  sits_statement (grammar.return_from n k x) = sits_node (sits_before _ (sits_optional x))

  sits_entry : {c : ℕ} {labels : Bool} {s : SourceStmt} {xs : List Numbered} → Entry labels s xs → Sits c (places_stmt s) xs
  sits_entry (grammar.statement s) = sits_statement s
  sits_entry (grammar.declaration n k typ names) = sits_join (sits_type typ) (sits_before _ (sits_names names))
  sits_entry (grammar.case_label n k h) = sits_node (sits_before _ (sits_constant h))
  sits_entry (grammar.default_label n k) = sits_node sits_none

  sits_entries : {c : ℕ} {labels : Bool} {all : SourceStmts} {xs : List Numbered} → Entries labels all xs → Sits c (places_stmts all) xs
  sits_entries grammar.none = sits_none
  sits_entries (grammar.more e es) = sits_join (sits_entry e) (sits_entries es)

sits_field_names : {c : ℕ} {all : List Identifier} {xs : List Numbered} → FieldNames all xs → Sits c (places_each places_identifier all) xs
sits_field_names (spelled.one n f) = sits_node sits_none
sits_field_names (spelled.more n k f rest) = sits_node (sits_skip (sits_field_names rest))

sits_field : {c : ℕ} {x : SourceLine} {xs : List Numbered} → Field x xs → Sits c (places_line x) xs
sits_field (spelled.line n k typ names) = sits_join (sits_type typ) (sits_before _ (sits_field_names names))

sits_fields : {c : ℕ} {all : List SourceLine} {xs : List Numbered} → Fields all xs → Sits c (places_each places_line all) xs
sits_fields (spelled.one h) = sits_alone (sits_field h)
sits_fields (spelled.more h rest) = sits_join (sits_field h) (sits_fields rest)

sits_parameter : {c : ℕ} {p : SourceParameter} {xs : List Numbered} → ParameterTokens p xs → Sits c (places_parameter p) xs
sits_parameter (spelled.bare n k f typ) = sits_before _ (sits_type typ)
sits_parameter (spelled.valued n k a f typ h) = sits_join (sits_type typ) (sits_skip (sits_skip (sits_constant h)))

sits_list : {c : ℕ} {all : List SourceParameter} {xs : List Numbered} → ParameterList all xs → Sits c (places_each places_parameter all) xs
sits_list (spelled.one h) = sits_alone (sits_parameter h)
sits_list (spelled.more n h rest) = sits_join (sits_parameter h) (sits_skip (sits_list rest))

sits_parameters : {c : ℕ} {all : List SourceParameter} {xs : List Numbered} → Parameters all xs → Sits c (places_each places_parameter all) xs
sits_parameters spelled.absent = sits_none
sits_parameters (spelled.present h) = sits_list h

sits_body : {c : ℕ} {body : Option SourceStmts} {xs : List Numbered} → Body body xs → Sits c (places_if places_stmts body) xs
sits_body (spelled.prototype k) = sits_none
sits_body (spelled.block n k es) = sits_skip (sits_before _ (sits_entries es))

sits_item : {c : ℕ} {x : SourceItem} {xs : List Numbered} → Item x xs → Sits c (places_item x) xs
sits_item (spelled.structure a n b c d f h) = sits_skip (sits_node (sits_skip (sits_before _ (sits_fields h))))
sits_item (spelled.constant a n k b d f typ h) = sits_skip (sits_join (sits_type typ) (sits_node (sits_skip (sits_before _ (sits_constant h)))))
sits_item (spelled.global n k typ names) = sits_join (sits_type typ) (sits_before _ (sits_names names))
sits_item (spelled.function {ts = ts} n k a b f typ ps body) = sits_after ts (sits_node (sits_skip (sits_join (sits_parameters ps) (sits_skip (sits_body body)))))

sits_items : {c : ℕ} {all : SourceItems} {xs : List Numbered} → Items all xs → Sits c (places_each places_item all) xs
sits_items spelled.none = sits_none
sits_items (spelled.more h rest) = sits_join (sits_item h) (sits_items rest)

-- variables, structs and bodies are nodes
each_counts : {A : Type 0} (f : A → List ℕ) → ((x : A) → 0 < length (f x)) → (xs : List A) → length xs ≤ length (places_each f xs)
each_counts f some [] = omega arith
each_counts f some (x ∷ xs) = let a = some x in let b = each_counts f some xs in let d = length-append (f x) (places_each f xs) in omega arith

names_count : (ds : List SourceDeclared) → length ds ≤ length (places_each places_declared ds)
names_count = each_counts places_declared (λ d. omega arith)

mutual
  variables_nodes : (s : SourceStmt) → variables_in s ≤ length (places_stmt s)
  variables_nodes (stmt.block n xs) = let a = variables_nodes_all xs in omega arith
  variables_nodes (stmt.empty n) = omega arith
  variables_nodes (stmt.expression n x) = omega arith
  variables_nodes (stmt.if_only n x a) = let h = variables_nodes a in let d = length-append (places_expr x) (places_stmt a) in omega arith
  variables_nodes (stmt.if_else n x a b) =
      let h = variables_nodes a in let k = variables_nodes b in let d = length-append (places_stmt a) (places_stmt b) in
      let e = length-append (places_expr x) (places_stmt a ++ places_stmt b) in omega arith
  variables_nodes (stmt.while_loop n x a) = let h = variables_nodes a in let d = length-append (places_expr x) (places_stmt a) in omega arith
  variables_nodes (stmt.do_loop n a x) = let h = variables_nodes a in let d = length-append (places_stmt a) (places_expr x) in omega arith
  variables_nodes (stmt.for_loop n x y z a) =
      let h = variables_nodes a in
      let b = length-append (places_if places_expr z) (places_stmt a) in
      let d = length-append (places_if places_expr y) (places_if places_expr z ++ places_stmt a) in
      let e = length-append (places_if places_expr x) (places_if places_expr y ++ (places_if places_expr z ++ places_stmt a)) in omega arith
  variables_nodes (stmt.switch n x xs) = let h = variables_nodes_all xs in let d = length-append (places_expr x) (places_stmts xs) in omega arith
  variables_nodes (stmt.break_off n) = omega arith
  variables_nodes (stmt.continue_on n) = omega arith
  variables_nodes (stmt.return_from n x) = omega arith
  variables_nodes (stmt.declaration n t ds) = let h = names_count ds in omega arith
  variables_nodes (stmt.case_label n c) = omega arith
  variables_nodes (stmt.default_label n) = omega arith

  variables_nodes_all : (xs : SourceStmts) → variables_in_all xs ≤ length (places_stmts xs)
  variables_nodes_all stmt.no_stmt = omega arith
  variables_nodes_all (stmt.more_stmts x xs) =
      let a = variables_nodes x in let b = variables_nodes_all xs in let d = length-append (places_stmt x) (places_stmts xs) in omega arith

variables_nodes_body : (body : Option SourceStmts) → variables_in_body body ≤ length (places_if places_stmts body)
variables_nodes_body None = omega arith
variables_nodes_body (Some xs) = variables_nodes_all xs

variables_nodes_of : (x : SourceItem) → variables_of x ≤ length (places_item x)
variables_nodes_of (unit.structure n f lines) = omega arith
variables_nodes_of (unit.constant n t x c) = omega arith
variables_nodes_of (unit.global n t ds) = let h = names_count ds in omega arith
variables_nodes_of (unit.function n t f ps body) =
    let a : length ps ≤ length (places_each places_parameter ps) = each_counts places_parameter (λ p. omega arith) ps in
    let b = variables_nodes_body body in
    let d = length-append (places_each places_parameter ps) (places_if places_stmts body) in omega arith

structs_nodes_of : (x : SourceItem) → structs_of x ≤ length (places_item x)
structs_nodes_of (unit.structure n f lines) = omega arith
structs_nodes_of (unit.constant n t x c) = omega arith
structs_nodes_of (unit.global n t ds) = omega arith
structs_nodes_of (unit.function n t f ps body) = omega arith

one_at_most : {A : Type 0} (o : Option A) → one_if o ≤ 1
one_at_most None = omega arith
one_at_most (Some x) = omega arith

bodies_nodes_of : (x : SourceItem) → bodies_of x ≤ length (places_item x)
bodies_nodes_of (unit.structure n f lines) = omega arith
bodies_nodes_of (unit.constant n t x c) = omega arith
bodies_nodes_of (unit.global n t ds) = omega arith
bodies_nodes_of (unit.function n t f ps body) = let h = one_at_most body in omega arith

all_nodes : (f : SourceItem → ℕ) → ((x : SourceItem) → f x ≤ length (places_item x)) → (xs : SourceItems) → in_all f xs ≤ length (places_each places_item xs)
all_nodes f h [] = omega arith
all_nodes f h (x ∷ xs) = let a = h x in let b = all_nodes f h xs in let d = length-append (places_item x) (places_each places_item xs) in omega arith

-- the numbers of a list of tokens
numbers_length : (n : ℕ) (tokens : List Symbol) → length (numbered_from n tokens) ≡ length tokens
numbers_length n [] = refl
numbers_length n (t ∷ ts) = ap suc (numbers_length (n + 1) ts)

numbers_below : (c n : ℕ) (tokens : List Symbol) → n + length tokens ≤ c → AreBelow c (numbered_from n tokens)
numbers_below c n [] h = tt
numbers_below c n (t ∷ ts) h = (omega arith, numbers_below c (n + 1) ts (omega arith))

pub each_tree_within : EachTreeWithinTokens
unfolding places
each_tree_within tokens x parses =
    let sits : Sits x.count (places_each places_item x.items) (numbered_from 0 tokens) = sits_items parses.items in
    let l = numbers_length 0 tokens in
    let n : length (places_each places_item x.items) ≤ length (numbered_from 0 tokens) = sits.count in
    let count = parses.count in
    let v = all_nodes variables_of variables_nodes_of x.items in
    let s = all_nodes structs_of structs_nodes_of x.items in
    let b = all_nodes bodies_of bodies_nodes_of x.items in
    record {
      nodes = omega arith;
      variables = omega arith;
      structs = omega arith;
      bodies = omega arith;
      tokens = sits.below (numbers_below x.count 0 tokens (omega arith));
    }
