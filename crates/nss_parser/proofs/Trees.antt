-- The tree of a list of tokens is known and no larger than the list.
use Rattle.std.proofs.Common.{◌≡◌, ℕ, suc, ◌+◌, ◌^◌, ◌<◌, Bool, List, [], ◌∷◌, length, Option, refl, ap, arith}
use Rattle.std.proofs.Math.Facts.{sfits_to_z, Fits-of_lt}
use Rattle.std.specs.List.{AllByRecursion}
use Rattle.std.specs.Prelude.{FitsSigned}
use Rattle.std.specs.Int.{cast_signed, w32}
use Rattle.nss_tree.specs.declared.constants.Constant.{Constant}
use Rattle.nss_tree.specs.Source.{SourceDeclared, SourceItem, SourceItems, SourceParameter, SourceStmt, SourceStmts}
use Rattle.nss_tree.specs.Expressions.{PlainExpr, PlainExprs}
use Rattle.nss_symbols.specs.Symbols as symbol
use Rattle.nss_symbols.specs.Symbols.{Symbol, Numbered, IsLiteral, at, numbered_from}
use Rattle.nss_parser.specs.Grammar as grammar
use Rattle.nss_parser.specs.Grammar.{Expression, Binary, Unary, Postfix, Primary, Expressions, Optional, ConstantTokens, Declared, DeclaredNames, Statement, Entry, Entries}
use Rattle.nss_parser.specs.Unit as spelled
use Rattle.nss_parser.specs.Unit.{ParameterTokens, ParameterList, Parameters, Body, Item, Items}
use Rattle.nss_parser.specs.Sizes.{EachTreeIsKnown, size, all_size, some_size, names_size, stmt_size, all_stmt_size, body_size, item_size, items_size, IsKnown, AreKnown, IsSomeKnown}
use Rattle.nss_parser.specs.Sizes.{IsKnownConstant, AreKnownNames, IsKnownStmt, AreKnownStmts, IsKnownDefault, AreKnownParams, IsKnownBody, IsKnownItem, AreKnownItems}
use Rattle.nss_parser.proofs.Covers.{AreLiterals, Covers, nothing, node, skip, join, before, after, behind, between, ended, covers_as}

fits : (v : ℕ) → v < 2 ^ 32 → FitsSigned w32 (cast_signed w32 v)
fits v lt = sfits_to_z (Fits-of_lt lt)

mutual
  expression : {x : PlainExpr} {xs : List Numbered} → Expression x xs → Covers (IsKnown x) (size x) xs
  expression (grammar.assignment n m o is u e) = between _ (unary u) (expression e)
  expression (grammar.value b) = binary b

  binary : {k : ℕ} {x : PlainExpr} {xs : List Numbered} → Binary k x xs → Covers (IsKnown x) (size x) xs
  binary (grammar.operation n m o is l r) = between _ (binary l) (binary r)
  binary (grammar.tighter b) = binary b
  binary (grammar.unary u) = unary u

  unary : {x : PlainExpr} {xs : List Numbered} → Unary x xs → Covers (IsKnown x) (size x) xs
  unary (grammar.prefix n m o is u) = node (unary u)
  unary (grammar.postfix p) = postfix p

  postfix : {x : PlainExpr} {xs : List Numbered} → Postfix x xs → Covers (IsKnown x) (size x) xs
  postfix (grammar.member n k f p) = behind _ _ (postfix p)
  postfix (grammar.step n m o is p) = behind _ _ (postfix p)
  postfix (grammar.primary p) = primary p

  primary : {x : PlainExpr} {xs : List Numbered} → Primary x xs → Covers (IsKnown x) (size x) xs
  primary (grammar.int n v) = record { size = omega arith; known = λ l. fits v l.0 }
  primary (grammar.float n) = node nothing
  primary (grammar.text n bytes) = record { size = omega arith; known = λ l. l.0 }
  primary (grammar.object_self n) = node nothing
  primary (grammar.object_invalid n) = node nothing
  primary (grammar.name n f) = node nothing
  primary (grammar.call_empty n m k f) = covers_as (node (node (node nothing))) (λ h. h) (omega arith)
  primary (grammar.call n m k f es) = covers_as (node (node (behind _ [] (expressions es)))) (λ h. h) (omega arith)
  primary (grammar.parenthesized m k e) = skip (before _ (expression e))

  expressions : {all : PlainExprs} {xs : List Numbered} → Expressions all xs → Covers (AreKnown all) (all_size all) xs
  expressions (grammar.one e) = covers_as (expression e) (λ h. (h, tt)) (omega arith)
  expressions (grammar.more n e es) = join (expression e) (skip (expressions es))

optional : {x : Option PlainExpr} {xs : List Numbered} → Optional x xs → Covers (IsSomeKnown x) (some_size x) xs
optional grammar.absent = nothing
optional (grammar.present e) = expression e

int_constant : (n v : ℕ) → Covers (FitsSigned w32 (cast_signed w32 v)) 0 (at n (symbol.Int v) ∷ [])
int_constant n v = record { size = omega arith; known = λ l. fits v l.0 }

constant : {x : Constant} {xs : List Numbered} → ConstantTokens x xs → Covers (IsKnownConstant x) 0 xs
constant (grammar.int n v) = int_constant n v
constant (grammar.minus_int k n v) = skip (int_constant n v)
constant (grammar.float n) = nothing
constant (grammar.minus_float k n) = nothing
constant (grammar.text n bytes) = record { size = omega arith; known = λ l. l.0 }
constant (grammar.name n f) = nothing
constant (grammar.object_self n) = nothing
constant (grammar.object_invalid n) = nothing

declared : {d : SourceDeclared} {xs : List Numbered} → Declared d xs → Covers (IsSomeKnown d.value) (1 + some_size d.value) xs
declared (grammar.bare n f) = node nothing
declared (grammar.valued n k f e) = node (skip (expression e))

names : {all : List SourceDeclared} {xs : List Numbered} → DeclaredNames all xs → Covers (AreKnownNames all) (names_size all) xs
names (grammar.one h) = covers_as (declared h) (λ k. (k, tt)) (omega arith)
names (grammar.more n h rest) = join (declared h) (skip (names rest))

mutual
  statement : {s : SourceStmt} {xs : List Numbered} → Statement s xs → Covers (IsKnownStmt s) (stmt_size s) xs
  statement (grammar.block n k es) = node (before _ (entries es))
  statement (grammar.empty n) = node nothing
  statement (grammar.expression n k s e) = ended _ (expression e)
  statement (grammar.if_only n a b e s) = node (skip (join (expression e) (skip (statement s))))
  statement (grammar.if_else n a b c e s closed t) = node (skip (join (expression e) (skip (join (statement s) (skip (statement t))))))
  statement (grammar.while_loop n a b e s) = node (skip (join (expression e) (skip (statement s))))
  statement (grammar.do_loop n a b c d s e) = node (join (statement s) (skip (skip (before _ (expression e)))))
  statement (grammar.for_loop n a b c d x y z s) =
      node (skip (join (optional x) (skip (join (optional y) (skip (join (optional z) (skip (statement s))))))))
  statement (grammar.switch n a b c d e es) = node (skip (join (expression e) (skip (skip (before _ (entries es))))))
  statement (grammar.break_off n k) = node nothing
  statement (grammar.continue_on n k) = node nothing
  statement (grammar.return_from n k x) = node (before _ (optional x))

  entry : {labels : Bool} {s : SourceStmt} {xs : List Numbered} → Entry labels s xs → Covers (IsKnownStmt s) (stmt_size s) xs
  entry (grammar.statement s) = statement s
  entry (grammar.declaration {ts = ts} n k typ h) = after ts (behind _ [] (names h))
  entry (grammar.case_label n k h) = node (before _ (constant h))
  entry (grammar.default_label n k) = node nothing

  entries : {labels : Bool} {all : SourceStmts} {xs : List Numbered} → Entries labels all xs → Covers (AreKnownStmts all) (all_stmt_size all) xs
  entries grammar.none = nothing
  entries (grammar.more e es) = join (entry e) (entries es)

parameter : {p : SourceParameter} {xs : List Numbered} → ParameterTokens p xs → Covers (IsKnownDefault p.default) 1 xs
parameter (spelled.bare {ts = ts} n k f typ) = after ts (node nothing)
parameter (spelled.valued {ts = ts} n k a f typ h) = after ts (node (skip (constant h)))

parameter_list : {all : List SourceParameter} {xs : List Numbered} → ParameterList all xs → Covers (AreKnownParams all) (length all) xs
parameter_list (spelled.one h) = covers_as (parameter h) (λ k. (k, tt)) (omega arith)
parameter_list (spelled.more n h rest) = covers_as (join (parameter h) (skip (parameter_list rest))) (λ k. k) (omega arith)

parameters : {all : List SourceParameter} {xs : List Numbered} → Parameters all xs → Covers (AreKnownParams all) (length all) xs
parameters spelled.absent = nothing
parameters (spelled.present h) = parameter_list h

body : {b : Option SourceStmts} {xs : List Numbered} → Body b xs → Covers (IsKnownBody b) (body_size b) xs
body (spelled.prototype k) = nothing
body (spelled.block n k es) = skip (before _ (entries es))

item : {x : SourceItem} {xs : List Numbered} → Item x xs → Covers (IsKnownItem x) (item_size x) xs
item (spelled.structure a n b c d f h) = nothing
item (spelled.constant {ts = ts} a n k b d f typ h) = skip (after ts (skip (skip (before _ (constant h)))))
item (spelled.global {ts = ts} n k typ h) = after ts (behind _ [] (names h))
item (spelled.function {ts = ts} n k a b f typ ps h) = after ts (node (skip (join (parameters ps) (skip (body h)))))

items : {all : SourceItems} {xs : List Numbered} → Items all xs → Covers (AreKnownItems all) (items_size all) xs
items spelled.none = nothing
items (spelled.more h rest) = join (item h) (items rest)

numbers_length : (n : ℕ) (tokens : List Symbol) → length (numbered_from n tokens) ≡ length tokens
numbers_length n [] = refl
numbers_length n (t ∷ ts) = ap suc (numbers_length (n + 1) ts)

numbered_literals : (n : ℕ) (tokens : List Symbol) → AllByRecursion IsLiteral tokens → AreLiterals (numbered_from n tokens)
numbered_literals n [] h = tt
numbered_literals n (t ∷ ts) h = (h.0, numbered_literals (n + 1) ts h.1)

pub each_tree_is_known : EachTreeIsKnown
each_tree_is_known tokens u literals parses =
    let covers = items parses.items in
    let few = covers.size in
    let same = numbers_length 0 tokens in
    let count = parses.count in
    record { items = covers.known (numbered_literals 0 tokens literals); size = omega (arith, few, same, count) }
