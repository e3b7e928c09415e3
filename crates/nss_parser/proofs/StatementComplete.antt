-- What a statement's tree spells is read as that tree, whatever follows that can't go on with it.
use Rattle.std.proofs.Common.{◌≡◌, ℕ, zero, suc, ◌<◌, ◌≤◌, Bool, true, false, List, [], ◌∷◌, ◌++◌, length, Option, None, Some, refl, sym, ap, ◌∙◌, arith, append_assoc, length-append}
use Rattle.nss_tree.specs.Source.{SourceDeclared, SourceStmt, SourceStmts}
use Rattle.nss_tree.specs.declared.constants.TypeName.{TypeName}
use Rattle.nss_tree.specs.declared.constants.Constant.{Constant}
use Rattle.nss_tree.specs.Expressions.{PlainExpr}
use Rattle.nss_tree.specs.Statements as stmt
use Rattle.nss_tree.specs.Statements.{joined_stmts}
use Rattle.nss_symbols.specs.declared.terminal.Terminal.{Terminal}
use Rattle.nss_symbols.specs.declared.terminal.Terminal.TheVariants as terminal
use Rattle.nss_symbols.specs.Symbols as symbol
use Rattle.nss_symbols.specs.Symbols.{Symbol, Numbered, at, fixed}
use Rattle.nss_parser.specs.Operators.{type_word}
use Rattle.nss_symbols.specs.Outcome.{Outcome, Got, Parser, same_terminal, sees, first, take, here}
use Rattle.nss_parser.specs.ReadExpression.{level}
use Rattle.nss_parser.specs.ReadDeclaration.{typed, constant_value, declared_names}
use Rattle.nss_parser.specs.ReadStatement.{type_begins, condition, optional, declaration, case_label, default_label, expression_statement, break_statement, continue_statement, return_statement}
use Rattle.nss_parser.specs.ReadStatement.{labelled, entry, entries_from, entries, block, after_then, if_statement, while_statement, do_statement, for_statement, switch_statement, statement_by}
use Rattle.nss_parser.specs.ReadStatement.{some_statement, statement}
use Rattle.nss_parser.specs.Grammar.{Expression, Optional, TypeTokens, DeclaredNames, ends_open, Statement, Entry, Entries}
use Rattle.nss_parser.specs.Grammar as grammar
use Rattle.nss_parser.proofs.ExpressionFacts.{IsEnd, ends_at, close_ends, semicolon_ends, Starts, begins_expression, starts_append, starts_length, starts_expression, no_terminal}
use Rattle.nss_parser.proofs.ExpressionComplete.{complete_expression}
use Rattle.nss_parser.proofs.DeclarationComplete.{no_fixed, complete_typed, complete_constant, complete_names}

-- what a statement may begin with
abbrev pub begins_statement : Symbol → Bool
begins_statement (symbol.Fixed terminal.OpenBrace) = true
begins_statement (symbol.Fixed terminal.Semicolon) = true
begins_statement (symbol.Fixed terminal.If) = true
begins_statement (symbol.Fixed terminal.While) = true
begins_statement (symbol.Fixed terminal.Do) = true
begins_statement (symbol.Fixed terminal.For) = true
begins_statement (symbol.Fixed terminal.Switch) = true
begins_statement (symbol.Fixed terminal.Break) = true
begins_statement (symbol.Fixed terminal.Continue) = true
begins_statement (symbol.Fixed terminal.Return) = true
begins_statement s = begins_expression s

-- what stands in a block or in the body of a switch may begin with
abbrev pub begins_entry : Symbol → Bool
begins_entry (symbol.Fixed terminal.Struct) = true
begins_entry (symbol.Fixed terminal.Case) = true
begins_entry (symbol.Fixed terminal.Default) = true
begins_entry (symbol.Fixed terminal.Void) = true
begins_entry (symbol.Fixed terminal.Int) = true
begins_entry (symbol.Fixed terminal.Float) = true
begins_entry (symbol.Fixed terminal.String) = true
begins_entry (symbol.Fixed terminal.Object) = true
begins_entry (symbol.Fixed terminal.Vector) = true
begins_entry (symbol.Fixed terminal.Location) = true
begins_entry (symbol.Fixed terminal.Effect) = true
begins_entry (symbol.Fixed terminal.Event) = true
begins_entry (symbol.Fixed terminal.Talent) = true
begins_entry (symbol.Fixed terminal.ItemProperty) = true
begins_entry (symbol.Fixed terminal.Action) = true
begins_entry s = begins_statement s

expression_begins : (s : Symbol) → begins_expression s ≡ true → begins_statement s ≡ true
expression_begins (symbol.Name f) e = refl
expression_begins (symbol.Int v) e = refl
expression_begins symbol.Float e = refl
expression_begins (symbol.Text v) e = refl
expression_begins (symbol.Fixed terminal.ObjectSelf) e = refl
expression_begins (symbol.Fixed terminal.ObjectInvalid) e = refl
expression_begins (symbol.Fixed terminal.Open) e = refl
expression_begins (symbol.Fixed terminal.Minus) e = refl
expression_begins (symbol.Fixed terminal.Tilde) e = refl
expression_begins (symbol.Fixed terminal.Not) e = refl
expression_begins (symbol.Fixed terminal.PlusPlus) e = refl
expression_begins (symbol.Fixed terminal.MinusMinus) e = refl
expression_begins _ e = cc

statement_begins : (s : Symbol) → begins_statement s ≡ true → begins_entry s ≡ true
statement_begins (symbol.Name f) e = refl
statement_begins (symbol.Int v) e = refl
statement_begins symbol.Float e = refl
statement_begins (symbol.Text v) e = refl
statement_begins (symbol.Fixed terminal.ObjectSelf) e = refl
statement_begins (symbol.Fixed terminal.ObjectInvalid) e = refl
statement_begins (symbol.Fixed terminal.Open) e = refl
statement_begins (symbol.Fixed terminal.Minus) e = refl
statement_begins (symbol.Fixed terminal.Tilde) e = refl
statement_begins (symbol.Fixed terminal.Not) e = refl
statement_begins (symbol.Fixed terminal.PlusPlus) e = refl
statement_begins (symbol.Fixed terminal.MinusMinus) e = refl
statement_begins (symbol.Fixed terminal.OpenBrace) e = refl
statement_begins (symbol.Fixed terminal.Semicolon) e = refl
statement_begins (symbol.Fixed terminal.If) e = refl
statement_begins (symbol.Fixed terminal.While) e = refl
statement_begins (symbol.Fixed terminal.Do) e = refl
statement_begins (symbol.Fixed terminal.For) e = refl
statement_begins (symbol.Fixed terminal.Switch) e = refl
statement_begins (symbol.Fixed terminal.Break) e = refl
statement_begins (symbol.Fixed terminal.Continue) e = refl
statement_begins (symbol.Fixed terminal.Return) e = refl
statement_begins _ e = cc

no_type : (s : Symbol) → begins_statement s ≡ true → type_begins (Some s) ≡ false
no_type (symbol.Name f) e = refl
no_type (symbol.Int v) e = refl
no_type symbol.Float e = refl
no_type (symbol.Text v) e = refl
no_type (symbol.Fixed terminal.ObjectSelf) e = refl
no_type (symbol.Fixed terminal.ObjectInvalid) e = refl
no_type (symbol.Fixed terminal.Open) e = refl
no_type (symbol.Fixed terminal.Minus) e = refl
no_type (symbol.Fixed terminal.Tilde) e = refl
no_type (symbol.Fixed terminal.Not) e = refl
no_type (symbol.Fixed terminal.PlusPlus) e = refl
no_type (symbol.Fixed terminal.MinusMinus) e = refl
no_type (symbol.Fixed terminal.OpenBrace) e = refl
no_type (symbol.Fixed terminal.Semicolon) e = refl
no_type (symbol.Fixed terminal.If) e = refl
no_type (symbol.Fixed terminal.While) e = refl
no_type (symbol.Fixed terminal.Do) e = refl
no_type (symbol.Fixed terminal.For) e = refl
no_type (symbol.Fixed terminal.Switch) e = refl
no_type (symbol.Fixed terminal.Break) e = refl
no_type (symbol.Fixed terminal.Continue) e = refl
no_type (symbol.Fixed terminal.Return) e = refl
no_type _ e = cc

word_begins : (m : Terminal) (t : TypeName) → type_word m ≡ Some t → type_begins (Some (symbol.Fixed m)) ≡ true
word_begins terminal.Void t e = refl
word_begins terminal.Int t e = refl
word_begins terminal.Float t e = refl
word_begins terminal.String t e = refl
word_begins terminal.Object t e = refl
word_begins terminal.Vector t e = refl
word_begins terminal.Location t e = refl
word_begins terminal.Effect t e = refl
word_begins terminal.Event t e = refl
word_begins terminal.Talent t e = refl
word_begins terminal.ItemProperty t e = refl
word_begins terminal.Action t e = refl
word_begins _ t e = cc

word_entry : (m : Terminal) (t : TypeName) → type_word m ≡ Some t → begins_entry (symbol.Fixed m) ≡ true
word_entry terminal.Void t e = refl
word_entry terminal.Int t e = refl
word_entry terminal.Float t e = refl
word_entry terminal.String t e = refl
word_entry terminal.Object t e = refl
word_entry terminal.Vector t e = refl
word_entry terminal.Location t e = refl
word_entry terminal.Effect t e = refl
word_entry terminal.Event t e = refl
word_entry terminal.Talent t e = refl
word_entry terminal.ItemProperty t e = refl
word_entry terminal.Action t e = refl
word_entry _ t e = cc

-- a statement that begins as an expression is one
by_expression : (d : ℕ) (inner : Parser SourceStmt) (s : Symbol) → begins_expression s ≡ true → statement_by d inner (Some s) ≡ expression_statement d
by_expression d inner (symbol.Name f) e = refl
by_expression d inner (symbol.Int v) e = refl
by_expression d inner symbol.Float e = refl
by_expression d inner (symbol.Text v) e = refl
by_expression d inner (symbol.Fixed terminal.ObjectSelf) e = refl
by_expression d inner (symbol.Fixed terminal.ObjectInvalid) e = refl
by_expression d inner (symbol.Fixed terminal.Open) e = refl
by_expression d inner (symbol.Fixed terminal.Minus) e = refl
by_expression d inner (symbol.Fixed terminal.Tilde) e = refl
by_expression d inner (symbol.Fixed terminal.Not) e = refl
by_expression d inner (symbol.Fixed terminal.PlusPlus) e = refl
by_expression d inner (symbol.Fixed terminal.MinusMinus) e = refl
by_expression d inner _ e = cc

starts_more : (s : Symbol) (n : ℕ) (r : List Numbered) → begins_expression s ≡ true → Starts begins_statement (at n s ∷ r)
starts_more s n r e = expression_begins s e

pub starts_statement : {s : SourceStmt} {ss : List Numbered} → Statement s ss → Starts begins_statement ss
starts_statement (grammar.block n k all) = refl
starts_statement (grammar.empty n) = refl
starts_statement (grammar.expression {xs = xs} n k s e) = starts_more s n (xs ++ fixed k terminal.Semicolon ∷ []) (starts_expression e)
starts_statement (grammar.if_only n a b x s) = refl
starts_statement (grammar.if_else n a b c x s h t) = refl
starts_statement (grammar.while_loop n a b x s) = refl
starts_statement (grammar.do_loop n a b c d s x) = refl
starts_statement (grammar.for_loop n a b c d x y z s) = refl
starts_statement (grammar.switch n a b c d x all) = refl
starts_statement (grammar.break_off n k) = refl
starts_statement (grammar.continue_on n k) = refl
starts_statement (grammar.return_from n k x) = refl

entry_of : (xs : List Numbered) → Starts begins_statement xs → Starts begins_entry xs
entry_of [] h = absurd h
entry_of (s ∷ r) h = statement_begins s.symbol h

type_entry : {n : ℕ} {t : TypeName} {ts : List Numbered} → TypeTokens n t ts → Starts begins_entry ts
type_entry (grammar.word n m t is) = word_entry m t is
type_entry (grammar.structure n k f) = refl

pub starts_entry : {labels : Bool} {s : SourceStmt} {ss : List Numbered} → Entry labels s ss → Starts begins_entry ss
starts_entry (grammar.statement {ss = ss} s) = entry_of ss (starts_statement s)
starts_entry (grammar.declaration {ts = ts} {xs = xs} n k t all) = starts_append begins_entry ts (xs ++ fixed k terminal.Semicolon ∷ []) (type_entry t)
starts_entry (grammar.case_label n k c) = refl
starts_entry (grammar.default_label n k) = refl

-- no type begins a list that a statement begins
no_type_first : (xs : List Numbered) → Starts begins_statement xs → type_begins (first xs) ≡ false
unfolding first
no_type_first [] h = absurd h
no_type_first (s ∷ r) h = no_type s.symbol h

type_first : {n : ℕ} {t : TypeName} {ts : List Numbered} → TypeTokens n t ts → (rest : List Numbered) → type_begins (first (ts ++ rest)) ≡ true
unfolding first
type_first (grammar.word n m t is) rest = word_begins m t is
type_first (grammar.structure n k f) rest = refl

-- What may follow a statement: no `else`, if it ends in an `if` without one.
abbrev pub Closed : SourceStmt → List Numbered → Type 0
Closed s rest = ends_open s ≡ true → sees terminal.Else rest ≡ false

no_else_at : (m : Terminal) (n : ℕ) (r : List Numbered) → same_terminal terminal.Else m ≡ false → sees terminal.Else (fixed n m ∷ r) ≡ false
unfolding first
no_else_at m n r e = e

not_else_while : same_terminal terminal.Else terminal.While ≡ false
unfolding same_terminal
not_else_while = refl

not_else_close : same_terminal terminal.Else terminal.CloseBrace ≡ false
unfolding same_terminal
not_else_close = refl

no_else_entries : {labels : Bool} {all : SourceStmts} {xs : List Numbered} → Entries labels all xs → (k : ℕ) (r : List Numbered) → sees terminal.Else (xs ++ fixed k terminal.CloseBrace ∷ r) ≡ false
no_else_entries grammar.none k r = no_else_at terminal.CloseBrace k r not_else_close
no_else_entries (grammar.more {xs = xs} {ys = ys} e es) k r =
    no_fixed begins_entry terminal.Else refl ((xs ++ ys) ++ fixed k terminal.CloseBrace ∷ r)
    (starts_append begins_entry (xs ++ ys) (fixed k terminal.CloseBrace ∷ r) (starts_append begins_entry xs ys (starts_entry e)))

-- The steps of each production.
condition_step : (d a b : ℕ) (x : PlainExpr) (i rest : List Numbered) → level d 0 i ≡ Got x (fixed b terminal.Close ∷ rest) → condition d (fixed a terminal.Open ∷ i) ≡ Got x rest
unfolding condition first take same_terminal
condition_step d a b x i rest e = rw e refl

absent_step : (d : ℕ) (m : Terminal) (i : List Numbered) → sees m i ≡ true → optional d m i ≡ Got None i
unfolding optional
absent_step d m i e = rw e refl

present_step : (d : ℕ) (m : Terminal) (x : PlainExpr) (i rest : List Numbered) → sees m i ≡ false → level d 0 i ≡ Got x rest → optional d m i ≡ Got (Some x) rest
unfolding optional
present_step d m x i rest e h = rw (e, h) refl

declaration_step : (d n k : ℕ) (t : TypeName) (all : List SourceDeclared) (i j rest : List Numbered) → typed i ≡ Got (n, t) j → declared_names d j ≡ Got all (fixed k terminal.Semicolon ∷ rest)
    → declaration d i ≡ Got (stmt.declaration n t all) rest
unfolding declaration first take same_terminal
declaration_step d n k t all i j rest e h = rw (e, h) refl

case_step : (n k : ℕ) (c : Constant) (i rest : List Numbered) → constant_value i ≡ Got c (fixed k terminal.Colon ∷ rest) → case_label (fixed n terminal.Case ∷ i) ≡ Got (stmt.case_label n c) rest
unfolding case_label first take same_terminal
case_step n k c i rest e = rw e refl

default_step : (n k : ℕ) (rest : List Numbered) → default_label (fixed n terminal.Default ∷ fixed k terminal.Colon ∷ rest) ≡ Got (stmt.default_label n) rest
unfolding default_label first take same_terminal
default_step n k rest = refl

expression_step : (d n k : ℕ) (s : Symbol) (x : PlainExpr) (i rest : List Numbered) → level d 0 (at n s ∷ i) ≡ Got x (fixed k terminal.Semicolon ∷ rest)
    → expression_statement d (at n s ∷ i) ≡ Got (stmt.expression n x) rest
unfolding expression_statement here first take same_terminal
expression_step d n k s x i rest e = rw e refl

module _ (d : ℕ) (inner : Parser SourceStmt) where
  entry_declaration_step : (labels : Bool) (i rest : List Numbered) (s : SourceStmt) → type_begins (first i) ≡ true → declaration d i ≡ Got s rest → entry d inner labels i ≡ Got s rest
  unfolding entry
  entry_declaration_step labels i rest s e h = rw (e, h) refl

  entry_statement_step : (labels : Bool) (i rest : List Numbered) (s : SourceStmt) → type_begins (first i) ≡ false
      → sees terminal.Case i ≡ false → sees terminal.Default i ≡ false → inner i ≡ Got s rest
      → entry d inner labels i ≡ Got s rest
  unfolding entry labelled
  entry_statement_step false i rest s e c f h = rw (e, h) refl
  entry_statement_step true i rest s e c f h = rw (e, c, f, h) refl

  entry_case_step : (n : ℕ) (i rest : List Numbered) (s : SourceStmt) → case_label (fixed n terminal.Case ∷ i) ≡ Got s rest → entry d inner true (fixed n terminal.Case ∷ i) ≡ Got s rest
  unfolding entry labelled first same_terminal
  entry_case_step n i rest s h = h

  entry_default_step : (n : ℕ) (i rest : List Numbered) (s : SourceStmt) → default_label (fixed n terminal.Default ∷ i) ≡ Got s rest → entry d inner true (fixed n terminal.Default ∷ i) ≡ Got s rest
  unfolding entry labelled first same_terminal
  entry_default_step n i rest s h = h

  last_entry : (labels : Bool) (t k : ℕ) (before : SourceStmts) (rest : List Numbered) → entries_from d inner labels (suc t) before (fixed k terminal.CloseBrace ∷ rest) ≡ Got before rest
  unfolding first take same_terminal
  last_entry labels t k before rest = refl

  pub next_entry : (labels : Bool) (t : ℕ) (before : SourceStmts) (s : SourceStmt) (i j : List Numbered) → sees terminal.CloseBrace i ≡ false → entry d inner labels i ≡ Got s j
      → entries_from d inner labels (suc t) before i ≡ entries_from d inner labels t (joined_stmts before (stmt.more_stmts s stmt.no_stmt)) j
  next_entry labels t before s i j e h = rw (e, h) refl

  block_step : (n : ℕ) (all : SourceStmts) (i rest : List Numbered) → entries d inner false i ≡ Got all rest → some_statement d inner (fixed n terminal.OpenBrace ∷ i) ≡ Got (stmt.block n all) rest
  unfolding some_statement block first take
  block_step n all i rest e = rw e refl

  empty_step : (n : ℕ) (rest : List Numbered) → some_statement d inner (fixed n terminal.Semicolon ∷ rest) ≡ Got (stmt.empty n) rest
  unfolding some_statement first take
  empty_step n rest = refl

  expression_statement_step : (n : ℕ) (s : Symbol) (i rest : List Numbered) (v : SourceStmt)
      → begins_expression s ≡ true → expression_statement d (at n s ∷ i) ≡ Got v rest
      → some_statement d inner (at n s ∷ i) ≡ Got v rest
  unfolding some_statement first
  expression_statement_step n s i rest v e h = ap (λ (p : Parser SourceStmt). p (at n s ∷ i)) (by_expression d inner s e) ∙ h

  if_step : (n : ℕ) (x : PlainExpr) (s v : SourceStmt) (i j k rest : List Numbered) → condition d i ≡ Got x j → inner j ≡ Got s k → after_then d inner n x s k ≡ Got v rest
      → some_statement d inner (fixed n terminal.If ∷ i) ≡ Got v rest
  unfolding some_statement if_statement first take
  if_step n x s v i j k rest e f g = rw (e, f, g) refl

  no_else_step : (n : ℕ) (x : PlainExpr) (s : SourceStmt) (rest : List Numbered) → sees terminal.Else rest ≡ false → after_then d inner n x s rest ≡ Got (stmt.if_only n x s) rest
  unfolding after_then
  no_else_step n x s rest e = rw e refl

  else_step : (n c : ℕ) (x : PlainExpr) (s t : SourceStmt) (i rest : List Numbered) → inner i ≡ Got t rest → after_then d inner n x s (fixed c terminal.Else ∷ i) ≡ Got (stmt.if_else n x s t) rest
  unfolding after_then first take same_terminal
  else_step n c x s t i rest e = rw e refl

  while_step : (n : ℕ) (x : PlainExpr) (s : SourceStmt) (i j rest : List Numbered) → condition d i ≡ Got x j
      → inner j ≡ Got s rest → some_statement d inner (fixed n terminal.While ∷ i) ≡ Got (stmt.while_loop n x s) rest
  unfolding some_statement while_statement first take
  while_step n x s i j rest e f = rw (e, f) refl

  do_step : (n a k : ℕ) (x : PlainExpr) (s : SourceStmt) (i j rest : List Numbered) → inner i ≡ Got s (fixed a terminal.While ∷ j) → condition d j ≡ Got x (fixed k terminal.Semicolon ∷ rest)
      → some_statement d inner (fixed n terminal.Do ∷ i) ≡ Got (stmt.do_loop n s x) rest
  unfolding some_statement do_statement first take same_terminal
  do_step n a k x s i j rest e f = rw (e, f) refl

  for_step : (n a b c f : ℕ) (x y z : Option PlainExpr) (s : SourceStmt) (i j k l rest : List Numbered) → optional d terminal.Semicolon i ≡ Got x (fixed b terminal.Semicolon ∷ j)
      → optional d terminal.Semicolon j ≡ Got y (fixed c terminal.Semicolon ∷ k) → optional d terminal.Close k ≡ Got z (fixed f terminal.Close ∷ l) → inner l ≡ Got s rest
      → some_statement d inner (fixed n terminal.For ∷ fixed a terminal.Open ∷ i) ≡ Got (stmt.for_loop n x y z s) rest
  unfolding some_statement for_statement first take same_terminal
  for_step n a b c f x y z s i j k l rest e g h m = rw (e, g, h, m) refl

  switch_step : (n c : ℕ) (x : PlainExpr) (all : SourceStmts) (i j rest : List Numbered) → condition d i ≡ Got x (fixed c terminal.OpenBrace ∷ j) → entries d inner true j ≡ Got all rest
      → some_statement d inner (fixed n terminal.Switch ∷ i) ≡ Got (stmt.switch n x all) rest
  unfolding some_statement switch_statement first take same_terminal
  switch_step n c x all i j rest e f = rw (e, f) refl

  break_step : (n k : ℕ) (rest : List Numbered) → some_statement d inner (fixed n terminal.Break ∷ fixed k terminal.Semicolon ∷ rest) ≡ Got (stmt.break_off n) rest
  unfolding some_statement break_statement first take same_terminal
  break_step n k rest = refl

  continue_step : (n k : ℕ) (rest : List Numbered) → some_statement d inner (fixed n terminal.Continue ∷ fixed k terminal.Semicolon ∷ rest) ≡ Got (stmt.continue_on n) rest
  unfolding some_statement continue_statement first take same_terminal
  continue_step n k rest = refl

  return_step : (n k : ℕ) (x : Option PlainExpr) (i rest : List Numbered)
      → optional d terminal.Semicolon i ≡ Got x (fixed k terminal.Semicolon ∷ rest)
      → some_statement d inner (fixed n terminal.Return ∷ i) ≡ Got (stmt.return_from n x) rest
  unfolding some_statement return_statement first take same_terminal
  return_step n k x i rest e = rw e refl

-- a depth is opened
deeply : (d : ℕ) (i : List Numbered) (o : Outcome SourceStmt) → suc (length i) < d → ((e : ℕ) → suc (length i) ≤ e → some_statement e (statement e) i ≡ o) → statement d i ≡ o
unfolding statement
deeply zero i o lt h = absurd (omega arith)
deeply (suc e) i o lt h = h e (omega arith)

entry_turn : (e : ℕ) (labels : Bool) (t : ℕ) (before : SourceStmts) (i : List Numbered) (o : Outcome SourceStmts)
    → 0 < t → ((t' : ℕ) → t ≤ suc t' → entries_from e (statement e) labels (suc t') before i ≡ o)
    → entries_from e (statement e) labels t before i ≡ o
entry_turn e labels zero before i o some h = absurd (omega arith)
entry_turn e labels (suc t) before i o some h = h t (omega arith)

pub joined_none : (a : SourceStmts) → joined_stmts a stmt.no_stmt ≡ a
joined_none stmt.no_stmt = refl
joined_none (stmt.more_stmts s a) = ap (stmt.more_stmts s) (joined_none a)

pub joined_next : (a b : SourceStmts) (s : SourceStmt) → joined_stmts (joined_stmts a (stmt.more_stmts s stmt.no_stmt)) b ≡ joined_stmts a (stmt.more_stmts s b)
joined_next stmt.no_stmt b s = refl
joined_next (stmt.more_stmts r a) b s = ap (stmt.more_stmts r) (joined_next a b s)

in_braces : (e : ℕ) (labels : Bool) (all : SourceStmts) (xs : List Numbered) (k : ℕ) (rest : List Numbered)
    → entries_from e (statement e) labels e stmt.no_stmt (xs ++ fixed k terminal.CloseBrace ∷ rest) ≡ Got all rest
    → entries e (statement e) labels ((xs ++ fixed k terminal.CloseBrace ∷ []) ++ rest) ≡ Got all rest
unfolding entries
in_braces e labels all xs k rest h = ap (entries_from e (statement e) labels e stmt.no_stmt) (append_assoc xs (fixed k terminal.CloseBrace ∷ []) rest) ∙ h

complete_condition : {x : PlainExpr} {xs : List Numbered} → Expression x xs → (e a b : ℕ) (tail rest : List Numbered) → length ((xs ++ fixed b terminal.Close ∷ tail) ++ rest) < e
    → condition e (fixed a terminal.Open ∷ ((xs ++ fixed b terminal.Close ∷ tail) ++ rest)) ≡ Got x (tail ++ rest)
complete_condition {x} {xs} h e a b tail rest lt =
    let regroup = append_assoc xs (fixed b terminal.Close ∷ tail) rest in
    let again = ap length regroup in
    condition_step e a b x ((xs ++ fixed b terminal.Close ∷ tail) ++ rest) (tail ++ rest)
    (ap (level e 0) regroup ∙ complete_expression h e (fixed b terminal.Close ∷ (tail ++ rest)) (ends_at 0 b terminal.Close (tail ++ rest) close_ends) (omega (arith, again)))

-- a token that may end an optional expression
record EndsOptional (m : Terminal) : Type 0 where
  ends : IsEnd m
  never : begins_expression (symbol.Fixed m) ≡ false
  same : same_terminal m m ≡ true

semicolon_optional : EndsOptional terminal.Semicolon
unfolding same_terminal
semicolon_optional = record { ends = semicolon_ends; never = refl; same = refl }

close_optional : EndsOptional terminal.Close
unfolding same_terminal
close_optional = record { ends = close_ends; never = refl; same = refl }

sees_first : (m : Terminal) (n : ℕ) (r : List Numbered) → same_terminal m m ≡ true → sees m (fixed n m ∷ r) ≡ true
unfolding first
sees_first m n r e = e

complete_optional : {x : Option PlainExpr} {xs : List Numbered} → Optional x xs → (m : Terminal) → EndsOptional m
    → (e b : ℕ) (tail rest : List Numbered) → length ((xs ++ fixed b m ∷ tail) ++ rest) < e
    → optional e m ((xs ++ fixed b m ∷ tail) ++ rest) ≡ Got x (fixed b m ∷ (tail ++ rest))
complete_optional grammar.absent m end e b tail rest lt = absent_step e m (fixed b m ∷ (tail ++ rest)) (sees_first m b (tail ++ rest) end.same)
complete_optional (grammar.present {x = x} {xs = xs} h) m end e b tail rest lt =
    let regroup = append_assoc xs (fixed b m ∷ tail) rest in
    let again = ap length regroup in
    ap (optional e m) regroup
    ∙ present_step e m x (xs ++ fixed b m ∷ (tail ++ rest)) (fixed b m ∷ (tail ++ rest))
    (no_terminal m end.never (xs ++ fixed b m ∷ (tail ++ rest)) (starts_append begins_expression xs (fixed b m ∷ (tail ++ rest)) (starts_expression h)))
    (complete_expression h e (fixed b m ∷ (tail ++ rest)) (ends_at 0 b m (tail ++ rest) end.ends) (omega (arith, again)))

names_whole : {all : List SourceDeclared} {xs : List Numbered} → DeclaredNames all xs → (e k : ℕ) (rest : List Numbered) → length (xs ++ fixed k terminal.Semicolon ∷ rest) < e
    → declared_names e (xs ++ fixed k terminal.Semicolon ∷ rest) ≡ Got all (fixed k terminal.Semicolon ∷ rest)
unfolding declared_names
names_whole h e k rest lt = complete_names h e e [] k rest lt (omega arith)

mutual
  pub complete_statement : {s : SourceStmt} {xs : List Numbered} → Statement s xs → (d : ℕ) (rest : List Numbered)
      → Closed s rest → suc (length (xs ++ rest)) < d → statement d (xs ++ rest) ≡ Got s rest
  complete_statement (grammar.block {all = all} {xs = xs} n k es) d rest closed lt =
      deeply d (fixed n terminal.OpenBrace ∷ ((xs ++ fixed k terminal.CloseBrace ∷ []) ++ rest)) (Got (stmt.block n all) rest) lt (λ e le.
      let again = ap length (append_assoc xs (fixed k terminal.CloseBrace ∷ []) rest) in
      block_step e (statement e) n all ((xs ++ fixed k terminal.CloseBrace ∷ []) ++ rest) rest
      (in_braces e false all xs k rest (complete_entries es e e stmt.no_stmt k rest (omega (arith, again)) (omega (arith, again)))))
  complete_statement (grammar.empty n) d rest closed lt =
      deeply d (fixed n terminal.Semicolon ∷ rest) (Got (stmt.empty n) rest) lt (λ e le. empty_step e (statement e) n rest)
  complete_statement (grammar.expression {x = x} {xs = xs} n k s h) d rest closed lt =
      deeply d (at n s ∷ ((xs ++ fixed k terminal.Semicolon ∷ []) ++ rest)) (Got (stmt.expression n x) rest) lt (λ e le.
      let regroup = append_assoc xs (fixed k terminal.Semicolon ∷ []) rest in
      let again = ap length regroup in
      expression_statement_step e (statement e) n s ((xs ++ fixed k terminal.Semicolon ∷ []) ++ rest) rest (stmt.expression n x) (starts_expression h)
      (expression_step e n k s x ((xs ++ fixed k terminal.Semicolon ∷ []) ++ rest) rest
      (ap (λ (z : List Numbered). level e 0 (at n s ∷ z)) regroup
      ∙ complete_expression h e (fixed k terminal.Semicolon ∷ rest)
      (ends_at 0 k terminal.Semicolon rest semicolon_ends) (omega (arith, again)))))
  complete_statement (grammar.if_only {x = x} {s = s} {xs = xs} {ss = ss} n a b h t) d rest closed lt =
      deeply d (fixed n terminal.If ∷ fixed a terminal.Open ∷ ((xs ++ fixed b terminal.Close ∷ ss) ++ rest)) (Got (stmt.if_only n x s) rest) lt (λ e le.
      let again = ap length (append_assoc xs (fixed b terminal.Close ∷ ss) rest) in
      let long = length-append xs (fixed b terminal.Close ∷ (ss ++ rest)) in
      if_step e (statement e) n x s (stmt.if_only n x s) (fixed a terminal.Open ∷ ((xs ++ fixed b terminal.Close ∷ ss) ++ rest)) (ss ++ rest) rest rest
      (complete_condition h e a b ss rest (omega arith))
      (complete_statement t e rest (λ z. closed refl) (omega (arith, again, long)))
      (no_else_step e (statement e) n x s rest (closed refl)))
  complete_statement (grammar.if_else {x = x} {s = s} {t = t} {xs = xs} {ss = ss} {ts = ts} n a b c h p shut q) d rest closed lt =
      deeply d (fixed n terminal.If ∷ fixed a terminal.Open ∷ ((xs ++ fixed b terminal.Close ∷ (ss ++ fixed c terminal.Else ∷ ts)) ++ rest)) (Got (stmt.if_else n x s t) rest) lt (λ e le.
      let again = ap length (append_assoc xs (fixed b terminal.Close ∷ (ss ++ fixed c terminal.Else ∷ ts)) rest) in
      let long = length-append xs (fixed b terminal.Close ∷ ((ss ++ fixed c terminal.Else ∷ ts) ++ rest)) in
      let regroup = append_assoc ss (fixed c terminal.Else ∷ ts) rest in
      let inside = ap length regroup in
      let part = length-append ss (fixed c terminal.Else ∷ (ts ++ rest)) in
      if_step e (statement e) n x s (stmt.if_else n x s t)
      (fixed a terminal.Open ∷ ((xs ++ fixed b terminal.Close ∷ (ss ++ fixed c terminal.Else ∷ ts)) ++ rest))
      ((ss ++ fixed c terminal.Else ∷ ts) ++ rest) (fixed c terminal.Else ∷ (ts ++ rest)) rest
      (complete_condition h e a b (ss ++ fixed c terminal.Else ∷ ts) rest (omega arith))
      (ap (statement e) regroup ∙ complete_statement p e (fixed c terminal.Else ∷ (ts ++ rest)) (λ z. let bad : true ≡ false = sym z ∙ shut in cc) (omega (arith, again, long, inside)))
      (else_step e (statement e) n c x s t (ts ++ rest) rest (complete_statement q e rest closed (omega (arith, again, long, inside, part)))))
  complete_statement (grammar.while_loop {x = x} {s = s} {xs = xs} {ss = ss} n a b h t) d rest closed lt =
      deeply d (fixed n terminal.While ∷ fixed a terminal.Open ∷ ((xs ++ fixed b terminal.Close ∷ ss) ++ rest)) (Got (stmt.while_loop n x s) rest) lt (λ e le.
      let again = ap length (append_assoc xs (fixed b terminal.Close ∷ ss) rest) in
      let long = length-append xs (fixed b terminal.Close ∷ (ss ++ rest)) in
      while_step e (statement e) n x s (fixed a terminal.Open ∷ ((xs ++ fixed b terminal.Close ∷ ss) ++ rest)) (ss ++ rest) rest
      (complete_condition h e a b ss rest (omega arith))
      (complete_statement t e rest closed (omega (arith, again, long))))
  complete_statement (grammar.do_loop {x = x} {s = s} {xs = xs} {ss = ss} n a b c f t h) d rest closed lt =
      deeply d (fixed n terminal.Do ∷
      ((ss ++ fixed a terminal.While ∷ fixed b terminal.Open ∷
      (xs ++ fixed c terminal.Close ∷ fixed f terminal.Semicolon ∷ [])) ++ rest)) (Got (stmt.do_loop n s x) rest) lt
      (λ e le.
      let regroup = append_assoc ss (fixed a terminal.While ∷ fixed b terminal.Open ∷ (xs ++ fixed c terminal.Close ∷ fixed f terminal.Semicolon ∷ [])) rest in
      let again = ap length regroup in
      let long = length-append ss (fixed a terminal.While ∷ fixed b terminal.Open ∷ ((xs ++ fixed c terminal.Close ∷ fixed f terminal.Semicolon ∷ []) ++ rest)) in
      do_step e (statement e) n a f x s
      ((ss ++ fixed a terminal.While ∷ fixed b terminal.Open ∷
      (xs ++ fixed c terminal.Close ∷ fixed f terminal.Semicolon ∷ [])) ++ rest)
      (fixed b terminal.Open ∷ ((xs ++ fixed c terminal.Close ∷ fixed f terminal.Semicolon ∷ []) ++ rest)) rest
      (ap (statement e) regroup ∙ complete_statement t e (fixed a terminal.While ∷ fixed b terminal.Open ∷ ((xs ++ fixed c terminal.Close ∷ fixed f terminal.Semicolon ∷ []) ++ rest))
      (λ z. no_else_at terminal.While a (fixed b terminal.Open ∷ ((xs ++ fixed c terminal.Close ∷ fixed f terminal.Semicolon ∷ []) ++ rest)) not_else_while) (omega (arith, again)))
      (complete_condition h e b c (fixed f terminal.Semicolon ∷ []) rest (omega (arith, again, long))))
  complete_statement (grammar.for_loop {x = x} {y = y} {z = z} {s = s} {xs = xs} {ys = ys} {zs = zs} {ss = ss} n a b c f hx hy hz t) d rest closed lt =
      deeply d (fixed n terminal.For ∷ fixed a terminal.Open ∷
      ((xs ++ fixed b terminal.Semicolon ∷ (ys ++ fixed c terminal.Semicolon ∷ (zs ++ fixed f terminal.Close ∷ ss)))
      ++ rest)) (Got (stmt.for_loop n x y z s) rest) lt (λ e le.
      let third = (zs ++ fixed f terminal.Close ∷ ss) in
      let second = (ys ++ fixed c terminal.Semicolon ∷ (zs ++ fixed f terminal.Close ∷ ss)) in
      let again = ap length (append_assoc xs (fixed b terminal.Semicolon ∷ (ys ++ fixed c terminal.Semicolon ∷ (zs ++ fixed f terminal.Close ∷ ss))) rest) in
      let long = length-append xs (fixed b terminal.Semicolon ∷ ((ys ++ fixed c terminal.Semicolon ∷ (zs ++ fixed f terminal.Close ∷ ss)) ++ rest)) in
      let again2 = ap length (append_assoc ys (fixed c terminal.Semicolon ∷ (zs ++ fixed f terminal.Close ∷ ss)) rest) in
      let long2 = length-append ys (fixed c terminal.Semicolon ∷ ((zs ++ fixed f terminal.Close ∷ ss) ++ rest)) in
      let again3 = ap length (append_assoc zs (fixed f terminal.Close ∷ ss) rest) in
      let long3 = length-append zs (fixed f terminal.Close ∷ (ss ++ rest)) in
      for_step e (statement e) n a b c f x y z s ((xs ++ fixed b terminal.Semicolon ∷ second) ++ rest) (second ++ rest) (third ++ rest) (ss ++ rest) rest
      (complete_optional hx terminal.Semicolon semicolon_optional e b second rest (omega arith))
      (complete_optional hy terminal.Semicolon semicolon_optional e c third rest (omega (arith, again, long)))
      (complete_optional hz terminal.Close close_optional e f ss rest (omega (arith, again, long, again2, long2)))
      (complete_statement t e rest closed (omega (arith, again, long, again2, long2, again3, long3))))
  complete_statement (grammar.switch {x = x} {all = all} {xs = xs} {ys = ys} n a b c f h es) d rest closed lt =
      deeply d (fixed n terminal.Switch ∷ fixed a terminal.Open ∷
      ((xs ++ fixed b terminal.Close ∷ fixed c terminal.OpenBrace ∷ (ys ++ fixed f terminal.CloseBrace ∷ []))
      ++ rest)) (Got (stmt.switch n x all) rest) lt (λ e le.
      let again = ap length (append_assoc xs (fixed b terminal.Close ∷ fixed c terminal.OpenBrace ∷ (ys ++ fixed f terminal.CloseBrace ∷ [])) rest) in
      let long = length-append xs (fixed b terminal.Close ∷ fixed c terminal.OpenBrace ∷ ((ys ++ fixed f terminal.CloseBrace ∷ []) ++ rest)) in
      let inside = ap length (append_assoc ys (fixed f terminal.CloseBrace ∷ []) rest) in
      switch_step e (statement e) n c x all
      (fixed a terminal.Open ∷ ((xs
      ++ fixed b terminal.Close ∷ fixed c terminal.OpenBrace ∷ (ys ++ fixed f terminal.CloseBrace ∷ [])) ++ rest))
      ((ys ++ fixed f terminal.CloseBrace ∷ []) ++ rest) rest
      (complete_condition h e a b (fixed c terminal.OpenBrace ∷ (ys ++ fixed f terminal.CloseBrace ∷ [])) rest (omega arith))
      (in_braces e true all ys f rest (complete_entries es e e stmt.no_stmt f rest (omega (arith, again, long, inside)) (omega (arith, again, long, inside)))))
  complete_statement (grammar.break_off n k) d rest closed lt =
      deeply d (fixed n terminal.Break ∷ fixed k terminal.Semicolon ∷ rest) (Got (stmt.break_off n) rest) lt (λ e le. break_step e (statement e) n k rest)
  complete_statement (grammar.continue_on n k) d rest closed lt =
      deeply d (fixed n terminal.Continue ∷ fixed k terminal.Semicolon ∷ rest) (Got (stmt.continue_on n) rest) lt (λ e le. continue_step e (statement e) n k rest)
  complete_statement (grammar.return_from {x = x} {xs = xs} n k h) d rest closed lt =
      deeply d (fixed n terminal.Return ∷ ((xs ++ fixed k terminal.Semicolon ∷ []) ++ rest)) (Got (stmt.return_from n x) rest) lt (λ e le.
      return_step e (statement e) n k x ((xs ++ fixed k terminal.Semicolon ∷ []) ++ rest) rest (complete_optional h terminal.Semicolon semicolon_optional e k [] rest (omega arith)))

  pub complete_entry : {labels : Bool} {s : SourceStmt} {xs : List Numbered} → Entry labels s xs
      → (e : ℕ) (rest : List Numbered) → sees terminal.Else rest ≡ false → suc (length (xs ++ rest)) < e
      → entry e (statement e) labels (xs ++ rest) ≡ Got s rest
  complete_entry (grammar.statement {labels = labels} {s = s} {ss = ss} h) e rest shut lt =
      let starts = starts_append begins_statement ss rest (starts_statement h) in
      entry_statement_step e (statement e) labels (ss ++ rest) rest s (no_type_first (ss ++ rest) starts)
      (no_fixed begins_statement terminal.Case refl (ss ++ rest) starts) (no_fixed begins_statement terminal.Default refl (ss ++ rest) starts) (complete_statement h e rest (λ z. shut) lt)
  complete_entry (grammar.declaration {labels = labels} {t = t} {all = all} {ts = ts} {xs = xs} n k h names) e rest shut lt =
      let regroup = append_assoc ts (xs ++ fixed k terminal.Semicolon ∷ []) rest ∙ ap (λ (z : List Numbered). ts ++ z) (append_assoc xs (fixed k terminal.Semicolon ∷ []) rest) in
      let again = ap length regroup in
      let long = length-append ts (xs ++ fixed k terminal.Semicolon ∷ rest) in
      ap (entry e (statement e) labels) regroup
      ∙ entry_declaration_step e (statement e) labels (ts ++ (xs ++ fixed k terminal.Semicolon ∷ rest)) rest (stmt.declaration n t all) (type_first h (xs ++ fixed k terminal.Semicolon ∷ rest))
      (declaration_step e n k t all (ts ++ (xs ++ fixed k terminal.Semicolon ∷ rest)) (xs ++ fixed k terminal.Semicolon ∷ rest) rest (complete_typed h (xs ++ fixed k terminal.Semicolon ∷ rest))
      (names_whole names e k rest (omega (arith, again, long))))
  complete_entry (grammar.case_label {c = c} {cs = cs} n k h) e rest shut lt =
      entry_case_step e (statement e) n ((cs ++ fixed k terminal.Colon ∷ []) ++ rest) rest (stmt.case_label n c)
      (case_step n k c ((cs ++ fixed k terminal.Colon ∷ []) ++ rest) rest
      (ap constant_value (append_assoc cs (fixed k terminal.Colon ∷ []) rest)
      ∙ complete_constant h (fixed k terminal.Colon ∷ rest)))
  complete_entry (grammar.default_label n k) e rest shut lt =
      entry_default_step e (statement e) n (fixed k terminal.Colon ∷ rest) rest (stmt.default_label n) (default_step n k rest)

  pub complete_entries : {labels : Bool} {all : SourceStmts} {xs : List Numbered} → Entries labels all xs → (e t : ℕ) (before : SourceStmts) (k : ℕ) (rest : List Numbered)
      → suc (length (xs ++ fixed k terminal.CloseBrace ∷ rest)) < e → length (xs ++ fixed k terminal.CloseBrace ∷ rest) ≤ t
      → entries_from e (statement e) labels t before (xs ++ fixed k terminal.CloseBrace ∷ rest) ≡ Got (joined_stmts before all) rest
  complete_entries (grammar.none {labels = labels}) e t before k rest le lt =
      entry_turn e labels t before (fixed k terminal.CloseBrace ∷ rest) (Got (joined_stmts before stmt.no_stmt) rest) (omega arith) (λ t' more.
      last_entry e (statement e) labels t' k before rest ∙ ap (λ (z : SourceStmts). Got z rest) (sym (joined_none before)))
  complete_entries (grammar.more {labels = labels} {s = s} {all = all} {xs = xs} {ys = ys} h es) e t before k rest le lt =
      let regroup = append_assoc xs ys (fixed k terminal.CloseBrace ∷ rest) in
      let again = ap length regroup in
      let long = length-append xs (ys ++ fixed k terminal.CloseBrace ∷ rest) in
      let some : 0 < length xs = starts_length begins_entry xs (starts_entry h) in
      ap (entries_from e (statement e) labels t before) regroup
      ∙ entry_turn e labels t before (xs ++ (ys ++ fixed k terminal.CloseBrace ∷ rest)) (Got (joined_stmts before (stmt.more_stmts s all)) rest) (omega (arith, again, long)) (λ t' more.
      next_entry e (statement e) labels t' before s (xs ++ (ys ++ fixed k terminal.CloseBrace ∷ rest)) (ys ++ fixed k terminal.CloseBrace ∷ rest)
      (no_fixed begins_entry terminal.CloseBrace refl (xs ++ (ys ++ fixed k terminal.CloseBrace ∷ rest)) (starts_append begins_entry xs (ys ++ fixed k terminal.CloseBrace ∷ rest) (starts_entry h)))
      (complete_entry h e (ys ++ fixed k terminal.CloseBrace ∷ rest) (no_else_entries es k rest) (omega (arith, again)))
      ∙ complete_entries es e t' (joined_stmts before (stmt.more_stmts s stmt.no_stmt)) k rest (omega (arith, again, long)) (omega (arith, again, long))
      ∙ ap (λ (z : SourceStmts). Got z rest) (joined_next before all s))
