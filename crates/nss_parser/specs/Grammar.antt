-- The grammar of expressions and statements: which tree a list of tokens spells. One constructor is
-- one production, and an operator's level is a number.
use Rattle.std.specs.Prelude.{◌≡◌, ℕ, suc, Bool, true, false, List, [], ◌∷◌, ◌++◌, Option, None, Some}
use Rattle.std.specs.Int.{cast_signed, w32}
use Rattle.nss_tree.specs.Source.{SourceDeclared, SourceStmt, SourceStmts}
use Rattle.nss_tree.specs.declared.operators.PrefixOperator.{PrefixOperator}
use Rattle.nss_tree.specs.declared.operators.PostfixOperator.{PostfixOperator}
use Rattle.nss_tree.specs.declared.operators.BinaryOperator.{BinaryOperator}
use Rattle.nss_tree.specs.declared.operators.AssignOperator.{AssignOperator}
use Rattle.nss_tree.specs.declared.constants.TypeName.{TypeName}
use Rattle.nss_tree.specs.declared.constants.TypeName.TheVariants as type
use Rattle.nss_tree.specs.declared.constants.Constant.{Constant}
use Rattle.nss_tree.specs.declared.constants.Constant.TheVariants as constant
use Rattle.nss_tree.specs.Expressions as tree
use Rattle.nss_tree.specs.Expressions.{PlainExpr, PlainExprs}
use Rattle.nss_tree.specs.Statements as stmt
use Rattle.nss_symbols.specs.declared.terminal.Terminal.{Terminal}
use Rattle.nss_symbols.specs.declared.terminal.Terminal.TheVariants as terminal
use Rattle.nss_symbols.specs.Symbols as symbol
use Rattle.nss_symbols.specs.Symbols.{Symbol, Numbered, at, fixed}
use Rattle.nss_parser.specs.Operators.{binary_operator, level_of, unary_level, assign_operator, prefix_operator, postfix_operator, type_word}

-- An int literal's number is taken as a signed one of 32 bits.
mutual
  -- expr = unary assignment expr | binary
  pub data Expression : PlainExpr → List Numbered → Type 0 where
    assignment : {x y : PlainExpr} {xs ys : List Numbered} (n : ℕ) (m : Terminal)
        (o : AssignOperator) → assign_operator m ≡ Some o
        → Unary x xs → Expression y ys → Expression (tree.assign n o x y) (xs ++ fixed n m ∷ ys)
    value : {x : PlainExpr} {xs : List Numbered} → Binary 1 x xs → Expression x xs

  -- binary, from a level on: an operator groups to the left, and after the last level comes a unary
  pub data Binary : ℕ → PlainExpr → List Numbered → Type 0 where
    operation : {x y : PlainExpr} {xs ys : List Numbered} (n : ℕ) (m : Terminal)
        (o : BinaryOperator) → binary_operator m ≡ Some o
        → Binary (level_of o) x xs → Binary (suc (level_of o)) y ys
        → Binary (level_of o) (tree.binary n o x y) (xs ++ fixed n m ∷ ys)
    tighter : {k : ℕ} {x : PlainExpr} {xs : List Numbered} → Binary (suc k) x xs → Binary k x xs
    unary : {x : PlainExpr} {xs : List Numbered} → Unary x xs → Binary unary_level x xs

  -- unary = ( "-" | "~" | "!" | "++" | "--" ) unary | postfix
  pub data Unary : PlainExpr → List Numbered → Type 0 where
    prefix : {x : PlainExpr} {xs : List Numbered} (n : ℕ) (m : Terminal) (o : PrefixOperator)
        → prefix_operator m ≡ Some o
        → Unary x xs → Unary (tree.prefix n o x) (fixed n m ∷ xs)
    postfix : {x : PlainExpr} {xs : List Numbered} → Postfix x xs → Unary x xs

  -- postfix = primary { "." name | "++" | "--" }
  pub data Postfix : PlainExpr → List Numbered → Type 0 where
    member : {x : PlainExpr} {xs : List Numbered} (n k : ℕ) (f : List ℕ) → Postfix x xs
        → Postfix (tree.member n x f) (xs ++ fixed n terminal.Dot ∷ at k (symbol.Name f) ∷ [])
    step : {x : PlainExpr} {xs : List Numbered} (n : ℕ) (m : Terminal) (o : PostfixOperator)
        → postfix_operator m ≡ Some o
        → Postfix x xs → Postfix (tree.postfix n o x) (xs ++ fixed n m ∷ [])
    primary : {x : PlainExpr} {xs : List Numbered} → Primary x xs → Postfix x xs

  -- primary = int | float | string | OBJECT_SELF | OBJECT_INVALID | name | name "(" [ expr { ","
  -- expr } ] ")" | "(" expr ")"
  pub data Primary : PlainExpr → List Numbered → Type 0 where
    int : (n v : ℕ) → Primary (tree.int n (cast_signed w32 v)) (at n (symbol.Int v) ∷ [])
    float : (n : ℕ) → Primary (tree.float n) (at n symbol.Float ∷ [])
    text : (n : ℕ) (bytes : List ℕ) → Primary (tree.text n bytes) (at n (symbol.Text bytes) ∷ [])
    object_self : (n : ℕ) → Primary (tree.object_self n) (fixed n terminal.ObjectSelf ∷ [])
    object_invalid : (n : ℕ) → Primary (tree.object_invalid n) (fixed n terminal.ObjectInvalid ∷ [])
    name : (n : ℕ) (f : List ℕ) → Primary (tree.name n f) (at n (symbol.Name f) ∷ [])
    call_empty : (n m k : ℕ) (f : List ℕ)
        → Primary (tree.call n f tree.no_expr)
        (at n (symbol.Name f) ∷ fixed m terminal.Open ∷ fixed k terminal.Close ∷ [])
    call : {all : PlainExprs} {xs : List Numbered} (n m k : ℕ) (f : List ℕ) → Expressions all xs
        → Primary (tree.call n f all)
        (at n (symbol.Name f) ∷ fixed m terminal.Open ∷ (xs ++ fixed k terminal.Close ∷ []))
    parenthesized : {x : PlainExpr} {xs : List Numbered} (m k : ℕ) → Expression x xs
        → Primary x (fixed m terminal.Open ∷ (xs ++ fixed k terminal.Close ∷ []))

  -- one expression or more, with commas between
  pub data Expressions : PlainExprs → List Numbered → Type 0 where
    one : {x : PlainExpr} {xs : List Numbered} → Expression x xs
        → Expressions (tree.more_exprs x tree.no_expr) xs
    more : {x : PlainExpr} {all : PlainExprs} {xs ys : List Numbered} (n : ℕ) → Expression x xs
        → Expressions all ys
        → Expressions (tree.more_exprs x all) (xs ++ fixed n terminal.Comma ∷ ys)

-- an expression or nothing
pub data Optional : Option PlainExpr → List Numbered → Type 0 where
  absent : Optional None []
  present : {x : PlainExpr} {xs : List Numbered} → Expression x xs → Optional (Some x) xs

-- A type, with the number of its first token: a word, or `struct` and a name.
pub data TypeTokens : ℕ → TypeName → List Numbered → Type 0 where
  word : (n : ℕ) (m : Terminal) (t : TypeName) → type_word m ≡ Some t
      → TypeTokens n t (fixed n m ∷ [])
  structure : (n k : ℕ) (f : List ℕ)
      → TypeTokens n (type.Struct f) (fixed n terminal.Struct ∷ at k (symbol.Name f) ∷ [])

-- constant = [ "-" ] int | [ "-" ] float | string | name | OBJECT_SELF | OBJECT_INVALID, with the
-- number of the literal
pub data ConstantTokens : Constant → List Numbered → Type 0 where
  int : (n v : ℕ) → ConstantTokens (constant.Int n false (cast_signed w32 v))
      (at n (symbol.Int v) ∷ [])
  minus_int : (k n v : ℕ) → ConstantTokens (constant.Int n true (cast_signed w32 v))
      (fixed k terminal.Minus ∷ at n (symbol.Int v) ∷ [])
  float : (n : ℕ) → ConstantTokens (constant.Float n false) (at n symbol.Float ∷ [])
  minus_float : (k n : ℕ) → ConstantTokens (constant.Float n true)
      (fixed k terminal.Minus ∷ at n symbol.Float ∷ [])
  text : (n : ℕ) (bytes : List ℕ)
      → ConstantTokens (constant.Text n bytes) (at n (symbol.Text bytes) ∷ [])
  name : (n : ℕ) (f : List ℕ) → ConstantTokens (constant.Name n f) (at n (symbol.Name f) ∷ [])
  object_self : (n : ℕ) → ConstantTokens (constant.ObjectSelf n) (fixed n terminal.ObjectSelf ∷ [])
  object_invalid : (n : ℕ) → ConstantTokens (constant.ObjectInvalid n)
      (fixed n terminal.ObjectInvalid ∷ [])

-- init = name [ "=" expr ]
pub data Declared : SourceDeclared → List Numbered → Type 0 where
  bare : (n : ℕ) (f : List ℕ)
      → Declared (record { token = n; name = f; value = None }) (at n (symbol.Name f) ∷ [])
  valued : {x : PlainExpr} {xs : List Numbered} (n k : ℕ) (f : List ℕ) → Expression x xs
      → Declared (record { token = n; name = f; value = Some x })
      (at n (symbol.Name f) ∷ fixed k terminal.Assign ∷ xs)

-- one or more of them, with commas between
pub data DeclaredNames : List SourceDeclared → List Numbered → Type 0 where
  one : {d : SourceDeclared} {xs : List Numbered} → Declared d xs → DeclaredNames (d ∷ []) xs
  more : {d : SourceDeclared} {all : List SourceDeclared} {xs ys : List Numbered} (n : ℕ)
      → Declared d xs → DeclaredNames all ys
      → DeclaredNames (d ∷ all) (xs ++ fixed n terminal.Comma ∷ ys)

-- whether a statement ends in an `if` without `else`
abbrev pub ends_open : SourceStmt → Bool
ends_open (stmt.if_only n x s) = true
ends_open (stmt.if_else n x s t) = ends_open t
ends_open (stmt.while_loop n x s) = ends_open s
ends_open (stmt.for_loop n x y z s) = ends_open s
ends_open _ = false

mutual
  pub data Statement : SourceStmt → List Numbered → Type 0 where
    block : {all : SourceStmts} {xs : List Numbered} (n k : ℕ) → Entries false all xs
        → Statement (stmt.block n all)
        (fixed n terminal.OpenBrace ∷ (xs ++ fixed k terminal.CloseBrace ∷ []))
    empty : (n : ℕ) → Statement (stmt.empty n) (fixed n terminal.Semicolon ∷ [])
    expression : {x : PlainExpr} {xs : List Numbered} (n k : ℕ) (s : Symbol)
        → Expression x (at n s ∷ xs)
        → Statement (stmt.expression n x) (at n s ∷ (xs ++ fixed k terminal.Semicolon ∷ []))
    if_only : {x : PlainExpr} {s : SourceStmt} {xs ss : List Numbered} (n a b : ℕ) → Expression x xs
        → Statement s ss
        → Statement (stmt.if_only n x s)
        (fixed n terminal.If ∷ fixed a terminal.Open ∷ (xs ++ fixed b terminal.Close ∷ ss))
    -- an `else` belongs to the nearest `if`
    if_else : {x : PlainExpr} {s t : SourceStmt} {xs ss ts : List Numbered} (n a b c : ℕ)
        → Expression x xs
        → Statement s ss → ends_open s ≡ false → Statement t ts
        → Statement (stmt.if_else n x s t)
        (fixed n terminal.If ∷ fixed a terminal.Open ∷
        (xs ++ fixed b terminal.Close ∷ (ss ++ fixed c terminal.Else ∷ ts)))
    while_loop : {x : PlainExpr} {s : SourceStmt} {xs ss : List Numbered} (n a b : ℕ)
        → Expression x xs → Statement s ss
        → Statement (stmt.while_loop n x s)
        (fixed n terminal.While ∷ fixed a terminal.Open ∷ (xs ++ fixed b terminal.Close ∷ ss))
    do_loop : {x : PlainExpr} {s : SourceStmt} {xs ss : List Numbered} (n a b c d : ℕ)
        → Statement s ss → Expression x xs
        → Statement (stmt.do_loop n s x)
        (fixed n terminal.Do ∷ (ss
        ++ fixed a terminal.While ∷ fixed b terminal.Open ∷
        (xs ++ fixed c terminal.Close ∷ fixed d terminal.Semicolon ∷ [])))
    for_loop : {x y z : Option PlainExpr} {s : SourceStmt} {xs ys zs ss : List Numbered}
        (n a b c d : ℕ)
        → Optional x xs → Optional y ys → Optional z zs → Statement s ss
        → Statement (stmt.for_loop n x y z s)
        (fixed n terminal.For ∷ fixed a terminal.Open
        ∷ (xs ++ fixed b terminal.Semicolon ∷
        (ys ++ fixed c terminal.Semicolon ∷ (zs ++ fixed d terminal.Close ∷ ss))))
    switch : {x : PlainExpr} {all : SourceStmts} {xs ys : List Numbered} (n a b c d : ℕ)
        → Expression x xs → Entries true all ys
        → Statement (stmt.switch n x all)
        (fixed n terminal.Switch ∷ fixed a terminal.Open ∷
        (xs ++ fixed b terminal.Close ∷ fixed c terminal.OpenBrace ∷
        (ys ++ fixed d terminal.CloseBrace ∷ [])))
    break_off : (n k : ℕ) → Statement (stmt.break_off n)
        (fixed n terminal.Break ∷ fixed k terminal.Semicolon ∷ [])
    continue_on : (n k : ℕ) → Statement (stmt.continue_on n)
        (fixed n terminal.Continue ∷ fixed k terminal.Semicolon ∷ [])
    return_from : {x : Option PlainExpr} {xs : List Numbered} (n k : ℕ) → Optional x xs
        → Statement (stmt.return_from n x)
        (fixed n terminal.Return ∷ (xs ++ fixed k terminal.Semicolon ∷ []))

  -- What stands in a block or, with labels, in the body of a switch.
  pub data Entry : Bool → SourceStmt → List Numbered → Type 0 where
    statement : {labels : Bool} {s : SourceStmt} {ss : List Numbered} → Statement s ss
        → Entry labels s ss
    declaration : {labels : Bool} {t : TypeName} {all : List SourceDeclared} {ts xs : List Numbered}
        (n k : ℕ) → TypeTokens n t ts → DeclaredNames all xs
        → Entry labels (stmt.declaration n t all) (ts ++ (xs ++ fixed k terminal.Semicolon ∷ []))
    case_label : {c : Constant} {cs : List Numbered} (n k : ℕ) → ConstantTokens c cs
        → Entry true (stmt.case_label n c)
        (fixed n terminal.Case ∷ (cs ++ fixed k terminal.Colon ∷ []))
    default_label : (n k : ℕ)
        → Entry true (stmt.default_label n) (fixed n terminal.Default ∷ fixed k terminal.Colon ∷ [])

  pub data Entries : Bool → SourceStmts → List Numbered → Type 0 where
    none : {labels : Bool} → Entries labels stmt.no_stmt []
    more : {labels : Bool} {s : SourceStmt} {all : SourceStmts} {xs ys : List Numbered}
        → Entry labels s xs → Entries labels all ys
        → Entries labels (stmt.more_stmts s all) (xs ++ ys)
