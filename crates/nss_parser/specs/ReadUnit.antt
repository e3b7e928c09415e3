-- Reading of structs, const lines, globals, functions and units, over a reader of what follows the
-- `{` of a function's body, its `}` included.
use Rattle.std.specs.Prelude.{ℕ, zero, suc, Bool, true, false, List, [], ◌∷◌, ◌++◌, Option, None, Some}
use Rattle.nss_tree.specs.Source.{SourceItem, SourceItems, SourceLine, SourceParameter, SourceStmts}
use Rattle.nss_tree.specs.declared.constants.TypeName.{TypeName}
use Rattle.nss_tree.specs.declared.constants.TypeName.TheVariants as type
use Rattle.nss_tree.specs.declared.units.Identifier.{Identifier}
use Rattle.nss_tree.specs.Units as unit
use Rattle.nss_symbols.specs.declared.terminal.Terminal.TheVariants as terminal
use Rattle.nss_symbols.specs.Symbols.{Symbol}
use Rattle.nss_symbols.specs.Outcome.{Parser, ◌>>=◌, pure, deep, take, peek, choice, is_terminal, expect, name}
use Rattle.nss_parser.specs.ReadDeclaration.{typed, identifier, constant_value, declared_after, more_declared}

-- further names of fields, each after a comma, in so many turns
abbrev pub more_fields : ℕ → List Identifier → Parser (List Identifier)
more_fields zero all = deep
more_fields (suc t) all = choice (is_terminal terminal.Comma)
    (take >>= λ n. identifier >>= λ x. more_fields t (all ++ x ∷ [])) (pure all)

unfoldable pub field : ℕ → Parser SourceLine
field d = typed >>= λ p. identifier >>= λ x. more_fields d
    (x ∷ []) >>= λ names. expect terminal.Semicolon >>= λ k. pure
    (record { token = p.0; ty = p.1; names = names })

-- field lines up to `}`, after those read before
abbrev pub fields_from : ℕ → ℕ → List SourceLine → Parser (List SourceLine)
fields_from d zero before = deep
fields_from d (suc t) before = field d >>= λ x. choice (is_terminal terminal.CloseBrace)
    (take >>= λ k. pure (before ++ x ∷ [])) (fields_from d t (before ++ x ∷ []))

-- a struct, from its `{` on
unfoldable pub structure : ℕ → Identifier → Parser SourceItem
structure d x = take >>= λ b. fields_from d d [] >>= λ all. expect terminal.Semicolon >>= λ k. pure
    (unit.structure x.token x.name all)

-- a const line, from its `const` on
unfoldable pub constant_line : Parser SourceItem
constant_line = take >>= λ a. typed >>= λ p. identifier >>= λ x. expect terminal.Assign >>= λ b. constant_value >>= λ c. expect terminal.Semicolon >>= λ k. pure (unit.constant p.0 p.1 x c)

-- a parameter from its default on, where `=` comes next
unfoldable pub default : ℕ → TypeName → List ℕ → Parser SourceParameter
default n t f = choice (is_terminal terminal.Assign)
    (take >>= λ a. constant_value >>= λ c. pure
    (record { token = n; ty = t; name = f; default = Some c }))
    (pure (record { token = n; ty = t; name = f; default = None }))

unfoldable pub parameter : Parser SourceParameter
parameter = typed >>= λ p. name >>= λ f. default p.0 p.1 f

-- parameters up to `)`, after those read before
abbrev pub parameters_from : ℕ → List SourceParameter → Parser (List SourceParameter)
parameters_from zero before = deep
parameters_from (suc t) before = parameter >>= λ x. choice (is_terminal terminal.Comma)
    (take >>= λ n. parameters_from t (before ++ x ∷ []))
    (expect terminal.Close >>= λ k. pure (before ++ x ∷ []))

unfoldable pub parameters : ℕ → Parser (List SourceParameter)
parameters d = choice (is_terminal terminal.Close) (take >>= λ k. pure []) (parameters_from d [])

-- a global's line after its first name
unfoldable pub global : ℕ → ℕ → TypeName → Identifier → Parser SourceItem
global d n t x = declared_after d x >>= λ y. more_declared d d
    (y ∷ []) >>= λ all. expect terminal.Semicolon >>= λ k. pure (unit.global n t all)

-- whether no token is left
abbrev pub is_end : Option Symbol → Bool
is_end None = true
is_end (Some s) = false

module _ (d : ℕ) (entries : Parser SourceStmts) where
  unfoldable pub body : Parser (Option SourceStmts)
  body = choice (is_terminal terminal.Semicolon) (take >>= λ k. pure None)
      (expect terminal.OpenBrace >>= λ n. entries >>= λ all. pure (Some all))

  -- a function, from its `(` on
  unfoldable pub function : TypeName → Identifier → Parser SourceItem
  function t x = take >>= λ a. parameters d >>= λ all. body >>= λ b. pure
      (unit.function x.token t x.name all b)

  -- a function or a global, after its type
  unfoldable pub after_type : ℕ → TypeName → Parser SourceItem
  after_type n t = identifier >>= λ x. choice (is_terminal terminal.Open) (function t x)
      (global d n t x)

  -- what begins with `struct`
  unfoldable pub after_struct : Parser SourceItem
  after_struct = take >>= λ a. identifier >>= λ x. choice (is_terminal terminal.OpenBrace)
      (structure d x) (after_type a (type.Struct x.name))

  -- what begins with any other type
  abbrev pub typed_item : Parser SourceItem
  typed_item = typed >>= λ p. after_type p.0 p.1

  unfoldable pub item : Parser SourceItem
  item = choice (is_terminal terminal.Struct) after_struct
      (choice (is_terminal terminal.Const) constant_line (typed >>= λ p. after_type p.0 p.1))

  abbrev pub items_by : (SourceItems → Parser SourceItems) → SourceItems → Option Symbol
      → Parser SourceItems
  items_by more before None = pure before
  items_by more before (Some s) = item >>= λ x. more (before ++ x ∷ [])

  -- items up to the end, after those read before
  abbrev pub items_from : ℕ → SourceItems → Parser SourceItems
  items_from zero before = deep
  items_from (suc t) before = peek (items_by (items_from t) before)

  unfoldable pub items : Parser SourceItems
  items = items_from d []
