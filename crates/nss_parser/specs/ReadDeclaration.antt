-- Reading of types, constants and declared names.
use Rattle.std.specs.Prelude.{ℕ, zero, suc, true, false, List, [], ◌∷◌, ◌++◌, Option, None, Some}
use Rattle.std.specs.Int.{cast_signed, w32}
use Rattle.nss_tree.specs.Source.{SourceDeclared}
use Rattle.nss_tree.specs.declared.constants.TypeName.{TypeName}
use Rattle.nss_tree.specs.declared.constants.TypeName.TheVariants as type
use Rattle.nss_tree.specs.declared.constants.Constant.{Constant}
use Rattle.nss_tree.specs.declared.constants.Constant.TheVariants as constant
use Rattle.nss_tree.specs.declared.units.Identifier.{Identifier}
use Rattle.nss_symbols.specs.declared.terminal.Terminal.TheVariants as terminal
use Rattle.nss_symbols.specs.Symbols as symbol
use Rattle.nss_symbols.specs.Symbols.{Symbol}
use Rattle.nss_parser.specs.Operators.{type_word}
use Rattle.nss_symbols.specs.Outcome.{Parser, ◌>>=◌, pure, stuck, deep, here, take, peek, choice, is_terminal, expect, name}
use Rattle.nss_parser.specs.ReadExpression.{level}

-- the type that the next token is, where it is one by itself
abbrev pub word_of : Option Symbol → Option TypeName
word_of (Some (symbol.Fixed m)) = type_word m
word_of _ = None

abbrev pub type_by : Option TypeName → Parser TypeName
type_by (Some t) = take >>= λ n. pure t
type_by None = expect terminal.Struct >>= λ n. name >>= λ f. pure (type.Struct f)

unfoldable pub type_name : Parser TypeName
type_name = peek (λ o. type_by (word_of o))

-- a type with the number of its first token
unfoldable pub typed : Parser (ℕ × TypeName)
typed = here >>= λ n. type_name >>= λ t. pure (n, t)

-- a literal after `-`
abbrev pub negated_by : Option Symbol → Parser Constant
negated_by (Some (symbol.Int v)) = take >>= λ n. pure (constant.Int n true (cast_signed w32 v))
negated_by (Some symbol.Float) = take >>= λ n. pure (constant.Float n true)
negated_by _ = stuck

abbrev pub constant_by : Option Symbol → Parser Constant
constant_by (Some (symbol.Int v)) = take >>= λ n. pure (constant.Int n false (cast_signed w32 v))
constant_by (Some symbol.Float) = take >>= λ n. pure (constant.Float n false)
constant_by (Some (symbol.Text bytes)) = take >>= λ n. pure (constant.Text n bytes)
constant_by (Some (symbol.Name f)) = take >>= λ n. pure (constant.Name n f)
constant_by (Some (symbol.Fixed terminal.ObjectSelf)) = take >>= λ n. pure (constant.ObjectSelf n)
constant_by (Some (symbol.Fixed terminal.ObjectInvalid)) = take >>= λ n. pure
    (constant.ObjectInvalid n)
constant_by (Some (symbol.Fixed terminal.Minus)) = take >>= λ k. peek negated_by
constant_by _ = stuck

unfoldable pub constant_value : Parser Constant
constant_value = peek constant_by

-- a name with its number
unfoldable pub identifier : Parser Identifier
identifier = here >>= λ n. name >>= λ f. pure (record { token = n; name = f })

-- what follows a declared name: its first value, where `=` comes next
unfoldable pub declared_after : ℕ → Identifier → Parser SourceDeclared
declared_after d n = choice (is_terminal terminal.Assign)
    (take >>= λ k. level d 0 >>= λ x. pure
    (record { token = n.token; name = n.name; value = Some x }))
    (pure (record { token = n.token; name = n.name; value = None }))

unfoldable pub declared : ℕ → Parser SourceDeclared
declared d = identifier >>= declared_after d

-- further declared names, each after a comma, in so many turns
abbrev pub more_declared : ℕ → ℕ → List SourceDeclared → Parser (List SourceDeclared)
more_declared d zero all = deep
more_declared d (suc t) all = choice (is_terminal terminal.Comma)
    (take >>= λ n. declared d >>= λ x. more_declared d t (all ++ x ∷ [])) (pure all)

unfoldable pub declared_names : ℕ → Parser (List SourceDeclared)
declared_names d = declared d >>= λ x. more_declared d d (x ∷ [])
