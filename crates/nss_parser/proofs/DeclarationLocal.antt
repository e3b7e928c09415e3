-- Reading of types, constants and declared names depends on the tokens that it passes and the next
-- one, and more depth changes nothing.
use Rattle.std.proofs.Common.{ℕ, zero, suc, ◌≤◌, List, [], ◌∷◌, ◌++◌, Option, None, Some, arith}
use Rattle.nss_tree.specs.Source.{SourceDeclared}
use Rattle.nss_tree.specs.declared.constants.TypeName.{TypeName}
use Rattle.nss_tree.specs.declared.constants.TypeName.TheVariants as type
use Rattle.nss_tree.specs.declared.units.Identifier.{Identifier}
use Rattle.nss_symbols.specs.declared.terminal.Terminal.TheVariants as terminal
use Rattle.nss_symbols.specs.Symbols as symbol
use Rattle.nss_symbols.specs.Symbols.{Symbol}
use Rattle.nss_symbols.specs.Outcome.{is_terminal}
use Rattle.nss_parser.specs.ReadDeclaration.{word_of, type_by, type_name, typed, negated_by, constant_by, constant_value, identifier, declared_after, declared, more_declared, declared_names}
use Rattle.nss_parser.proofs.Local.{Local, local_pure, local_stuck, local_deep, local_take, local_bind, local_peek, local_here, local_choice, local_expect, local_name}
use Rattle.nss_parser.proofs.ExpressionLocal.{local_level}

local_type_by : (o : Option TypeName) → Local (type_by o) (type_by o)
local_type_by (Some t) = local_bind local_take (λ n. local_pure t)
local_type_by None = local_bind (local_expect terminal.Struct) (λ n. local_bind local_name (λ f. local_pure (type.Struct f)))

pub local_type_name : Local type_name type_name
unfolding type_name
local_type_name = local_peek (λ o. local_type_by (word_of o))

pub local_typed : Local typed typed
unfolding typed
local_typed = local_bind local_here (λ n. local_bind local_type_name (λ t. local_pure (n, t)))

local_negated_by : (o : Option Symbol) → Local (negated_by o) (negated_by o)
local_negated_by (Some (symbol.Int v)) = local_bind local_take (λ n. local_pure _)
local_negated_by (Some symbol.Float) = local_bind local_take (λ n. local_pure _)
local_negated_by _ = local_stuck

local_constant_by : (o : Option Symbol) → Local (constant_by o) (constant_by o)
local_constant_by (Some (symbol.Int v)) = local_bind local_take (λ n. local_pure _)
local_constant_by (Some symbol.Float) = local_bind local_take (λ n. local_pure _)
local_constant_by (Some (symbol.Text bytes)) = local_bind local_take (λ n. local_pure _)
local_constant_by (Some (symbol.Name f)) = local_bind local_take (λ n. local_pure _)
local_constant_by (Some (symbol.Fixed terminal.ObjectSelf)) = local_bind local_take (λ n. local_pure _)
local_constant_by (Some (symbol.Fixed terminal.ObjectInvalid)) = local_bind local_take (λ n. local_pure _)
local_constant_by (Some (symbol.Fixed terminal.Minus)) = local_bind local_take (λ n. local_peek local_negated_by)
local_constant_by _ = local_stuck

pub local_constant : Local constant_value constant_value
unfolding constant_value
local_constant = local_peek local_constant_by

pub local_identifier : Local identifier identifier
unfolding identifier
local_identifier = local_bind local_here (λ n. local_bind local_name (λ f. local_pure _))

pub local_declared_after : (d e : ℕ) → d ≤ e → (x : Identifier) → Local (declared_after d x) (declared_after e x)
unfolding declared_after
local_declared_after d e le x = local_choice (is_terminal terminal.Assign) (local_bind local_take (λ k. local_bind (local_level d e le 0) (λ y. local_pure _))) (local_pure _)

pub local_declared : (d e : ℕ) → d ≤ e → Local (declared d) (declared e)
unfolding declared
local_declared d e le = local_bind local_identifier (λ x. local_declared_after d e le x)

pub local_more_declared : (d e : ℕ) → d ≤ e → (t t' : ℕ) → t ≤ t' → (all : List SourceDeclared) → Local (more_declared d t all) (more_declared e t' all)
local_more_declared d e le zero t' lt all = local_deep (more_declared e t' all)
local_more_declared d e le (suc t) zero lt all = absurd (omega arith)
local_more_declared d e le (suc t) (suc t') lt all =
    local_choice (is_terminal terminal.Comma) (local_bind local_take (λ n. local_bind (local_declared d e le) (λ x. local_more_declared d e le t t' (omega arith) (all ++ x ∷ [])))) (local_pure all)

pub local_declared_names : (d e : ℕ) → d ≤ e → Local (declared_names d) (declared_names e)
unfolding declared_names
local_declared_names d e le = local_bind (local_declared d e le) (λ x. local_more_declared d e le d e le (x ∷ []))
