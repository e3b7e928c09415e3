-- Reading of units depends on the tokens that it passes and the next one, and more depth changes
-- nothing.
use Rattle.std.proofs.Common.{ℕ, zero, suc, ◌≤◌, List, [], ◌∷◌, ◌++◌, Option, None, Some, arith}
use Rattle.nss_tree.specs.Source.{SourceItems, SourceLine, SourceParameter, SourceStmts}
use Rattle.nss_tree.specs.declared.constants.TypeName.{TypeName}
use Rattle.nss_tree.specs.declared.constants.TypeName.TheVariants as type
use Rattle.nss_tree.specs.declared.units.Identifier.{Identifier}
use Rattle.nss_symbols.specs.declared.terminal.Terminal.TheVariants as terminal
use Rattle.nss_symbols.specs.Symbols.{Symbol}
use Rattle.nss_symbols.specs.Outcome.{Parser, is_terminal}
use Rattle.nss_parser.specs.ReadUnit.{more_fields, field, fields_from, structure, constant_line, default, parameter, parameters_from, parameters, global, body, function, after_type, after_struct}
use Rattle.nss_parser.specs.ReadUnit.{item, items_by, items_from, items}
use Rattle.nss_parser.proofs.Local.{Local, local_pure, local_deep, local_take, local_bind, local_peek, local_choice, local_expect, local_name}
use Rattle.nss_parser.proofs.DeclarationLocal.{local_typed, local_constant, local_identifier, local_declared_after, local_more_declared}

local_more_fields : (t t' : ℕ) → t ≤ t' → (all : List Identifier) → Local (more_fields t all) (more_fields t' all)
local_more_fields zero t' lt all = local_deep (more_fields t' all)
local_more_fields (suc t) zero lt all = absurd (omega arith)
local_more_fields (suc t) (suc t') lt all = local_choice (is_terminal terminal.Comma)
    (local_bind local_take (λ n. local_bind local_identifier
    (λ x. local_more_fields t t' (omega arith) (all ++ x ∷ [])))) (local_pure all)

local_field : (d e : ℕ) → d ≤ e → Local (field d) (field e)
unfolding field
local_field d e le =
    local_bind local_typed (λ p. local_bind local_identifier (λ x. local_bind (local_more_fields d e le (x ∷ [])) (λ names. local_bind (local_expect terminal.Semicolon) (λ k. local_pure _))))

local_fields_from : (d e : ℕ) → d ≤ e → (t t' : ℕ) → t ≤ t' → (all : List SourceLine) → Local (fields_from d t all) (fields_from e t' all)
local_fields_from d e le zero t' lt all = local_deep (fields_from e t' all)
local_fields_from d e le (suc t) zero lt all = absurd (omega arith)
local_fields_from d e le (suc t) (suc t') lt all =
    local_bind (local_field d e le) (λ x. local_choice (is_terminal terminal.CloseBrace) (local_bind local_take (λ k. local_pure _)) (local_fields_from d e le t t' (omega arith) (all ++ x ∷ [])))

local_structure : (d e : ℕ) → d ≤ e → (x : Identifier) → Local (structure d x) (structure e x)
unfolding structure
local_structure d e le x = local_bind local_take (λ b. local_bind (local_fields_from d e le d e le []) (λ all. local_bind (local_expect terminal.Semicolon) (λ k. local_pure _)))

local_constant_line : Local constant_line constant_line
unfolding constant_line
local_constant_line =
    local_bind local_take (λ a. local_bind local_typed
    (λ p. local_bind local_identifier
    (λ x. local_bind (local_expect terminal.Assign)
    (λ b. local_bind local_constant (λ c. local_bind (local_expect terminal.Semicolon) (λ k. local_pure _))))))

local_default : (n : ℕ) (t : TypeName) (f : List ℕ) → Local (default n t f) (default n t f)
unfolding default
local_default n t f = local_choice (is_terminal terminal.Assign) (local_bind local_take (λ a. local_bind local_constant (λ c. local_pure _))) (local_pure _)

local_parameter : Local parameter parameter
unfolding parameter
local_parameter = local_bind local_typed (λ p. local_bind local_name (λ f. local_default p.0 p.1 f))

local_parameters_from : (t t' : ℕ) → t ≤ t' → (all : List SourceParameter) → Local (parameters_from t all) (parameters_from t' all)
local_parameters_from zero t' lt all = local_deep (parameters_from t' all)
local_parameters_from (suc t) zero lt all = absurd (omega arith)
local_parameters_from (suc t) (suc t') lt all =
    local_bind local_parameter
    (λ x. local_choice (is_terminal terminal.Comma)
    (local_bind local_take (λ n. local_parameters_from t t' (omega arith) (all ++ x ∷ [])))
    (local_bind (local_expect terminal.Close) (λ k. local_pure _)))

local_parameters : (d e : ℕ) → d ≤ e → Local (parameters d) (parameters e)
unfolding parameters
local_parameters d e le = local_choice (is_terminal terminal.Close) (local_bind local_take (λ k. local_pure [])) (local_parameters_from d e le [])

local_global : (d e : ℕ) → d ≤ e → (n : ℕ) (t : TypeName) (x : Identifier) → Local (global d n t x) (global e n t x)
unfolding global
local_global d e le n t x =
    local_bind (local_declared_after d e le x) (λ y. local_bind (local_more_declared d e le d e le (y ∷ [])) (λ all. local_bind (local_expect terminal.Semicolon) (λ k. local_pure _)))

module _ (d e : ℕ) (le : d ≤ e) (inner outer : Parser SourceStmts) (local : Local inner outer) where
  local_body : Local (body d inner) (body e outer)
  unfolding body
  local_body = local_choice (is_terminal terminal.Semicolon) (local_bind local_take (λ k. local_pure None))
      (local_bind (local_expect terminal.OpenBrace) (λ n. local_bind local (λ all. local_pure (Some all))))

  local_function : (t : TypeName) (x : Identifier) → Local (function d inner t x) (function e outer t x)
  unfolding function
  local_function t x = local_bind local_take (λ a. local_bind (local_parameters d e le) (λ all. local_bind local_body (λ b. local_pure _)))

  local_after_type : (n : ℕ) (t : TypeName) → Local (after_type d inner n t) (after_type e outer n t)
  unfolding after_type
  local_after_type n t = local_bind local_identifier (λ x. local_choice (is_terminal terminal.Open) (local_function t x) (local_global d e le n t x))

  local_after_struct : Local (after_struct d inner) (after_struct e outer)
  unfolding after_struct
  local_after_struct = local_bind local_take
      (λ a. local_bind local_identifier
      (λ x. local_choice (is_terminal terminal.OpenBrace) (local_structure d e le x)
      (local_after_type a (type.Struct x.name))))

  local_item : Local (item d inner) (item e outer)
  unfolding item
  local_item = local_choice (is_terminal terminal.Struct) local_after_struct (local_choice (is_terminal terminal.Const) local_constant_line (local_bind local_typed (λ p. local_after_type p.0 p.1)))

  local_items_by : (p q : SourceItems → Parser SourceItems) → ((all : SourceItems) → Local (p all) (q all))
      → (all : SourceItems) (o : Option Symbol) → Local (items_by d inner p all o) (items_by e outer q all o)
  local_items_by p q l all None = local_pure all
  local_items_by p q l all (Some s) = local_bind local_item (λ x. l (all ++ x ∷ []))

  local_items_from : (t t' : ℕ) → t ≤ t' → (all : SourceItems) → Local (items_from d inner t all) (items_from e outer t' all)
  local_items_from zero t' lt all = local_deep (items_from e outer t' all)
  local_items_from (suc t) zero lt all = absurd (omega arith)
  local_items_from (suc t) (suc t') lt all = local_peek (λ o. local_items_by (items_from d inner t) (items_from e outer t') (λ z. local_items_from t t' (omega arith) z) all o)

  pub local_items : Local (items d inner) (items e outer)
  unfolding items
  local_items = local_items_from d e le []
