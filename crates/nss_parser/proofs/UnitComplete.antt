-- What structs, const lines, globals, functions and units spell is read as them.
use Rattle.std.proofs.Common.{◌≡◌, ◌∙◌, ℕ, zero, suc, ◌+◌, ◌<◌, ◌≤◌, Bool, false, List, [], ◌∷◌, ◌++◌, length, length-append, append_assoc, append-nil, Option, None, Some, refl, sym, ap, subst, arith}
use Rattle.nss_tree.specs.Source.{SourceDeclared, SourceItem, SourceItems, SourceLine, SourceParameter, SourceStmts}
use Rattle.nss_tree.specs.declared.constants.TypeName.{TypeName}
use Rattle.nss_tree.specs.declared.constants.Constant.{Constant}
use Rattle.nss_tree.specs.declared.units.Identifier.{Identifier}
use Rattle.nss_tree.specs.Units as unit
use Rattle.nss_symbols.specs.declared.terminal.Terminal.{Terminal}
use Rattle.nss_symbols.specs.declared.terminal.Terminal.TheVariants as terminal
use Rattle.nss_symbols.specs.Symbols as symbol
use Rattle.nss_symbols.specs.Symbols.{Symbol, Numbered, at, fixed}
use Rattle.nss_parser.specs.Operators.{type_word}
use Rattle.nss_symbols.specs.Outcome.{Outcome, Got, Stuck, Deep, Parser, and_then, ◌>>=◌, same_terminal, sees, first, take, expect, pure, branch}
use Rattle.nss_parser.specs.Grammar.{TypeTokens, Declared, DeclaredNames, Entries}
use Rattle.nss_parser.specs.Grammar as grammar
use Rattle.nss_parser.specs.Unit.{FieldNames, Field, Fields, ParameterTokens, ParameterList, Parameters, Body, Item, Items}
use Rattle.nss_parser.specs.Unit as spelled
use Rattle.nss_parser.specs.ReadDeclaration.{typed, constant_value, identifier, declared_after, declared, more_declared}
use Rattle.nss_parser.specs.ReadUnit.{more_fields, field, fields_from, structure, constant_line, default, parameter, parameters_from, parameters, global, body, function, after_type, after_struct}
use Rattle.nss_parser.specs.ReadUnit.{item, items_from, items}
use Rattle.nss_parser.proofs.ExpressionFacts.{Starts, starts_append, starts_length}
use Rattle.nss_parser.proofs.DeclarationComplete.{begins_type, is_type, starts_type, no_fixed, complete_typed, complete_constant, identifier_step, declared_step, complete_names, tail_length}

-- two parts in a row, then a third
bind_assoc : {A B C : Type 0} (o : Outcome A) (f : A → Parser B) (g : B → Parser C) → and_then o (λ x. f x >>= g) ≡ and_then (and_then o f) g
bind_assoc (Got x rest) f g = refl
bind_assoc (Stuck left) f g = refl
bind_assoc Deep f g = refl

-- names of fields
fields_end : (t k : ℕ) (all : List Identifier) (rest : List Numbered) → 0 < t → more_fields t all (fixed k terminal.Semicolon ∷ rest) ≡ Got all (fixed k terminal.Semicolon ∷ rest)
unfolding first same_terminal
fields_end zero k all rest lt = absurd (omega arith)
fields_end (suc t) k all rest lt = refl

fields_more : (t n : ℕ) (all : List Identifier) (i : List Numbered) → more_fields (suc t) all (fixed n terminal.Comma ∷ i) ≡ and_then (identifier i) (λ x. more_fields t (all ++ x ∷ []))
unfolding first take same_terminal
fields_more t n all i = refl

field_turn : (t n : ℕ) (all : List Identifier) (i : List Numbered) (o : Outcome (List Identifier)) → length i < t
    → ((t' : ℕ) → length i ≤ t' → and_then (identifier i) (λ x. more_fields t' (all ++ x ∷ [])) ≡ o) → more_fields t all (fixed n terminal.Comma ∷ i) ≡ o
field_turn zero n all i o lt h = absurd (omega arith)
field_turn (suc t) n all i o lt h = fields_more t n all i ∙ h t (omega arith)

complete_field_names : {all : List Identifier} {xs : List Numbered} → FieldNames all xs → (t : ℕ) (before : List Identifier) (k : ℕ) (rest : List Numbered)
    → length (xs ++ fixed k terminal.Semicolon ∷ rest) ≤ t
    → and_then (identifier (xs ++ fixed k terminal.Semicolon ∷ rest)) (λ x. more_fields t (before ++ x ∷ [])) ≡ Got (before ++ all) (fixed k terminal.Semicolon ∷ rest)
complete_field_names (spelled.one n f) t before k rest lt =
    ap (λ (z : Outcome Identifier). and_then z (λ x. more_fields t (before ++ x ∷ []))) (identifier_step n f (fixed k terminal.Semicolon ∷ rest))
    ∙ fields_end t k (before ++ record { token = n; name = f } ∷ []) rest (omega arith)
complete_field_names (spelled.more {all = all} {xs = xs} n c f hs) t before k rest lt =
    ap (λ (z : Outcome Identifier). and_then z (λ x. more_fields t (before ++ x ∷ []))) (identifier_step n f (fixed c terminal.Comma ∷ (xs ++ fixed k terminal.Semicolon ∷ rest)))
    ∙ field_turn t c (before ++ record { token = n; name = f } ∷ []) (xs ++ fixed k terminal.Semicolon ∷ rest)
    (Got (before ++ record { token = n; name = f } ∷ all) (fixed k terminal.Semicolon ∷ rest)) (omega arith)
    (λ t' le.
    complete_field_names hs t' (before ++ record { token = n; name = f } ∷ []) k rest le
    ∙ ap (λ (z : List Identifier). Got z (fixed k terminal.Semicolon ∷ rest)) (append_assoc before (record { token = n; name = f } ∷ []) all))

field_step : (d n k : ℕ) (t : TypeName) (names : List Identifier) (i j rest : List Numbered) → typed i ≡ Got (n, t) j
    → and_then (identifier j) (λ x. more_fields d (x ∷ [])) ≡ Got names (fixed k terminal.Semicolon ∷ rest)
    → field d i ≡ Got (record { token = n; ty = t; names = names }) rest
unfolding field first take same_terminal
field_step d n k t names i j rest typed_is names_are =
    ap (λ (z : Outcome (ℕ × TypeName)). and_then z
    (λ p. identifier >>= λ x. more_fields d (x ∷ []) >>= λ names. expect terminal.Semicolon >>= λ k. pure
    (record { token = p.0; ty = p.1; names = names }))) typed_is
    ∙ bind_assoc (identifier j) (λ x. more_fields d (x ∷ [])) (λ names. expect terminal.Semicolon >>= λ k. pure (record { token = n; ty = t; names = names }))
    ∙ ap (λ (z : Outcome (List Identifier)). and_then z (λ names. expect terminal.Semicolon >>= λ k. pure (record { token = n; ty = t; names = names }))) names_are

-- a list after a type is no longer than the whole
after_length : (ts j : List Numbered) → length j ≤ length (ts ++ j)
after_length ts j = omega (arith, length-append ts j)

complete_field : {f : SourceLine} {xs : List Numbered} → Field f xs → (d : ℕ) (rest : List Numbered) → length (xs ++ rest) ≤ d → field d (xs ++ rest) ≡ Got f rest
complete_field (spelled.line {t = t} {names = names} {ts = ts} {ns = ns} n k typ hs) d rest le =
    let regroup : (ts ++ (ns ++ fixed k terminal.Semicolon ∷ [])) ++ rest ≡ ts ++ (ns ++ fixed k terminal.Semicolon ∷ rest) =
    append_assoc ts (ns ++ fixed k terminal.Semicolon ∷ []) rest ∙ ap (λ z. ts ++ z) (append_assoc ns (fixed k terminal.Semicolon ∷ []) rest) in
    let again : length ((ts ++ (ns ++ fixed k terminal.Semicolon ∷ [])) ++ rest) ≡ length (ts ++ (ns ++ fixed k terminal.Semicolon ∷ rest)) = ap length regroup in
    let shorter = after_length ts (ns ++ fixed k terminal.Semicolon ∷ rest) in
    ap (field d) regroup
    ∙ field_step d n k t names (ts ++ (ns ++ fixed k terminal.Semicolon ∷ rest)) (ns ++ fixed k terminal.Semicolon ∷ rest) rest
    (complete_typed typ (ns ++ fixed k terminal.Semicolon ∷ rest))
    (complete_field_names hs d [] k rest (omega arith))

starts_field : {f : SourceLine} {xs : List Numbered} → Field f xs → Starts begins_type xs
starts_field (spelled.line {ts = ts} {ns = ns} n k typ hs) = starts_append begins_type ts (ns ++ fixed k terminal.Semicolon ∷ []) (starts_type typ)

starts_fields : {all : List SourceLine} {xs : List Numbered} → Fields all xs → Starts begins_type xs
starts_fields (spelled.one h) = starts_field h
starts_fields (spelled.more {xs = xs} {ys = ys} h hs) = starts_append begins_type xs ys (starts_field h)

last_field : (d t k : ℕ) (before : List SourceLine) (f : SourceLine) (i rest : List Numbered)
    → field d i ≡ Got f (fixed k terminal.CloseBrace ∷ rest)
    → fields_from d (suc t) before i ≡ Got (before ++ f ∷ []) rest
unfolding first take same_terminal
last_field d t k before f i rest e = rw e refl

next_field : (d t : ℕ) (before : List SourceLine) (f : SourceLine) (i j : List Numbered) → field d i ≡ Got f j
    → sees terminal.CloseBrace j ≡ false → fields_from d (suc t) before i ≡ fields_from d t (before ++ f ∷ []) j
next_field d t before f i j e absent = rw (e, absent) refl

fields_turn : (d t : ℕ) (before : List SourceLine) (i : List Numbered) (o : Outcome (List SourceLine)) → length i < t
    → ((t' : ℕ) → length i ≤ t' → fields_from d (suc t') before i ≡ o) → fields_from d t before i ≡ o
fields_turn d zero before i o lt h = absurd (omega arith)
fields_turn d (suc t) before i o lt h = h t (omega arith)

complete_fields : {all : List SourceLine} {xs : List Numbered} → Fields all xs → (d t : ℕ) (before : List SourceLine) (k : ℕ) (rest : List Numbered)
    → length (xs ++ fixed k terminal.CloseBrace ∷ rest) ≤ d → length (xs ++ fixed k terminal.CloseBrace ∷ rest) < t
    → fields_from d t before (xs ++ fixed k terminal.CloseBrace ∷ rest) ≡ Got (before ++ all) rest
complete_fields (spelled.one {f = f} {xs = xs} h) d t before k rest ld lt =
    fields_turn d t before (xs ++ fixed k terminal.CloseBrace ∷ rest) (Got (before ++ f ∷ []) rest) lt (λ t' le.
    last_field d t' k before f (xs ++ fixed k terminal.CloseBrace ∷ rest) rest (complete_field h d (fixed k terminal.CloseBrace ∷ rest) ld))
complete_fields (spelled.more {f = f} {all = all} {xs = xs} {ys = ys} h hs) d t before k rest ld lt =
    let regroup = append_assoc xs ys (fixed k terminal.CloseBrace ∷ rest) in
    let again : length ((xs ++ ys) ++ fixed k terminal.CloseBrace ∷ rest)
    ≡ length xs + length (ys ++ fixed k terminal.CloseBrace ∷ rest) = ap length regroup
    ∙ length-append xs (ys ++ fixed k terminal.CloseBrace ∷ rest) in
    let whole : length (xs ++ (ys ++ fixed k terminal.CloseBrace ∷ rest))
    ≡ length xs + length (ys ++ fixed k terminal.CloseBrace ∷ rest) = length-append xs
    (ys ++ fixed k terminal.CloseBrace ∷ rest) in
    let some = starts_length begins_type xs (starts_field h) in
    ap (fields_from d t before) regroup
    ∙ fields_turn d t before (xs ++ (ys ++ fixed k terminal.CloseBrace ∷ rest)) (Got (before ++ f ∷ all) rest) (omega arith) (λ t' le.
    next_field d t' before f (xs ++ (ys ++ fixed k terminal.CloseBrace ∷ rest)) (ys ++ fixed k terminal.CloseBrace ∷ rest)
    (complete_field h d (ys ++ fixed k terminal.CloseBrace ∷ rest) (omega arith))
    (no_fixed begins_type terminal.CloseBrace refl (ys ++ fixed k terminal.CloseBrace ∷ rest) (starts_append begins_type ys (fixed k terminal.CloseBrace ∷ rest) (starts_fields hs)))
    ∙ complete_fields hs d t' (before ++ f ∷ []) k rest (omega arith) (omega arith)
    ∙ ap (λ (z : List SourceLine). Got z rest) (append_assoc before (f ∷ []) all))

structure_step : (d b k : ℕ) (x : Identifier) (all : List SourceLine) (i rest : List Numbered) → fields_from d d [] i ≡ Got all (fixed k terminal.Semicolon ∷ rest)
    → structure d x (fixed b terminal.OpenBrace ∷ i) ≡ Got (unit.structure x.token x.name all) rest
unfolding structure first take same_terminal
structure_step d b k x all i rest e = rw e refl

-- parameters
default_bare : (n : ℕ) (t : TypeName) (f : List ℕ) (rest : List Numbered) → sees terminal.Assign rest ≡ false → default n t f rest ≡ Got (record { token = n; ty = t; name = f; default = None }) rest
unfolding default
default_bare n t f rest e = rw e refl

default_valued : (n a : ℕ) (t : TypeName) (f : List ℕ) (c : Constant) (i rest : List Numbered) → constant_value i ≡ Got c rest
    → default n t f (fixed a terminal.Assign ∷ i) ≡ Got (record { token = n; ty = t; name = f; default = Some c }) rest
unfolding default first take same_terminal
default_valued n a t f c i rest e = rw e refl

parameter_step : (n k : ℕ) (t : TypeName) (f : List ℕ) (i j : List Numbered) → typed i ≡ Got (n, t) (at k (symbol.Name f) ∷ j) → parameter i ≡ default n t f j
unfolding parameter first take
parameter_step n k t f i j e = rw e refl

complete_parameter : {p : SourceParameter} {xs : List Numbered} → ParameterTokens p xs → (rest : List Numbered) → sees terminal.Assign rest ≡ false → parameter (xs ++ rest) ≡ Got p rest
complete_parameter (spelled.bare {t = t} {ts = ts} n k f typ) rest absent =
    ap parameter (append_assoc ts (at k (symbol.Name f) ∷ []) rest)
    ∙ parameter_step n k t f (ts ++ at k (symbol.Name f) ∷ rest) rest (complete_typed typ (at k (symbol.Name f) ∷ rest))
    ∙ default_bare n t f rest absent
complete_parameter (spelled.valued {t = t} {c = c} {ts = ts} {cs = cs} n k a f typ h) rest absent =
    ap parameter (append_assoc ts (at k (symbol.Name f) ∷ fixed a terminal.Assign ∷ cs) rest)
    ∙ parameter_step n k t f (ts ++ at k (symbol.Name f) ∷ fixed a terminal.Assign ∷ (cs ++ rest))
    (fixed a terminal.Assign ∷ (cs ++ rest))
    (complete_typed typ (at k (symbol.Name f) ∷ fixed a terminal.Assign ∷ (cs ++ rest)))
    ∙ default_valued n a t f c (cs ++ rest) rest (complete_constant h rest)

starts_parameter : {p : SourceParameter} {xs : List Numbered} → ParameterTokens p xs → Starts begins_type xs
starts_parameter (spelled.bare {ts = ts} n k f typ) = starts_append begins_type ts (at k (symbol.Name f) ∷ []) (starts_type typ)
starts_parameter (spelled.valued {ts = ts} {cs = cs} n k a f typ h) = starts_append begins_type ts (at k (symbol.Name f) ∷ fixed a terminal.Assign ∷ cs) (starts_type typ)

starts_parameters : {all : List SourceParameter} {xs : List Numbered} → ParameterList all xs → Starts begins_type xs
starts_parameters (spelled.one h) = starts_parameter h
starts_parameters (spelled.more {xs = xs} {ys = ys} n h hs) = starts_append begins_type xs (fixed n terminal.Comma ∷ ys) (starts_parameter h)

last_parameter : (t k : ℕ) (before : List SourceParameter) (p : SourceParameter) (i rest : List Numbered)
    → parameter i ≡ Got p (fixed k terminal.Close ∷ rest)
    → parameters_from (suc t) before i ≡ Got (before ++ p ∷ []) rest
unfolding first take same_terminal
last_parameter t k before p i rest e = rw e refl

next_parameter : (t n : ℕ) (before : List SourceParameter) (p : SourceParameter) (i j : List Numbered)
    → parameter i ≡ Got p (fixed n terminal.Comma ∷ j)
    → parameters_from (suc t) before i ≡ parameters_from t (before ++ p ∷ []) j
unfolding first take same_terminal
next_parameter t n before p i j e = rw e refl

parameter_turn : (t : ℕ) (before : List SourceParameter) (i : List Numbered) (o : Outcome (List SourceParameter))
    → length i < t → ((t' : ℕ) → length i ≤ t' → parameters_from (suc t') before i ≡ o) → parameters_from t before i ≡ o
parameter_turn zero before i o lt h = absurd (omega arith)
parameter_turn (suc t) before i o lt h = h t (omega arith)

no_assign_close : (k : ℕ) (rest : List Numbered) → sees terminal.Assign (fixed k terminal.Close ∷ rest) ≡ false
unfolding first same_terminal
no_assign_close k rest = refl

no_assign_comma : (k : ℕ) (rest : List Numbered) → sees terminal.Assign (fixed k terminal.Comma ∷ rest) ≡ false
unfolding first same_terminal
no_assign_comma k rest = refl

complete_parameters : {all : List SourceParameter} {xs : List Numbered} → ParameterList all xs → (t : ℕ) (before : List SourceParameter) (k : ℕ) (rest : List Numbered)
    → length (xs ++ fixed k terminal.Close ∷ rest) < t → parameters_from t before (xs ++ fixed k terminal.Close ∷ rest) ≡ Got (before ++ all) rest
complete_parameters (spelled.one {p = p} {xs = xs} h) t before k rest lt =
    parameter_turn t before (xs ++ fixed k terminal.Close ∷ rest) (Got (before ++ p ∷ []) rest) lt (λ t' le.
    last_parameter t' k before p (xs ++ fixed k terminal.Close ∷ rest) rest (complete_parameter h (fixed k terminal.Close ∷ rest) (no_assign_close k rest)))
complete_parameters (spelled.more {p = p} {all = all} {xs = xs} {ys = ys} n h hs) t before k rest lt =
    let regroup = append_assoc xs (fixed n terminal.Comma ∷ ys) (fixed k terminal.Close ∷ rest) in
    let again : length ((xs ++ fixed n terminal.Comma ∷ ys) ++ fixed k terminal.Close ∷ rest)
    ≡ length xs + (length (ys ++ fixed k terminal.Close ∷ rest) + 1) = ap length regroup
    ∙ tail_length xs (ys ++ fixed k terminal.Close ∷ rest) (fixed n terminal.Comma) in
    let whole : length (xs ++ fixed n terminal.Comma ∷ (ys ++ fixed k terminal.Close ∷ rest))
    ≡ length xs + (length (ys ++ fixed k terminal.Close ∷ rest) + 1) = tail_length xs
    (ys ++ fixed k terminal.Close ∷ rest) (fixed n terminal.Comma) in
    ap (parameters_from t before) regroup
    ∙ parameter_turn t before (xs ++ fixed n terminal.Comma ∷ (ys ++ fixed k terminal.Close ∷ rest)) (Got (before ++ p ∷ all) rest) (omega arith) (λ t' le.
    next_parameter t' n before p (xs ++ fixed n terminal.Comma ∷ (ys ++ fixed k terminal.Close ∷ rest)) (ys ++ fixed k terminal.Close ∷ rest)
    (complete_parameter h (fixed n terminal.Comma ∷ (ys ++ fixed k terminal.Close ∷ rest)) (no_assign_comma n (ys ++ fixed k terminal.Close ∷ rest)))
    ∙ complete_parameters hs t' (before ++ p ∷ []) k rest (omega arith)
    ∙ ap (λ (z : List SourceParameter). Got z rest) (append_assoc before (p ∷ []) all))

no_parameters : (d k : ℕ) (rest : List Numbered) → parameters d (fixed k terminal.Close ∷ rest) ≡ Got [] rest
unfolding parameters first take same_terminal
no_parameters d k rest = refl

some_parameters : (d : ℕ) (i : List Numbered) → sees terminal.Close i ≡ false → parameters d i ≡ parameters_from d [] i
unfolding parameters
some_parameters d i e = rw e refl

pub complete_parameter_list : {all : List SourceParameter} {xs : List Numbered} → Parameters all xs → (d k : ℕ) (rest : List Numbered)
    → length (xs ++ fixed k terminal.Close ∷ rest) < d → parameters d (xs ++ fixed k terminal.Close ∷ rest) ≡ Got all rest
complete_parameter_list spelled.absent d k rest lt = no_parameters d k rest
complete_parameter_list (spelled.present {all = all} {xs = xs} hs) d k rest lt =
    some_parameters d (xs ++ fixed k terminal.Close ∷ rest)
    (no_fixed begins_type terminal.Close refl (xs ++ fixed k terminal.Close ∷ rest)
    (starts_append begins_type xs (fixed k terminal.Close ∷ rest) (starts_parameters hs)))
    ∙ complete_parameters hs d [] k rest lt

constant_step : (a n k b : ℕ) (t : TypeName) (f : List ℕ) (c : Constant) (i j rest : List Numbered) (e : ℕ) → typed i ≡ Got (n, t) (at k (symbol.Name f) ∷ fixed b terminal.Assign ∷ j)
    → constant_value j ≡ Got c (fixed e terminal.Semicolon ∷ rest) → constant_line (fixed a terminal.Const ∷ i) ≡ Got (unit.constant n t (record { token = k; name = f }) c) rest
unfolding constant_line first take same_terminal
constant_step a n k b t f c i j rest e typed_is value_is = rw (typed_is, identifier_step k f (fixed b terminal.Assign ∷ j), value_is) refl

-- a declared name's list begins with its name, and no `(` follows that
open_declared : {x : SourceDeclared} {xs : List Numbered} → Declared x xs → (m : Terminal) (k : ℕ) (rest : List Numbered) → same_terminal terminal.Open m ≡ false
    → (n : ℕ) × (f : List ℕ) × (z : List Numbered) × (xs ++ fixed k m ∷ rest ≡ at n (symbol.Name f) ∷ z) × (sees terminal.Open z ≡ false)
unfolding first same_terminal
open_declared (grammar.bare n f) m k rest absent = (n, f, fixed k m ∷ rest, refl, absent)
open_declared (grammar.valued {xs = xs} n a f e) m k rest absent = (n, f, fixed a terminal.Assign ∷ (xs ++ fixed k m ∷ rest), refl, refl)

open_names : {all : List SourceDeclared} {xs : List Numbered} → DeclaredNames all xs → (k : ℕ) (rest : List Numbered)
    → (n : ℕ) × (f : List ℕ) × (z : List Numbered) × (xs ++ fixed k terminal.Semicolon ∷ rest ≡ at n (symbol.Name f) ∷ z) × (sees terminal.Open z ≡ false)
unfolding same_terminal
open_names (grammar.one h) k rest = open_declared h terminal.Semicolon k rest refl
open_names (grammar.more {xs = xs} {ys = ys} c h hs) k rest =
    let (n, f, z, is, absent) = open_declared h terminal.Comma c (ys ++ fixed k terminal.Semicolon ∷ rest) refl in
    (n, f, z, append_assoc xs (fixed c terminal.Comma ∷ ys) (fixed k terminal.Semicolon ∷ rest) ∙ is, absent)

global_step : (d n k : ℕ) (t : TypeName) (x : Identifier) (all : List SourceDeclared) (z rest : List Numbered)
    → and_then (declared_after d x z) (λ y. more_declared d d (y ∷ [])) ≡ Got all (fixed k terminal.Semicolon ∷ rest) → global d n t x z ≡ Got (unit.global n t all) rest
unfolding global first take same_terminal
global_step d n k t x all z rest e =
    bind_assoc (declared_after d x z) (λ y. more_declared d d (y ∷ [])) (λ all. expect terminal.Semicolon >>= λ k. pure (unit.global n t all))
    ∙ ap (λ (w : Outcome (List SourceDeclared)). and_then w (λ all. expect terminal.Semicolon >>= λ k. pure (unit.global n t all))) e

-- words of types alone
abbrev begins_word : Symbol → Bool
begins_word (symbol.Fixed m) = is_type (type_word m)
begins_word _ = false

module _ (d safe : ℕ) (fits : safe ≤ d) (entries : Parser SourceStmts)
    (complete_entries : (all : SourceStmts) (xs : List Numbered) → Entries false all xs → (k : ℕ) (rest : List Numbered)
    → length (xs ++ fixed k terminal.CloseBrace ∷ rest) < safe → entries (xs ++ fixed k terminal.CloseBrace ∷ rest) ≡ Got all rest) where
  prototype_step : (k : ℕ) (rest : List Numbered) → body d entries (fixed k terminal.Semicolon ∷ rest) ≡ Got None rest
  unfolding body first take same_terminal
  prototype_step k rest = refl

  block_step : (n : ℕ) (all : SourceStmts) (i rest : List Numbered) → entries i ≡ Got all rest → body d entries (fixed n terminal.OpenBrace ∷ i) ≡ Got (Some all) rest
  unfolding body first take same_terminal
  block_step n all i rest e = rw e refl

  complete_body : {b : Option SourceStmts} {bs : List Numbered} → Body b bs → (rest : List Numbered) → length (bs ++ rest) ≤ safe → body d entries (bs ++ rest) ≡ Got b rest
  complete_body (spelled.prototype k) rest le = prototype_step k rest
  complete_body (spelled.block {all = all} {xs = xs} n k h) rest le =
      let regroup = append_assoc xs (fixed k terminal.CloseBrace ∷ []) rest in
      let again : length ((xs ++ fixed k terminal.CloseBrace ∷ []) ++ rest) ≡ length (xs ++ fixed k terminal.CloseBrace ∷ rest) = ap length regroup in
      block_step n all ((xs ++ fixed k terminal.CloseBrace ∷ []) ++ rest) rest (ap entries regroup ∙ complete_entries all xs h k rest (omega arith))

  function_step : (a : ℕ) (t : TypeName) (x : Identifier) (all : List SourceParameter) (b : Option SourceStmts) (i j rest : List Numbered) → parameters d i ≡ Got all j → body d entries j ≡ Got b rest
      → function d entries t x (fixed a terminal.Open ∷ i) ≡ Got (unit.function x.token t x.name all b) rest
  unfolding function take
  function_step a t x all b i j rest ps bs = rw (ps, bs) refl

  pub opens_function : (n k a : ℕ) (t : TypeName) (f : List ℕ) (i : List Numbered)
      → after_type d entries n t (at k (symbol.Name f) ∷ fixed a terminal.Open ∷ i) ≡ function d entries t (record { token = k; name = f }) (fixed a terminal.Open ∷ i)
  unfolding after_type first same_terminal
  opens_function n k a t f i = rw (identifier_step k f (fixed a terminal.Open ∷ i)) refl

  opens_global : (n k : ℕ) (t : TypeName) (f : List ℕ) (z : List Numbered) → sees terminal.Open z ≡ false
      → after_type d entries n t (at k (symbol.Name f) ∷ z) ≡ global d n t (record { token = k; name = f }) z
  unfolding after_type
  opens_global n k t f z absent = rw (identifier_step k f z, absent) refl

  -- an item that begins with a type
  pub type_item : {n : ℕ} {t : TypeName} {ts : List Numbered} → TypeTokens n t ts → (k : ℕ) (f : List ℕ) (z : List Numbered)
      → item d entries (ts ++ at k (symbol.Name f) ∷ z) ≡ after_type d entries n t (at k (symbol.Name f) ∷ z)
  unfolding item after_struct first take same_terminal
  type_item (grammar.word n m t is) k f z =
      let no_struct = no_fixed begins_word terminal.Struct refl (fixed n m ∷ at k (symbol.Name f) ∷ z) (ap is_type is) in
      let no_const = no_fixed begins_word terminal.Const refl (fixed n m ∷ at k (symbol.Name f) ∷ z) (ap is_type is) in
      ap (λ (b : Bool). branch b (after_struct d entries)
      (λ i. branch (sees terminal.Const i) constant_line (typed >>= λ p. after_type d entries p.0 p.1) i)
      (fixed n m ∷ at k (symbol.Name f) ∷ z)) no_struct
      ∙ ap (λ (b : Bool). branch b constant_line (typed >>= λ p. after_type d entries p.0 p.1) (fixed n m ∷ at k (symbol.Name f) ∷ z)) no_const
      ∙ ap (λ (o : Outcome (ℕ × TypeName)). and_then o (λ p. after_type d entries p.0 p.1)) (complete_typed (grammar.word n m t is) (at k (symbol.Name f) ∷ z))
  type_item (grammar.structure n m g) k f z = rw (identifier_step m g (at k (symbol.Name f) ∷ z)) refl

  struct_item : (a n b : ℕ) (f : List ℕ) (i : List Numbered)
      → item d entries (fixed a terminal.Struct ∷ at n (symbol.Name f) ∷ fixed b terminal.OpenBrace ∷ i)
      ≡ structure d (record { token = n; name = f }) (fixed b terminal.OpenBrace ∷ i)
  unfolding item after_struct first take same_terminal
  struct_item a n b f i = rw (identifier_step n f (fixed b terminal.OpenBrace ∷ i)) refl

  const_item : (a : ℕ) (i : List Numbered) → item d entries (fixed a terminal.Const ∷ i) ≡ constant_line (fixed a terminal.Const ∷ i)
  unfolding item first same_terminal
  const_item a i = refl

  complete_global : (n k : ℕ) (t : TypeName) {ts : List Numbered} {all : List SourceDeclared} {xs : List Numbered} → TypeTokens n t ts → DeclaredNames all xs → (rest : List Numbered)
      → length (xs ++ fixed k terminal.Semicolon ∷ rest) < d → item d entries (ts ++ (xs ++ fixed k terminal.Semicolon ∷ rest)) ≡ Got (unit.global n t all) rest
  complete_global n k t {ts = ts} {all = all} {xs = xs} typ h rest lt =
      let (m, f, z, is, absent) = open_names h k rest in
      let names : and_then (declared d (at m (symbol.Name f) ∷ z)) (λ y. more_declared d d (y ∷ [])) ≡ Got all (fixed k terminal.Semicolon ∷ rest) =
      subst (λ (w : List Numbered). and_then (declared d w) (λ y. more_declared d d (y ∷ [])) ≡ Got all (fixed k terminal.Semicolon ∷ rest)) is (complete_names h d d [] k rest lt (omega arith)) in
      ap (λ (w : List Numbered). item d entries (ts ++ w)) is
      ∙ type_item typ m f z
      ∙ opens_global n m t f z absent
      ∙ global_step d n k t (record { token = m; name = f }) all z rest
      (sym (ap (λ (o : Outcome SourceDeclared). and_then o (λ y. more_declared d d (y ∷ []))) (declared_step d m f z)) ∙ names)

  pub complete_item : {x : SourceItem} {xs : List Numbered} → Item x xs → (rest : List Numbered) → length (xs ++ rest) < safe → item d entries (xs ++ rest) ≡ Got x rest
  complete_item (spelled.structure {all = all} {xs = xs} a n b c e f h) rest lt =
      let regroup = append_assoc xs (fixed c terminal.CloseBrace ∷ fixed e terminal.Semicolon ∷ []) rest in
      let again : length ((xs ++ fixed c terminal.CloseBrace ∷ fixed e terminal.Semicolon ∷ []) ++ rest)
      ≡ length (xs ++ fixed c terminal.CloseBrace ∷ fixed e terminal.Semicolon ∷ rest) = ap length regroup in
      struct_item a n b f ((xs ++ fixed c terminal.CloseBrace ∷ fixed e terminal.Semicolon ∷ []) ++ rest)
      ∙ structure_step d b e (record { token = n; name = f }) all ((xs ++ fixed c terminal.CloseBrace ∷ fixed e terminal.Semicolon ∷ []) ++ rest) rest
      (ap (fields_from d d []) regroup ∙ complete_fields h d d [] c (fixed e terminal.Semicolon ∷ rest) (omega arith) (omega arith))
  complete_item (spelled.constant {t = t} {c = c} {ts = ts} {cs = cs} a n k b e f typ h) rest lt =
      let inner = append_assoc cs (fixed e terminal.Semicolon ∷ []) rest in
      let regroup : (ts ++ at k (symbol.Name f) ∷ fixed b terminal.Assign ∷ (cs ++ fixed e terminal.Semicolon ∷ []))
      ++ rest ≡ ts ++ at k (symbol.Name f) ∷ fixed b terminal.Assign ∷ (cs ++ fixed e terminal.Semicolon ∷ rest) =
      append_assoc ts (at k (symbol.Name f) ∷ fixed b terminal.Assign ∷ (cs ++ fixed e terminal.Semicolon ∷ [])) rest ∙ ap (λ z. ts ++ at k (symbol.Name f) ∷ fixed b terminal.Assign ∷ z) inner in
      const_item a ((ts ++ at k (symbol.Name f) ∷ fixed b terminal.Assign ∷ (cs ++ fixed e terminal.Semicolon ∷ [])) ++ rest)
      ∙ ap (λ z. constant_line (fixed a terminal.Const ∷ z)) regroup
      ∙ constant_step a n k b t f c (ts ++ at k (symbol.Name f) ∷ fixed b terminal.Assign ∷ (cs ++ fixed e terminal.Semicolon ∷ rest)) (cs ++ fixed e terminal.Semicolon ∷ rest) rest e
      (complete_typed typ (at k (symbol.Name f) ∷ fixed b terminal.Assign ∷ (cs ++ fixed e terminal.Semicolon ∷ rest))) (complete_constant h (fixed e terminal.Semicolon ∷ rest))
  complete_item (spelled.global {t = t} {all = all} {ts = ts} {xs = xs} n k typ h) rest lt =
      let regroup : (ts ++ (xs ++ fixed k terminal.Semicolon ∷ [])) ++ rest ≡ ts ++ (xs ++ fixed k terminal.Semicolon ∷ rest) =
      append_assoc ts (xs ++ fixed k terminal.Semicolon ∷ []) rest ∙ ap (λ z. ts ++ z) (append_assoc xs (fixed k terminal.Semicolon ∷ []) rest) in
      let again : length ((ts ++ (xs ++ fixed k terminal.Semicolon ∷ [])) ++ rest) ≡ length (ts ++ (xs ++ fixed k terminal.Semicolon ∷ rest)) = ap length regroup in
      let shorter = after_length ts (xs ++ fixed k terminal.Semicolon ∷ rest) in
      ap (item d entries) regroup ∙ complete_global n k t typ h rest (omega arith)
  complete_item (spelled.function {t = t} {all = all} {body = b} {ts = ts} {xs = xs} {bs = bs} n k a c f typ ps h) rest lt =
      let inner : (xs ++ fixed c terminal.Close ∷ bs) ++ rest ≡ xs ++ fixed c terminal.Close ∷ (bs ++ rest) = append_assoc xs (fixed c terminal.Close ∷ bs) rest in
      let regroup : (ts ++ at k (symbol.Name f) ∷ fixed a terminal.Open ∷ (xs ++ fixed c terminal.Close ∷ bs)) ++ rest
      ≡ ts ++ at k (symbol.Name f) ∷ fixed a terminal.Open ∷ (xs ++ fixed c terminal.Close ∷ (bs ++ rest)) =
      append_assoc ts (at k (symbol.Name f) ∷ fixed a terminal.Open ∷ (xs ++ fixed c terminal.Close ∷ bs)) rest ∙ ap (λ z. ts ++ at k (symbol.Name f) ∷ fixed a terminal.Open ∷ z) inner in
      let again : length ((ts ++ at k (symbol.Name f) ∷ fixed a terminal.Open ∷ (xs ++ fixed c terminal.Close ∷ bs))
      ++ rest) ≡ length (ts ++ at k (symbol.Name f) ∷ fixed a terminal.Open ∷
      (xs ++ fixed c terminal.Close ∷ (bs ++ rest))) = ap length regroup in
      let shorter = after_length ts (at k (symbol.Name f) ∷ fixed a terminal.Open ∷ (xs ++ fixed c terminal.Close ∷ (bs ++ rest))) in
      let body_shorter = after_length xs (fixed c terminal.Close ∷ (bs ++ rest)) in
      ap (item d entries) regroup
      ∙ type_item typ k f (fixed a terminal.Open ∷ (xs ++ fixed c terminal.Close ∷ (bs ++ rest)))
      ∙ opens_function n k a t f (xs ++ fixed c terminal.Close ∷ (bs ++ rest))
      ∙ function_step a t (record { token = k; name = f }) all b (xs ++ fixed c terminal.Close ∷ (bs ++ rest)) (bs ++ rest) rest
      (complete_parameter_list ps d c (bs ++ rest) (omega arith)) (complete_body h rest (omega arith))

  -- an item has tokens
  pub some_item : {x : SourceItem} {xs : List Numbered} → Item x xs → (s : Numbered) × (r : List Numbered) × (xs ≡ s ∷ r)
  some_item (spelled.structure {xs = xs} a n b c e f h) = (
    fixed a terminal.Struct,
    at n (symbol.Name f) ∷ fixed b terminal.OpenBrace ∷
        (xs ++ fixed c terminal.CloseBrace ∷ fixed e terminal.Semicolon ∷ []),
    refl,
  )
  some_item (spelled.constant {ts = ts} {cs = cs} a n k b e f typ h) = (fixed a terminal.Const, ts ++ at k (symbol.Name f) ∷ fixed b terminal.Assign ∷ (cs ++ fixed e terminal.Semicolon ∷ []), refl)
  some_item (spelled.global {xs = xs} n k typ h) = type_first typ (xs ++ fixed k terminal.Semicolon ∷ [])
    where
      type_first : {n : ℕ} {t : TypeName} {ts : List Numbered} → TypeTokens n t ts → (i : List Numbered) → (s : Numbered) × (r : List Numbered) × (ts ++ i ≡ s ∷ r)
      type_first (grammar.word n m t is) i = (fixed n m, i, refl)
      type_first (grammar.structure n k f) i = (fixed n terminal.Struct, at k (symbol.Name f) ∷ i, refl)
  some_item (spelled.function {xs = xs} {bs = bs} n k a c f typ ps h) = type_first typ (at k (symbol.Name f) ∷ fixed a terminal.Open ∷ (xs ++ fixed c terminal.Close ∷ bs))
    where
      type_first : {n : ℕ} {t : TypeName} {ts : List Numbered} → TypeTokens n t ts → (i : List Numbered) → (s : Numbered) × (r : List Numbered) × (ts ++ i ≡ s ∷ r)
      type_first (grammar.word n m t is) i = (fixed n m, i, refl)
      type_first (grammar.structure n k f) i = (fixed n terminal.Struct, at k (symbol.Name f) ∷ i, refl)

  items_end : (t : ℕ) (before : SourceItems) → items_from d entries (suc t) before [] ≡ Got before []
  unfolding first
  items_end t before = refl

  items_more : (t : ℕ) (before : SourceItems) (s : Numbered) (r : List Numbered) (x : SourceItem) (rest : List Numbered) → item d entries (s ∷ r) ≡ Got x rest
      → items_from d entries (suc t) before (s ∷ r) ≡ items_from d entries t (before ++ x ∷ []) rest
  unfolding first
  items_more t before s r x rest e = rw e refl

  items_turn : (t : ℕ) (before : SourceItems) (i : List Numbered) (o : Outcome SourceItems) → length i < t
      → ((t' : ℕ) → length i ≤ t' → items_from d entries (suc t') before i ≡ o) → items_from d entries t before i ≡ o
  items_turn zero before i o lt h = absurd (omega arith)
  items_turn (suc t) before i o lt h = h t (omega arith)

  complete_items_from : {all : SourceItems} {xs : List Numbered} → Items all xs → (t : ℕ) (before : SourceItems)
      → length xs < safe → length xs < t → items_from d entries t before xs ≡ Got (before ++ all) []
  complete_items_from spelled.none t before ls lt = items_turn t before [] (Got (before ++ []) []) lt (λ t' le. items_end t' before ∙ ap (λ (z : SourceItems). Got z []) (sym (append-nil before)))
  complete_items_from (spelled.more {x = x} {all = all} {xs = xs} {ys = ys} h hs) t before ls lt =
      let (s, r, is) = some_item h in
      let begins : xs ++ ys ≡ s ∷ (r ++ ys) = ap (λ (z : List Numbered). z ++ ys) is in
      let one_more : length xs ≡ suc (length r) = ap length is in
      let whole = length-append xs ys in
      items_turn t before (xs ++ ys) (Got (before ++ x ∷ all) []) lt (λ t' le.
      ap (items_from d entries (suc t') before) begins
      ∙ items_more t' before s (r ++ ys) x ys (sym (ap (item d entries) begins) ∙ complete_item h ys ls)
      ∙ complete_items_from hs t' (before ++ x ∷ []) (omega arith) (omega arith)
      ∙ ap (λ (z : SourceItems). Got z []) (append_assoc before (x ∷ []) all))

  -- the whole unit
  pub complete_items : {all : SourceItems} {xs : List Numbered} → Items all xs → length xs < safe → items d entries xs ≡ Got all []
  unfolding items
  complete_items h lt = complete_items_from h d [] lt (omega arith)
