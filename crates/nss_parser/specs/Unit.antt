-- The grammar of a unit: structs, consts, globals and functions.
use Rattle.std.specs.Prelude.{ℕ, List, [], ◌∷◌, ◌++◌, false, Option, None, Some}
use Rattle.nss_tree.specs.Source.{SourceDeclared, SourceItem, SourceItems, SourceLine, SourceParameter, SourceStmts}
use Rattle.nss_tree.specs.declared.constants.TypeName.{TypeName}
use Rattle.nss_tree.specs.declared.constants.Constant.{Constant}
use Rattle.nss_tree.specs.declared.units.Identifier.{Identifier}
use Rattle.nss_tree.specs.Units as unit
use Rattle.nss_symbols.specs.declared.terminal.Terminal.TheVariants as terminal
use Rattle.nss_symbols.specs.Symbols as symbol
use Rattle.nss_symbols.specs.Symbols.{Numbered, at, fixed}
use Rattle.nss_parser.specs.Grammar.{TypeTokens, ConstantTokens, DeclaredNames, Entries}

-- names of fields, with commas between
pub data FieldNames : List Identifier → List Numbered → Type 0 where
  one : (n : ℕ) (f : List ℕ)
      → FieldNames (record { token = n; name = f } ∷ []) (at n (symbol.Name f) ∷ [])
  more : {all : List Identifier} {xs : List Numbered} (n k : ℕ) (f : List ℕ) → FieldNames all xs
      → FieldNames (record { token = n; name = f } ∷ all)
      (at n (symbol.Name f) ∷ fixed k terminal.Comma ∷ xs)

-- field = type name { "," name } ";"
pub data Field : SourceLine → List Numbered → Type 0 where
  line : {t : TypeName} {names : List Identifier} {ts ns : List Numbered} (n k : ℕ)
      → TypeTokens n t ts → FieldNames names ns
      → Field (record { token = n; ty = t; names = names })
      (ts ++ (ns ++ fixed k terminal.Semicolon ∷ []))

-- one field line or more
pub data Fields : List SourceLine → List Numbered → Type 0 where
  one : {f : SourceLine} {xs : List Numbered} → Field f xs → Fields (f ∷ []) xs
  more : {f : SourceLine} {all : List SourceLine} {xs ys : List Numbered} → Field f xs
      → Fields all ys → Fields (f ∷ all) (xs ++ ys)

-- param = type name [ "=" constant ]
pub data ParameterTokens : SourceParameter → List Numbered → Type 0 where
  bare : {t : TypeName} {ts : List Numbered} (n k : ℕ) (f : List ℕ) → TypeTokens n t ts
      → ParameterTokens (record { token = n; ty = t; name = f; default = None })
      (ts ++ at k (symbol.Name f) ∷ [])
  valued : {t : TypeName} {c : Constant} {ts cs : List Numbered} (n k a : ℕ) (f : List ℕ)
      → TypeTokens n t ts → ConstantTokens c cs
      → ParameterTokens (record { token = n; ty = t; name = f; default = Some c })
      (ts ++ at k (symbol.Name f) ∷ fixed a terminal.Assign ∷ cs)

-- one parameter or more, with commas between
pub data ParameterList : List SourceParameter → List Numbered → Type 0 where
  one : {p : SourceParameter} {xs : List Numbered} → ParameterTokens p xs
      → ParameterList (p ∷ []) xs
  more : {p : SourceParameter} {all : List SourceParameter} {xs ys : List Numbered} (n : ℕ)
      → ParameterTokens p xs → ParameterList all ys
      → ParameterList (p ∷ all) (xs ++ fixed n terminal.Comma ∷ ys)

pub data Parameters : List SourceParameter → List Numbered → Type 0 where
  absent : Parameters [] []
  present : {all : List SourceParameter} {xs : List Numbered} → ParameterList all xs
      → Parameters all xs

-- the body of a function, or of a prototype `;`
pub data Body : Option SourceStmts → List Numbered → Type 0 where
  prototype : (k : ℕ) → Body None (fixed k terminal.Semicolon ∷ [])
  block : {all : SourceStmts} {xs : List Numbered} (n k : ℕ) → Entries false all xs
      → Body (Some all) (fixed n terminal.OpenBrace ∷ (xs ++ fixed k terminal.CloseBrace ∷ []))

-- struct | const | global | function
pub data Item : SourceItem → List Numbered → Type 0 where
  structure : {all : List SourceLine} {xs : List Numbered} (a n b c d : ℕ) (f : List ℕ)
      → Fields all xs
      → Item (unit.structure n f all)
      (fixed a terminal.Struct ∷ at n (symbol.Name f) ∷ fixed b terminal.OpenBrace ∷
      (xs ++ fixed c terminal.CloseBrace ∷ fixed d terminal.Semicolon ∷ []))
  constant : {t : TypeName} {c : Constant} {ts cs : List Numbered} (a n k b d : ℕ) (f : List ℕ)
      → TypeTokens n t ts → ConstantTokens c cs
      → Item (unit.constant n t (record { token = k; name = f }) c)
      (fixed a terminal.Const ∷
      (ts ++ at k (symbol.Name f) ∷ fixed b terminal.Assign ∷
      (cs ++ fixed d terminal.Semicolon ∷ [])))
  global : {t : TypeName} {all : List SourceDeclared} {ts xs : List Numbered} (n k : ℕ)
      → TypeTokens n t ts → DeclaredNames all xs
      → Item (unit.global n t all) (ts ++ (xs ++ fixed k terminal.Semicolon ∷ []))
  function : {t : TypeName} {all : List SourceParameter} {body : Option SourceStmts} {ts xs bs : List Numbered} (n k a b : ℕ) (f : List ℕ)
      → TypeTokens n t ts → Parameters all xs → Body body bs
      → Item (unit.function k t f all body)
      (ts ++ at k (symbol.Name f) ∷ fixed a terminal.Open ∷ (xs ++ fixed b terminal.Close ∷ bs))

-- unit = { struct | const | global | function }
pub data Items : SourceItems → List Numbered → Type 0 where
  none : Items [] []
  more : {x : SourceItem} {all : SourceItems} {xs ys : List Numbered} → Item x xs → Items all ys
      → Items (x ∷ all) (xs ++ ys)
