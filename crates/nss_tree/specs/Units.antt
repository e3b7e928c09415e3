-- The plain tree of a unit: its items, over the types of their expressions E, constants C, types T
-- and declared names N. The first number is the node's token.
use Rattle.std.specs.Prelude.{ℕ, List, Option, map}
use Rattle.std.specs.Option.{option_map}
use Rattle.nss_tree.specs.declared.statements.DeclaredName.{DeclaredName}
use Rattle.nss_tree.specs.declared.units.FieldLine.{FieldLine}
use Rattle.nss_tree.specs.declared.units.Identifier.{Identifier}
use Rattle.nss_tree.specs.declared.units.Parameter.{Parameter}
use Rattle.nss_tree.specs.Statements.{PlainStmts, map_declared, map_stmts}

pub data PlainItem (E C T N : Type 0) : Type 0 where
  structure : ℕ → List ℕ → List (FieldLine T) → PlainItem E C T N
  constant : ℕ → T → Identifier → C → PlainItem E C T N
  global : ℕ → T → List (DeclaredName E N) → PlainItem E C T N
  function : ℕ → T → List ℕ → List (Parameter C T N) → Option (PlainStmts E C T N) → PlainItem E C T N  -- with no body a prototype

-- A unit's items, and how many tokens the unit has: the number of the place behind its last token.
pub record PlainTree (E C T N : Type 0) : Type 0 where
  pub items : List (PlainItem E C T N)
  pub count : ℕ

-- the same with other expressions
abbrev pub map_item : {E F C T N : Type 0} → (E → F) → PlainItem E C T N → PlainItem F C T N
map_item f (structure n x lines) = structure n x lines
map_item f (constant n t x c) = constant n t x c
map_item f (global n t ds) = global n t (map (map_declared f) ds)
map_item f (function n t x ps body) = function n t x ps (option_map (map_stmts f) body)
