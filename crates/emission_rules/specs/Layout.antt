-- Where values stand: the position of each variable in its frame or among the globals.
use Rattle.std.specs.Prelude.{ℕ, ◌+◌, List, [], ◌∷◌, ◌++◌, Option, None, Some, slice_index_or}
use Rattle.nss_tree.specs.Statements.{block, if_only, if_else, while_loop, do_loop, for_loop, switch, declaration, no_stmt, more_stmts}
use Rattle.nss_tree.specs.Units.{global, function}
use Rattle.typing_rules.specs.Typed.{TypedName, TypedStmt, TypedStmts, TypedParameter, TypedItem, TypedUnit}
use Rattle.typing_rules.specs.Cells.{Structs, cells, structs_from}

-- ---- how many cells are declared

abbrev pub params_cells : Structs → List TypedParameter → ℕ
params_cells structs [] = 0
params_cells structs (p ∷ ps) = cells structs p.ty + params_cells structs ps

abbrev pub names_cells : Structs → List TypedName → ℕ
names_cells structs [] = 0
names_cells structs (x ∷ xs) = cells structs x.name.ty + names_cells structs xs

-- the cells by which a statement leaves the frame deeper than it was
abbrev pub declared_cells : Structs → TypedStmt → ℕ
declared_cells structs (declaration n t xs) = names_cells structs xs
declared_cells structs _ = 0

abbrev pub all_declared_cells : Structs → TypedStmts → ℕ
all_declared_cells structs no_stmt = 0
all_declared_cells structs
    (more_stmts x xs) = declared_cells structs x + all_declared_cells structs xs

abbrev pub item_cells : Structs → TypedItem → ℕ
item_cells structs (global n t xs) = names_cells structs xs
item_cells structs _ = 0

abbrev pub global_cells : Structs → List TypedItem → ℕ
global_cells structs [] = 0
global_cells structs (i ∷ is) = item_cells structs i + global_cells structs is

-- ---- positions: how many cells of the frame stand beneath a variable, in the order of the
-- variables' numbers

-- The parameters are pushed last to first, so the last one has position 0.
abbrev pub params_positions : Structs → List TypedParameter → List ℕ
params_positions structs [] = []
params_positions structs (p ∷ ps) = params_cells structs ps ∷ params_positions structs ps

-- declared one after another at this depth
abbrev pub names_positions : Structs → ℕ → List TypedName → List ℕ
names_positions structs depth [] = []
names_positions structs depth (x ∷ xs) = depth ∷ names_positions structs
    (depth + cells structs x.name.ty) xs

abbrev mutual
  pub positions : Structs → ℕ → TypedStmt → List ℕ
  positions structs depth (block n xs) = all_positions structs depth xs
  positions structs depth (if_only n e a) = positions structs depth a
  positions structs depth (if_else n e a b) = positions structs depth a ++ positions structs depth b
  positions structs depth (while_loop n e a) = positions structs depth a
  positions structs depth (do_loop n a e) = positions structs depth a
  positions structs depth (for_loop n x y z a) = positions structs depth a
  positions structs depth (switch n e xs) = all_positions structs (depth + 1) xs
  positions structs depth (declaration n t xs) = names_positions structs depth xs
  positions structs depth _ = []

  pub all_positions : Structs → ℕ → TypedStmts → List ℕ
  all_positions structs depth no_stmt = []
  all_positions structs depth (more_stmts x xs) = positions structs depth x
      ++ all_positions structs (depth + declared_cells structs x) xs

abbrev pub body_positions : Structs → ℕ → Option TypedStmts → List ℕ
body_positions structs depth None = []
body_positions structs depth (Some xs) = all_positions structs depth xs

-- so many cells of globals stand before the item
abbrev pub item_positions : Structs → ℕ → TypedItem → List ℕ
item_positions structs globals (global n t xs) = names_positions structs globals xs
item_positions structs globals (function n t x ps body) = params_positions structs ps
    ++ body_positions structs (params_cells structs ps) body
item_positions structs globals _ = []

abbrev pub items_positions : Structs → ℕ → List TypedItem → List ℕ
items_positions structs globals [] = []
items_positions structs globals (i ∷ is) = item_positions structs globals i
    ++ items_positions structs (globals + item_cells structs i) is

-- ---- a unit

pub record Layout : Type 0 where
  pub structs : Structs
  -- of each variable, by its number
  pub positions : List ℕ
  -- the cells of all globals
  pub globals : ℕ

abbrev pub layout_with : Structs → List TypedItem → Layout
layout_with structs items = record {
  structs = structs;
  positions = items_positions structs 0 items;
  globals = global_cells structs items;
}

abbrev pub layout_of : TypedUnit → Layout
layout_of u = layout_with (structs_from [] u.items) u.items

abbrev pub position : Layout → ℕ → ℕ
position l n = slice_index_or l.positions n 0
