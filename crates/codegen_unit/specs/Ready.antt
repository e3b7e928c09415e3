-- When the code of a statement can be added to labelled code.
use Rattle.std.specs.Prelude.{◌≡◌, ℕ, ◌+◌, ◌<◌, ◌≤◌, ◌^◌, Bool, true, false, List, Option, None, Some, IsTrue}
use Rattle.ncs_emit.specs.Labelled.{Line, placements}
use Rattle.typing_rules.specs.Typed.{TypedExpr, TypedItem, TypedName, TypedStmt, TypedStmts}
use Rattle.emission_rules.specs.Layout.{Layout}
use Rattle.emission_rules.specs.Bounds.{frame_limit, stmt_weight, all_stmt_weight, names_weight, globals_weight, IsStmt, AreStmts, AreNames, AreItems}
use Rattle.emission_rules.specs.Units.{body_count, functions_labels, globals_labels}
use Rattle.emission_rules.specs.Statements as code
use Rattle.emission_rules.specs.Statements.{stmt_labels, all_stmt_labels, names_labels, count_labels}
use Rattle.codegen_expr.specs.Emitted.{CanBeEmitted}
use Rattle.codegen_unit.specs.declared.exits.Target.{Target}
use Rattle.codegen_unit.specs.declared.exits.Exits.{Exits}

-- ---- where `break` and `continue` lead

abbrev pub leads : Option Target → Bool
leads None = false
leads (Some t) = true

abbrev pub label_of : Option Target → ℕ
label_of None = 0
label_of (Some t) = t.label

abbrev pub depth_of : Option Target → ℕ
depth_of None = 0
depth_of (Some t) = t.depth

abbrev pub plain_exits : Exits → code.Exits
plain_exits e = record {
  break_to = label_of e.break_to;
  break_depth = depth_of e.break_to;
  continue_to = label_of e.continue_to;
  continue_depth = depth_of e.continue_to;
}

-- the label was made
abbrev pub IsMade : ℕ → Option Target → Type 0
IsMade made None = Unit {0}
IsMade made (Some t) = t.label < made

-- ---- parts that may be absent

abbrev pub IsPartReady : ℕ → Layout → ℕ → Option TypedExpr → Type 0
IsPartReady made l depth None = l.globals ≤ frame_limit
IsPartReady made l depth (Some x) = CanBeEmitted made l depth x

-- ---- statements

pub record StmtReady (made : ℕ) (l : Layout) (depth : ℕ) (exits : Exits)
    (x : TypedStmt) : Type 0 where
  pub bounded : IsStmt made l (leads exits.break_to) (leads exits.continue_to) x
  pub deep : depth + stmt_weight x ≤ frame_limit
  pub globals : l.globals ≤ frame_limit
  pub labelled : made + stmt_labels x < 2 ^ 32
  pub break_made : IsMade made exits.break_to
  pub continue_made : IsMade made exits.continue_to

pub record StmtsReady (made : ℕ) (l : Layout) (depth : ℕ) (exits : Exits)
    (xs : TypedStmts) : Type 0 where
  pub bounded : AreStmts made l (leads exits.break_to) (leads exits.continue_to) xs
  pub deep : depth + all_stmt_weight xs ≤ frame_limit
  pub globals : l.globals ≤ frame_limit
  pub labelled : made + all_stmt_labels xs < 2 ^ 32
  pub break_made : IsMade made exits.break_to
  pub continue_made : IsMade made exits.continue_to

pub record NamesReady (made : ℕ) (l : Layout) (depth : ℕ) (xs : List TypedName) : Type 0 where
  pub bounded : AreNames made l xs
  pub deep : depth + names_weight xs ≤ frame_limit
  pub globals : l.globals ≤ frame_limit
  pub labelled : made + names_labels xs < 2 ^ 32

-- the body of a loop, whose own labels were made
pub record LoopReady (made : ℕ) (l : Layout) (depth : ℕ) (x : TypedStmt) : Type 0 where
  pub bounded : IsStmt made l true true x
  pub deep : depth + stmt_weight x ≤ frame_limit
  pub globals : l.globals ≤ frame_limit
  pub labelled : made + stmt_labels x < 2 ^ 32

-- the body of a switch, whose own labels were made, inside of what is around it
pub record SwitchReady (made : ℕ) (l : Layout) (depth : ℕ) (around : Exits)
    (xs : TypedStmts) : Type 0 where
  pub bounded : AreStmts made l true (leads around.continue_to) xs
  pub deep : depth + all_stmt_weight xs ≤ frame_limit
  pub globals : l.globals ≤ frame_limit
  pub labelled : made + all_stmt_labels xs < 2 ^ 32
  pub continue_made : IsMade made around.continue_to

-- The labels of a switch from a number on were made and are placed nowhere: as many as these
-- statements place.
pub record AreOpen (made : ℕ) (lines : List Line) (at : ℕ) (xs : TypedStmts) : Type 0 where
  pub inside : at + count_labels xs ≤ made
  pub unplaced : (label : ℕ) → at ≤ label → label < at + count_labels xs
      → placements lines label ≡ 0

abbrev pub AreOpenIn : ℕ → List Line → Option ℕ → TypedStmts → Type 0
AreOpenIn made lines None xs = Unit {0}
AreOpenIn made lines (Some at) xs = AreOpen made lines at xs

-- the one label that a statement may be
abbrev pub IsOpenAt : ℕ → List Line → Option ℕ → TypedStmt → Type 0
IsOpenAt made lines None x = Unit {0}
IsOpenAt made lines (Some at) x = IsTrue (code.is_label x) → (at < made) × (placements lines at ≡ 0)

-- ---- items

-- the functions of these items: their own labels were made
pub record FunctionsReady (made : ℕ) (l : Layout) (items : List TypedItem) : Type 0 where
  pub bounded : AreItems made l items
  pub globals : l.globals ≤ frame_limit
  pub labelled : made + functions_labels items < 2 ^ 32

-- the labels of the functions of these items, from a number on, were made and are placed nowhere
pub record AreFunctionsOpen (made : ℕ) (lines : List Line) (at : ℕ)
    (items : List TypedItem) : Type 0 where
  pub inside : at + body_count items ≤ made
  pub unplaced : (label : ℕ) → at ≤ label → label < at + body_count items
      → placements lines label ≡ 0

-- the globals of these items, at a depth
pub record GlobalsReady (made : ℕ) (l : Layout) (depth : ℕ) (items : List TypedItem) : Type 0 where
  pub bounded : AreItems made l items
  pub deep : depth + globals_weight items ≤ frame_limit
  pub globals : l.globals ≤ frame_limit
  pub labelled : made + globals_labels items < 2 ^ 32
