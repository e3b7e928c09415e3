-- What the marks of a unit tell of its code.
use Rattle.std.specs.Prelude.{◌≡◌, ◌≤◌, ◌<◌, ℕ, zero, suc, ◌+◌, List, [], ◌∷◌, ◌++◌, map, length, slice_get, None, Some}
use Rattle.nss_tree.specs.Units.{function}
use Rattle.ncs_code.specs.File.{header_size}
use Rattle.ncs_emit.specs.Labelled.{Line, Instruction, JumpTo, Label, line_size, lines_size}
use Rattle.typing_rules.specs.Typed.{TypedExpr, TypedName, TypedStmt, TypedStmts, TypedParameter, TypedUnit}
use Rattle.nwq_value.specs.declared.value.Ty.{Ty}
use Rattle.emission_rules.specs.Layout.{Layout, layout_of}
use Rattle.emission_rules.specs.Expressions.{emit}
use Rattle.emission_rules.specs.Statements.{Exits, emit_stmt, initial}
use Rattle.emission_rules.specs.Units.{emit_function, unit_code}
use Rattle.code_places.specs.Nodes.{Node, AnExpression, AStatement, AName, AnItem, nodes_expr, nodes_item, unit_nodes}
use Rattle.code_places.specs.Numbers.{Number}
use Rattle.code_places.specs.Marks.{Mark, function_marks, marks, unit_marks}
use Rattle.code_places.specs.Seeking.{node_at}

-- the lines that are instructions: labels take no byte
abbrev pub instructions : List Line → List Line
instructions [] = []
instructions (Instruction op ∷ lines) = Instruction op ∷ instructions lines
instructions (JumpTo kind label ∷ lines) = JumpTo kind label ∷ instructions lines
instructions (Label label ∷ lines) = instructions lines

abbrev pub count : List Line → ℕ
count lines = length (instructions lines)

-- whose an instruction is, by its number among the instructions
abbrev pub owner : List Mark → ℕ → Number
owner [] i = None
owner (m ∷ ms) zero = m.node
owner (m ∷ ms) (suc i) = owner ms i

-- Lines that are the whole code of a node, at some depth and from some label on.
pub data IsCodeOf (l : Layout) (node : Node) (code : List Line) : Type 0 where
  of_expression : (n depth : ℕ) (e : TypedExpr) → node ≡ AnExpression e → code ≡ emit l n depth e
      → IsCodeOf l node code
  of_statement : (out : Exits) (n depth : ℕ) (x : TypedStmt) → node ≡ AStatement x
      → code ≡ emit_stmt l out n depth x → IsCodeOf l node code
  of_name : (n depth : ℕ) (d : TypedName) → node ≡ AName d
      → code ≡ initial l n depth d.name.ty d.value → IsCodeOf l node code
  of_function : (n f m : ℕ) (t : Ty) (x : List ℕ) (ps : List TypedParameter) (body : TypedStmts)
      → node ≡ AnItem (function m t x ps (Some body)) → code ≡ emit_function l n f ps body
      → IsCodeOf l node code

-- The lines are the whole code of the node of this number.
pub record HasCode (l : Layout) (nodes : List Node) (number : ℕ) (code : List Line) : Type 0 where
  pub node : Node
  pub numbered : slice_get nodes number ≡ Some node
  pub is : IsCodeOf l node code

-- The instruction of this number among those of the lines stands in the code of that node.
pub record StandsIn (Code : ℕ → List Line → Type 0) (lines : List Line) (i number : ℕ) : Type 0 where
  pub before : List Line
  pub code : List Line
  pub behind : List Line
  pub whole : lines ≡ before ++ (code ++ behind)
  pub from : count before ≤ i
  pub to : i < count before + count code
  pub is : Code number code

-- Each instruction of a unit's code has a mark, with its size.
abbrev pub SizesAgree : Type 0
SizesAgree = (u : TypedUnit)
    → map (λ (m : Mark). m.size) (unit_marks u)
    ≡ map line_size (instructions (unit_code u).lines)

-- And it stands in the code of the node that its mark names.
abbrev pub OwnersHold : Type 0
OwnersHold = (u : TypedUnit) (i number : ℕ) → owner (unit_marks u) i ≡ Some number
    → StandsIn (HasCode (layout_of u) (unit_nodes u)) (unit_code u).lines i number

-- A line of the unit's code that the byte at this place of the file lies in.
pub record LiesIn (lines : List Line) (place i : ℕ) : Type 0 where
  pub before : List Line
  pub line : Line
  pub behind : List Line
  pub whole : lines ≡ before ++ line ∷ behind
  pub number : count before ≡ i
  pub from : header_size + lines_size before ≤ place
  pub to : place < header_size + lines_size before + line_size line

-- The byte at a place for which a node is told lies in an instruction that stands in that node's
-- code.
abbrev pub PlacesHold : Type 0
PlacesHold = (u : TypedUnit) (place number : ℕ) → node_at u place ≡ Some number
    → (i : ℕ) × (LiesIn (unit_code u).lines place i
    × StandsIn (HasCode (layout_of u) (unit_nodes u)) (unit_code u).lines i number)

-- The instructions of a node's code, wherever it stands, are the node's or those of nodes in it: by
-- their numbers, of which the node has the first. So the marks of a part, which stand where its code
-- does, are none of the node around it; and those of a function are of nodes in the function.
pub record NodesOwn : Type 0 where
  pub exprs : (l : Layout) (k : ℕ) (e : TypedExpr) (i number : ℕ)
      → owner (marks l (Some k) e) i ≡ Some number
      → (k ≤ number) × (number < k + length (nodes_expr e))
  pub functions : (l : Layout) (k m : ℕ) (t : Ty) (x : List ℕ) (ps : List TypedParameter)
      (body : TypedStmts) (i number : ℕ) → owner (function_marks l (Some k) ps body) i ≡ Some number
      → (k ≤ number) × (number < k + length (nodes_item (function m t x ps (Some body))))
