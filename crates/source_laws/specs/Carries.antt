-- Where the code of a listed script stands, and which captured states carry which deferred calls.
use Rattle.std.specs.Prelude.{◌≡◌, ℕ, List, [], ◌∷◌, ◌++◌, map, length, reverse, Option, None, Some, slice_get, slice_index_or}
use Rattle.nss_tree.specs.Statements.{block, empty, expression, if_only, if_else, while_loop, do_loop, for_loop, switch, break_off, continue_on, return_from, declaration, case_label, default_label, no_stmt, more_stmts}
use Rattle.nss_tree.specs.Units.{structure, constant, global, function}
use Rattle.nwq_value.specs.declared.value.Ty.{Ty}
use Rattle.nwq_value.specs.declared.value.Ty.TheVariants.{Void}
use Rattle.typing_rules.specs.Typed.{TypedName, TypedStmt, TypedStmts, TypedParameter, TypedItem, TypedUnit}
use Rattle.typing_rules.specs.Numbers.{number_of}
use Rattle.ncs_code.specs.Plain as ops
use Rattle.ncs_emit.specs.Labelled.{Instruction, place_of_label, program}
use Rattle.ncs_emit.specs.Standing.{LinesStand}
use Rattle.saved_state.specs.declared.saved.Saved.{Saved}
use Rattle.emission_rules.specs.Layout.{layout_of}
use Rattle.emission_rules.specs.Expressions.{emit}
use Rattle.emission_rules.specs.Units.{unit_code}
use Rattle.machine_rules.specs.Frames.{Frame}
use Rattle.source_meaning.specs.Evaluation.{Deferred}
use Rattle.source_meaning.specs.Fields.{struct_fields}
use Rattle.source_meaning.specs.Scripts.{Listed, Setting, functions, global_names}
use Rattle.source_laws.specs.Kept.{AreHeld, Site, Vars}
use Rattle.source_laws.specs.Fine.{IsFine}

-- ---- the types of a unit's variables, in the order of their numbers

abbrev pub type_of_name : TypedName → Ty
type_of_name d = d.name.ty

abbrev pub type_of_parameter : TypedParameter → Ty
type_of_parameter p = p.ty

abbrev mutual
  pub declared_types : TypedStmt → List Ty
  declared_types (block n xs) = all_declared_types xs
  declared_types (empty n) = []
  declared_types (expression n x) = []
  declared_types (if_only n x a) = declared_types a
  declared_types (if_else n x a b) = declared_types a ++ declared_types b
  declared_types (while_loop n x a) = declared_types a
  declared_types (do_loop n a x) = declared_types a
  declared_types (for_loop n x y z a) = declared_types a
  declared_types (switch n x xs) = all_declared_types xs
  declared_types (break_off n) = []
  declared_types (continue_on n) = []
  declared_types (return_from n x) = []
  declared_types (declaration n t ds) = map type_of_name ds
  declared_types (case_label n c) = []
  declared_types (default_label n) = []

  pub all_declared_types : TypedStmts → List Ty
  all_declared_types no_stmt = []
  all_declared_types (more_stmts x xs) = declared_types x ++ all_declared_types xs

abbrev pub body_types : Option TypedStmts → List Ty
body_types None = []
body_types (Some xs) = all_declared_types xs

abbrev pub item_types : TypedItem → List Ty
item_types (structure n x ls) = []
item_types (constant n t x k) = []
item_types (global n t ds) = map type_of_name ds
item_types (function n t x ps body) = map type_of_parameter ps ++ body_types body

abbrev pub items_types : List TypedItem → List Ty
items_types [] = []
items_types (i ∷ is) = item_types i ++ items_types is

abbrev pub variable_type : TypedUnit → ℕ → Ty
variable_type u n = slice_index_or (items_types u.items) n Void

-- ---- a listed script that runs

-- as an object, with scripts that wait for it, once its globals are made
abbrev pub unit_site : ℕ → TypedUnit → ℕ → List Frame → Site
unit_site script u self waiting = record {
  script = script;
  code = program (unit_code u).lines;
  places = place_of_label (unit_code u).lines;
  self = self;
  waiting = waiting;
  layout = layout_of u;
  types = variable_type u;
  fields = struct_fields u.items;
  globals = map number_of (global_names u.items);
  bp = (layout_of u).globals;
}

-- A captured state carries a deferred call: it is of the same script, its place is that of the
-- call's code, and the copied values stand on its cells: that of each global, and that of each
-- variable of the frame that was in sight. Other cells hold any value.
pub record Carries (s : Setting) (c : Saved) (d : Deferred) : Type 0 where
  pub script : c.script ≡ d.script
  pub listed : Listed
  pub is : slice_get s.scripts d.script ≡ Some listed
  pub label : ℕ
  pub stands : LinesStand (program (unit_code listed.unit).lines)
      (place_of_label (unit_code listed.unit).lines) c.place
      (emit (layout_of listed.unit) label (length c.locals) d.call ++ Instruction ops.Retn ∷ [])
  pub fine : (self : ℕ) (waiting : List Frame)
      → IsFine s.table (functions listed.unit.items)
      (unit_site d.script listed.unit self waiting) d.sight d.call
  pub locals : (self : ℕ) (waiting : List Frame)
      → Vars (unit_site d.script listed.unit self waiting) d.sight (reverse c.locals) d.locals
  pub globals : (self : ℕ) (waiting : List Frame)
      → Vars (unit_site d.script listed.unit self waiting)
      (map number_of (global_names listed.unit.items)) (reverse c.globals) d.globals
  pub size : length c.globals ≡ (layout_of listed.unit).globals
  pub locals_held : AreHeld (reverse c.locals)
  pub globals_held : AreHeld (reverse c.globals)
