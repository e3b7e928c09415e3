-- The code of a whole unit: its start, then every function with a body, in the order of the bodies;
-- and its file.
use Rattle.std.specs.Prelude.{ℕ, ◌+◌, Bool, true, false, List, [], ◌∷◌, ◌++◌, None, Some}
use Rattle.nss_tree.specs.Units.{global, function}
use Rattle.ncs_code.specs.Plain as ops
use Rattle.ncs_code.specs.File.{file_bytes}
use Rattle.ncs_emit.specs.declared.jump.Jump.TheVariants.{Jsr}
use Rattle.ncs_emit.specs.Labelled.{Line, Instruction, JumpTo, Label, LabelledCode, program}
use Rattle.nwq_value.specs.declared.value.Ty.TheVariants.{Int}
use Rattle.typing_rules.specs.declared.places.EntryPoint.{EntryPoint}
use Rattle.typing_rules.specs.declared.places.EntryPoint.TheVariants.{Main, Conditional}
use Rattle.typing_rules.specs.Typed.{TypedStmts, TypedParameter, TypedItem, TypedUnit}
use Rattle.emission_rules.specs.Layout.{Layout, layout_of, params_cells, all_declared_cells, item_cells}
use Rattle.emission_rules.specs.Operations.{dropped, started}
use Rattle.emission_rules.specs.Statements.{no_exits, names_labels, emit_names, all_stmt_labels, emit_stmts}

-- ---- functions. The labels from 0 on are those of the bodies in their order.

abbrev pub body_count : List TypedItem → ℕ
body_count [] = 0
body_count (function n t x ps (Some body) ∷ is) = 1 + body_count is
body_count (_ ∷ is) = body_count is

abbrev pub functions_labels : List TypedItem → ℕ
functions_labels [] = 0
functions_labels (function n t x ps (Some body) ∷ is) = all_stmt_labels body + functions_labels is
functions_labels (_ ∷ is) = functions_labels is

-- with n the next label, and f the label of the function
abbrev pub emit_function : Layout → ℕ → ℕ → List TypedParameter → TypedStmts → List Line
emit_function l n f ps body =
    Label f ∷ (emit_stmts l no_exits n (params_cells l.structs ps) None body
    ++ (dropped (all_declared_cells l.structs body)
    ++ (dropped (params_cells l.structs ps)
    ++ Instruction ops.Retn ∷ [])))

abbrev pub emit_functions : Layout → ℕ → ℕ → List TypedItem → List Line
emit_functions l n f [] = []
emit_functions l n f (function m t x ps (Some body) ∷ is) =
    emit_function l n f ps body ++ emit_functions l (n + all_stmt_labels body) (f + 1) is
emit_functions l n f (_ ∷ is) = emit_functions l n f is

-- ---- the start

abbrev pub has_globals : List TypedItem → Bool
has_globals [] = false
has_globals (global n t xs ∷ is) = true
has_globals (_ ∷ is) = has_globals is

abbrev pub globals_labels : List TypedItem → ℕ
globals_labels [] = 0
globals_labels (global n t xs ∷ is) = names_labels xs + globals_labels is
globals_labels (_ ∷ is) = globals_labels is

-- the globals as declarations, at the bottom of the stack
abbrev pub emit_globals : Layout → ℕ → ℕ → List TypedItem → List Line
emit_globals l n depth [] = []
emit_globals l n depth (global m t xs ∷ is) =
    emit_names l n depth xs ++ emit_globals l (n + names_labels xs)
    (depth + item_cells l.structs (global m t xs)) is
emit_globals l n depth (_ ∷ is) = emit_globals l n depth is

-- The result of a condition is taken off: who started it reads it before.
abbrev pub entry_call : EntryPoint → List Line
entry_call (Main f) = JumpTo Jsr f ∷ []
entry_call (Conditional f) = started (Int ∷ []) ++ JumpTo Jsr f ∷ dropped 1

-- with n the next label: none is taken where there are no globals
abbrev pub start_labels : Bool → List TypedItem → ℕ
start_labels false items = 0
start_labels true items = 1 + globals_labels items

abbrev pub emit_start : Layout → ℕ → Bool → List TypedItem → EntryPoint → List Line
emit_start l n false items entry = entry_call entry ++ Instruction ops.Retn ∷ []
emit_start l n true items entry =
    JumpTo Jsr n ∷ Instruction ops.Retn ∷ Label n
    ∷ (emit_globals l (n + 1) 0 items
    ++ (Instruction ops.SaveBp ∷ (entry_call entry
    ++ (Instruction ops.RestoreBp ∷ (dropped l.globals
    ++ Instruction ops.Retn ∷ [])))))

-- ---- a unit

abbrev pub unit_code : TypedUnit → LabelledCode
unit_code u = record {
  lines =
      emit_start (layout_of u) (body_count u.items) (has_globals u.items) u.items u.entry
      ++ emit_functions (layout_of u)
      (body_count u.items + start_labels (has_globals u.items) u.items) 0 u.items;
  labels = body_count u.items + start_labels
      (has_globals u.items) u.items + functions_labels u.items;
}

-- the bytes of its file
abbrev pub unit_file : TypedUnit → List ℕ
unit_file u = file_bytes (program (unit_code u).lines)
