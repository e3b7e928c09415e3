-- What an instruction comes to in a frame whose values have room: a frame, and what the engine is
-- asked, whose values have room.
use Rattle.std.proofs.Common.{◌≡◌, ℕ, zero, suc, ◌+◌, ◌≤◌, Bool, true, false, List, [], ◌∷◌, length, take, Option, Some, None, arith, refl, if◌then◌else◌}
use Rattle.std.specs.Prelude.{nat_le, slice_get, ◌==◌, ◌&&◌}
use Rattle.std.specs.List.{AllByRecursion}
use Rattle.std.specs.Option.{option_map, option_and_then}
use Rattle.std.proofs.lemmas.Bool.Decides.{nat_tests}
use Rattle.nwq_value.specs.declared.value.Ty.{Ty}
use Rattle.nwq_value.specs.declared.value.Value.{Value}
use Rattle.nwq_value.specs.declared.value.Value.TheVariants.{Text, Object}
use Rattle.nwq_value.specs.declared.engine.Param.{Param}
use Rattle.nwq_value.specs.declared.engine.Routine.{Routine}
use Rattle.nwq_value.specs.Engine.{EngineTable}
use Rattle.nwq_value.specs.Roles.{ty_eq}
use Rattle.nwq_value.specs.Values.{type_of}
use Rattle.ncs_code.specs.Plain.{PlainOp}
use Rattle.ncs_code.specs.Plain as ops
use Rattle.ncs_code.specs.Spelling.{IsOp, op_size}
use Rattle.ncs_code.specs.File.{IsCode, header_size, ops_size, op_at, op_from, resume_place}
use Rattle.saved_state.specs.declared.cell.Cell.{Cell}
use Rattle.saved_state.specs.declared.cell.Cell.TheVariants.{Value as Holds, Base}
use Rattle.saved_state.specs.declared.saved.Saved.{Saved}
use Rattle.saved_state.specs.Cells.{cells_beneath, captured}
use Rattle.stack_shape.specs.Ranges.{cell_count}
use Rattle.stack_shape.specs.Calls.{is_action, is_callable}
use Rattle.machine_rules.specs.Frames.{Frame}
use Rattle.machine_rules.specs.Cells.{values_on, zero_on_top}
use Rattle.machine_rules.specs.Calls.{Taken, with_value, with_action, value_taken, action_taken, taken, arguments, is_execute_script}
use Rattle.machine_rules.specs.Act.{Act, Moves, Asks, Executes, Returns, Divides, act, moved, returned, restored, stored, stored_cells, executed, asked, behind_call, engine_called, is_division}
use Rattle.machine_rules.specs.Act.{place_after, next_place, cells_after}
use Rattle.state_format.specs.Parts.{IsMaybe, IsNumber}
use Rattle.play_room.specs.Room.{CellHasRoom, SavedHasRoom}
use Rattle.play_room.specs.Kept.{StackedHasRoom, ActionHasRoom}
use Rattle.play_room.proofs.Lists.{all_drop, all_reverse, mapped, after, after_any, either, some_or_none}
use Rattle.play_room.proofs.Cells.{CellsHaveRoom, ValuesHaveRoom, cells_room}

-- ---- frames

pub record FrameIsKept (f : Frame) : Type 0 where
  pub script : IsNumber 4 f.script
  pub cells : CellsHaveRoom f.stack.cells
  pub pending : AllByRecursion SavedHasRoom f.pending
  pub self : IsNumber 4 f.self

pub record AskedIsKept (values : List Value) (action : Option Saved) (f : Frame) : Type 0 where
  pub given : ValuesHaveRoom values
  pub stored : ActionHasRoom action
  pub frame : FrameIsKept f

abbrev pub ActIsKept : Act → Type 0
ActIsKept (Moves f) = FrameIsKept f
ActIsKept (Asks routine values action f) = AskedIsKept values action f
ActIsKept (Executes name target f) = IsNumber 4 target × FrameIsKept f
ActIsKept Returns = Unit {0}
ActIsKept Divides = Unit {0}

-- an instruction of a file, at a place behind which code that is stored has one that fits
pub record StandsWell (place : ℕ) (op : PlainOp) : Type 0 where
  pub is_op : IsOp op
  pub resumes : IsNumber 4 (resume_place place)

-- ---- instructions of files

-- the instruction is one of these, and its place is within them
record StandsWithin (limit place : ℕ) (op : PlainOp) : Type 0 where
  is_op : IsOp op
  within : place ≤ limit

widened : (at size rest place : ℕ) (o : Option PlainOp) → IsMaybe (StandsWithin (at + size + rest) place) o → IsMaybe (StandsWithin (at + (size + rest)) place) o
widened at size rest place None h = tt
widened at size rest place (Some x) h = let w = h.within in record { is_op = h.is_op; within = omega (arith, w) }

op_within : (at : ℕ) (code : List PlainOp) (place : ℕ) → AllByRecursion IsOp code → IsMaybe (StandsWithin (at + ops_size code) place) (op_from at code place)
op_within at [] place all = tt
op_within at (op ∷ code) place all = on (op_within (at + op_size op) code place all.1) (place == at) refl
  where
    on : IsMaybe (StandsWithin (at + op_size op + ops_size code) place) (op_from (at + op_size op) code place) → (b : Bool) → (place == at) ≡ b
        → IsMaybe (StandsWithin (at + (op_size op + ops_size code)) place) (if b then Some op else op_from (at + op_size op) code place)
    on rest true e = record { is_op = all.0; within = grind (arith, nat_tests) }
    on rest false e = widened at (op_size op) (ops_size code) place (op_from (at + op_size op) code place) rest

pub stands_well : (code : List PlainOp) (place : ℕ) → IsCode code → IsMaybe (StandsWell place) (op_at code place)
unfolding op_at
stands_well code place is = bounded (op_from header_size code place) (op_within header_size code place is.each)
  where
    bounded : (o : Option PlainOp) → IsMaybe (StandsWithin (header_size + ops_size code) place) o → IsMaybe (StandsWell place) o
    bounded None h = tt
    bounded (Some op) h = let w = h.within in let b = is.bounded in record { is_op = h.is_op; resumes = omega (arith, w, b) }

-- ---- captured states

-- cells of which so many on top are values have no base among these
values_alone : (n : ℕ) (cells : List Cell) → CellsHaveRoom cells → IsMaybe (λ (vs : List Value). AllByRecursion CellHasRoom (take n cells)) (values_on n cells)
values_alone zero cells all = tt
values_alone (suc n) [] all = tt
values_alone (suc n) (Base bp ∷ cells) all = tt
values_alone (suc n) (Holds v ∷ cells) all =
    mapped (λ (vs : List Value). AllByRecursion CellHasRoom (take (suc n) (Holds v ∷ cells))) (λ (vs : List Value). AllByRecursion CellHasRoom (take n cells))
    (λ vs. v ∷ vs) (λ vs h. (all.0, h)) (values_on n cells) (values_alone n cells all.1)

stored_room : (globals locals : ℕ) (f : Frame) → IsNumber 4 (resume_place f.place) → FrameIsKept f → IsMaybe SavedHasRoom (stored_cells globals locals f)
stored_room globals locals f resumes k =
    let beneath = cells_beneath f.stack.bp f.stack.cells in
    some_or_none SavedHasRoom (nat_le f.stack.bp (length f.stack.cells)) _
    (after SavedHasRoom (λ (vs : List Value). AllByRecursion CellHasRoom (take globals beneath)) _
    (λ vs g. mapped SavedHasRoom (λ (us : List Value). AllByRecursion CellHasRoom (take locals f.stack.cells)) (λ us. captured f.script (resume_place f.place) globals locals f.stack)
    (λ us l. record {
      script = k.script;
      place = resumes;
      globals = all_reverse CellHasRoom (take globals beneath) g;
      locals = all_reverse CellHasRoom (take locals f.stack.cells) l;
    }) (values_on locals f.stack.cells) (values_alone locals f.stack.cells k.cells))
    (values_on globals beneath) (values_alone globals beneath (all_drop StackedHasRoom _ f.stack.cells k.cells)))

stored_kept : (globals locals : ℕ) (f : Frame) → IsNumber 4 (resume_place f.place) → FrameIsKept f → IsMaybe ActIsKept (stored globals locals f)
stored_kept globals locals f resumes k =
    let go = λ (saved : Saved). Moves (record f { place = next_place f.place (ops.StoreState globals locals); pending = saved ∷ f.pending }) in
    after_any ActIsKept (λ g. option_and_then (λ l. option_map go (stored_cells g l f)) (cell_count locals))
    (λ g. after_any ActIsKept (λ l. option_map go (stored_cells g l f))
    (λ l. mapped ActIsKept SavedHasRoom go (λ saved room. record { script = k.script; cells = k.cells; pending = (room, k.pending); self = k.self })
    (stored_cells g l f) (stored_room g l f resumes k)) (cell_count locals)) (cell_count globals)

-- ---- calls

record TakenIsKept (t : Taken) : Type 0 where
  values : ValuesHaveRoom t.values
  action : ActionHasRoom t.action
  cells : CellsHaveRoom t.cells
  pending : AllByRecursion SavedHasRoom t.pending

value_kept : (type : Ty) (cells : List Cell) (go : List Cell → Option Taken) → CellsHaveRoom cells
    → ((rest : List Cell) → CellsHaveRoom rest → IsMaybe TakenIsKept (go rest)) → IsMaybe TakenIsKept (value_taken type cells go)
value_kept type [] go all keeps = tt
value_kept type (Base bp ∷ cells) go all keeps = tt
value_kept type (Holds v ∷ cells) go all keeps =
    some_or_none TakenIsKept (ty_eq (type_of v) type) (option_map (with_value v) (go cells))
    (mapped TakenIsKept TakenIsKept (with_value v) (λ t h. record { values = (all.0, h.values); action = h.action; cells = h.cells; pending = h.pending }) (go cells) (keeps cells all.1))

action_kept : (pending : List Saved) (go : List Saved → Option Taken) → AllByRecursion SavedHasRoom pending
    → ((rest : List Saved) → AllByRecursion SavedHasRoom rest → IsMaybe TakenIsKept (go rest)) → IsMaybe TakenIsKept (action_taken pending go)
action_kept [] go all keeps = tt
action_kept (saved ∷ pending) go all keeps =
    mapped TakenIsKept TakenIsKept (with_action saved) (λ t h. record { values = h.values; action = all.0; cells = h.cells; pending = h.pending }) (go pending) (keeps pending all.1)

taken_kept : (ps : List Param) (cells : List Cell) (pending : List Saved) → CellsHaveRoom cells → AllByRecursion SavedHasRoom pending → IsMaybe TakenIsKept (taken ps cells pending)
taken_kept [] cells pending all waiting = record { values = tt; action = tt; cells = all; pending = waiting }
taken_kept (p ∷ ps) cells pending all waiting =
    either (IsMaybe TakenIsKept) (is_action p.ty) (action_taken pending (λ rest. taken ps cells rest)) (value_taken p.ty cells (λ rest. taken ps rest pending))
    (action_kept pending (λ rest. taken ps cells rest) waiting (λ rest more. taken_kept ps cells rest all more))
    (value_kept p.ty cells (λ rest. taken ps rest pending) all (λ rest more. taken_kept ps rest pending more waiting))

arguments_kept : (r : Routine) (count : ℕ) (f : Frame) → FrameIsKept f → IsMaybe TakenIsKept (arguments r count f.stack.cells f.pending)
arguments_kept r count f k = some_or_none TakenIsKept (is_callable r && (count == length r.params)) _ (taken_kept r.params f.stack.cells f.pending k.cells k.pending)

executed_kept : (values : List Value) (f : Frame) → ValuesHaveRoom values → FrameIsKept f → IsMaybe ActIsKept (executed values f)
executed_kept (Text name ∷ Object target ∷ []) f all k = (all.1.0, k)
executed_kept values f all k = tt

asked_kept : (routine count : ℕ) (r : Routine) (f : Frame) → FrameIsKept f → (t : Taken) → TakenIsKept t → IsMaybe ActIsKept (asked routine count r f t)
asked_kept routine count r f k t h =
    let behind : FrameIsKept (behind_call routine count f t) = record { script = k.script; cells = h.cells; pending = h.pending; self = k.self } in
    either (IsMaybe ActIsKept) (is_execute_script r.role) (executed t.values (behind_call routine count f t)) (Some (Asks routine t.values t.action (behind_call routine count f t)))
    (executed_kept t.values (behind_call routine count f t) h.values behind) (record { given = h.values; stored = h.action; frame = behind })

called_kept : (table : EngineTable) (routine count : ℕ) (f : Frame) → FrameIsKept f → IsMaybe ActIsKept (engine_called table routine count f)
called_kept table routine count f k =
    after_any ActIsKept (λ r. option_and_then (asked routine count r f) (arguments r count f.stack.cells f.pending))
    (λ r. after ActIsKept TakenIsKept (asked routine count r f) (asked_kept routine count r f k) (arguments r count f.stack.cells f.pending) (arguments_kept r count f k))
    (slice_get table.routines routine)

-- ---- every instruction

moved_kept : (op : PlainOp) (f : Frame) → IsOp op → FrameIsKept f → IsMaybe ActIsKept (moved op f)
moved_kept op f is k =
    mapped ActIsKept CellsHaveRoom _
    (λ cells room. either ActIsKept (is_division op && zero_on_top f.stack.cells) Divides
    (Moves (record f { place = place_after op f.place f.stack.cells; stack = record f.stack { cells = cells } })) tt
    (record { script = k.script; cells = room; pending = k.pending; self = k.self }))
    (cells_after op f.self f.stack) (cells_room op f.self f.stack is.fits k.self k.cells)

returned_kept : (calls : List ℕ) (f : Frame) → FrameIsKept f → ActIsKept (returned calls f)
returned_kept [] f k = tt
returned_kept (place ∷ calls) f k = record { script = k.script; cells = k.cells; pending = k.pending; self = k.self }

restored_kept : (cells : List Cell) (f : Frame) → CellsHaveRoom cells → FrameIsKept f → IsMaybe ActIsKept (restored cells f)
restored_kept [] f all k = tt
restored_kept (Holds v ∷ cells) f all k = tt
restored_kept (Base bp ∷ cells) f all k = record { script = k.script; cells = all.1; pending = k.pending; self = k.self }

pub act_kept : (table : EngineTable) (op : PlainOp) (f : Frame) → StandsWell f.place op → FrameIsKept f → IsMaybe ActIsKept (act table op f)
unfolding act
act_kept table (ops.Action routine count) f is k = called_kept table routine count f k
act_kept table (ops.Jsr offset) f is k = record { script = k.script; cells = k.cells; pending = k.pending; self = k.self }
act_kept table ops.Retn f is k = returned_kept f.calls f k
act_kept table ops.SaveBp f is k = record { script = k.script; cells = (tt, k.cells); pending = k.pending; self = k.self }
act_kept table ops.RestoreBp f is k = restored_kept f.stack.cells f k.cells k
act_kept table (ops.StoreState globals locals) f is k = stored_kept globals locals f is.resumes k
act_kept table op f is k = moved_kept op f is.is_op k
