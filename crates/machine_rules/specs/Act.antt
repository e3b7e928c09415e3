-- What one instruction does in a running script. No world is looked at: an engine call says what it
-- asks.
use Rattle.std.specs.Prelude.{ℕ, ℤ, pos, ◌+◌, List, [], ◌∷◌, length, slice_get, Option, None, Some, Bool, true, false, not, ◌&&◌, ◌==◌, nat_le, if◌then◌else◌}
use Rattle.std.specs.Option.{option_map, option_and_then}
use Rattle.nwq_value.specs.declared.value.Value.{Value}
use Rattle.nwq_value.specs.declared.value.Value.TheVariants.{Text, Object}
use Rattle.nwq_value.specs.declared.engine.Routine.{Routine}
use Rattle.nwq_value.specs.Engine.{EngineTable}
use Rattle.nwq_value.specs.Operators.{both, either, negation, bits_and, bits_or, bits_xor, complement, shift_left, shift_right, shift_right_unsigned, sum, difference, product, quotient, remainder, opposite, less, less_or_equal, greater, greater_or_equal, joined_texts}
use Rattle.ncs_code.specs.Plain.{PlainOp}
use Rattle.ncs_code.specs.Plain as ops
use Rattle.ncs_code.specs.Spelling.{op_size}
use Rattle.ncs_code.specs.File.{jump_place, resume_place}
use Rattle.saved_state.specs.declared.cell.Cell.{Cell}
use Rattle.saved_state.specs.declared.cell.Cell.TheVariants.{Base}
use Rattle.saved_state.specs.declared.saved.Saved.{Saved}
use Rattle.saved_state.specs.Cells.{StackView, cells_beneath, captured}
use Rattle.stack_shape.specs.declared.range.CellRange.{CellRange}
use Rattle.stack_shape.specs.Ranges.{cell_count, depth_of, range_at}
use Rattle.stack_shape.specs.StackEffects.{type_of_both}
use Rattle.machine_rules.specs.Values.{literal_value, starting_value}
use Rattle.machine_rules.specs.Cells.{values_on, from_bp, of_int, of_ints, of_texts, on_int, zero_on_top, value_pushed, range_pushed, range_written, int_changed, values_dropped, range_kept, runs_compared, pair_compared}
use Rattle.machine_rules.specs.Frames.{Frame}
use Rattle.machine_rules.specs.Calls.{Taken, arguments, is_execute_script}

-- ---- instructions that change nothing but the cells

-- only the rows of ints have a rule
abbrev pub if_ints : ℕ → Option (List Cell) → Option (List Cell)
if_ints kind cells = if kind == 0x20 then cells else None

abbrev pub compared : (Bool → Bool) → ℕ → ℕ → List Cell → Option (List Cell)
compared answer kind size cells =
    if kind == 0x24 then runs_compared answer (cell_count size) cells else pair_compared answer
    (type_of_both kind) cells

abbrev pub added : ℕ → List Cell → Option (List Cell)
added kind cells = if kind == 0x20 then of_ints sum cells else if kind == 0x23 then of_texts joined_texts cells else None

-- the int that JZ and JNZ take
abbrev pub int_dropped : List Cell → Option (List Cell)
int_dropped cells = on_int cells (λ n rest. Some rest)

abbrev pub one_more : ℤ → ℤ
one_more n = sum n (pos 1)

abbrev pub one_less : ℤ → ℤ
one_less n = difference n (pos 1)

-- a range whose offset counts from BP
abbrev pub bp_range : StackView → ℤ → ℕ → Option CellRange
bp_range s offset size = option_and_then (from_bp s) (range_at offset size)

-- The cells after an instruction of a script that runs with this object as self: none where it
-- doesn't fit the cells.
unfoldable pub cells_after : PlainOp → ℕ → StackView → Option (List Cell)
cells_after (ops.CpDownSp offset size) self s = range_written (range_at offset size) s.cells
cells_after (ops.RsAdd kind) self s = value_pushed (starting_value kind) s.cells
cells_after (ops.CpTopSp offset size) self s = range_pushed (range_at offset size) s.cells
cells_after (ops.Const lit) self s = value_pushed (literal_value self lit) s.cells
cells_after (ops.Action routine count) self s = None
cells_after ops.LogAnd self s = of_ints both s.cells
cells_after ops.LogOr self s = of_ints either s.cells
cells_after ops.IncOr self s = of_ints bits_or s.cells
cells_after ops.ExcOr self s = of_ints bits_xor s.cells
cells_after ops.BoolAnd self s = of_ints bits_and s.cells
cells_after (ops.Equal kind size) self s = compared (λ b. b) kind size s.cells
cells_after (ops.Nequal kind size) self s = compared not kind size s.cells
cells_after (ops.Geq kind) self s = if_ints kind (of_ints greater_or_equal s.cells)
cells_after (ops.Gt kind) self s = if_ints kind (of_ints greater s.cells)
cells_after (ops.Lt kind) self s = if_ints kind (of_ints less s.cells)
cells_after (ops.Leq kind) self s = if_ints kind (of_ints less_or_equal s.cells)
cells_after ops.ShLeft self s = of_ints shift_left s.cells
cells_after ops.ShRight self s = of_ints shift_right s.cells
cells_after ops.UshRight self s = of_ints shift_right_unsigned s.cells
cells_after (ops.Add kind) self s = added kind s.cells
cells_after (ops.Sub kind) self s = if_ints kind (of_ints difference s.cells)
cells_after (ops.Mul kind) self s = if_ints kind (of_ints product s.cells)
cells_after (ops.Div kind) self s = if_ints kind (of_ints quotient s.cells)
cells_after ops.Mod self s = of_ints remainder s.cells
cells_after (ops.Neg kind) self s = if kind == 0x03 then of_int opposite s.cells else None
cells_after ops.Comp self s = of_int complement s.cells
cells_after (ops.MovSp offset) self s = values_dropped (depth_of offset) s.cells
cells_after (ops.Jmp offset) self s = Some s.cells
cells_after (ops.Jsr offset) self s = None
cells_after (ops.Jz offset) self s = int_dropped s.cells
cells_after ops.Retn self s = None
cells_after (ops.Destruct total offset size) self s = range_kept total offset size s.cells
cells_after ops.Not self s = of_int negation s.cells
cells_after (ops.DecISp offset) self s = int_changed one_less (range_at offset 4) s.cells
cells_after (ops.IncISp offset) self s = int_changed one_more (range_at offset 4) s.cells
cells_after (ops.Jnz offset) self s = int_dropped s.cells
cells_after (ops.CpDownBp offset size) self s = range_written (bp_range s offset size) s.cells
cells_after (ops.CpTopBp offset size) self s = range_pushed (bp_range s offset size) s.cells
cells_after (ops.DecIBp offset) self s = int_changed one_less (bp_range s offset 4) s.cells
cells_after (ops.IncIBp offset) self s = int_changed one_more (bp_range s offset 4) s.cells
cells_after ops.SaveBp self s = None
cells_after ops.RestoreBp self s = None
cells_after (ops.StoreState globals locals) self s = None
cells_after ops.Nop self s = Some s.cells

-- whether the top cell is a divisor
abbrev pub is_division : PlainOp → Bool
is_division (ops.Div kind) = true
is_division ops.Mod = true
is_division _ = false

-- the place of the instruction behind one that stands at a place
abbrev pub next_place : ℕ → PlainOp → ℕ
next_place at op = at + op_size op

-- the place that follows an instruction at a place, on these cells before it
abbrev pub place_after : PlainOp → ℕ → List Cell → ℕ
place_after (ops.Jmp offset) at cells = jump_place at offset
place_after (ops.Jz offset) at cells = if zero_on_top cells then jump_place at offset else next_place at (ops.Jz offset)
place_after (ops.Jnz offset) at cells = if zero_on_top cells then next_place at
    (ops.Jnz offset) else jump_place at offset
place_after op at cells = next_place at op

-- ---- every instruction

-- what an instruction comes to
pub data Act : Type 0 where
  -- the script goes on
  Moves : Frame → Act
  -- the engine is called: the routine's number, the arguments that are values, the action, and the
  -- frame without them
  Asks : ℕ → List Value → Option Saved → Frame → Act
  -- the script of this name is to run at once with this object as self
  Executes : List ℕ → ℕ → Frame → Act
  -- the script is over
  Returns : Act
  -- a divisor is 0
  Divides : Act

-- an instruction that changes nothing but the cells
abbrev pub moved : PlainOp → Frame → Option Act
moved op f = option_map (λ cells. if is_division op && zero_on_top f.stack.cells then Divides
    else Moves (record f {
      place = place_after op f.place f.stack.cells;
      stack = record f.stack { cells = cells };
    }))
    (cells_after op f.self f.stack)

-- JSR and RETN
abbrev pub subroutine_called : ℤ → Frame → Act
subroutine_called offset f = Moves
    (record f {
      place = jump_place f.place offset;
      calls = next_place f.place (ops.Jsr offset) ∷ f.calls;
    })

abbrev pub returned : List ℕ → Frame → Act
returned [] f = Returns
returned (place ∷ calls) f = Moves (record f { place = place; calls = calls })

-- SAVEBP: BP stands beneath a new base cell, which keeps the old one.
abbrev pub based : Frame → Act
based f = Moves (record f {
  place = next_place f.place ops.SaveBp;
  stack = record { cells = Base f.stack.bp ∷ f.stack.cells; bp = length f.stack.cells };
})

-- RESTOREBP: the base cell on top is taken off.
abbrev pub restored : List Cell → Frame → Option Act
restored (Base bp ∷ cells) f = Some
    (Moves (record f {
      place = next_place f.place ops.RestoreBp;
      stack = record { cells = cells; bp = bp };
    }))
restored _ f = None

-- STORE_STATE: so many values beneath BP and so many on top are captured.
abbrev pub stored_cells : ℕ → ℕ → Frame → Option Saved
stored_cells globals locals f =
    if nat_le f.stack.bp (length f.stack.cells)
    then option_and_then (λ _. option_map
    (λ _. captured f.script (resume_place f.place) globals locals f.stack)
    (values_on locals f.stack.cells)) (values_on globals (cells_beneath f.stack.bp f.stack.cells))
    else None

abbrev pub stored : ℕ → ℕ → Frame → Option Act
stored globals locals f =
    option_and_then (λ g. option_and_then (λ l. option_map (λ saved.
    Moves (record f {
      place = next_place f.place (ops.StoreState globals locals);
      pending = saved ∷ f.pending;
    })) (stored_cells g l f))
    (cell_count locals)) (cell_count globals)

-- ACTION: the frame behind the call, without what the call takes
abbrev pub behind_call : ℕ → ℕ → Frame → Taken → Frame
behind_call routine count f t = record f {
  place = next_place f.place (ops.Action routine count);
  stack = record f.stack { cells = t.cells };
  pending = t.pending;
}

-- a name and a target
abbrev pub executed : List Value → Frame → Option Act
executed (Text name ∷ Object target ∷ []) f = Some (Executes name target f)
executed _ f = None

abbrev pub asked : ℕ → ℕ → Routine → Frame → Taken → Option Act
asked routine count r f t =
    if is_execute_script r.role then executed t.values (behind_call routine count f t)
    else Some (Asks routine t.values t.action (behind_call routine count f t))

abbrev pub engine_called : EngineTable → ℕ → ℕ → Frame → Option Act
engine_called table routine count f =
    option_and_then (λ r. option_and_then (asked routine count r f)
    (arguments r count f.stack.cells f.pending)) (slice_get table.routines routine)

-- What an instruction comes to in a running script: none where it has no case there.
unfoldable pub act : EngineTable → PlainOp → Frame → Option Act
act table (ops.Action routine count) f = engine_called table routine count f
act table (ops.Jsr offset) f = Some (subroutine_called offset f)
act table ops.Retn f = Some (returned f.calls f)
act table ops.SaveBp f = Some (based f)
act table ops.RestoreBp f = restored f.stack.cells f
act table (ops.StoreState globals locals) f = stored globals locals f
act table op f = moved op f
