-- How deep an instruction looks: so many of the topmost slots, of the cells and of the list beneath
-- BP.
use Rattle.std.specs.Prelude.{ℕ, ◌+◌, Option, None, Some, length, slice_get, ◌==◌, if◌then◌else◌}
use Rattle.nwq_value.specs.declared.engine.Routine.{Routine}
use Rattle.nwq_value.specs.Engine.{EngineTable}
use Rattle.ncs_code.specs.Plain.{PlainOp}
use Rattle.ncs_code.specs.Plain as ops
use Rattle.stack_shape.specs.declared.range.CellRange.{CellRange}
use Rattle.stack_shape.specs.declared.reach.Reach.{Reach}
use Rattle.stack_shape.specs.Ranges.{cell_count, depth_of, range_at}
use Rattle.stack_shape.specs.Calls.{argument_types}

-- so many cells, where an instruction names a number of them
abbrev pub counted_cells : Option ℕ → ℕ
counted_cells None = 0
counted_cells (Some n) = n

-- down to the end of a range, where an instruction names one
abbrev pub range_end : Option CellRange → ℕ
range_end None = 0
range_end (Some r) = r.above + r.count

abbrev pub range_count : Option CellRange → ℕ
range_count None = 0
range_count (Some r) = r.count

-- so many of the cells alone
abbrev pub in_cells : ℕ → Reach
in_cells n = record { cells = n; under = 0 }

-- down to the end of a range beneath BP, and so many cells
abbrev pub beneath_bp : ℕ → Option CellRange → Reach
beneath_bp n range = record { cells = n; under = range_end range }

abbrev pub call_reach : Option Routine → Reach
call_reach None = in_cells 0
call_reach (Some r) = in_cells (length (argument_types r.params))

-- two values, or two runs of so many cells
abbrev pub compared_reach : ℕ → ℕ → Reach
compared_reach kind size = if kind == 0x24 then in_cells
    (counted_cells (cell_count size) + counted_cells (cell_count size)) else in_cells 2

-- how deep an instruction with a rule of one shape looks
unfoldable pub reach : EngineTable → PlainOp → Reach
reach table (ops.CpDownSp offset size) = in_cells (range_end (range_at offset size))
reach table (ops.RsAdd kind) = in_cells 0
reach table (ops.CpTopSp offset size) = in_cells (range_end (range_at offset size))
reach table (ops.Const lit) = in_cells 0
reach table (ops.Action routine count) = call_reach (slice_get table.routines routine)
reach table (ops.Equal kind size) = compared_reach kind size
reach table (ops.Nequal kind size) = compared_reach kind size
reach table (ops.Neg kind) = in_cells 1
reach table ops.Comp = in_cells 1
reach table (ops.MovSp offset) = in_cells (counted_cells (depth_of offset))
reach table (ops.Jmp offset) = in_cells 0
reach table (ops.Jz offset) = in_cells 1
reach table (ops.Destruct total offset size) = in_cells (counted_cells (cell_count total))
reach table ops.Not = in_cells 1
reach table (ops.DecISp offset) = in_cells (range_end (range_at offset 4))
reach table (ops.IncISp offset) = in_cells (range_end (range_at offset 4))
reach table (ops.Jnz offset) = in_cells 1
reach table (ops.CpDownBp offset size) = beneath_bp (range_count (range_at offset size))
    (range_at offset size)
reach table (ops.CpTopBp offset size) = beneath_bp 0 (range_at offset size)
reach table (ops.DecIBp offset) = beneath_bp 0 (range_at offset 4)
reach table (ops.IncIBp offset) = beneath_bp 0 (range_at offset 4)
reach table ops.SaveBp = in_cells 0
reach table ops.RestoreBp = in_cells 1
reach table (ops.StoreState globals locals) = record {
  cells = counted_cells (cell_count locals);
  under = counted_cells (cell_count globals);
}
reach table ops.Nop = in_cells 0
reach table (ops.Jsr offset) = in_cells 0
reach table ops.Retn = in_cells 0
-- arithmetic of two values
reach table op = in_cells 2
