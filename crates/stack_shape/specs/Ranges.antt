-- Bytes as cells, and the cells that an offset and a size name.
use Rattle.std.specs.Prelude.{ℕ, ℤ, pos, unsigned_abs, int_lt, ◌/◌, ◌%◌, ◌-◌, Option, None, Some, ◌&&◌, ◌==◌, nat_lt, nat_le, if◌then◌else◌}
use Rattle.std.specs.Option.{option_and_then}
use Rattle.stack_shape.specs.declared.range.CellRange.{CellRange}

-- how many cells so many bytes are: a cell takes four
unfoldable pub cell_count : ℕ → Option ℕ
cell_count bytes = if bytes % 4 == 0 then Some (bytes / 4) else None

-- how many cells lie from an offset up to the end that it counts from: offsets are 0 or negative
unfoldable pub depth_of : ℤ → Option ℕ
depth_of offset = if int_lt (pos 0) offset then None else cell_count (unsigned_abs offset)

-- so many cells that begin at a depth: there is at least one, and the last lies at or below the end
unfoldable pub range_of : ℕ → ℕ → Option CellRange
range_of depth count =
    if nat_lt 0 count && nat_le count depth then Some
    (record { above = depth - count; count = count }) else None

-- the cells that begin at an offset and take so many bytes
unfoldable pub range_at : ℤ → ℕ → Option CellRange
range_at offset size = option_and_then (λ depth. option_and_then (range_of depth) (cell_count size))
    (depth_of offset)
