-- The stack effect of an instruction: what it pops off the cells, and what it pushes. All lists of
-- slots are seen top first.
use Rattle.std.specs.Prelude.{ℕ, ◌+◌, ◌-◌, List, [], ◌∷◌, ◌++◌, length, map, take, drop, Option, None, Some, ◌==◌, nat_le, if◌then◌else◌}
use Rattle.std.specs.Option.{option_map, option_and_then}
use Rattle.nwq_value.specs.declared.value.Ty.{Ty}
use Rattle.nwq_value.specs.declared.value.Ty.TheVariants.{Int, Text, Object, Effect, Event}
use Rattle.nwq_value.specs.Roles.{tys_eq}
use Rattle.ncs_code.specs.Plain.{PlainLit, PlainOp}
use Rattle.ncs_code.specs.Plain as ops
use Rattle.stack_shape.specs.declared.shape.Slot.{Slot}
use Rattle.stack_shape.specs.declared.shape.Slot.TheVariants.{Of}
use Rattle.stack_shape.specs.declared.range.CellRange.{CellRange}
use Rattle.stack_shape.specs.declared.effect.StackEffect.{StackEffect}
use Rattle.stack_shape.specs.Ranges.{cell_count, depth_of, range_at}
use Rattle.stack_shape.specs.TopFirst.{types_on, types_at}

-- the cells after an effect
abbrev pub after_effect : StackEffect → List Slot → List Slot
after_effect e cells = map Of e.pushes ++ drop e.pops cells

-- nothing is popped and nothing is pushed
abbrev pub no_effect : StackEffect
no_effect = record { pops = 0; pushes = [] }

-- the effect, where both lists of types are there and are equal
abbrev pub where_alike : Option (List Ty) → Option (List Ty) → StackEffect → Option StackEffect
where_alike (Some a) (Some b) e = if tys_eq a b then Some e else None
where_alike (Some a) None e = None
where_alike None b e = None

-- These types are popped, the first from the top, and those are pushed, so that their first is on
-- top.
unfoldable pub exchange : List Ty → List Ty → List Slot → Option StackEffect
exchange pops pushes cells =
    where_alike (types_on (length pops) cells) (Some pops)
    (record { pops = length pops; pushes = pushes })

-- a value of this type is pushed
abbrev pub pushed : Option Ty → Option StackEffect
pushed type = option_map (λ t. record { pops = 0; pushes = t ∷ [] }) type

-- the cells of a range are pushed
abbrev pub copied : Option CellRange → List Slot → Option StackEffect
copied range slots = option_and_then
    (λ r. option_map (λ types. record { pops = 0; pushes = types }) (types_at r slots)) range

-- the top cells are written onto a range of cells, which have equal types
abbrev pub written : Option CellRange → List Slot → List Slot → Option StackEffect
written range cells slots = option_and_then
    (λ r. where_alike (types_on r.count cells) (types_at r slots) no_effect) range

-- the int at a range of one cell changes
abbrev pub range_int_changed : Option CellRange → List Slot → Option StackEffect
range_int_changed range slots = option_and_then
    (λ r. where_alike (types_at r slots) (Some (Int ∷ [])) no_effect) range

-- so many cells are popped
abbrev pub removed : Option ℕ → List Slot → Option StackEffect
removed count cells = option_and_then
    (λ n. option_map (λ _. record { pops = n; pushes = [] }) (types_on n cells)) count

-- Of the top cells those are kept that begin so many cells above the lowest of them.
abbrev pub kept_of : ℕ → ℕ → ℕ → List Slot → Option StackEffect
kept_of total offset count cells =
    if nat_le (offset + count) total
    then option_map (λ types. record {
      pops = total;
      pushes = take count (drop (total - (offset + count)) types);
    }) (types_on total cells)
    else None

unfoldable pub kept : ℕ → ℕ → ℕ → List Slot → Option StackEffect
kept total offset size cells =
    option_and_then (λ t. option_and_then
    (λ o. option_and_then (λ n. kept_of t o n cells) (cell_count size)) (cell_count offset))
    (cell_count total)

-- two runs of so many cells with equal types are compared
abbrev pub runs : Option ℕ → List Slot → Option StackEffect
runs count cells =
    option_and_then (λ n. where_alike (types_on n cells) (types_on n (drop n cells))
    (record { pops = n + n; pushes = Int ∷ [] })) count

abbrev pub one_int : List Slot → Option StackEffect
one_int cells = exchange (Int ∷ []) (Int ∷ []) cells

abbrev pub two_ints : List Slot → Option StackEffect
two_ints cells = exchange (Int ∷ Int ∷ []) (Int ∷ []) cells

-- two values of this type are compared
abbrev pub two_alike : Option Ty → List Slot → Option StackEffect
two_alike type cells = option_and_then (λ t. exchange (t ∷ t ∷ []) (Int ∷ []) cells) type

-- the type of one value, by its type byte
unfoldable pub type_of_one : ℕ → Option Ty
type_of_one kind =
    if kind == 0x03 then Some Int
    else if kind == 0x05 then Some Text
    else if kind == 0x06 then Some Object
    else if kind == 0x10 then Some Effect
    else if kind == 0x11 then Some Event
    else None

-- the type of two values that EQUAL and NEQUAL compare, by their type byte
unfoldable pub type_of_both : ℕ → Option Ty
type_of_both kind =
    if kind == 0x20 then Some Int
    else if kind == 0x22 then Some Object
    else if kind == 0x23 then Some Text
    else if kind == 0x30 then Some Effect
    else if kind == 0x31 then Some Event
    else None

abbrev pub type_of_lit : PlainLit → Option Ty
type_of_lit (ops.Int n) = Some Int
type_of_lit (ops.Float bytes) = None
type_of_lit (ops.Text bytes) = Some Text
type_of_lit (ops.Object n) = Some Object

unfoldable pub compared : ℕ → ℕ → List Slot → Option StackEffect
compared kind size cells = if kind == 0x24 then runs (cell_count size) cells else two_alike
    (type_of_both kind) cells

unfoldable pub added : ℕ → List Slot → Option StackEffect
added kind cells =
    if kind == 0x20 then two_ints cells
    else if kind == 0x23 then exchange (Text ∷ Text ∷ []) (Text ∷ []) cells
    else None

-- arithmetic and order of ints: other types have no rule
unfoldable pub reckoned : ℕ → List Slot → Option StackEffect
reckoned kind cells = if kind == 0x20 then two_ints cells else None

unfoldable pub negated : ℕ → List Slot → Option StackEffect
negated kind cells = if kind == 0x03 then one_int cells else None

-- The effect of each instruction that changes nothing but the cells, on the slots beneath BP and on
-- the cells.
unfoldable pub stack_effect : PlainOp → List Slot → List Slot → Option StackEffect
stack_effect (ops.CpDownSp offset size) under cells = written (range_at offset size) cells cells
stack_effect (ops.RsAdd kind) under cells = pushed (type_of_one kind)
stack_effect (ops.CpTopSp offset size) under cells = copied (range_at offset size) cells
stack_effect (ops.Const lit) under cells = pushed (type_of_lit lit)
stack_effect (ops.Action routine count) under cells = None
stack_effect ops.LogAnd under cells = two_ints cells
stack_effect ops.LogOr under cells = two_ints cells
stack_effect ops.IncOr under cells = two_ints cells
stack_effect ops.ExcOr under cells = two_ints cells
stack_effect ops.BoolAnd under cells = two_ints cells
stack_effect (ops.Equal kind size) under cells = compared kind size cells
stack_effect (ops.Nequal kind size) under cells = compared kind size cells
stack_effect (ops.Geq kind) under cells = reckoned kind cells
stack_effect (ops.Gt kind) under cells = reckoned kind cells
stack_effect (ops.Lt kind) under cells = reckoned kind cells
stack_effect (ops.Leq kind) under cells = reckoned kind cells
stack_effect ops.ShLeft under cells = two_ints cells
stack_effect ops.ShRight under cells = two_ints cells
stack_effect ops.UshRight under cells = two_ints cells
stack_effect (ops.Add kind) under cells = added kind cells
stack_effect (ops.Sub kind) under cells = reckoned kind cells
stack_effect (ops.Mul kind) under cells = reckoned kind cells
stack_effect (ops.Div kind) under cells = reckoned kind cells
stack_effect ops.Mod under cells = two_ints cells
stack_effect (ops.Neg kind) under cells = negated kind cells
stack_effect ops.Comp under cells = one_int cells
stack_effect (ops.MovSp offset) under cells = removed (depth_of offset) cells
stack_effect (ops.Jmp offset) under cells = Some no_effect
stack_effect (ops.Jsr offset) under cells = None
stack_effect (ops.Jz offset) under cells = exchange (Int ∷ []) [] cells
stack_effect ops.Retn under cells = None
stack_effect (ops.Destruct total offset size) under cells = kept total offset size cells
stack_effect ops.Not under cells = one_int cells
stack_effect (ops.DecISp offset) under cells = range_int_changed (range_at offset 4) cells
stack_effect (ops.IncISp offset) under cells = range_int_changed (range_at offset 4) cells
stack_effect (ops.Jnz offset) under cells = exchange (Int ∷ []) [] cells
stack_effect (ops.CpDownBp offset size) under cells = written (range_at offset size) cells under
stack_effect (ops.CpTopBp offset size) under cells = copied (range_at offset size) under
stack_effect (ops.DecIBp offset) under cells = range_int_changed (range_at offset 4) under
stack_effect (ops.IncIBp offset) under cells = range_int_changed (range_at offset 4) under
stack_effect ops.SaveBp under cells = None
stack_effect ops.RestoreBp under cells = None
stack_effect (ops.StoreState globals locals) under cells = None
stack_effect ops.Nop under cells = Some no_effect
