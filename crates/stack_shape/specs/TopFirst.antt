-- Lists of slots from their tops: the top slot is first.
use Rattle.std.specs.Prelude.{ℕ, zero, suc, List, [], ◌∷◌, drop, Option, None, Some}
use Rattle.std.specs.Option.{option_map}
use Rattle.nwq_value.specs.declared.value.Ty.{Ty}
use Rattle.stack_shape.specs.declared.range.CellRange.{CellRange}
use Rattle.stack_shape.specs.declared.shape.Slot.{Slot}
use Rattle.stack_shape.specs.declared.shape.Slot.TheVariants.{Of, Base}

-- The types of so many slots from the top, the top one first: none where the slots end before, or
-- one is a base.
abbrev pub types_on : ℕ → List Slot → Option (List Ty)
types_on zero slots = Some []
types_on (suc n) [] = None
types_on (suc n) (Base ∷ slots) = None
types_on (suc n) (Of t ∷ slots) = option_map (λ types. t ∷ types) (types_on n slots)

-- the types of the slots of a range
abbrev pub types_at : CellRange → List Slot → Option (List Ty)
types_at r slots = types_on r.count (drop r.above slots)
