-- What STORE_STATE finds, and the shape with which what it stores resumes.
use Rattle.std.specs.Prelude.{ℕ, List, [], ◌∷◌, ◌++◌, map, Option}
use Rattle.std.specs.Option.{option_and_then, option_map}
use Rattle.stack_shape.specs.declared.shape.Slot.{Slot}
use Rattle.stack_shape.specs.declared.shape.Slot.TheVariants.{Of, Base}
use Rattle.stack_shape.specs.declared.store.StoredTypes.{StoredTypes}
use Rattle.stack_shape.specs.Ranges.{cell_count}
use Rattle.stack_shape.specs.TopFirst.{types_on}

-- a shape whose lists are seen from the top: the top slot first, and the newest saved list first
pub record TopShape : Type 0 where
  pub cells : List Slot
  pub under : List Slot
  pub saved : List (List Slot)
  pub pending : ℕ

-- The types of so many slots beneath BP and of so many on top: none where one of them isn't there
-- or is a base.
abbrev pub found_types : ℕ → ℕ → List Slot → List Slot → Option StoredTypes
found_types globals locals under cells =
    option_and_then (λ g. option_map (λ l. record { globals = g; locals = l })
    (types_on locals cells)) (types_on globals under)

-- the same for numbers of bytes, as STORE_STATE has them
unfoldable pub stored_types : ℕ → ℕ → List Slot → List Slot → Option StoredTypes
stored_types globals locals under cells =
    option_and_then (λ g. option_and_then (λ l. found_types g l under cells) (cell_count locals))
    (cell_count globals)

-- the shape with which the stored state resumes: its locals over a base over its globals, which lie
-- beneath BP
abbrev pub stored_shape : StoredTypes → TopShape
stored_shape t = record {
  cells = map Of t.locals ++ Base ∷ map Of t.globals;
  under = map Of t.globals;
  saved = [];
  pending = 0;
}
