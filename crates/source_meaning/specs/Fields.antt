-- The fields of structs.
use Rattle.std.specs.Prelude.{◌≡◌, ℕ, List, [], ◌∷◌, ◌++◌, length, map, Some, slice_get}
use Rattle.std.specs.List.{flat_map}
use Rattle.nss_tree.specs.Units.{structure}
use Rattle.nwq_value.specs.declared.value.Ty.{Ty}
use Rattle.nwq_value.specs.declared.value.Ty.TheVariants.{Struct}
use Rattle.typing_rules.specs.Typed.{TypedLine, TypedItem}
use Rattle.typing_rules.specs.Cells.{Structs, cell_types}

-- the types of the fields on a line, and of all fields of a struct, in order
abbrev pub line_types : TypedLine → List Ty
line_types l = map (λ x. l.ty) l.names

abbrev pub field_types : List TypedLine → List Ty
field_types ls = flat_map line_types ls

-- those of each struct of a unit, by the struct's number
abbrev pub struct_fields : List TypedItem → List (List Ty)
struct_fields [] = []
struct_fields (structure n x ls ∷ is) = field_types ls ∷ struct_fields is
struct_fields (_ ∷ is) = struct_fields is

-- the types of the cells of fields
abbrev pub fields_cells : Structs → List Ty → List Ty
fields_cells structs ts = flat_map (cell_types structs) ts

-- What stands behind so many cells in a value of the first type is one of the fields of its struct,
-- of the second type: just the cells of the fields in front of it stand before.
pub record IsMember (structs : Structs) (fields : List (List Ty)) (whole part : Ty)
    (before : ℕ) : Type 0 where
  pub number : ℕ
  pub of : whole ≡ Struct number
  pub front : List Ty
  pub back : List Ty
  pub are : slice_get fields number ≡ Some (front ++ part ∷ back)
  pub cells : cell_types structs whole ≡ fields_cells structs (front ++ part ∷ back)
  pub offset : before ≡ length (fields_cells structs front)
