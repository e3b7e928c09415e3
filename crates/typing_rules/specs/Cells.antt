-- What values are made of: the cells of a type, a struct's those of its fields. And which arguments
-- have none: actions.
use Rattle.std.specs.Prelude.{ℕ, List, [], ◌∷◌, ◌++◌, Bool, length, slice_index_or}
use Rattle.std.specs.List.{flat_map}
use Rattle.nss_tree.specs.Units.{structure}
use Rattle.nwq_value.specs.declared.value.Ty.{Ty}
use Rattle.nwq_value.specs.declared.value.Ty.TheVariants.{Void, Struct}
use Rattle.typing_rules.specs.Types.{is_void}
use Rattle.typing_rules.specs.Typed.{TypedExpr, TypedLine, TypedItem, type_of}

-- ---- cells

-- the types of the cells of each struct, by the struct's number
abbrev pub Structs : Type 0
Structs = List (List Ty)

-- the types of the cells of a value, from the lowest: those of a struct are the cells of its fields
-- in order
abbrev pub cell_types : Structs → Ty → List Ty
cell_types structs Void = []
cell_types structs (Struct n) = slice_index_or structs n []
cell_types structs t = t ∷ []

abbrev pub cells : Structs → Ty → ℕ
cells structs t = length (cell_types structs t)

abbrev pub line_cells : Structs → TypedLine → List Ty
line_cells structs l = flat_map (λ x. cell_types structs l.ty) l.names

-- the structs among these items, behind those that are known
abbrev pub structs_from : Structs → List TypedItem → Structs
structs_from known [] = known
structs_from known (structure n x ls ∷ is) = structs_from
    (known ++ flat_map (line_cells known) ls ∷ []) is
structs_from known (_ ∷ is) = structs_from known is

-- ---- actions

-- an argument without a value is an action
abbrev pub is_captured : TypedExpr → Bool
is_captured x = is_void (type_of x)
