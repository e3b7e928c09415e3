-- The functions that hooks answer for, and what is kept of each hook.
use Prim.Native.String.{String}
use Rattle.std.specs.Prelude.{◌≡◌, ℕ, List, [], ◌∷◌, Option, None, Some, codes, map, position, slice_get}
use Rattle.std.specs.Str.{bytes_eq}
use Rattle.nwq_value.specs.Values.{type_of}
use Rattle.nwq_value.specs.declared.value.Ty.{Ty}
use Rattle.nwq_value.specs.declared.value.Ty.TheVariants.{Int, Text, Void}
use Rattle.nwq_value.specs.declared.value.Value.{Value}
use Rattle.world_rules.specs.Pure.{CellLookup, pure}
use Rattle.table_2da.specs.Look.{cell_of}
use Rattle.table_2da.specs.declared.tables.Named.{Named}

-- a function of strings and numbers: its name, its parameters' types and its result's
pub record Function : Type 0 where
  pub name : List ℕ
  pub params : List Ty
  pub result : Ty

abbrev pub function : String → List Ty → Ty → Function
function name params result = record { name = codes name; params = params; result = result }

-- the functions in the order of their numbers
abbrev pub standard : List Function
standard =
    function "abs" (Int ∷ []) Int ∷
    function "IntToString" (Int ∷ []) Text ∷
    function "StringToInt" (Text ∷ []) Int ∷
    function "IntToHexString" (Int ∷ []) Text ∷
    function "GetStringLength" (Text ∷ []) Int ∷
    function "GetStringLeft" (Text ∷ Int ∷ []) Text ∷
    function "GetStringRight" (Text ∷ Int ∷ []) Text ∷
    function "GetSubString" (Text ∷ Int ∷ Int ∷ []) Text ∷
    function "InsertString" (Text ∷ Text ∷ Int ∷ []) Text ∷
    function "Get2DAString" (Text ∷ Text ∷ Int ∷ []) Text ∷
    []

-- a number that no function has stands for one without name, parameters and result
abbrev pub function_or_none : Option Function → Function
function_or_none None = function "" [] Void
function_or_none (Some f) = f

abbrev pub function_numbered : ℕ → Function
function_numbered n = function_or_none (slice_get standard n)

-- the number of the function that looks cells up
abbrev pub cell_function : ℕ
cell_function = 9

-- the number of the function of this name
unfoldable pub number_named : List ℕ → Option ℕ
number_named name = position (λ f. bytes_eq f.name name) standard

abbrev pub pure_numbered : CellLookup → Option ℕ → List Value → Option Value
pure_numbered cell None args = None
pure_numbered cell (Some n) args = pure cell n args

-- what the function of a name gives, with cells looked up in these tables
abbrev pub pure_named : List Named → List ℕ → List Value → Option Value
pure_named tables name args = pure_numbered (cell_of tables) (number_named name) args

-- the types of arguments, first to last
abbrev pub types_of_values : List Value → List Ty
types_of_values args = map type_of args

-- the value is what the function of this name gives for these arguments, and it has the result's
-- type
pub record IsAnswer (tables : List Named) (name : List ℕ) (gives : Ty) (args : List Value)
    (v : Value) : Type 0 where
  pub value : pure_named tables name args ≡ Some v
  pub ty : type_of v ≡ gives
