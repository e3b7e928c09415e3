-- What a table holds, and what is kept of it.
use Rattle.std.specs.Prelude.{◌≡◌, ◌≢◌, ◌<◌, ◌≤◌, ℕ, All, FitsSigned, suc, List, [], ◌∷◌, Option, None, Some, length, map, slice_get, if◌then◌else◌}
use Rattle.std.specs.Option.{option_map}
use Rattle.std.specs.List.{IsDistinct}
use Rattle.std.specs.Int.{w32}
use Rattle.std.specs.Str.{bytes_eq}
use Rattle.nwq_value.specs.declared.value.Ty.{Ty}
use Rattle.nwq_value.specs.declared.value.Ty.TheVariants.{Int as IntTy, Text as TextTy, Object as ObjectTy, Struct}
use Rattle.nwq_value.specs.declared.engine.Const.{Const}
use Rattle.nwq_value.specs.declared.engine.Const.TheVariants.{Int, Text, SelfObject, InvalidObject}
use Rattle.nwq_value.specs.declared.engine.Param.{Param}
use Rattle.nwq_value.specs.declared.engine.Routine.{Routine}
use Rattle.nwq_value.specs.Limits.{parameter_limit, routine_limit, text_limit}
use Rattle.nwq_value.specs.Roles.{engine_role, types_of}

-- a constant under its name
pub record Constant : Type 0 where
  pub name : List ℕ
  pub value : Const

-- a header's routines by number, and its constants in their order
pub record EngineTable : Type 0 where
  pub routines : List Routine
  pub constants : List Constant

-- the number of the first routine with this name
unfoldable pub routine_named : List ℕ → List Routine → Option ℕ
routine_named name [] = None
routine_named name (r ∷ rs) = if bytes_eq name r.name then Some 0 else option_map suc
    (routine_named name rs)

-- the first constant with this name
unfoldable pub constant_named : List ℕ → List Constant → Option Const
constant_named name [] = None
constant_named name (c ∷ cs) = if bytes_eq name c.name then Some c.value else constant_named name cs

-- the type of a constant
abbrev pub const_type : Const → Ty
const_type (Int n) = IntTy
const_type (Text bytes) = TextTy
const_type SelfObject = ObjectTy
const_type InvalidObject = ObjectTy

-- a constant's number has 32 bits, its text at most 8,192 bytes
abbrev pub IsConstant : Const → Type 0
IsConstant (Int n) = FitsSigned w32 n
IsConstant (Text bytes) = (length bytes ≤ text_limit) × All (λ b. b < 256) bytes
IsConstant SelfObject = Unit {0}
IsConstant InvalidObject = Unit {0}

-- a default, where there is one, is a constant of the parameter's type
abbrev pub FitsType : Option Const → Ty → Type 0
FitsType None ty = Unit {0}
FitsType (Some c) ty = (const_type c ≡ ty) × IsConstant c

-- the type is no struct of a unit
abbrev pub IsNoStruct : Ty → Type 0
IsNoStruct (Struct n) = ⊥
IsNoStruct _ = Unit {0}

abbrev pub AreParams : List Param → Type 0
AreParams [] = Unit {0}
AreParams (p ∷ ps) = IsNoStruct p.ty × FitsType p.default p.ty × AreParams ps

-- what is kept of each routine
pub record IsRoutine (r : Routine) : Type 0 where
  pub few : length r.params ≤ parameter_limit
  pub result_type : IsNoStruct r.result
  pub param_types : AreParams r.params
  pub role : r.role ≡ engine_role r.name r.result (types_of r.params)

abbrev pub AreRoutines : List Routine → Type 0
AreRoutines [] = Unit {0}
AreRoutines (r ∷ rs) = IsRoutine r × AreRoutines rs

-- so is what each name stands for
abbrev pub AreConstants : List Constant → Type 0
AreConstants [] = Unit {0}
AreConstants (c ∷ cs) = IsConstant c.value × AreConstants cs

-- no constant has the name of a routine
abbrev pub AreApart : List Constant → List Routine → Type 0
AreApart [] routines = Unit {0}
AreApart (c ∷ cs) routines = (routine_named c.name routines ≡ None) × AreApart cs routines

-- what every table keeps
pub record IsTable (t : EngineTable) : Type 0 where
  pub few : length t.routines ≤ routine_limit
  pub routines : AreRoutines t.routines
  pub constants : AreConstants t.constants
  pub routine_names : IsDistinct bytes_eq (map (λ r. r.name) t.routines)
  pub constant_names : IsDistinct bytes_eq (map (λ c. c.name) t.constants)
  pub apart : AreApart t.constants t.routines

-- the number of a name is that of a routine with this very name, and no number says that no routine
-- has it
abbrev pub NumberIsOfName : Type 0
NumberIsOfName = (name : List ℕ) (routines : List Routine) (n : ℕ)
    → routine_named name routines ≡ Some n
    → (r : Routine) × (slice_get routines n ≡ Some r) × (r.name ≡ name)

abbrev pub NoNumberNoName : Type 0
NoNumberNoName = (name : List ℕ) (routines : List Routine) → routine_named name routines ≡ None
    → (n : ℕ) (r : Routine) → slice_get routines n ≡ Some r → r.name ≢ name

-- the same of constants
abbrev pub ConstantIsOfName : Type 0
ConstantIsOfName = (name : List ℕ) (constants : List Constant) (value : Const)
    → constant_named name constants ≡ Some value
    → (n : ℕ) × (slice_get constants n ≡ Some (record { name = name; value = value }))

abbrev pub NoConstantNoName : Type 0
NoConstantNoName = (name : List ℕ) (constants : List Constant)
    → constant_named name constants ≡ None
    → (n : ℕ) (c : Constant) → slice_get constants n ≡ Some c → c.name ≢ name
