-- The hooks that serve the routines of a header.
use Rattle.std.specs.Prelude.{◌≡◌, ℕ, ◌+◌, List, [], ◌∷◌, ◌++◌, length, take, Some, slice_get}
use Rattle.nwq_value.specs.Roles.{header_signatures}
use Rattle.nwq_value.specs.declared.engine.Role.TheVariants.{Pure}
use Rattle.nwq_value.specs.declared.value.Ty.{Ty}
use Rattle.nwq_value.specs.declared.value.Value.{Value}
use Rattle.world_rules.specs.Pure.{pure}
use Rattle.table_2da.specs.Look.{cell_of}
use Rattle.table_2da.specs.declared.tables.Named.{Named}
use Rattle.hook_table.specs.Standard.{Function, standard, function_numbered, cell_function, IsAnswer}
use Rattle.hook_table.specs.declared.hook.Known.{Known}

-- the hook has the function's name and its types
pub record StandsFor (f : Function) (h : Known) : Type 0 where
  pub name : h.name ≡ f.name
  pub params : h.params ≡ f.params
  pub result : h.result ≡ f.result

-- the first hooks stand for these functions, one each
abbrev pub BeginWith : List Function → List Known → Type 0
BeginWith [] hooks = Unit {0}
BeginWith (f ∷ fs) [] = ⊥
BeginWith (f ∷ fs) (h ∷ hooks) = StandsFor f h × BeginWith fs hooks

-- hooks that begin with one for each of the functions, in order; the one that looks cells up has
-- these tables
pub record AreStandard (hooks : List Known) (tables : List Named) : Type 0 where
  pub begin : BeginWith standard hooks
  pub cells : (h : Known) → slice_get hooks cell_function ≡ Some h → h.tables ≡ tables

-- there is a hook for each of the first so many functions, in order, and no other
pub record AreFirst (n : ℕ) (hooks : List Known) : Type 0 where
  pub begin : BeginWith (take n standard) hooks
  pub count : length hooks ≡ n

-- ---- laws

-- the functions are those of the built-in header that have a Pure role, with its names and types
abbrev pub AreTheHeaders : Type 0
AreTheHeaders = (n : ℕ) (f : Function) → slice_get standard n ≡ Some f
    → slice_get header_signatures (28 + n)
    ≡ Some (record { name = f.name; gives = f.result; takes = f.params; role = Some (Pure n) })

-- a hook for a function, whose answers are what the function of a number gives
pub record Serves (tables : List Named) (n : ℕ) (takes : List Ty) (gives : Ty)
    (h : Known) : Type 0 where
  pub params : h.params ≡ takes
  pub result : h.result ≡ gives
  pub answers : (args : List Value) (v : Value) → IsAnswer h.tables h.name h.result args v
      → pure (cell_of tables) n args ≡ Some v

-- for a routine with the role Pure n there is a hook n that takes its arguments, and answers what
-- the definition gives
abbrev pub StandardServe : Type 0
StandardServe = (hooks : List Known) (tables : List Named) (n : ℕ) (name : List ℕ) (gives : Ty)
    (takes : List Ty)
    → AreStandard hooks tables
    → slice_get header_signatures (28 + n)
    ≡ Some (record { name = name; gives = gives; takes = takes; role = Some (Pure n) })
    → (h : Known) × (slice_get hooks n ≡ Some h) × Serves tables n takes gives h

-- with a hook for the next function there is one more
abbrev pub FirstGrow : Type 0
FirstGrow = (n : ℕ) (f : Function) (hooks : List Known) (h : Known) → slice_get standard n ≡ Some f
    → AreFirst n hooks → StandsFor f h
    → AreFirst (n + 1) (hooks ++ h ∷ [])

-- with one for the function that looks cells up, the hooks are standard ones with its tables
abbrev pub LastCompletes : Type 0
LastCompletes = (hooks : List Known) (h : Known) → AreFirst cell_function hooks
    → StandsFor (function_numbered cell_function) h
    → AreStandard (hooks ++ h ∷ []) h.tables
