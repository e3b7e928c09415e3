-- A table's maps as code keeps them and as contracts see them, and what its index of names tells of
-- them.
use Rattle.std.specs.Prelude.{◌≡◌, ◌<◌, ◌≤◌, ◌+◌, ℕ, List, Option, None, Some, length, map, nat_eq, position}
use Rattle.std.specs.Map.{keys_of, lookup, values_of}
use Rattle.std.specs.Option.{option_and_then, option_map}
use Rattle.nwq_value.specs.declared.engine.Const.{Const}
use Rattle.nwq_value.specs.declared.engine.Routine.{Routine}
use Rattle.nwq_value.specs.declared.table.Named.{Named}
use Rattle.nwq_value.specs.Engine.{Constant, EngineTable, constant_named, routine_named}
use Rattle.nwq_value.specs.Index.{number_under}

abbrev pub constant_in : Named → Constant
constant_in c = record { name = c.name; value = c.value }

abbrev pub constants_in : List (ℕ × Named) → List Constant
constants_in constants = map constant_in (values_of constants)

abbrev pub table_of : List (ℕ × Routine) → List (ℕ × Named) → EngineTable
table_of routines constants = record {
  routines = values_of routines;
  constants = constants_in constants;
}

-- the place of the routine, and the value of the constant, that stand under the number of a name
abbrev pub routine_under : List (ℕ × Routine) → ℕ → Option ℕ
routine_under routines n = position (nat_eq n) (keys_of routines)

abbrev pub constant_under : List (ℕ × Named) → ℕ → Option Const
constant_under constants n = option_map (λ c. c.value) (lookup (nat_eq n) constants)

-- a name has a number where a routine or a constant has this name: it or its value stands under
-- that number. The numbers of names are those below their count
pub record AreFound (names : List (List ℕ × ℕ)) (routines : List (ℕ × Routine))
    (constants : List (ℕ × Named)) : Type 0 where
  pub routine : (x : List ℕ)
      → option_and_then (routine_under routines) (number_under x names)
      ≡ routine_named x (values_of routines)
  pub constant : (x : List ℕ)
      → option_and_then (constant_under constants) (number_under x names)
      ≡ constant_named x (constants_in constants)
  pub used : (x : List ℕ) → routine_named x (values_of routines) ≡ None
      → constant_named x (constants_in constants) ≡ None → number_under x names ≡ None
  pub below : (x : List ℕ) (n : ℕ) → number_under x names ≡ Some n
      → n < length routines + length constants
  pub free_routine : (n : ℕ) → length routines + length constants ≤ n
      → lookup (nat_eq n) routines ≡ None
  pub free_constant : (n : ℕ) → length routines + length constants ≤ n
      → lookup (nat_eq n) constants ≡ None
