-- How many bytes the strings of a table have, and how many they may have. A short line can name a
-- long constant, so that without this a header could ask for a thousand times its size.
use Rattle.std.specs.Prelude.{◌≡◌, ℕ, ◌+◌, ◌≤◌, List, [], ◌∷◌, length, Option, None, Some}
use Rattle.nwq_value.specs.declared.engine.Const.{Const}
use Rattle.nwq_value.specs.declared.engine.Const.TheVariants.{Text}
use Rattle.nwq_value.specs.declared.engine.Param.{Param}
use Rattle.nwq_value.specs.declared.engine.Routine.{Routine}
use Rattle.nwq_value.specs.Engine.{Constant, EngineTable}
use Rattle.engine_table.specs.declared.known.Known.{Known}

-- bytes of the strings of a table
abbrev pub held_limit : ℕ
held_limit = 268435456

abbrev pub const_held : Const → ℕ
const_held (Text bytes) = length bytes
const_held _ = 0

abbrev pub default_held : Option Const → ℕ
default_held None = 0
default_held (Some c) = const_held c

-- of the defaults of parameters
abbrev pub params_held : List Param → ℕ
params_held [] = 0
params_held (p ∷ ps) = default_held p.default + params_held ps

abbrev pub routines_held : List Routine → ℕ
routines_held [] = 0
routines_held (r ∷ rs) = params_held r.params + routines_held rs

abbrev pub constants_held : List Constant → ℕ
constants_held [] = 0
constants_held (c ∷ cs) = const_held c.value + constants_held cs

abbrev pub held : EngineTable → ℕ
held t = routines_held t.routines + constants_held t.constants

-- what the code counts is what the table holds, and within the limit
pub record IsCounted (k : Known) : Type 0 where
  pub exact : k.text ≡ held k.table
  pub few : k.text ≤ held_limit
