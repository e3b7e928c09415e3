-- What is promised of headers beside what reading one answers. Each statement stands on the
-- contract of a function of `laws`.
use Rattle.std.specs.Prelude.{◌≡◌, ◌<◌, ◌≤◌, List, length, None, IfSome}
use Rattle.nwq_value.specs.Engine.{EngineTable, IsConstant, IsNoStruct, AreConstants, AreParams, routine_named, constant_named}
use Rattle.nwq_value.specs.Header.{header_text}
use Rattle.nwq_value.specs.HeaderTable.{header_table}
use Rattle.nwq_value.specs.Limits.{parameter_limit, routine_limit}
use Rattle.engine_table.specs.declared.declaration.Function.{Function}
use Rattle.engine_table.specs.declared.declaration.Declaration.{Declaration}
use Rattle.engine_table.specs.declared.declaration.Declaration.TheVariants as declaration
use Rattle.engine_table.specs.Known.{Known}
use Rattle.engine_table.specs.Symbols.{Placed, AreSymbols}
use Rattle.engine_table.specs.Grammar.{Line}
use Rattle.engine_table.specs.Headers.{HasTable, IsClear}

-- the text of the built-in header has the table of its data
abbrev pub BuiltInHasTable : Type 0
BuiltInHasTable = HasTable header_text header_table

-- a function's name is free, there is room for it, and its types and defaults are what a routine
-- may have
pub record IsNewFunction (t : EngineTable) (f : Function) : Type 0 where
  pub routine : routine_named f.head.name t.routines ≡ None
  pub constant : constant_named f.head.name t.constants ≡ None
  pub room : length t.routines < routine_limit
  pub result : IsNoStruct f.head.ty
  pub params : AreParams f.params
  pub few : length f.params ≤ parameter_limit

-- what a table may take: no constant has the name of a routine, and its value is within bounds
abbrev pub IsAdmissible : EngineTable → Declaration → Type 0
IsAdmissible t (declaration.Constant d c) = (routine_named d.name t.routines ≡ None)
    × IfSome c IsConstant
IsAdmissible t (declaration.Function f) = IsNewFunction t f
IsAdmissible t _ = Unit {0}

-- what a clear line declares, the table of the lines before it may take, where the literals are
-- within bounds
abbrev pub ClearLinesAreAdmissible : Type 0
ClearLinesAreAdmissible =
    (k : Known) (d : Declaration) (xs : List Placed) → AreConstants k.table.constants
    → AreSymbols xs → Line k d xs → IsClear k d → IsAdmissible k.table d
