-- The table that the built-in header declares, from the same data as its text.
use Rattle.std.specs.Prelude.{map, pos, unwrap_or}
use Rattle.nwq_value.specs.declared.engine.Const.TheVariants.{Int}
use Rattle.nwq_value.specs.declared.engine.Param.{Param}
use Rattle.nwq_value.specs.declared.engine.Routine.{Routine}
use Rattle.nwq_value.specs.Engine.{Constant, EngineTable}
use Rattle.nwq_value.specs.Header.{HeaderConstant, HeaderParam, HeaderRoutine, header_constants, header_routines}
use Rattle.nwq_value.specs.Roles.{role_without_row}

abbrev pub header_param : HeaderParam → Param
header_param p = record { ty = p.word.ty; default = p.default }

-- a function has the role of its row, or where it has none, the one that its types give
abbrev pub header_routine : HeaderRoutine → Routine
header_routine r = record {
  name = r.name;
  result = r.word.ty;
  params = map header_param r.params;
  role = unwrap_or r.role (role_without_row r.word.ty (map (λ p. p.word.ty) r.params));
}

abbrev pub header_constant : HeaderConstant → Constant
header_constant c = record { name = c.name; value = Int (pos c.value) }

unfoldable pub header_table : EngineTable
header_table = record {
  routines = map header_routine header_routines;
  constants = map header_constant header_constants;
}
