-- The table of a header keeps what every table keeps.
use Rattle.std.proofs.Common.{◌≡◌, true, nat_lt, List, Option, Some, None, IfSome, refl, sym, subst}
use Rattle.std.specs.List.{list_all}
use Rattle.nwq_value.specs.declared.engine.Const.{Const}
use Rattle.nwq_value.specs.Engine.{EngineTable, IsConstant, IsTable, routine_named, constant_named}
use Rattle.nwq_value.specs.Header.{header_text, header_constants, header_routines}
use Rattle.nwq_value.specs.HeaderTable.{header_table}
use Rattle.nss_lexer.specs.Strings.{ValuesAreBytes}
use Rattle.engine_table.specs.declared.declaration.Declared.{Declared}
use Rattle.engine_table.specs.declared.declaration.Declaration.{Declaration}
use Rattle.engine_table.specs.declared.declaration.Declaration.TheVariants as declaration
use Rattle.engine_table.specs.Known.{Known}
use Rattle.engine_table.specs.Symbols.{Placed, AreSymbols, placed_all}
use Rattle.engine_table.specs.Headers.{Lines, none, more, routine_of, with_constant, after, after_all, nothing}
use Rattle.engine_table.specs.Laws.{IsAdmissible, BuiltInHasTable, ClearLinesAreAdmissible}
use Rattle.engine_table.specs.KeptTables.{HeadersHaveTables, BuiltInIsTable}
use Rattle.nwq_value.specs.TableLemmas.{table_empty, table_pushed, table_defined}
use Rattle.engine_table.proofs.Literals.{all_bytes, tokens_bounds, front, back}

-- a constant with a value is kept where its name is free
constant_kept : (t : EngineTable) (d : Declared) (c o : Option Const) → IsTable t → routine_named d.name t.routines ≡ None → IfSome c IsConstant
    → constant_named d.name t.constants ≡ o → IsTable (with_constant t d.name c o)
constant_kept t d None o h free bounds is = h
constant_kept t d (Some c) (Some old) h free bounds is = h
constant_kept t d (Some c) None h free bounds is = table_defined t (record { name = d.name; value = c }) h free is bounds

declared_keeps : (k : Known) (d : Declaration) → IsTable k.table → IsAdmissible k.table d → IsTable (after k d).table
declared_keeps k declaration.Passed h new = h
declared_keeps k (declaration.TypeWord n) h new = h
declared_keeps k (declaration.Constant d c) h new = constant_kept k.table d c (constant_named d.name k.table.constants) h new.0 new.1 refl
declared_keeps k (declaration.Function f) h new =
    table_pushed k.table (routine_of f) h new.routine new.constant new.room
    (record { few = new.few; result_type = new.result; param_types = new.params; role = refl })

lines_keep : ClearLinesAreAdmissible → (k : Known) (ds : List Declaration) (xs : List Placed) → IsTable k.table → AreSymbols xs → Lines k ds xs
    → IsTable (after_all k ds).table
lines_keep clear k ds xs h bounds (none _) = h
lines_keep clear k ds xs h bounds (more _ d others ys zs line is rest) =
    let kept = declared_keeps k d h (clear k d ys h.constants (front ys zs bounds) line is) in
    lines_keep clear (after k d) others zs kept (back ys zs bounds) rest

pub headers_have_tables : ValuesAreBytes → ClearLinesAreAdmissible → HeadersHaveTables
headers_have_tables values clear bytes table all (tokens, are, (ds, lines, is)) =
    subst IsTable (sym is) (lines_keep clear nothing ds (placed_all tokens) table_empty (tokens_bounds values bytes 0 0 tokens _ all are) lines)

header_is_bytes : list_all (λ b. nat_lt b 256) header_text ≡ true
unfolding header_text header_constants header_routines
header_is_bytes = refl

pub built_in_is_table : HeadersHaveTables → BuiltInHasTable → BuiltInIsTable
built_in_is_table tables has = tables header_text header_table (all_bytes header_text header_is_bytes) has
