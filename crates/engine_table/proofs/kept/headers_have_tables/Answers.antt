use Rattle.engine_table.specs.KeptTables.{HeadersHaveTables}
use Rattle.engine_table.proofs.Tables.{headers_have_tables, built_in_is_table}
use Rattle.engine_table.proofs.kept.headers_have_tables.Goals as goal

pub returns : goal.returns
returns c =
    let tables : HeadersHaveTables = headers_have_tables c.values_are_bytes.ensures.bytes c.clear_lines_are_admissible.ensures.admissible in
    record { read = tables; built_in = built_in_is_table tables c.built_in_has_table.ensures.table }
