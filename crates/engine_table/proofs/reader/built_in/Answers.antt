use Rattle.std.proofs.Common.{List, ℕ, subst}
use Rattle.nwq_value.specs.Header.{header_text}
use Rattle.nwq_value.specs.HeaderTable.{header_table}
use Rattle.engine_table.specs.Headers.{HasTable, IsRefused, OneHeader}
use Rattle.engine_table.proofs.BuiltIn.{only_memory}
use Rattle.engine_table.proofs.reader.built_in.Goals as goal

pub want_of_memory-requires : goal.want_of_memory-requires
want_of_memory-requires c =
    let one : OneHeader = c.one_header.ensures.one in
    only_memory c.built_in_has_table.ensures.table one c.in-Err.fault
    (subst (λ (bytes : List ℕ). IsRefused bytes c.in-Err.fault) (c.built_in_is_the_header.ensures.text) c.in-Err.ensures.refused)

pub returns-in-Ok-clause-table : goal.returns-in-Ok-clause-table
returns-in-Ok-clause-table c =
    let one : OneHeader = c.one_header.ensures.one in
    one.one_table header_text c.in-Ok.table header_table
    (subst (λ (bytes : List ℕ). HasTable bytes c.in-Ok.table) (c.built_in_is_the_header.ensures.text) c.in-Ok.ensures.table) c.built_in_has_table.ensures.table
