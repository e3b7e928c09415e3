use Rattle.nwq_top.proofs.tables.nwq_tables.Given as goal

abbrev pub ghosts-tables_told : goal.ghosts-tables_told
ghosts-tables_told g a = record { name = a.out.ghost_name }
