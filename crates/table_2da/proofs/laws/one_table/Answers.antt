use Rattle.table_2da.proofs.TableLemmas as table
use Rattle.table_2da.proofs.laws.one_table.Goals as goal

pub returns : goal.returns
returns c = record { one = table.one_table }
