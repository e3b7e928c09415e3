use Rattle.std.proofs.Common.{◌≡◌, take}
use Rattle.table_2da.proofs.tables.Tables.copy.Given as goal

abbrev pub invariant-loop-named : goal.invariant-loop-named
invariant-loop-named l = l.all ≡ take l.named-index l.named-items
