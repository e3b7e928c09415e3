use Rattle.std.proofs.Common.{◌≡◌, ◌++◌, ◌∷◌, ◌-◌, true, false, replicate}
use Rattle.ncs_file.proofs.scan.put_mark.Given as goal

abbrev pub invariant-loop-rest : goal.invariant-loop-rest
invariant-loop-rest l = l.table.items ≡ l.fn.table.items ++ true ∷ replicate (l._rest - 1) false
