use Rattle.std.proofs.Common.{◌≡◌, drop}
use Rattle.local_variables.proofs.vars.Vars.get.Given as goal

abbrev pub invariant-loop : goal.invariant-loop
invariant-loop l = l.walk ≡ drop l.counter l.initial.walk
