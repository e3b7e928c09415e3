use Rattle.hook_table.specs.Served.{AreFirst}
use Rattle.hook_table.specs.InHooks.{known_by}
use Rattle.nwq.proofs.whole.run_hooked.Given as goal

abbrev pub invariant-loop-n : goal.invariant-loop-n
invariant-loop-n g l = AreFirst l.n (known_by l.hooks)
