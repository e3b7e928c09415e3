use Rattle.hook_table.specs.Served.{AreFirst}
use Rattle.hook_table.specs.InHooks.{known_by}
use Rattle.save_tests.proofs.hooked.holds_with_hooks.Given as goal

abbrev pub invariant-loop-n : goal.invariant-loop-n
invariant-loop-n l = AreFirst l.n (known_by l.hooks)
