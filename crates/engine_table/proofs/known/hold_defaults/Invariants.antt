use Rattle.std.proofs.Common.{◌≡◌, ◌+◌, ◌≤◌, drop}
use Rattle.engine_table.specs.Held.{held_limit, params_held}
use Rattle.engine_table.proofs.known.hold_defaults.Given as goal

abbrev pub invariant-loop-param : goal.invariant-loop-param
invariant-loop-param l = (l.text + params_held (drop l.param-index l.params) ≡ l.fn.text + params_held l.params) × (l.text ≤ held_limit)
