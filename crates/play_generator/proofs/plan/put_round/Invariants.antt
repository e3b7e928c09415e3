use Rattle.std.proofs.Common.{◌≡◌, ◌++◌}
use Rattle.std.specs.List.{flat_map}
use Rattle.play_generator.specs.Made.{below, ended, event_line}
use Rattle.play_generator.proofs.plan.put_round.Given as goal

abbrev pub invariant-loop-creature : goal.invariant-loop-creature
invariant-loop-creature l = l.out.items ≡ l.fn.out.items ++ flat_map (λ creature. ended (event_line l.round creature)) (below l.creature)
