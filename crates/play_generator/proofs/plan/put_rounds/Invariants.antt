use Rattle.std.proofs.Common.{◌≡◌, ◌++◌}
use Rattle.std.specs.List.{flat_map}
use Rattle.play_generator.specs.Made.{below, lines_text, round_lines}
use Rattle.play_generator.proofs.plan.put_rounds.Given as goal

abbrev pub invariant-loop-round : goal.invariant-loop-round
invariant-loop-round l = l.out.items ≡ l.fn.out.items ++ flat_map (λ round. lines_text (round_lines l.creatures round)) (below l.round)
