use Rattle.std.proofs.Common.{◌≡◌, length}
use Rattle.std.specs.List.{AllByRecursion}
use Rattle.play_save.proofs.turns.no_turns.Given as goal

abbrev pub invariant-loop-object : goal.invariant-loop-object
invariant-loop-object l = AllByRecursion (λ n. n ≡ 0) l.counts × (length l.counts ≡ l._object)
