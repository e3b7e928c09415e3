use Rattle.std.proofs.Common.{◌≡◌, ◌∷◌, ◌++◌, take}
use Rattle.std.specs.List.{flat_map}
use Rattle.nwq_text.specs.Values.{value_text}
use Rattle.nwq_text.proofs.value.put_further_values.Given as goal

abbrev pub invariant-loop-value : goal.invariant-loop-value
invariant-loop-value l = l.out.items ≡ l.fn.out.items ++ flat_map (λ y. 44 ∷ value_text y) (take l.value-index l.values)
