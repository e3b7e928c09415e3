use Rattle.std.proofs.Common.{rules, ◌∙◌}
use Rattle.std.proofs.lemmas.Fn.{filter_same}
use Rattle.stamped_slots.proofs.slots.compact.Goals as goal

pub returns-clause-full : goal.returns-clause-full
returns-clause-full g c = c.shrink_to_fit.ensures.items ∙ filter_same _ _ _ (λ x b f k. search rules) _ _ c.retain.ensures.filtered
