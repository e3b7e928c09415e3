use Rattle.emission_rules.proofs.Positions.{positions_are}
use Rattle.emission_rules.proofs.laws.positions_by_number.Goals as goal

pub returns : goal.returns
returns c = record { positions = λ table u t typed. positions_are t _ (c.numbered_in_order.ensures.numbered table u t typed) }
