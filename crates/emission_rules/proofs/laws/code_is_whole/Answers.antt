use Rattle.emission_rules.proofs.Whole.{unit_whole}
use Rattle.emission_rules.proofs.laws.code_is_whole.Goals as goal

pub returns : goal.returns
returns c =
    let parts = c.part_laws.ensures.parts in
    record { whole = unit_whole parts.placements parts.lead parts.close }
