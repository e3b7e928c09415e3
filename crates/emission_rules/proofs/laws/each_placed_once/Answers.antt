use Rattle.emission_rules.specs.Layout.{layout_of}
use Rattle.emission_rules.specs.Units.{has_globals}
use Rattle.emission_rules.proofs.Labels.{unit_placed}
use Rattle.emission_rules.proofs.laws.each_placed_once.Goals as goal

pub returns : goal.returns
returns c = record {
  once = λ u label. unit_placed c.part_laws.ensures.parts.placements (layout_of u) (has_globals u.items) u.items u.entry label;
}
