use Rattle.ncs_emit.proofs.Leading.{finished}
use Rattle.ncs_emit.proofs.laws.finished_is_code.Goals as goal

pub returns : goal.returns
returns c = record {
  code = finished c.place_laws.ensures.places.begins c.place_laws.ensures.places.stands c.size_laws.ensures.sizes.add c.distance_leads.ensures.leads;
}
