use Rattle.ncs_emit.proofs.Standing.{program_size, program_stands}
use Rattle.ncs_emit.proofs.laws.program_stands.Goals as goal

pub returns-clause-size : goal.returns-clause-size
returns-clause-size c = program_size

pub returns-clause-stands : goal.returns-clause-stands
returns-clause-stands c = program_stands c.place_laws.ensures.places.begins c.size_laws.ensures.sizes.add c.distance_leads.ensures.leads
