use Rattle.ncs_text.proofs.Again.{target_is_meant}
use Rattle.ncs_text.proofs.laws.target_is_meant.Goals as goal

pub returns : goal.returns
returns c = record { meant = target_is_meant c.place_laws.ensures.places c.distance_leads.ensures.leads }
