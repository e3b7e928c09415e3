use Rattle.ncs_code.proofs.Places.{distance_leads}
use Rattle.ncs_code.proofs.laws.distance_leads.Goals as goal

pub returns : goal.returns
returns c = record { leads = distance_leads }
