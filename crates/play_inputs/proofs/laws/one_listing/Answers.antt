use Rattle.play_inputs.proofs.OneListing.{sure_listed}
use Rattle.play_inputs.proofs.laws.one_listing.Goals as goal

pub returns : goal.returns
returns c = record { listed = sure_listed c.one_script.ensures.compiled c.one_check.ensures.checked c.one_check.ensures.loaded }
