use Rattle.ncs_machine.proofs.Fitting.{engine_keeps, lines_keep}
use Rattle.ncs_machine.proofs.laws.calls_keep_fits.Goals as goal

pub returns : goal.returns
returns c = record { engine = engine_keeps; lines = lines_keep }
