use Rattle.state_format.proofs.StateLaws as Laws
use Rattle.state_format.proofs.laws.one_state.Goals as goal

pub returns : goal.returns
returns c = record { one = Laws.one_state }
