use Rattle.play_generator.proofs.ZeroLaws.{zero_play, one_area}
use Rattle.play_generator.proofs.laws.play_of_zero.Goals as goal

pub returns : goal.returns
returns c = record { play = zero_play; area = one_area }
