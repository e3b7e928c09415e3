-- The play of the number 0, by computing.
use Rattle.std.proofs.Common.{refl}
use Rattle.std.specs.Fmt.{digits}
use Rattle.play_generator.specs.Made.{source_text, plan_text, area_tree}
use Rattle.play_generator.specs.Zero.{PlayOfZero, AreaOfOne}

pub zero_play : PlayOfZero
unfolding source_text plan_text digits
zero_play = refl

pub one_area : AreaOfOne
unfolding area_tree digits
one_area = refl
