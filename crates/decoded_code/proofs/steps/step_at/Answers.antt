use Rattle.std.proofs.Common.{◌/◌, refl}
use Rattle.decoded_code.proofs.Filling.{found_inside, found_is}
use Rattle.decoded_code.proofs.steps.step_at.Goals as goal

pub returns : goal.returns
returns c = record {
  step =
      found_is c.args.code.now c.args.at (c.args.at / 2) c.args.steps.now c.index-steps-at.result c.requires.steps refl
      (found_inside c.args.code.now c.args.at c.args.steps.now c.requires.steps c.requires.begins) c.index-steps-at.is;
}
