use Rattle.std.proofs.Common.{◌∙◌, ap}
use Rattle.stamped_slots.specs.Stamps.{without}
use Rattle.stamped_slots.specs.StampLemmas.{put_last}
use Rattle.local_variables.proofs.KeptLemmas.{taken_back}
use Rattle.local_variables.proofs.held.add.Goals as goal

pub returns-then-is_ok-clause-all : goal.returns-then-is_ok-clause-all
returns-then-is_ok-clause-all c = c.in_ok-insert.ensures.ok ∙ put_last c.args.stamp c.args.variable c.args.held.now.items c.requires.above

pub returns-clause-same_all : goal.returns-clause-same_all
returns-clause-same_all c =
    c.take.ensures.left ∙ ap (without c.args.stamp) (c.in_ok-insert.ensures.ok ∙ put_last c.args.stamp c.args.variable c.args.held.now.items c.requires.above)
    ∙ taken_back c.args.stamp c.args.variable c.args.held.now.items c.requires.above
