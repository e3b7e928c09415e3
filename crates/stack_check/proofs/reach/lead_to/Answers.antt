use Rattle.stack_check.proofs.Steps.{led_owed}
use Rattle.stack_check.proofs.reach.lead_to.Goals as goal

pub follow-requires-clause-owed : goal.follow-requires-clause-owed
follow-requires-clause-owed c =
    led_owed c.rules_look_from_the_top.ensures.rules _ _ _ _ _ _ _ _ c.args.after c.args.lead c.args.place c.requires.keeps c.requires.step c.requires.lead
    c.requires.led
