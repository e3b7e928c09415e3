use Rattle.std.proofs.Common.{◌∙◌, ap, sym}
use Rattle.stamped_slots.specs.Stamps.{replaced}
use Rattle.local_variables.proofs.KeptLemmas.{with_content, twice_replaced, not_rewritten}
use Rattle.local_variables.proofs.held.write.Goals as goal

pub returns-in-None : goal.returns-in-None
returns-in-None c = c.in-None.ensures.now ∙ not_rewritten c.args.content c.args.stamp c.nameless.result c.args.held.now.items (sym c.in-None.ensures.was)

pub returns-in-Some : goal.returns-in-Some
returns-in-Some c =
    c.replace-in-Some.ensures.now ∙ ap (replaced c.args.stamp (with_content c.args.content c.in-Some.variable)) c.in-Some.ensures.now
    ∙ twice_replaced c.args.content c.args.stamp c.in-Some.variable c.nameless.result c.args.held.now.items (sym c.in-Some.ensures.was)
