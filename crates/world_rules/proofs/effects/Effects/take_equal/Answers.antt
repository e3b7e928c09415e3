use Rattle.std.proofs.Common.{sym, ap, ◌∙◌}
use Rattle.std.specs.List.{find}
use Rattle.world_rules.specs.Changes.{is_effect, without_first}
use Rattle.world_rules.proofs.StandingLemmas.{taken_none, taken_some, kept_less}
use Rattle.world_rules.proofs.effects.Effects.take_equal.Goals as goal

pub returns-in-None-clause-taken : goal.returns-in-None-clause-taken
returns-in-None-clause-taken c =
    (taken_none (is_effect c.args.effect.now) c.self.inside.all.items c.keeps.ensures.rise c.in-None.ensures.first).taken ∙ ap (find (is_effect c.args.effect.now)) c.self.view_is

pub returns-in-None-clause-left : goal.returns-in-None-clause-left
returns-in-None-clause-left c =
    sym c.self.view_is
    ∙ (taken_none (is_effect c.args.effect.now) c.self.inside.all.items c.keeps.ensures.rise c.in-None.ensures.first).left
    ∙ ap (without_first (is_effect c.args.effect.now)) c.self.view_is

pub returns-in-Some-clause-taken : goal.returns-in-Some-clause-taken
returns-in-Some-clause-taken c =
    (taken_some (is_effect c.args.effect.now) c.in-Some.stamp c.self.inside.all.items c.take_out.new.all.items c.take_out.result c.keeps.ensures.rise c.in-Some.ensures.first
    c.take_out.ensures.taken c.take_out.ensures.left).taken
    ∙ ap (find (is_effect c.args.effect.now)) c.self.view_is

pub returns-in-Some-clause-left : goal.returns-in-Some-clause-left
returns-in-Some-clause-left c =
    (taken_some (is_effect c.args.effect.now) c.in-Some.stamp c.self.inside.all.items c.take_out.new.all.items c.take_out.result c.keeps.ensures.rise c.in-Some.ensures.first
    c.take_out.ensures.taken c.take_out.ensures.left).left
    ∙ ap (without_first (is_effect c.args.effect.now)) c.self.view_is

pub invariant_of-self : goal.invariant_of-self
invariant_of-self c =
    kept_less c.self.inside.next c.in-Some.stamp c.self.inside.all.items c.take_out.new.all.items
    c.take_out.new.numbers c.take_out.new.contents c.self.invariant.under c.take_out.ensures.left
    c.take_out.ensures.by_number c.take_out.ensures.by_content
