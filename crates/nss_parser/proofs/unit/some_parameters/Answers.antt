use Rattle.std.proofs.Common.{List, ◌+◌, ◌-◌, sym, ap, ◌∙◌}
use Rattle.nss_tree.specs.Source.{SourceParameter}
use Rattle.nss_parser.specs.ReadUnit as read
use Rattle.nss_parser.proofs.Turns.{one_more}
use Rattle.nss_parser.proofs.UnitTurns.{parameters_more}
use Rattle.nss_parser.proofs.unit.some_parameters.Goals as goal

pub loop-turn-preserved : goal.loop-turn-preserved
loop-turn-preserved c =
    let e = one_more (λ n. read.parameters_from n c.loop-turn.all c.loop-turn.tokens) c.args.depth _ c.loop-turn._turn c.loop-turn-test.true c.loop-turn.invariant in
    let more = parameters_more (c.args.depth - (c.loop-turn._turn + 1)) c.in_ok-take.field-0 c.loop-turn.all c.in_ok-next.next
    c.loop-turn.tokens c.parameter.new.tokens c.take.new.self c.in_ok-next.ensures (sym c.sees.ensures.next ∙ c.if-sees.true) c.in_ok-take.ensures.read in
    e ∙ more ∙ ap (λ (z : List SourceParameter). read.parameters_from (c.args.depth - (c.loop-turn._turn + 1)) z c.take.new.self) (sym c.in_ok-push.ensures.ok)
