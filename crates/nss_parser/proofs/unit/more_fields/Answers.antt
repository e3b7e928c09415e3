use Rattle.std.proofs.Common.{List, ◌+◌, ◌-◌, sym, ap, ◌∙◌}
use Rattle.nss_tree.specs.declared.units.Identifier.{Identifier}
use Rattle.nss_parser.specs.ReadUnit as read
use Rattle.nss_parser.proofs.Turns.{one_more}
use Rattle.nss_parser.proofs.UnitTurns.{field_more}
use Rattle.nss_parser.proofs.unit.more_fields.Goals as goal

pub loop-turn-preserved : goal.loop-turn-preserved
loop-turn-preserved c =
    let e = one_more (λ n. read.more_fields n c.loop-turn.names c.loop-turn.tokens) c.args.depth _ c.loop-turn._turn c.loop-turn-test.true c.loop-turn.invariant in
    let more = field_more (c.args.depth - (c.loop-turn._turn + 1)) c.in_ok-take.field-0 c.loop-turn.names c.in_ok-next.next
    c.loop-turn.tokens c.take.new.self c.identifier.new.tokens (sym c.sees.ensures.next ∙ c.if-not-sees.false) c.in_ok-take.ensures.read c.in_ok-next.ensures in
    e ∙ more ∙ ap (λ (z : List Identifier). read.more_fields (c.args.depth - (c.loop-turn._turn + 1)) z c.identifier.new.tokens) (sym c.in_ok-push-2.ensures.ok)
