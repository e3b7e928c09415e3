use Rattle.std.proofs.Common.{List, ◌+◌, ◌-◌, sym, ap, ◌∙◌}
use Rattle.nss_tree.specs.Source.{SourceLine}
use Rattle.nss_parser.specs.ReadUnit as read
use Rattle.nss_parser.proofs.Turns.{one_more}
use Rattle.nss_parser.proofs.UnitTurns.{fields_more}
use Rattle.nss_parser.proofs.unit.fields.Goals as goal

pub loop-turn-preserved : goal.loop-turn-preserved
loop-turn-preserved c =
    let e = one_more (λ n. read.fields_from c.args.depth n c.loop-turn.lines c.loop-turn.tokens) c.args.depth _ c.loop-turn._turn c.loop-turn-test.true c.loop-turn.invariant in
    let more = fields_more c.args.depth (c.args.depth - (c.loop-turn._turn + 1)) c.loop-turn.lines c.in_ok-line.line
    c.loop-turn.tokens c.field.new.tokens c.in_ok-line.ensures (sym c.sees.ensures.next ∙ c.if-sees.false) in
    e ∙ more ∙ ap (λ (z : List SourceLine). read.fields_from c.args.depth (c.args.depth - (c.loop-turn._turn + 1)) z c.field.new.tokens) (sym c.in_ok-push.ensures.ok)
