use Rattle.std.proofs.Common.{List, ◌+◌, ◌-◌, sym, ap, ◌∙◌}
use Rattle.nss_tree.specs.Source.{SourceDeclared}
use Rattle.nss_tree.specs.Reading.{plain_name, plain_names}
use Rattle.nss_parser.specs.ReadDeclaration as read
use Rattle.nss_parser.proofs.Turns.{one_more}
use Rattle.nss_parser.proofs.LoopTurns.{name_more}
use Rattle.nss_parser.proofs.declaration.more_declared.Goals as goal

pub loop-turn-preserved : goal.loop-turn-preserved
loop-turn-preserved c =
    let e = one_more (λ n. read.more_declared c.args.depth n (plain_names c.loop-turn.all) c.loop-turn.tokens) c.args.depth _ c.loop-turn._turn c.loop-turn-test.true c.loop-turn.invariant in
    let more = name_more c.args.depth (c.args.depth - (c.loop-turn._turn + 1)) c.in_ok-take.field-0 (plain_names c.loop-turn.all) (plain_name c.in_ok-next.next)
    c.loop-turn.tokens c.take.new.self c.declared.new.tokens (sym c.sees.ensures.next ∙ c.if-not-sees.false) c.in_ok-take.ensures.read c.in_ok-next.ensures in
    e ∙ more ∙ ap (λ (z : List SourceDeclared). read.more_declared c.args.depth (c.args.depth - (c.loop-turn._turn + 1)) z c.declared.new.tokens) (sym c.in_ok-push_name-2.ensures)
