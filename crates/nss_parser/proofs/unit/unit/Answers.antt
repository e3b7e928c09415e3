use Rattle.std.proofs.Common.{◌+◌, ◌-◌, map, false, sym, ap, ◌∙◌}
use Rattle.nss_tree.specs.Source.{SourceItems}
use Rattle.nss_tree.specs.Reading.{plain_item}
use Rattle.nss_parser.specs.ReadStatement as statements
use Rattle.nss_parser.specs.ReadUnit as read
use Rattle.nss_parser.proofs.Turns.{one_more}
use Rattle.nss_parser.proofs.UnitTurns.{items_more}
use Rattle.nss_parser.proofs.unit.unit.Goals as goal

pub loop-turn-preserved : goal.loop-turn-preserved
loop-turn-preserved c =
    let inside = statements.entries c.args.depth (statements.statement c.args.depth) false in
    let left = c.args.depth - (c.loop-turn._turn + 1) in
    let e = one_more (λ n. read.items_from c.args.depth inside n (map plain_item c.loop-turn.items) c.loop-turn.tokens) c.args.depth _ c.loop-turn._turn c.loop-turn-test.true c.loop-turn.invariant in
    let more = items_more c.args.depth left inside (map plain_item c.loop-turn.items) (plain_item c.in_ok-next.next) c.loop-turn.tokens c.item.new.tokens
    (sym c.is_at_end.ensures ∙ c.if-is_at_end.false) c.in_ok-next.ensures in
    e ∙ more ∙ ap (λ (z : SourceItems). read.items_from c.args.depth inside left z c.item.new.tokens) (sym c.in_ok-push_item.ensures)
