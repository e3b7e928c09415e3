use Rattle.std.proofs.Common.{false, subst, sym, ◌∙◌}
use Rattle.nss_tree.specs.Reading.{plain_item}
use Rattle.nss_symbols.specs.Cursor.{Reads}
use Rattle.nss_parser.specs.ReadStatement as statements
use Rattle.nss_parser.proofs.UnitTurns.{item_typed}
use Rattle.nss_parser.proofs.unit.item.Goals as goal

pub returns-else-sees-2 : goal.returns-else-sees-2
returns-else-sees-2 c =
    let inside = statements.entries c.args.depth (statements.statement c.args.depth) false in
    let is = item_typed c.args.depth inside c.args.tokens.now (sym c.sees.ensures.next ∙ c.if-sees.false) (sym c.sees-else-sees.ensures.next ∙ c.if-sees-2.false) in
    subst (λ z. Reads plain_item z c.typed_item.result c.typed_item.new.tokens) is c.typed_item.ensures
