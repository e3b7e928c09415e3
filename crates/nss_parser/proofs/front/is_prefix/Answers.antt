use Rattle.std.proofs.Common.{◌==◌, ◌+◌, length, map, sym, ap, arith, false}
use Rattle.nss_tree.specs.Reading.{plain_item}
use Rattle.nss_parser.specs.ReadStatement.{entries, statement}
use Rattle.nss_parser.specs.ReadUnit.{items}
use Rattle.nss_parser.proofs.ReaderLemmas.{reads_ok, reads_syntax, reads_deep}
use Rattle.nss_parser.proofs.Behind.{got_tells, stuck_tells, never_deep}
use Rattle.nss_parser.proofs.front.is_prefix.Goals as goal

pub unreachable-requires : goal.unreachable-requires
unreachable-requires c =
    let deep = reads_deep (map plain_item) (items (length c.args.rest.now + 2) (entries (length c.args.rest.now + 2) (statement (length c.args.rest.now + 2)) false) c.numbered-cursor.result)
    c.unit.result c.unit.new.tokens c.in-Err-TooDeep.field-0 c.unit.ensures c.in-Err-TooDeep.is c.in-Err-TooDeep.field-0-is in
    never_deep c.args.rest.now c.args.count (length c.args.rest.now + 2) c.numbered-cursor.result c.numbered-cursor.ensures.all (omega arith) deep

pub returns-in-Ok : goal.returns-in-Ok
returns-in-Ok c =
    let got = reads_ok (map plain_item) (items (length c.args.rest.now + 2) (entries (length c.args.rest.now + 2) (statement (length c.args.rest.now + 2)) false) c.numbered-cursor.result)
    c.unit.result c.unit.new.tokens c.in-Ok.items c.unit.ensures c.in-Ok.is in
    got_tells c.args.rest.now c.args.count (length c.args.rest.now + 2) (map plain_item c.in-Ok.items) c.numbered-cursor.result c.unit.new.tokens c.numbered-cursor.ensures.all got

pub returns-in-Err-Syntax : goal.returns-in-Err-Syntax
returns-in-Err-Syntax c =
    let stuck = reads_syntax (map plain_item) (items (length c.args.rest.now + 2) (entries (length c.args.rest.now + 2) (statement (length c.args.rest.now + 2)) false) c.numbered-cursor.result)
    c.unit.result c.unit.new.tokens c.in-Err-Syntax.field-0 c.unit.ensures c.in-Err-Syntax.is c.in-Err-Syntax.field-0-is in
    stuck_tells c.args.rest.now c.args.count (length c.args.rest.now + 2) c.numbered-cursor.result c.unit.new.tokens _ c.numbered-cursor.ensures.all stuck
    (ap (λ k. k == 0) (sym c.left.ensures.count))
