use Rattle.std.proofs.Common.{◌+◌, ◌-◌, ◌≤◌, length, sym, subst, false}
use Rattle.nss_tree.specs.Reading.{plain_item}
use Rattle.nss_parser.specs.ReadStatement.{entries, statement}
use Rattle.nss_parser.specs.ReadUnit.{item}
use Rattle.nss_parser.proofs.ReaderLemmas.{reads_ok}
use Rattle.nss_parser.proofs.Behind.{ReadSoFar, none_read, one_read, left_within, count_within, are_items}
use Rattle.nss_parser.proofs.front.whole_items.Goals as goal

pub loop-turn-init : goal.loop-turn-init
loop-turn-init c = none_read c.args.symbols.now c.new-cursor.result c.new-cursor.ensures.all

pub returns-in-Err : goal.returns-in-Err
returns-in-Err c = record {
  within = count_within c.args.symbols.now c.loop-turn.count c.loop-turn.cursor c.loop-turn.invariant;
  items = are_items c.args.symbols.now c.loop-turn.count c.loop-turn.cursor c.loop-turn.invariant;
}

pub overflow_sub-count : goal.overflow_sub-count
overflow_sub-count c =
    let got = reads_ok plain_item (item (length c.args.symbols.now + 2) (entries (length c.args.symbols.now + 2) (statement (length c.args.symbols.now + 2)) false) c.loop-turn.cursor)
    c.item.result c.item.new.tokens c.in-Ok.read c.item.ensures c.in-Ok.is in
    let so = one_read c.args.symbols.now c.loop-turn.count (length c.args.symbols.now + 2) c.loop-turn.cursor c.item.new.tokens (plain_item c.in-Ok.read) c.loop-turn.invariant got in
    subst (λ k. k ≤ length c.args.symbols.now) (sym c.left.ensures.count) (left_within c.args.symbols.now _ c.item.new.tokens so)

pub loop-turn-preserved : goal.loop-turn-preserved
loop-turn-preserved c =
    let got = reads_ok plain_item (item (length c.args.symbols.now + 2) (entries (length c.args.symbols.now + 2) (statement (length c.args.symbols.now + 2)) false) c.loop-turn.cursor)
    c.item.result c.item.new.tokens c.in-Ok.read c.item.ensures c.in-Ok.is in
    let so = one_read c.args.symbols.now c.loop-turn.count (length c.args.symbols.now + 2) c.loop-turn.cursor c.item.new.tokens (plain_item c.in-Ok.read) c.loop-turn.invariant got in
    subst (λ k. ReadSoFar c.args.symbols.now (length c.args.symbols.now - k) c.item.new.tokens) (sym c.left.ensures.count) so

pub returns-clause-within : goal.returns-clause-within
returns-clause-within c = count_within c.args.symbols.now c.loop-turn.count c.loop-turn.cursor c.loop-turn.invariant

pub returns-clause-items : goal.returns-clause-items
returns-clause-items c = are_items c.args.symbols.now c.loop-turn.count c.loop-turn.cursor c.loop-turn.invariant
