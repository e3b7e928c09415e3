use Rattle.std.proofs.Common.{map}
use Rattle.nss_symbols.specs.Cursor.{plain_symbol}
use Rattle.message_tokens.proofs.GoingOn.{none_tried, one_more, all_tried}
use Rattle.message_tokens.proofs.listing.able_behind.Goals as goal

pub loop-token-init : goal.loop-token-init
loop-token-init c = none_tried c.args.walk.now c.args.count (map plain_symbol c.args.rest.now) _ c.new-listed.ensures.items

pub loop-token-preserved : goal.loop-token-preserved
loop-token-preserved c =
    one_more c.args.walk.now c.args.count (map plain_symbol c.args.rest.now) c.args.tried.now c.loop-token.listed.items _ c.loop-token.token-index _ c.loop-token-test.true c.loop-token.invariant
    c.in_ok-put_able.ensures

pub returns : goal.returns
returns c = record { lists = all_tried c.args.walk.now c.args.count (map plain_symbol c.args.rest.now) c.args.tried.now _ c.loop-token.token-index c.loop-token-test.false c.loop-token.invariant }
