use Rattle.std.proofs.Common.{map, refl}
use Rattle.nss_symbols.specs.Cursor.{plain_symbol}
use Rattle.message_tokens.proofs.GoingOn.{adds_it, adds_none}
use Rattle.message_tokens.proofs.listing.put_able.Goals as goal

pub returns-then-not-branch : goal.returns-then-not-branch
returns-then-not-branch c =
    adds_none c.args.walk.now c.args.count (map plain_symbol c.args.rest.now) c.args.listed.now.items c.args.listed.now.items c.args.token.now c.in_ok-can_follow.field-0
    c.in_ok-can_follow.ensures c.if-not-branch.true refl

pub returns : goal.returns
returns c =
    adds_it c.args.walk.now c.args.count (map plain_symbol c.args.rest.now) c.args.listed.now.items c.push.new.self.items c.args.token.now c.in_ok-can_follow.field-0
    c.in_ok-can_follow.ensures c.if-not-branch.false c.in_ok-push.ensures.items
