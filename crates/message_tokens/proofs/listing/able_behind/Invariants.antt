use Rattle.std.proofs.Common.{map, take}
use Rattle.nss_symbols.specs.Cursor.{plain_symbol}
use Rattle.message_tokens.specs.Behind.{ListsBehind}
use Rattle.message_tokens.proofs.listing.able_behind.Given as goal

abbrev pub invariant-loop-token : goal.invariant-loop-token
invariant-loop-token l = ListsBehind l.walk l.count (map plain_symbol l.rest) (take l.token-index l.tried) l.listed.items
