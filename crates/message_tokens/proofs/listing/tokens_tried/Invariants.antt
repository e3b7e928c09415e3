use Rattle.std.proofs.Common.{◌≡◌, map, take}
use Rattle.message_tokens.specs.Kinds.{seen}
use Rattle.message_tokens.specs.Tries.{spelled}
use Rattle.message_tokens.proofs.listing.tokens_tried.Given as goal

abbrev pub invariant-loop-one : goal.invariant-loop-one
invariant-loop-one l = map seen l.all.items ≡ map spelled (take l.one-index l.tried)
