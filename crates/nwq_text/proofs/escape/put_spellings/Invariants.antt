use Rattle.std.proofs.Common.{◌≡◌, ◌++◌, take}
use Rattle.std.specs.List.{flat_map}
use Rattle.nwq_text.specs.Escape.{spelling}
use Rattle.nwq_text.proofs.escape.put_spellings.Given as goal

abbrev pub invariant-loop-byte : goal.invariant-loop-byte
invariant-loop-byte l = l.out.items ≡ l.fn.out.items ++ flat_map (spelling l.in_quotes) (take l.byte-index l.text)
