use Rattle.std.proofs.Common.{◌≡◌, ◌++◌, take}
use Rattle.std.specs.List.{flat_map}
use Rattle.message_text.specs.Shown.{blank_byte}
use Rattle.message_text.proofs.shown.put_blanks.Given as goal

abbrev pub invariant-loop-byte : goal.invariant-loop-byte
invariant-loop-byte l = l.out.items ≡ l.fn.out.items ++ flat_map (blank_byte l.text) (take l.byte-index l.bytes)
