use Rattle.std.proofs.Common.{◌≡◌, ◌++◌, take}
use Rattle.std.specs.List.{flat_map}
use Rattle.message_text.specs.Shown.{shown_byte}
use Rattle.message_text.proofs.shown.put_shown.Given as goal

abbrev pub invariant-loop-byte : goal.invariant-loop-byte
invariant-loop-byte l = l.out.items ≡ l.fn.out.items ++ flat_map (shown_byte l.text) (take l.byte-index l.bytes)
