use Rattle.std.proofs.Common.{◌≡◌, ◌++◌, drop}
use Rattle.gff_text.specs.Text.{digits}
use Rattle.gff_text.proofs.lines.put_digits.Given as goal

abbrev pub invariant-loop-byte : goal.invariant-loop-byte
invariant-loop-byte l = l.out.items ++ digits (drop l.byte-index l.bytes) ≡ l.fn.out.items ++ digits l.bytes
