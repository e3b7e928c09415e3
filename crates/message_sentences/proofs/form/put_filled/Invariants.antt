use Rattle.std.proofs.Common.{◌≡◌, ◌++◌, take}
use Rattle.std.specs.List.{flat_map}
use Rattle.message_sentences.specs.Template.{filled_byte}
use Rattle.message_sentences.proofs.form.put_filled.Given as goal

abbrev pub invariant-loop-byte : goal.invariant-loop-byte
invariant-loop-byte l = l.out.items ≡ l.fn.out.items ++ flat_map (filled_byte l.piece) (take l.byte-index l.sentence)
