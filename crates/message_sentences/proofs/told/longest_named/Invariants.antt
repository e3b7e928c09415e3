use Rattle.message_sentences.specs.Told.{EndsName}
use Rattle.message_sentences.proofs.told.longest_named.Given as goal

abbrev pub invariant-loop-name : goal.invariant-loop-name
invariant-loop-name l = EndsName l.text l.longest
