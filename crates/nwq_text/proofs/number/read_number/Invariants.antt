use Rattle.nwq_text.proofs.NumberLemmas.{ReadSoFar}
use Rattle.nwq_text.proofs.number.read_number.Given as goal

abbrev pub invariant-loop-digit : goal.invariant-loop-digit
invariant-loop-digit l = ReadSoFar l.digits l.digit-index l.number
