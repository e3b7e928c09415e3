use Rattle.nss_parser.proofs.Behind.{ReadSoFar}
use Rattle.nss_parser.proofs.front.whole_items.Given as goal

abbrev pub invariant-loop-turn : goal.invariant-loop-turn
invariant-loop-turn l = ReadSoFar l.symbols l.count l.cursor
