use Rattle.std.proofs.Common.{◌≡◌, drop}
use Rattle.nss_lexer.specs.Reading.{is_prefix}
use Rattle.nss_lexer.proofs.scan.is_prefix.Given as goal

abbrev pub invariant-loop-at : goal.invariant-loop-at
invariant-loop-at l = is_prefix (drop l.at l.sign) (drop l.at l.bytes) ≡ is_prefix l.sign l.bytes
