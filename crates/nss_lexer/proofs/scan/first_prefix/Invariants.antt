use Rattle.std.proofs.Common.{◌≡◌, drop, map}
use Rattle.nss_lexer.specs.Reading.{first_prefix}
use Rattle.nss_lexer.proofs.scan.first_prefix.Given as goal

abbrev pub invariant-loop-sign : goal.invariant-loop-sign
invariant-loop-sign l =
    first_prefix (map (λ sign. sign.now) (drop l.sign-index l.table)) l.bytes ≡ first_prefix (map (λ sign. sign.now) l.table) l.bytes
