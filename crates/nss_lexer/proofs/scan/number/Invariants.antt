use Rattle.std.proofs.Common.{◌≡◌, ◌^◌, ◌<◌, drop}
use Rattle.std.specs.Str.Parse.{digits_value_after, digits_value}
use Rattle.nss_lexer.proofs.scan.number.Given as goal

abbrev pub invariant-loop-b : goal.invariant-loop-b
invariant-loop-b l = (digits_value_after l.radix l.n (drop l.b-index l.digits) ≡ digits_value l.radix l.digits) × (l.n < 2 ^ 32)
