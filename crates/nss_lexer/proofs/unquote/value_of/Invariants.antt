use Rattle.std.proofs.Common.{◌≡◌, ◌++◌, drop}
use Rattle.nss_lexer.specs.Reading.{FitsByte, value_from}
use Rattle.nss_lexer.specs.declared.string.Escape.TheVariants.{Outside}
use Rattle.nss_lexer.proofs.unquote.value_of.Given as goal

abbrev pub invariant-loop-b : goal.invariant-loop-b
invariant-loop-b l = (l.bytes.items ++ value_from l.state (drop l.b-index l.rest) ≡ value_from Outside l.rest) × FitsByte l.state
