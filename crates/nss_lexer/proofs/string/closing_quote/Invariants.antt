use Rattle.std.proofs.Common.{◌≡◌, ◌+◌, drop}
use Rattle.std.specs.Prelude.{option_map}
use Rattle.nss_lexer.specs.Reading.{FitsByte, closing}
use Rattle.nss_lexer.specs.declared.string.Escape.TheVariants.{Outside}
use Rattle.nss_lexer.proofs.string.closing_quote.Given as goal

abbrev pub invariant-loop-n : goal.invariant-loop-n
invariant-loop-n l =
    (option_map (λ k. l.n + k) (closing l.state (drop l.n l.text)) ≡ closing Outside l.text) × FitsByte l.state
