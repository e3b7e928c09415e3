use Rattle.std.proofs.Common.{◌≡◌, ◌+◌, drop}
use Rattle.std.specs.Prelude.{option_map}
use Rattle.nss_lexer.specs.Reading.{closing_comment}
use Rattle.nss_lexer.proofs.gap.closing_comment.Given as goal

abbrev pub invariant-loop-at : goal.invariant-loop-at
invariant-loop-at l = option_map (λ n. l.at + n) (closing_comment (drop l.at l.text)) ≡ closing_comment l.text
