-- The text of a string token is within its bounds.
use Rattle.std.proofs.Common.{ℕ, ◌<◌, List, take, arith}
use Rattle.std.proofs.lemmas.List.{length-take}
use Rattle.std.proofs.lemmas.List.Elements.{All-take}
use Rattle.std.specs.Prelude.{All}
use Rattle.nwq_value.specs.Limits.{text_limit}
use Rattle.nss_lexer.specs.Strings.{IsString, string_value, ValuesAreBytes}
use Rattle.nss_symbols.specs.Symbols.{IsText}

pub text_literal : ValuesAreBytes → (text : List ℕ) → IsString text → All (λ b. b < 256) text → IsText (take text_limit (string_value text))
text_literal bytes text is h =
    let e = length-take text_limit (string_value text) in
    (omega (arith, e), All-take (λ b. b < 256) text_limit (string_value text) (bytes text is h))
