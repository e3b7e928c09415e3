-- Words as lists of bytes.
use Rattle.std.proofs.Common.{◌≡◌, ◌||◌, List, [], ◌∷◌, map, String, Global, string_bytes, refl, ap}
use Rattle.std.specs.List.{list_any}
use Rattle.command_words.specs.Words.{is_option}

pub any_dashed : (words : List (String Global)) → list_any is_option (map string_bytes words) ≡ list_any (λ word. is_option (string_bytes word)) words
any_dashed [] = refl
any_dashed (word ∷ words) = ap (λ b. is_option (string_bytes word) || b) (any_dashed words)
