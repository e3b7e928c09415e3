-- The places of a unit at worked examples, by computing.
use Rattle.std.proofs.Common.{◌≡◌, List, [], ◌∷◌, refl}
use Rattle.std.specs.Prelude.{codes}
use Rattle.nwq_text.specs.Line.{line_number}
use Rattle.nss_lexer.specs.declared.token.TokenKind.TheVariants as kind
use Rattle.nss_lexer.specs.Splitting.{Lexeme}
use Rattle.nss_include.specs.declared.file.Source.{Source}
use Rattle.command_sources.specs.Units.{spot_at}

-- a token stands in its own file, and the end is that of the script's file
abbrev files : List Source
files = record { name = codes "p.nss"; bytes = codes "#include \"h\"\n" } ∷ record { name = codes "h.nss"; bytes = codes "\n;" } ∷ []

abbrev tokens : List Lexeme
tokens = record { kind = kind.Sign; text = codes ";"; file = 1; start = 1; end = 2 } ∷ []

place_of_token : spot_at files tokens 0 ≡ record { name = codes "h.nss"; line = 2; at = 1 }
unfolding line_number
place_of_token = refl

place_of_end : spot_at files tokens 1 ≡ record { name = codes "p.nss"; line = 2; at = 13 }
unfolding line_number
place_of_end = refl
