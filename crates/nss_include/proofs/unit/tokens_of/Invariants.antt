use Rattle.std.proofs.Common.{◌≡◌, take, map}
use Rattle.std.specs.List.{AllByRecursion}
use Rattle.nss_lexer.specs.Lexemes.{IsToken}
use Rattle.nss_lexer.specs.Splitting.{plain}
use Rattle.nss_include.specs.View.{lexeme_of}
use Rattle.nss_include.proofs.unit.tokens_of.Given as goal

abbrev pub invariant-loop-span : goal.invariant-loop-span
invariant-loop-span l = (map plain l.tokens.items ≡ map (lexeme_of l.files) (take l.span-index l.spans)) × AllByRecursion IsToken l.tokens.items
