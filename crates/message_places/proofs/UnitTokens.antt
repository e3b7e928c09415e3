-- The tokens of a unit are few.
use Rattle.std.proofs.Common.{◌≡◌, ◌≤◌, List, [], ◌∷◌, length, map, ap, refl, arith}
use Rattle.nwq_value.specs.Limits.{token_limit}
use Rattle.nss_lexer.specs.declared.token.Token.{Token}
use Rattle.nss_lexer.specs.Splitting.{Lexeme, plain}

as_many : {A B : Type 0} (f : A → B) (xs : List A) → length (map f xs) ≡ length xs
as_many f [] = refl
as_many f (x ∷ xs) = let more = as_many f xs in omega (arith, more)

pub few_tokens : (tokens : List Token) (lexemes : List Lexeme) → map plain tokens ≡ lexemes → length lexemes ≤ token_limit → length tokens ≤ token_limit
few_tokens tokens lexemes same few = let count = as_many plain tokens in let equal = ap length same in omega (arith, count, equal)
