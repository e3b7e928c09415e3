-- The tokens that a text is split into are tokens.
use Rattle.std.proofs.Common.{ℕ, List, [], ◌∷◌, ◌++◌}
use Rattle.std.specs.List.{AllByRecursion}
use Rattle.nss_lexer.specs.declared.token.Token.{Token}
use Rattle.nss_lexer.specs.Lexemes.{IsToken}
use Rattle.nss_lexer.specs.Splitting.{IsFirstToken, plain}

pub token_is : (bytes : List ℕ) (file at : ℕ) (t : Token) → IsFirstToken bytes file at (plain t) → IsToken t
token_is bytes file at t h = h.begins.lexeme

pub all_push : {A : Type 0} (P : A → Type 0) (xs : List A) (x : A) → AllByRecursion P xs → P x → AllByRecursion P (xs ++ x ∷ [])
all_push P [] x h p = (p, tt)
all_push P (y ∷ ys) x h p = (h.0, all_push P ys x h.1 p)
