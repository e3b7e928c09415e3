-- The tokens of a file by computing, for files that are given. By a law they are its tokens.
use Rattle.std.specs.Prelude.{◌≡◌, ℕ, zero, suc, ◌+◌, Bool, true, false, List, [], ◌∷◌, take, drop, Option, Some, None, option_map}
use Rattle.nss_lexer.specs.declared.scan.Scanned.{Scanned}
use Rattle.nss_lexer.specs.Reading.{pass, lexeme}
use Rattle.nss_lexer.specs.Splitting.{Lexeme, AreTokens, begins_comment}

abbrev pub lexeme_of : List ℕ → ℕ → Scanned → Lexeme
lexeme_of bytes at f = record {
  kind = f.kind;
  text = take f.length bytes;
  file = 0;
  start = at;
  end = at + f.length;
}

-- where a comment begins that isn't closed, or nothing begins, there are no tokens
abbrev pub tokens_by : Bool → List ℕ → ℕ → Option Scanned → (ℕ → Option (List Lexeme))
    → Option (List Lexeme)
tokens_by true bytes at o rest = None
tokens_by false bytes at None rest = None
tokens_by false bytes at (Some f) rest = option_map (λ ts. lexeme_of bytes at f ∷ ts)
    (rest f.length)

abbrev pub tokens_after : List ℕ → ℕ → Option ℕ → (ℕ → Option (List Lexeme)) → Option (List Lexeme)
tokens_after [] at o rest = Some []
tokens_after (b ∷ bs) at (Some m) rest = rest m
tokens_after (b ∷ bs) at None rest = tokens_by (begins_comment (b ∷ bs)) (b ∷ bs) at
    (lexeme (b ∷ bs)) rest

-- The tokens of bytes whose first has this place, found in so many steps, one for each token and
-- each blank or comment; `None` where the steps don't suffice, or something begins no token.
unfoldable pub tokens_in : ℕ → ℕ → List ℕ → Option (List Lexeme)
tokens_in zero at bytes = None
tokens_in (suc n) at bytes = tokens_after bytes at (pass bytes)
    (λ m. tokens_in n (at + m) (drop m bytes))

-- tokens that were computed are the tokens of the file
abbrev pub ComputedAreTokens : Type 0
ComputedAreTokens = (bytes : List ℕ) (steps : ℕ) (tokens : List Lexeme)
    → tokens_in steps 0 bytes ≡ Some tokens → AreTokens bytes 0 tokens
