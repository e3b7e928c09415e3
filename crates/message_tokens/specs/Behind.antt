-- Which tokens can follow others that aren't read again: of these the walk over their nest is known,
-- and with which tokens behind whole items they are gone on as. Private clauses and proofs alone
-- need this.
use Rattle.std.specs.Prelude.{◌≡◌, ◌≢◌, ℕ, ◌≤◌, Bool, ◌↔◌, IsTrue, List, [], ◌∷◌, ◌++◌, Some, length, take, drop, codes}
use Rattle.nss_lexer.specs.declared.token.Token.{Token}
use Rattle.nss_symbols.specs.declared.terminal.Terminal.TheVariants as terminal
use Rattle.nss_symbols.specs.Symbols as symbol
use Rattle.nss_symbols.specs.Symbols.{Symbol}
use Rattle.nss_symbols.specs.Nest.{Walk, IsWalkOver}
use Rattle.nss_symbols.specs.Tokens.{symbols_of}
use Rattle.nss_parser.specs.Front.{AreItems, IsOpenBody}
use Rattle.nss_parser.specs.Sentence.{IsPrefix}
use Rattle.message_tokens.specs.Following.{Adds, CanGoOn, Lists}

-- The walk is that over these tokens, and what can follow them can follow the rest behind so many
-- tokens that are whole items.
pub record IsBehind (walk : Walk) (count : ℕ) (rest before : List Symbol) : Type 0 where
  pub walked : IsWalkOver before (Some walk)
  pub front : List Symbol
  pub items : AreItems front
  pub many : length front ≡ count
  pub alike : (more : List Symbol) → IsPrefix (before ++ more) ↔ IsPrefix (front ++ (rest ++ more))

-- whether a token can follow any such tokens
abbrev pub TellsFollowing : Walk → ℕ → List Symbol → Symbol → Bool → Type 0
TellsFollowing walk count rest next can =
    (before : List Symbol) → IsBehind walk count rest before
    → (IsTrue can) ↔ CanGoOn (before ++ next ∷ [])

-- it was put last where it can follow them, and else nothing was
abbrev pub AddsBehind : Walk → ℕ → List Symbol → Token → List Token → List Token → Type 0
AddsBehind walk count rest t old now =
    (before : List Token) → IsBehind walk count rest (symbols_of before) → Adds before t old now

-- of some tokens these are listed that can follow them
abbrev pub ListsBehind : Walk → ℕ → List Symbol → List Token → List Token → Type 0
ListsBehind walk count rest tried listed =
    (before : List Token) → IsBehind walk count rest (symbols_of before) → Lists before tried listed

-- of some tokens these are listed that can follow any tokens that are seen so, with this walk
abbrev pub ListsAfter : Walk → List Symbol → List Token → List Token → Type 0
ListsAfter walk symbols tried listed =
    (before : List Token) → symbols_of before ≡ symbols → IsWalkOver symbols (Some walk)
    → Lists before tried listed

-- `void a() {`, with which a body begins
abbrev pub opening : List Symbol
opening = symbol.Fixed terminal.Void ∷ symbol.Name (codes "a") ∷ symbol.Fixed terminal.Open
    ∷ symbol.Fixed terminal.Close ∷ symbol.Fixed terminal.OpenBrace ∷ []

-- so many of the tokens end in the body of a function, behind a whole entry
pub record IsCut (cut : ℕ) (tokens : List Symbol) : Type 0 where
  pub many : 8 ≤ cut
  pub within : cut ≤ length tokens
  pub body : IsOpenBody (take cut tokens)
  pub next : Symbol
  pub more : List Symbol
  pub is : drop cut tokens ≡ next ∷ more
  pub other : next ≢ symbol.Fixed terminal.Else
