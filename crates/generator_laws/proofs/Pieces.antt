-- The tokens of a source round its two numbers, piece by piece: which they are doesn't depend on
-- what stands before or behind.
use Rattle.std.proofs.Common.{◌≡◌, ℕ, zero, suc, ◌+◌, Bool, true, false, ◌&&◌, not, List, [], ◌∷◌, ◌++◌, Option, Some, None, refl, ap, ◌∙◌, codes, append_assoc}
use Rattle.std.specs.Prelude.{option_map}
use Rattle.std.specs.List.{list_all, AllByRecursion}
use Rattle.nss_lexer.specs.Lexemes.{is_word}
use Rattle.nss_lexer.specs.Reading.{form, pass}
use Rattle.nss_lexer.specs.Strings.{string_value}
use Rattle.nss_lexer.specs.Splitting.{Lexeme}
use Rattle.nss_lexer.specs.Computed.{tokens_in}
use Rattle.nss_symbols.specs.declared.terminal.Terminal.TheVariants as terminal
use Rattle.nss_symbols.specs.Symbols as symbol
use Rattle.nss_symbols.specs.Symbols.{Symbol, Fixed}
use Rattle.nss_symbols.specs.Terminals.{terminal_of, spelling}
use Rattle.nss_symbols.specs.Tokens.{of_kind}
use Rattle.nss_include.specs.Pieces.{is_hash}
use Rattle.command_sources.specs.Units.{grammar_symbols}

-- ---- tokens that are computed

abbrev got : Option (List Lexeme) → List Lexeme
got None = []
got (Some ts) = ts

abbrev pub put : List Lexeme → Option (List Lexeme) → Option (List Lexeme)
put [] o = o
put (t ∷ ts) o = option_map (λ more. t ∷ more) (put ts o)

pub put_some : (ts us : List Lexeme) → put ts (Some us) ≡ Some (ts ++ us)
put_some [] us = refl
put_some (t ∷ ts) us = ap (option_map (λ more. t ∷ more)) (put_some ts us)

put_put : (ts us : List Lexeme) (o : Option (List Lexeme)) → put ts (put us o) ≡ put (ts ++ us) o
put_put [] us o = refl
put_put (t ∷ ts) us o = ap (option_map (λ more. t ∷ more)) (put_put ts us o)

abbrev end_of : List Lexeme → ℕ → ℕ
end_of [] at = at
end_of (t ∷ ts) at = end_of ts t.end

abbrev further : ℕ → ℕ → ℕ
further zero k = k
further (suc m) k = suc (further m k)

-- the tokens of a text alone, whose first byte stands at this place
unfoldable pub tokens_of : List ℕ → ℕ → List Lexeme
tokens_of text at = got (tokens_in 100 at text)

-- begins no directive
abbrev pub IsPlain : Lexeme → Type 0
IsPlain t = is_hash t ≡ false

abbrev pub are_plain : List Lexeme → Bool
are_plain ts = list_all (λ t. not (is_hash t)) ts

pub all_plain : (ts : List Lexeme) → are_plain ts ≡ true → AllByRecursion IsPlain ts
all_plain [] h = tt
all_plain (t ∷ ts) h = let parts = split (is_hash t) (are_plain ts) h in (parts.0, all_plain ts parts.1)
  where
    split : (a b : Bool) → (not a && b) ≡ true → (a ≡ false) × (b ≡ true)
    split true b h = absurd cc
    split false b h = (refl, h)

-- A text of these symbols: wherever it stands, and whatever comes behind, its tokens come first.
pub record Piece (text : List ℕ) (symbols : List Symbol) : Type 0 where
  pub steps : ℕ → ℕ
  pub tokens : ℕ → List Lexeme
  pub after : ℕ → ℕ
  pub reads : (k at : ℕ) (rest : List ℕ) → tokens_in (steps k) at (text ++ rest) ≡ put (tokens at) (tokens_in k (after at) rest)
  pub seen : (at : ℕ) → grammar_symbols (tokens at) ≡ symbols
  pub plain : (at : ℕ) → are_plain (tokens at) ≡ true

-- ---- the texts, and their symbols

abbrev pub front : List ℕ
front = codes "int g = "

abbrev pub front_symbols : List Symbol
front_symbols =
    Fixed terminal.Int ∷ symbol.Name (codes "g") ∷ Fixed terminal.Assign ∷ []

abbrev pub smaller : List ℕ
smaller = codes ";\nint F(int k) { if (k < 2) return k; "

abbrev pub smaller_symbols : List Symbol
smaller_symbols =
    Fixed terminal.Semicolon ∷ Fixed terminal.Int ∷ symbol.Name (codes "F") ∷ Fixed terminal.Open ∷ Fixed terminal.Int ∷
    symbol.Name (codes "k") ∷ Fixed terminal.Close ∷ Fixed terminal.OpenBrace ∷ Fixed terminal.If ∷ Fixed terminal.Open ∷
    symbol.Name (codes "k") ∷ Fixed terminal.Less ∷ symbol.Int 2 ∷ Fixed terminal.Close ∷ Fixed terminal.Return ∷
    symbol.Name (codes "k") ∷ Fixed terminal.Semicolon ∷ []

abbrev pub sum : List ℕ
sum = codes "return F(k - 1) + F(k - 2); }\n"

abbrev pub sum_symbols : List Symbol
sum_symbols =
    Fixed terminal.Return ∷ symbol.Name (codes "F") ∷ Fixed terminal.Open ∷ symbol.Name (codes "k") ∷ Fixed terminal.Minus ∷
    symbol.Int 1 ∷ Fixed terminal.Close ∷ Fixed terminal.Plus ∷ symbol.Name (codes "F") ∷ Fixed terminal.Open ∷
    symbol.Name (codes "k") ∷ Fixed terminal.Minus ∷ symbol.Int 2 ∷ Fixed terminal.Close ∷ Fixed terminal.Semicolon ∷
    Fixed terminal.CloseBrace ∷ []

abbrev pub teller : List ℕ
teller = codes "void Tell(int k) { PrintInteger(g + k); }\n"

abbrev pub teller_symbols : List Symbol
teller_symbols =
    Fixed terminal.Void ∷ symbol.Name (codes "Tell") ∷ Fixed terminal.Open ∷ Fixed terminal.Int ∷ symbol.Name (codes "k") ∷
    Fixed terminal.Close ∷ Fixed terminal.OpenBrace ∷ symbol.Name (codes "PrintInteger") ∷ Fixed terminal.Open ∷
    symbol.Name (codes "g") ∷ Fixed terminal.Plus ∷ symbol.Name (codes "k") ∷ Fixed terminal.Close ∷ Fixed terminal.Semicolon ∷
    Fixed terminal.CloseBrace ∷ []

abbrev pub counter : List ℕ
counter = codes "void main() {\nint n = GetLocalInt(OBJECT_SELF, \"n\") + 1;\n"

abbrev pub counter_symbols : List Symbol
counter_symbols =
    Fixed terminal.Void ∷ symbol.Name (codes "main") ∷ Fixed terminal.Open ∷ Fixed terminal.Close ∷ Fixed terminal.OpenBrace ∷
    Fixed terminal.Int ∷ symbol.Name (codes "n") ∷ Fixed terminal.Assign ∷ symbol.Name (codes "GetLocalInt") ∷ Fixed terminal.Open ∷
    Fixed terminal.ObjectSelf ∷ Fixed terminal.Comma ∷ symbol.Text (codes "n") ∷ Fixed terminal.Close ∷ Fixed terminal.Plus ∷
    symbol.Int 1 ∷ Fixed terminal.Semicolon ∷ []

abbrev pub kept : List ℕ
kept = codes "SetLocalInt(OBJECT_SELF, \"n\", n);\n"

abbrev pub kept_symbols : List Symbol
kept_symbols =
    symbol.Name (codes "SetLocalInt") ∷ Fixed terminal.Open ∷ Fixed terminal.ObjectSelf ∷ Fixed terminal.Comma ∷
    symbol.Text (codes "n") ∷ Fixed terminal.Comma ∷ symbol.Name (codes "n") ∷ Fixed terminal.Close ∷ Fixed terminal.Semicolon ∷ []

abbrev pub grown : List ℕ
grown = codes "g = g + n;\nActionWait(50);\n"

abbrev pub grown_symbols : List Symbol
grown_symbols =
    symbol.Name (codes "g") ∷ Fixed terminal.Assign ∷ symbol.Name (codes "g") ∷ Fixed terminal.Plus ∷ symbol.Name (codes "n") ∷
    Fixed terminal.Semicolon ∷ symbol.Name (codes "ActionWait") ∷ Fixed terminal.Open ∷ symbol.Int 50 ∷ Fixed terminal.Close ∷
    Fixed terminal.Semicolon ∷ []

abbrev pub asked : List ℕ
asked = codes "ActionDoCommand(Tell(F(n % 8)));\n"

abbrev pub asked_symbols : List Symbol
asked_symbols =
    symbol.Name (codes "ActionDoCommand") ∷ Fixed terminal.Open ∷ symbol.Name (codes "Tell") ∷ Fixed terminal.Open ∷
    symbol.Name (codes "F") ∷ Fixed terminal.Open ∷ symbol.Name (codes "n") ∷ Fixed terminal.Percent ∷ symbol.Int 8 ∷
    Fixed terminal.Close ∷ Fixed terminal.Close ∷ Fixed terminal.Close ∷ Fixed terminal.Semicolon ∷ []

abbrev pub delayed : List ℕ
delayed = codes "DelayCommand(n * 100, Tell(0 - n));\n"

abbrev pub delayed_symbols : List Symbol
delayed_symbols =
    symbol.Name (codes "DelayCommand") ∷ Fixed terminal.Open ∷ symbol.Name (codes "n") ∷ Fixed terminal.Star ∷ symbol.Int 100 ∷
    Fixed terminal.Comma ∷ symbol.Name (codes "Tell") ∷ Fixed terminal.Open ∷ symbol.Int 0 ∷ Fixed terminal.Minus ∷
    symbol.Name (codes "n") ∷ Fixed terminal.Close ∷ Fixed terminal.Close ∷ Fixed terminal.Semicolon ∷ []

abbrev pub assigned : List ℕ
assigned = codes "AssignCommand(GetObjectByTag(\"c\" + IntToString(g % "

abbrev pub assigned_symbols : List Symbol
assigned_symbols =
    symbol.Name (codes "AssignCommand") ∷ Fixed terminal.Open ∷ symbol.Name (codes "GetObjectByTag") ∷ Fixed terminal.Open ∷
    symbol.Text (codes "c") ∷ Fixed terminal.Plus ∷ symbol.Name (codes "IntToString") ∷ Fixed terminal.Open ∷
    symbol.Name (codes "g") ∷ Fixed terminal.Percent ∷ []

abbrev pub back : List ℕ
back = codes ")), Tell(n));\n}\n"

abbrev pub back_symbols : List Symbol
back_symbols =
    Fixed terminal.Close ∷ Fixed terminal.Close ∷ Fixed terminal.Comma ∷ symbol.Name (codes "Tell") ∷ Fixed terminal.Open ∷
    symbol.Name (codes "n") ∷ Fixed terminal.Close ∷ Fixed terminal.Close ∷ Fixed terminal.Semicolon ∷ Fixed terminal.CloseBrace ∷ []

-- ---- by computing

pub front_piece : Piece front front_symbols
unfolding tokens_of tokens_in form pass is_word terminal_of spelling string_value
front_piece = record {
  steps = further 6;
  tokens = tokens_of front;
  after = λ at. end_of (tokens_of front at) at + 1;
  reads = λ k at rest. refl;
  seen = λ at. refl;
  plain = λ at. refl;
}

pub smaller_piece : Piece smaller smaller_symbols
unfolding tokens_of tokens_in form pass is_word terminal_of spelling string_value
smaller_piece = record {
  steps = further 28;
  tokens = tokens_of smaller;
  after = λ at. end_of (tokens_of smaller at) at + 1;
  reads = λ k at rest. refl;
  seen = λ at. refl;
  plain = λ at. refl;
}

pub sum_piece : Piece sum sum_symbols
unfolding tokens_of tokens_in form pass is_word terminal_of spelling string_value
sum_piece = record {
  steps = further 25;
  tokens = tokens_of sum;
  after = λ at. end_of (tokens_of sum at) at + 1;
  reads = λ k at rest. refl;
  seen = λ at. refl;
  plain = λ at. refl;
}

pub teller_piece : Piece teller teller_symbols
unfolding tokens_of tokens_in form pass is_word terminal_of spelling string_value
teller_piece = record {
  steps = further 23;
  tokens = tokens_of teller;
  after = λ at. end_of (tokens_of teller at) at + 1;
  reads = λ k at rest. refl;
  seen = λ at. refl;
  plain = λ at. refl;
}

pub counter_piece : Piece counter counter_symbols
unfolding tokens_of tokens_in form pass is_word terminal_of spelling string_value
counter_piece = record {
  steps = further 27;
  tokens = tokens_of counter;
  after = λ at. end_of (tokens_of counter at) at + 1;
  reads = λ k at rest. refl;
  seen = λ at. refl;
  plain = λ at. refl;
}

pub kept_piece : Piece kept kept_symbols
unfolding tokens_of tokens_in form pass is_word terminal_of spelling string_value
kept_piece = record {
  steps = further 12;
  tokens = tokens_of kept;
  after = λ at. end_of (tokens_of kept at) at + 1;
  reads = λ k at rest. refl;
  seen = λ at. refl;
  plain = λ at. refl;
}

pub grown_piece : Piece grown grown_symbols
unfolding tokens_of tokens_in form pass is_word terminal_of spelling string_value
grown_piece = record {
  steps = further 17;
  tokens = tokens_of grown;
  after = λ at. end_of (tokens_of grown at) at + 1;
  reads = λ k at rest. refl;
  seen = λ at. refl;
  plain = λ at. refl;
}

pub asked_piece : Piece asked asked_symbols
unfolding tokens_of tokens_in form pass is_word terminal_of spelling string_value
asked_piece = record {
  steps = further 16;
  tokens = tokens_of asked;
  after = λ at. end_of (tokens_of asked at) at + 1;
  reads = λ k at rest. refl;
  seen = λ at. refl;
  plain = λ at. refl;
}

pub delayed_piece : Piece delayed delayed_symbols
unfolding tokens_of tokens_in form pass is_word terminal_of spelling string_value
delayed_piece = record {
  steps = further 20;
  tokens = tokens_of delayed;
  after = λ at. end_of (tokens_of delayed at) at + 1;
  reads = λ k at rest. refl;
  seen = λ at. refl;
  plain = λ at. refl;
}

pub assigned_piece : Piece assigned assigned_symbols
unfolding tokens_of tokens_in form pass is_word terminal_of spelling string_value
assigned_piece = record {
  steps = further 14;
  tokens = tokens_of assigned;
  after = λ at. end_of (tokens_of assigned at) at + 1;
  reads = λ k at rest. refl;
  seen = λ at. refl;
  plain = λ at. refl;
}

-- and the last text, behind which there is nothing
pub back_tokens : (at : ℕ) → tokens_in 50 at back ≡ Some (tokens_of back at)
unfolding tokens_of tokens_in form pass is_word
back_tokens at = refl

pub back_seen : (at : ℕ) → grammar_symbols (tokens_of back at) ≡ back_symbols
unfolding tokens_of tokens_in form pass is_word terminal_of spelling string_value
back_seen at = refl

pub back_plain : (at : ℕ) → are_plain (tokens_of back at) ≡ true
unfolding tokens_of tokens_in form pass is_word
back_plain at = refl

-- ---- one text after another

pub seen_both : (ts us : List Lexeme) → grammar_symbols (ts ++ us) ≡ grammar_symbols ts ++ grammar_symbols us
seen_both [] us = refl
seen_both (t ∷ ts) us = ap (λ ss. of_kind t.kind t.text ∷ ss) (seen_both ts us)

two : (a b c : Bool) → (not a && b) ≡ true → (b ≡ true → c ≡ true) → (not a && c) ≡ true
two true b c h k = absurd cc
two false b c h k = k h

pub plain_both : (ts us : List Lexeme) → are_plain ts ≡ true → are_plain us ≡ true → are_plain (ts ++ us) ≡ true
plain_both [] us h k = k
plain_both (t ∷ ts) us h k = two (is_hash t) (are_plain ts) (are_plain (ts ++ us)) h (λ rest. plain_both ts us rest k)

pub joined : {t u : List ℕ} {ss vs : List Symbol} → Piece t ss → Piece u vs → Piece (t ++ u) (ss ++ vs)
joined {t} {u} {ss} {vs} p q = record {
  steps = λ k. p.steps (q.steps k);
  tokens = λ at. p.tokens at ++ q.tokens (p.after at);
  after = λ at. q.after (p.after at);
  reads = λ k at rest.
      ap (tokens_in (p.steps (q.steps k)) at) (append_assoc t u rest)
      ∙ (p.reads (q.steps k) at (u ++ rest)
      ∙ (ap (put (p.tokens at)) (q.reads k (p.after at) rest)
      ∙ put_put (p.tokens at) (q.tokens (p.after at)) (tokens_in k (q.after (p.after at)) rest)));
  seen = λ at.
      seen_both (p.tokens at) (q.tokens (p.after at))
      ∙ (ap (λ xs. xs ++ grammar_symbols (q.tokens (p.after at))) (p.seen at) ∙ ap (λ ys. ss ++ ys) (q.seen (p.after at)));
  plain = λ at. plain_both (p.tokens at) (q.tokens (p.after at)) (p.plain at) (q.plain (p.after at));
}
