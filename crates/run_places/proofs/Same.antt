-- The tree that is typed is the tree that is kept.
use Rattle.std.proofs.Common.{◌≡◌, ◌∙◌, refl, sym, ap, List, [], ◌∷◌, map, subst, Option, None, Some, IfSome}
use Rattle.nwq_value.specs.Engine.{EngineTable}
use Rattle.nss_lexer.specs.declared.token.Token.{Token}
use Rattle.nss_lexer.specs.Splitting.{Lexeme, plain}
use Rattle.nss_symbols.specs.Symbols.{Symbol}
use Rattle.nss_symbols.specs.Tokens.{symbol_of, symbols_of}
use Rattle.nss_tree.specs.Source.{SourceTree}
use Rattle.nss_parser.specs.Sentence.{OneTree, Parses}
use Rattle.typing_rules.specs.Meaning.{TypesUnit}
use Rattle.typing_rules.specs.Typed.{TypedUnit}
use Rattle.run_places.specs.Scripts.{symbols_in}

seen : (tokens : List Token) → symbols_in (map plain tokens) ≡ symbols_of tokens
seen [] = refl
seen (t ∷ tokens) = ap (λ ss. symbol_of t ∷ ss) (seen tokens)

pub seen_same : (tokens : List Token) (lexemes : List Lexeme) → map plain tokens ≡ lexemes → symbols_of tokens ≡ symbols_in lexemes
seen_same tokens lexemes same = sym (seen tokens) ∙ ap symbols_in same

pub typed_same : (one : OneTree) (symbols : List Symbol) (table : EngineTable) (first tree : SourceTree) (typed : TypedUnit)
    → Parses symbols first → Parses symbols tree → TypesUnit table first typed → TypesUnit table tree typed
typed_same one symbols table first tree typed p q types = subst (λ x. TypesUnit table x typed) (one symbols first tree p q) types

-- what holds where something is found, of what is found
pub if_some : {A : Type 0} (P : A → Type 0) (o : Option A) (a : A) → o ≡ Some a → IfSome o P → P a
if_some P None a is h = absurd (let no : ⊥ = cc in no)
if_some P (Some b) a is h = let same : b ≡ a = cc in subst P same h
