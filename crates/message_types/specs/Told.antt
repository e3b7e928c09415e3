-- What is told of a token at which the rules of types refuse a unit.
use Rattle.std.specs.Prelude.{◌≡◌, ℕ, Bool, true, false, List, ◌++◌, Option, None, Some, is_some}
use Rattle.nwq_value.specs.Engine.{EngineTable}
use Rattle.nss_tree.specs.Source.{SourceTree}
use Rattle.nss_symbols.specs.Symbols.{Symbol}
use Rattle.nss_parser.specs.Sentence.{Parses}
use Rattle.expression_reasons.specs.declared.reason.Reason.{Reason}
use Rattle.nss_reasons.specs.Reasons.{reason_at}
use Rattle.message_types.specs.Sentences.{said}

-- The sentence for a reason of the tree was appended.
pub record TellsOf (table : EngineTable) (tree : SourceTree) (piece before after : List ℕ)
    : Type 0 where
  pub token : ℕ
  pub reason : Reason
  pub text : List ℕ
  pub found : reason_at table tree token ≡ Some reason
  pub sentence : said piece reason ≡ Some text
  pub appends : after ≡ before ++ text

-- It was, or else nothing was.
abbrev pub Told : EngineTable → SourceTree → List ℕ → List ℕ → List ℕ → Bool → Type 0
Told table tree piece before after true = TellsOf table tree piece before after
Told table tree piece before after false = after ≡ before

-- It was, of the tree of these symbols.
pub record Tells (table : EngineTable) (symbols : List Symbol) (piece before after : List ℕ)
    : Type 0 where
  pub tree : SourceTree
  pub parses : Parses symbols tree
  pub told : TellsOf table tree piece before after

abbrev pub Answers : EngineTable → List Symbol → List ℕ → List ℕ → List ℕ → Bool → Type 0
Answers table symbols piece before after true = Tells table symbols piece before after
Answers table symbols piece before after false = after ≡ before
