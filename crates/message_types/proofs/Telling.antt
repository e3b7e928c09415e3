-- What was told, by the sentence that a token's reason has.
use Rattle.std.proofs.Common.{◌≡◌, ℕ, Bool, true, false, List, [], ◌++◌, Option, None, Some, is_some, refl, sym, ap, ◌∙◌, append-nil, true≢false}
use Rattle.nwq_value.specs.Engine.{EngineTable}
use Rattle.nss_tree.specs.Source.{SourceTree}
use Rattle.expression_reasons.specs.declared.reason.Reason.{Reason}
use Rattle.nss_reasons.specs.Reasons.{reason_at}
use Rattle.message_types.specs.Sentences.{or_nothing, said, said_there}
use Rattle.message_types.specs.Told.{TellsOf}

module _ (table : EngineTable) (tree : SourceTree) (piece : List ℕ) (token : ℕ) (before after : List ℕ) where
  told_of : (r : Reason) → reason_at table tree token ≡ Some r → (text : Option (List ℕ)) → said piece r ≡ text
      → is_some text ≡ true → after ≡ before ++ or_nothing text → TellsOf table tree piece before after
  told_of r found None sentence heard appends = absurd (true≢false (sym heard))
  told_of r found (Some text) sentence heard appends =
      record { token = token; reason = r; text = text; found = found; sentence = sentence; appends = appends }

  told_by : (o : Option Reason) → reason_at table tree token ≡ o → is_some (said_there piece o) ≡ true
      → after ≡ before ++ or_nothing (said_there piece o) → TellsOf table tree piece before after
  told_by None found heard appends = absurd (true≢false (sym heard))
  told_by (Some r) found heard appends = told_of r found (said piece r) refl heard appends

  pub tells : is_some (said_there piece (reason_at table tree token)) ≡ true
      → after ≡ before ++ or_nothing (said_there piece (reason_at table tree token)) → TellsOf table tree piece before after
  tells heard appends = told_by (reason_at table tree token) refl heard appends

nothing_by : (text : Option (List ℕ)) (before after : List ℕ) → is_some text ≡ false → after ≡ before ++ or_nothing text → after ≡ before
nothing_by None before after silent appends = appends ∙ append-nil before
nothing_by (Some text) before after silent appends = absurd (true≢false silent)

pub tells_none : (table : EngineTable) (tree : SourceTree) (piece : List ℕ) (token : ℕ) (before after : List ℕ)
    → is_some (said_there piece (reason_at table tree token)) ≡ false
    → after ≡ before ++ or_nothing (said_there piece (reason_at table tree token)) → after ≡ before
tells_none table tree piece token before after = nothing_by (said_there piece (reason_at table tree token)) before after
