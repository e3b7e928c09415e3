-- Lemmas on what is promised of a sink of any kind, for the proofs of the crates above.
use Rattle.std.specs.Prelude.{ℕ, Bool, true, false, IsTrue, List, []}
use Rattle.std.proofs.lemmas.Bool.{false≢true}
use Rattle.telling_sink.specs.Told.{told_bytes, Told}

-- what holds of the bytes that the telling sink took is told of the sink beneath
pub told_beneath : (tells : Bool) (before after noted : List ℕ) (P : List ℕ → List ℕ → Type 0)
    → P (told_bytes tells before []) (told_bytes tells after noted) → Told tells before after P
told_beneath true before after noted P holds = holds
told_beneath false before after noted P holds = (noted, holds)

-- so is what holds where nothing is put
pub told_nothing : (tells : Bool) (taken : List ℕ) (P : List ℕ → List ℕ → Type 0)
    → ((t : List ℕ) → P t t) → Told tells taken taken P
told_nothing true taken P holds = holds taken
told_nothing false taken P holds = ([], holds [])

-- and what follows for all bytes
pub told_follows : (tells : Bool) (before after : List ℕ) (P Q : List ℕ → List ℕ → Type 0)
    → ((t t' : List ℕ) → P t t' → Q t t') → Told tells before after P → Told tells before after Q
told_follows true before after P Q follows told = follows before after told
told_follows false before after P Q follows told = (told.0, follows [] told.0 told.1)

-- what follows and speaks of no bytes holds of every sink
pub told_so : (tells : Bool) (before after : List ℕ) (P : List ℕ → List ℕ → Type 0) (Q : Type 0)
    → ((t t' : List ℕ) → P t t' → Q) → Told tells before after P → Q
told_so true before after P Q follows told = follows before after told
told_so false before after P Q follows told = follows [] told.0 told.1
