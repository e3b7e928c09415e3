-- How often files are read for a header and for a script: each once, where its turn comes. Beside it
-- are lemmas, as callers put such facts together.
use mathlib.Core.Path.{sym, subst}
use Rattle.std.specs.Prelude.{◌≡◌, ℕ, if◌then◌else◌, List, codes, bytes_eq, None, Result, Ok, Err, OnOk}
use Rattle.nwq_outside.specs.Outside.{Contents, content, next}
use Rattle.nss_lexer.specs.Splitting.{Lexeme}
use Rattle.nss_include.specs.declared.file.Source.{Source}
use Rattle.nss_include.specs.Gather.{AreReadOnce}
use Rattle.nss_include.specs.Units.{IsUnit, HaveDistinctNames}

-- the count of reads behind the header that a word names: the built-in one isn't read
abbrev pub header_read : List ℕ → ℕ → ℕ
header_read word count = if bytes_eq word (codes "-") then count else next count

-- there was one read for each file of the script's unit, and no other
pub record ReadsUnit (c : Contents) (script : List ℕ) (before now : ℕ) : Type 0 where
  pub tokens : List Lexeme
  pub files : List Source
  pub unit : IsUnit (content c) script tokens files None
  pub distinct : HaveDistinctNames files
  pub once : AreReadOnce files before now

-- what holds, holds where an answer is given
pub on_ok : {A B : Type 0} (r : Result A B) (P : Type 0) → P → OnOk r P
on_ok (Ok a) P h = h
on_ok (Err e) P h = tt

-- so it is after parts that changed nothing
pub reads_same : {A B : Type 0} (r : Result A B) (c d : Contents) (script : List ℕ)
    (before mid now : ℕ) → d ≡ c → mid ≡ before
    → OnOk r (ReadsUnit d script mid now) → OnOk r (ReadsUnit c script before now)
reads_same r c d script before mid now same none h =
    subst (λ x. OnOk r (ReadsUnit x script before now)) same
    (subst (λ n. OnOk r (ReadsUnit d script n now)) none h)

-- and before parts that read nothing
pub reads_still : {A B : Type 0} (r : Result A B) (c : Contents) (script : List ℕ)
    (before mid now : ℕ) → now ≡ mid
    → ReadsUnit c script before mid → OnOk r (ReadsUnit c script before now)
reads_still r c script before mid now none h = on_ok r (ReadsUnit c script before now)
    (subst (λ n. ReadsUnit c script before n) (sym none) h)
