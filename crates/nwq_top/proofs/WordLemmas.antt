-- The work of equal words.
use Rattle.std.proofs.Common.{◌≡◌, ℕ, List, map, String, Global, string_bytes, Result, Ok, Err, IfErr, sym, subst}
use Rattle.nwq_outside.specs.Outside.{Contents}
use Rattle.world_rules.specs.Pure.{CellLookup}
use Rattle.command_work.specs.declared.status.Status.{Status}
use Rattle.command_work.specs.declared.status.Status.TheVariants.{Done}
use Rattle.command_work.specs.Refusal as refusal
use Rattle.command_work.specs.Work.{Does, ending, Finished}
use Rattle.command_work.specs.Counts.{KeepsBut}
use Rattle.command_work.specs.KeepsLemmas.{keeps_all}
use Rattle.command_work.specs.Parts.{Refuses, refused}
use Rattle.command_words.specs.Words.{Form, NoForm, form_of}
use Rattle.nwq_top.specs.Command.{work_of, MayWrite}
use Rattle.nwq_top.specs.Endings.{ComesOf, ComesOfResult, StopsCommand}

pub same_work : (cell : CellLookup) (words all : List (String Global)) (told status : Status) (c c' : Contents) (t t' : List ℕ) → words ≡ all → told ≡ status
    → Does (work_of cell (form_of (map string_bytes words))) c t (ending told) c' t' → Does (work_of cell (form_of (map string_bytes all))) c t (ending status) c' t'
same_work cell words all told status c c' t t' same is does =
    subst (λ s. Does (work_of cell (form_of (map string_bytes all))) c t (ending s) c' t') is
    (subst (λ ws. Does (work_of cell (form_of (map string_bytes ws))) c t (ending told) c' t') same does)

-- words of one form do its work, keep what it keeps and stop as it stops
module _ (form same : Form) where
  pub form_does : (cell : CellLookup) (r : Result Finished Status) (c c' : Contents) (t t' : List ℕ) → form ≡ same
      → Does (work_of cell same) c t r c' t' → Does (work_of cell form) c t r c' t'
  form_does cell r c c' t t' is does = subst (λ f. Does (work_of cell f) c t r c' t') (sym is) does

  pub form_keeps : (c c' : Contents) → form ≡ same → KeepsBut (MayWrite same) c c' → KeepsBut (MayWrite form) c c'
  form_keeps c c' is keeps = subst (λ f. KeepsBut (MayWrite f) c c') (sym is) keeps

  pub form_stops : (r : Result Finished Status) → form ≡ same → ComesOf same Done → IfErr r (StopsCommand same) → ComesOfResult form r
  form_stops (Ok done) is comes stops = subst (λ f. ComesOf f Done) (sym is) comes
  form_stops (Err status) is comes stops = subst (λ f. StopsCommand f status) (sym is) stops

-- whatever the words, files that are the same keep what they had
pub form_same : (form : Form) (c c' : Contents) → c' ≡ c → KeepsBut (MayWrite form) c c'
form_same form c c' same = keeps_all (MayWrite form) c c' same

-- words that are no form are refused
pub no_form_does : (cell : CellLookup) (form : Form) (answer : Status) (c : Contents) (t t' : List ℕ) → form ≡ NoForm
    → Refuses refusal.NoForm t answer t' → Does (work_of cell form) c t (Err answer) c t'
no_form_does cell form answer c t t' is refuses =
    subst (λ f. Does (work_of cell f) c t (Err answer) c t') (sym is) (refused refusal.NoForm answer c t t' refuses)
