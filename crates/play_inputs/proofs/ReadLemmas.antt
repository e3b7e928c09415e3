-- How the facts on reads are put together.
use Rattle.std.proofs.Common.{◌≡◌, ◌<◌, ◌≤◌, ◌+◌, ℕ, List, [], ◌∷◌, ◌++◌, length, get_or, take, Some, Result, Ok, Err, IfOk, IsTrue, Bool, sym, ap, subst, ◌∙◌}
use Rattle.std.proofs.lemmas.List.{take_more, take_all}
use Rattle.nwq_outside.specs.Outside.{Contents}
use Rattle.plan_text.specs.declared.plan.Plan.{Plan}
use Rattle.plan_text.specs.declared.plan.Script.{Script as ScriptLine}
use Rattle.plan_text.specs.Plans.{HasPlan}
use Rattle.command_work.specs.declared.status.Status.{Status}
use Rattle.command_work.specs.Work.{Does, file_named}
use Rattle.command_work.specs.Counts.{KeepsBut}
use Rattle.command_work.specs.Reading.{IsRead, IsUnread}
use Rattle.command_work.specs.Comes.{Came, gave, stopped, cut, file_comes}
use Rattle.play_inputs.specs.Listings.{IsOwnFile}
use Rattle.play_inputs.specs.Reads.{HasPlanFile, ReadsCode, ReadsLines, more}

same_bytes : (a b : List ℕ) → ◌≡◌ {A = Result (List ℕ) Status} (Ok a) (Ok b) → b ≡ a
same_bytes a b e = cc

not_err : (a : List ℕ) (e : Status) → ◌≡◌ {A = Result (List ℕ) Status} (Ok a) (Err e) → ⊥
not_err a e is = cc

-- what was read is there
read_has : (c : Contents) (name bytes : List ℕ) (t : List ℕ) (c' : Contents) (t' : List ℕ) → Does (file_named name) c t (Ok bytes) c' t' → IsRead c name bytes
read_has c name bytes t c' t' does = by (file_comes c t name (Ok bytes) c' t' does) where
  by : Came (IsRead c name) (IsUnread c name) c t (Ok bytes) c' t' → IsRead c name bytes
  by (gave a has e p q) = subst (IsRead c name) (same_bytes bytes a e) has
  by (stopped why lacks e p q) = absurd (not_err bytes _ e)
  by (cut x) = absurd x

plan_in_file : (r : Result Plan Status) (c : Contents) (name bytes : List ℕ) → IsRead c name bytes → IfOk r (HasPlan bytes) → IfOk r (HasPlanFile c name)
plan_in_file (Ok plan) c name bytes read has = record { bytes = bytes; held = read.held; is = has }
plan_in_file (Err e) c name bytes read has = tt

pub plan_read : (r : Result Plan Status) (c : Contents) (name bytes all : List ℕ) (t : List ℕ) (c' : Contents) (t' : List ℕ) → all ≡ bytes
    → Does (file_named name) c t (Ok bytes) c' t' → IfOk r (HasPlan all) → IfOk r (HasPlanFile c name)
plan_read r c name bytes all t c' t' same does has =
    plan_in_file r c name bytes (read_has c name bytes t c' t' does) (subst (λ b. IfOk r (HasPlan b)) same has)

-- one line further
pub lines_on : (lines : List ScriptLine) (i : ℕ) (line d : ScriptLine) (c0 c c1 : Contents) (before mid now : ℕ) → i < length lines → line ≡ get_or lines i d
    → ReadsLines (take i lines) c0 c before mid → ReadsCode line.binary c line.name mid now → KeepsBut (IsOwnFile line) c c1
    → ReadsLines (take (i + 1) lines) c0 c1 before now
lines_on lines i line d c0 c c1 before mid now lt at so reads keeps =
    subst (λ ls. ReadsLines ls c0 c1 before now) (ap (λ (l : ScriptLine). take i lines ++ l ∷ []) at ∙ sym (take_more lines i d lt))
    (more (take i lines) line c0 c c1 before mid now so reads keeps)

-- all lines are read
pub lines_done : (lines : List ScriptLine) (i : ℕ) (c0 c : Contents) (before now : ℕ) → length lines ≤ i → ReadsLines (take i lines) c0 c before now
    → ReadsLines lines c0 c before now
lines_done lines i c0 c before now over so = subst (λ ls. ReadsLines ls c0 c before now) (take_all i lines over) so
