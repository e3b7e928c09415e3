-- What a play that wasn't cut has told.
use Rattle.std.proofs.Common.{◌≡◌, inl, inr, ℕ, List, ◌++◌, Result, Err, ◌∙◌, append_assoc}
use Rattle.nwq_outside.specs.Outside.{Contents}
use Rattle.saved_state.specs.declared.saved.Saved.{Saved}
use Rattle.world_rules.specs.Trace.{trace_text}
use Rattle.machine_rules.specs.Machine.{Script}
use Rattle.world_rules.specs.Plays.{PlayEnd, Done, OutOfEntries, StoppedInside, Paused, Played}
use Rattle.module_player.specs.CodePlays.{code_end_text}
use Rattle.command_work.specs.declared.status.Status.{Status}
use Rattle.command_work.specs.declared.status.Status.TheVariants.{Code}
use Rattle.command_work.specs.Work.{IsCut, Does, Finished}
use Rattle.command_plays.specs.Scripts.{tells}
use Rattle.command_meaning.specs.Runs.{answer_by, EndsAreAnswered}

pub ends_are_answered : EndsAreAnswered
ends_are_answered Done c t r c' t' does = does
ends_are_answered OutOfEntries c t r c' t' does = does
ends_are_answered StoppedInside c t r c' t' does = does
ends_are_answered Paused c t r c' t' does = does

-- its trace and the text of its end were put, and its answer is as it ends
pub record Told (scripts : List Script) (p : Played Saved) (c : Contents) (t : List ℕ) (r : Result Finished Status) (c' : Contents) (t' : List ℕ) : Type 0 where
  pub taken : t' ≡ t ++ (trace_text p.last.trace ++ code_end_text scripts p)
  pub answer : r ≡ answer_by p.ending
  pub contents : c' ≡ c

pub told : (scripts : List Script) (p : Played Saved) (c : Contents) (t : List ℕ) (r : Result Finished Status) (c' : Contents) (t' : List ℕ) → (IsCut r → ⊥)
    → Does (tells scripts p) c t r c' t' → Told scripts p c t r c' t'
told scripts p c t r c' t' whole (inl cut) = absurd (whole cut.0)
told scripts p c t r c' t' whole (inr (inl cut)) = absurd (whole cut.0)
told scripts p c t r c' t' whole (inr (inr goes)) =
    let e = ends_are_answered p.ending c ((t ++ trace_text p.last.trace) ++ code_end_text scripts p) r c' t' goes in
    record { taken = e.1.1 ∙ append_assoc t (trace_text p.last.trace) (code_end_text scripts p); answer = e.0; contents = e.1.0 }

-- no play ends with the status of refused code
pub not_refused : (e : PlayEnd) → Err Code ≡ answer_by e → ⊥
not_refused Done is = absurd cc
not_refused OutOfEntries is = absurd cc
not_refused StoppedInside is = absurd cc
not_refused Paused is = absurd cc
