-- A script that is started and played does the work of its code.
use Rattle.std.proofs.Common.{◌≡◌, ℕ, inl, inr, List, Result, Err, refl, subst, sym}
use Rattle.nwq_value.specs.Engine.{EngineTable}
use Rattle.nwq_outside.specs.Outside.{Contents}
use Rattle.ncs_code.specs.Plain.{PlainOp}
use Rattle.saved_state.specs.declared.saved.Saved.{Saved}
use Rattle.world_rules.specs.Pure.{CellLookup}
use Rattle.world_rules.specs.World.{World}
use Rattle.machine_rules.specs.Machine.{Script}
use Rattle.command_work.specs.declared.status.Status.{Status}
use Rattle.command_work.specs.declared.status.Status.TheVariants as status
use Rattle.command_work.specs.declared.status.Status.TheVariants.{Memory}
use Rattle.command_work.specs.Work.{Does, CutsShort, Finished}
use Rattle.command_work.specs.Counts.{Refusing}
use Rattle.command_work.specs.Parts.{cut_here}
use Rattle.play_worlds.specs.Worlds.{first_world}
use Rattle.command_plays.specs.Scripts.{listed, run_played, tells, plays_code}
use Rattle.command_run.specs.Tellings.{StopsPlay}
use Rattle.command_run.proofs.WorldLemmas.{may_start}

module _ (cell : CellLookup) (header : EngineTable) (name : List ℕ) (ops : List PlainOp) (c : Contents) where
  pub code_cut : (t : List ℕ) → Does (plays_code cell header name ops) c t (Err Memory) c t
  unfolding plays_code
  code_cut t = cut_here (plays_code cell header name ops) Memory c c t t tt tt refl refl

  pub code_does : (scripts : List Script) (w : World Saved) (r : Result Finished Status) (t t' : List ℕ) → scripts ≡ listed name ops → w ≡ first_world name
      → Does (tells scripts (run_played cell header scripts w)) c t r c t' → Does (plays_code cell header name ops) c t r c t'
  unfolding plays_code
  code_does scripts w r t t' is first does =
      subst (λ v. Does (tells (listed name ops) (run_played cell header (listed name ops) v)) c t r c t') first
      (subst (λ s. Does (tells s (run_played cell header s w)) c t r c t') is does)

pub ruleset starts = (may_start, code_does, code_cut)

-- ---- what stops a play

module _ (of : Status) where
  cut_stops : (s : Status) → CutsShort s → StopsPlay s
  cut_stops status.Fault cut = tt
  cut_stops status.Memory cut = tt
  cut_stops status.Done cut = absurd cut
  cut_stops status.Words cut = absurd cut
  cut_stops status.Script cut = absurd cut
  cut_stops status.Code cut = absurd cut
  cut_stops status.Area cut = absurd cut
  cut_stops status.Limit cut = absurd cut
  cut_stops status.Missing cut = absurd cut
  cut_stops status.Long cut = absurd cut

  stops_by : (s : Status) → StopsPlay of → Refusing of s → StopsPlay s
  stops_by s stops (inl is) = subst StopsPlay (sym is) stops
  stops_by s stops (inr cut) = cut_stops s cut

pub code_stops : (s : Status) → Refusing status.Code s → StopsPlay s
code_stops s h = stops_by status.Code s tt h

pub limit_stops : (s : Status) → Refusing status.Limit s → StopsPlay s
limit_stops s h = stops_by status.Limit s tt h

pub ruleset stops = (code_stops, limit_stops)
