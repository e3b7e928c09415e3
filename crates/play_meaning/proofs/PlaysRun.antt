-- Plays of code and of source texts go together.
use Rattle.std.proofs.Common.{◌≤◌, ◌*◌, ℕ}
use Rattle.machine_rules.specs.Frames.{started, continued}
use Rattle.machine_rules.specs.Runs.{entry}
use Rattle.module_player.specs.CodePlays.{code_runner}
use Rattle.source_meaning.specs.Scripts.{Setting, run_script, run_deferred}
use Rattle.source_meaning.specs.Plays.{runner}
use Rattle.source_laws.specs.Ledger.{MachineHost, step_cost}
use Rattle.source_laws.specs.Carries.{Carries}
use Rattle.source_laws.specs.Executing.{IsHostOf}
use Rattle.source_laws.specs.Entries.{EntriesRun, EntriesDo}
use Rattle.source_laws.specs.Listed.{ListedScriptsDo}
use Rattle.source_laws.specs.StayAlike.{EntriesKeepAlike}
use Rattle.play_meaning.specs.Together.{RunEnds, RunStops, RunnersAre}
use Rattle.play_meaning.specs.PlaysRun.{SourcePlaysEnd, CodePlaysEnd}
use Rattle.play_meaning.proofs.Runs.{run_ends, run_stops}
use Rattle.play_meaning.proofs.Playing.{bounded_ends, bounded_stops}

module _ (s : Setting) (host : MachineHost) (run : EntriesRun s host) (keep : EntriesKeepAlike) where
  ends_go : (n limit : ℕ) → step_cost * n ≤ limit → RunnersAre (Carries s) (RunEnds (Carries s)) (code_runner host limit) (runner s n)
  unfolding code_runner
  ends_go n limit large = record {
    named = run.named;
    script = λ name script self w v is a. let l = run.listed name script is in
        run_ends host (Carries s) (keep s).traces n limit large (entry (started script self) w) (run_script s n script self v) (run.starts n script self l.0 w v l.1 a);
    stored = λ c d self w v carries a.
        run_ends host (Carries s) (keep s).traces n limit large (entry (continued c self) w) (run_deferred s n d self v) (run.resumes n self c d w v carries a);
  }

  stops_go : IsHostOf host s → (limit : ℕ) → RunnersAre (Carries s) (RunStops (Carries s) limit) (code_runner host limit) (runner s limit)
  unfolding code_runner
  stops_go of limit = record {
    named = run.named;
    script = λ name script self w v is a. let l = run.listed name script is in
        run_stops host (Carries s) (keep s).traces s of limit (entry (started script self) w) (run_script s limit script self v) (run.starts limit script self l.0 w v l.1 a);
    stored = λ c d self w v carries a.
        run_stops host (Carries s) (keep s).traces s of limit (entry (continued c self) w) (run_deferred s limit d self v) (run.resumes limit self c d w v carries a);
  }

pub source_plays_end : ListedScriptsDo → EntriesDo → EntriesKeepAlike → SourcePlaysEnd
source_plays_end scripts entries keep s host of typed ready n limit bounds large w v a =
    let d = scripts s host of typed ready in
    bounded_ends (Carries s) (keep s) (code_runner host limit) (runner s n) (ends_go s host (entries s host of d.starts d.resumes) keep n limit large) bounds w v a

pub code_plays_end : ListedScriptsDo → EntriesDo → EntriesKeepAlike → CodePlaysEnd
code_plays_end scripts entries keep s host of typed ready limit bounds w v a =
    let d = scripts s host of typed ready in
    bounded_stops (Carries s) (keep s) (code_runner host limit) (runner s limit) limit (stops_go s host (entries s host of d.starts d.resumes) keep of limit) bounds w v a
