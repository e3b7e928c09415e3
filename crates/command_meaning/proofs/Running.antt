-- What `run` prints and answers is what the source means.
use Rattle.std.proofs.Common.{arith, ◌≡◌, ◌≤◌, ◌*◌, ℕ, zero, suc, List, [], ◌∷◌, ◌++◌, Result, sym, subst, ap, ap₂, ◌∙◌}
use Rattle.nwq_value.specs.Engine.{EngineTable, IsTable}
use Rattle.nwq_value.specs.Limits.{default_instruction_limit, default_entry_limit, default_until}
use Rattle.nwq_outside.specs.Outside.{Contents}
use Rattle.typing_rules.specs.Typed.{TypedUnit}
use Rattle.area_rules.specs.Area.{empty_area}
use Rattle.saved_state.specs.declared.saved.Saved.{Saved}
use Rattle.world_rules.specs.Pure.{CellLookup}
use Rattle.world_rules.specs.Trace.{trace_text}
use Rattle.world_rules.specs.Alike.{Alike}
use Rattle.world_rules.specs.Plays.{Played, unplayed}
use Rattle.module_player.specs.CodePlays.{code_runner, code_end_text}
use Rattle.source_meaning.specs.Evaluation.{Deferred}
use Rattle.source_meaning.specs.Scripts.{Listed, Setting}
use Rattle.source_laws.specs.Ledger.{step_cost}
use Rattle.source_laws.specs.Carries.{Carries}
use Rattle.source_laws.specs.StayAlike.{EntriesKeepAlike}
use Rattle.play_meaning.specs.Together.{PlayEnds, PlayStops, PlaysAlike, whole}
use Rattle.play_meaning.specs.EndTexts.{source_end_text}
use Rattle.command_work.specs.declared.status.Status.{Status}
use Rattle.command_work.specs.Work.{IsCut, Does, Finished}
use Rattle.play_worlds.specs.Worlds.{start_of, first_world}
use Rattle.command_plays.specs.Plays.{host_of}
use Rattle.command_plays.specs.Scripts.{listed, tells, plays_code}
use Rattle.command_meaning.specs.Units.{code_of, IsUnitOf}
use Rattle.command_meaning.specs.Files.{FilesPlayTheirCode, FilesAreNotRefused}
use Rattle.command_meaning.specs.Runs.{setting_of, source_world, source_played, code_played, sure_steps, answer_by, TellsMeaning, FewStepsEndAsMeant, UnstoppedRunsEndAsMeant, StoppedRunsBeginAsMeant}
use Rattle.command_meaning.specs.ListedPlays.{AreUnitsOf, ListedPlaysEnd, ListedPlaysStop, ListedTextsAgree}
use Rattle.command_meaning.proofs.Telling.{Told, told, not_refused}

-- ---- what the play of code tells

module _ (cell : CellLookup) (header : EngineTable) (name : List ℕ) (u : TypedUnit) (c : Contents) (t : List ℕ) (r : Result Finished Status) (c' : Contents) (t' : List ℕ) where
  as_played : Does (plays_code cell header name (code_of u)) c t r c' t' → Does (tells (listed name (code_of u)) (code_played cell header name u)) c t r c' t'
  unfolding plays_code code_played
  as_played h = h

  code_told : (IsCut r → ⊥) → Does (plays_code cell header name (code_of u)) c t r c' t' → Told (listed name (code_of u)) (code_played cell header name u) c t r c' t'
  code_told whole does = told (listed name (code_of u)) (code_played cell header name u) c t r c' t' whole (as_played does)

pub files_are_not_refused : FilesPlayTheirCode → FilesAreNotRefused
files_are_not_refused plays cell header name u c t r c' t' h refused =
    let whole : IsCut r → ⊥ = λ cut. subst IsCut refused cut in
    let k = code_told cell header name u c t r c' t' whole (plays cell header name u c t r c' t' h) in
    not_refused (code_played cell header name u).ending (sym refused ∙ k.answer)

-- ---- where the plays are alike

meant : ListedTextsAgree → (cell : CellLookup) (header : EngineTable) (name : List ℕ) (u : TypedUnit) (code : Played Saved) (source : Played Deferred)
    (c : Contents) (t : List ℕ) (r : Result Finished Status) (c' : Contents) (t' : List ℕ) → PlaysAlike (Carries (setting_of cell header name u)) code source
    → Told (listed name (code_of u)) code c t r c' t' → TellsMeaning (setting_of cell header name u) code source c t r c' t'
meant texts cell header name u code source c t r c' t' alike k =
    let s : Setting = setting_of cell header name u in
    let text : code_end_text (listed name (code_of u)) code ≡ source_end_text s code.last.count source = texts s code source alike in
    record {
      alike = alike;
      taken = k.taken ∙ ap (λ (told : List ℕ). t ++ told) (ap₂ (λ (a b : List ℕ). a ++ b) (ap trace_text alike.trace) text);
      answer = k.answer ∙ ap answer_by alike.ending;
      contents = k.contents;
    }

-- ---- the one listed unit

of_one : (header : EngineTable) (one : Listed) → IsUnitOf header one.unit → AreUnitsOf header (one ∷ [])
of_one header one unit zero l is = let same : one ≡ l = cc in subst (λ (k : Listed). IsUnitOf header k.unit) same unit
of_one header one unit (suc n) l is = absurd cc

enough : step_cost * sure_steps ≤ default_instruction_limit
enough = omega arith

module _ (plays : FilesPlayTheirCode) (texts : ListedTextsAgree) (keep : EntriesKeepAlike) where
  module _ (cell : CellLookup) (header : EngineTable) (name : List ℕ) (u : TypedUnit) (table : IsTable header) (unit : IsUnitOf header u) where
    begins_alike : Alike (Carries (setting_of cell header name u)) (first_world name) (source_world name)
    begins_alike = (keep (setting_of cell header name u)).new empty_area [] (start_of name ∷ []) 2

    units : AreUnitsOf header (setting_of cell header name u).scripts
    units = of_one header _ unit

    run_ends : ListedPlaysEnd → PlayEnds (Carries (setting_of cell header name u)) (code_played cell header name u) (source_played cell header name u sure_steps)
    unfolding code_played source_played
    run_ends ends =
        ends (setting_of cell header name u) table units sure_steps default_instruction_limit (whole default_entry_limit default_until) enough
        (first_world name) (source_world name) begins_alike

    run_stops : ListedPlaysStop → PlayStops (Carries (setting_of cell header name u)) (code_runner (host_of cell header (listed name (code_of u))) default_instruction_limit)
        (whole default_entry_limit default_until) default_instruction_limit (unplayed (first_world name)) (code_played cell header name u) (source_played cell header name u default_instruction_limit)
    unfolding code_played source_played
    run_stops stops =
        stops (setting_of cell header name u) table units default_instruction_limit (whole default_entry_limit default_until)
        (first_world name) (source_world name) begins_alike

  pub few_steps_end_as_meant : ListedPlaysEnd → FewStepsEndAsMeant
  few_steps_end_as_meant ends cell header name u c t r c' t' h whole goes =
      meant texts cell header name u (code_played cell header name u) (source_played cell header name u sure_steps) c t r c' t'
      (run_ends cell header name u h.table h.unit ends goes) (code_told cell header name u c t r c' t' whole (plays cell header name u c t r c' t' h))

  pub unstopped_runs_end_as_meant : ListedPlaysStop → UnstoppedRunsEndAsMeant
  unstopped_runs_end_as_meant stops cell header name u c t r c' t' h whole goes =
      let so = run_stops cell header name u h.table h.unit stops in
      meant texts cell header name u (code_played cell header name u) (source_played cell header name u default_instruction_limit) c t r c' t'
      (so.ends goes) (code_told cell header name u c t r c' t' whole (plays cell header name u c t r c' t' h))

  pub stopped_runs_begin_as_meant : ListedPlaysStop → StoppedRunsBeginAsMeant
  stopped_runs_begin_as_meant stops cell header name u c t r c' t' h whole stopped =
      let so = run_stops cell header name u h.table h.unit stops in
      let k = code_told cell header name u c t r c' t' whole (plays cell header name u c t r c' t' h) in
      record {
        stopped = so.stopped stopped;
        begins = so.told stopped;
        taken = k.taken;
        answer = k.answer ∙ ap answer_by stopped;
        contents = k.contents;
      }
