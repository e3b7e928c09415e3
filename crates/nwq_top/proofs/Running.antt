-- What `run` and `compile` do.
use Rattle.std.proofs.Common.{◌≡◌, inl, inr, ℕ, List, [], ◌∷◌, ◌++◌, length, Result, Err, sym, ap, ◌∙◌}
use Rattle.nwq_value.specs.Engine.{EngineTable, IsTable}
use Rattle.nwq_outside.specs.Outside.{Contents, ContentsAreBytes}
use Rattle.nss_include.specs.Names.{file_name}
use Rattle.typing_rules.specs.Typed.{TypedUnit}
use Rattle.emission_rules.specs.Units.{unit_file}
use Rattle.typing_laws.specs.FaultLaws.{LeastIsTheKept}
use Rattle.engine_table.specs.KeptTables.{HeadersHaveTables, BuiltInIsTable}
use Rattle.command_work.specs.declared.status.Status.{Status}
use Rattle.command_work.specs.Refusal.{Refusal, line_of, status_of}
use Rattle.command_work.specs.Work.{Work, then, IsCut, Does, Finished, puts, writes}
use Rattle.command_work.specs.Parts.{then_ok, then_err}
use Rattle.command_work.specs.Outcomes.{IsSure, agree, sure_then, sure_writes, sure_puts}
use Rattle.command_work.specs.Sequences.{then_known}
use Rattle.command_work.specs.Comes.{refusal_not_cut, Follows, follows, ends, cuts, then_follows}
use Rattle.command_sources.specs.Headers.{table_of_word}
use Rattle.command_sources.specs.Laws.{SureTables}
use Rattle.command_files.specs.Commands.{writes_and_puts}
use Rattle.command_compile.specs.Files.{code_name, compiled_named, compiled_line, writes_code, compiles_under, compiles}
use Rattle.command_compile.specs.Laws.{SureCompiled}
use Rattle.command_plays.specs.Scripts.{plays_file}
use Rattle.command_files.specs.CheckLaws.{SureLoaded}
use Rattle.command_plays.specs.Laws.{SurePlays}
use Rattle.command_meaning.specs.Units.{code_of, UnitsPass}
use Rattle.command_meaning.specs.Files.{PlaysFile}
use Rattle.command_meaning.specs.CodeEnds.{CheckedPlaysHaveNoFault}
use Rattle.command_meaning.specs.Once.{StartsPlayOnce, StartsPlayOnceWhereNothingWaits}
use Rattle.area_rules.specs.Area.{empty_area}
use Rattle.play_meaning.specs.Together as together
use Rattle.play_worlds.specs.Worlds.{start_of}
use Rattle.command_plays.specs.Scripts.{listed}
use Rattle.nwq_value.specs.Limits.{default_instruction_limit, default_entry_limit, default_until}
use Rattle.world_rules.specs.Plays.{Done, StoppedInside}
use Rattle.command_meaning.specs.Runs.{answer_by, FewStepsEndAsMeant, UnstoppedRunsEndAsMeant, StoppedRunsBeginAsMeant}
use Rattle.command_meaning.specs.Scripts.{HoldBytes, ScriptsHaveUnits}
use Rattle.nwq_top.specs.Accepting.{HasHeader}
use Rattle.nwq_top.specs.Refusing.{RefusesHeader, RefusesSource, IsRefused}
use Rattle.nwq_top.specs.Runs.{AcceptsScript, RefusesScript, of_header, of_source, ScriptComes, refused, accepted, IsCompiled}
use Rattle.nwq_top.specs.WordLaws.{RunsMean, CompilesMean}
use Rattle.nwq_top.proofs.Headers.{header_does, header_refuses, header_comes, is_table}
use Rattle.nwq_top.proofs.Sources.{IsMade, source_does, source_refuses, source_comes}
use Rattle.nwq_top.proofs.Listing.{compiles as compiles_so}

-- a play that is done wasn't stopped
pub not_stopped : Done ≡ StoppedInside → ⊥
not_stopped e = absurd cc

pub source_bytes : (c : Contents) → ContentsAreBytes c → HoldBytes c
unfolding ContentsAreBytes
source_bytes c held name bytes is = held (file_name name) bytes is

-- a work that has one outcome and was done is refused where it can be
pub as_refused : (w : Work Finished) → IsSure w → (why : Refusal) (c d c' : Contents) (t t' : List ℕ) (r : Result Finished Status) → (IsCut r → ⊥)
    → (IsCut {A = Finished} (Err (status_of why)) → ⊥) → Does w c t (Err (status_of why)) d (t ++ line_of why) → Does w c t r c' t' → IsRefused why d t r c' t'
as_refused w sure why c d c' t t' r whole plain could does =
    let same = agree w sure r (Err (status_of why)) c c' d t t' (t ++ line_of why) whole plain does could in
    record { answer = same.answer; taken = same.taken; contents = same.contents }

-- ---- a script is compiled, and something is done with its file

module _ (pass : UnitsPass) (units : ScriptsHaveUnits) (least : LeastIsTheKept) (reads : HeadersHaveTables)
    (own : BuiltInIsTable) (tables : SureTables) (compiled : SureCompiled) (loaded : SureLoaded) where
  module _ (next : EngineTable → List ℕ → Work Finished) (each : (table : EngineTable) (bytes : List ℕ) → IsSure (next table bytes)) (header script : List ℕ)
      (c : Contents) (t : List ℕ) (r : Result Finished Status) (c' : Contents) (t' : List ℕ) (held : ContentsAreBytes c) (whole : IsCut r → ⊥) where
    sure_work : IsSure (then (table_of_word header) (λ table. then (compiled_named table script) (next table)))
    sure_work =
        sure_then (table_of_word header) (λ table. then (compiled_named table script) (next table)) (tables header)
        (λ table. sure_then (compiled_named table script) (next table) (compiled table script) (each table))

    source_ends : (table : EngineTable) → HasHeader c header table
        → Follows (next table) (IsMade table c script) (RefusesSource table c script) c t r c' t' → ScriptComes header script c
    source_ends table has (follows bytes made does) =
        let kept : IsTable table = is_table reads own c header table held has in
        accepted table made.unit (record { has_header = has; compiles = compiles_so pass units loaded table kept c script bytes (source_bytes c held) made })
    source_ends table has (ends why is p q o) = refused why (of_source table why has is)
    source_ends table has (cuts x) = absurd (whole x)

    header_ends : Follows (λ table. then (compiled_named table script) (next table)) (HasHeader c header) (RefusesHeader c header) c t r c' t' → ScriptComes header script c
    header_ends (follows table has does) =
        source_ends table has (then_follows (next table) (IsMade table c script) (RefusesSource table c script) c t r c' t' (compiled_named table script)
        (source_comes table c t script least) does)
    header_ends (ends why is p q o) = refused why (of_header why is)
    header_ends (cuts x) = absurd (whole x)

    pub script_comes : Does (then (table_of_word header) (λ table. then (compiled_named table script) (next table))) c t r c' t' → ScriptComes header script c
    script_comes does =
        header_ends (then_follows (λ table. then (compiled_named table script) (next table)) (HasHeader c header) (RefusesHeader c header) c t r c' t' (table_of_word header)
        (header_comes c t header) does)

    could_refuse : (why : Refusal) → RefusesScript header script c why
        → Does (then (table_of_word header) (λ table. then (compiled_named table script) (next table))) c t (Err (status_of why)) c (t ++ line_of why)
    could_refuse why (of_header _ is) =
        then_err (table_of_word header) (λ table. then (compiled_named table script) (next table)) (status_of why) c c t (t ++ line_of why) (header_refuses c t header why is)
    could_refuse why (of_source table _ has is) =
        then_ok (table_of_word header) (λ x. then (compiled_named x script) (next x)) table c c c t t (t ++ line_of why) (Err (status_of why)) (header_does c t header table has)
        (then_err (compiled_named table script) (next table) (status_of why) c c t (t ++ line_of why) (source_refuses table c t script least why is))

    pub script_refused : (why : Refusal) → RefusesScript header script c why
        → Does (then (table_of_word header) (λ table. then (compiled_named table script) (next table))) c t r c' t' → IsRefused why c t r c' t'
    script_refused why is does =
        as_refused (then (table_of_word header) (λ table. then (compiled_named table script) (next table))) sure_work why c c c' t t' r whole (refusal_not_cut why) (could_refuse why is) does

    pub script_goes : (table : EngineTable) (unit : TypedUnit) → AcceptsScript header script c table unit
        → Does (then (table_of_word header) (λ x. then (compiled_named x script) (next x))) c t r c' t' → Does (next table (unit_file unit)) c t r c' t'
    script_goes table unit h does =
        then_known (compiled_named table script) (next table) (compiled table script) (unit_file unit) c c c' t t t' r whole
        (source_does table c t script unit h.compiles.script h.compiles.small)
        (then_known (table_of_word header) (λ x. then (compiled_named x script) (next x)) (tables header) table c c c' t t t' r whole (header_does c t header table h.has_header) does)

  -- ---- run

  module _ (plays : SurePlays) (few : FewStepsEndAsMeant) (unstopped : UnstoppedRunsEndAsMeant) (stopped : StoppedRunsBeginAsMeant) (once : StartsPlayOnce)
      (nothing_waits : StartsPlayOnceWhereNothingWaits) (no_fault : CheckedPlaysHaveNoFault) where
    pub runs_mean : RunsMean
    runs_mean cell header script c t r c' t' held whole does =
        let each : (table : EngineTable) (bytes : List ℕ) → IsSure (plays_file cell table script (code_name script) bytes) = λ table. plays cell table script (code_name script) in
        record {
          comes = script_comes (λ table. plays_file cell table script (code_name script)) each header script c t r c' t' held whole does;
          refused = λ why is. script_refused (λ table. plays_file cell table script (code_name script)) each header script c t r c' t' held whole why is does;
          played = λ table unit h.
              let kept : IsTable table = is_table reads own c header table held h.has_header in
              let file : PlaysFile cell table script unit c t r c' t' = record {
                table = kept;
                unit = units table c script unit (source_bytes c held) h.compiles.script;
                small = h.compiles.small;
                file = code_name script;
                does = script_goes (λ x. plays_file cell x script (code_name script)) each header script c t r c' t' held whole table unit h does;
              } in
              record {
                few = few cell table script unit c t r c' t' file whole;
                complete = λ done. let told = few cell table script unit c t r c' t' file whole (λ stopped. not_stopped (sym done ∙ stopped)) in told.answer ∙ ap answer_by done;
                unstopped = unstopped cell table script unit c t r c' t' file whole;
                stopped = stopped cell table script unit c t r c' t' file whole;
                once = once cell table script unit;
                nothing_waits = nothing_waits cell table script unit;
                no_fault = no_fault cell table (listed script (code_of unit)) default_instruction_limit (together.whole default_entry_limit default_until) empty_area [] (start_of script ∷ []) 2
                    kept (h.compiles.passes.stacked, tt);
              };
        }

  -- ---- compile

  sure_code : (script file : List ℕ) → IsSure (writes_code script file)
  unfolding writes_and_puts
  sure_code script file =
      sure_then (writes (code_name script) file) (λ done. puts (compiled_line (code_name script) (length file))) (sure_writes (code_name script) file)
      (λ done. sure_puts (compiled_line (code_name script) (length file)))

  written_so : (script : List ℕ) (unit : TypedUnit) (c : Contents) (t : List ℕ) (r : Result Finished Status) (c' : Contents) (t' : List ℕ) → (IsCut r → ⊥)
      → Does (writes_code script (unit_file unit)) c t r c' t' → IsCompiled script unit c t r c' t'
  unfolding writes_and_puts writes puts
  written_so script unit c t r c' t' whole (inl x) = absurd (whole x.0)
  written_so script unit c t r c' t' whole (inr (inl x)) = absurd (whole x.0)
  written_so script unit c t r c' t' whole (inr (inr (is, s))) = record { answer = is; taken = s.1; contents = s.0 }

  as_work : (header script : List ℕ) (c : Contents) (t : List ℕ) (r : Result Finished Status) (c' : Contents) (t' : List ℕ) → Does (compiles header script) c t r c' t'
      → Does (then (table_of_word header) (λ table. then (compiled_named table script) (writes_code script))) c t r c' t'
  unfolding compiles compiles_under
  as_work header script c t r c' t' does = does

  pub compiles_mean : CompilesMean
  compiles_mean header script c t r c' t' held whole done =
      let does = as_work header script c t r c' t' done in
      let each : (table : EngineTable) (file : List ℕ) → IsSure (writes_code script file) = λ table file. sure_code script file in
      record {
        comes = script_comes (λ table. writes_code script) each header script c t r c' t' held whole does;
        refused = λ why is. script_refused (λ table. writes_code script) each header script c t r c' t' held whole why is does;
        written = λ table unit h. written_so script unit c t r c' t' whole
            (script_goes (λ x. writes_code script) each header script c t r c' t' held whole table unit h does);
      }
