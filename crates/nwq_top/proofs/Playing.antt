-- What `play` does.
use Rattle.std.proofs.Common.{◌≡◌, ℕ, List, ◌++◌, map, Result, Ok, Err, refl, sym, ap, ◌∙◌, inl, inr, append_assoc}
use Rattle.nwq_value.specs.Engine.{EngineTable, IsTable}
use Rattle.nwq_outside.specs.Outside.{Contents, ContentsAreBytes, with_content}
use Rattle.gff_write.specs.declared.fault.WriteFault.{WriteFault}
use Rattle.gff_write.specs.File.{written, outcome_of}
use Rattle.area_rules.specs.Area.{PlainArea}
use Rattle.area_back.specs.Back.{tree_back}
use Rattle.world_rules.specs.Trace.{trace_text}
use Rattle.world_rules.specs.Plays.{PlayEnd, Done, OutOfEntries, StoppedInside, Paused, Played}
use Rattle.play_meaning.specs.EndTexts.{source_end_text}
use Rattle.source_meaning.specs.Evaluation.{Deferred}
use Rattle.plan_text.specs.declared.plan.Plan.{Plan}
use Rattle.machine_rules.specs.Machine.{Script}
use Rattle.world_rules.specs.Pure.{CellLookup}
use Rattle.source_meaning.specs.Scripts.{Listed, Setting}
use Rattle.source_laws.specs.Executing.{script_of}
use Rattle.typing_laws.specs.FaultLaws.{LeastIsTheKept}
use Rattle.engine_table.specs.KeptTables.{HeadersHaveTables, BuiltInIsTable}
use Rattle.play_save.specs.Written.{CodeIsBytes}
use Rattle.command_work.specs.declared.status.Status.{Status}
use Rattle.command_work.specs.Refusal.{Refusal}
use Rattle.command_work.specs.Work.{Work, Puts, then, puts, writes, IsCut, Does, Finished}
use Rattle.command_work.specs.Comes.{refusal_not_cut}
use Rattle.command_sources.specs.Headers.{table_of_word}
use Rattle.command_sources.specs.Laws.{SureTables}
use Rattle.play_inputs.specs.Areas.{area_named}
use Rattle.play_inputs.specs.Finals.{final_by, final_written}
use Rattle.play_inputs.specs.Laws.{SurePlans, SureAreas}
use Rattle.command_files.specs.CheckLaws.{SureLoaded}
use Rattle.play_inputs.specs.ListingLaws.{SureListed}
use Rattle.command_play.specs.Games.{ends_by, plays_plan, plays_area, plays_scripts, plays_under, plays}
use Rattle.command_play.specs.Laws.{SurePlays}
use Rattle.command_meaning.specs.Units.{UnitsPass}
use Rattle.command_meaning.specs.Scripts.{ScriptsHaveUnits}
use Rattle.command_meaning.specs.CodeEnds.{CheckedPlaysHaveNoFault}
use Rattle.play_meaning.specs.Together as together
use Rattle.play_worlds.specs.Worlds.{begun_by}
use Rattle.nwq_top.specs.SourcePlans.{listing_of, source_plan_played, code_plan_played, PlaysSources, FewStepsPlayAsMeant, UnstoppedPlansPlayAsMeant, StoppedPlansBeginAsMeant}
use Rattle.nwq_top.specs.Accepting.{HasHeader, ReadsArea}
use Rattle.nwq_top.specs.Refusing.{IsRefused}
use Rattle.nwq_top.specs.Plays.{AcceptsPlay, AcceptsSources, RefusesPlay, PlayComes, refused, accepted, IsDone, MeansSources}
use Rattle.nwq_top.specs.WordLaws.{PlaysMean}
use Rattle.nwq_top.proofs.Headers.{header_does, header_refuses, header_comes, is_table}
use Rattle.nwq_top.proofs.PlansAndAreas.{area_does, area_refuses, area_comes}
use Rattle.nwq_top.proofs.Listing.{are_scripts}
use Rattle.nwq_top.proofs.PlayFiles.{ReadsHeaderBy, ReadsAreaBy, FilesCome, are_refused, are_accepted, files_come, files_refuse, files_go}
use Rattle.nwq_top.proofs.ListedUnits.{listed_units}
use Rattle.nwq_top.proofs.NoFaults.{lines_are_stacked}
use Rattle.nwq_top.proofs.Running.{not_stopped, source_bytes, as_refused}

module _ (bytes_of : CodeIsBytes) (pass : UnitsPass) (units : ScriptsHaveUnits) (least : LeastIsTheKept) (reads : HeadersHaveTables) (own : BuiltInIsTable)
    (plans : SurePlans) (tables : SureTables) (loaded : SureLoaded) (lists : SureListed) (areas : SureAreas) (games : SurePlays) where
  module _ (cell : CellLookup) (header area plan to : List ℕ) (c : Contents) (t : List ℕ) (r : Result Finished Status) (c' : Contents) (t' : List ℕ)
      (held : ContentsAreBytes c) (whole : IsCut r → ⊥) where
    abbrev header_reading : ReadsHeaderBy (λ table. table) (table_of_word header) header (λ d. HasHeader d header)
    header_reading = record {
      does = λ d k table has. header_does d k header table has;
      refuses = λ d k why is. header_refuses d k header why is;
      comes = λ d k s d' k' does. header_comes d k header s d' k' does;
      has = λ d table has. has;
      of = λ d table has. record { header = table; has = has; same = refl };
      sure = tables header;
    }

    abbrev area_reading : ReadsAreaBy (area_named area) area (λ d. ReadsArea d area)
    area_reading = record {
      does = λ d k a has. area_does d k area a has;
      refuses = λ d k why is. area_refuses d k area why is;
      comes = λ d k s d' k' does. area_comes d k area s d' k' does;
      sure = areas area;
    }

    abbrev final : EngineTable → Plan → List Script → PlainArea → Work Finished
    final table p scripts a = plays_plan cell table a p scripts to

    as_comes : FilesCome (λ table. table) (λ d. HasHeader d header) (λ d. ReadsArea d area) header area plan c → PlayComes header area plan c
    as_comes (are_refused why left is) = refused why left is
    as_comes (are_accepted table p scripts a left k) =
        accepted table p scripts a left (record { reads_plan = k.reads_plan; has_header = k.has_header; lists = k.lists; reads_area = k.reads_area })

    play_comes : Does (plays cell header area plan to) c t r c' t' → PlayComes header area plan c
    unfolding plays plays_under plays_scripts plays_area
    play_comes does =
        as_comes (files_come bytes_of pass units least reads own plans loaded lists (λ table. table) header area plan (table_of_word header) (λ d. HasHeader d header) header_reading
        (area_named area) (λ d. ReadsArea d area) area_reading final c t r c' t' held whole does)

    play_refused : (why : Refusal) (left : Contents) → RefusesPlay header area plan c why left → Does (plays cell header area plan to) c t r c' t' → IsRefused why left t r c' t'
    unfolding plays plays_under plays_scripts plays_area
    play_refused why left is does =
        as_refused (plays cell header area plan to) (games cell header area plan to) why c left c' t t' r whole (refusal_not_cut why)
        (files_refuse bytes_of pass units least reads own plans loaded lists (λ table. table) header area plan (table_of_word header) (λ d. HasHeader d header) header_reading
        (area_named area) (λ d. ReadsArea d area) area_reading final c t why left is) does

    play_goes : (table : EngineTable) (p : Plan) (scripts : List Script) (a : PlainArea) (left : Contents) → AcceptsPlay header area plan c table p scripts a left
        → Does (plays cell header area plan to) c t r c' t' → Does (plays_plan cell table a p scripts to) left t r c' t'
    unfolding plays plays_under plays_scripts plays_area
    play_goes table p scripts a left h does =
        files_go bytes_of pass units least reads own plans loaded lists (λ x. x) header area plan (table_of_word header) (λ d. HasHeader d header) header_reading
        (area_named area) (λ d. ReadsArea d area) area_reading final c t r c' t' held whole table p scripts a left
        (record { reads_plan = h.reads_plan; has_header = h.has_header; lists = h.lists; reads_area = h.reads_area }) does

  -- the area of a play that is done is written, and then its end is told
  area_done : (to text bytes : List ℕ) (o : Result (List ℕ) WriteFault) (c : Contents) (t : List ℕ) (r : Result Finished Status) (c' : Contents) (t' : List ℕ)
      → o ≡ Ok bytes → (IsCut r → ⊥) → Does (then (final_by to o) (λ done. puts text)) c t r c' t'
      → (r ≡ Ok tt) × (c' ≡ with_content c to bytes) × (t' ≡ t ++ text)
  unfolding writes puts
  area_done to text bytes (Ok file) c t r c' t' same whole (inl x) = absurd (whole x.0)
  area_done to text bytes (Ok file) c t r c' t' same whole (inr (inl x)) = absurd (whole x.0)
  area_done to text bytes (Ok file) c t r c' t' same whole (inr (inr (is, s))) =
      let one : file ≡ bytes = cc in (is, s.0 ∙ ap (λ x. with_content c to x) one, s.1)
  area_done to text bytes (Err fault) c t r c' t' same whole does = absurd cc

  play_done : (to : List ℕ) (s : Setting) (count : ℕ) (p : Played Deferred) (bytes : List ℕ) (e : PlayEnd) (c : Contents) (t : List ℕ) (r : Result Finished Status)
      (c' : Contents) (t' : List ℕ) → e ≡ Done → outcome_of (written (tree_back p.last.world.area)) ≡ Ok bytes → (IsCut r → ⊥)
      → Does (Puts (trace_text p.last.trace) (ends_by e to p.last.world.area (source_end_text s count p))) c t r c' t' → IsDone to s count p bytes c t r c' t'
  unfolding final_written
  play_done to s count p bytes Done c t r c' t' same file whole (inl x) = absurd (whole x.0)
  play_done to s count p bytes Done c t r c' t' same file whole (inr does) =
      let k = area_done to (source_end_text s count p) bytes (outcome_of (written (tree_back p.last.world.area))) c (t ++ trace_text p.last.trace) r c' t' file whole does in
      record { answer = k.0; taken = k.2 ∙ append_assoc t (trace_text p.last.trace) (source_end_text s count p); contents = k.1 }
  play_done to s count p bytes OutOfEntries c t r c' t' same file whole does = absurd cc
  play_done to s count p bytes StoppedInside c t r c' t' same file whole does = absurd cc
  play_done to s count p bytes Paused c t r c' t' same file whole does = absurd cc

  module _ (few : FewStepsPlayAsMeant) (unstopped : UnstoppedPlansPlayAsMeant) (stopped : StoppedPlansBeginAsMeant) (no_fault : CheckedPlaysHaveNoFault) where
    sources_mean : (cell : CellLookup) (header area plan to : List ℕ) (c : Contents) (t : List ℕ) (r : Result Finished Status) (c' : Contents) (t' : List ℕ)
        → ContentsAreBytes c → (IsCut r → ⊥) → Does (plays cell header area plan to) c t r c' t'
        → (table : EngineTable) (p : Plan) (listed : List Listed) (a : PlainArea) (left : Contents)
        → AcceptsSources header area plan c table p listed a left → MeansSources cell table a p listed to left t r c' t'
    sources_mean cell header area plan to c t r c' t' held whole does table p listed a left h =
        let kept : IsTable table = is_table reads own c header table held h.has_header in
        let all : AcceptsPlay header area plan c table p (map script_of listed) a left =
        record { reads_plan = h.reads_plan; has_header = h.has_header; lists = are_scripts table p.scripts c left listed h.lists; reads_area = h.reads_area } in
        let played : PlaysSources cell table a p listed to left t r c' t' = record {
          table = kept;
          units = λ n l is. let one = listed_units table bytes_of units p.scripts c left listed (source_bytes c held) h.lists n l is in one.unit;
          does = play_goes cell header area plan to c t r c' t' held whole table p (map script_of listed) a left all does;
        } in
        record {
          few = few cell table a p listed to left t r c' t' played;
          complete = λ n bytes large done file.
              let does = few cell table a p listed to left t r c' t' played n large (λ stopped. not_stopped (sym done ∙ stopped)) in
              play_done to (listing_of cell table listed) (code_plan_played cell table a p listed).last.count (source_plan_played cell table a p listed n) bytes
              (source_plan_played cell table a p listed n).ending left t r c' t' done file whole does.does;
          unstopped = unstopped cell table a p listed to left t r c' t' played;
          stopped = stopped cell table a p listed to left t r c' t' played;
        }

    pub plays_mean : PlaysMean
    plays_mean cell header area plan to c t r c' t' held whole does = record {
      comes = play_comes cell header area plan to c t r c' t' held whole does;
      refused = λ why left is. play_refused cell header area plan to c t r c' t' held whole why left is does;
      played = λ table p scripts a left h. play_goes cell header area plan to c t r c' t' held whole table p scripts a left h does;
      no_fault = λ table p scripts a left h.
          no_fault cell table scripts p.limit (together.whole p.entries p.until) a p.random (map (begun_by a) p.events) p.version
          (is_table reads own c header table held h.has_header) (lines_are_stacked table p.scripts c left scripts h.lists);
      meant = sources_mean cell header area plan to c t r c' t' held whole does;
    }
